-- What the lines of an antifuse file do, one after the other, and what may be wrong with each. The rules are this project's own.
use Rattle.std.specs.Prelude.{ℕ, Bool, false, not, ◌&&◌, ◌||◌, ◌==◌, nat_le, nat_lt, ◌+◌, if◌then◌else◌, List, [], ◌∷◌, ◌++◌, length, Option, Some, None, Result, Ok, Err}
use Rattle.std.specs.List.{list_any}
use Rattle.std.specs.Str.{bytes_eq}
use Rattle.act1_base.specs.Rising.{is_before}
use Rattle.act1_base.specs.Texts.{LineRules, reading}
use Rattle.act1_base.specs.Words.{words_of}
use Rattle.act1_base.specs.declared.texts.TextFault.{TextFault}
use Rattle.act1_device.specs.declared.device.Device.{Device}
use Rattle.act1_fuses.specs.declared.fault.FuseKind.{FuseKind}
use Rattle.act1_fuses.specs.declared.fault.FuseKind.TheVariants as kind
use Rattle.act1_fuses.specs.declared.form.FuseLine.{FuseLine}
use Rattle.act1_fuses.specs.declared.form.FuseLine.TheVariants as form
use Rattle.act1_fuses.specs.declared.form.FuseState.{FuseState}
use Rattle.act1_fuses.specs.declared.fuses.FuseFile.{FuseFile}
use Rattle.act1_fuses.specs.declared.fuses.Port.{Port}
use Rattle.act1_fuses.specs.Forms.{form_of}
use Rattle.act1_fuses.specs.Given.{given_of, is_own_name}
use Rattle.act1_fuses.specs.SiteTest.{is_site}

-- the place of a line's kind among the kinds, which are numbered in the order in which they stand in a file
abbrev pub place_of : FuseLine → ℕ
place_of form.Header = 1
place_of (form.Device name) = 2
place_of (form.Clock name) = 3
place_of (form.In pad name) = 4
place_of (form.Out pad name) = 5
place_of (form.Start row column init name) = 6
place_of (form.Fuse numbers site) = 7
place_of form.End = 8

-- the first two kinds stand once, one after the other; any other kind follows these and kinds before it, and inputs, outputs, starts and antifuses follow their own
abbrev pub may_follow : ℕ → ℕ → Bool
may_follow before place = if nat_le place 2 then before + 1 == place else nat_le 2 before && (nat_lt before place || (before == place && nat_le 4 place && nat_le place 7))

-- a start or an antifuse comes after the one before, by its numbers
abbrev pub comes_after : FuseState → ℕ → List ℕ → Bool
comes_after s place numbers = is_before (if s.place == place then s.last else []) numbers

-- one of the ports has the pad
abbrev pub uses_pad : ℕ → List Port → Bool
uses_pad pad ports = list_any (λ (port : Port). port.pad == pad) ports

-- the device has the pad, and no line so far uses it
abbrev pub is_free_pad : Device → FuseFile → ℕ → Bool
is_free_pad dev f pad = nat_le pad 65535 && nat_lt pad (length dev.pads) && not (uses_pad pad f.ins || uses_pad pad f.outs)

-- the first of these tests that fails gives its kind
abbrev pub first_failing : List (Bool × FuseKind) → Option FuseKind
first_failing [] = None
first_failing (rule ∷ rules) = if rule.0 then first_failing rules else Some rule.1

-- the rules of a line besides that of its place, each with the kind of its fault
abbrev pub rules_of : Device → FuseState → FuseLine → List (Bool × FuseKind)
rules_of dev s form.Header = []
rules_of dev s (form.Device name) = (bytes_eq name dev.name, kind.Device) ∷ []
rules_of dev s (form.Clock name) = []
rules_of dev s (form.In pad name) = (is_free_pad dev s.file pad, kind.Pad) ∷ (is_own_name (given_of s.file) s.file.clock (form.In pad name), kind.Name) ∷ []
rules_of dev s (form.Out pad name) = (is_free_pad dev s.file pad, kind.Pad) ∷ (is_own_name (given_of s.file) s.file.clock (form.Out pad name), kind.Name) ∷ []
rules_of dev s (form.Start row column init name) =
    (comes_after s (place_of (form.Start row column init name)) (row ∷ column ∷ []), kind.Order)
    ∷ (nat_lt row dev.rows && nat_lt column dev.columns, kind.Site)
    ∷ (is_own_name (given_of s.file) s.file.clock (form.Start row column init name), kind.Name)
    ∷ []
rules_of dev s (form.Fuse numbers None) = (comes_after s (place_of (form.Fuse numbers None)) numbers, kind.Order) ∷ (false, kind.Site) ∷ []
rules_of dev s (form.Fuse numbers (Some site)) = (comes_after s (place_of (form.Fuse numbers (Some site))) numbers, kind.Order) ∷ (is_site dev site, kind.Site) ∷ []
rules_of dev s form.End = []

-- what is wrong with a line: the least kind
abbrev pub fault_of : Device → FuseState → FuseLine → Option FuseKind
fault_of dev s line = first_failing ((may_follow s.place (place_of line), kind.Order) ∷ rules_of dev s line)

-- the file with what the line says
abbrev pub file_with : FuseFile → FuseLine → FuseFile
file_with f form.Header = f
file_with f (form.Device name) = record f { device = name }
file_with f (form.Clock name) = record f { clock = Some name }
file_with f (form.In pad name) = record f { ins = f.ins ++ (record { pad = pad; name = name }) ∷ [] }
file_with f (form.Out pad name) = record f { outs = f.outs ++ (record { pad = pad; name = name }) ∷ [] }
file_with f (form.Start row column init name) = record f { starts = f.starts ++ (record { spot = record { row = row; column = column }; init = init; name = name }) ∷ [] }
file_with f (form.Fuse numbers None) = f
file_with f (form.Fuse numbers (Some site)) = record f { sites = f.sites ++ site ∷ [] }
file_with f form.End = f

-- the numbers that order the line among those of its kind
abbrev pub numbers_of : FuseLine → List ℕ
numbers_of (form.Start row column init name) = row ∷ column ∷ []
numbers_of (form.Fuse numbers site) = numbers
numbers_of _ = []

-- the state after a line that keeps the rules
abbrev pub state_with : FuseState → FuseLine → FuseState
state_with s line = record { place = place_of line; last = numbers_of line; file = file_with s.file line }

-- the state, unless there is a fault
abbrev pub unless : Option FuseKind → FuseState → Result FuseState FuseKind
unless None s = Ok s
unless (Some k) s = Err k

-- what a line of a form does
abbrev pub step : Device → FuseState → FuseLine → Result FuseState FuseKind
step dev s line = unless (fault_of dev s line) (state_with s line)

-- what the words of a line do
abbrev pub step_of_words : Device → FuseState → Option FuseLine → Result FuseState FuseKind
step_of_words dev s None = Err kind.Line
step_of_words dev s (Some line) = step dev s line

-- no line so far
abbrev pub first_state : FuseState
first_state = record { place = 0; last = []; file = record { device = []; clock = None; ins = []; outs = []; starts = []; sites = [] } }

-- the last line was `end`
abbrev pub has_ended : FuseState → Bool
has_ended s = s.place == place_of form.End

-- the rules of antifuse files of a device: after `end` no line may stand, and no text ends before it
abbrev pub fuse_rules : Device → LineRules FuseState FuseKind
fuse_rules dev = record {
  start = first_state;
  after = λ s line. if has_ended s then Err kind.End else step_of_words dev s (form_of (words_of line));
  unended = λ s. if has_ended s then kind.End else kind.Line;
  end = λ s. if has_ended s then Ok s else Err kind.End;
}

-- the state after the lines of a text, or its first faulty line and the least kind of what is wrong with it
abbrev pub fuse_reading : Device → List ℕ → Result FuseState (TextFault FuseKind)
fuse_reading dev bytes = reading (fuse_rules dev) bytes

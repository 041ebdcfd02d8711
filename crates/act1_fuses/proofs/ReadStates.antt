-- What the lines so far keep, and what they say.
use Rattle.std.proofs.Common.{ℕ, ◌≡◌, ◌≢◌, ◌<◌, ◌≤◌, ◌==◌, Bool, true, false, not, ◌&&◌, ◌||◌, IsTrue, List, [], ◌∷◌, ◌++◌, length, map, Option, Some, None, Ok, codes, refl, sym, ap, subst, ◌∙◌, arith}
use Rattle.std.specs.Prelude.{All, AllPairs, if◌then◌else◌}
use Rattle.std.proofs.lemmas.List.Elements.{All-from_recursion}
use Rattle.std.proofs.lemmas.Bool.Decides.{nat_tests}
use Rattle.act1_base.specs.Names.{is_name}
use Rattle.act1_base.specs.Rising.{Rises}
use Rattle.act1_device.specs.declared.device.Device.{Device}
use Rattle.act1_device.specs.declared.device.Site.{Site}
use Rattle.act1_device.specs.Order.{SiteIsBefore, site_numbers}
use Rattle.act1_device.specs.Sites.{IsSite}
use Rattle.act1_circuit.specs.declared.circuit.Spot.{Spot}
use Rattle.act1_circuit.specs.Spots.{SpotIsBefore}
use Rattle.act1_fuses.specs.declared.fault.FuseKind.{FuseKind}
use Rattle.act1_fuses.specs.declared.form.FuseLine.{FuseLine}
use Rattle.act1_fuses.specs.declared.form.FuseLine.TheVariants as form
use Rattle.act1_fuses.specs.declared.form.FuseState.{FuseState}
use Rattle.act1_fuses.specs.declared.fuses.FuseFile.{FuseFile}
use Rattle.act1_fuses.specs.declared.fuses.Port.{Port}
use Rattle.act1_fuses.specs.declared.fuses.StartAt.{StartAt}
use Rattle.act1_fuses.specs.Reading.{may_follow, first_failing, fault_of, state_with, unless}
use Rattle.act1_fuses.specs.Rules.{port_names, start_names, IsApart, IsStart}
use Rattle.act1_fuses.specs.Text.{clock_lines, port_words, start_words, site_words, file_lines}
use Rattle.act1_fuses.proofs.Pushes.{last_of}

-- the names of a file, those of inputs and latches, and the ports
abbrev pub names_of : FuseFile → List (List ℕ)
names_of f = port_names f.ins ++ port_names f.outs ++ start_names f.starts

abbrev pub sources_of : FuseFile → List (List ℕ)
sources_of f = port_names f.ins ++ start_names f.starts

abbrev pub spots_of : List StartAt → List Spot
spots_of starts = map (λ (start : StartAt). start.spot) starts

abbrev pub Different : List (List ℕ) → Type 0
Different names = AllPairs (λ (a b : List ℕ). a ≢ b) names

abbrev pub OtherPads : List Port → Type 0
OtherPads ports = AllPairs (λ (a b : Port). a.pad ≢ b.pad) ports

abbrev pub AreNames : List (List ℕ) → Type 0
AreNames names = All (λ (name : List ℕ). IsTrue (is_name name)) names

abbrev pub HasPads : Device → List Port → Type 0
HasPads dev ports = All (λ (port : Port). port.pad < length dev.pads) ports

-- the rules of a file but that of its device, over the lists that they speak of
pub record Kept (dev : Device) (tick : Option (List ℕ)) (all sources outs : List (List ℕ)) (ports : List Port) (begins : List StartAt) (fuses : List Site) : Type 0 where
  pub names : AreNames all
  pub inputs : Different sources
  pub outputs : Different outs
  pub clock : IsApart tick all
  pub pads : HasPads dev ports
  pub once : OtherPads ports
  pub starts : All (IsStart dev) begins
  pub spots_rise : Rises SpotIsBefore (spots_of begins)
  pub sites : All (IsSite dev) fuses
  pub sites_rise : Rises SiteIsBefore fuses

abbrev pub KeptBy : Device → FuseFile → Type 0
KeptBy dev f = Kept dev f.clock (names_of f) (sources_of f) (port_names f.outs) (f.ins ++ f.outs) f.starts f.sites

-- the numbers of a spot
abbrev pub spot_numbers : Spot → List ℕ
spot_numbers spot = spot.row ∷ spot.column ∷ []

-- what the lines so far keep: the rules, no lines of later kinds, and the numbers of the last start or site
pub record IsGood (dev : Device) (s : FuseState) : Type 0 where
  pub kept : KeptBy dev s.file
  pub device : 2 ≤ s.place → s.file.device ≡ dev.name
  pub no_clock : s.place < 3 → s.file.clock ≡ None
  pub no_ins : s.place < 4 → s.file.ins ≡ []
  pub no_outs : s.place < 5 → s.file.outs ≡ []
  pub no_starts : s.place < 6 → s.file.starts ≡ []
  pub no_sites : s.place < 7 → s.file.sites ≡ []
  pub start_last : s.place ≡ 6 → s.last ≡ last_of spot_numbers (spots_of s.file.starts)
  pub site_last : s.place ≡ 7 → s.last ≡ last_of site_numbers s.file.sites

abbrev pub header : List (List ℕ)
header = codes "act1" ∷ codes "fuses" ∷ codes "1" ∷ []

-- the lines before `end`
abbrev pub body : FuseFile → List (List (List ℕ))
body f =
    header ∷ (codes "device" ∷ f.device ∷ []) ∷ clock_lines f.clock
    ++ map (port_words (codes "in")) f.ins ++ map (port_words (codes "out")) f.outs ++ map start_words f.starts ++ map site_words f.sites

abbrev pub said_at : ℕ → FuseFile → List (List (List ℕ))
said_at place f = if place == 0 then [] else if place == 1 then header ∷ [] else if place == 8 then file_lines f else body f

-- the lines so far
abbrev pub said : FuseState → List (List (List ℕ))
said s = said_at s.place s.file

pub is_not : (a b : ℕ) → a ≢ b → (a == b) ≡ false
is_not a b h = grind (arith, nat_tests)

said_first : (place : ℕ) (f : FuseFile) → place ≡ 0 → said_at place f ≡ []
said_first place f e = ap (λ (p : ℕ). said_at p f) e

said_second : (place : ℕ) (f : FuseFile) → place ≡ 1 → said_at place f ≡ header ∷ []
said_second place f e = ap (λ (p : ℕ). said_at p f) e

pub said_inside : (place : ℕ) (f : FuseFile) → 2 ≤ place → place ≤ 7 → said_at place f ≡ body f
said_inside place f low high = rw (is_not place 0 (λ e. omega arith), is_not place 1 (λ e. omega arith), is_not place 8 (λ e. omega arith)) refl

pub both : (a b : Bool) → IsTrue (a && b) → IsTrue a × IsTrue b
both true b h = (refl, h)
both false b h = cc

pub neither : (a b : Bool) → IsTrue (not (a || b)) → (a ≡ false) × (b ≡ false)
neither true b h = cc
neither false true h = cc
neither false false h = (refl, refl)

pub passed : (b : Bool) (k : FuseKind) (rules : List (Bool × FuseKind)) → first_failing ((b, k) ∷ rules) ≡ None → IsTrue b × (first_failing rules ≡ None)
passed true k rules h = (refl, h)
passed false k rules h = cc

pub stepped : (dev : Device) (s u : FuseState) (l : FuseLine) (fault : Option FuseKind) → fault_of dev s l ≡ fault → unless fault (state_with s l) ≡ Ok u → (fault_of dev s l ≡ None) × (state_with s l ≡ u)
stepped dev s u l None e h = (e, cc)
stepped dev s u l (Some k) e h = cc

-- what a line that keeps the rules leaves
abbrev pub Next : Device → FuseState → FuseLine → List (List ℕ) → Type 0
Next dev s l words = IsGood dev (state_with s l) × (said (state_with s l) ≡ said s ++ words ∷ [])

pub follows_1 : (p : ℕ) → IsTrue (may_follow p 1) → p ≡ 0
follows_1 p h = grind (arith, nat_tests)

pub follows_2 : (p : ℕ) → IsTrue (may_follow p 2) → p ≡ 1
follows_2 p h = grind (arith, nat_tests)

pub follows_3 : (p : ℕ) → IsTrue (may_follow p 3) → p ≡ 2
follows_3 p h = grind (arith, nat_tests)

pub follows_4 : (p : ℕ) → IsTrue (may_follow p 4) → (2 ≤ p) × (p ≤ 4)
follows_4 p h = (grind (arith, nat_tests), grind (arith, nat_tests))

pub follows_5 : (p : ℕ) → IsTrue (may_follow p 5) → (2 ≤ p) × (p ≤ 5)
follows_5 p h = (grind (arith, nat_tests), grind (arith, nat_tests))

pub follows_6 : (p : ℕ) → IsTrue (may_follow p 6) → (2 ≤ p) × (p ≤ 6)
follows_6 p h = (grind (arith, nat_tests), grind (arith, nat_tests))

pub follows_7 : (p : ℕ) → IsTrue (may_follow p 7) → (2 ≤ p) × (p ≤ 7)
follows_7 p h = (grind (arith, nat_tests), grind (arith, nat_tests))

pub follows_8 : (p : ℕ) → IsTrue (may_follow p 8) → (2 ≤ p) × (p ≤ 7)
follows_8 p h = (grind (arith, nat_tests), grind (arith, nat_tests))

module _ (dev : Device) (s : FuseState) (good : IsGood dev s) where
  pub next_header : IsTrue (may_follow s.place 1) → Next dev s form.Header header
  next_header h =
      let at = follows_1 s.place h in (
        record {
          kept = good.kept;
          device = λ p. absurd (omega arith);
          no_clock = λ p. good.no_clock (omega arith);
          no_ins = λ p. good.no_ins (omega arith);
          no_outs = λ p. good.no_outs (omega arith);
          no_starts = λ p. good.no_starts (omega arith);
          no_sites = λ p. good.no_sites (omega arith);
          start_last = λ p. absurd (omega arith);
          site_last = λ p. absurd (omega arith);
        },
        sym (ap (λ (lines : List (List (List ℕ))). lines ++ header ∷ []) (said_first s.place s.file at)),
      )

  pub next_device : (name : List ℕ) → IsTrue (may_follow s.place 2) → name ≡ dev.name → Next dev s (form.Device name) (codes "device" ∷ name ∷ [])
  next_device name h same =
      let at = follows_2 s.place h in
      let c = good.no_clock (omega arith) in
      let i = good.no_ins (omega arith) in
      let o = good.no_outs (omega arith) in
      let st = good.no_starts (omega arith) in
      let si = good.no_sites (omega arith) in (
        record {
          kept = good.kept;
          device = λ p. same;
          no_clock = λ p. c;
          no_ins = λ p. i;
          no_outs = λ p. o;
          no_starts = λ p. st;
          no_sites = λ p. si;
          start_last = λ p. absurd (omega arith);
          site_last = λ p. absurd (omega arith);
        },
        rw (c, i, o, st, si) refl ∙ sym (ap (λ (lines : List (List (List ℕ))). lines ++ (codes "device" ∷ name ∷ []) ∷ []) (said_second s.place s.file at)),
      )

  pub next_clock : (name : List ℕ) → IsTrue (may_follow s.place 3) → IsTrue (is_name name) → Next dev s (form.Clock name) (codes "clock" ∷ name ∷ [])
  next_clock name h fine =
      let at = follows_3 s.place h in
      let c = good.no_clock (omega arith) in
      let i = good.no_ins (omega arith) in
      let o = good.no_outs (omega arith) in
      let st = good.no_starts (omega arith) in
      let si = good.no_sites (omega arith) in
      let none : names_of s.file ≡ [] = rw (i, o, st) refl in
      let now : said s ≡ header ∷ (codes "device" ∷ s.file.device ∷ []) ∷ [] = said_inside s.place s.file (omega arith) (omega arith) ∙ rw (c, i, o, st, si) refl in (
        record {
          kept = record {
            names = good.kept.names;
            inputs = good.kept.inputs;
            outputs = good.kept.outputs;
            clock = (fine, subst (λ (names : List (List ℕ)). All (λ (other : List ℕ). other ≢ name) names) (sym none) (All-from_recursion (λ (other : List ℕ). other ≢ name) [] tt));
            pads = good.kept.pads;
            once = good.kept.once;
            starts = good.kept.starts;
            spots_rise = good.kept.spots_rise;
            sites = good.kept.sites;
            sites_rise = good.kept.sites_rise;
          };
          device = λ p. good.device (omega arith);
          no_clock = λ p. absurd (omega arith);
          no_ins = λ p. i;
          no_outs = λ p. o;
          no_starts = λ p. st;
          no_sites = λ p. si;
          start_last = λ p. absurd (omega arith);
          site_last = λ p. absurd (omega arith);
        },
        rw (i, o, st, si) refl ∙ sym (ap (λ (lines : List (List (List ℕ))). lines ++ (codes "clock" ∷ name ∷ []) ∷ []) now),
      )

  pub next_end : IsTrue (may_follow s.place 8) → Next dev s form.End (codes "end" ∷ [])
  next_end h =
      let at = follows_8 s.place h in (
        record {
          kept = good.kept;
          device = λ p. good.device at.0;
          no_clock = λ p. absurd (omega arith);
          no_ins = λ p. absurd (omega arith);
          no_outs = λ p. absurd (omega arith);
          no_starts = λ p. absurd (omega arith);
          no_sites = λ p. absurd (omega arith);
          start_last = λ p. absurd (omega arith);
          site_last = λ p. absurd (omega arith);
        },
        sym (ap (λ (lines : List (List (List ℕ))). lines ++ (codes "end" ∷ []) ∷ []) (said_inside s.place s.file at.0 at.1)),
      )

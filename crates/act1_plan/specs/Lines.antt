-- The lines of the text of a plan, as a table. The format is this project's own.
use Rattle.std.specs.Prelude.{ℕ, ◌==◌, if◌then◌else◌, List, [], ◌∷◌, ◌++◌, map, Option, Some, None, codes, slice_get}
use Rattle.act1_base.specs.Capped.{at_most}
use Rattle.act1_circuit.specs.declared.circuit.Output.{Output}
use Rattle.act1_circuit.specs.declared.circuit.Source.{Source}
use Rattle.act1_circuit.specs.declared.circuit.Source.TheVariants as source
use Rattle.act1_circuit.specs.declared.circuit.Spot.{Spot}
use Rattle.act1_circuit.specs.declared.circuit.Start.{Start}
use Rattle.act1_table.specs.Formats.{LineFormat}
use Rattle.act1_table.specs.Table.{Text, Number, Field, OneOf, Name, Form, word, up_to, nothing}
use Rattle.act1_table.specs.Values.{fixed, number, number_at, name_at, given_or, way_said, numbers_said, first}
use Rattle.act1_table.specs.declared.forms.Given.{Given}
use Rattle.act1_table.specs.declared.forms.Given.TheVariants as given
use Rattle.act1_table.specs.declared.forms.Limit.TheVariants.{Most}
use Rattle.act1_table.specs.declared.forms.LineGiven.{LineGiven}
use Rattle.act1_plan.specs.declared.plan.Plan.{Plan}
use Rattle.act1_plan.specs.declared.line.PlanLine.{PlanLine}
use Rattle.act1_plan.specs.declared.line.PlanLine.TheVariants as line

-- the word of a source: `0`, `1`, `c`, `iN` for an input and `mN` for a module
abbrev pub source_field : Field
source_field =
    OneOf (
    (Text (codes "0") ∷ [])
    ∷ (Text (codes "1") ∷ [])
    ∷ (Text (codes "c") ∷ [])
    ∷ (Text (codes "i") ∷ Number (Most 65535) ∷ [])
    ∷ (Text (codes "m") ∷ Number (Most 65535) ∷ [])
    ∷ [])

-- `device NAME`
abbrev pub device_form : Form
device_form = record { fields = word (codes "device") ∷ Name ∷ []; rest = nothing }

-- `k K`
abbrev pub k_form : Form
k_form = record { fields = word (codes "k") ∷ up_to 255 ∷ []; rest = nothing }

-- `clock NAME`
abbrev pub clock_form : Form
clock_form = record { fields = word (codes "clock") ∷ Name ∷ []; rest = nothing }

-- `in NAME`
abbrev pub input_form : Form
input_form = record { fields = word (codes "in") ∷ Name ∷ []; rest = nothing }

-- `out SOURCE NAME`
abbrev pub output_form : Form
output_form = record { fields = word (codes "out") ∷ source_field ∷ Name ∷ []; rest = nothing }

-- `start MODULE INIT NAME`
abbrev pub start_form : Form
start_form = record { fields = word (codes "start") ∷ up_to 65535 ∷ up_to 3 ∷ Name ∷ []; rest = nothing }

-- `module ROW COLUMN` and eight sources
abbrev pub module_form : Form
module_form = record {
  fields = word (codes "module") ∷ up_to 255 ∷ up_to 255 ∷ source_field ∷ source_field ∷ source_field ∷ source_field ∷ source_field ∷ source_field ∷ source_field ∷ source_field ∷ [];
  rest = nothing;
}

abbrev pub plan_table : List Form
plan_table = device_form ∷ k_form ∷ clock_form ∷ input_form ∷ output_form ∷ start_form ∷ module_form ∷ []

-- the word that says a source
abbrev pub source_given : Source → Given
source_given source.Zero = given.Way 0 []
source_given source.One = given.Way 1 []
source_given source.Clock = given.Way 2 []
source_given (source.Input i) = given.Way 3 (i ∷ [])
source_given (source.Module m) = given.Way 4 (m ∷ [])

-- a fixed word and a name
abbrev pub named_line : ℕ → List ℕ → LineGiven
named_line form name = record { form = form; words = fixed ∷ given.Name name ∷ [] }

-- the line of the table that says it
abbrev pub given_of : PlanLine → LineGiven
given_of (line.Device name) = named_line 0 name
given_of (line.K k) = record { form = 1; words = fixed ∷ number k ∷ [] }
given_of (line.Clock name) = named_line 2 name
given_of (line.Input name) = named_line 3 name
given_of (line.Output output) = record { form = 4; words = fixed ∷ source_given output.source ∷ given.Name output.name ∷ [] }
given_of (line.Start start) = record { form = 5; words = fixed ∷ number start.module ∷ number start.init ∷ given.Name start.name ∷ [] }
given_of (line.Module spot pins) = record { form = 6; words = fixed ∷ number spot.row ∷ number spot.column ∷ map source_given pins }

-- the source of a way of its field, with this number
abbrev pub source_of : ℕ → ℕ → Source
source_of way n =
    if way == 0 then source.Zero
    else if way == 1 then source.One
    else if way == 2 then source.Clock
    else if way == 3 then source.Input n
    else source.Module n

-- the source that a word says
abbrev pub source_said : Given → Source
source_said word = source_of (way_said word) (at_most 65535 (first (numbers_said word)))

-- the source of the word at a place
abbrev pub source_at : List Given → ℕ → Source
source_at words i = source_said (given_or (slice_get words i))

-- the sources of the eight words from the fourth on
abbrev pub pins_of : List Given → List Source
pins_of words =
    source_at words 3 ∷ source_at words 4 ∷ source_at words 5 ∷ source_at words 6 ∷ source_at words 7 ∷ source_at words 8 ∷ source_at words 9 ∷ source_at words 10 ∷ []

abbrev pub output_of : List Given → Output
output_of words = record { name = name_at words 2; source = source_at words 1 }

abbrev pub start_of : List Given → Start
start_of words = record { «module» = at_most 65535 (number_at words 1); init = at_most 3 (number_at words 2); name = name_at words 3 }

abbrev pub spot_of : List Given → Spot
spot_of words = record { row = at_most 255 (number_at words 1); column = at_most 255 (number_at words 2) }

-- what a line of the table says
abbrev pub line_of : LineGiven → Option PlanLine
line_of given =
    if given.form == 0 then Some (line.Device (name_at given.words 1))
    else if given.form == 1 then Some (line.K (at_most 255 (number_at given.words 1)))
    else if given.form == 2 then Some (line.Clock (name_at given.words 1))
    else if given.form == 3 then Some (line.Input (name_at given.words 1))
    else if given.form == 4 then Some (line.Output (output_of given.words))
    else if given.form == 5 then Some (line.Start (start_of given.words))
    else if given.form == 6 then Some (line.Module (spot_of given.words) (pins_of given.words))
    else None

abbrev pub plan_format : LineFormat PlanLine
plan_format = record { table = plan_table; given_of = given_of; line_of = line_of }

abbrev pub clock_lines : Option (List ℕ) → List PlanLine
clock_lines None = []
clock_lines (Some name) = line.Clock name ∷ []

abbrev pub input_lines : List (List ℕ) → List PlanLine
input_lines names = map (λ (name : List ℕ). line.Input name) names

abbrev pub output_lines : List Output → List PlanLine
output_lines outputs = map (λ (output : Output). line.Output output) outputs

abbrev pub start_lines : List Start → List PlanLine
start_lines starts = map (λ (start : Start). line.Start start) starts

-- a line for each module that has a spot
abbrev pub module_lines : List Spot → List (List Source) → List PlanLine
module_lines (spot ∷ spots) (pins ∷ modules) = line.Module spot pins ∷ module_lines spots modules
module_lines [] modules = []
module_lines (spot ∷ spots) [] = []

-- the lines of a plan
abbrev pub plan_lines : Plan → List PlanLine
plan_lines plan =
    line.Device plan.device ∷ line.K plan.k
    ∷ ((((clock_lines plan.placed.circuit.clock ++ input_lines plan.placed.circuit.inputs) ++ output_lines plan.placed.circuit.outputs) ++ start_lines plan.placed.circuit.starts)
    ++ module_lines plan.placed.spots plan.placed.circuit.modules)

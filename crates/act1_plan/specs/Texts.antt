-- The text of a plan, in words. The format is this project's own.
use Rattle.std.specs.Prelude.{ℕ, List, [], ◌∷◌, ◌++◌, map, Option, Some, None, codes}
use Rattle.std.specs.Fmt.{decimal}
use Rattle.act1_circuit.specs.declared.circuit.Circuit.{Circuit}
use Rattle.act1_circuit.specs.declared.circuit.Output.{Output}
use Rattle.act1_circuit.specs.declared.circuit.Source.{Source}
use Rattle.act1_circuit.specs.declared.circuit.Spot.{Spot}
use Rattle.act1_circuit.specs.declared.circuit.Start.{Start}
use Rattle.act1_circuit.specs.SourceWords.{source_word}
use Rattle.act1_base.specs.Words.{text_of_lines}
use Rattle.act1_plan.specs.declared.plan.Plan.{Plan}

-- the words of each kind of line
abbrev pub device_words : List ℕ → List (List ℕ)
device_words name = codes "device" ∷ name ∷ []

abbrev pub k_words : ℕ → List (List ℕ)
k_words k = codes "k" ∷ decimal k ∷ []

abbrev pub clock_words : Option (List ℕ) → List (List (List ℕ))
clock_words None = []
clock_words (Some name) = (codes "clock" ∷ name ∷ []) ∷ []

abbrev pub input_words : List ℕ → List (List ℕ)
input_words name = codes "in" ∷ name ∷ []

abbrev pub output_words : Output → List (List ℕ)
output_words output = codes "out" ∷ source_word output.source ∷ output.name ∷ []

abbrev pub start_words : Start → List (List ℕ)
start_words start = codes "start" ∷ decimal start.module ∷ decimal start.init ∷ start.name ∷ []

abbrev pub module_words : Spot → List Source → List (List ℕ)
module_words spot pins = codes "module" ∷ decimal spot.row ∷ decimal spot.column ∷ map source_word pins

-- such a line up to its pins
abbrev pub spot_text : Spot → List ℕ
spot_text spot = codes "module" ++ (32 ∷ decimal spot.row ++ 32 ∷ decimal spot.column)

-- the words of the lines of modules
abbrev pub modules_words : List Spot → List (List Source) → List (List (List ℕ))
modules_words (spot ∷ spots) (pins ∷ modules) = module_words spot pins ∷ modules_words spots modules
modules_words [] modules = []
modules_words (spot ∷ spots) [] = []

-- the words of the lines of a circuit but for its modules
abbrev pub ports_words : Circuit → List (List (List ℕ))
ports_words c = ((clock_words c.clock ++ map input_words c.inputs) ++ map output_words c.outputs) ++ map start_words c.starts

-- the words of all lines: `device`, `k`, the clock if it has a name, the inputs, the outputs, the starts and the modules
abbrev pub plan_words : Plan → List (List (List ℕ))
plan_words plan = device_words plan.device ∷ k_words plan.k ∷ (ports_words plan.placed.circuit ++ modules_words plan.placed.spots plan.placed.circuit.modules)

-- its one text
unfoldable pub plan_text : Plan → List ℕ
plan_text plan = text_of_lines (plan_words plan)

-- Circuits in which each module drives something.
use Rattle.std.specs.Prelude.{ℕ, ◌<◌, ◌||◌, Bool, IsTrue, List, length}
use Rattle.std.specs.List.{list_any}
use Rattle.act1_circuit.specs.declared.circuit.Circuit.{Circuit}
use Rattle.act1_circuit.specs.declared.circuit.Output.{Output}
use Rattle.act1_circuit.specs.declared.circuit.Source.{Source}
use Rattle.act1_circuit.specs.declared.circuit.Source.TheVariants.{Module}
use Rattle.act1_plan.specs.Nets.{is_same_source}

-- the module is the source of one of these pins
abbrev pub drives_pin : ℕ → List Source → Bool
drives_pin m sources = list_any (λ source. is_same_source source (Module m)) sources

-- the module is the source of some pin or output
abbrev pub is_driver : Circuit → ℕ → Bool
is_driver c m = list_any (drives_pin m) c.modules || list_any (λ (o : Output). is_same_source o.source (Module m)) c.outputs

-- each module is
abbrev pub AllDrive : Circuit → Type 0
AllDrive c = (m : ℕ) → m < length c.modules → IsTrue (is_driver c m)

-- The parts of the extracted netlist, as the code finds them.
use Rattle.std.specs.Prelude.{ℕ, zero, suc, Bool, not, if◌then◌else◌, List, [], ◌∷◌, ◌++◌, filter, map}
use Rattle.act1_logic.specs.declared.cover.Mark.{Mark}
use Rattle.act1_logic.specs.declared.cover.Row.{Row}
use Rattle.act1_circuit.specs.declared.circuit.Circuit.{Circuit}
use Rattle.act1_circuit.specs.declared.circuit.Source.{Source}
use Rattle.act1_circuit.specs.declared.circuit.Source.TheVariants.{Module}
use Rattle.act1_meaning.specs.ArrayNames.{is_free, module_name}
use Rattle.act1_meaning.specs.Extracted.{is_constant, is_same, signal_of}

-- the source before those others that differ from it, unless it is a constant
abbrev pub with_source : Source → List Source → List Source
with_source s others = if is_constant s then others else s ∷ filter (λ t. not (is_same s t)) others

-- the marks of some rows
abbrev pub marks_in : List Row → List (List Mark)
marks_in rows = map (λ (row : Row). row.marks) rows

-- the function without inputs of this value
abbrev pub constant_of : Bool → List Bool → Bool
constant_of value ys = value

-- the signals of the modules below n
abbrev pub module_signals : Circuit → ℕ → List ℕ
module_signals c zero = []
module_signals c (suc n) = module_signals c n ++ signal_of c (Module n) ∷ []

-- the names `m` with a number below n that aren't taken
abbrev pub free_names : Circuit → ℕ → List (List ℕ)
free_names c zero = []
free_names c (suc n) = free_names c n ++ (if is_free c n then module_name n ∷ [] else [])

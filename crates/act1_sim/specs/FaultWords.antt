-- How a refusal to simulate is printed.
use Rattle.std.specs.Prelude.{ℕ, List, [], ◌∷◌, codes}
use Rattle.std.specs.Fmt.{decimal}
use Rattle.act1_array.specs.FaultWords.{array_fault_words}
use Rattle.act1_sim.specs.declared.fault.SimFault.{SimFault}
use Rattle.act1_sim.specs.declared.fault.SimFault.TheVariants.{Array, Vector, Unsettled, Memory}

-- the words of the line: the array's, or the number of a line, or a cycle and the spot of a module
abbrev pub sim_fault_words : SimFault → List (List ℕ)
sim_fault_words (Array fault) = array_fault_words fault
sim_fault_words (Vector line) = codes "vectors" ∷ codes "line" ∷ decimal line ∷ []
sim_fault_words (Unsettled cycle spot) = codes "unsettled" ∷ codes "cycle" ∷ decimal cycle ∷ codes "module" ∷ decimal spot.row ∷ decimal spot.column ∷ []
sim_fault_words Memory = codes "memory" ∷ []

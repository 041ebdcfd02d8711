-- How a refusal of an array is printed.
use Rattle.std.specs.Prelude.{ℕ, List, [], ◌∷◌, codes}
use Rattle.std.specs.Fmt.{decimal}
use Rattle.act1_device.specs.Pins.{pin_name}
use Rattle.act1_circuit.specs.SourceWords.{source_word}
use Rattle.act1_array.specs.declared.fault.ArrayFault.{ArrayFault}
use Rattle.act1_array.specs.declared.fault.ArrayFault.TheVariants.{Driven, Floating, Unfed, StartUnused, Memory}

-- the words of the line: what is wrong, and where
abbrev pub array_fault_words : ArrayFault → List (List ℕ)
array_fault_words (Driven first second) = codes "driven" ∷ source_word first ∷ source_word second ∷ []
array_fault_words (Floating spot pin) = codes "floating" ∷ decimal spot.row ∷ decimal spot.column ∷ pin_name pin ∷ []
array_fault_words (Unfed output) = codes "unfed" ∷ decimal output ∷ []
array_fault_words (StartUnused spot) = codes "start" ∷ codes "unused" ∷ decimal spot.row ∷ decimal spot.column ∷ []
array_fault_words Memory = codes "memory" ∷ []

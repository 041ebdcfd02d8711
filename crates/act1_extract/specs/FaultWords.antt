-- How a refusal of an extraction is printed.
use Rattle.std.specs.Prelude.{ℕ, List, [], ◌∷◌, codes}
use Rattle.std.specs.Fmt.{decimal}
use Rattle.act1_array.specs.FaultWords.{array_fault_words}
use Rattle.act1_extract.specs.declared.fault.ExtractFault.{ExtractFault}
use Rattle.act1_extract.specs.declared.fault.ExtractFault.TheVariants.{Array, Form, ClockOut, Clash, Memory}
use Rattle.act1_extract.specs.declared.fault.FormKind.{FormKind}
use Rattle.act1_extract.specs.declared.fault.FormKind.TheVariants.{Clocked, Ring, Start}

abbrev pub form_word : FormKind → List ℕ
form_word Clocked = codes "clocked"
form_word Ring = codes "ring"
form_word Start = codes "start"

-- the words of the line: what is wrong, and where
abbrev pub extract_fault_words : ExtractFault → List (List ℕ)
extract_fault_words (Array fault) = array_fault_words fault
extract_fault_words (Form kind spot) = codes "form" ∷ form_word kind ∷ decimal spot.row ∷ decimal spot.column ∷ []
extract_fault_words (ClockOut output) = codes "form" ∷ codes "clockout" ∷ decimal output ∷ []
extract_fault_words (Clash output) = codes "clash" ∷ decimal output ∷ []
extract_fault_words Memory = codes "memory" ∷ []

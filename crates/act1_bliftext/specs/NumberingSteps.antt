-- What the steps of numbering answer.
use Rattle.std.specs.Prelude.{ℕ, ◌≡◌, ◌<◌, ◌≤◌, true, false, List, length, Some, Result, Ok, Err, slice_get}
use Rattle.act1_base.specs.declared.texts.Stop.{Stop}
use Rattle.act1_base.specs.declared.texts.Stop.TheVariants.{Fault, Memory}
use Rattle.act1_bliftext.specs.Faults.{are_past_limit}
use Rattle.act1_bliftext.specs.Tables.{with_name, with_names, AreNumbersOf}
use Rattle.act1_bliftext.specs.declared.fault.BlifKind.{BlifKind}
use Rattle.act1_bliftext.specs.declared.fault.BlifKind.TheVariants.{Limit}

-- what numbering a name gives
abbrev pub Numbers : List (List ℕ) → List ℕ → List (List ℕ) → Result ℕ (Stop BlifKind) → Type 0
Numbers old word new (Ok n) = (new ≡ with_name old word) × (slice_get new n ≡ Some word) × (length new ≤ 65535)
Numbers old word new (Err (Fault k)) = (k ≡ Limit) × (65535 < length (with_name old word))
Numbers old word new (Err Memory) = Unit {0}

-- what numbering names gives
abbrev pub NumbersAll : List (List ℕ) → List (List ℕ) → List (List ℕ) → Result (List ℕ) (Stop BlifKind) → Type 0
NumbersAll old words new (Ok numbers) = (new ≡ with_names old words) × AreNumbersOf new numbers words × (length new ≤ 65535)
NumbersAll old words new (Err (Fault k)) = (k ≡ Limit) × (65535 < length (with_names old words))
NumbersAll old words new (Err Memory) = Unit {0}

-- what taking up the names of a line gives
abbrev pub AddsNames : List (List ℕ) → List (List ℕ) → List (List ℕ) → Result (List ℕ) (Stop BlifKind) → Type 0
AddsNames old words new (Ok numbers) = (new ≡ with_names old words) × AreNumbersOf new numbers words × (are_past_limit old words ≡ false)
AddsNames old words new (Err (Fault k)) = (k ≡ Limit) × (are_past_limit old words ≡ true)
AddsNames old words new (Err Memory) = Unit {0}

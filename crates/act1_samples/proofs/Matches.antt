-- Pins of known functions, checked against the definition.
use Rattle.std.proofs.Common.{◌≡◌, ℕ, zero, suc, ◌<◌, List, [], ◌∷◌, true, false, slice_index_or, refl, sym, arith}
use Rattle.std.proofs.lemmas.Bool.{agree_below_at, true≢false}
use Rattle.std.proofs.lemmas.List.Elements.{All-from_recursion, All-head}
use Rattle.act1_logic.specs.Module.{module_of}
use Rattle.act1_logic.specs.declared.table.Table.{Table}
use Rattle.act1_match.specs.Choice.{has_bit, value_at, IsChoice}
use Rattle.act1_match.specs.Matches.{Matches}
use Rattle.act1_match.specs.declared.choice.PinChoice.{PinChoice}
use Rattle.act1_match.specs.declared.choice.PinChoice.TheVariants.{Zero, One, Var}

-- variable j is bit j of an input: at input 5 the variables 0 and 2 are 1, and 1 isn't
sample_input : (value_at 5 (Var 0) ≡ true) × (value_at 5 (Var 1) ≡ false) × (value_at 5 (Var 2) ≡ true)
sample_input = (refl, refl, refl)

-- the table of majority of three has its bits 3, 5, 6 and 7
sample_majority_bits : (has_bit 232 3 ≡ true) × (has_bit 232 4 ≡ false) × (has_bit 232 5 ≡ true)
sample_majority_bits = (refl, refl, refl)

-- majority of three: where variable 0 is 1, one of the others, and else both
abbrev majority_pins : List PinChoice
majority_pins = Zero ∷ Var 2 ∷ Var 1 ∷ Var 2 ∷ One ∷ Var 1 ∷ Var 0 ∷ Zero ∷ []

sample_majority : Matches (record { 0 = 232 }) 3 majority_pins
sample_majority = record {
  eight = refl;
  choices = All-from_recursion (IsChoice 3) majority_pins (tt, (omega arith, (omega arith, (omega arith, (tt, (omega arith, (omega arith, (tt, tt))))))));
  same = λ i below. agree_below_at (λ i. module_of (λ k. value_at i (slice_index_or majority_pins k Zero))) (λ i. has_bit 232 i) 8 i refl below;
}

below_four : (P : ℕ → Type 0) → P 0 → P 1 → P 2 → P 3 → (i : ℕ) → i < 4 → P i
below_four P p0 p1 p2 p3 zero h = p0
below_four P p0 p1 p2 p3 (suc zero) h = p1
below_four P p0 p1 p2 p3 (suc (suc zero)) h = p2
below_four P p0 p1 p2 p3 (suc (suc (suc zero))) h = p3
below_four P p0 p1 p2 p3 (suc (suc (suc (suc i)))) h = absurd (omega arith)

-- parity of two, whatever stands above the four bits of the table: variable 1 is a select and a data pin
abbrev parity_pins : List PinChoice
parity_pins = Var 1 ∷ Var 1 ∷ Zero ∷ One ∷ Zero ∷ Var 1 ∷ Var 0 ∷ Var 0 ∷ []

sample_parity : (table : Table) → (has_bit table.0 0 ≡ false) → (has_bit table.0 1 ≡ true) → (has_bit table.0 2 ≡ true) → (has_bit table.0 3 ≡ false) → Matches table 2 parity_pins
sample_parity table b0 b1 b2 b3 = record {
  eight = refl;
  choices = All-from_recursion (IsChoice 2) parity_pins (omega arith, (omega arith, (tt, (tt, (tt, (omega arith, (omega arith, (omega arith, tt))))))));
  same = below_four (λ i. module_of (λ k. value_at i (slice_index_or parity_pins k Zero)) ≡ has_bit table.0 i) (sym b0) (sym b1) (sym b2) (sym b3);
}

-- these pins aren't the conjunction, whose table is 8: they differ at input 1
sample_no_conjunction : ¬ Matches (record { 0 = 8 }) 2 parity_pins
sample_no_conjunction h = true≢false (h.same 1 (omega arith))

-- variable 2 is none of two variables
sample_no_variable : (pins : List PinChoice) → ¬ Matches (record { 0 = 6 }) 2 (Var 2 ∷ pins)
sample_no_variable pins h = let low : 2 < 2 = All-head (IsChoice 2) (Var 2) pins h.choices in absurd (omega arith)

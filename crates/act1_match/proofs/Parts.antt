-- The parts of a choice of pins: what is chosen apart fits together, and what fits together has such parts.
use Rattle.std.proofs.Common.{◌≡◌, ℕ, ◌<◌, ◌≤◌, ◌^◌, Bool, true, false, not, List, length, take, All, Contains, if◌then◌else◌, bit_and, refl, ap, sym, subst, ◌∙◌}
use Rattle.std.specs.Int.{bit_not, w64}
use Rattle.std.proofs.lemmas.Bool.{and_parts, and_from, not-true}
use Rattle.std.proofs.lemmas.List.{take_all}
use Rattle.std.proofs.lemmas.List.Elements.{All-contains}
use Rattle.act1_match.specs.Choice.{has_bit}
use Rattle.act1_match.specs.SearchSteps.{Agrees}
use Rattle.act1_match.proofs.Bits.{has_bit-and, has_bit-not}

-- a loop over all of a list that met none with a property
pub none_listed : {X : Type 0} (P : X → Type 0) (xs : List X) (n : ℕ) → length xs ≤ n → All (λ x. ¬ P x) (take n xs) → (x : X) → Contains xs x → ¬ P x
none_listed P xs n h none x listed = All-contains (λ x. ¬ P x) xs x (subst (λ ys. All (λ x. ¬ P x) ys) (take_all n xs h) none) listed

-- an input is in both sets
both : (a b i : ℕ) → has_bit (bit_and a b) i ≡ true → (has_bit a i ≡ true) × (has_bit b i ≡ true)
both a b i h = and_parts (has_bit a i) (has_bit b i) (sym (has_bit-and a b i) ∙ h)

in_both : (a b i : ℕ) → has_bit a i ≡ true → has_bit b i ≡ true → has_bit (bit_and a b) i ≡ true
in_both a b i ha hb = has_bit-and a b i ∙ and_from (has_bit a i) (has_bit b i) ha hb

-- what is chosen is a value where each of the two is
choose : (s x y t : Bool) → (s ≡ false → x ≡ t) → (s ≡ true → y ≡ t) → (if s then y else x) ≡ t
choose true x y t low high = high refl
choose false x y t low high = low refl

-- values that a select chooses between agree with a table where each does at its own inputs; `ones` are the inputs at which the select is 1
module _ (table inputs ones : ℕ) (select low high : ℕ → Bool) (fits : ones < 2 ^ 64) (ones_are : (i : ℕ) → i < 64 → has_bit ones i ≡ select i) where
  pub joined : Agrees table (bit_and inputs (bit_not w64 ones)) low → Agrees table (bit_and inputs ones) high → Agrees table inputs (λ i. if select i then high i else low i)
  joined l h = record {
    same = λ i lt on.
        choose (select i) (low i) (high i) (has_bit table i)
        (λ s. l.same i lt (in_both inputs (bit_not w64 ones) i on (has_bit-not ones i fits lt ∙ ap not (ones_are i lt ∙ s))))
        (λ s. h.same i lt (in_both inputs ones i on (ones_are i lt ∙ s)));
  }

  pub low_part : Agrees table inputs (λ i. if select i then high i else low i) → Agrees table (bit_and inputs (bit_not w64 ones)) low
  low_part a = record {
    same = λ i lt on.
        let on_both = both inputs (bit_not w64 ones) i on in
        let is_low : select i ≡ false = sym (ones_are i lt) ∙ not-true (has_bit ones i) (sym (has_bit-not ones i fits lt) ∙ on_both.1) in
        sym (ap (λ b. if b then high i else low i) is_low) ∙ a.same i lt on_both.0;
  }

  pub high_part : Agrees table inputs (λ i. if select i then high i else low i) → Agrees table (bit_and inputs ones) high
  high_part a = record {
    same = λ i lt on.
        let on_both = both inputs ones i on in
        let is_high : select i ≡ true = sym (ones_are i lt) ∙ on_both.1 in
        sym (ap (λ b. if b then high i else low i) is_high) ∙ a.same i lt on_both.0;
  }

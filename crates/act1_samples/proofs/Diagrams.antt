-- Worked examples of values, forks and the rules of diagrams.
use Rattle.std.proofs.Common.{ℕ, zero, suc, ◌≡◌, ◌<◌, true, false, ◌&&◌, List, [], ◌∷◌, get_or, refl, arith}
use Rattle.std.proofs.lemmas.Bool.{false≢true}
use Rattle.act1_dd.specs.declared.refs.Ref.TheVariants.{Zero, One, Node}
use Rattle.act1_dd.specs.declared.refs.Branch.{Branch}
use Rattle.act1_dd.specs.Inputs.{Inputs, Function, with_input, inputs_from, inputs_of}
use Rattle.act1_dd.specs.Forks.{IsSame, IsForkOf, HasMoreForks}
use Rattle.act1_dd.specs.Diagram.{value_at, IsReduced}
use Rattle.act1_dd.proofs.Rows.{no_forks}

-- variable 1 alone, and both of 0 and 1
abbrev forks_of_both : List Branch
forks_of_both = record { var = 1; low = Zero; high = One } ∷ record { var = 0; low = Zero; high = Node 0 } ∷ []

both_are_one : value_at forks_of_both (Node 1) (inputs_of (true ∷ true ∷ [])) ≡ true
unfolding value_at
both_are_one = refl

first_is_zero : value_at forks_of_both (Node 1) (inputs_of (false ∷ true ∷ [])) ≡ false
unfolding value_at
first_is_zero = refl

second_is_zero : value_at forks_of_both (Node 1) (inputs_of (true ∷ [])) ≡ false
unfolding value_at
second_is_zero = refl

first_three : (x : Inputs) → inputs_from x 0 3 ≡ x 0 ∷ x 1 ∷ x 2 ∷ []
first_three x = refl

abbrev both : Function
both x = x 0 && x 1

abbrev second : Function
second x = x 1

abbrev ones : Inputs
ones k = true

-- both of two inputs is a fork of itself, and leaves the second input where the first is 1
both_of_both : IsForkOf both both
both_of_both = record { var = 0; fixed = ones; comes = λ x. refl; depends = record { inputs = ones; matters = false≢true } }

second_of_both : IsForkOf both second
second_of_both = record { var = 1; fixed = ones; comes = λ x. refl; depends = record { inputs = ones; matters = false≢true } }

-- so it has more forks than one
both_has_two : HasMoreForks both 1
both_has_two = record {
  forks = both ∷ second ∷ [];
  more = omega arith;
  each = each;
  different = different;
}
  where
    each : (k : ℕ) (d : Function) → k < 2 → IsForkOf both (get_or (both ∷ second ∷ []) k d)
    each zero d low = both_of_both
    each (suc zero) d low = second_of_both
    each (suc (suc k)) d low = absurd (omega arith)

    apart : IsSame both second → ⊥
    apart same = false≢true (same (with_input ones 0 false))

    different : (i j : ℕ) (d : Function) → i < j → j < 2 → IsSame (get_or (both ∷ second ∷ []) i d) (get_or (both ∷ second ∷ []) j d) → ⊥
    different zero zero d less low = absurd (omega arith)
    different zero (suc zero) d less low = apart
    different zero (suc (suc j)) d less low = absurd (omega arith)
    different (suc i) j d less low = absurd (omega arith)

-- a single input has a fork
second_has_one : HasMoreForks second 0
second_has_one = record {
  forks = second ∷ [];
  more = omega arith;
  each = each;
  different = λ i j d less low. absurd (omega arith);
}
  where
    own : IsForkOf second second
    own = record { var = 1; fixed = ones; comes = λ x. refl; depends = record { inputs = ones; matters = false≢true } }

    each : (k : ℕ) (d : Function) → k < 1 → IsForkOf second (get_or (second ∷ []) k d)
    each zero d low = own
    each (suc k) d low = absurd (omega arith)

-- a constant has none
constant_has_none : HasMoreForks (λ x. true) 0 → ⊥
constant_has_none = no_forks (λ x. true) true 0 (λ x. refl)

-- stores with one rule broken
alike : IsReduced (record { var = 1; low = Zero; high = One } ∷ record { var = 1; low = Zero; high = One } ∷ []) → ⊥
alike h = distinct 0 1 (omega arith) (h.once 0 1 (record { var = 1; low = Zero; high = One }) refl refl)
  where
    distinct : (j k : ℕ) → j < k → j ≡ k → ⊥
    distinct j k less e = omega arith

equal_parts : IsReduced (record { var = 1; low = One; high = One } ∷ []) → ⊥
equal_parts h = h.differ 0 (record { var = 1; low = One; high = One }) refl refl

falling : IsReduced (record { var = 0; low = Zero; high = One } ∷ record { var = 1; low = Zero; high = Node 0 } ∷ []) → ⊥
falling h = let less = (h.rise 1 (record { var = 1; low = Zero; high = Node 0 }) refl).1 (record { var = 0; low = Zero; high = One }) refl in absurd (omega arith)

part_too_young : IsReduced (record { var = 0; low = Zero; high = Node 1 } ∷ record { var = 1; low = Zero; high = One } ∷ []) → ⊥
part_too_young h = let small = (h.older 0 (record { var = 0; low = Zero; high = Node 1 }) refl).1 in absurd (omega arith)

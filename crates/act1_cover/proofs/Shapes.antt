-- A tile of the OR form has no multiplexer on its high side, so the shapes 3 and 7 don't occur.
use Rattle.std.proofs.Common.{ℕ, ◌≡◌, Bool, true, false, refl, ap, ◌∙◌, arith}
use Rattle.act1_cover.specs.declared.forest.Forest.{Forest}
use Rattle.act1_cover.specs.declared.tile.Shape.{Shape}
use Rattle.act1_cover.specs.Tilings.{one_if, low_of, high_of, number_of, MayStand, shape_number}
use Rattle.act1_cover.specs.Least.{IsForest, NoThreeNoSeven}
use Rattle.act1_cover.proofs.TileCounts.{is_the_fork, inner_is, one_high}

no_high : (forest : Forest) → IsForest forest → (k : ℕ) (p : Shape) → MayStand forest k p → p.or_form ≡ true → p.high_side ≡ true → ⊥
no_high forest is k p m o h =
    let g = number_of (low_of forest k) in
    let f = number_of (high_of forest k) in
    let low = inner_is forest (low_of forest k) g (m.or_form o).0 in
    let high = inner_is forest (high_of forest k) f (m.high_side h) in
    let under = is.low k g m.within low.0 in
    let z = one_high forest is f high.1 k g m.within under.0 (λ s. let t = ap is.level s in omega arith) (m.or_form o).1 in
    let one = ap one_if (is_the_fork f (high_of forest g) ((m.or_form o).1 ∙ high.0)) in
    omega arith

pub no_three_no_seven : NoThreeNoSeven
no_three_no_seven forest is k p m = by p.or_form p.high_side p.low_side refl refl
  where
    by : (o h l : Bool) → p.or_form ≡ o → p.high_side ≡ h → (shape_number (record { or_form = o; high_side = h; low_side = l }) ≡ 3 → ⊥) × (shape_number (record { or_form = o; high_side = h; low_side = l }) ≡ 7 → ⊥)
    by true true l e f = absurd (no_high forest is k p m e f)
    by true false true e f = ((λ s. omega arith), (λ s. omega arith))
    by true false false e f = ((λ s. omega arith), (λ s. omega arith))
    by false true true e f = ((λ s. omega arith), (λ s. omega arith))
    by false true false e f = ((λ s. omega arith), (λ s. omega arith))
    by false false true e f = ((λ s. omega arith), (λ s. omega arith))
    by false false false e f = ((λ s. omega arith), (λ s. omega arith))

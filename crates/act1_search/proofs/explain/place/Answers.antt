use Rattle.std.proofs.Common.{ℕ, ◌*◌, ap, ◌∙◌, arith}
use Rattle.act1_search.proofs.Marks.{place_few}
use Rattle.act1_search.proofs.explain.place.Goals as goal

pub overflow_mul-result : goal.overflow_mul-result
overflow_mul-result c =
    let few = place_few c.args.problem.now c.args.choice c.requires in
    let is = ap (λ (k : ℕ). k * c.len.result) c.from.ensures ∙ ap (λ (k : ℕ). c.args.choice.connection * k) c.len.ensures in
    record { fits = omega (arith, few.0) }

pub overflow_add-result : goal.overflow_add-result
overflow_add-result c =
    let few = place_few c.args.problem.now c.args.choice c.requires in
    let is = ap (λ (k : ℕ). k * c.len.result) c.from.ensures ∙ ap (λ (k : ℕ). c.args.choice.connection * k) c.len.ensures in
    let track = c.from-2.ensures in
    record { fits = omega (arith, few.1) }

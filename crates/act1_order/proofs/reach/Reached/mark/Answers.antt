use Rattle.std.proofs.Common.{ℕ, Some, Bool, true, ap, ◌∙◌}
use Rattle.std.specs.Prelude.{slice_set, Option}
use Rattle.act1_order.proofs.ReachLemmas.{marked_now, marked_already}
use Rattle.act1_order.proofs.reach.Reached.mark.Goals as goal

pub returns-in_ok-push : goal.returns-in_ok-push
returns-in_ok-push c =
    marked_now c.args.vertex c.args.self.now _ (c.is_marked.ensures ∙ ap (λ (b : Bool). let r : Option Bool = Some b in r) c.if-not-is_marked.true)
    (ap (λ (i : ℕ). slice_set c.args.self.now.marks.items i true) c.from.ensures) c.in_ok-push.ensures.items

pub returns-else-not-is_marked : goal.returns-else-not-is_marked
returns-else-not-is_marked c = marked_already c.args.vertex c.args.self.now c.if-not-is_marked.ensures

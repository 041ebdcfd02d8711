use Rattle.std.proofs.Common.{ℕ, List, sym, subst}
use Rattle.std.specs.Prelude.{Contains}
use Rattle.std.proofs.lemmas.Bool.{true≢false}
use Rattle.std.proofs.lemmas.List.{take_all}
use Rattle.act1_order.proofs.reach.Reached.has_marked.Goals as goal

pub returns : goal.returns
returns c = (
  λ f. absurd (true≢false (sym f)),
  λ m. absurd (c.loop-vertex.invariant m.vertex (subst (λ (ws : List ℕ). Contains ws m.vertex) (sym (take_all c.loop-vertex.vertex-index c.args.vertices.now c.loop-vertex-test.false)) m.there) m.marked),
)

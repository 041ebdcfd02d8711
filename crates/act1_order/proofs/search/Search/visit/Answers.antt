use Rattle.std.proofs.Common.{List, sym, subst, ◌∙◌}
use Rattle.std.proofs.lemmas.Bool.{true≢false}
use Rattle.act1_order.specs.SearchSteps.{HasState}
use Rattle.act1_order.specs.declared.search.State.{State}
use Rattle.act1_order.specs.declared.search.State.TheVariants as state
use Rattle.act1_order.proofs.SearchLemmas.{rooted, visited}
use Rattle.act1_order.proofs.search.Search.visit.Goals as goal

pub loop-vertex-init : goal.loop-vertex-init
loop-vertex-init c =
    rooted c.args.reads.now c.args.root c.args.self.now c.open.new.self c.requires.low c.requires.search c.requires.none_open
    (λ st. true≢false (sym (c.has_state.ensures.1 (subst (λ (ss : List State). HasState ss c.args.root state.Placed) (sym c.deref.ensures.value) st)) ∙ c.if-has_state.false))
    c.in_ok-open.ensures.states c.in_ok-open.ensures.passed c.in_ok-open.ensures.path c.in_ok-open.ensures.order

pub returns : goal.returns
returns c = visited c.args.reads.now c.args.root c.args.self.now c.loop-vertex.self c.requires.low c.loop-vertex.invariant (sym c.in_default.ensures)

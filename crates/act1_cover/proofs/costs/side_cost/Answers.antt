use Rattle.std.proofs.Common.{◌≡◌, ◌+◌, Bool, true, ap, sym, subst, ◌∙◌, arith, rules}
use Rattle.act1_cover.specs.declared.forest.Term.{Term}
use Rattle.act1_cover.specs.Tilings.{total, inner}
use Rattle.act1_cover.specs.Costs.{cost_in, side_cost}
use Rattle.act1_cover.proofs.CostSteps.{mux_side}
use Rattle.act1_cover.proofs.costs.side_cost.Goals as goal

pub returns-in-Some-clause-cost : goal.returns-in-Some-clause-cost
returns-in-Some-clause-cost c =
    let forest = c.args.forest.now in
    let cost = cost_in c.args.table.now in
    let m = mux_side forest cost c.args.term c.in-Some.fork c.in-Some.ensures.inner in
    let mux : c.args.multiplexer ≡ true = search rules in
    let low = c.term_cost-low.ensures ∙ ap (λ (t : Term). total cost (inner forest t)) c.low_of.ensures in
    let high = c.term_cost-high.ensures ∙ ap (λ (t : Term). total cost (inner forest t)) c.high_of.ensures in
    let a : c.from-in-Some.result ≡ c.term_cost-low.result = search rules in
    let b : c.from-in-Some-2.result ≡ c.term_cost-high.result = search rules in
    let sum : c.from-in-Some.result + c.from-in-Some-2.result ≡ side_cost forest cost true c.args.term = omega (arith, m.2) in
    (λ e. m.1, subst (λ (x : Bool). c.from-in-Some.result + c.from-in-Some-2.result ≡ side_cost forest cost x c.args.term) (sym mux) sum)

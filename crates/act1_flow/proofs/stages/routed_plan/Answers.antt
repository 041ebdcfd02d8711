use Rattle.std.proofs.Common.{sym, ap, subst, ◌∙◌}
use Rattle.std.proofs.lemmas.Result.{err_from_is_err_and}
use Rattle.act1_groute.specs.Routes.{routes}
use Rattle.act1_flow.specs.Realizes.{IsPlanFor}
use Rattle.act1_flow.proofs.Assigned.{vertical_stops}
use Rattle.act1_flow.proofs.Circuits.{place_stops, plan_is}
use Rattle.act1_flow.proofs.stages.routed_plan.Goals as goal

pub returns-in_err-plan-clause-err : goal.returns-in_err-plan-clause-err
returns-in_err-plan-clause-err c =
    let p = err_from_is_err_and c.from_residual-in_err-plan.result c.from_residual-in_err-plan.ensures.1 in
    rw (p.1, p.2)
    (place_stops c.args.device.now c.args.net.now c.args.settings.now c.in_ok-circuit.circuit c.in_ok-circuit.ensures.ok c.in_err-plan.field-0.0 c.in_ok-find_pads.ensures.pads c.in_err-plan.ensures.err)

pub routed-requires : goal.routed-requires
routed-requires c =
    let r = plan_is c.plan_laws.ensures c.args.device.now c.args.net.now c.args.settings.now c.requires.low c.requires.high c.in_ok-circuit.circuit c.in_ok-circuit.ensures.ok c.in_ok-plan.plan c.in_ok-plan.ensures.ok in
    r.legal

pub returns-in_err-routed-clause-err : goal.returns-in_err-routed-clause-err
returns-in_err-routed-clause-err c =
    let r = plan_is c.plan_laws.ensures c.args.device.now c.args.net.now c.args.settings.now c.requires.low c.requires.high c.in_ok-circuit.circuit c.in_ok-circuit.ensures.ok c.in_ok-plan.plan c.in_ok-plan.ensures.ok in
    let p = err_from_is_err_and c.from_residual-in_err-routed.result c.from_residual-in_err-routed.ensures.1 in
    rw (p.1, p.2) (vertical_stops c.args.device.now c.args.net.now c.args.settings.now c.in_ok-plan.plan r c.in_err-routed.field-0.0 c.in_ok-find_pads.ensures.pads c.in_err-routed.ensures.err)

pub returns-clause-ok : goal.returns-clause-ok
returns-clause-ok c =
    let dev = c.args.device.now in
    let net = c.args.net.now in
    let settings = c.args.settings.now in
    let r = plan_is c.plan_laws.ensures dev net settings c.requires.low c.requires.high c.in_ok-circuit.circuit c.in_ok-circuit.ensures.ok c.in_ok-plan.plan c.in_ok-plan.ensures.ok in
    let e = c.in_ok-routed.ensures.ok in
    record { pads = c.in_ok-find_pads.ensures.pads; plan_is = subst (IsPlanFor dev net settings) (sym e.plan_is) r; routed = ap (routes dev) e.plan_is ∙ e.routed }

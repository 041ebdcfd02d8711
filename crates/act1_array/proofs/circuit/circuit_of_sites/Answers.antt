use Rattle.std.proofs.Common.{List, map, ap, subst, ◌∙◌}
use Rattle.std.specs.Prelude.{Ok, Err}
use Rattle.std.proofs.lemmas.Result.{err_from_is_err_and}
use Rattle.act1_circuit.specs.declared.circuit.Spot.{Spot}
use Rattle.act1_fuses.specs.declared.fuses.Port.{Port}
use Rattle.act1_array.specs.PartSteps.{GivesStarts}
use Rattle.act1_array.proofs.Bounds.{inputs_once, outputs_apart}
use Rattle.act1_array.proofs.CircuitLemmas.{gives_circuit}
use Rattle.act1_array.proofs.Refusals.{modules_refused, outputs_refused, starts_refused}
use Rattle.act1_array.proofs.circuit.circuit_of_sites.Goals as goal

pub returns-in-Some-clause-gives : goal.returns-in-Some-clause-gives
returns-in-Some-clause-gives c = λ rules.
    let h = c.in_ok-network.ensures.network in
    let pair = c.in-Some.ensures c.args.device.now c.args.file.now h (inputs_once c.args.device.now c.args.file.now rules) in
    record { fails = pair.1; spots = c.in_ok-network.network.spots; used = h.used; pair = pair.0 }

pub returns-in_err-modules-clause-gives : goal.returns-in_err-modules-clause-gives
returns-in_err-modules-clause-gives c = λ rules.
    let dev = c.args.device.now in
    let f = c.args.file.now in
    let h = c.in_ok-network.ensures.network in
    let apart = c.in_default.ensures dev f h (inputs_once dev f rules) in
    let p = err_from_is_err_and c.from_residual-in_err-modules.result c.from_residual-in_err-modules.ensures.1 in
    modules_refused dev f c.in_ok-network.network h apart c.from_residual-in_err-modules.result c.in_err-modules.field-0.0 p.0 (c.in_err-modules.ensures dev f h) p.1 p.2

pub returns-in_err-outputs-clause-gives : goal.returns-in_err-outputs-clause-gives
returns-in_err-outputs-clause-gives c = λ rules.
    let dev = c.args.device.now in
    let f = c.args.file.now in
    let h = c.in_ok-network.ensures.network in
    let apart = c.in_default.ensures dev f h (inputs_once dev f rules) in
    let p = err_from_is_err_and c.from_residual-in_err-outputs.result c.from_residual-in_err-outputs.ensures.1 in
    outputs_refused dev f c.in_ok-network.network h apart c.in_ok-modules.modules (c.in_ok-modules.ensures dev f h) c.from_residual-in_err-outputs.result c.in_err-outputs.field-0.0 p.0
    (c.in_err-outputs.ensures dev h (outputs_apart dev f rules)) p.1 p.2

pub returns-in_err-starts-clause-gives : goal.returns-in_err-starts-clause-gives
returns-in_err-starts-clause-gives c = λ rules.
    let dev = c.args.device.now in
    let f = c.args.file.now in
    let h = c.in_ok-network.ensures.network in
    let apart = c.in_default.ensures dev f h (inputs_once dev f rules) in
    let p = err_from_is_err_and c.from_residual-in_err-starts.result c.from_residual-in_err-starts.ensures.1 in
    starts_refused dev f c.in_ok-network.network h apart c.in_ok-modules.modules (c.in_ok-modules.ensures dev f h) c.in_ok-outputs.outputs (c.in_ok-outputs.ensures dev h (outputs_apart dev f rules))
    c.from_residual-in_err-starts.result c.in_err-starts.field-0.0 p.0 (subst (λ (xs : List Spot). GivesStarts f xs (Err c.in_err-starts.field-0.0)) c.spots.ensures c.in_err-starts.ensures) p.1 p.2

pub returns-clause-gives : goal.returns-clause-gives
returns-clause-gives c = λ rules.
    let dev = c.args.device.now in
    let f = c.args.file.now in
    let h = c.in_ok-network.ensures.network in
    let apart = c.in_default.ensures dev f h (inputs_once dev f rules) in
    let modules = c.in_ok-modules.ensures dev f h in
    let outputs = c.in_ok-outputs.ensures dev h (outputs_apart dev f rules) in
    let starts = subst (λ (xs : List Spot). GivesStarts f xs (Ok c.in_ok-starts.starts)) c.spots.ensures c.in_ok-starts.ensures in
    gives_circuit dev f c.in_ok-network.network h _ apart modules outputs starts.0 starts.1 c.into_spots.ensures c.in_ok-copy_of_name.ensures
    (c.in_ok-names_of.ensures ∙ ap (map (λ (port : Port). port.name)) c.as_slice.ensures)

use Rattle.std.proofs.Common.{ℕ, ◌≡◌, ◌+◌, List, length, get_or, sym, ap, subst, ◌∙◌, arith}
use Rattle.std.specs.Prelude.{slice_get}
use Rattle.std.proofs.lemmas.Option.{slice_get-get_or}
use Rattle.act1_circuit.specs.declared.circuit.Source.{Source}
use Rattle.act1_circuit.specs.declared.circuit.Spot.{Spot}
use Rattle.act1_array.specs.PartSteps.{AreModules}
use Rattle.act1_array.proofs.CircuitLemmas.{modules_more, first_floating}
use Rattle.act1_array.proofs.modules.modules_of.Goals as goal

pub returns-in-Err : goal.returns-in-Err
returns-in-Err c = λ dev f h.
    let corner : Spot = record { row = 0; column = 0 } in
    let i = c.loop-spot.spot-index in
    let spots = c.spots-spot-items.result.now in
    let s = get_or spots i corner in
    let at = ap (λ (xs : List Spot). slice_get xs i) (sym c.spots-spot-items.ensures) ∙ slice_get-get_or spots i corner c.loop-spot-test.true in
    first_floating dev f c.args.network.now h i s c.in-Err.pin c.loop-spot.modules at (c.loop-spot.invariant dev f h) (c.in-Err.ensures dev f h)

pub loop-spot-preserved : goal.loop-spot-preserved
loop-spot-preserved c = λ dev f h.
    let corner : Spot = record { row = 0; column = 0 } in
    let i = c.loop-spot.spot-index in
    let spots = c.spots-spot-items.result.now in
    let s = get_or spots i corner in
    let at = ap (λ (xs : List Spot). slice_get xs i) (sym c.spots-spot-items.ensures) ∙ slice_get-get_or spots i corner c.loop-spot-test.true in
    let more = modules_more dev f c.args.network.now h i s c.loop-spot.modules c.in-Ok.sources at (c.loop-spot.invariant dev f h) (c.in-Ok.ensures dev f h) in
    subst (λ (modules : List (List Source)). AreModules dev f c.args.network.now.spots (i + 1) modules) (sym c.in_ok-push-in-Ok.ensures.ok) more

pub returns : goal.returns
returns c = λ dev f h.
    let len = ap (λ (xs : List Spot). length xs) c.spots-spot-items.ensures in
    let high = c.loop-spot-test.false in
    let low = c.loop-spot.auto.spot-index-end in
    let is : c.loop-spot.spot-index ≡ length c.args.network.now.spots = omega arith in
    subst (λ (n : ℕ). AreModules dev f c.args.network.now.spots n c.loop-spot.modules) is (c.loop-spot.invariant dev f h)

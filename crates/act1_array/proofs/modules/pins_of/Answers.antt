use Rattle.std.proofs.Common.{ℕ, ◌+◌, refl, sym, subst}
use Rattle.std.specs.Prelude.{slice_set}
use Rattle.act1_array.proofs.CircuitLemmas.{ArePins, pins_more, pins_end, pins_fed}
use Rattle.act1_array.proofs.modules.pins_of.Goals as goal

pub returns-in-None : goal.returns-in-None
returns-in-None c = λ dev f h.
    let pins = c.loop-pin.invariant dev f h in
    (c.loop-pin-test.true, c.in-None.ensures dev f h (λ none. none), pins_fed dev f c.args.network.now.spots c.args.spot c.args.network.now h refl c.loop-pin.pin c.loop-pin.sources pins)

pub loop-pin-preserved : goal.loop-pin-preserved
loop-pin-preserved c = λ dev f h.
    let pins = c.loop-pin.invariant dev f h in
    let more = pins_more dev f c.args.network.now.spots c.args.spot c.loop-pin.pin c.loop-pin.sources c.in-Some.source c.loop-pin-test.true pins (c.in-Some.ensures dev f h (λ none. none)) in
    subst (λ (k : ℕ). ArePins dev f c.args.network.now.spots c.args.spot (c.loop-pin.pin + 1) (slice_set c.loop-pin.sources k c.in-Some.source)) (sym c.from.ensures) more

pub returns : goal.returns
returns c = λ dev f h. pins_end dev f c.args.network.now.spots c.args.spot c.loop-pin.pin c.loop-pin.sources c.loop-pin-test.false (c.loop-pin.invariant dev f h)

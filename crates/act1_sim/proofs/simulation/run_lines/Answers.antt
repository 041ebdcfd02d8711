use Rattle.std.proofs.Common.{◌≡◌, ◌∷◌, length, map, ap, ◌∙◌, arith}
use Rattle.std.specs.Str.Lines.{lines}
use Rattle.act1_engine.specs.Engines.{engine_bits}
use Rattle.act1_sim.specs.Vectors.{bits_of}
use Rattle.act1_sim.proofs.CycleSteps.{begins_all, stops_at, spot_at, goes_on}
use Rattle.act1_sim.proofs.LineTexts.{few_lines}
use Rattle.act1_sim.proofs.simulation.run_lines.Goals as goal

pub loop-line-init : goal.loop-line-init
loop-line-init c =
    let all : c.into_iter-line-iterator.result ≡ lines c.args.vectors.now = c.into_iter-line-iterator.ensures.into_iter_gives ∙ c.new-line-items.ensures in
    let few = few_lines c.args.vectors.now in
    record {
      can = tt;
      finite = tt;
      few = omega (arith, few, ap length all);
      is = c.requires.is;
      goes = begins_all c.args.placed.now.circuit (engine_bits c.args.engine.now) (map bits_of (lines c.args.vectors.now)) (map bits_of c.into_iter-line-iterator.result) c.new-text.result.items (ap (map bits_of) all) c.new-text.ensures.items;
    }

pub returns-in-Err-Fault-clause-err : goal.returns-in-Err-Fault-clause-err
returns-in-Err-Fault-clause-err c =
    stops_at c.args.placed.now _ _ c.loop-line.cycle _ _ (map bits_of c.next.new.self) _ _ c.in-Err-Fault.module _ c.requires.spots
    (ap (map bits_of) c.in-Some.ensures.steps) c.loop-line.invariant.goes (rw c.in-Err-Fault.field-0-is at c.in-Err-Fault.ensures.err)
    (spot_at c.args.placed.now.spots c.as_slice.result.now c.in-Err-Fault.module c.from.result _ c.as_slice.ensures (cc))

pub loop-line-preserved : goal.loop-line-preserved
loop-line-preserved c =
    let cut : c.loop-line.line-iterator ≡ c.in-Some.line.now ∷ c.next.new.self = c.in-Some.ensures.steps in
    record {
      can = tt;
      finite = tt;
      few = omega (arith, ap length cut, c.loop-line.invariant.few);
      is = c.run_cycle.ensures.is;
      goes = goes_on c.args.placed.now.circuit _ _ c.loop-line.cycle _ _ (bits_of c.in-Some.line.now) (map bits_of c.next.new.self) _ _ _
          (ap (map bits_of) cut) c.loop-line.invariant.goes c.in-Ok.ensures.rests c.in-Ok.ensures.bits c.in-Ok.ensures.text;
    }

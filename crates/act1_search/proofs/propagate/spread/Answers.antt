use Rattle.std.proofs.Common.{true}
use Rattle.act1_search.proofs.Growing.{grows_on, truth_grown, kept_off_more}
use Rattle.act1_search.proofs.propagate.spread.Goals as goal

pub returns-in-Some-clause-grows : goal.returns-in-Some-clause-grows
returns-in-Some-clause-grows c = grows_on c.args.problem.now c.args.trail.now.entries c.loop-other.trail.entries c.keep_off.new.trail.entries c.loop-other.invariant.1 c.keep_off.ensures.grows

pub loop-other-preserved : goal.loop-other-preserved
loop-other-preserved c =
    let p = c.args.problem.now in
    let before = c.loop-other.trail.entries in
    let after = c.keep_off.new.trail.entries in
    let g = c.keep_off.ensures.grows in (
      c.keep_off.ensures.size,
      grows_on p c.args.trail.now.entries before after c.loop-other.invariant.1 g,
      truth_grown p before after c.args.choice true g c.loop-other.invariant.2,
      kept_off_more p before after c.args.choice c.loop-other.other g c.loop-other.invariant.3 c.in-None.ensures.answer,
    )

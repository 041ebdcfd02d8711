use Rattle.act1_channel.proofs.Tables.{has_place}
use Rattle.act1_channel.proofs.Truths.{undecided_none}
use Rattle.act1_refute.specs.HintSteps.{part_at}
use Rattle.act1_refute.proofs.HintLemmas.{part_in_range}
use Rattle.act1_refute.proofs.steps.add.Goals as goal

pub put-requires-clause-place : goal.put-requires-clause-place
put-requires-clause-place c =
    has_place c.args.problem.now c.args.trail.now c.args.choice c.requires.size
    (part_in_range c.args.problem.now c.args.earlier.now c.requires.steps c.args.hint (part_at c.args.hint c.args.choice) c.requires.unit.clause c.requires.unit.part)

pub put-requires-clause-free : goal.put-requires-clause-free
put-requires-clause-free c = undecided_none c.args.trail.now.entries c.args.choice c.requires.unit.undecided

use Rattle.act1_engine.proofs.MarkSteps.{first_above, none_above}
use Rattle.act1_engine.proofs.marks.first_in_word.Goals as goal

pub returns-in-Some-clause-some : goal.returns-in-Some-clause-some
returns-in-Some-clause-some c = first_above c.args.words.now c.args.from c.in-Some.bit c.in-Some.ensures.some

pub returns-in-None-clause-none : goal.returns-in-None-clause-none
returns-in-None-clause-none c = none_above c.args.words.now c.args.from c.in-None.ensures.none

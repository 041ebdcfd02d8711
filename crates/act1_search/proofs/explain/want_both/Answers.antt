use Rattle.act1_channel.specs.Assignment.{choice_at}
use Rattle.act1_search.proofs.explain.want_both.Goals as goal

pub returns-clause-one : goal.returns-clause-one
returns-clause-one c = c.want-2.ensures.keeps.kept (choice_at c.args.first c.args.track) c.want.ensures.own

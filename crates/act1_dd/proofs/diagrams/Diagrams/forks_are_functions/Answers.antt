use Rattle.act1_dd.proofs.Descents.{under_is_fork, fork_is_under}
use Rattle.act1_dd.proofs.diagrams.Diagrams.forks_are_functions.Goals as goal

pub returns-clause-each : goal.returns-clause-each
returns-clause-each c = under_is_fork c.args.self.now c.are_reduced.ensures c.args.f c.requires

pub returns-clause-all : goal.returns-clause-all
returns-clause-all c = fork_is_under c.args.self.now c.are_reduced.ensures c.args.f c.requires

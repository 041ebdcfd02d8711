use Rattle.act1_dd.proofs.Canonical.{same_refs, different_refs}
use Rattle.act1_dd.proofs.diagrams.Diagrams.refs_are_functions.Goals as goal

pub returns-clause-same : goal.returns-clause-same
returns-clause-same c = same_refs c.args.self.now c.are_reduced.ensures c.args.f c.args.g c.requires.f c.requires.g

pub returns-clause-differ : goal.returns-clause-differ
returns-clause-differ c = different_refs c.args.self.now c.are_reduced.ensures c.args.f c.args.g c.requires.f c.requires.g

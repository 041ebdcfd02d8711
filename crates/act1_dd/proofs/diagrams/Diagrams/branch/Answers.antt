use Rattle.std.proofs.Common.{List, sym, subst}
use Rattle.act1_dd.specs.declared.refs.Branch.{Branch}
use Rattle.act1_dd.specs.Diagram.{IsBranchOf}
use Rattle.act1_dd.proofs.Growing.{branch_of}
use Rattle.act1_dd.proofs.diagrams.Diagrams.branch.Goals as goal

pub returns : goal.returns
returns c =
    subst (λ (forks : List Branch). IsBranchOf forks c.args.node c.in-Some.branch.now) c.self.view_is
    (branch_of c.self.inside.forks.keys c.args.node c.in-Some.branch.now c.self.invariant.0 (sym c.in-Some.ensures.key))

use Rattle.std.proofs.Common.{List, true, None, ap, sym, subst}
use Rattle.act1_channel.specs.declared.trail.Entry.{Entry}
use Rattle.act1_channel.specs.Found.{Found}
use Rattle.act1_search.specs.Propagation.{AreInside}
use Rattle.act1_search.proofs.Levels.{inside_more, pending_at}
use Rattle.act1_search.proofs.propagate.take_on.Goals as goal

pub propagate-requires-clause-inside : goal.propagate-requires-clause-inside
propagate-requires-clause-inside c =
    let is = ap (λ (f : Found). f.entries) c.put.ensures in
    subst (λ (xs : List Entry). AreInside c.args.problem.now xs) (sym is) (inside_more c.args.problem.now c.args.trail.now.entries _ c.requires.inside c.requires.choice)

pub propagate-requires-clause-pending : goal.propagate-requires-clause-pending
propagate-requires-clause-pending c =
    let is = ap (λ (f : Found). f.entries) c.put.ensures in
    pending_at c.args.problem.now c.args.trail.now.entries c.put.new.self.entries (record { choice = c.args.choice; truth = true; why = None }) c.len-from.result is c.len-from.ensures.len c.requires.free c.requires.choice c.requires.settled

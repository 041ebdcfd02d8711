use Rattle.std.proofs.Common.{List, length, take, ap, sym, subst, ◌∙◌}
use Rattle.std.specs.Prelude.{slice_get}
use Rattle.std.specs.List.{AllZip}
use Rattle.act1_cover.specs.declared.forest.Fork.{Fork}
use Rattle.act1_cover.specs.Visiting.{IsForkFor}
use Rattle.act1_cover.proofs.Numbered.{parts_ready, zip_more}
use Rattle.act1_cover.proofs.numbering.forks_for.Goals as goal

pub fork_for-requires-clause-low : goal.fork_for-requires-clause-low
fork_for-requires-clause-low c = (parts_ready c.args.store.now c.requires.store c.args.root c.args.found.now.keys c.requires.visited c.len.result c.in-Some.node.now (sym c.in-Some.ensures.key)).1

pub fork_for-requires-clause-high : goal.fork_for-requires-clause-high
fork_for-requires-clause-high c = (parts_ready c.args.store.now c.requires.store c.args.root c.args.found.now.keys c.requires.visited c.len.result c.in-Some.node.now (sym c.in-Some.ensures.key)).2

pub fork_for-requires-clause-low_found : goal.fork_for-requires-clause-low_found
fork_for-requires-clause-low_found c = (parts_ready c.args.store.now c.requires.store c.args.root c.args.found.now.keys c.requires.visited c.len.result c.in-Some.node.now (sym c.in-Some.ensures.key)).3

pub fork_for-requires-clause-high_found : goal.fork_for-requires-clause-high_found
fork_for-requires-clause-high_found c = (parts_ready c.args.store.now c.requires.store c.args.root c.args.found.now.keys c.requires.visited c.len.result c.in-Some.node.now (sym c.in-Some.ensures.key)).4

pub loop-node-preserved : goal.loop-node-preserved
loop-node-preserved c =
    let store = c.args.store.now in
    let keys = c.args.found.now.keys in
    let at = ap (slice_get keys) (sym c.len.ensures) ∙ sym c.in-Some.ensures.key in
    subst (λ (forks : List Fork). AllZip (IsForkFor store keys) (take (length forks) keys) forks) (sym c.in_ok-push.ensures.ok)
    (zip_more (IsForkFor store keys) keys c.loop-node.forks c.in-Some.node.now c.in_ok-fork_for.field-0 c.loop-node.invariant at c.in_ok-fork_for.ensures)

use Rattle.std.proofs.Common.{List, length, take, ap, sym, ◌∙◌}
use Rattle.std.specs.Prelude.{slice_get}
use Rattle.act1_dd.specs.declared.refs.Branch.{Branch}
use Rattle.act1_cover.proofs.StoreGrows.{front_longer}
use Rattle.act1_cover.proofs.chain.listed.Goals as goal

pub loop-branch-preserved : goal.loop-branch-preserved
loop-branch-preserved c =
    let keys = c.args.store.now.keys in
    let at = ap (slice_get keys) (sym c.len.ensures) ∙ sym c.in-Some.ensures.key in
    c.in_ok-push.ensures.ok ∙ front_longer keys c.loop-branch.branches c.in-Some.branch.now c.loop-branch.invariant at ∙ ap (λ (bs : List Branch). take (length bs) keys) (sym c.in_ok-push.ensures.ok)

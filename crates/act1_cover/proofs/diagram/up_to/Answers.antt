use Rattle.std.proofs.Common.{ℕ, ◌≡◌, take, ap, ◌∙◌, arith}
use Rattle.act1_cover.proofs.StoreGrows.{front_next}
use Rattle.act1_cover.proofs.diagram.up_to.Goals as goal

pub loop-older-preserved : goal.loop-older-preserved
loop-older-preserved c =
    c.in_ok-push.ensures.ok ∙ front_next c.args.diagrams.now c.loop-older.branches c.loop-older.older c.branch-diagrams.result c.loop-older.invariant c.branch-diagrams.ensures.place

pub returns : goal.returns
returns c =
    let diagrams = c.args.diagrams.now in
    let ended = c.loop-older-test.false in
    let end = c.loop-older.auto.older-end in
    let is : c.loop-older.older ≡ c.args.node = omega arith in
    c.in_ok-push-2.ensures.ok ∙ front_next diagrams c.loop-older.branches c.args.node c.branch-diagrams-2.result (c.loop-older.invariant ∙ ap (λ (n : ℕ). take n diagrams) is) c.branch-diagrams-2.ensures.place

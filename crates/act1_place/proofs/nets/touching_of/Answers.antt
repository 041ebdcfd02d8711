use Rattle.std.proofs.Common.{ℕ, ◌≡◌, ◌+◌, sym, subst, arith}
use Rattle.act1_place.specs.Gains.{AreTouching}
use Rattle.act1_place.proofs.NetFinds.{numbers_push}
use Rattle.act1_place.proofs.nets.touching_of.Goals as goal

pub loop-module-preserved : goal.loop-module-preserved
loop-module-preserved c =
    subst (AreTouching (c.loop-module.module + 1) c.args.nets.now) (sym c.in_ok-push.ensures.items)
    (numbers_push c.args.nets.now c.loop-module.module c.loop-module.found.items c.in_ok-touching.field-0 c.loop-module.invariant c.in_ok-touching.ensures)

pub returns : goal.returns
returns c =
    let most = c.loop-module.auto.module-end in
    let least = c.loop-module-test.false in
    let count : c.loop-module.module ≡ c.args.count = omega (arith, most, least) in
    subst (AreTouching c.args.count c.args.nets.now) (sym c.from_vec.ensures) (subst (λ (n : ℕ). AreTouching n c.args.nets.now c.loop-module.found.items) count c.loop-module.invariant)

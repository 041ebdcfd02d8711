use Rattle.std.proofs.Common.{ℕ, ◌-◌, ◌∙◌, get_or, refl, sym, subst, arith}
use Rattle.act1_channel.specs.Acceptance.{IsBefore}
use Rattle.act1_channel.specs.Assignment.{choice_at}
use Rattle.act1_refute.proofs.ConflictLemmas.{rises_at, rises_from}
use Rattle.act1_refute.proofs.steps.are_in_order.Goals as goal

pub returns-then-not-is_before : goal.returns-then-not-is_before
returns-then-not-is_before c = (
  λ e. cc,
  λ order.
      let first = c.loop-i.auto.i in
      sym c.if-not-is_before.true ∙ c.is_before.ensures.1 (rises_at c.args.choices.now order.rise (c.loop-i.i - 1) c.loop-i.i (choice_at 0 0) (omega arith) c.loop-i-test.true),
)

pub returns : goal.returns
returns c = (
  λ e. record { within = c.loop-i.invariant.0; rise = rises_from c.args.choices.now (λ k j d next low. let all = c.loop-i-test.false in subst (λ (n : ℕ). IsBefore (get_or c.args.choices.now k d) (get_or c.args.choices.now n d)) next (c.loop-i.invariant.1 k d (omega arith))) },
  λ order. refl,
)

use Rattle.std.proofs.Common.{ℕ, ◌≡◌, ◌+◌, ◌-◌, ◌∙◌, ◌++◌, ◌∷◌, [], List, length, reverse, refl, ap, subst, arith}
use Rattle.act1_channel.specs.declared.problem.Hint.{Hint}
use Rattle.act1_channel.specs.Acceptance.{choices_of}
use Rattle.act1_search.specs.Explaining.{is_wanted}
use Rattle.act1_search.proofs.Explains.{Ready}
use Rattle.act1_search.proofs.Reasons.{first_ready, next_ready, last_ready, more_hints, reversed_back}
use Rattle.act1_search.proofs.explain.explain.Goals as goal

pub loop-at-init : goal.loop-at-init
loop-at-init c =
    let last = c.len-at.ensures.len in
    let one = c.in_ok-push.ensures.items ∙ ap (λ (hs : List Hint). hs ++ c.args.broken ∷ []) c.new-hints.ensures.items in
    let long = ap (λ (hs : List Hint). length hs) one in
    (refl, omega arith, omega arith, λ chosen is. first_ready c.args.problem.now (choices_of c.args.steps.now) c.args.trail.now.entries c.want_parts.new.wanted c.args.wanted.now c.args.broken c.push.new.self.items c.len-at.result c.requires.broken c.want_parts.ensures one last chosen is)

pub add_reason-requires-clause-there : goal.add_reason-requires-clause-there
add_reason-requires-clause-there c =
    let fits = c.requires.inside (c.loop-at.at - 1) c.entry.result c.entry.ensures.entry in
    (fits.0, fits.1)

pub loop-at-preserved : goal.loop-at-preserved
loop-at-preserved c =
    let adds = c.in_ok-add_reason.ensures.adds in
    let low = c.loop-at-test.true in
    let within = c.loop-at.invariant.1 in
    let some = c.loop-at.invariant.2 in
    let room = c.in_ok-add_reason.ensures.room in (
      room ∙ c.loop-at.invariant.0,
      omega arith,
      more_hints c.args.problem.now (choices_of c.args.steps.now) c.entry.result c.loop-at.wanted c.add_reason.new.wanted c.loop-at.hints.items c.add_reason.new.hints.items some adds,
      λ chosen is. next_ready c.args.problem.now (choices_of c.args.steps.now) c.args.trail.now.entries c.loop-at.wanted c.add_reason.new.wanted c.loop-at.hints.items c.add_reason.new.hints.items (c.loop-at.at - 1) c.entry.result c.entry.ensures.entry some adds chosen is
          (subst (λ (n : ℕ). Ready c.args.problem.now (choices_of c.args.steps.now) chosen c.args.trail.now.entries is n (is_wanted c.args.problem.now c.loop-at.wanted) (reverse c.loop-at.hints.items)) (let e : c.loop-at.at ≡ c.loop-at.at - 1 + 1 = omega arith in e) (c.loop-at.invariant.3 chosen is)),
    )

pub returns-clause-shown : goal.returns-clause-shown
returns-clause-shown c = λ chosen is.
    let none = c.loop-at-test.false in
    let value = c.as_mut_slice.ensures.value in
    let after = c.reverse.ensures.after in
    let vec = c.from_vec.ensures in
    let ok = c.loop-at.hints.ok.0 in
    let long : c.loop-at.hints.len ≡ length c.loop-at.hints.items = omega arith in
    last_ready c.args.problem.now (choices_of c.args.steps.now) c.args.trail.now.entries c.loop-at.wanted c.loop-at.hints.items c.from_vec.result c.loop-at.at (omega arith) (vec ∙ reversed_back c.loop-at.hints.items c.as_mut_slice.result.now c.reverse.new.self _ c.loop-at.hints.len after value long) chosen is (c.loop-at.invariant.3 chosen is)

use Rattle.std.proofs.Common.{◌≡◌, ◌+◌, ◌<◌, Bool, true, false, Option, Some, None, length, refl, sym, subst, ◌∙◌, true≢false}
use Rattle.std.specs.Option.{option_eq}
use Rattle.act1_channel.specs.Assignment.{choice_at}
use Rattle.act1_channel.specs.Found.{facts_of, Tell}
use Rattle.act1_refute.specs.StatusSteps.{IsAllowedBelow, IsStatus}
use Rattle.act1_refute.specs.declared.status.Status.{Status}
use Rattle.act1_refute.proofs.HintLemmas.{refused_below, barred_below, allowed_below}
use Rattle.act1_refute.proofs.hints.with_track.Goals as goal
use mathlib.Core.Bool.{beq}

is_refused : (o : Option Bool) → true ≡ option_eq beq o (Some false) → o ≡ Some false
is_refused None e = absurd (true≢false e)
is_refused (Some true) e = absurd (true≢false e)
is_refused (Some false) e = refl

pub returns-then-eq : goal.returns-then-eq
returns-then-eq c =
    let facts = facts_of c.args.trail.now.entries in
    let told = subst (λ (o : Option Bool). Tell facts (choice_at c.args.connection c.args.track) o) (is_refused c.known-known.result (sym c.if-eq.true ∙ c.eq.ensures)) c.known-known.ensures in
    refused_below c.args.problem.now facts (c.args.connection < length c.args.problem.now.connections) c.args.connection c.args.track c.args.status c.requires.status told.0

pub returns-then-not-allowed : goal.returns-then-not-allowed
returns-then-not-allowed c =
    let facts = facts_of c.args.trail.now.entries in
    barred_below c.args.problem.now facts (c.args.connection < length c.args.problem.now.connections) c.args.connection c.args.track c.args.status c.requires.status
    (λ ok. true≢false (sym (c.allowed.ensures.1 ok) ∙ c.if-not-allowed.true))

pub returns : goal.returns
returns c =
    let p = c.args.problem.now in
    let facts = facts_of c.args.trail.now.entries in
    let is = allowed_below p facts (c.args.connection < length p.connections) c.args.connection c.args.track c.args.status c.requires.status c.known-known.result (c.allowed.ensures.0 c.if-not-allowed.false) c.known-known.ensures in
    subst (λ (s : Status). IsStatus facts (c.args.connection < length p.connections) true (IsAllowedBelow p c.args.connection (c.args.track + 1)) s) (sym c.with_part.ensures) is

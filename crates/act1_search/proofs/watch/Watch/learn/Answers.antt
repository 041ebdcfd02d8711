use Rattle.std.proofs.Common.{◌<◌, ◌≡◌, ◌-◌, ◌++◌, ◌∷◌, [], List, length, map, take, Some, sym, ap, subst, ◌∙◌, arith}
use Rattle.std.proofs.lemmas.List.{length-map}
use Rattle.act1_base.proofs.ListGets.{get_read}
use Rattle.act1_channel.specs.declared.problem.Choice.{Choice}
use Rattle.act1_channel.specs.declared.problem.Hint.TheVariants as hint
use Rattle.act1_channel.specs.declared.problem.Step.{Step}
use Rattle.act1_channel.specs.Acceptance.{LeadToConflict, choices_of}
use Rattle.act1_channel.specs.Clauses.{taken}
use Rattle.act1_search.specs.Explaining.{AreStepsAllowed}
use Rattle.act1_search.specs.Trail.{IsTrail}
use Rattle.act1_search.proofs.Logged.{clause_is, choices_more, logged_step, steps_allowed}
use Rattle.act1_search.proofs.Watches.{learn_ready, learn_keeps, last_there}
use Rattle.act1_search.proofs.watch.Watch.learn.Goals as goal

pub hints_of-requires-clause-steps : goal.hints_of-requires-clause-steps
hints_of-requires-clause-steps c =
    let w = c.self.inside in
    subst (λ (l : List Step). AreStepsAllowed w.problem.now (choices_of l)) (sym c.as_slice.ensures.value) (steps_allowed w.problem.now (choices_of w.steps.items) (take w.depth w.chosen.items) c.self.invariant.0.watched)

pub hints_of-requires-clause-broken : goal.hints_of-requires-clause-broken
hints_of-requires-clause-broken c =
    let w = c.self.inside in
    let conflict = rw (← c.self.view_is) at c.requires.conflict in
    clause_is w.problem.now (choices_of w.steps.items) (take w.depth w.chosen.items) w.trail (take w.depth w.marks.items) w.broken c.self.invariant.0 conflict

pub take_back-self-inside-requires-clause-mark : goal.take_back-self-inside-requires-clause-mark
take_back-self-inside-requires-clause-mark c =
    let w = c.self.inside in
    let some = rw (← c.self.view_is) at c.requires.some in
    let there = last_there w.trail.places w.chosen.items w.marks.items w.depth c.self.invariant.1 some in
    let mark = get_read w.marks.items (w.depth - 1) c.index-mark.result.now there.2 c.index-mark.ensures in
    let choice = get_read w.chosen.items (w.depth - 1) c.index-choice.result.now there.1 c.index-choice.ensures in
    (learn_ready w.problem.now (choices_of w.steps.items) w.chosen.items w.trail w.marks.items w.broken w.depth (w.depth - 1) c.index-mark.result.now c.index-choice.result.now (Some (hint.Step c.len-number.result)) c.self.invariant.0 there.0 mark choice).0

pub take_back-self-inside-requires-clause-choice : goal.take_back-self-inside-requires-clause-choice
take_back-self-inside-requires-clause-choice c =
    let w = c.self.inside in
    let some = rw (← c.self.view_is) at c.requires.some in
    let there = last_there w.trail.places w.chosen.items w.marks.items w.depth c.self.invariant.1 some in
    let mark = get_read w.marks.items (w.depth - 1) c.index-mark.result.now there.2 c.index-mark.ensures in
    let choice = get_read w.chosen.items (w.depth - 1) c.index-choice.result.now there.1 c.index-choice.ensures in
    (learn_ready w.problem.now (choices_of w.steps.items) w.chosen.items w.trail w.marks.items w.broken w.depth (w.depth - 1) c.index-mark.result.now c.index-choice.result.now (Some (hint.Step c.len-number.result)) c.self.invariant.0 there.0 mark choice).2

pub take_back-self-inside-requires-clause-free : goal.take_back-self-inside-requires-clause-free
take_back-self-inside-requires-clause-free c =
    let w = c.self.inside in
    let some = rw (← c.self.view_is) at c.requires.some in
    let there = last_there w.trail.places w.chosen.items w.marks.items w.depth c.self.invariant.1 some in
    let mark = get_read w.marks.items (w.depth - 1) c.index-mark.result.now there.2 c.index-mark.ensures in
    let choice = get_read w.chosen.items (w.depth - 1) c.index-choice.result.now there.1 c.index-choice.ensures in
    (learn_ready w.problem.now (choices_of w.steps.items) w.chosen.items w.trail w.marks.items w.broken w.depth (w.depth - 1) c.index-mark.result.now c.index-choice.result.now (Some (hint.Step c.len-number.result)) c.self.invariant.0 there.0 mark choice).1

pub take_back-self-inside-requires-clause-pending : goal.take_back-self-inside-requires-clause-pending
take_back-self-inside-requires-clause-pending c =
    let w = c.self.inside in
    let some = rw (← c.self.view_is) at c.requires.some in
    let there = last_there w.trail.places w.chosen.items w.marks.items w.depth c.self.invariant.1 some in
    let mark = get_read w.marks.items (w.depth - 1) c.index-mark.result.now there.2 c.index-mark.ensures in
    let choice = get_read w.chosen.items (w.depth - 1) c.index-choice.result.now there.1 c.index-choice.ensures in
    (learn_ready w.problem.now (choices_of w.steps.items) w.chosen.items w.trail w.marks.items w.broken w.depth (w.depth - 1) c.index-mark.result.now c.index-choice.result.now (Some (hint.Step c.len-number.result)) c.self.invariant.0 there.0 mark choice).3

pub invariant_of-self-2 : goal.invariant_of-self-2
invariant_of-self-2 c =
    let w = c.self.inside in
    let p = w.problem.now in
    let log = w.steps.items in
    let chosen = take w.depth w.chosen.items in
    let some = rw (← c.self.view_is) at c.requires.some in
    let conflict = rw (← c.self.view_is) at c.requires.conflict in
    let there = last_there w.trail.places w.chosen.items w.marks.items w.depth c.self.invariant.1 some in
    let mark = get_read w.marks.items (w.depth - 1) c.index-mark.result.now there.2 c.index-mark.ensures in
    let choice = get_read w.chosen.items (w.depth - 1) c.index-choice.result.now there.1 c.index-choice.ensures in
    let step : c.in_ok-choices.choices ≡ chosen = c.in_ok-choices.ensures ∙ ap (λ (xs : List Choice). take w.depth xs) c.deref.ensures.value in
    let grown = c.in_ok-push.ensures.items ∙ ap (λ (cs : List Choice). log ++ record { choices = cs; hints = c.in_ok-hints.hints } ∷ []) step in
    let number : c.len-number.result ≡ length (choices_of log) = (let long = w.steps.ok.0 in let is = c.len-number.ensures in let size = length-map log (λ (s : Step). s.choices) in omega arith) in
    let e = c.take_back-self-inside.ensures in
    let trail = subst (λ (l : List Step). IsTrail p (choices_of l) chosen w.trail.entries) (sym c.as_slice.ensures.value) c.self.invariant.0.level.trail in
    let own = subst (λ (l : List Step). LeadToConflict p (choices_of l) (map taken chosen) c.in_ok-hints.hints) c.as_slice.ensures.value (c.in_ok-hints.ensures.shown chosen trail) in
    let few = (let long = w.steps.ok.0 in let is = c.len.ensures in let low = c.if-len-ge4294967294.false in let h : length log < 4294967294 = omega arith in h) in
    let kept = learn_keeps p (choices_of log) (choices_of c.push.new.self.items) w.chosen.items w.trail c.take_back-self-inside.new.trail w.marks.items w.broken c.take_back-self-inside.result w.depth (w.depth - 1) c.index-mark.result.now c.len-number.result c.index-choice.result.now
    c.self.invariant.0 c.self.invariant.1 conflict there.0 mark choice (ap (λ (l : List Step). choices_of l) grown ∙ choices_more log (record { choices = chosen; hints = c.in_ok-hints.hints })) number e.size e.grows e.answer in
    (kept.0, kept.1, logged_step p log c.push.new.self.items chosen c.in_ok-hints.hints w.trail c.take_back-self-inside.new.trail w.wanted.items c.hints_of.new.wanted.items grown few own c.in_ok-hints.ensures.room c.self.invariant.0.size e.size c.self.invariant.2)

use Rattle.std.proofs.Common.{List, ◌++◌, ◌∷◌, [], map, take, ap, subst, sym, ◌∙◌}
use Rattle.act1_channel.specs.declared.problem.Choice.{Choice}
use Rattle.act1_channel.specs.declared.problem.Step.{Step}
use Rattle.act1_channel.specs.Acceptance.{LeadToConflict, choices_of}
use Rattle.act1_channel.specs.Clauses.{taken}
use Rattle.act1_search.specs.Explaining.{AreStepsAllowed}
use Rattle.act1_search.specs.Trail.{IsTrail}
use Rattle.act1_search.proofs.Logged.{clause_is, log_whole, steps_allowed}
use Rattle.act1_search.proofs.watch.Watch.into_log.Goals as goal

pub hints_of-requires-clause-steps : goal.hints_of-requires-clause-steps
hints_of-requires-clause-steps c =
    let w = c.self.inside in
    subst (λ (l : List Step). AreStepsAllowed w.problem.now (choices_of l)) (sym c.as_slice.ensures.value) (steps_allowed w.problem.now (choices_of w.steps.items) (take w.depth w.chosen.items) c.self.invariant.0.watched)

pub hints_of-requires-clause-broken : goal.hints_of-requires-clause-broken
hints_of-requires-clause-broken c =
    let w = c.self.inside in
    let conflict = rw (← c.self.view_is) at c.requires.conflict in
    clause_is w.problem.now (choices_of w.steps.items) (take w.depth w.chosen.items) w.trail (take w.depth w.marks.items) w.broken c.self.invariant.0 conflict

pub returns : goal.returns
returns c =
    let w = c.self.inside in
    let p = w.problem.now in
    let chosen = take w.depth w.chosen.items in
    let none = rw (← c.self.view_is) at c.requires.none in
    let trail = subst (λ (l : List Step). IsTrail p (choices_of l) chosen w.trail.entries) (sym c.as_slice.ensures.value) c.self.invariant.0.level.trail in
    let own = subst (λ (l : List Step). LeadToConflict p (choices_of l) (map taken chosen) c.in_ok-hints.hints) c.as_slice.ensures.value (c.in_ok-hints.ensures.shown chosen trail) in
    let grown = c.in_ok-push.ensures.items ∙ ap (λ (cs : List Choice). w.steps.items ++ record { choices = cs; hints = c.in_ok-hints.hints } ∷ []) c.new.ensures in
    rw (← c.self.view_is) (log_whole p w.steps.items c.push.new.self.items c.in_ok-hints.hints chosen grown none c.self.invariant.2.shown c.self.invariant.2.few own)

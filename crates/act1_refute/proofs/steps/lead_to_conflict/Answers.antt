use Rattle.std.proofs.Common.{◌↔◌, ◌+◌, List, drop, sym, subst}
use Rattle.act1_channel.specs.Acceptance.{choices_of, LeadToConflict}
use Rattle.act1_channel.specs.Clauses.{Fact}
use Rattle.act1_channel.specs.Found.{facts_of}
use Rattle.act1_refute.proofs.ConflictLemmas.{ends_here, goes_on}
use Rattle.act1_refute.proofs.steps.lead_to_conflict.Goals as goal

pub returns-in-Contradicted-clause-answer : goal.returns-in-Contradicted-clause-answer
returns-in-Contradicted-clause-answer c =
    ends_here c.args.problem.now (choices_of c.args.earlier.now) (facts_of c.args.trail.now.entries) (facts_of c.loop-i.trail.entries) c.args.hints.now c.loop-i.i _ c.loop-i-test.true c.loop-i.invariant.1 c.in-Contradicted.ensures

pub loop-i-preserved : goal.loop-i-preserved
loop-i-preserved c =
    let steps = choices_of c.args.earlier.now in
    let before = facts_of c.args.trail.now.entries in
    let on = goes_on c.args.problem.now steps before (facts_of c.loop-i.trail.entries) c.args.hints.now c.loop-i.i _ c.loop-i-test.true c.loop-i.invariant.1 _ c.in-Unit.ensures in (
      c.add.ensures.size,
      subst (λ (facts : List Fact). LeadToConflict c.args.problem.now steps facts (drop (c.loop-i.i + 1) c.args.hints.now) ↔ LeadToConflict c.args.problem.now steps before c.args.hints.now) (sym c.add.ensures.facts) on,
    )

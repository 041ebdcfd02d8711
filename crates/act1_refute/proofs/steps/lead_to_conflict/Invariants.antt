use Rattle.std.proofs.Common.{◌↔◌, drop}
use Rattle.act1_channel.specs.Acceptance.{choices_of, LeadToConflict}
use Rattle.act1_channel.specs.Found.{facts_of, IsFor}
use Rattle.act1_refute.proofs.steps.lead_to_conflict.Given as goal

-- what is to come decides
abbrev pub invariant-loop-i : goal.invariant-loop-i
invariant-loop-i l =
    IsFor l.problem l.trail
    × (LeadToConflict l.problem (choices_of l.earlier) (facts_of l.trail.entries) (drop l.i l.hints) ↔ LeadToConflict l.problem (choices_of l.earlier) (facts_of l.initial.trail.entries) l.hints)

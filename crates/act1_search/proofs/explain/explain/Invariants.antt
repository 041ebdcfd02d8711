use Rattle.std.proofs.Common.{◌≡◌, ◌<◌, ◌≤◌, List, length, reverse}
use Rattle.act1_channel.specs.declared.problem.Choice.{Choice}
use Rattle.act1_channel.specs.Acceptance.{choices_of}
use Rattle.act1_search.specs.Explaining.{is_wanted}
use Rattle.act1_search.specs.Trail.{IsTrail}
use Rattle.act1_search.proofs.Explains.{Ready}
use Rattle.act1_search.proofs.explain.explain.Given as goal

-- the hints so far lead to a conflict from any facts that have those with a mark among the ones that are left
abbrev pub invariant-loop-at : goal.invariant-loop-at
invariant-loop-at l =
    (length l.wanted ≡ length l.initial.wanted) × (l.at ≤ length l.trail.entries) × (0 < length l.hints.items)
    × ((chosen : List Choice) (is : IsTrail l.problem (choices_of l.steps) chosen l.trail.entries) → Ready l.problem (choices_of l.steps) chosen l.trail.entries is l.at (is_wanted l.problem l.wanted) (reverse l.hints.items))

abbrev pub decreases-loop-at : goal.decreases-loop-at
decreases-loop-at l = l.at

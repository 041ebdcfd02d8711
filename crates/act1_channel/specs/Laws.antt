-- What overlaps a segment, and what an accepted log shows.
use Rattle.std.specs.Prelude.{ℕ, ◌↔◌, ◌≤◌, List}
use Rattle.act1_channel.specs.declared.problem.Problem.{Problem}
use Rattle.act1_channel.specs.declared.problem.Step.{Step}
use Rattle.act1_channel.specs.Assignment.{first_segment, last_segment, Assigns, Overlaps}
use Rattle.act1_channel.specs.Acceptance.{IsAccepted}

-- a connection overlaps a segment exactly where it lies between those of its first and its last column
abbrev pub SegmentsAreThoseBetween : Type 0
SegmentsAreThoseBetween = (p : Problem) (c t segment : ℕ)
    → Overlaps p c t segment ↔ ((first_segment p c t ≤ segment) × (segment ≤ last_segment p c t))

-- a channel with an accepted log has no assignment
abbrev pub AcceptedLogsRefute : Type 0
AcceptedLogsRefute = (p : Problem) (log : List Step) → IsAccepted p log → (tracks : List ℕ) → Assigns p tracks → ⊥

-- How the code tests an assignment.
use Rattle.std.specs.Prelude.{ℕ, ◌≡◌, ◌≤◌, List, slice_get, Some}
use Rattle.act1_channel.specs.declared.problem.Problem.{Problem}
use Rattle.act1_channel.specs.Assignment.{first_segment, last_segment, DoClash}

-- neither connection begins in a segment behind that in which the other one ends
abbrev pub DoEndsMeet : Problem → ℕ → ℕ → ℕ → Type 0
DoEndsMeet p c d t = (first_segment p c t ≤ last_segment p d t) × (first_segment p d t ≤ last_segment p c t)

-- two connections have one track and clash there
abbrev pub DoMeet : Problem → List ℕ → ℕ → ℕ → Type 0
DoMeet p tracks c d = (t : ℕ) × (slice_get tracks c ≡ Some t) × (slice_get tracks d ≡ Some t) × DoClash p c d t

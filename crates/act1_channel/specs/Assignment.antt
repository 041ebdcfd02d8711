-- Segmented channels after Greene and others: what a connection overlaps, which tracks it may take, which connections clash, and assignments.
use Rattle.std.specs.Prelude.{ℕ, ◌≡◌, ◌+◌, ◌-◌, ◌<◌, ◌≤◌, nat_le, List, [], length, slice_get, slice_index_or, count_by, Some}
use Rattle.act1_channel.specs.declared.problem.Problem.{Problem}
use Rattle.act1_channel.specs.declared.problem.Connection.{Connection}
use Rattle.act1_channel.specs.declared.problem.Choice.{Choice}

-- a connection, by its number
abbrev pub connection_at : Problem → ℕ → Connection
connection_at p c = slice_index_or p.connections c (record { left = 0; right = 0 })

-- the choice of a connection and a track
abbrev pub choice_at : ℕ → ℕ → Choice
choice_at c t = record { connection = c; track = t }

-- the segment of a column on a track, from 0: as many as the track has breaks up to it
abbrev pub segment_at : Problem → ℕ → ℕ → ℕ
segment_at p t column = count_by (λ b. nat_le b column) (slice_index_or p.tracks t [])

-- a connection overlaps a segment of a track that a column of its interval lies in
abbrev pub Overlaps : Problem → ℕ → ℕ → ℕ → Type 0
Overlaps p c t segment =
    (column : ℕ) × ((connection_at p c).left ≤ column) × (column ≤ (connection_at p c).right) × (segment_at p t column ≡ segment)

-- the segments of its first and of its last column
abbrev pub first_segment : Problem → ℕ → ℕ → ℕ
first_segment p c t = segment_at p t (connection_at p c).left

abbrev pub last_segment : Problem → ℕ → ℕ → ℕ
last_segment p c t = segment_at p t (connection_at p c).right

-- how many segments a connection overlaps: from that of its first column to that of its last
abbrev pub segments : Problem → ℕ → ℕ → ℕ
segments p c t = last_segment p c t + 1 - first_segment p c t

-- connection and track are there, and the connection overlaps at most k segments of the track
abbrev pub IsAllowed : Problem → Choice → Type 0
IsAllowed p choice =
    (choice.connection < length p.connections) × (choice.track < length p.tracks) × (segments p choice.connection choice.track ≤ p.k)

-- the connections overlap a common segment of the track
abbrev pub DoClash : Problem → ℕ → ℕ → ℕ → Type 0
DoClash p c d t = (segment : ℕ) × Overlaps p c t segment × Overlaps p d t segment

-- each connection may take its track
abbrev pub AreAllowed : Problem → List ℕ → Type 0
AreAllowed p tracks = (c t : ℕ) → slice_get tracks c ≡ Some t → IsAllowed p (choice_at c t)

-- no two connections on one track clash there
abbrev pub AreApart : Problem → List ℕ → Type 0
AreApart p tracks = (c d t : ℕ) → c < d → slice_get tracks c ≡ Some t → slice_get tracks d ≡ Some t → DoClash p c d t → ⊥

-- an assignment: an allowed track for each connection, without a clash
pub record Assigns (p : Problem) (tracks : List ℕ) : Type 0 where
  pub each : length tracks ≡ length p.connections
  pub allowed : AreAllowed p tracks
  pub apart : AreApart p tracks

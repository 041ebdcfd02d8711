-- The table beside a trail, with the fact about each choice.
use Rattle.std.specs.Prelude.{ℕ, ◌≡◌, ◌≢◌, ◌+◌, ◌<◌, ◌≤◌, Bool, true, false, Option, Some, None, List, length, take, slice_get, slice_index_or, count_by}
use Rattle.act1_channel.specs.declared.problem.Choice.{Choice}
use Rattle.act1_channel.specs.declared.trail.Entry.{Entry}
use Rattle.act1_channel.specs.Found.{place, truth_in}

-- no choice stands there twice
abbrev pub AreDistinct : List Entry → Type 0
AreDistinct entries =
    (m n : ℕ) (d e : Entry) → m < n → slice_get entries m ≡ Some d → slice_get entries n ≡ Some e → d.choice ≢ e.choice

abbrev pub is_empty_place : Option Bool → Bool
is_empty_place None = true
is_empty_place (Some b) = false

-- the table has the fact about each choice of the first entries, which speak of different choices that have a place
pub record IsTable (entries : List Entry) (used : ℕ) (table : List (Option Bool)) (tracks : ℕ) : Type 0 where
  pub few : tracks ≤ 64
  pub room : length entries ≡ length table
  pub count : used + count_by is_empty_place table ≡ length table
  pub within : (n : ℕ) (e : Entry) → slice_get (take used entries) n ≡ Some e → (e.choice.track < tracks) × (place tracks e.choice < length table)
  pub distinct : AreDistinct (take used entries)
  pub agrees : (c : Choice) → c.track < tracks → slice_index_or table (place tracks c) None ≡ truth_in (take used entries) c

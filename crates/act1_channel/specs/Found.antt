-- What contracts see of a trail: the facts that were found, in their order.
use Rattle.std.specs.Prelude.{ℕ, ◌≡◌, ◌+◌, ◌*◌, ◌<◌, ◌&&◌, nat_eq, cond, Bool, not, Option, Some, None, List, [], ◌∷◌, length, map, Contains}
use Rattle.act1_channel.specs.declared.problem.Problem.{Problem}
use Rattle.act1_channel.specs.declared.problem.Choice.{Choice}
use Rattle.act1_channel.specs.declared.trail.Entry.{Entry}
use Rattle.act1_channel.specs.Clauses.{Fact, IsUndecided}

-- the facts with their reasons, for how many choices there is room, and for how many tracks
pub record Found : Type 0 where
  pub entries : List Entry
  pub places : ℕ
  pub tracks : ℕ

abbrev pub fact_of : Entry → Fact
fact_of e = record { choice = e.choice; truth = e.truth }

abbrev pub facts_of : List Entry → List Fact
facts_of entries = map fact_of entries

-- the place of a choice in a table
abbrev pub place : ℕ → Choice → ℕ
place tracks c = c.connection * tracks + c.track

-- there is room for the choice
abbrev pub HasPlace : Found → Choice → Type 0
HasPlace found c = (c.track < found.tracks) × (place found.tracks c < found.places)

-- there is room for the choices of the channel
abbrev pub IsFor : Problem → Found → Type 0
IsFor p found = (found.tracks ≡ length p.tracks) × (found.places ≡ length p.connections * length p.tracks)

-- whether the choice is taken or refused, by the first entry about it
unfoldable pub truth_in : List Entry → Choice → Option Bool
truth_in [] c = None
truth_in (e ∷ entries) c =
    cond (nat_eq e.choice.connection c.connection && nat_eq e.choice.track c.track) (Some e.truth) (truth_in entries c)

-- what the facts tell of a choice: nothing, or that it is taken or refused, and not both
abbrev pub Tell : List Fact → Choice → Option Bool → Type 0
Tell facts c None = IsUndecided facts c
Tell facts c (Some b) = Contains facts (record { choice = c; truth = b }) × (Contains facts (record { choice = c; truth = not b }) → ⊥)

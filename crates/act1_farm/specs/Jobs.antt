-- What the calls for helpers leave: the story grown by that of the jobs, the tickets as they were, and the counts.
use Rattle.std.specs.Prelude.{ℕ, ◌≡◌, ◌+◌, ◌-◌, ◌^◌, ◌<◌, ◌≤◌, ◌⊎◌, suc, List, [], ◌∷◌, ◌++◌, slice_get, count_by, Option, Some, All, Contains}
use Rattle.std.specs.Option.{option_map}
use Rattle.act1_outside.specs.Outside.{Bench}
use Rattle.act1_outside.specs.declared.helpers.Entry.{Entry}
use Rattle.act1_outside.specs.declared.helpers.Entry.TheVariants as entry
use Rattle.act1_farm.specs.Story.{AreInOrder, IsStory, unfinished, asks, is_fault}

-- the story with these entries more, where it is told
abbrev pub grown : List Entry → Option (List Entry) → Option (List Entry)
grown s story = option_map (λ old. old ++ s) story

-- tickets that rise, from a least one on and below another
abbrev pub Climb : ℕ → List ℕ → ℕ → Type 0
Climb low [] high = low ≤ high
Climb low (t ∷ ts) high = (low ≤ t) × Climb (suc t) ts high

-- the count rose by so much, or stands at the greatest `u64`
abbrev pub RoseBy : ℕ → ℕ → ℕ → Type 0
RoseBy n before now = (before + n ≤ now) ⊎ (2 ^ 64 - 1 ≤ now)

-- the entries so far, between two sights of the helpers: in order, told where a story is, with their unfinished tickets open besides those of before
pub record AreMade (program : List ℕ) (jobs : List (List ℕ)) (most : ℕ) (start now : Bench) (s : List Entry) (tickets : List ℕ) : Type 0 where
  pub order : AreInOrder program jobs most [] s
  pub left : unfinished s ≡ tickets
  pub told : now.story ≡ grown s start.story
  pub opened : now.open_tickets ≡ start.open_tickets ++ tickets
  pub climb : Climb start.next tickets now.next
  pub older : All (λ t. t < start.next) start.open_tickets
  pub known : (i t : ℕ) → slice_get (asks s) i ≡ Some (Some t) → t < now.next
  pub once : (i j t : ℕ) → slice_get (asks s) i ≡ Some (Some t) → slice_get (asks s) j ≡ Some (Some t) → i ≡ j
  pub answered : (t : ℕ) (bytes : List ℕ) → Contains s (entry.Answered t bytes) → t < now.next
  pub faults : RoseBy (count_by is_fault s) start.faults now.faults

-- the story grew by the front of a story of these jobs, where one is told
pub record BeganStory (program : List ℕ) (jobs : List (List ℕ)) (most : ℕ) (before after : Bench) : Type 0 where
  pub s : List Entry
  pub rest : List Entry
  pub story : IsStory program jobs most (s ++ rest)
  pub told : after.story ≡ grown s before.story

-- How far nets reach, as it is kept while modules change places.
use Rattle.std.specs.Prelude.{ℕ, Option, Some, None, ◌⊎◌, ◌≡◌, ◌+◌, ◌-◌, ◌*◌, ◌<◌, ◌≤◌, ◌==◌, if◌then◌else◌, true, not, Bool, min, max, List, [], ◌∷◌, length, map, filter, slice_get, slice_index_or, sum_by, Contains}
use Rattle.std.specs.List.{list_any}
use Rattle.act1_circuit.specs.declared.circuit.Spot.{Spot}
use Rattle.act1_place.specs.declared.ends.Reach.{Reach}
use Rattle.act1_place.specs.declared.ends.Ends.{Ends}
use Rattle.act1_place.specs.declared.ends.Change.{Change}
use Rattle.act1_place.specs.declared.net.Joins.{Joins}
use Rattle.act1_place.specs.declared.net.Place.{Place}
use Rattle.act1_place.specs.Kept.{net_at, net_sum, joins, spot_of}
use Rattle.act1_place.specs.Moves.{columns_with, heights_with}
use Rattle.act1_place.specs.Perimeter.{place_of, spread}

-- the least of what was seen, where one module's is left out
abbrev pub least_but : Reach → ℕ → ℕ
least_but r m = if m == r.module then r.rest else r.least

-- from the least to the greatest, with this module at this number; what is seen forwards is told from 255 down
abbrev pub span_with : Reach → Reach → ℕ → ℕ → ℕ
span_with back forth m number = max (255 - least_but forth m) number - min (least_but back m) number

abbrev pub width_with : Ends → ℕ → ℕ → ℕ
width_with e m column = span_with e.left e.right m column

abbrev pub height_with : Ends → ℕ → ℕ → ℕ
height_with e m row = span_with e.low e.high m (2 * row + 1)

-- what is kept of a net: its half perimeter, and what tells it with one of its modules in any column and row
pub record AreEnds (spots : List Spot) (n : Joins) (e : Ends) : Type 0 where
  pub sum : e.sum ≡ net_sum spots n
  pub width : (m column : ℕ) → m < 65535 → column ≤ 255 → joins m n ≡ true → width_with e m column ≡ spread (columns_with spots m column n)
  pub height : (m row : ℕ) → m < 65535 → row ≤ 31 → joins m n ≡ true → height_with e m row ≡ spread (heights_with spots m row n)

-- it is kept of each net
pub record AreAllEnds (nets : List Joins) (spots : List Spot) (ends : List Ends) : Type 0 where
  pub each : length ends ≡ length nets
  pub at : (i : ℕ) (e : Ends) → slice_get ends i ≡ Some e → AreEnds spots (net_at nets i) e

-- one element more was seen, of this module and with this number
pub record IsReachWith (before : Reach) (m number : ℕ) (after : Reach) : Type 0 where
  pub order : before.least ≤ before.rest → after.least ≤ after.rest
  pub without : before.least ≤ before.rest → (k : ℕ) → least_but after k ≡ (if m == k then least_but before k else min (least_but before k) number)

-- one place more was seen, of this module
pub record AreEndsWith (before : Ends) (m : ℕ) (p : Place) (after : Ends) : Type 0 where
  pub left : IsReachWith before.left m p.x after.left
  pub right : IsReachWith before.right m (255 - p.x) after.right
  pub low : IsReachWith before.low m p.y after.low
  pub high : IsReachWith before.high m (255 - p.y) after.high
  pub small : (p.x ≤ 255) × (p.y ≤ 255)

-- the listed nets' ends are renewed, and no others
pub record AreRenewed (nets : List Joins) (spots : List Spot) (listed : List ℕ) (before after : List Ends) : Type 0 where
  pub each : length after ≡ length before
  pub at : (i : ℕ) (e : Ends) → slice_get after i ≡ Some e → AreEnds spots (net_at nets i) e ⊎ ((Contains listed i → ⊥) × (slice_get before i ≡ Some e))

-- the number is one of these
abbrev pub has : List ℕ → ℕ → Bool
has ns n = list_any (λ k. k == n) ns

-- the first numbers that aren't among the second
abbrev pub without : List ℕ → List ℕ → List ℕ
without ns ms = filter (λ n. not (has ms n)) ns

abbrev pub ends_at : List Ends → ℕ → Ends
ends_at ends i = slice_index_or ends i (record { left = record { least = 0; «module» = 0; rest = 0 }; right = record { least = 0; «module» = 0; rest = 0 }; low = record { least = 0; «module» = 0; rest = 0 }; high = record { least = 0; «module» = 0; rest = 0 }; sum = 0 })

-- the half perimeter with the module at this spot
abbrev pub half_with : Ends → ℕ → Spot → ℕ
half_with e m s = width_with e m s.column + height_with e m s.row

-- the half perimeters of the first nets that aren't among the second, now and with a module at this spot
pub record IsChange (ends : List Ends) (listed others : List ℕ) (m : ℕ) (to : Spot) (c : Change) : Type 0 where
  pub before : c.before ≡ sum_by (λ i. (ends_at ends i).sum) (without listed others)
  pub after : c.after ≡ sum_by (λ i. half_with (ends_at ends i) m to) (without listed others)
  pub few : (c.before ≤ 65536 * length listed) × (c.after ≤ 65536 * length listed)

-- an element of a net: a module, or 65535 for a pad, and its place
pub record Element : Type 0 where
  pub owner : ℕ
  pub place : Place

abbrev pub module_elements : List Spot → List ℕ → List Element
module_elements spots ms = map (λ m. let e : Element = record { owner = m; place = place_of (spot_of spots m) } in e) ms

abbrev pub pad_elements : List Place → List Element
pad_elements ps = map (λ p. let e : Element = record { owner = 65535; place = p } in e) ps

-- the least number, at most 255, of the elements that aren't this module's
abbrev pub least_without : (Place → ℕ) → ℕ → List Element → ℕ
least_without f k [] = 255
least_without f k (e ∷ es) = if e.owner == k then least_without f k es else min (f e.place) (least_without f k es)

-- these elements were seen in one direction
pub record IsSeen (f : Place → ℕ) (es : List Element) (r : Reach) : Type 0 where
  pub order : r.least ≤ r.rest
  pub without : (k : ℕ) → least_but r k ≡ least_without f k es

abbrev pub AreSmall : List Element → Type 0
AreSmall [] = Unit {0}
AreSmall (e ∷ es) = (e.place.x ≤ 255) × (e.place.y ≤ 255) × AreSmall es

pub record AreSeen (es : List Element) (e : Ends) : Type 0 where
  pub left : IsSeen (λ (p : Place). p.x) es e.left
  pub right : IsSeen (λ (p : Place). 255 - p.x) es e.right
  pub low : IsSeen (λ (p : Place). p.y) es e.low
  pub high : IsSeen (λ (p : Place). 255 - p.y) es e.high
  pub small : AreSmall es

-- the module's number, if there is one
abbrev pub number_of : Option ℕ → ℕ
number_of None = 0
number_of (Some m) = m

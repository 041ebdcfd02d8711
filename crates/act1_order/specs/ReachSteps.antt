-- What leads to some vertices, and what is known of it in the middle of a search.
use Rattle.std.specs.Prelude.{ℕ, ◌≡◌, List, [], ◌+◌, ◌<◌, ◌≤◌, Bool, true, false, not, min, Contains, Option, Some, None, slice_get, length, count_by, ◌⊎◌}
use Rattle.act1_order.specs.Order.{Reads, OnRing}
use Rattle.act1_order.specs.Reach.{IsReached}
use Rattle.act1_order.specs.ClosingSteps.{LeadsFrom}
use Rattle.act1_order.specs.declared.reach.Reached.{Reached}

-- the vertex has a mark
abbrev pub IsMarked : List Bool → ℕ → Type 0
IsMarked marks w = slice_get marks w ≡ Some true

-- how many vertices have no mark
abbrev pub unmarked : List Bool → ℕ
unmarked marks = count_by not marks

-- some vertices were marked, and those that hadn't been were left to be looked at
pub record Marks (vertices : List ℕ) (old new : Reached) : Type 0 where
  pub all : length new.marks.items ≡ length old.marks.items
  pub kept : (u : ℕ) → IsMarked old.marks.items u → IsMarked new.marks.items u
  pub marked : (u : ℕ) → Contains vertices u → IsMarked new.marks.items u
  pub only : (u : ℕ) → IsMarked new.marks.items u → IsMarked old.marks.items u ⊎ (Contains vertices u × Contains new.left.items u)
  pub left_kept : (u : ℕ) → Contains old.left.items u → Contains new.left.items u
  pub left_marked : (u : ℕ) → Contains new.left.items u → Contains old.left.items u ⊎ IsMarked new.marks.items u
  pub same : unmarked new.marks.items + length new.left.items ≡ unmarked old.marks.items + length old.left.items

-- some of these vertices is marked
pub record HasMarked (marks : List Bool) (vertices : List ℕ) : Type 0 where
  pub vertex : ℕ
  pub there : Contains vertices vertex
  pub marked : IsMarked marks vertex

-- each vertex at p or later is marked, and each marked one leads to one of these; what reads a marked vertex is marked, unless that one is still to be looked at
pub record AreReached (reads : List (List ℕ)) (order : List ℕ) (p : ℕ) (s : Reached) : Type 0 where
  pub all : length s.marks.items ≡ length reads
  pub leads : (u : ℕ) → IsMarked s.marks.items u → LeadsFrom reads order p u
  pub late : (q z : ℕ) → p ≤ q → slice_get order q ≡ Some z → IsMarked s.marks.items z
  pub left_marked : (u : ℕ) → Contains s.left.items u → IsMarked s.marks.items u
  pub closed : (u w : ℕ) → IsMarked s.marks.items w → Reads reads u w → IsMarked s.marks.items u ⊎ Contains s.left.items w

-- the marked vertices are those that lead to one at p or later
pub record AreMarkedFrom (reads : List (List ℕ)) (order : List ℕ) (p : ℕ) (s : Reached) : Type 0 where
  pub reached : AreReached reads order p s
  pub none_left : s.left.items ≡ []

-- the least of those found and one more, if that one lies on a ring
abbrev pub least_with : Option ℕ → ℕ → Bool → Option ℕ
least_with found v false = found
least_with None v true = Some v
least_with (Some first) v true = Some (min first v)

-- the least vertex on a ring of those at p or later, or none
abbrev pub IsLeastFrom : List (List ℕ) → List ℕ → ℕ → Option ℕ → Type 0
IsLeastFrom reads order p None = (q z : ℕ) → p ≤ q → slice_get order q ≡ Some z → OnRing reads z → ⊥
IsLeastFrom reads order p (Some first) = (first < length reads) × OnRing reads first × ((q z : ℕ) → p ≤ q → slice_get order q ≡ Some z → OnRing reads z → first ≤ z)

-- each root is marked, and each marked vertex is one that the roots lead to; what a marked vertex reads is marked, unless the vertex is still to be looked at
pub record IsReaching (reads : List (List ℕ)) (roots : List ℕ) (s : Reached) : Type 0 where
  pub all : length s.marks.items ≡ length reads
  pub only : (u : ℕ) → IsMarked s.marks.items u → IsReached reads roots u
  pub roots_marked : (u : ℕ) → Contains roots u → IsMarked s.marks.items u
  pub left_marked : (u : ℕ) → Contains s.left.items u → IsMarked s.marks.items u
  pub closed : (u w : ℕ) → IsMarked s.marks.items u → Reads reads u w → IsMarked s.marks.items w ⊎ Contains s.left.items u

-- What some vertices of a directed graph lead to.
use Rattle.std.specs.Prelude.{ℕ, ◌≡◌, ◌⊎◌, Bool, true, List, Some, Contains, slice_get, length}
use Rattle.act1_order.specs.Order.{LeadsTo}

-- w is one of the roots, or one of them reads it, or reads what reads it, and so on
abbrev pub IsReached : List (List ℕ) → List ℕ → ℕ → Type 0
IsReached reads roots w = Contains roots w ⊎ ((root : ℕ) × (path : List ℕ) × Contains roots root × LeadsTo reads root path w)

-- the marked vertices are those that the roots lead to
pub record AreReachedFrom (reads : List (List ℕ)) (roots : List ℕ) (marks : List Bool) : Type 0 where
  pub all : length marks ≡ length reads
  pub marked : (w : ℕ) → IsReached reads roots w → slice_get marks w ≡ Some true
  pub only : (w : ℕ) → slice_get marks w ≡ Some true → IsReached reads roots w

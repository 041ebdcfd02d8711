-- Directed graphs of vertices that are numbered from 0: what each vertex reads, rings, and orders in which sources come first.
use Rattle.std.specs.Prelude.{ℕ, ◌≡◌, ◌<◌, List, [], ◌∷◌, length, Some, slice_get, slice_index_or, Contains}
use Rattle.act1_order.specs.declared.ordering.Ordering.{Ordering}
use Rattle.act1_order.specs.declared.ordering.Ordering.TheVariants.{Order, Ring}

-- vertex v reads vertex w
abbrev pub Reads : List (List ℕ) → ℕ → ℕ → Type 0
Reads reads v w = Contains (slice_index_or reads v []) w

-- every vertex that is read is one of the graph
abbrev pub AreReads : List (List ℕ) → Type 0
AreReads reads = (v w : ℕ) → Reads reads v w → w < length reads

-- the path leads from v to w, where each vertex of it reads the next one
abbrev pub LeadsTo : List (List ℕ) → ℕ → List ℕ → ℕ → Type 0
LeadsTo reads v [] w = Reads reads v w
LeadsTo reads v (u ∷ path) w = Reads reads v u × LeadsTo reads u path w

-- v depends on itself
pub record OnRing (reads : List (List ℕ)) (v : ℕ) : Type 0 where
  pub path : List ℕ
  pub leads : LeadsTo reads v path v

-- w stands before the place p
pub record StandsBefore (order : List ℕ) (p w : ℕ) : Type 0 where
  pub place : ℕ
  pub before : place < p
  pub there : slice_get order place ≡ Some w

-- each vertex stands there once, and after each that it reads
pub record IsOrder (reads : List (List ℕ)) (order : List ℕ) : Type 0 where
  pub all : length order ≡ length reads
  pub inside : (p v : ℕ) → slice_get order p ≡ Some v → v < length reads
  pub once : (p q v : ℕ) → slice_get order p ≡ Some v → slice_get order q ≡ Some v → p ≡ q
  pub there : (v : ℕ) → v < length reads → Contains order v
  pub after : (p v w : ℕ) → slice_get order p ≡ Some v → Reads reads v w → StandsBefore order p w

-- v lies on a ring, and no vertex below it does
pub record IsFirstOnRing (reads : List (List ℕ)) (v : ℕ) : Type 0 where
  pub inside : v < length reads
  pub ring : OnRing reads v
  pub first : (w : ℕ) → w < v → OnRing reads w → ⊥

-- what is found of a graph
abbrev pub Orders : List (List ℕ) → Ordering → Type 0
Orders reads (Order order) = IsOrder reads order
Orders reads (Ring v) = IsFirstOnRing reads v

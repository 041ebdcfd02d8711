-- The order in which a search closes the vertices.
use Rattle.std.specs.Prelude.{ℕ, ◌≡◌, List, ◌+◌, ◌<◌, ◌≤◌, Contains, Some, slice_get, length, ◌⊎◌}
use Rattle.act1_order.specs.Order.{Reads, LeadsTo, StandsBefore}

-- v reads w, or one that depends on w
pub record DependsOn (reads : List (List ℕ)) (v w : ℕ) : Type 0 where
  pub path : List ℕ
  pub leads : LeadsTo reads v path w

-- where the vertex at p reads w, and w stands after q or nowhere yet, w depends on each vertex from p to q
abbrev pub ReadsBack : List (List ℕ) → List ℕ → Type 0
ReadsBack reads order = (p q v w x : ℕ) → slice_get order p ≡ Some v → Reads reads v w → p ≤ q → slice_get order q ≡ Some x → StandsBefore order (q + 1) w ⊎ DependsOn reads w x

-- all vertices stand there, once each, and a read is of one that stands before or that leads back
pub record IsClosingOrder (reads : List (List ℕ)) (order : List ℕ) : Type 0 where
  pub all : length order ≡ length reads
  pub inside : (p v : ℕ) → slice_get order p ≡ Some v → v < length reads
  pub once : (p q v : ℕ) → slice_get order p ≡ Some v → slice_get order q ≡ Some v → p ≡ q
  pub there : (v : ℕ) → v < length reads → Contains order v
  pub back : ReadsBack reads order

-- v is a vertex at p or later, or depends on one
pub record LeadsFrom (reads : List (List ℕ)) (order : List ℕ) (p v : ℕ) : Type 0 where
  pub place : ℕ
  pub vertex : ℕ
  pub late : p ≤ place
  pub there : slice_get order place ≡ Some vertex
  pub leads : (v ≡ vertex) ⊎ DependsOn reads v vertex

-- Which vertices read a vertex.
use Rattle.std.specs.Prelude.{ℕ, ◌≡◌, List, [], ◌<◌, ◌⊎◌, length, Contains, slice_index_or}
use Rattle.act1_order.specs.Order.{Reads}

-- for each vertex those that read it
pub record AreReaders (reads readers : List (List ℕ)) : Type 0 where
  pub all : length readers ≡ length reads
  pub to : (v w : ℕ) → Reads reads v w → Reads readers w v
  pub from : (v w : ℕ) → Reads readers w v → Reads reads v w

-- for each vertex those of the first so many that read it
pub record AreReadersBelow (reads : List (List ℕ)) (n : ℕ) (readers : List (List ℕ)) : Type 0 where
  pub all : length readers ≡ length reads
  pub to : (v w : ℕ) → v < n → Reads reads v w → Reads readers w v
  pub from : (v w : ℕ) → Reads readers w v → (v < n) × Reads reads v w

-- so many vertices with no readers
pub record HasNone (n : ℕ) (readers : List (List ℕ)) : Type 0 where
  pub all : length readers ≡ n
  pub none : (w : ℕ) → slice_index_or readers w [] ≡ []

-- these vertices have one more reader
pub record Adds (reader : ℕ) (vertices : List ℕ) (old new : List (List ℕ)) : Type 0 where
  pub all : length new ≡ length old
  pub kept : (w v : ℕ) → Reads old w v → Reads new w v
  pub added : (w : ℕ) → Contains vertices w → Reads new w reader
  pub only : (w v : ℕ) → Reads new w v → Reads old w v ⊎ ((v ≡ reader) × Contains vertices w)

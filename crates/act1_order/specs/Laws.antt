-- The laws of graphs: rings, orders and levels.
use Rattle.std.specs.Prelude.{ℕ, ◌<◌, ◌⊎◌, List}
use Rattle.act1_order.specs.Order.{AreReads, IsOrder, OnRing, Reads}

-- each vertex has a higher level than those that it reads
abbrev pub AreLevels : List (List ℕ) → (ℕ → ℕ) → Type 0
AreLevels reads level = (v w : ℕ) → Reads reads v w → level w < level v

-- a vertex lies on a ring or doesn't
abbrev pub RingOrNone : Type 0
RingOrNone = (reads : List (List ℕ)) → AreReads reads → (v : ℕ) → OnRing reads v ⊎ (OnRing reads v → ⊥)

-- where no vertex lies on a ring there are levels
abbrev pub LevelsWithoutRing : Type 0
LevelsWithoutRing = (reads : List (List ℕ)) → AreReads reads → ((v : ℕ) → OnRing reads v → ⊥) → (level : ℕ → ℕ) × AreLevels reads level

-- where vertices stand after those that they read, none lies on a ring
abbrev pub OrderWithoutRing : Type 0
OrderWithoutRing = (reads : List (List ℕ)) (order : List ℕ) → IsOrder reads order → (v : ℕ) → OnRing reads v → ⊥

-- Tilings with the fewest tiles, and what each tiling keeps.
use Rattle.std.specs.Prelude.{Contains, false, true, ℕ, Some, ◌⊎◌, ◌≡◌, ◌<◌, ◌≤◌, List, length, slice_get, AllPairs}
use Rattle.act1_cover.specs.declared.forest.Forest.{Forest}
use Rattle.act1_cover.specs.declared.forest.Term.TheVariants as term
use Rattle.act1_cover.specs.declared.tile.Shape.{Shape}
use Rattle.act1_cover.specs.declared.tile.Tile.{Tile}
use Rattle.act1_cover.specs.Tilings.{is_root, references, is_fork, low_of, high_of, ends, MayStand, shape_number, IsTiling}

-- each fork to which a part refers is there and of a lower level, each fork is the forest's root or referred to, and a fork that is no tree's root comes after the one that refers to it
pub record IsForest (forest : Forest) : Type 0 where
  pub level : ℕ → ℕ
  pub low : (k j : ℕ) → k < length forest.forks → low_of forest k ≡ term.Fork j → (j < length forest.forks) × (level j < level k)
  pub high : (k j : ℕ) → k < length forest.forks → high_of forest k ≡ term.Fork j → (j < length forest.forks) × (level j < level k)
  pub used : (k : ℕ) → k < length forest.forks → is_root forest k ≡ true ⊎ (0 < references forest k)
  pub root : (k : ℕ) → forest.root ≡ term.Fork k → k < length forest.forks
  pub rising : (k j : ℕ) → k < length forest.forks → is_root forest j ≡ false → (low_of forest k ≡ term.Fork j) ⊎ (high_of forest k ≡ term.Fork j) → k < j

-- a tiling, rising by its forks, such that no tiling of the forest has fewer tiles
pub record IsLeastTiling (forest : Forest) (tiles : List Tile) : Type 0 where
  pub tiling : IsTiling forest tiles
  pub rising : AllPairs (λ (s t : Tile). s.fork < t.fork) tiles
  pub least : (other : List Tile) → IsTiling forest other → length tiles ≤ length other

-- no tile has the shape 3 or 7
abbrev pub NoThreeNoSeven : Type 0
NoThreeNoSeven = (forest : Forest) → IsForest forest → (k : ℕ) (p : Shape) → MayStand forest k p → (shape_number p ≡ 3 → ⊥) × (shape_number p ≡ 7 → ⊥)

-- each tile of a tiling but that at the forest's root is referred to by a tile
abbrev pub EachTileIsRead : Type 0
EachTileIsRead = (forest : Forest) → IsForest forest → (tiles : List Tile) → IsTiling forest tiles → (i : ℕ) (t : Tile) → slice_get tiles i ≡ Some t → is_fork t.fork forest.root ≡ false
    → (j : ℕ) × (u : Tile) × (slice_get tiles j ≡ Some u) × Contains (ends forest u.fork u.shape) (term.Fork t.fork)

-- a tiling with the fewest tiles has at most as many as the forest has forks
abbrev pub LeastIsFew : Type 0
LeastIsFew = (forest : Forest) → IsForest forest → (tiles : List Tile) → IsLeastTiling forest tiles → length tiles ≤ length forest.forks

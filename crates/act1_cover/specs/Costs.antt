-- What the table of costs has, and what is left of it.
use Rattle.std.specs.Prelude.{ℕ, Some, ◌≡◌, ◌<◌, ◌≤◌, ◌+◌, ◌||◌, nat_lt, Bool, true, false, if◌then◌else◌, List, [], ◌∷◌, length, map, slice_get, slice_index_or, slice_set}
use Rattle.std.specs.List.{flat_map}
use Rattle.act1_cover.specs.declared.forest.Forest.{Forest}
use Rattle.act1_cover.specs.declared.forest.Term.{Term}
use Rattle.act1_cover.specs.declared.forest.Term.TheVariants as term
use Rattle.act1_cover.specs.declared.tile.Shape.{Shape}
use Rattle.act1_cover.specs.declared.tile.Tile.{Tile}
use Rattle.act1_cover.specs.declared.best.Best.{Best}
use Rattle.act1_cover.specs.declared.best.Choice.{Choice}
use Rattle.act1_cover.specs.Tilings.{total, one_if, times, is_root, inner, low_of, high_of, number_of, side, ends, MayStand, shape_number}

-- the number of tiles of a tree below a fork, if a tile of this shape stands there and each fork of the same tree to which it refers takes so many
abbrev pub tile_cost : Forest → (ℕ → ℕ) → ℕ → Shape → ℕ
tile_cost forest cost k p = 1 + total cost (flat_map (inner forest) (ends forest k p))

-- that of a side alone
abbrev pub side_cost : Forest → (ℕ → ℕ) → Bool → Term → ℕ
side_cost forest cost mux t = total cost (flat_map (inner forest) (side forest mux t))

-- the term is no fork that isn't there
abbrev pub IsWithin : Forest → Term → Type 0
IsWithin forest (term.Fork j) = j < length forest.forks
IsWithin forest term.Zero = Unit {0}
IsWithin forest term.One = Unit {0}
IsWithin forest (term.Var v) = Unit {0}

-- the parts of all forks are there
pub record AreWithin (forest : Forest) : Type 0 where
  pub low : (k : ℕ) → k < length forest.forks → IsWithin forest (low_of forest k)
  pub high : (k : ℕ) → k < length forest.forks → IsWithin forest (high_of forest k)

-- how often a fork was referred to, where more than two are told as two
abbrev pub capped : ℕ → ℕ
capped n = if nat_lt n 2 then n else 2

abbrev pub counted : List ℕ → Term → List ℕ
counted counts (term.Fork j) = slice_set counts j (capped (slice_index_or counts j 0 + 1))
counted counts term.Zero = counts
counted counts term.One = counts
counted counts (term.Var v) = counts

-- these are the counts of n forks, of the references g
abbrev pub AreCounts : ℕ → (ℕ → ℕ) → List ℕ → Type 0
AreCounts n g counts = (length counts ≡ n) × ((k : ℕ) → k < n → slice_index_or counts k 0 ≡ capped (g k))

-- which forks are roots
pub record AreRoots (forest : Forest) (roots : List Bool) : Type 0 where
  pub count : length roots ≡ length forest.forks
  pub each : (k : ℕ) → k < length forest.forks → slice_index_or roots k false ≡ is_root forest k

-- a side may be so: a multiplexer is a fork of the same tree
abbrev pub MaySide : Forest → Bool → Term → Type 0
MaySide forest mux t = mux ≡ true → inner forest t ≡ number_of t ∷ []

-- a fork may have the OR form
abbrev pub MayOr : Forest → ℕ → Bool → Type 0
MayOr forest k or_form = or_form ≡ true → (inner forest (low_of forest k) ≡ number_of (low_of forest k) ∷ []) × (high_of forest (number_of (low_of forest k)) ≡ high_of forest k)

-- the entry of a fork, and its cost
abbrev pub plain : Shape
plain = record { or_form = false; high_side = false; low_side = false }

abbrev pub no_best : Best
no_best = record { cost = 0; shape = plain }

abbrev pub best_in : List Best → ℕ → Best
best_in table k = slice_index_or table k no_best

abbrev pub cost_in : List Best → ℕ → ℕ
cost_in table k = (best_in table k).cost

-- a tile of this shape may stand at the fork, and costs so much, and no tile that may stand there and whose shape is of a lower number costs less
pub record IsChoice (forest : Forest) (cost : ℕ → ℕ) (k most : ℕ) (c : Choice) : Type 0 where
  pub stands : MayStand forest k c.shape
  pub is : c.cost ≡ tile_cost forest cost k c.shape
  pub least : (p : Shape) → shape_number p < most → MayStand forest k p → c.cost ≤ tile_cost forest cost k p

-- the entry of a fork is the least choice
pub record IsBest (forest : Forest) (cost : ℕ → ℕ) (k : ℕ) (best : Best) : Type 0 where
  pub stands : MayStand forest k best.shape
  pub is : best.cost ≡ tile_cost forest cost k best.shape
  pub least : (p : Shape) → MayStand forest k p → best.cost ≤ tile_cost forest cost k p

-- the entries from the fork m on are the least choices, for any costs that agree with them
pub record AreBestFrom (forest : Forest) (m : ℕ) (table : List Best) : Type 0 where
  pub count : length table ≡ length forest.forks
  pub each : (cost : ℕ → ℕ) → ((j : ℕ) → m ≤ j → cost j ≡ cost_in table j) → (j : ℕ) → m ≤ j → j < length forest.forks → IsBest forest cost j (best_in table j)

-- the forks of the same tree to which a tile refers
abbrev pub refers : Forest → Tile → List ℕ
refers forest t = flat_map (inner forest) (ends forest t.fork t.shape)

-- the marks with these forks marked too
abbrev pub marked : List Bool → List ℕ → List Bool
marked marks [] = marks
marked marks (j ∷ js) = marked (slice_set marks j true) js

-- a fork is wanted: it is a root, or a tile refers to it
abbrev pub is_wanted : Forest → List Tile → ℕ → Bool
is_wanted forest tiles j = is_root forest j || nat_lt 0 (times j (flat_map (refers forest) tiles))

-- the tiles so far, of the forks below m: one at each that is wanted, of the shape in the table
pub record IsPass (forest : Forest) (table : List Best) (m : ℕ) (marks : List Bool) (tiles : List Tile) : Type 0 where
  pub count : length marks ≡ length forest.forks
  pub marks_are : (j : ℕ) → j < length forest.forks → slice_index_or marks j false ≡ is_wanted forest tiles j
  pub chosen : (i : ℕ) (t : Tile) → slice_get tiles i ≡ Some t → (t.fork < m) × (t.shape ≡ (best_in table t.fork).shape)
  pub once : (j : ℕ) → j < m → times j (map (λ (t : Tile). t.fork) tiles) ≡ one_if (is_wanted forest tiles j)
  pub rising : (i j : ℕ) (s t : Tile) → i < j → slice_get tiles i ≡ Some s → slice_get tiles j ≡ Some t → s.fork < t.fork

-- Tiles, each of which one module can be, and tilings of a forest by them.
use Rattle.std.specs.Prelude.{ℕ, Some, ◌≡◌, ◌<◌, ◌+◌, ◌==◌, ◌||◌, nat_lt, Bool, true, false, if◌then◌else◌, List, [], ◌∷◌, ◌++◌, length, map, slice_get, slice_index_or, Contains}
use Rattle.std.specs.List.{flat_map}
use Rattle.act1_cover.specs.declared.forest.Forest.{Forest}
use Rattle.act1_cover.specs.declared.forest.Fork.{Fork}
use Rattle.act1_cover.specs.declared.forest.Term.{Term}
use Rattle.act1_cover.specs.declared.forest.Term.TheVariants as term
use Rattle.act1_cover.specs.declared.tile.Shape.{Shape}
use Rattle.act1_cover.specs.declared.tile.Tile.{Tile}

-- the sum of a number for each element
abbrev pub total : {X : Type 0} → (X → ℕ) → List X → ℕ
total g [] = 0
total g (x ∷ xs) = g x + total g xs

-- 1 for the same number, and 0 for another; how often a number stands in a list
abbrev pub one_if : Bool → ℕ
one_if true = 1
one_if false = 0

abbrev pub times : ℕ → List ℕ → ℕ
times k xs = total (λ j. one_if (j == k)) xs

-- the parts of a fork, by its number
abbrev pub no_fork : Fork
no_fork = record { var = 0; low = term.Zero; high = term.Zero }

abbrev pub low_of : Forest → ℕ → Term
low_of forest k = (slice_index_or forest.forks k no_fork).low

abbrev pub high_of : Forest → ℕ → Term
high_of forest k = (slice_index_or forest.forks k no_fork).high

-- the term is this fork
abbrev pub is_fork : ℕ → Term → Bool
is_fork k (term.Fork j) = j == k
is_fork k term.Zero = false
is_fork k term.One = false
is_fork k (term.Var v) = false

-- how many places refer to a fork: the parts of forks that are it
abbrev pub places : ℕ → Fork → ℕ
places k fork = one_if (is_fork k fork.low) + one_if (is_fork k fork.high)

abbrev pub references : Forest → ℕ → ℕ
references forest k = total (places k) forest.forks

-- the fork is the root of a tree: the forest's root, or one to which more than one place refers
abbrev pub is_root : Forest → ℕ → Bool
is_root forest k = is_fork k forest.root || nat_lt 1 (references forest k)

-- the forks of the same tree that a term is: one or none
abbrev pub inner : Forest → Term → List ℕ
inner forest (term.Fork j) = if is_root forest j then [] else j ∷ []
inner forest term.Zero = []
inner forest term.One = []
inner forest (term.Var v) = []

-- the number of the fork that a term is
abbrev pub number_of : Term → ℕ
number_of (term.Fork j) = j
number_of term.Zero = 0
number_of term.One = 0
number_of (term.Var v) = 0

-- the number of a shape: 1 for the OR form, 2 for a multiplexer on the high side, and 4 for one on the low side
abbrev pub shape_number : Shape → ℕ
shape_number p = one_if p.or_form + (one_if p.high_side + one_if p.high_side) + (one_if p.low_side + one_if p.low_side + (one_if p.low_side + one_if p.low_side))

-- the low side of a tile: the low part of its fork, or in the OR form that of the low part
abbrev pub low_side : Forest → ℕ → Bool → Term
low_side forest k or_form = if or_form then low_of forest (number_of (low_of forest k)) else low_of forest k

-- such a tile may stand at the fork: what it covers besides are forks of the same tree, and in the OR form the high parts are the same
pub record MayStand (forest : Forest) (k : ℕ) (p : Shape) : Type 0 where
  pub within : k < length forest.forks
  pub or_form : p.or_form ≡ true → (inner forest (low_of forest k) ≡ number_of (low_of forest k) ∷ []) × (high_of forest (number_of (low_of forest k)) ≡ high_of forest k)
  pub high_side : p.high_side ≡ true → inner forest (high_of forest k) ≡ number_of (high_of forest k) ∷ []
  pub low_side : p.low_side ≡ true → inner forest (low_side forest k p.or_form) ≡ number_of (low_side forest k p.or_form) ∷ []

-- a number, where a part is there
abbrev pub when : Bool → ℕ → List ℕ
when true k = k ∷ []
when false k = []

-- the forks that a tile covers besides the one at which it stands
abbrev pub others : Forest → ℕ → Shape → List ℕ
others forest k p = when p.or_form (number_of (low_of forest k)) ++ when p.high_side (number_of (high_of forest k)) ++ when p.low_side (number_of (low_side forest k p.or_form))

-- the terms of a side: the side itself, or the parts of the fork that it is
abbrev pub side : Forest → Bool → Term → List Term
side forest true t = low_of forest (number_of t) ∷ high_of forest (number_of t) ∷ []
side forest false t = t ∷ []

-- the terms to which a tile refers
abbrev pub ends : Forest → ℕ → Shape → List Term
ends forest k p = side forest p.low_side (low_side forest k p.or_form) ++ side forest p.high_side (high_of forest k)

-- the forks that a tile covers
abbrev pub covers : Forest → Tile → List ℕ
covers forest t = t.fork ∷ others forest t.fork t.shape

-- there is a tile at each root and at each fork to which a tile refers and which it doesn't cover, and each fork is covered once
pub record IsTiling (forest : Forest) (tiles : List Tile) : Type 0 where
  pub stand : (i : ℕ) (t : Tile) → slice_get tiles i ≡ Some t → MayStand forest t.fork t.shape
  pub roots : (k : ℕ) → k < length forest.forks → is_root forest k ≡ true → 0 < times k (map (λ (t : Tile). t.fork) tiles)
  pub ends : (i k : ℕ) (t : Tile) → slice_get tiles i ≡ Some t → Contains (ends forest t.fork t.shape) (term.Fork k) → 0 < times k (map (λ (t : Tile). t.fork) tiles)
  pub once : (k : ℕ) → k < length forest.forks → times k (flat_map (covers forest) tiles) ≡ 1

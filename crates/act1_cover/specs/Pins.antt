-- What a tile has at the pins of the logic module of the ACT 1 data book, as terms of its forest.
use Rattle.std.specs.Prelude.{ℕ, ◌≡◌, Bool, true, false, List, [], ◌∷◌, ◌++◌, slice_index_or}
use Rattle.act1_logic.specs.Module.{module_of}
use Rattle.act1_cover.specs.declared.forest.Forest.{Forest}
use Rattle.act1_cover.specs.declared.forest.Term.{Term}
use Rattle.act1_cover.specs.declared.forest.Term.TheVariants as term
use Rattle.act1_cover.specs.declared.tile.Tile.{Tile}
use Rattle.act1_cover.specs.Tilings.{low_of, high_of, number_of, low_side, MayStand}
use Rattle.act1_cover.specs.Values.{var_of, AreValues}
use Rattle.act1_cover.specs.Least.{IsForest}

-- the data pins and the select of a side: a term alone, or both parts of a fork and its input
abbrev pub side_pins : Forest → Bool → Term → List Term
side_pins forest true t = low_of forest (number_of t) ∷ high_of forest (number_of t) ∷ term.Var (var_of forest (number_of t)) ∷ []
side_pins forest false t = t ∷ term.Zero ∷ term.Zero ∷ []

-- the last select: the input of the second fork of the OR form
abbrev pub second_pin : Forest → Bool → ℕ → Term
second_pin forest true g = term.Var (var_of forest g)
second_pin forest false g = term.Zero

-- the pins A0, A1, SA, B0, B1, SB, S0 and S1
abbrev pub pins_of : Forest → Tile → List Term
pins_of forest tile =
    side_pins forest tile.shape.low_side (low_side forest tile.fork tile.shape.or_form) ++ side_pins forest tile.shape.high_side (high_of forest tile.fork)
    ++ term.Var (var_of forest tile.fork) ∷ second_pin forest tile.shape.or_form (number_of (low_of forest tile.fork)) ∷ []

-- a module with these pins has the value of the tile's fork
abbrev pub TilesGiveValues : Type 0
TilesGiveValues = (forest : Forest) (ys : List Bool) (value : Term → Bool) → IsForest forest → AreValues forest ys value → (tile : Tile) → MayStand forest tile.fork tile.shape
    → module_of (λ pin. value (slice_index_or (pins_of forest tile) pin term.Zero)) ≡ value (term.Fork tile.fork)

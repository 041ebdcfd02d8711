-- How modules fire in a table of values.
use Rattle.std.specs.Prelude.{ℕ, ◌+◌, ◌*◌, ◌≡◌, ◌≢◌, ◌<◌, Bool, false, List, [], ◌∷◌, slice_index_or, slice_set}
use Rattle.act1_logic.specs.Module.{module_of}
use Rattle.act1_engine.specs.Slots.{entry}

-- the value at a slot
abbrev pub value : List Bool → ℕ → Bool
value values slot = slice_index_or values slot false

-- what a module gives at these values, where slots has the slots of the pins
abbrev pub gives : List ℕ → List Bool → ℕ → Bool
gives slots values m = module_of (λ pin. value values (entry slots (8 * m + pin)))

-- one firing: the module's value becomes what it gives
abbrev pub turn : List ℕ → List Bool → ℕ → List Bool
turn slots values m = slice_set values m (gives slots values m)

-- a list of firings, one after the other
abbrev pub turn_all : List ℕ → List Bool → List ℕ → List Bool
turn_all slots values [] = values
turn_all slots values (m ∷ ms) = turn_all slots (turn slots values m) ms

-- no firing of one of n modules changes a value
abbrev pub IsStill : List ℕ → List Bool → ℕ → Type 0
IsStill slots values n = (m : ℕ) → m < n → gives slots values m ≡ value values m

-- the firing of this module changes its value, and that of no lesser one
pub record IsLeastUnstill (slots : List ℕ) (values : List Bool) (n m : ℕ) : Type 0 where
  pub within : m < n
  pub changes : gives slots values m ≢ value values m
  pub least : IsStill slots values m

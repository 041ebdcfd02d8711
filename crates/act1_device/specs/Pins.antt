-- The names of a module's pins.
use Rattle.std.specs.Prelude.{ℕ, List, [], ◌∷◌, codes, slice_index_or}

-- the names of the pins, in the order of their numbers
abbrev pub pin_names : List (List ℕ)
pin_names = codes "A0" ∷ codes "A1" ∷ codes "SA" ∷ codes "B0" ∷ codes "B1" ∷ codes "SB" ∷ codes "S0" ∷ codes "S1" ∷ []

-- the name of a pin; there are eight, and the device has no other
abbrev pub pin_name : ℕ → List ℕ
pin_name pin = slice_index_or pin_names pin []

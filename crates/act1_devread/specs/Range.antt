-- The ranges of the values of a device file, and what the values are in the device.
-- The rules of names, tracks, long wires and pads are those that devices keep.
use Rattle.std.specs.Prelude.{ℕ, ℤ, pos, negsuc, Bool, true, false, ◌&&◌, ◌||◌, ◌==◌, nat_le, List, length, map, Option, Some, None, if◌then◌else◌}
use Rattle.std.specs.List.{list_all}
use Rattle.act1_device.specs.Rules.{is_within, is_long, is_place}
use Rattle.act1_device.specs.declared.device.Long.{Long}
use Rattle.act1_device.specs.declared.device.PadPlace.{PadPlace}

-- the integer isn't negative
abbrev pub is_natural : ℤ → Bool
is_natural (pos n) = true
is_natural (negsuc n) = false

-- the natural number that an integer is, and 0 for a negative one
abbrev pub natural : ℤ → ℕ
natural (pos n) = n
natural (negsuc n) = 0

-- the integer is a number from low to high
unfoldable pub is_number : ℕ → ℕ → ℤ → Bool
is_number low high z = is_natural z && is_within low high (natural z)

-- `L` or `U`
abbrev pub is_letter : ℕ → Bool
is_letter b = b == 76 || b == 85

-- eight such letters
abbrev pub are_letters : List ℕ → Bool
are_letters text = length text == 8 && list_all is_letter text

-- the pins whose letter is `U` lead up
abbrev pub pins_of : List ℕ → List Bool
pins_of text = map (λ b. b == 85) text

-- the breaks of all tracks as numbers; a negative break becomes 0, and so is refused, since breaks are from 1 on
abbrev pub naturals : List (List (List ℤ)) → List (List (List ℕ))
naturals tracks = map (map (map natural)) tracks

-- the long wire that two integers are
abbrev pub long_of : ℤ × ℤ → Long
long_of p = record { low = natural p.0; high = natural p.1 }

-- the place that two integers are
abbrev pub place_of : ℤ × ℤ → PadPlace
place_of p = record { channel = natural p.0; column = natural p.1 }

-- two numbers that aren't negative
abbrev pub are_natural : ℤ × ℤ → Bool
are_natural p = is_natural p.0 && is_natural p.1

-- at most 32 long wires, each inside the array
abbrev pub are_longs : ℕ → List (ℤ × ℤ) → Bool
are_longs rows pairs = nat_le (length pairs) 32 && list_all (λ p. are_natural p && is_long rows (long_of p)) pairs

-- each pad is inside the array
abbrev pub are_places : ℕ → ℕ → List (ℤ × ℤ) → Bool
are_places rows columns pairs = list_all (λ p. are_natural p && is_place rows columns (place_of p)) pairs

-- the value where the test holds, and else nothing
abbrev pub some_if : {A : Type 0} → Bool → A → Option A
some_if test x = if test then Some x else None

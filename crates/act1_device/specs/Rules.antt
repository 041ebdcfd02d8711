-- What the numbers and lists of a device keep, apart from the struct that holds them. The rules are this project's own: those of its device file.
use Rattle.std.specs.Prelude.{ℕ, Bool, true, not, ◌&&◌, ◌||◌, ◌==◌, ◌+◌, nat_le, nat_lt, List, [], ◌∷◌, length}
use Rattle.std.specs.List.{list_all, list_any}
use Rattle.act1_base.specs.Rising.{is_rising}
use Rattle.act1_device.specs.declared.device.Long.{Long}
use Rattle.act1_device.specs.declared.device.PadPlace.{PadPlace}

-- the number is from low to high
abbrev pub is_within : ℕ → ℕ → ℕ → Bool
is_within low high n = nat_le low n && nat_le n high

-- an ASCII letter, an ASCII digit, `_` or `-`
abbrev pub is_device_byte : ℕ → Bool
is_device_byte b = is_within 65 90 b || is_within 97 122 b || is_within 48 57 b || b == 95 || b == 45

-- 1 to 64 such bytes
abbrev pub is_device_name : List ℕ → Bool
is_device_name name = is_within 1 64 (length name) && list_all is_device_byte name

-- each break lies inside the columns
abbrev pub are_inside : ℕ → List ℕ → Bool
are_inside columns breaks = list_all (λ b. nat_le 1 b && nat_lt b columns) breaks

-- 1 to 64 tracks whose breaks lie inside the columns
abbrev pub are_tracks : ℕ → List (List ℕ) → Bool
are_tracks columns channel = is_within 1 64 (length channel) && list_all (are_inside columns) channel

-- one entry for all channels, or one for each
abbrev pub are_channels : ℕ → ℕ → List (List (List ℕ)) → Bool
are_channels rows columns tracks = (length tracks == 1 || length tracks == rows + 1) && list_all (are_tracks columns) tracks

-- the breaks of each track rise
abbrev pub are_in_order : List (List (List ℕ)) → Bool
are_in_order tracks = list_all (list_all is_rising) tracks

-- a long wire crosses two channels or more, and ends inside the array
abbrev pub is_long : ℕ → Long → Bool
is_long rows long = nat_lt long.low long.high && nat_le long.high rows

-- a pad's place is inside the array
abbrev pub is_place : ℕ → ℕ → PadPlace → Bool
is_place rows columns place = nat_le place.channel rows && nat_lt place.column columns

-- two pads are at one place
abbrev pub is_same_place : PadPlace → PadPlace → Bool
is_same_place p q = p.channel == q.channel && p.column == q.column

-- no two of the pads are at one place
abbrev pub are_apart : List PadPlace → Bool
are_apart [] = true
are_apart (p ∷ ps) = not (list_any (is_same_place p) ps) && are_apart ps

-- all rules of a device: its name, its sizes, its tracks, its long wires and its pads
unfoldable pub is_device : List ℕ → ℕ → ℕ → ℕ → ℕ → List (List (List ℕ)) → List Long → List PadPlace → Bool
is_device name rows columns below above tracks longs pads =
    is_device_name name && is_within 1 32 rows && is_within 2 64 columns && nat_le below 32 && nat_le above 32
    && (are_channels rows columns tracks && are_in_order tracks)
    && (nat_le (length longs) 32 && list_all (is_long rows) longs)
    && (list_all (is_place rows columns) pads && are_apart pads)

-- What may stand as a name in a netlist and in the project's own texts.
use Rattle.std.specs.Prelude.{ℕ, Bool, true, not, ◌&&◌, ◌==◌, nat_le, ◌-◌, List, [], ◌∷◌, length, slice_index}
use Rattle.std.specs.List.{list_all, list_any}
use Rattle.std.specs.Str.{bytes_eq}

-- a byte that shows, and that begins no comment: 0x21 to 0x7E but for `#`
abbrev pub is_name_byte : ℕ → Bool
is_name_byte b = nat_le 33 b && nat_le b 126 && not (b == 35)

-- 1 to 1,024 such bytes, of which the last is no backslash
abbrev pub is_name : List ℕ → Bool
is_name name =
    nat_le 1 (length name) && nat_le (length name) 1024 && list_all is_name_byte name && not (slice_index name (length name - 1) == 92)

-- no two of the names are the same
abbrev pub are_different : List (List ℕ) → Bool
are_different [] = true
are_different (name ∷ names) = not (list_any (bytes_eq name) names) && are_different names

-- no two of the numbers are the same
abbrev pub are_different_numbers : List ℕ → Bool
are_different_numbers [] = true
are_different_numbers (n ∷ ns) = not (list_any (λ m. n == m) ns) && are_different_numbers ns

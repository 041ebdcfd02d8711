-- What one element more adds to lists that are made from another.
use Rattle.std.proofs.Common.{ℕ, suc, zero, ◌≡◌, ◌<◌, ◌+◌, List, [], ◌∷◌, ◌++◌, length, take, get_or, Option, Some, None, refl, sym, ap, ◌∙◌, arith}
use Rattle.std.specs.List.{cons_option, filter_map}
use Rattle.std.specs.Option.{option_to_list}
use Rattle.std.proofs.lemmas.List.Elements.{filter_map-append}
use Rattle.std.proofs.lemmas.List.{take_more}

-- what the element at a place adds
pub filter_map_at : {X Y : Type 0} (h : X → Option Y) (xs : List X) (i : ℕ) (d : X) → i < length xs → filter_map h (take (i + 1) xs) ≡ filter_map h (take i xs) ++ option_to_list (h (get_or xs i d))
filter_map_at {X} {Y} h xs i d low = ap (filter_map h) (take_more xs i d low) ∙ filter_map-append h (take i xs) (get_or xs i d ∷ []) ∙ ap (λ (ys : List Y). filter_map h (take i xs) ++ ys) (one (h (get_or xs i d)))
  where
    one : (o : Option Y) → cons_option o [] ≡ option_to_list o
    one None = refl
    one (Some y) = refl

-- the element that was read is the one at its place, whatever stands past the end
pub read_at : {X : Type 0} (xs : List X) (i : ℕ) (x d : X) → i < length xs → x ≡ get_or xs i x → x ≡ get_or xs i d
read_at [] i x d low is = absurd (omega arith)
read_at (y ∷ xs) zero x d low is = is
read_at (y ∷ xs) (suc i) x d low is = read_at xs i x d (omega arith) is

-- an element more, that was read
pub filter_map_read : {X Y : Type 0} (h : X → Option Y) (xs : List X) (i : ℕ) (x : X) → i < length xs → x ≡ get_or xs i x → filter_map h (take (i + 1) xs) ≡ filter_map h (take i xs) ++ option_to_list (h x)
filter_map_read {X} {Y} h xs i x low is = filter_map_at h xs i x low ∙ ap (λ (y : X). filter_map h (take i xs) ++ option_to_list (h y)) (sym is)

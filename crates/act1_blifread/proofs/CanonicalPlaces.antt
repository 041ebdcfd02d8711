-- The numbers of names: different names of a list have different places in it.
use Rattle.std.proofs.Common.{ℕ, zero, suc, ◌≡◌, ◌<◌, cond, Bool, true, false, not, ◌||◌, ◌==◌, List, [], ◌∷◌, length, get_or, map, Option, Some, refl, sym, ap, ◌∙◌, arith}
use Rattle.std.specs.Prelude.{slice_get, option_map, unwrap_or}
use Rattle.std.specs.List.{list_all, list_any}
use Rattle.std.specs.Str.{bytes_eq}
use Rattle.std.proofs.lemmas.Bool.{and_parts, and_from, not-true, true≢false}
use Rattle.std.proofs.lemmas.Option.{get_or_from_slice_get}
use Rattle.act1_base.specs.Names.{are_different, are_different_numbers}
use Rattle.act1_blifread.specs.Faults.{is_among}
use Rattle.act1_blifread.specs.Netlist.{name_at, signal_at}
use Rattle.act1_blifread.proofs.FirstPlaces.{first, position_first}
use Rattle.act1_blifread.proofs.NumberLists.{equal_true, equal_false}
use Rattle.act1_blifread.proofs.CanonicalNames.{is_in, same_name, name_same, passes_in}
use Rattle.act1_blifread.proofs.CanonicalSaid.{place_in, stands_there}

-- the name of its number is the name
pub name_back : (names : List (List ℕ)) (w : List ℕ) → is_in names w ≡ true → name_at names (place_in names w) ≡ w
name_back names w h = get_or_from_slice_get names (place_in names w) w [] (stands_there names w h)

pub names_back : (names words : List (List ℕ)) → list_all (is_in names) words ≡ true → map (name_at names) (map (place_in names) words) ≡ words
names_back names [] h = refl
names_back names (w ∷ words) h =
    let parts = and_parts (is_in names w) (list_all (is_in names) words) h in
    ap (λ (v : List ℕ). v ∷ map (name_at names) (map (place_in names) words)) (name_back names w parts.0) ∙ ap (λ (vs : List (List ℕ)). w ∷ vs) (names_back names words parts.1)

-- names of one number are one
pub one_place : (names : List (List ℕ)) (v w : List ℕ) → is_in names v ≡ true → is_in names w ≡ true → place_in names v ≡ place_in names w → v ≡ w
one_place names v w h k e =
    let both : Some v ≡ Some w = sym (stands_there names v h) ∙ ap (slice_get names) e ∙ stands_there names w k in
    cc

-- numbers are the same where the names are
pub place_same : (names : List (List ℕ)) (v w : List ℕ) → is_in names v ≡ true → is_in names w ≡ true → (place_in names v == place_in names w) ≡ bytes_eq v w
place_same names v w h k = by (bytes_eq v w) refl
  where
    by : (b : Bool) → bytes_eq v w ≡ b → (place_in names v == place_in names w) ≡ b
    by true e = equal_true (place_in names v) (place_in names w) (ap (place_in names) (same_name v w e))
    by false e = equal_false (place_in names v) (place_in names w) (λ f. true≢false (sym (ap (bytes_eq v) (sym (one_place names v w h k f)) ∙ name_same v) ∙ e))

turned_eq : (v w : List ℕ) → bytes_eq v w ≡ bytes_eq w v
turned_eq v w = by (bytes_eq v w) (bytes_eq w v) refl refl
  where
    by : (a b : Bool) → bytes_eq v w ≡ a → bytes_eq w v ≡ b → a ≡ b
    by true true e f = refl
    by false false e f = refl
    by true false e f = sym (ap (λ (x : List ℕ). bytes_eq x v) (sym (same_name v w e)) ∙ name_same v) ∙ f
    by false true e f = sym e ∙ ap (λ (x : List ℕ). bytes_eq x w) (sym (same_name w v f)) ∙ name_same w

-- a number is among those of names where its name is among them
pub place_among : (names words : List (List ℕ)) (w : List ℕ) → list_all (is_in names) words ≡ true → is_in names w ≡ true → is_among (map (place_in names) words) (place_in names w) ≡ is_in words w
place_among names [] w h k = refl
place_among names (x ∷ words) w h k =
    let parts = and_parts (is_in names x) (list_all (is_in names) words) h in
    ap (λ (b : Bool). b || is_among (map (place_in names) words) (place_in names w)) (place_same names x w parts.0 k ∙ turned_eq x w)
    ∙ ap (λ (b : Bool). bytes_eq w x || b) (place_among names words w parts.1 k)

any_place : (names words : List (List ℕ)) (w : List ℕ) → list_all (is_in names) words ≡ true → is_in names w ≡ true → list_any (λ m. place_in names w == m) (map (place_in names) words) ≡ is_in words w
any_place names [] w h k = refl
any_place names (x ∷ words) w h k =
    let parts = and_parts (is_in names x) (list_all (is_in names) words) h in
    ap (λ (b : Bool). b || list_any (λ m. place_in names w == m) (map (place_in names) words)) (place_same names w x k parts.0)
    ∙ ap (λ (b : Bool). bytes_eq w x || b) (any_place names words w parts.1 k)

-- different names have different numbers
pub places_differ : (names words : List (List ℕ)) → list_all (is_in names) words ≡ true → are_different words ≡ true → are_different_numbers (map (place_in names) words) ≡ true
places_differ names [] h d = refl
places_differ names (w ∷ words) h d =
    let parts = and_parts (is_in names w) (list_all (is_in names) words) h in
    let apart = and_parts (not (list_any (bytes_eq w) words)) (are_different words) d in
    and_from (not (list_any (λ m. place_in names w == m) (map (place_in names) words))) (are_different_numbers (map (place_in names) words))
    (ap not (any_place names words w parts.1 parts.0) ∙ apart.0) (places_differ names words parts.1 apart.1)

-- the first place of the number of a signal's name is the signal
pub first_is : (names words : List (List ℕ)) (s : ℕ) → list_all (is_in names) words ≡ true → are_different words ≡ true → s < length words → first (place_in names (get_or words s [])) (map (place_in names) words) ≡ Some s
first_is names [] s h d low = absurd (omega arith)
first_is names (w ∷ words) zero h d low =
    ap (λ (b : Bool). cond b (Some 0) (option_map (λ k. suc k) (first (place_in names w) (map (place_in names) words)))) (equal_true (place_in names w) (place_in names w) refl)
first_is names (w ∷ words) (suc s) h d low =
    let parts = and_parts (is_in names w) (list_all (is_in names) words) h in
    let apart = and_parts (not (list_any (bytes_eq w) words)) (are_different words) d in
    let there = stays words s (omega arith) in
    let other : bytes_eq w (get_or words s []) ≡ false = none words (get_or words s []) (not-true (list_any (bytes_eq w) words) apart.0) there in
    ap (λ (b : Bool). cond b (Some 0) (option_map (λ k. suc k) (first (place_in names (get_or words s [])) (map (place_in names) words))))
    (place_same names w (get_or words s []) parts.0 (passes_in (is_in names) words (get_or words s []) parts.1 there) ∙ other)
    ∙ ap (option_map (λ k. suc k)) (first_is names words s parts.1 apart.1 (omega arith))
  where
    left : (a b : Bool) → a ≡ true → (a || b) ≡ true
    left true b e = refl
    left false b e = cc

    right : (a b : Bool) → b ≡ true → (a || b) ≡ true
    right true b e = refl
    right false b e = e

    stays : (xs : List (List ℕ)) (i : ℕ) → i < length xs → is_in xs (get_or xs i []) ≡ true
    stays [] i l = absurd (omega arith)
    stays (x ∷ xs) zero l = left (bytes_eq x x) (is_in xs x) (name_same x)
    stays (x ∷ xs) (suc i) l = right (bytes_eq (get_or xs i []) x) (is_in xs (get_or xs i [])) (stays xs i (omega arith))

    none : (xs : List (List ℕ)) (v : List ℕ) → list_any (bytes_eq w) xs ≡ false → is_in xs v ≡ true → bytes_eq w v ≡ false
    none xs v e k = by (bytes_eq w v) refl
      where
        by : (b : Bool) → bytes_eq w v ≡ b → b ≡ false
        by true f = sym (ap (is_in xs) (same_name w v f) ∙ k) ∙ e
        by false f = refl

-- so each signal has its own number again
pub signal_back : (names words : List (List ℕ)) (s : ℕ) → list_all (is_in names) words ≡ true → are_different words ≡ true → s < length words → signal_at (map (place_in names) words) (place_in names (get_or words s [])) ≡ s
signal_back names words s h d low = ap (λ (o : Option ℕ). unwrap_or o 0) (position_first (place_in names (get_or words s [])) (map (place_in names) words) ∙ first_is names words s h d low)

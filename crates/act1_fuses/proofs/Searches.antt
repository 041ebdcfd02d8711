-- Searches through lists, and lists of numbers that are compared.
use Rattle.std.proofs.Common.{ℕ, ◌≡◌, ◌≢◌, ◌+◌, ◌<◌, ◌≤◌, ◌==◌, nat_lt, Bool, true, false, ◌||◌, ◌&&◌, List, [], ◌∷◌, length, get_or, drop, map, refl, sym, ap, ◌∙◌, arith}
use Rattle.std.specs.List.{list_any}
use Rattle.std.proofs.lemmas.List.{drop_more, drop_all}
use Rattle.std.proofs.lemmas.Bool.Decides.{nat_tests}
use Rattle.act1_base.specs.Rising.{is_before}

module _ {X : Type 0} (p : X → Bool) where
  any_next : (xs : List X) (i : ℕ) (d : X) → i < length xs → list_any p (drop i xs) ≡ (p (get_or xs i d) || list_any p (drop (i + 1) xs))
  any_next xs i d within = ap (list_any p) (drop_more xs i d within)

  -- one is found
  pub any_here : (xs : List X) (i : ℕ) (x : X) (whole : Bool) → i < length xs → x ≡ get_or xs i x → p x ≡ true → list_any p (drop i xs) ≡ whole → true ≡ whole
  any_here xs i x whole within at is rest = sym (sym rest ∙ any_next xs i x within ∙ ap (λ (b : Bool). b || list_any p (drop (i + 1) xs)) (sym (ap p at) ∙ is))

  -- those to come decide
  pub any_on : (xs : List X) (i : ℕ) (d : X) (whole : Bool) → i < length xs → p (get_or xs i d) ≡ false → list_any p (drop i xs) ≡ whole → list_any p (drop (i + 1) xs) ≡ whole
  any_on xs i d whole within is rest = sym (any_next xs i d within ∙ ap (λ (b : Bool). b || list_any p (drop (i + 1) xs)) is) ∙ rest

  -- none is to come
  pub any_none : (xs : List X) (i : ℕ) (whole : Bool) → length xs ≤ i → list_any p (drop i xs) ≡ whole → false ≡ whole
  any_none xs i whole past rest = sym (ap (list_any p) (drop_all i xs past)) ∙ rest

  -- through a map
  pub any_map : {Y : Type 0} (f : Y → X) (ys : List Y) → list_any p (map f ys) ≡ list_any (λ y. p (f y)) ys
  any_map f [] = refl
  any_map f (y ∷ ys) = ap (λ (b : Bool). p (f y) || b) (any_map f ys)

is_equal : (x y : ℕ) → x ≡ y → (nat_lt x y || (x == y && true)) ≡ true
is_equal x y e = grind (arith, nat_tests)

less_alone : (x y : ℕ) (b : Bool) → x ≢ y → (x == y) ≡ false
less_alone x y b h = grind (arith, nat_tests)

or_false : (b : Bool) → (b || false) ≡ b
or_false true = refl
or_false false = refl

head_on : (x y : ℕ) (b : Bool) → x ≡ y → (nat_lt x y || (x == y && b)) ≡ b
head_on x y b e = rw (not_below, same) refl
  where
    not_below : nat_lt x y ≡ false
    not_below = grind (arith, nat_tests)

    same : (x == y) ≡ true
    same = grind (arith, nat_tests)

head_off : (x y : ℕ) (b : Bool) → x ≢ y → (nat_lt x y || (x == y && b)) ≡ nat_lt x y
head_off x y b h = rw (less_alone x y b h) (or_false (nat_lt x y))

module _ (xs ys : List ℕ) (i : ℕ) (whole : Bool) (rest : is_before (drop i xs) (drop i ys) ≡ whole) where
  -- the second list has no more numbers
  pub before_none : length ys ≤ i → false ≡ whole
  before_none past = sym (ap (is_before (drop i xs)) (drop_all i ys past)) ∙ rest

  -- the first list has no more numbers
  pub before_end : (d : ℕ) → length xs ≤ i → i < length ys → true ≡ whole
  before_end d past within = sym (ap (λ (zs : List ℕ). is_before zs (drop i ys)) (drop_all i xs past) ∙ ap (is_before []) (drop_more ys i d within)) ∙ rest

  both_next : (c d : ℕ) → i < length xs → i < length ys
      → (nat_lt (get_or xs i c) (get_or ys i d) || (get_or xs i c == get_or ys i d && is_before (drop (i + 1) xs) (drop (i + 1) ys))) ≡ whole
  both_next c d low within = sym (ap (λ (zs : List ℕ). is_before zs (drop i ys)) (drop_more xs i c low) ∙ ap (is_before (get_or xs i c ∷ drop (i + 1) xs)) (drop_more ys i d within)) ∙ rest

  -- the numbers here differ
  pub before_here : (c d : ℕ) → i < length xs → i < length ys → get_or xs i c ≢ get_or ys i d → nat_lt (get_or xs i c) (get_or ys i d) ≡ whole
  before_here c d low within apart = sym (head_off (get_or xs i c) (get_or ys i d) _ apart) ∙ both_next c d low within

  -- those to come decide
  pub before_on : (c d : ℕ) → i < length xs → i < length ys → get_or xs i c ≡ get_or ys i d → is_before (drop (i + 1) xs) (drop (i + 1) ys) ≡ whole
  before_on c d low within same = sym (head_on (get_or xs i c) (get_or ys i d) _ same) ∙ both_next c d low within

-- Lists of different things, and how many they can be.
use Rattle.std.proofs.Common.{ℕ, zero, suc, ◌≡◌, ◌≢◌, ◌⊎◌, ◌+◌, ◌<◌, eqb, Bool, true, false, cond, List, [], ◌∷◌, ◌++◌, length, map, refl, sym, subst, inl, inr, arith, Contains}
use Rattle.std.specs.Prelude.{filter, flat_map}
use Rattle.std.specs.List.{list_any, IsDistinct, AllByRecursion}
use Rattle.std.proofs.lemmas.Bool.{eqb-true}
use Rattle.std.proofs.lemmas.List.{length-map}
use Rattle.std.proofs.lemmas.List.Elements.{Contains-append_cases}
use Rattle.std.proofs.lemmas.Map.Steps.{length-le_from_distinct_below}
use Rattle.act1_base.specs.Lists.{numbers}
use Rattle.act1_base.proofs.Elements.{here, later, first_or_later, filtered, mapped, flattened, number_in, some_of}

-- each element differs from all later ones
abbrev pub Differ : {X : Type 0} → List X → Type 0
Differ [] = Unit {0}
Differ (x ∷ xs) = (Contains xs x → ⊥) × Differ xs

pub differ_numbers : (first count : ℕ) → Differ (numbers first count)
differ_numbers first zero = tt
differ_numbers first (suc count) = (λ h. let low = (number_in (first + 1) count first h).0 in omega arith, differ_numbers (first + 1) count)

module _ {X : Type 0} where
  pub differ_filter : (test : X → Bool) (xs : List X) → Differ xs → Differ (filter test xs)
  differ_filter test [] h = tt
  differ_filter test (x ∷ xs) h = from (differ_filter test xs h.1) (test x)
    where
      from : Differ (filter test xs) → (b : Bool) → Differ (cond b (x ∷ filter test xs) (filter test xs))
      from rest true = (λ k. h.0 (filtered test xs x k).0, rest)
      from rest false = rest

  pub differ_append : (xs ys : List X) → Differ xs → Differ ys → ((x : X) → Contains xs x → Contains ys x → ⊥) → Differ (xs ++ ys)
  differ_append [] ys h k apart = k
  differ_append (x ∷ xs) ys h k apart = (λ c. from (Contains-append_cases xs ys x c), differ_append xs ys h.1 k (λ y c d. apart y (later y x xs c) d))
    where
      from : Contains xs x ⊎ Contains ys x → ⊥
      from (inl c) = h.0 c
      from (inr c) = apart x (here x x xs refl) c

module _ {X Y : Type 0} where
  pub differ_map : (f : X → Y) (xs : List X) → ((a b : X) → f a ≡ f b → a ≡ b) → Differ xs → Differ (map f xs)
  differ_map f [] one h = tt
  differ_map f (x ∷ xs) one h = (λ k. let r = mapped f xs (f x) k in h.0 (subst (λ (y : X). Contains xs y) (one r.0 x r.2) r.1), differ_map f xs one h.1)

  pub differ_flat : (f : X → List Y) (xs : List X) → ((x : X) → Differ (f x)) → ((a b : X) (y : Y) → Contains (f a) y → Contains (f b) y → a ≡ b) → Differ xs → Differ (flat_map f xs)
  differ_flat f [] each one h = tt
  differ_flat f (x ∷ xs) each one h =
      differ_append (f x) (flat_map f xs) (each x) (differ_flat f xs each one h.1)
      (λ y k c. let r = flattened f xs y c in h.0 (subst (λ (z : X). Contains xs z) (one r.0 x y r.2 k) r.1))

-- as many different things as numbers below n, none of which is m, are fewer than n
module _ {X : Type 0} (f : X → ℕ) where
  none_equal : (m : ℕ) (xs : List X) → ((x : X) → Contains xs x → f x ≢ m) → AllByRecursion (λ y. eqb m y ≡ false) (map f xs)
  none_equal m [] h = tt
  none_equal m (x ∷ xs) h = (from (eqb m (f x)) refl, none_equal m xs (λ y c. h y (later y x xs c)))
    where
      from : (b : Bool) → eqb m (f x) ≡ b → eqb m (f x) ≡ false
      from true e = absurd (h x (here x x xs refl) (sym (eqb-true m (f x) e)))
      from false e = e

  all_distinct : (xs : List X) → Differ xs → ((x y : X) → Contains xs x → Contains xs y → f x ≡ f y → x ≡ y) → IsDistinct eqb (map f xs)
  unfolding IsDistinct
  all_distinct [] h one = tt
  all_distinct (x ∷ xs) h one =
      (none_equal (f x) xs (λ y c e. h.0 (subst (λ (z : X). Contains xs z) (one y x (later y x xs c) (here x x xs refl) e) c)), all_distinct xs h.1 (λ y z c d e. one y z (later y x xs c) (later z x xs d) e))

  pub fewer_than : (xs : List X) (n m : ℕ) → Differ xs → ((x y : X) → Contains xs x → Contains xs y → f x ≡ f y → x ≡ y) → ((x : X) → Contains xs x → f x < n) → m < n → ((x : X) → Contains xs x → f x ≢ m) → length xs < n
  unfolding IsDistinct
  fewer_than xs n m h one below low apart =
      let most = length-le_from_distinct_below (m ∷ map f xs) n (none_equal m xs apart, all_distinct xs h one) inside in
      omega (arith, most, length-map xs f)
    where
      inside : (q : ℕ) → list_any (eqb q) (m ∷ map f xs) ≡ true → q < n
      inside q e =
          let r = some_of (eqb q) (m ∷ map f xs) e in
          let same = eqb-true q r.0 r.2 in
          subst (λ (k : ℕ). k < n) (sym same) (from r.0 (first_or_later r.0 m (map f xs) r.1))
        where
          from : (k : ℕ) → (m ≡ k) ⊎ Contains (map f xs) k → k < n
          from k (inl e) = subst (λ (k : ℕ). k < n) e low
          from k (inr c) = let r = mapped f xs k c in subst (λ (k : ℕ). k < n) r.2 (below r.0 r.1)

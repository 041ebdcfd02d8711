-- Lists of which each element has a relation to all later ones.
use Rattle.std.proofs.Common.{ℕ, zero, suc, ◌≡◌, ◌≢◌, ◌⊎◌, ◌+◌, ◌<◌, List, [], ◌∷◌, ◌++◌, map, refl, sym, ap, subst, ◌∙◌, inl, inr, arith, get_or, Contains, All, AllPairs, Some, slice_get}
use Rattle.std.specs.Prelude.{flat_map}
use Rattle.std.proofs.lemmas.Bool.{cases_order}
use Rattle.std.proofs.lemmas.List.Elements.{All-contains, All-contains_itself, Contains-append_left, Contains-append_right, Contains-append_cases}
use Rattle.std.proofs.lemmas.List.Kept.{AllPairs-cons}
use Rattle.std.proofs.lemmas.Option.{get_or_from_slice_get}
use Rattle.act1_base.specs.Rising.{Rises}
use Rattle.act1_base.proofs.ListGets.{get_within, place_of, some_is}
use Rattle.act1_base.specs.Lists.{numbers}
use Rattle.act1_base.proofs.Elements.{here, later, first_or_later, not_in_none, mapped, flattened, number_in}

module _ {X : Type 0} where
  -- what holds of each element of the list holds all along it
  pub all_of : (P : X → Type 0) (xs : List X) → ((x : X) → Contains xs x → P x) → All P xs
  all_of P xs h k d low = h (get_or xs k d) (All-contains_itself xs k d low)

  module _ (R : X → X → Type 0) where
    pub pairs_none : AllPairs R []
    pairs_none i j d less low = absurd (omega arith)

    pub pairs_head : (x : X) (xs : List X) → AllPairs R (x ∷ xs) → (y : X) → Contains xs y → R x y
    pairs_head x xs h y c = All-contains (R x) xs y (λ k d low. h 0 (suc k) d (omega arith) (omega arith)) c

    pub pairs_tail : (x : X) (xs : List X) → AllPairs R (x ∷ xs) → AllPairs R xs
    pairs_tail x xs h i j d less low = h (suc i) (suc j) d (omega arith) (omega arith)

    pub pairs_more : (x : X) (xs : List X) → ((y : X) → Contains xs y → R x y) → AllPairs R xs → AllPairs R (x ∷ xs)
    pairs_more x xs h rest = AllPairs-cons R x xs (all_of (R x) xs h) rest

    pub pairs_append : (xs ys : List X) → AllPairs R xs → AllPairs R ys → ((x y : X) → Contains xs x → Contains ys y → R x y) → AllPairs R (xs ++ ys)
    pairs_append [] ys h k across = k
    pairs_append (x ∷ xs) ys h k across =
        pairs_more x (xs ++ ys) (λ y c. by y (Contains-append_cases xs ys y c)) (pairs_append xs ys (pairs_tail x xs h) k (λ a b c d. across a b (later a x xs c) d))
      where
        by : (y : X) → Contains xs y ⊎ Contains ys y → R x y
        by y (inl c) = pairs_head x xs h y c
        by y (inr c) = across x y (here x x xs refl) c

    pub pairs_front : (xs ys : List X) → AllPairs R (xs ++ ys) → AllPairs R xs
    pairs_front [] ys h = pairs_none
    pairs_front (x ∷ xs) ys h = pairs_more x xs (λ y c. pairs_head x (xs ++ ys) h y (Contains-append_left xs ys y c)) (pairs_front xs ys (pairs_tail x (xs ++ ys) h))

    pub pairs_back : (xs ys : List X) → AllPairs R (xs ++ ys) → AllPairs R ys
    pairs_back [] ys h = h
    pairs_back (x ∷ xs) ys h = pairs_back xs ys (pairs_tail x (xs ++ ys) h)

    pub pairs_across : (xs ys : List X) → AllPairs R (xs ++ ys) → (x y : X) → Contains xs x → Contains ys y → R x y
    pairs_across [] ys h x y c d = not_in_none x c
    pairs_across (z ∷ xs) ys h x y c d = by (λ e. pairs_across xs ys (pairs_tail z (xs ++ ys) h) x y e d) (first_or_later x z xs c)
      where
        by : (Contains xs x → R x y) → (z ≡ x) ⊎ Contains xs x → R x y
        by rec (inl same) = subst (λ (u : X). R u y) same (pairs_head z (xs ++ ys) h y (Contains-append_right xs ys y d))
        by rec (inr e) = rec e

    -- where the relation goes both ways, any two different elements have it
    pub pairs_two : ((x y : X) → R x y → R y x) → (xs : List X) → AllPairs R xs → (x y : X) → Contains xs x → Contains xs y → x ≢ y → R x y
    pairs_two turned xs h x y c d apart = by (place_of xs x c) (place_of xs y d)
      where
        at : (i j : ℕ) (a b : X) → slice_get xs i ≡ Some a → slice_get xs j ≡ Some b → i < j → R a b
        at i j a b e f less =
            subst (λ (u : X). R a u) (get_or_from_slice_get xs j b a f) (subst (λ (u : X). R u (get_or xs j a)) (get_or_from_slice_get xs i a a e) (h i j a less (get_within xs j b f)))

        by : (i : ℕ) × (slice_get xs i ≡ Some x) → (j : ℕ) × (slice_get xs j ≡ Some y) → R x y
        by (i, e) (j, f) = from (cases_order i j)
          where
            from : (i ≡ j) ⊎ ((i < j) ⊎ (j < i)) → R x y
            from (inl same) = absurd (apart (some_is x y (sym e ∙ ap (slice_get xs) same ∙ f)))
            from (inr (inl less)) = at i j x y e f less
            from (inr (inr less)) = turned y x (at j i y x f e less)

    -- lists for the numbers in a row, one after the other
    pub pairs_flat : (at : ℕ → List X) → ((m : ℕ) → AllPairs R (at m)) → ((m k : ℕ) (x y : X) → m < k → Contains (at m) x → Contains (at k) y → R x y) → (first count : ℕ) → AllPairs R (flat_map at (numbers first count))
    pairs_flat at each across first zero = pairs_none
    pairs_flat at each across first (suc count) =
        pairs_append (at first) (flat_map at (numbers (first + 1) count)) (each first) (pairs_flat at each across (first + 1) count)
        (λ x y c d. let r = flattened at (numbers (first + 1) count) y d in let low = (number_in (first + 1) count r.0 r.1).0 in across first r.0 x y (omega arith) c r.2)

    pub pairs_rise : (xs : List X) → AllPairs R xs → Rises R xs
    pairs_rise [] h = tt
    pairs_rise (x ∷ []) h = tt
    pairs_rise (x ∷ y ∷ xs) h = (pairs_head x (y ∷ xs) h y (here y y xs refl), pairs_rise (y ∷ xs) (pairs_tail x (y ∷ xs) h))

module _ {X Y : Type 0} (S : X → X → Type 0) (R : Y → Y → Type 0) (f : X → Y) where
  pub pairs_map : (xs : List X) → ((a b : X) → Contains xs a → Contains xs b → S a b → R (f a) (f b)) → AllPairs S xs → AllPairs R (map f xs)
  pairs_map [] on h = pairs_none R
  pairs_map (x ∷ xs) on h =
      pairs_more R (f x) (map f xs) (λ y c. let r = mapped f xs y c in subst (R (f x)) r.2 (on x r.0 (here x x xs refl) (later r.0 x xs r.1) (pairs_head S x xs h r.0 r.1)))
      (pairs_map xs (λ a b c d s. on a b (later a x xs c) (later b x xs d) s) (pairs_tail S x xs h))

-- What lists contain that are made of others.
use Rattle.std.proofs.Common.{ℕ, zero, suc, ◌≡◌, ◌⊎◌, ◌+◌, ◌<◌, ◌≤◌, ◌||◌, ◌==◌, Bool, true, false, cond, List, [], ◌∷◌, ◌++◌, map, Option, Some, refl, sym, ap, subst, ◌∙◌, inl, inr, arith, slice_get, Contains}
use Rattle.std.specs.Prelude.{filter, find, flat_map}
use Rattle.std.specs.List.{list_any}
use Rattle.std.proofs.lemmas.Bool.{false≢true, cases_lt}
use Rattle.std.proofs.lemmas.Bool.Decides.{nat_tests}
use Rattle.std.proofs.lemmas.List.Elements.{Contains-append_left, Contains-append_right, Contains-append_cases}
use Rattle.act1_base.specs.Lists.{numbers, least_number, greatest_number}

module _ {X : Type 0} where
  pub here : (x y : X) (xs : List X) → y ≡ x → Contains (y ∷ xs) x
  here x y xs e = (0, omega arith, e)

  pub later : (x y : X) (xs : List X) → Contains xs x → Contains (y ∷ xs) x
  later x y xs h = let low = h.1 in (suc h.0, omega arith, h.2)

  pub first_or_later : (x y : X) (xs : List X) → Contains (y ∷ xs) x → (y ≡ x) ⊎ Contains xs x
  first_or_later x y xs (zero, low, e) = inl e
  first_or_later x y xs (suc k, low, e) = inr (k, omega arith, e)

  pub not_in_none : {A : Type 0} (x : X) → Contains [] x → A
  not_in_none x h = let low : h.0 < 0 = h.1 in absurd (omega arith)

  -- what a filter keeps
  pub in_filter : (test : X → Bool) (xs : List X) (x : X) → Contains xs x → test x ≡ true → Contains (filter test xs) x
  in_filter test [] x h e = not_in_none x h
  in_filter test (y ∷ ys) x h e = from (λ k. in_filter test ys x k e) (test y) refl (first_or_later x y ys h)
    where
      from : (Contains ys x → Contains (filter test ys) x) → (b : Bool) → test y ≡ b → (y ≡ x) ⊎ Contains ys x → Contains (cond b (y ∷ filter test ys) (filter test ys)) x
      from more true t (inl same) = here x y (filter test ys) same
      from more true t (inr rest) = later x y (filter test ys) (more rest)
      from more false t (inl same) = absurd (false≢true (sym t ∙ ap test same ∙ e))
      from more false t (inr rest) = more rest

  pub filtered : (test : X → Bool) (xs : List X) (x : X) → Contains (filter test xs) x → Contains xs x × (test x ≡ true)
  filtered test [] x h = not_in_none x h
  filtered test (y ∷ ys) x h = from (λ k. filtered test ys x k) (test y) refl h
    where
      more : Contains ys x × (test x ≡ true) → Contains (y ∷ ys) x × (test x ≡ true)
      more k = (later x y ys k.0, k.1)

      kept : (Contains (filter test ys) x → Contains ys x × (test x ≡ true)) → test y ≡ true → (y ≡ x) ⊎ Contains (filter test ys) x → Contains (y ∷ ys) x × (test x ≡ true)
      kept rec t (inl same) = (here x y ys same, sym (ap test same) ∙ t)
      kept rec t (inr rest) = more (rec rest)

      from : (Contains (filter test ys) x → Contains ys x × (test x ≡ true)) → (b : Bool) → test y ≡ b → Contains (cond b (y ∷ filter test ys) (filter test ys)) x → Contains (y ∷ ys) x × (test x ≡ true)
      from rec true t k = kept rec t (first_or_later x y (filter test ys) k)
      from rec false t k = more (rec k)

  -- some element passes
  pub any_of : (test : X → Bool) (xs : List X) (x : X) → Contains xs x → test x ≡ true → list_any test xs ≡ true
  any_of test [] x h e = not_in_none x h
  any_of test (y ∷ ys) x h e = from (λ k. any_of test ys x k e) (test y) refl (first_or_later x y ys h)
    where
      from : (Contains ys x → list_any test ys ≡ true) → (b : Bool) → test y ≡ b → (y ≡ x) ⊎ Contains ys x → (b || list_any test ys) ≡ true
      from rec true t k = refl
      from rec false t (inl same) = absurd (false≢true (sym t ∙ ap test same ∙ e))
      from rec false t (inr rest) = rec rest

  pub some_of : (test : X → Bool) (xs : List X) → list_any test xs ≡ true → (x : X) × Contains xs x × (test x ≡ true)
  some_of test [] e = absurd (false≢true e)
  some_of test (y ∷ ys) e = from (λ k. some_of test ys k) (test y) refl e
    where
      more : (x : X) × Contains ys x × (test x ≡ true) → (x : X) × Contains (y ∷ ys) x × (test x ≡ true)
      more r = (r.0, later r.0 y ys r.1, r.2)

      from : (list_any test ys ≡ true → (x : X) × Contains ys x × (test x ≡ true)) → (b : Bool) → test y ≡ b → (b || list_any test ys) ≡ true → (x : X) × Contains (y ∷ ys) x × (test x ≡ true)
      from rec true t k = (y, here y y ys refl, t)
      from rec false t k = more (rec k)

  pub none_passes : (test : X → Bool) (xs : List X) (x : X) → list_any test xs ≡ false → Contains xs x → test x ≡ false
  none_passes test xs x none h = from (test x) refl
    where
      from : (b : Bool) → test x ≡ b → test x ≡ false
      from true t = absurd (false≢true (sym none ∙ any_of test xs x h t))
      from false t = t

  -- what is found passes, and something is found where some element passes
  pub found : (test : X → Bool) (xs : List X) (x : X) → find test xs ≡ Some x → Contains xs x × (test x ≡ true)
  found test [] x e = cc
  found test (y ∷ ys) x e = from (λ k. found test ys x k) (test y) refl e
    where
      more : Contains ys x × (test x ≡ true) → Contains (y ∷ ys) x × (test x ≡ true)
      more k = (later x y ys k.0, k.1)

      same_of : {A : Type 0} (a b : A) → Some a ≡ Some b → a ≡ b
      same_of a b e = cc

      from : (find test ys ≡ Some x → Contains ys x × (test x ≡ true)) → (b : Bool) → test y ≡ b → cond b (Some y) (find test ys) ≡ Some x → Contains (y ∷ ys) x × (test x ≡ true)
      from rec true t k = let same = same_of y x k in (here x y ys same, sym (ap test same) ∙ t)
      from rec false t k = more (rec k)

  pub finds : (test : X → Bool) (xs : List X) → list_any test xs ≡ true → (x : X) × (find test xs ≡ Some x)
  finds test [] e = absurd (false≢true e)
  finds test (y ∷ ys) e = from (λ k. finds test ys k) (test y) e
    where
      from : (list_any test ys ≡ true → (x : X) × (find test ys ≡ Some x)) → (b : Bool) → (b || list_any test ys) ≡ true → (x : X) × (cond b (Some y) (find test ys) ≡ Some x)
      from rec true k = (y, refl)
      from rec false k = rec k

module _ {X Y : Type 0} where
  pub in_map : (f : X → Y) (xs : List X) (x : X) → Contains xs x → Contains (map f xs) (f x)
  in_map f [] x h = not_in_none x h
  in_map f (y ∷ ys) x h = from (λ k. in_map f ys x k) (first_or_later x y ys h)
    where
      from : (Contains ys x → Contains (map f ys) (f x)) → (y ≡ x) ⊎ Contains ys x → Contains (f y ∷ map f ys) (f x)
      from rec (inl same) = here (f x) (f y) (map f ys) (ap f same)
      from rec (inr rest) = later (f x) (f y) (map f ys) (rec rest)

  pub mapped : (f : X → Y) (xs : List X) (y : Y) → Contains (map f xs) y → (x : X) × Contains xs x × (f x ≡ y)
  mapped f [] y h = not_in_none y h
  mapped f (z ∷ zs) y h = from (λ k. mapped f zs y k) (first_or_later y (f z) (map f zs) h)
    where
      more : (x : X) × Contains zs x × (f x ≡ y) → (x : X) × Contains (z ∷ zs) x × (f x ≡ y)
      more r = (r.0, later r.0 z zs r.1, r.2)

      from : (Contains (map f zs) y → (x : X) × Contains zs x × (f x ≡ y)) → (f z ≡ y) ⊎ Contains (map f zs) y → (x : X) × Contains (z ∷ zs) x × (f x ≡ y)
      from rec (inl same) = (z, here z z zs refl, same)
      from rec (inr rest) = more (rec rest)

  pub in_flat : (f : X → List Y) (xs : List X) (x : X) (y : Y) → Contains xs x → Contains (f x) y → Contains (flat_map f xs) y
  in_flat f [] x y h k = not_in_none x h
  in_flat f (z ∷ zs) x y h k = from (λ l. in_flat f zs x y l k) (first_or_later x z zs h)
    where
      from : (Contains zs x → Contains (flat_map f zs) y) → (z ≡ x) ⊎ Contains zs x → Contains (f z ++ flat_map f zs) y
      from rec (inl same) = Contains-append_left (f z) (flat_map f zs) y (subst (λ (u : X). Contains (f u) y) (sym same) k)
      from rec (inr rest) = Contains-append_right (f z) (flat_map f zs) y (rec rest)

  pub flattened : (f : X → List Y) (xs : List X) (y : Y) → Contains (flat_map f xs) y → (x : X) × Contains xs x × Contains (f x) y
  flattened f [] y h = not_in_none y h
  flattened f (z ∷ zs) y h = from (λ k. flattened f zs y k) (Contains-append_cases (f z) (flat_map f zs) y h)
    where
      more : (x : X) × Contains zs x × Contains (f x) y → (x : X) × Contains (z ∷ zs) x × Contains (f x) y
      more r = (r.0, later r.0 z zs r.1, r.2)

      from : (Contains (flat_map f zs) y → (x : X) × Contains zs x × Contains (f x) y) → Contains (f z) y ⊎ Contains (flat_map f zs) y → (x : X) × Contains (z ∷ zs) x × Contains (f x) y
      from rec (inl k) = (z, here z z zs refl, k)
      from rec (inr rest) = more (rec rest)

-- numbers in a row
pub in_numbers : (first count n : ℕ) → first ≤ n → n < first + count → Contains (numbers first count) n
in_numbers first zero n low high = absurd (omega arith)
in_numbers first (suc count) n low high = from (λ a b. in_numbers (first + 1) count n a b) (cases_lt first n)
  where
    from : (first + 1 ≤ n → n < first + 1 + count → Contains (numbers (first + 1) count) n) → (first < n) ⊎ (n ≤ first) → Contains (numbers first (suc count)) n
    from rec (inl less) = later n first (numbers (first + 1) count) (rec (omega arith) (omega arith))
    from rec (inr more) = let same : first ≡ n = omega arith in here n first (numbers (first + 1) count) same

pub number_in : (first count n : ℕ) → Contains (numbers first count) n → (first ≤ n) × (n < first + count)
number_in first zero n h = not_in_none n h
number_in first (suc count) n h = from (λ k. number_in (first + 1) count n k) (first_or_later n first (numbers (first + 1) count) h)
  where
    more : (first + 1 ≤ n) × (n < first + 1 + count) → (first ≤ n) × (n < first + suc count)
    more r = let a = r.0 in let b = r.1 in (omega arith, omega arith)

    from : (Contains (numbers (first + 1) count) n → (first + 1 ≤ n) × (n < first + 1 + count)) → (first ≡ n) ⊎ Contains (numbers (first + 1) count) n → (first ≤ n) × (n < first + suc count)
    from rec (inl same) = (omega (arith, same), omega (arith, same))
    from rec (inr rest) = more (rec rest)

pub numbers_get : (first count k : ℕ) → k < count → slice_get (numbers first count) k ≡ Some (first + k)
numbers_get first zero k low = absurd (omega arith)
numbers_get first (suc count) zero low = let e : first ≡ first + 0 = omega arith in ap (λ (n : ℕ). let r : Option ℕ = Some n in r) e
numbers_get first (suc count) (suc k) low = let e : first + 1 + k ≡ first + suc k = omega arith in numbers_get (first + 1) count k (omega arith) ∙ ap (λ (n : ℕ). let r : Option ℕ = Some n in r) e

-- the least and the greatest of some numbers
pub least_is : (ns : List ℕ) (n : ℕ) → Contains ns n → least_number ns ≤ n
least_is [] n h = not_in_none n h
least_is (m ∷ []) n h = from (first_or_later n m [] h)
  where
    from : (m ≡ n) ⊎ Contains [] n → m ≤ n
    from (inl same) = omega (arith, same)
    from (inr rest) = not_in_none n rest
least_is (m ∷ l ∷ ns) n h = from (first_or_later n m (l ∷ ns) h) (λ k. least_is (l ∷ ns) n k)
  where
    from : (m ≡ n) ⊎ Contains (l ∷ ns) n → (Contains (l ∷ ns) n → least_number (l ∷ ns) ≤ n) → least_number (m ∷ l ∷ ns) ≤ n
    from (inl same) rest = omega (arith, same)
    from (inr k) rest = let r = rest k in omega arith

pub greatest_is : (ns : List ℕ) (n : ℕ) → Contains ns n → n ≤ greatest_number ns
greatest_is [] n h = not_in_none n h
greatest_is (m ∷ ns) n h = from (λ k. greatest_is ns n k) (first_or_later n m ns h)
  where
    from : (Contains ns n → n ≤ greatest_number ns) → (m ≡ n) ⊎ Contains ns n → n ≤ greatest_number (m ∷ ns)
    from rec (inl same) = omega (arith, same)
    from rec (inr k) = let r = rec k in omega arith

pub least_below : (ns : List ℕ) → least_number ns ≤ greatest_number ns
least_below [] = omega arith
least_below (m ∷ ns) = let a = least_is (m ∷ ns) m (here m m ns refl) in let b = greatest_is (m ∷ ns) m (here m m ns refl) in omega arith

equal_true : (m n : ℕ) → m ≡ n → (m == n) ≡ true
equal_true m n e = grind (arith, nat_tests)

true_equal : (m n : ℕ) → (m == n) ≡ true → m ≡ n
true_equal m n e = grind (arith, nat_tests)

-- a number is among others exactly where they contain it
pub among_contained : (xs : List ℕ) (n : ℕ) → list_any (λ m. m == n) xs ≡ true → Contains xs n
among_contained [] n e = absurd (false≢true e)
among_contained (x ∷ xs) n e = by (x == n) refl (among_contained xs n) e
  where
    by : (b : Bool) → (x == n) ≡ b → (list_any (λ m. m == n) xs ≡ true → Contains xs n) → (b || list_any (λ m. m == n) xs) ≡ true → Contains (x ∷ xs) n
    by true is h e = (0, omega arith, true_equal x n is)
    by false is h e = let c = h e in let low = c.1 in (suc c.0, omega arith, c.2)

pub contained_among : (xs : List ℕ) (n : ℕ) → Contains xs n → list_any (λ m. m == n) xs ≡ true
contained_among [] n (k, low, e) = absurd (omega arith)
contained_among (x ∷ xs) n (zero, low, e) = ap (λ b. b || list_any (λ m. m == n) xs) (equal_true x n e)
contained_among (x ∷ xs) n (suc k, low, e) = by (x == n) (contained_among xs n (k, omega arith, e))
  where
    by : (b : Bool) → list_any (λ m. m == n) xs ≡ true → (b || list_any (λ m. m == n) xs) ≡ true
    by true e = refl
    by false e = e

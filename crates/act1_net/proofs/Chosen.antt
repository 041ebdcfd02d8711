-- What is chosen of a list by marks, and at which place it then stands.
use Rattle.std.proofs.Common.{ℕ, suc, zero, ◌≡◌, ◌<◌, ◌≤◌, ◌+◌, ◌⊎◌, Bool, true, false, List, [], ◌∷◌, ◌++◌, length, map, replicate, refl, sym, ap, ◌∙◌, inl, inr, Option, Some, None, arith}
use Rattle.std.specs.Prelude.{slice_get, slice_index_or}
use Rattle.std.proofs.lemmas.Bool.{cases_lt}
use Rattle.std.proofs.lemmas.List.{length-append}
use Rattle.act1_base.proofs.ListGets.{some_is}
use Rattle.act1_net.specs.MarkSteps.{mark_count}
use Rattle.act1_net.specs.Net.{chosen, place_in}

module _ {X : Type 0} where
  -- of nothing nothing is chosen
  pub chosen_none : (ms : List Bool) → chosen ms (let none : List X = [] in none) ≡ []
  chosen_none [] = refl
  chosen_none (m ∷ ms) = refl

  pub chosen_append : (ms ns : List Bool) (xs ys : List X) → length ms ≡ length xs → chosen (ms ++ ns) (xs ++ ys) ≡ chosen ms xs ++ chosen ns ys
  chosen_append [] ns [] ys e = refl
  chosen_append [] ns (x ∷ xs) ys e = absurd (omega arith)
  chosen_append (m ∷ ms) ns [] ys e = absurd (omega arith)
  chosen_append (true ∷ ms) ns (x ∷ xs) ys e = ap (λ (zs : List X). x ∷ zs) (chosen_append ms ns xs ys (omega arith))
  chosen_append (false ∷ ms) ns (x ∷ xs) ys e = chosen_append ms ns xs ys (omega arith)

  pub chosen_all : (n : ℕ) (xs : List X) → length xs ≡ n → chosen (replicate n true) xs ≡ xs
  chosen_all zero [] e = refl
  chosen_all zero (x ∷ xs) e = absurd (omega arith)
  chosen_all (suc n) [] e = refl
  chosen_all (suc n) (x ∷ xs) e = ap (λ (zs : List X). x ∷ zs) (chosen_all n xs (omega arith))

  pub chosen_map : {Y : Type 0} (f : X → Y) (ms : List Bool) (xs : List X) → chosen ms (map f xs) ≡ map f (chosen ms xs)
  chosen_map f [] xs = refl
  chosen_map f (m ∷ ms) [] = refl
  chosen_map {Y} f (true ∷ ms) (x ∷ xs) = ap (λ (zs : List Y). f x ∷ zs) (chosen_map f ms xs)
  chosen_map f (false ∷ ms) (x ∷ xs) = chosen_map f ms xs

  -- what is the same where it is marked is the same where it is chosen
  pub chosen_same : {Y : Type 0} (f g : X → Y) (ms : List Bool) (xs : List X) → ((k : ℕ) (x : X) → slice_get ms k ≡ Some true → slice_get xs k ≡ Some x → f x ≡ g x) → chosen ms (map f xs) ≡ chosen ms (map g xs)
  chosen_same f g [] xs h = refl
  chosen_same f g (m ∷ ms) [] h = refl
  chosen_same {Y} f g (true ∷ ms) (x ∷ xs) h = ap (λ (y : Y). y ∷ chosen ms (map f xs)) (h 0 x refl refl) ∙ ap (λ (ys : List Y). g x ∷ ys) (chosen_same f g ms xs (λ k y m e. h (suc k) y m e))
  chosen_same f g (false ∷ ms) (x ∷ xs) h = chosen_same f g ms xs (λ k y m e. h (suc k) y m e)

  pub chosen_long : {Y : Type 0} (ms : List Bool) (xs : List X) (ys : List Y) → length xs ≡ length ys → length (chosen ms xs) ≡ length (chosen ms ys)
  chosen_long [] xs ys e = refl
  chosen_long (m ∷ ms) [] [] e = refl
  chosen_long (m ∷ ms) [] (y ∷ ys) e = absurd (omega arith)
  chosen_long (m ∷ ms) (x ∷ xs) [] e = absurd (omega arith)
  chosen_long (true ∷ ms) (x ∷ xs) (y ∷ ys) e = ap suc (chosen_long ms xs ys (omega arith))
  chosen_long (false ∷ ms) (x ∷ xs) (y ∷ ys) e = chosen_long ms xs ys (omega arith)

  pub chosen_fewer : (ms : List Bool) (xs : List X) → length (chosen ms xs) ≤ length xs
  chosen_fewer [] xs = omega arith
  chosen_fewer (m ∷ ms) [] = omega arith
  chosen_fewer (true ∷ ms) (x ∷ xs) = let r = chosen_fewer ms xs in omega arith
  chosen_fewer (false ∷ ms) (x ∷ xs) = let r = chosen_fewer ms xs in omega arith

  -- what is marked is chosen, at its place
  pub chosen_get : (ms : List Bool) (xs : List X) (k : ℕ) (x : X) → slice_get ms k ≡ Some true → slice_get xs k ≡ Some x → slice_get (chosen ms xs) (place_in ms k) ≡ Some x
  chosen_get [] xs k x m e = cc
  chosen_get (m ∷ ms) [] k x h e = cc
  chosen_get (true ∷ ms) (y ∷ xs) zero x h e = e
  chosen_get (false ∷ ms) (y ∷ xs) zero x h e = cc
  chosen_get (true ∷ ms) (y ∷ xs) (suc k) x h e = chosen_get ms xs k x h e
  chosen_get (false ∷ ms) (y ∷ xs) (suc k) x h e = chosen_get ms xs k x h e

  -- what is chosen was marked
  pub chosen_from : (ms : List Bool) (xs : List X) (i : ℕ) (x : X) → slice_get (chosen ms xs) i ≡ Some x → (k : ℕ) × (slice_get ms k ≡ Some true) × (slice_get xs k ≡ Some x) × (place_in ms k ≡ i)
  chosen_from [] xs i x e = cc
  chosen_from (m ∷ ms) [] i x e = cc
  chosen_from (true ∷ ms) (y ∷ xs) zero x e = (0, refl, e, refl)
  chosen_from (true ∷ ms) (y ∷ xs) (suc i) x e = let (k, m, at, is) = chosen_from ms xs i x e in (suc k, m, at, ap suc is)
  chosen_from (false ∷ ms) (y ∷ xs) i x e = let (k, m, at, is) = chosen_from ms xs i x e in (suc k, m, at, is)

pub place_within : {X : Type 0} (ms : List Bool) (xs : List X) (k : ℕ) → slice_get ms k ≡ Some true → length ms ≤ length xs → place_in ms k < length (chosen ms xs)
place_within [] xs k m long = cc
place_within (m ∷ ms) [] k h long = absurd (omega arith)
place_within (true ∷ ms) (x ∷ xs) zero h long = omega arith
place_within (false ∷ ms) (x ∷ xs) zero h long = cc
place_within (true ∷ ms) (x ∷ xs) (suc k) h long = let r = place_within ms xs k h (omega arith) in omega arith
place_within (false ∷ ms) (x ∷ xs) (suc k) h long = place_within ms xs k h (omega arith)

-- places rise
pub place_rises : (ms : List Bool) (i k : ℕ) → slice_get ms i ≡ Some true → slice_get ms k ≡ Some true → place_in ms i ≡ place_in ms k → i ≡ k
place_rises [] i k m n e = cc
place_rises (true ∷ ms) zero zero m n e = refl
place_rises (true ∷ ms) zero (suc k) m n e = absurd (omega arith)
place_rises (true ∷ ms) (suc i) zero m n e = absurd (omega arith)
place_rises (true ∷ ms) (suc i) (suc k) m n e = ap suc (place_rises ms i k m n (omega arith))
place_rises (false ∷ ms) zero k m n e = cc
place_rises (false ∷ ms) (suc i) zero m n e = cc
place_rises (false ∷ ms) (suc i) (suc k) m n e = ap suc (place_rises ms i k m n e)

-- the value at a place
pub index_chosen : (ms : List Bool) (v : List Bool) (k : ℕ) → slice_get ms k ≡ Some true → length ms ≤ length v → slice_index_or (chosen ms v) (place_in ms k) false ≡ slice_index_or v k false
index_chosen [] v k m long = cc
index_chosen (m ∷ ms) [] k h long = absurd (omega arith)
index_chosen (true ∷ ms) (x ∷ v) zero h long = refl
index_chosen (false ∷ ms) (x ∷ v) zero h long = cc
index_chosen (true ∷ ms) (x ∷ v) (suc k) h long = index_chosen ms v k h (omega arith)
index_chosen (false ∷ ms) (x ∷ v) (suc k) h long = index_chosen ms v k h (omega arith)

-- places where the first are all marked
pub place_first : (n : ℕ) (ms : List Bool) (k : ℕ) → k < n → place_in (replicate n true ++ ms) k ≡ k
place_first zero ms k low = absurd (omega arith)
place_first (suc n) ms zero low = refl
place_first (suc n) ms (suc k) low = ap suc (place_first n ms k (omega arith))

pub place_after : (n : ℕ) (ms : List Bool) (k i : ℕ) → i ≡ n + k → place_in (replicate n true ++ ms) i ≡ n + place_in ms k
place_after zero ms k i e = let f : i ≡ k = omega arith in let g : place_in ms k ≡ 0 + place_in ms k = omega arith in ap (place_in ms) f ∙ g
place_after (suc n) ms k zero e = absurd (omega arith)
place_after (suc n) ms k (suc i) e = let r = place_after n ms k i (omega arith) in omega arith

-- places behind others
pub place_behind : {X : Type 0} (ms ns : List Bool) (xs : List X) (k i : ℕ) → length ms ≡ length xs → i ≡ length ms + k → place_in (ms ++ ns) i ≡ length (chosen ms xs) + place_in ns k
place_behind [] ns xs k i e f = let g : i ≡ k = omega arith in let h : place_in ns k ≡ 0 + place_in ns k = omega arith in ap (place_in ns) g ∙ h
place_behind (m ∷ ms) ns [] k i e f = absurd (omega arith)
place_behind (true ∷ ms) ns (x ∷ xs) k zero e f = absurd (omega arith)
place_behind (false ∷ ms) ns (x ∷ xs) k zero e f = absurd (omega arith)
place_behind (true ∷ ms) ns (x ∷ xs) k (suc i) e f = let r = place_behind ms ns xs k i (omega arith) (omega arith) in omega arith
place_behind (false ∷ ms) ns (x ∷ xs) k (suc i) e f = place_behind ms ns xs k i (omega arith) (omega arith)

pub place_before : (ms ns : List Bool) (k : ℕ) → k < length ms → place_in (ms ++ ns) k ≡ place_in ms k
place_before [] ns k low = absurd (omega arith)
place_before (true ∷ ms) ns zero low = refl
place_before (false ∷ ms) ns zero low = refl
place_before (true ∷ ms) ns (suc k) low = ap suc (place_before ms ns k (omega arith))
place_before (false ∷ ms) ns (suc k) low = place_before ms ns k (omega arith)

-- marks of parts
pub get_behind : {X : Type 0} (xs ys : List X) (k i : ℕ) → i ≡ length xs + k → slice_get (xs ++ ys) i ≡ slice_get ys k
get_behind [] ys k i e = let f : i ≡ k = omega arith in ap (slice_get ys) f
get_behind (x ∷ xs) ys k zero e = absurd (omega arith)
get_behind (x ∷ xs) ys k (suc i) e = get_behind xs ys k i (omega arith)

pub get_before : {X : Type 0} (xs ys : List X) (k : ℕ) → k < length xs → slice_get (xs ++ ys) k ≡ slice_get xs k
get_before [] ys k low = absurd (omega arith)
get_before (x ∷ xs) ys zero low = refl
get_before (x ∷ xs) ys (suc k) low = get_before xs ys k (omega arith)

-- the place of the first, and of the next
pub place_zero : (ms : List Bool) → place_in ms 0 ≡ 0
place_zero [] = refl
place_zero (true ∷ ms) = refl
place_zero (false ∷ ms) = refl

pub place_most : (ms : List Bool) (k : ℕ) → place_in ms k ≤ k
place_most [] k = omega arith
place_most (true ∷ ms) zero = omega arith
place_most (false ∷ ms) zero = omega arith
place_most (true ∷ ms) (suc k) = let r = place_most ms k in omega arith
place_most (false ∷ ms) (suc k) = let r = place_most ms k in omega arith

place_next : (ms : List Bool) (k : ℕ) (m : Bool) → slice_get ms k ≡ Some m → place_in ms (suc k) ≡ place_in ms k + mark_count m
place_next [] k m e = cc
place_next (true ∷ ms) zero m e = let is : true ≡ m = cc in ap suc (place_zero ms) ∙ ap (λ (a : Bool). 0 + mark_count a) is
place_next (false ∷ ms) zero m e = let is : false ≡ m = cc in place_zero ms ∙ ap (λ (a : Bool). 0 + mark_count a) is
place_next (true ∷ ms) (suc k) m e = let r = place_next ms k m e in omega arith
place_next (false ∷ ms) (suc k) m e = place_next ms k m e

pub place_more : (ms : List Bool) (k : ℕ) (m : Bool) → slice_get ms k ≡ Some m → place_in ms (k + 1) ≡ place_in ms k + mark_count m
place_more ms k m e = let s : k + 1 ≡ suc k = omega arith in ap (place_in ms) s ∙ place_next ms k m e

mark_most : (m : Bool) → mark_count m ≤ 1
mark_most true = omega arith
mark_most false = omega arith

-- the next number fits
pub next_fits : (ms : List Bool) (k next count : ℕ) (m : Bool) → next ≡ place_in ms k → count ≡ mark_count m → next + count ≤ k + 1
next_fits ms k next count m e f = let l = place_most ms k in let n = mark_most m in omega arith

last_index : (xs : List ℕ) (x k : ℕ) → k ≡ length xs → slice_index_or (xs ++ x ∷ []) k 0 ≡ x
last_index [] x zero e = refl
last_index [] x (suc k) e = absurd (omega arith)
last_index (y ∷ xs) x zero e = absurd (omega arith)
last_index (y ∷ xs) x (suc k) e = last_index xs x k (omega arith)

first_index : (xs : List ℕ) (x k : ℕ) → k < length xs → slice_index_or (xs ++ x ∷ []) k 0 ≡ slice_index_or xs k 0
first_index [] x k low = absurd (omega arith)
first_index (y ∷ xs) x zero low = refl
first_index (y ∷ xs) x (suc k) low = first_index xs x k (omega arith)

-- the new numbers of the first signals
abbrev pub AreFirst : List Bool → ℕ → ℕ → List ℕ → Type 0
AreFirst ms i next numbers = (next ≡ place_in ms i) × (length numbers ≡ i) × ((k : ℕ) → k < i → slice_index_or numbers k 0 ≡ place_in ms k)

pub numbers_none : (ms : List Bool) → AreFirst ms 0 0 []
numbers_none ms = (sym (place_zero ms), refl, λ k low. absurd (omega arith))

pub numbers_more : (ms : List Bool) (i next count : ℕ) (m : Bool) (numbers new : List ℕ) → slice_get ms i ≡ Some m → AreFirst ms i next numbers → new ≡ numbers ++ next ∷ [] → count ≡ mark_count m → AreFirst ms (i + 1) (next + count) new
numbers_more ms i next count m numbers new is (e, l, h) new_is c = (
  (let r = place_more ms i m is in omega arith),
  (ap (λ (ns : List ℕ). length ns) new_is ∙ (let n = length_more numbers next in omega arith)),
  λ k low. ap (λ (ns : List ℕ). slice_index_or ns k 0) new_is ∙ by k (cases_lt k i) low,
)
  where
    length_more : (xs : List ℕ) (x : ℕ) → length (xs ++ x ∷ []) ≡ length xs + 1
    length_more xs x = length-append xs (x ∷ [])

    by : (k : ℕ) → (k < i) ⊎ (i ≤ k) → k < i + 1 → slice_index_or (numbers ++ next ∷ []) k 0 ≡ place_in ms k
    by k (inl low) under = first_index numbers next k (omega arith) ∙ h k low
    by k (inr high) under = let here : k ≡ i = omega arith in last_index numbers next k (omega arith) ∙ e ∙ ap (place_in ms) (sym here)

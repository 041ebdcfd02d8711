-- Distinct numbers below n are at most n.
use Rattle.std.proofs.Common.{ℕ, suc, zero, ◌≡◌, ◌≢◌, ◌<◌, ◌≤◌, ◌⊎◌, List, [], ◌∷◌, length, Some, refl, ap, subst, inl, inr, arith}
use Rattle.std.specs.Prelude.{Contains, slice_get}
use Rattle.std.proofs.lemmas.Bool.{cases_eq}

-- the number is none of these, and no two of these are the same
abbrev pub NotIn : ℕ → List ℕ → Type 0
NotIn n [] = Unit {0}
NotIn n (m ∷ ms) = (n ≢ m) × NotIn n ms

abbrev pub Distinct : List ℕ → Type 0
Distinct [] = Unit {0}
Distinct (n ∷ ns) = NotIn n ns × Distinct ns

abbrev pub Below : ℕ → List ℕ → Type 0
Below n [] = Unit {0}
Below n (m ∷ ms) = (m < n) × Below n ms

-- distinct numbers below one more are as many as some below it, and one more
abbrev Fewer : ℕ → List ℕ → Type 0
Fewer n ms = (rest : List ℕ) × Distinct rest × Below n rest × (length ms ≤ suc (length rest)) × ((k : ℕ) → NotIn k ms → NotIn k rest)

all_below : (n : ℕ) (ms : List ℕ) → NotIn n ms → Below (suc n) ms → Below n ms
all_below n [] h b = tt
all_below n (m ∷ ms) h b = (by b.0 h.0, all_below n ms h.1 b.1)
  where
    by : m < suc n → n ≢ m → m < n
    by low apart = omega arith

fewer : (n : ℕ) (ms : List ℕ) → Distinct ms → Below (suc n) ms → Fewer n ms
fewer n [] d b = ([], tt, tt, omega arith, λ k h. tt)
fewer n (m ∷ ms) d b = by (fewer n ms d.1 b.1) (cases_eq m n)
  where
    by : Fewer n ms → (m ≡ n) ⊎ (m ≢ n) → Fewer n (m ∷ ms)
    by r (inl is) = (ms, d.1, all_below n ms (subst (λ (k : ℕ). NotIn k ms) is d.0) b.1, omega arith, λ k h. h.1)
    by r (inr apart) = (m ∷ r.0, (r.4 m d.0, r.1), (let low = b.0 in omega arith, r.2), (let more = r.3 in omega arith), λ k h. (h.0, r.4 k h.1))

-- distinct numbers below n are at most n
pub pigeonhole : (n : ℕ) (ms : List ℕ) → Distinct ms → Below n ms → length ms ≤ n
pigeonhole zero [] d b = omega arith
pigeonhole zero (m ∷ ms) d b = absurd (omega (arith, b.0))
pigeonhole (suc n) ms d b = let r = fewer n ms d b in let low = pigeonhole n r.0 r.1 r.2 in let more = r.3 in omega arith

-- what is at no place is in no list
pub not_in : (x : ℕ) (xs : List ℕ) → ((q : ℕ) → slice_get xs q ≡ Some x → ⊥) → NotIn x xs
not_in x [] h = tt
not_in x (y ∷ xs) h = (λ e. h 0 (ap (λ (u : ℕ). Some u) (sym_of e)), not_in x xs (λ q. h (suc q)))
  where
    sym_of : x ≡ y → y ≡ x
    sym_of e = cc

-- numbers that stand once are distinct
pub distinct : (xs : List ℕ) → ((p q v : ℕ) → slice_get xs p ≡ Some v → slice_get xs q ≡ Some v → p ≡ q) → Distinct xs
distinct [] once = tt
distinct (x ∷ xs) once = (not_in x xs (λ q h. let e = once 0 (suc q) x refl h in absurd (omega (arith, e))), distinct xs (λ p q v h k. let e = once (suc p) (suc q) v h k in omega arith))

pub below : (n : ℕ) (xs : List ℕ) → ((p v : ℕ) → slice_get xs p ≡ Some v → v < n) → Below n xs
below n [] h = tt
below n (x ∷ xs) h = (h 0 x refl, below n xs (λ p v is. h (suc p) v is))

-- a number is in a list or it is not
pub is_in : (v : ℕ) (xs : List ℕ) → Contains xs v ⊎ NotIn v xs
is_in v [] = inr tt
is_in v (x ∷ xs) = by (cases_eq v x) (is_in v xs)
  where
    by : (v ≡ x) ⊎ (v ≢ x) → Contains xs v ⊎ NotIn v xs → Contains (x ∷ xs) v ⊎ NotIn v (x ∷ xs)
    by (inl e) r = inl (0, omega arith, (cc))
    by (inr apart) (inl c) = let low = c.1 in inl (suc c.0, omega arith, c.2)
    by (inr apart) (inr none) = inr (apart, none)

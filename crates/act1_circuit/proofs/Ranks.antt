-- Levels of n modules become ranks of at most n: one more than how many modules are of a lower level.
use Rattle.std.proofs.Common.{ℕ, zero, suc, ◌≡◌, ◌⊎◌, ◌+◌, ◌<◌, ◌≤◌, refl, subst, inl, inr, arith}
use Rattle.std.proofs.lemmas.Bool.{cases_lt, cases_eq}

module _ (level : ℕ → ℕ) where
  one_if : (l m : ℕ) → (l < m) ⊎ (m ≤ l) → ℕ
  one_if l m (inl low) = 1
  one_if l m (inr high) = 0

  -- how many of the modules below n are of a level below l
  lower : ℕ → ℕ → ℕ
  lower zero l = 0
  lower (suc n) l = one_if (level n) l (cases_lt (level n) l) + lower n l

  one_more_if : (a l m : ℕ) → l ≤ m → (p : (a < l) ⊎ (l ≤ a)) (q : (a < m) ⊎ (m ≤ a)) → one_if a l p ≤ one_if a m q
  unfolding one_if
  one_more_if a l m le (inl p) (inl q) = omega arith
  one_more_if a l m le (inl p) (inr q) = absurd (omega arith)
  one_more_if a l m le (inr p) (inl q) = omega arith
  one_more_if a l m le (inr p) (inr q) = omega arith

  at_most_one : (a l : ℕ) (p : (a < l) ⊎ (l ≤ a)) → one_if a l p ≤ 1
  unfolding one_if
  at_most_one a l (inl p) = omega arith
  at_most_one a l (inr p) = omega arith

  none_if : (a l : ℕ) → l ≤ a → (p : (a < l) ⊎ (l ≤ a)) → one_if a l p ≡ 0
  unfolding one_if
  none_if a l le (inl p) = absurd (omega arith)
  none_if a l le (inr p) = refl

  some_if : (a l : ℕ) → a < l → (p : (a < l) ⊎ (l ≤ a)) → one_if a l p ≡ 1
  unfolding one_if
  some_if a l low (inl p) = refl
  some_if a l low (inr p) = absurd (omega arith)

  lower_more : (n l m : ℕ) → l ≤ m → lower n l ≤ lower n m
  unfolding lower
  lower_more zero l m le = omega arith
  lower_more (suc n) l m le =
      let r = lower_more n l m le in
      let h = one_more_if (level n) l m le (cases_lt (level n) l) (cases_lt (level n) m) in
      omega arith

  lower_few : (n l : ℕ) → lower n l ≤ n
  unfolding lower
  lower_few zero l = omega arith
  lower_few (suc n) l = let r = lower_few n l in let h = at_most_one (level n) l (cases_lt (level n) l) in omega arith

  lower_fewer : (n l j : ℕ) → j < n → l ≤ level j → lower n l < n
  unfolding lower
  lower_fewer zero l j low high = absurd (omega arith)
  lower_fewer (suc n) l j low high = by (λ k. lower_fewer n l j k high) (cases_eq j n)
    where
      by : (j < n → lower n l < n) → (j ≡ n) ⊎ (j ≡ n → ⊥) → one_if (level n) l (cases_lt (level n) l) + lower n l < suc n
      by before (inl is) = let h = none_if (level n) l (subst (λ (k : ℕ). l ≤ level k) is high) (cases_lt (level n) l) in let r = lower_few n l in omega arith
      by before (inr apart) = let r = before (omega arith) in let h = at_most_one (level n) l (cases_lt (level n) l) in omega arith

  lower_below : (n l m j : ℕ) → j < n → l ≤ level j → level j < m → lower n l < lower n m
  unfolding lower
  lower_below zero l m j low high below = absurd (omega arith)
  lower_below (suc n) l m j low high below = by (λ k. lower_below n l m j k high below) (cases_eq j n)
    where
      by : (j < n → lower n l < lower n m) → (j ≡ n) ⊎ (j ≡ n → ⊥) → one_if (level n) l (cases_lt (level n) l) + lower n l < one_if (level n) m (cases_lt (level n) m) + lower n m
      by before (inl is) =
          let a = none_if (level n) l (subst (λ (k : ℕ). l ≤ level k) is high) (cases_lt (level n) l) in
          let b = some_if (level n) m (subst (λ (k : ℕ). level k < m) is below) (cases_lt (level n) m) in
          let r = lower_more n l m (omega arith) in omega arith
      by before (inr apart) =
          let r = before (omega arith) in
          let h = one_more_if (level n) l m (omega arith) (cases_lt (level n) l) (cases_lt (level n) m) in omega arith

  rank_by : (l low : ℕ) → (0 < l) ⊎ (l ≤ 0) → ℕ
  rank_by l low (inl some) = suc low
  rank_by l low (inr none) = 0

  -- the rank among n modules
  pub rank : ℕ → ℕ → ℕ
  rank n m = rank_by (level m) (lower n (level m)) (cases_lt 0 (level m))

  few_by : (n m l : ℕ) → level m ≡ l → m < n → (p : (0 < l) ⊎ (l ≤ 0)) → rank_by l (lower n l) p ≤ n
  unfolding rank_by
  few_by n m l is within (inl some) = let h = lower_fewer n l m within (omega arith) in omega arith
  few_by n m l is within (inr none) = omega arith

  pub rank_few : (n m : ℕ) → m < n → rank n m ≤ n
  unfolding rank
  rank_few n m within = few_by n m (level m) refl within (cases_lt 0 (level m))

  zero_by : (l low : ℕ) (p : (0 < l) ⊎ (l ≤ 0)) → rank_by l low p ≡ 0 → l ≡ 0
  unfolding rank_by
  zero_by l low (inl some) e = absurd (omega arith)
  zero_by l low (inr none) e = omega arith

  pub rank_zero : (n m : ℕ) → rank n m ≡ 0 → level m ≡ 0
  unfolding rank
  rank_zero n m e = zero_by (level m) (lower n (level m)) (cases_lt 0 (level m)) e

  none_by : (l low : ℕ) (p : (0 < l) ⊎ (l ≤ 0)) → l ≡ 0 → rank_by l low p ≡ 0
  unfolding rank_by
  none_by l low (inl some) e = absurd (omega arith)
  none_by l low (inr none) e = refl

  pub rank_none : (n m : ℕ) → level m ≡ 0 → rank n m ≡ 0
  unfolding rank
  rank_none n m e = none_by (level m) (lower n (level m)) (cases_lt 0 (level m)) e

  below_by : (n k l m : ℕ) → level k ≡ l → k < n → l < m → (p : (0 < l) ⊎ (l ≤ 0)) (q : (0 < m) ⊎ (m ≤ 0)) → rank_by l (lower n l) p < rank_by m (lower n m) q
  unfolding rank_by
  below_by n k l m is within below (inl p) (inl q) = let h = lower_below n l m k within (omega arith) (omega arith) in omega arith
  below_by n k l m is within below (inl p) (inr q) = absurd (omega arith)
  below_by n k l m is within below (inr p) (inl q) = omega arith
  below_by n k l m is within below (inr p) (inr q) = absurd (omega arith)

  pub rank_below : (n k m : ℕ) → k < n → level k < level m → rank n k < rank n m
  unfolding rank
  rank_below n k m within below = below_by n k (level k) (level m) refl within below (cases_lt 0 (level k)) (cases_lt 0 (level m))

-- A rising list of the numbers that pass a test: the place of each is how many pass below it.
use Rattle.std.proofs.Common.{ℕ, suc, zero, ◌≡◌, ◌<◌, ◌≤◌, ◌+◌, ◌⊎◌, Bool, true, false, List, length, Some, refl, sym, ap, subst, ◌∙◌, inl, inr, arith}
use Rattle.std.specs.Prelude.{slice_get}
use Rattle.std.proofs.lemmas.Bool.{cases_lt, false≢true}
use Rattle.act1_base.proofs.ListGets.{get_in, get_within, one_at}
use Rattle.act1_meaning.specs.Extracted.{count_below}
use Rattle.act1_extract.proofs.Picks.{counted, one_more, place_found, skipped}

module _ (test : ℕ → Bool) (n : ℕ) (xs : List ℕ)
    (rise : (i j a b : ℕ) → slice_get xs i ≡ Some a → slice_get xs j ≡ Some b → i < j → a < b)
    (sound : (j a : ℕ) → slice_get xs j ≡ Some a → (a < n) × (test a ≡ true))
    (all : (m : ℕ) → m < n → test m ≡ true → (j : ℕ) × (slice_get xs j ≡ Some m)) where
  -- as many stand in the list below a number as pass below it
  Parted : ℕ → Type 0
  Parted m = ((j a : ℕ) → slice_get xs j ≡ Some a → a < m → j < count_below test m) × ((j a : ℕ) → slice_get xs j ≡ Some a → m ≤ a → count_below test m ≤ j)

  same_at : (i j a b : ℕ) → slice_get xs i ≡ Some a → slice_get xs j ≡ Some b → a ≡ b → i ≡ j
  same_at i j a b e f same = by (cases_lt i j) (cases_lt j i)
    where
      by : (i < j) ⊎ (j ≤ i) → (j < i) ⊎ (i ≤ j) → i ≡ j
      by (inl less) q = let h = rise i j a b e f less in absurd (omega arith)
      by (inr high) (inl less) = let h = rise j i b a f e less in absurd (omega arith)
      by (inr high) (inr low) = omega arith

  parted_more : (m : ℕ) → m < n → Parted m → Parted (suc m)
  unfolding Parted
  parted_more m low h = by (test m) refl
    where
      by : (b : Bool) → test m ≡ b → Parted (suc m)
      by true e =
          let own = all m low e in
          let after = h.1 own.0 m own.1 (omega arith) in
          let here : own.0 ≡ count_below test m = exact own.0 own.1 after (cases_lt (count_below test m) own.0) in
          let more = counted test m e in (
            λ j a f small. front j a f small own.0 own.1 here more (cases_lt a m),
            λ j a f high.
                let place = h.1 j a f (omega arith) in
                last j a f high own.0 own.1 here more place (cases_lt j (suc (count_below test m))),
          )
        where
          exact : (k : ℕ) → slice_get xs k ≡ Some m → count_below test m ≤ k → (count_below test m < k) ⊎ (k ≤ count_below test m) → k ≡ count_below test m
          exact k f after (inr few) = omega arith
          exact k f after (inl over) =
              let within = get_within xs k m f in
              let found = get_in xs (count_below test m) (omega arith) in
              let less = rise (count_below test m) k found.0 m found.1 f over in
              let again = h.0 (count_below test m) found.0 found.1 less in absurd (omega arith)

          front : (j a : ℕ) → slice_get xs j ≡ Some a → a < suc m → (k : ℕ) → slice_get xs k ≡ Some m → k ≡ count_below test m → count_below test (suc m) ≡ suc (count_below test m) → (a < m) ⊎ (m ≤ a) → j < count_below test (suc m)
          front j a f small k at here more (inl less) = let r = h.0 j a f less in omega arith
          front j a f small k at here more (inr high) = let same = same_at j k a m f at (omega arith) in omega arith

          last : (j a : ℕ) → slice_get xs j ≡ Some a → suc m ≤ a → (k : ℕ) → slice_get xs k ≡ Some m → k ≡ count_below test m → count_below test (suc m) ≡ suc (count_below test m)
              → count_below test m ≤ j → (j < suc (count_below test m)) ⊎ (suc (count_below test m) ≤ j) → count_below test (suc m) ≤ j
          last j a f high k at here more place (inr over) = omega arith
          last j a f high k at here more place (inl less) =
              let same : j ≡ k = omega arith in
              let one : a ≡ m = one_at xs j a m f (ap (λ (i : ℕ). slice_get xs i) same ∙ at) in absurd (omega arith)
      by false e =
          let same = skipped test m e in (
            λ j a f small. front j a f small same (cases_lt a m),
            λ j a f high. let r = h.1 j a f (omega arith) in omega arith,
          )
        where
          front : (j a : ℕ) → slice_get xs j ≡ Some a → a < suc m → count_below test (suc m) ≡ count_below test m → (a < m) ⊎ (m ≤ a) → j < count_below test (suc m)
          front j a f small same (inl less) = let r = h.0 j a f less in omega arith
          front j a f small same (inr high) =
              let is : a ≡ m = omega arith in
              absurd (false≢true (sym e ∙ ap test (sym is) ∙ (sound j a f).1))

  parted : (m : ℕ) → m ≤ n → Parted m
  unfolding Parted
  parted zero low = (λ j a f small. absurd (omega arith), λ j a f high. omega arith)
  parted (suc m) low = parted_more m (omega arith) (parted m (omega arith))

  pub rank : (j a : ℕ) → slice_get xs j ≡ Some a → count_below test a ≡ j
  unfolding Parted
  rank j a f =
      let low = (sound j a f).0 in
      let before = (parted a (omega arith)).1 j a f (omega arith) in
      let within = (parted (suc a) (omega arith)).0 j a f (omega arith) in
      let most = (one_more test a).1 in omega arith

  pub ranks : length xs ≡ count_below test n
  unfolding Parted
  ranks = by (cases_lt (length xs) (count_below test n)) (cases_lt (count_below test n) (length xs))
    where
      by : (length xs < count_below test n) ⊎ (count_below test n ≤ length xs) → (count_below test n < length xs) ⊎ (length xs ≤ count_below test n) → length xs ≡ count_below test n
      by (inl less) q =
          let m = place_found test n (length xs) less in
          let j = all m.0 m.1 m.2 in
          let here = rank j.0 m.0 j.1 in
          let within = get_within xs j.0 m.0 j.1 in
          let is = m.3 in absurd (omega arith)
      by (inr high) (inl more) =
          let a = get_in xs (count_below test n) more in
          let low = (sound (count_below test n) a.0 a.1).0 in
          let again = (parted n (omega arith)).0 (count_below test n) a.0 a.1 low in absurd (omega arith)
      by (inr high) (inr low) = omega arith

-- Numbers that pass a test, their places among these, and lists with one element for each.
use Rattle.std.proofs.Common.{ℕ, suc, zero, ◌≡◌, ◌≢◌, ◌<◌, ◌≤◌, ◌+◌, ◌⊎◌, Bool, true, false, List, [], ◌∷◌, ◌++◌, length, Some, refl, sym, ap, subst, ◌∙◌, inl, inr, arith}
use Rattle.std.specs.Prelude.{if◌then◌else◌, slice_get}
use Rattle.std.proofs.lemmas.Bool.{cases_lt, false≢true}
use Rattle.std.proofs.lemmas.List.{length-append}
use Rattle.act1_base.proofs.ListGets.{get_last, get_more, get_within, one_at}
use Rattle.act1_meaning.specs.Extracted.{count_below}
use Rattle.act1_extract.specs.Picked.{ArePicked}

abbrev one : Bool → ℕ
one b = if b then 1 else 0

pub counted : (test : ℕ → Bool) (n : ℕ) → test n ≡ true → count_below test (suc n) ≡ suc (count_below test n)
counted test n e = let h : count_below test (suc n) ≡ 1 + count_below test n = ap (λ (b : Bool). one b + count_below test n) e in omega arith

pub skipped : (test : ℕ → Bool) (n : ℕ) → test n ≡ false → count_below test (suc n) ≡ count_below test n
skipped test n e = let h : count_below test (suc n) ≡ 0 + count_below test n = ap (λ (b : Bool). one b + count_below test n) e in omega arith

pub one_more : (test : ℕ → Bool) (n : ℕ) → (count_below test n ≤ count_below test (suc n)) × (count_below test (suc n) ≤ suc (count_below test n))
one_more test n = by (test n) refl
  where
    by : (b : Bool) → test n ≡ b → (count_below test n ≤ count_below test (suc n)) × (count_below test (suc n) ≤ suc (count_below test n))
    by true e = let h = counted test n e in (omega arith, omega arith)
    by false e = let h = skipped test n e in (omega arith, omega arith)

pub below_most : (test : ℕ → Bool) (n : ℕ) → count_below test n ≤ n
below_most test zero = omega arith
below_most test (suc n) = let h = below_most test n in let k = (one_more test n).1 in omega arith

-- a number that passes has a lower place than how many pass below a higher one
pub place_low : (test : ℕ → Bool) (n m : ℕ) → m < n → test m ≡ true → count_below test m < count_below test n
place_low test zero m low e = absurd (omega arith)
place_low test (suc n) m low e = by (λ less. place_low test n m less e) (cases_lt m n)
  where
    by : (m < n → count_below test m < count_below test n) → (m < n) ⊎ (n ≤ m) → count_below test m < count_below test (suc n)
    by r (inl less) = let h = r less in let k = (one_more test n).0 in omega arith
    by r (inr high) =
        let is : m ≡ n = omega arith in
        let here : count_below test m ≡ count_below test n = ap (count_below test) is in
        let k = counted test n (ap test (sym is) ∙ e) in omega arith

-- each place is that of a number
pub place_found : (test : ℕ → Bool) (n j : ℕ) → j < count_below test n → (m : ℕ) × (m < n) × (test m ≡ true) × (count_below test m ≡ j)
place_found test zero j low = absurd (omega arith)
place_found test (suc n) j low = by (λ less. place_found test n j less) (test n) refl (cases_lt j (count_below test n))
  where
    by : (j < count_below test n → (m : ℕ) × (m < n) × (test m ≡ true) × (count_below test m ≡ j)) → (b : Bool) → test n ≡ b → (j < count_below test n) ⊎ (count_below test n ≤ j) → (m : ℕ) × (m < suc n) × (test m ≡ true) × (count_below test m ≡ j)
    by again b e (inl less) = let r = again less in let s = r.1 in (r.0, omega arith, r.2, r.3)
    by again true e (inr high) = let h = counted test n e in (n, omega arith, e, omega arith)
    by again false e (inr high) = let h = skipped test n e in absurd (omega arith)

-- and of one alone
pub same_number : (test : ℕ → Bool) (m k : ℕ) → test m ≡ true → test k ≡ true → count_below test m ≡ count_below test k → m ≡ k
same_number test m k e f same = by (cases_lt m k) (cases_lt k m)
  where
    by : (m < k) ⊎ (k ≤ m) → (k < m) ⊎ (m ≤ k) → m ≡ k
    by (inl less) q = let h = place_low test k m less e in absurd (omega arith)
    by (inr high) (inl less) = let h = place_low test m k less f in absurd (omega arith)
    by (inr high) (inr low) = omega arith

-- tests that agree count alike
pub same_count : (f g : ℕ → Bool) (n : ℕ) → ((m : ℕ) → m < n → f m ≡ g m) → count_below f n ≡ count_below g n
same_count f g zero h = refl
same_count f g (suc n) h =
    let a : one (f n) ≡ one (g n) = ap one (h n (omega arith)) in
    let b = same_count f g n (λ m low. h m (omega arith)) in omega arith

module _ {X : Type 0} (test : ℕ → Bool) (Fits : ℕ → X → Type 0) where
  pub none_picked : ArePicked test 0 Fits []
  none_picked = record { count = refl; each = λ m low e. absurd (omega arith) }

  pub picked_more : (n : ℕ) (xs : List X) (x : X) → ArePicked test n Fits xs → test n ≡ true → Fits n x → ArePicked test (suc n) Fits (xs ++ x ∷ [])
  picked_more n xs x h e fits = record {
    count = (let a = counted test n e in let b = h.count in omega (arith, length-append xs (x ∷ [])));
    each = λ m low f. by m f (cases_lt m n) low;
  }
    where
      by : (m : ℕ) → test m ≡ true → (m < n) ⊎ (n ≤ m) → m < suc n → (y : X) × (slice_get (xs ++ x ∷ []) (count_below test m) ≡ Some y) × Fits m y
      by m f (inl less) low = let r = h.each m less f in (r.0, get_more xs x r.0 (count_below test m) r.1, r.2)
      by m f (inr high) low =
          let is : n ≡ m = omega arith in
          (x, get_last xs x (count_below test m) (ap (count_below test) (sym is) ∙ sym h.count), subst (λ (k : ℕ). Fits k x) is fits)

  pub picked_same : (n : ℕ) (xs : List X) → ArePicked test n Fits xs → test n ≡ false → ArePicked test (suc n) Fits xs
  picked_same n xs h e = record {
    count = (let a = skipped test n e in let b = h.count in omega arith);
    each = λ m low f. by m f (cases_lt m n) low;
  }
    where
      by : (m : ℕ) → test m ≡ true → (m < n) ⊎ (n ≤ m) → m < suc n → (y : X) × (slice_get xs (count_below test m) ≡ Some y) × Fits m y
      by m f (inl less) low = h.each m less f
      by m f (inr high) low =
          let is : m ≡ n = omega arith in
          absurd (false≢true (sym e ∙ ap test (sym is) ∙ f))

  -- each element is that of a number
  pub picked_back : (n : ℕ) (xs : List X) → ArePicked test n Fits xs → (j : ℕ) (x : X) → slice_get xs j ≡ Some x → (m : ℕ) × (m < n) × (test m ≡ true) × (count_below test m ≡ j) × Fits m x
  picked_back n xs h j x e =
      let low = get_within xs j x e in
      let count = h.count in
      let r = place_found test n j (omega arith) in
      let own = h.each r.0 r.1 r.2 in
      (r.0, r.1, r.2, r.3, subst (λ (y : X). Fits r.0 y) (one_at xs j own.0 x (ap (λ (i : ℕ). slice_get xs i) (sym r.3) ∙ own.1) e) own.2)

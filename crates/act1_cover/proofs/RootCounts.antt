-- The counts of references, where two stands for more too, and the roots that they tell.
use Rattle.std.proofs.Common.{ℕ, zero, suc, ◌≡◌, ◌≢◌, ◌⊎◌, ◌+◌, ◌<◌, ◌≤◌, ◌==◌, ◌||◌, Bool, true, false, List, [], ◌∷◌, ◌++◌, length, take, get_or, Some, refl, sym, ap, subst, ◌∙◌, inl, inr, arith}
use Rattle.std.specs.Prelude.{if◌then◌else◌, nat_lt, replicate, slice_get, slice_index_or, slice_set}
use Rattle.std.proofs.lemmas.Bool.{cases_eq, cases_lt}
use Rattle.std.proofs.lemmas.Bool.Decides.{nat_tests}
use Rattle.std.proofs.lemmas.List.{length_push}
use Rattle.std.proofs.lemmas.Option.{get_or_from_slice_get}
use Rattle.act1_base.proofs.ListGets.{get_written, get_within}
use Rattle.act1_cover.specs.declared.forest.Forest.{Forest}
use Rattle.act1_cover.specs.declared.forest.Fork.{Fork}
use Rattle.act1_cover.specs.declared.forest.Term.{Term}
use Rattle.act1_cover.specs.declared.forest.Term.TheVariants as term
use Rattle.act1_cover.specs.Tilings.{total, one_if, no_fork, low_of, high_of, is_fork, places, references, is_root}
use Rattle.act1_cover.specs.Least.{IsForest}
use Rattle.act1_cover.specs.Costs.{IsWithin, AreWithin, capped, counted, AreCounts}
use Rattle.act1_cover.proofs.Totals.{elsewhere, number_same}

-- a list after a write, by its elements
pub written : {X : Type 0} (xs : List X) (i : ℕ) (x d : X) → i < length xs → get_or (slice_set xs i x) i d ≡ x
written xs i x d low = get_or_from_slice_get (slice_set xs i x) i x d (get_written xs i x low)

pub same_length : {X : Type 0} (xs : List X) (i : ℕ) (x : X) → length (slice_set xs i x) ≡ length xs
same_length [] i x = refl
same_length (y ∷ xs) zero x = refl
same_length (y ∷ xs) (suc i) x = ap suc (same_length xs i x)

pub unwritten : {X : Type 0} (xs : List X) (i j : ℕ) (x d : X) → j ≢ i → get_or (slice_set xs i x) j d ≡ get_or xs j d
unwritten [] i j x d apart = refl
unwritten (y ∷ xs) zero zero x d apart = absurd (apart refl)
unwritten (y ∷ xs) zero (suc j) x d apart = refl
unwritten (y ∷ xs) (suc i) zero x d apart = refl
unwritten (y ∷ xs) (suc i) (suc j) x d apart = unwritten xs i j x d (λ e. apart (ap suc e))

pub pushed : {X : Type 0} (xs : List X) (x d : X) (k : ℕ) → k < length xs → get_or (xs ++ x ∷ []) k d ≡ get_or xs k d
pushed [] x d k low = absurd (omega arith)
pushed (y ∷ xs) x d zero low = refl
pushed (y ∷ xs) x d (suc k) low = pushed xs x d k (omega arith)

pub pushed_last : {X : Type 0} (xs : List X) (x d : X) (k : ℕ) → k ≡ length xs → get_or (xs ++ x ∷ []) k d ≡ x
pushed_last [] x d zero e = refl
pushed_last [] x d (suc k) e = absurd (omega arith)
pushed_last (y ∷ xs) x d zero e = absurd (omega arith)
pushed_last (y ∷ xs) x d (suc k) e = pushed_last xs x d k (omega arith)

-- an element that is there doesn't depend on the default
pub any_default : {X : Type 0} (xs : List X) (i : ℕ) (d e : X) → i < length xs → get_or xs i d ≡ get_or xs i e
any_default [] i d e low = absurd (omega arith)
any_default (x ∷ xs) zero d e low = refl
any_default (x ∷ xs) (suc i) d e low = any_default xs i d e (omega arith)

capped_more : (x : ℕ) → capped (capped x + 1) ≡ capped (x + 1)
capped_more zero = refl
capped_more (suc zero) = refl
capped_more (suc (suc x)) =
    let a : nat_lt (suc (suc x)) 2 ≡ false = grind (arith, nat_tests) in
    let b : nat_lt (suc (suc x) + 1) 2 ≡ false = grind (arith, nat_tests) in
    ap (λ (t : Bool). capped ((if t then suc (suc x) else 2) + 1)) a ∙ sym (ap (λ (t : Bool). if t then suc (suc x) + 1 else 2) b)

-- more than one is told
capped_many : (x : ℕ) → nat_lt 1 (capped x) ≡ nat_lt 1 x
capped_many zero = refl
capped_many (suc zero) = refl
capped_many (suc (suc x)) =
    let a : nat_lt (suc (suc x)) 2 ≡ false = grind (arith, nat_tests) in
    let b : nat_lt 1 (suc (suc x)) ≡ true = grind (arith, nat_tests) in
    ap (λ (t : Bool). nat_lt 1 (if t then suc (suc x) else 2)) a ∙ sym b

within_is : (n : ℕ) (j : ℕ) → j < n → j < n
within_is n j h = h

-- one more place refers to a term
count_term : (forest : Forest) (g : ℕ → ℕ) (counts : List ℕ) (t : Term) → IsWithin forest t → AreCounts (length forest.forks) g counts → AreCounts (length forest.forks) (λ k. g k + one_if (is_fork k t)) (counted counts t)
count_term forest g counts (term.Fork j) within (long, each) = (same_length counts j (capped (get_or counts j 0 + 1)) ∙ long, at)
  where
    at : (k : ℕ) → k < length forest.forks → get_or (slice_set counts j (capped (get_or counts j 0 + 1))) k 0 ≡ capped (g k + one_if (j == k))
    at k low = by (cases_eq k j)
      where
        by : (k ≡ j) ⊎ (k ≢ j) → get_or (slice_set counts j (capped (get_or counts j 0 + 1))) k 0 ≡ capped (g k + one_if (j == k))
        by (inl e) =
            let one : one_if (j == k) ≡ 1 = ap one_if (number_same j k (sym e)) in
            ap (λ (i : ℕ). get_or (slice_set counts j (capped (get_or counts j 0 + 1))) i 0) e
            ∙ written counts j (capped (get_or counts j 0 + 1)) 0 (omega arith)
            ∙ ap (λ (x : ℕ). capped (x + 1)) (each j within) ∙ capped_more (g j)
            ∙ ap (λ (i : ℕ). capped (g i + 1)) (sym e) ∙ ap (λ (x : ℕ). capped (g k + x)) (sym one)
        by (inr apart) =
            let none = elsewhere j k (λ e. apart (sym e)) in
            let same : g k + one_if (j == k) ≡ g k = omega arith in
            unwritten counts j k (capped (get_or counts j 0 + 1)) 0 apart ∙ each k low ∙ ap capped (sym same)
count_term forest g counts term.Zero within (long, each) = (long, λ k low. each k low ∙ ap capped (let e : g k ≡ g k + 0 = omega arith in e))
count_term forest g counts term.One within (long, each) = (long, λ k low. each k low ∙ ap capped (let e : g k ≡ g k + 0 = omega arith in e))
count_term forest g counts (term.Var v) within (long, each) = (long, λ k low. each k low ∙ ap capped (let e : g k ≡ g k + 0 = omega arith in e))

total_more : {X : Type 0} (g : X → ℕ) (xs : List X) (i : ℕ) (x : X) → slice_get xs i ≡ Some x → total g (take (suc i) xs) ≡ total g (take i xs) + g x
total_more g [] i x at = cc
total_more g (y ∷ xs) zero x at = let same : y ≡ x = cc in let e = ap g same in omega arith
total_more g (y ∷ xs) (suc i) x at = let e = total_more g xs i x at in omega arith

-- the places of the first forks
abbrev pub references_in : Forest → ℕ → ℕ → ℕ
references_in forest i k = total (places k) (take i forest.forks)

abbrev zeros : ℕ → List ℕ
zeros n = replicate n 0

zeros_long : (n : ℕ) → length (zeros n) ≡ n
zeros_long zero = refl
zeros_long (suc n) = ap suc (zeros_long n)

zeros_at : (n k : ℕ) → get_or (zeros n) k 0 ≡ 0
zeros_at zero k = refl
zeros_at (suc n) zero = refl
zeros_at (suc n) (suc k) = zeros_at n k

pub counts_begin : (forest : Forest) → AreCounts (length forest.forks) (references_in forest 0) (replicate (length forest.forks) 0)
counts_begin forest = (zeros_long (length forest.forks), λ k low. zeros_at (length forest.forks) k)

pub parts_of_fork : (forest : Forest) (i : ℕ) (f : Fork) → slice_get forest.forks i ≡ Some f → AreWithin forest → IsWithin forest f.low × IsWithin forest f.high
parts_of_fork forest i f at h =
    let low = get_within forest.forks i f at in
    let is : slice_index_or forest.forks i no_fork ≡ f = get_or_from_slice_get forest.forks i f no_fork at in
    (subst (λ (g : Fork). IsWithin forest g.low) is (h.low i low), subst (λ (g : Fork). IsWithin forest g.high) is (h.high i low))

pub counts_more : (forest : Forest) (i : ℕ) (f : Fork) (counts : List ℕ) → slice_get forest.forks i ≡ Some f → AreWithin forest → AreCounts (length forest.forks) (references_in forest i) counts
    → AreCounts (length forest.forks) (references_in forest (suc i)) (counted (counted counts f.low) f.high)
counts_more forest i f counts at h c =
    let parts = parts_of_fork forest i f at h in
    let low = count_term forest (references_in forest i) counts f.low parts.0 c in
    let high = count_term forest (λ k. references_in forest i k + one_if (is_fork k f.low)) (counted counts f.low) f.high parts.1 low in
    (high.0, λ k within. high.1 k within ∙ ap capped (more k))
  where
    more : (k : ℕ) → (references_in forest i k + one_if (is_fork k f.low)) + one_if (is_fork k f.high) ≡ references_in forest (suc i) k
    more k = let e = total_more (places k) forest.forks i f at in omega arith

pub counts_all : (forest : Forest) (i : ℕ) (counts : List ℕ) → length forest.forks ≤ i → AreCounts (length forest.forks) (references_in forest i) counts → AreCounts (length forest.forks) (references forest) counts
counts_all forest i counts ended (long, each) = (long, λ k low. each k low ∙ ap (λ (fs : List Fork). capped (total (places k) fs)) (whole forest.forks i ended))
  where
    whole : (fs : List Fork) (i : ℕ) → length fs ≤ i → take i fs ≡ fs
    whole [] zero h = refl
    whole [] (suc i) h = refl
    whole (f ∷ fs) zero h = absurd (omega arith)
    whole (f ∷ fs) (suc i) h = ap (λ (gs : List Fork). f ∷ gs) (whole fs i (omega arith))

-- the roots of the first forks
pub record AreFirstRoots (forest : Forest) (i : ℕ) (roots : List Bool) : Type 0 where
  pub count : length roots ≡ i
  pub each : (k : ℕ) → k < i → slice_index_or roots k false ≡ is_root forest k

pub root_is : (forest : Forest) (counts : List ℕ) (k c : ℕ) → AreCounts (length forest.forks) (references forest) counts → k < length forest.forks → c ≡ get_or counts k 0 → (is_fork k forest.root || nat_lt 1 c) ≡ is_root forest k
root_is forest counts k c (long, each) low is = ap (λ (b : Bool). is_fork k forest.root || b) (ap (nat_lt 1) (is ∙ each k low) ∙ capped_many (references forest k))

pub roots_more : (forest : Forest) (i : ℕ) (roots : List Bool) (b : Bool) → AreFirstRoots forest i roots → b ≡ is_root forest i → AreFirstRoots forest (suc i) (roots ++ b ∷ [])
roots_more forest i roots b h is = record { count = (let e = length_push roots b in let f = h.count in omega arith); each = λ k low. by k (cases_lt k i) low }
  where
    by : (k : ℕ) → (k < i) ⊎ (i ≤ k) → k < suc i → slice_index_or (roots ++ b ∷ []) k false ≡ is_root forest k
    by k (inl less) low = let f = h.count in pushed roots b false k (omega arith) ∙ h.each k less
    by k (inr more) low = let f = h.count in let e : i ≡ k = omega arith in pushed_last roots b false k (omega arith) ∙ is ∙ ap (is_root forest) e

-- the parts of a forest's forks are there
pub are_within : (forest : Forest) → IsForest forest → AreWithin forest
are_within forest is = record { low = λ k low. by (low_of forest k) (λ j e. (is.low k j low e).0); high = λ k low. by (high_of forest k) (λ j e. (is.high k j low e).0) }
  where
    by : (t : Term) → ((j : ℕ) → t ≡ term.Fork j → j < length forest.forks) → IsWithin forest t
    by (term.Fork j) h = h j refl
    by term.Zero h = tt
    by term.One h = tt
    by (term.Var v) h = tt

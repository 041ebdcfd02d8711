-- The wave in site order is a wave.
use Rattle.std.proofs.Common.{ℕ, suc, zero, ◌≡◌, ◌<◌, List, [], ◌∷◌, ◌++◌, refl, arith, inl, inr, ap, sym, subst, ◌∙◌}
use Rattle.std.specs.Prelude.{All, Contains, ◌⊎◌}
use Rattle.std.proofs.lemmas.List.Elements.{All-push, All-weaker, All-nil, Contains-append_left, Contains-push}
use Rattle.act1_circuit.specs.Firing.{IsRound, AreRounds, site_order, site_rounds}
use Rattle.act1_circuit.specs.Laws.{SiteOrderIsWave}

nil_after : (ms : List ℕ) → ms ++ [] ≡ ms
nil_after [] = refl
nil_after (m ∷ ms) = ap (λ (xs : List ℕ). m ∷ xs) (nil_after ms)

regroup : (a b c : List ℕ) → (a ++ b) ++ c ≡ a ++ (b ++ c)
regroup [] b c = refl
regroup (m ∷ a) b c = ap (λ (xs : List ℕ). m ∷ xs) (regroup a b c)

below_order : (n : ℕ) → All (λ m. m < n) (site_order n)
below_order zero = All-nil (λ m. m < 0)
below_order (suc n) = All-push (λ m. m < suc n) (site_order n) n (All-weaker (λ m. m < n) (λ m. m < suc n) (λ m low. omega arith) (site_order n) (below_order n)) (omega arith)

last_or_before : (m n : ℕ) → m < suc n → (m < n) ⊎ (n ≡ m)
last_or_before zero zero low = inr refl
last_or_before zero (suc n) low = inl (omega arith)
last_or_before (suc m) zero low = absurd (omega arith)
last_or_before (suc m) (suc n) low = next (last_or_before m n (omega arith))
  where
    next : (m < n) ⊎ (n ≡ m) → (suc m < suc n) ⊎ (suc n ≡ suc m)
    next (inl h) = inl (omega arith)
    next (inr h) = inr (ap suc h)

in_order : (n m : ℕ) → m < n → Contains (site_order n) m
in_order zero m low = absurd (omega arith)
in_order (suc n) m low = by_case (in_order n m) (last_or_before m n low)
  where
    by_case : (m < n → Contains (site_order n) m) → (m < n) ⊎ (n ≡ m) → Contains (site_order n ++ n ∷ []) m
    by_case before (inl h) = Contains-append_left (site_order n) (n ∷ []) m (before h)
    by_case before (inr e) = subst (λ (k : ℕ). Contains (site_order n ++ n ∷ []) k) e (Contains-push (site_order n) n)

order_is_round : (n : ℕ) → IsRound n (site_order n)
order_is_round n = record { modules = below_order n; each = in_order n }

one_more : (n k : ℕ) (ms r : List ℕ) → AreRounds n k ms → IsRound n r → AreRounds n (suc k) (ms ++ r)
one_more n zero ms r h round = (r, [], round, refl, ap (λ (xs : List ℕ). xs ++ r) h ∙ sym (nil_after r))
one_more n (suc k) ms r h round = (h.0, h.1 ++ r, h.2, one_more n k h.1 r h.3 round, ap (λ (xs : List ℕ). xs ++ r) h.4 ∙ regroup h.0 h.1 r)

are_rounds : (n k : ℕ) → AreRounds n k (site_rounds n k)
are_rounds n zero = refl
are_rounds n (suc k) = one_more n k (site_rounds n k) (site_order n) (are_rounds n k) (order_is_round n)

pub is_wave : SiteOrderIsWave
is_wave n = are_rounds n n

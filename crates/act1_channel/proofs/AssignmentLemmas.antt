-- Tracks that were found to be allowed and apart.
use Rattle.std.proofs.Common.{ℕ, ◌≡◌, ◌+◌, ◌<◌, ◌≤◌, ◌⊎◌, ◌↔◌, Bool, IsTrue, List, length, get_or, nat_eq, Some, slice_get, sym, ap, subst, ◌∙◌, inl, inr, arith}
use Rattle.std.proofs.lemmas.Bool.{cases_lt}
use Rattle.std.proofs.lemmas.Bool.Decides.{nat_tests}
use Rattle.std.proofs.lemmas.Option.{slice_get-get_or}
use Rattle.act1_base.proofs.ListGets.{get_within, one_at}
use Rattle.act1_channel.specs.declared.problem.Problem.{Problem}
use Rattle.act1_channel.specs.Assignment.{choice_at, AreAllowed, AreApart, DoClash, IsAllowed}
use Rattle.act1_channel.specs.AssignmentSteps.{DoEndsMeet, DoMeet}
use Rattle.act1_channel.proofs.Breaks.{clash_is}

module _ (p : Problem) (tracks : List ℕ) where
  -- the first n connections may take their tracks
  abbrev pub AreAllowedBelow : ℕ → Type 0
  AreAllowedBelow n = (c t : ℕ) → c < n → slice_get tracks c ≡ Some t → IsAllowed p (choice_at c t)

  pub allowed_more : (n x : ℕ) → AreAllowedBelow n → n < length tracks → x ≡ get_or tracks n 0 → IsAllowed p (choice_at n x) → AreAllowedBelow (n + 1)
  allowed_more n x below low is ok c t less at = from (cases_lt c n)
    where
      from : (c < n) ⊎ (n ≤ c) → IsAllowed p (choice_at c t)
      from (inl before) = below c t before at
      from (inr behind) =
          let same : n ≡ c = omega arith in
          let own : x ≡ t = is ∙ one_at tracks n (get_or tracks n 0) t (slice_get-get_or tracks n 0 low) (subst (λ (k : ℕ). slice_get tracks k ≡ Some t) (sym same) at) in
          subst (λ (k : ℕ). IsAllowed p (choice_at k t)) same (subst (λ (u : ℕ). IsAllowed p (choice_at n u)) own ok)

  pub allowed_all : (n : ℕ) → length tracks ≤ n → AreAllowedBelow n → AreAllowed p tracks
  allowed_all n all below c t at = let low = get_within tracks c t at in below c t (omega arith) at

  -- the first n connections are apart, and d from those before c
  abbrev pub AreApartBelow : ℕ → Type 0
  AreApartBelow n = (c d : ℕ) → c < d → d < n → DoMeet p tracks c d → ⊥

  abbrev pub IsApartFrom : ℕ → ℕ → Type 0
  IsApartFrom d n = (c : ℕ) → c < n → DoMeet p tracks c d → ⊥

  pub apart_one : (d n : ℕ) → IsApartFrom d n → (DoMeet p tracks n d → ⊥) → IsApartFrom d (n + 1)
  apart_one d n before apart c less met = from (cases_lt c n)
    where
      from : (c < n) ⊎ (n ≤ c) → ⊥
      from (inl low) = before c low met
      from (inr high) = let same : c ≡ n = omega arith in apart (subst (λ (k : ℕ). DoMeet p tracks k d) same met)

  pub apart_more : (n m : ℕ) → AreApartBelow n → n ≤ m → IsApartFrom n m → AreApartBelow (n + 1)
  apart_more n m below high from c d less low met = cases (cases_lt d n)
    where
      cases : (d < n) ⊎ (n ≤ d) → ⊥
      cases (inl before) = below c d less before met
      cases (inr behind) = let same : d ≡ n = omega arith in from c (omega arith) (subst (λ (k : ℕ). DoMeet p tracks c k) same met)

  pub apart_all : (n : ℕ) → length tracks ≤ n → AreApartBelow n → AreApart p tracks
  apart_all n all below c d t less one other clash = let low = get_within tracks d t other in below c d less (omega arith) (t, one, other, clash)

  -- on one track they meet where they clash
  pub meet_on : (r : Bool) (c d t : ℕ) → c < length tracks → d < length tracks → get_or tracks c 0 ≡ get_or tracks d 0 → t ≡ get_or tracks d 0 → IsTrue r ↔ DoEndsMeet p c d t → IsTrue r ↔ DoMeet p tracks c d
  meet_on r c d t one other same is h = (on, back)
    where
      at_c : slice_get tracks c ≡ Some t
      at_c = slice_get-get_or tracks c 0 one ∙ ap (λ (k : ℕ). Some k) (same ∙ sym is)

      at_d : slice_get tracks d ≡ Some t
      at_d = slice_get-get_or tracks d 0 other ∙ ap (λ (k : ℕ). Some k) (sym is)

      on : IsTrue r → DoMeet p tracks c d
      on e = (t, at_c, at_d, (clash_is p c d t).1 (h.0 e))

      back : DoMeet p tracks c d → IsTrue r
      back met = h.1 ((clash_is p c d t).0 (subst (λ (u : ℕ). DoClash p c d u) (one_at tracks c met.0 t met.1 at_c) met.3))

  -- on two they don't
  pub meet_off : (c d : ℕ) → c < length tracks → d < length tracks → (get_or tracks c 0 ≡ get_or tracks d 0 → ⊥) → IsTrue (nat_eq (get_or tracks c 0) (get_or tracks d 0)) ↔ DoMeet p tracks c d
  meet_off c d one other apart = (λ e. absurd (apart (grind (arith, nat_tests))), λ met. absurd (apart (own c one met.0 met.1 ∙ sym (own d other met.0 met.2))))
    where
      own : (i : ℕ) → i < length tracks → (t : ℕ) → slice_get tracks i ≡ Some t → get_or tracks i 0 ≡ t
      own i low t at = one_at tracks i (get_or tracks i 0) t (slice_get-get_or tracks i 0 low) at

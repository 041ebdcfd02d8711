-- Entries in order begin a story.
use Rattle.std.proofs.Common.{ℕ, suc, zero, ◌≡◌, ◌<◌, ◌≤◌, ◌+◌, ◌-◌, ◌⊎◌, inl, inr, Bool, ◌&&◌, true, false, nat_lt, nat_eq, List, [], ◌∷◌, ◌++◌, length, Some, refl, sym, ap, subst, ◌∙◌, arith}
use Rattle.std.specs.Prelude.{slice_get}
use Rattle.std.proofs.lemmas.Bool.Decides.{nat_tests}
use Rattle.std.proofs.lemmas.Bool.{cases_lt, true≢false}
use Rattle.std.proofs.lemmas.List.{append_assoc, append-nil}
use Rattle.act1_base.proofs.ListGets.{get_in}
use Rattle.act1_outside.specs.Outside.{without}
use Rattle.act1_outside.specs.declared.helpers.Entry.{Entry}
use Rattle.act1_outside.specs.declared.helpers.Entry.TheVariants as entry
use Rattle.act1_farm.specs.Story.{unfinished, asks, MayFollow, AreInOrder, IsStory}
use Rattle.act1_farm.proofs.Entries.{unfinished_more, order_more}
use Rattle.act1_farm.proofs.Courses.{one_longer}

fewer : (t : ℕ) (ts : List ℕ) → length (without t ts) ≤ length ts
fewer t [] = omega arith
fewer t (u ∷ ts) = by (fewer t ts) (nat_eq u t) refl
  where
    by : length (without t ts) ≤ length ts → (b : Bool) → nat_eq u t ≡ b → length (without t (u ∷ ts)) ≤ length (u ∷ ts)
    by h true e = rw e (omega arith)
    by h false e = rw e (omega arith)

first_goes : (t : ℕ) (ts : List ℕ) → length (without t (t ∷ ts)) ≤ length ts
first_goes t ts = let same : nat_eq t t ≡ true = grind (arith, nat_tests) in rw same (fewer t ts)

can : (a b c d : ℕ) → a < b → c < d → (nat_lt a b && nat_lt c d) ≡ true
can a b c d h k = grind (arith, nat_tests)

cannot : (a b c d : ℕ) → (b ≤ a) ⊎ (d ≤ c) → (nat_lt a b && nat_lt c d) ≡ false
cannot a b c d (inl h) = grind (arith, nat_tests)
cannot a b c d (inr h) = grind (arith, nat_tests)

module _ (program : List ℕ) (jobs : List (List ℕ)) (most : ℕ) (some : 0 < most) where
  left_of : List Entry → ℕ
  left_of s = (length jobs - length (asks s)) + length (unfinished s)

  Completed : List Entry → Type 0
  Completed s = (rest : List Entry) × IsStory program jobs most (s ++ rest)

  after_one : (s : List Entry) (e : Entry) → Completed (s ++ e ∷ []) → Completed s
  unfolding Completed
  after_one s e (rest, story) = (e ∷ rest, subst (λ (l : List Entry). IsStory program jobs most l) (append_assoc s (e ∷ []) rest) story)

  ended : (s : List Entry) → AreInOrder program jobs most [] s → length (asks s) ≤ length jobs → length jobs ≤ length (asks s) → unfinished s ≡ [] → Completed s
  unfolding Completed
  ended s o few all none = ([], subst (λ (l : List Entry). IsStory program jobs most l) (sym (append-nil s)) (record { order = o; all = omega arith; finished = none }))

  asking : (s : List Entry) → length (unfinished s) < most → length (asks s) < length jobs → (job : List ℕ) × (slice_get jobs (length (asks s)) ≡ Some job) × MayFollow program jobs most s (entry.Refused program job)
  asking s low next =
      let r = get_in jobs (length (asks s)) next in
      (r.0, r.1, record { asking = λ yes. (r.0, r.1, (refl, refl)); finishing = λ no. absurd (true≢false (sym (can (length (unfinished s)) most (length (asks s)) (length jobs) low next) ∙ no)) })

  finishing : (s : List Entry) (t : ℕ) (ts : List ℕ) → unfinished s ≡ t ∷ ts → (most ≤ length (unfinished s)) ⊎ (length jobs ≤ length (asks s)) → MayFollow program jobs most s (entry.Lost t)
  finishing s t ts first full = record {
    asking = λ yes. absurd (true≢false (sym yes ∙ cannot (length (unfinished s)) most (length (asks s)) (length jobs) full));
    finishing = λ no. (t, ap (λ (us : List ℕ). slice_get us 0) first, refl);
  }

  completes : (fuel : ℕ) (s : List Entry) → AreInOrder program jobs most [] s → length (asks s) ≤ length jobs → (length jobs - length (asks s)) + length (unfinished s) ≤ fuel → Completed s
  completes zero s o few enough = ended s o few (omega arith) (none (unfinished s) refl)
    where
      none : (us : List ℕ) → unfinished s ≡ us → unfinished s ≡ []
      none [] e = e
      none (u ∷ us) e = let l = ap (λ (xs : List ℕ). length xs) e in absurd (omega arith)
  completes (suc fuel) s o few enough = by (λ e o f l. completes fuel (s ++ e ∷ []) o f l) (unfinished s) refl (cases_lt (length (unfinished s)) most) (cases_lt (length (asks s)) (length jobs))
    where
      by : ((e : Entry) → AreInOrder program jobs most [] (s ++ e ∷ []) → length (asks (s ++ e ∷ [])) ≤ length jobs → (length jobs - length (asks (s ++ e ∷ []))) + length (unfinished (s ++ e ∷ [])) ≤ fuel → Completed (s ++ e ∷ []))
          → (us : List ℕ) → unfinished s ≡ us → (length (unfinished s) < most) ⊎ (most ≤ length (unfinished s)) → (length (asks s) < length jobs) ⊎ (length jobs ≤ length (asks s)) → Completed s
      by on us is (inl low) (inl next) =
          let a = asking s low next in
          let e : Entry = entry.Refused program a.0 in
          let longer = one_longer s e 1 refl in
          let same : length (unfinished (s ++ e ∷ [])) ≡ length (unfinished s) = ap (λ (xs : List ℕ). length xs) (unfinished_more [] s e) in
          after_one s e (on e (order_more program jobs most [] s e o a.2) (omega arith) (omega arith))
      by on (t ∷ ts) is (inr full) next =
          let e : Entry = entry.Lost t in
          let longer = one_longer s e 0 refl in
          let less : length (unfinished (s ++ e ∷ [])) ≤ length ts = rw (unfinished_more [] s e, is) (first_goes t ts) in
          let l = ap (λ (xs : List ℕ). length xs) is in
          after_one s e (on e (order_more program jobs most [] s e o (finishing s t ts is (inl full))) (omega arith) (omega arith))
      by on (t ∷ ts) is (inl low) (inr done) =
          let e : Entry = entry.Lost t in
          let longer = one_longer s e 0 refl in
          let less : length (unfinished (s ++ e ∷ [])) ≤ length ts = rw (unfinished_more [] s e, is) (first_goes t ts) in
          let l = ap (λ (xs : List ℕ). length xs) is in
          after_one s e (on e (order_more program jobs most [] s e o (finishing s t ts is (inr done))) (omega arith) (omega arith))
      by on [] is (inr full) next = let l = ap (λ (xs : List ℕ). length xs) is in absurd (omega arith)
      by on [] is (inl low) (inr done) = ended s o few done is

  -- THE LEMMA: what is in order so far begins a story
  pub begins : (s : List Entry) → AreInOrder program jobs most [] s → length (asks s) ≤ length jobs → (rest : List Entry) × IsStory program jobs most (s ++ rest)
  unfolding Completed
  begins s o few = completes ((length jobs - length (asks s)) + length (unfinished s)) s o few (omega arith)

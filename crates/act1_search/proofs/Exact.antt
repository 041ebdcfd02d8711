-- A verdict leaves no conflict of the budget's number that has choices.
use Rattle.std.proofs.Common.{ℕ, ◌≡◌, ◌≢◌, ◌-◌, ◌<◌, ◌⊎◌, Some, List, [], length, slice_get, refl, sym, ap, subst, ◌∙◌, inl, inr, arith, not, false}
use Rattle.act1_base.proofs.ListGets.{get_within, some_is}
use Rattle.act1_search.proofs.Fronts.{take_whole}
use Rattle.act1_channel.specs.declared.problem.Choice.{Choice}
use Rattle.act1_search.specs.declared.verdict.Verdict.TheVariants.{Assigned, Refuted}
use Rattle.act1_search.specs.Search.{EndsWith}
use Rattle.act1_search.specs.Exact.{SpendingIsExact, AssignmentsFit}
use Rattle.act1_channel.proofs.Facts.{fact_from}
use Rattle.act1_channel.specs.declared.problem.Hint.TheVariants as hint
use Rattle.act1_channel.specs.Assignment.{IsAllowed, DoClash, choice_at}
use Rattle.act1_channel.specs.Clauses.{Fact, taken, refused, opposite}
use Rattle.std.proofs.lemmas.List.{length-map}
use Rattle.act1_channel.specs.declared.problem.Step.{Step}
use Rattle.act1_channel.specs.Acceptance.{choices_of}
use Rattle.act1_search.specs.Closure.{IsUsed, Follows}
use Rattle.act1_search.specs.Closure.Follows.{is_left}
use Rattle.act1_search.proofs.Deciding.{true_allowed, decided_allowed}
use Rattle.act1_search.proofs.Unique.{last, course_front}

pub exact : SpendingIsExact
exact p budget chosen (Assigned tracks) h some own =
    let most = (last p own.0 h.0 h.1).1 tracks own.1 in
    let long = h.2 in
    let low = own.2 in
    omega arith
exact p budget chosen (Refuted log) h some own =
    let steps = choices_of log.steps in
    let size = length-map log.steps (λ (s : Step). s.choices) in
    let most = (last p steps h.0 h.1).0 own.0 in
    let long = h.2 in
    let low = own.1 in
    let all : length h.0 ≡ length steps = omega arith in
    let front = course_front p h.0 steps h.1 own.0.0 (omega arith) in
    let same : steps ≡ h.0 = sym (take_whole steps (length h.0) (omega arith)) ∙ front in
    let place : length steps - 1 ≡ budget - 1 = omega arith in
    let at = subst (λ (k : ℕ). slice_get steps k ≡ Some []) place own.0.1 in
    let at' = subst (λ (s : List (List Choice)). slice_get s (budget - 1) ≡ Some []) same at in
    some (some_is chosen [] (sym h.3 ∙ at'))

pub fit : AssignmentsFit
fit p steps tracks own = record { each = end.each; allowed = allowed; apart = apart }
  where
    end : EndsWith p steps tracks
    end = own.2

    allowed : (c t : ℕ) → slice_get tracks c ≡ Some t → IsAllowed p (choice_at c t)
    allowed c t at = true_allowed p steps end.chosen (taken (choice_at c t)) (decided_allowed p steps end.chosen end.descends) (end.true_there c t at) refl

    apart : (c d t : ℕ) → c < d → slice_get tracks c ≡ Some t → slice_get tracks d ≡ Some t → DoClash p c d t → ⊥
    apart c d t low x y clash = end.calm (inl (choice_at c t, end.true_there c t x, is_left (hint.Clash c d t) (refused (choice_at c t)) used (refl, inl refl) (λ g part other. from g part.0 part.1 other)))
      where
        used : IsUsed p steps (hint.Clash c d t)
        used = let there = get_within tracks d t y in ((low, omega (arith, end.each), (allowed c t x).1, clash), (allowed c t x, allowed d t y))

        from : (g : Fact) → g.truth ≡ false → (g.choice ≡ choice_at c t) ⊎ (g.choice ≡ choice_at d t) → g ≢ refused (choice_at c t) → Follows p steps end.chosen (opposite g)
        from g is (inl mine) other = absurd (other (fact_from g (refused (choice_at c t)) mine is))
        from g is (inr mine) other = subst (λ (f : Fact). Follows p steps end.chosen f) (fact_from (taken (choice_at d t)) (opposite g) (sym mine) (sym (ap not is))) (end.true_there d t y)

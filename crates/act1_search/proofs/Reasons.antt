-- The hints of a step as they are found, from the last fact back to the first.
use Rattle.std.proofs.Common.{ℕ, suc, ◌≡◌, ◌+◌, ◌<◌, Bool, Some, List, [], ◌∷◌, ◌++◌, length, reverse, map, take, slice_get, sym, ap, subst, ◌∙◌, inl, inr, arith}
use Rattle.std.proofs.lemmas.List.{reverse-append, length-append, length-reverse}
use Rattle.act1_channel.specs.declared.problem.Problem.{Problem}
use Rattle.act1_channel.specs.declared.problem.Choice.{Choice}
use Rattle.act1_channel.specs.declared.problem.Hint.{Hint}
use Rattle.act1_channel.specs.declared.trail.Entry.{Entry}
use Rattle.act1_channel.specs.Acceptance.{LeadToConflict}
use Rattle.act1_channel.specs.Clauses.{taken}
use Rattle.act1_search.specs.Explaining.{is_wanted, AddsReason, MarksParts}
use Rattle.act1_search.specs.Propagation.{IsContradicted}
use Rattle.act1_search.specs.Trail.{IsTrail}
use Rattle.act1_search.proofs.Fronts.{take_front, take_whole}
use Rattle.act1_search.proofs.Closures.{used_more, part_back}
use Rattle.act1_search.proofs.Explains.{Ready, ready_first, ready_skip, ready_hint, ready_step}

module _ (p : Problem) (steps : List (List Choice)) (found : List Entry) where
  -- from the clause that is contradicted on
  pub first_ready : (marks old : List Bool) (h : Hint) (hints : List Hint) (at : ℕ) → IsContradicted p found h → MarksParts p steps h old marks → hints ≡ h ∷ [] → at ≡ length found
      → (chosen : List Choice) (is : IsTrail p steps chosen found) → Ready p steps chosen found is at (is_wanted p marks) (reverse hints)
  first_ready marks old h hints at contradicted more same last chosen is =
      subst (λ (hs : List Hint). Ready p steps chosen found is at (is_wanted p marks) (reverse hs)) (sym same)
      (subst (λ (n : ℕ). Ready p steps chosen found is n (is_wanted p marks) (h ∷ [])) (sym last)
      (ready_first p steps chosen found is (is_wanted p marks) h (used_more p [] steps h contradicted.0).0 (λ g part. (contradicted.1 g (part_back p [] steps h g contradicted.0 part), more.parts g part))))

  -- and with each fact before it
  pub next_ready : (old new : List Bool) (before after : List Hint) (at : ℕ) (e : Entry) → slice_get found at ≡ Some e → 0 < length before → AddsReason p steps e old new before after
      → (chosen : List Choice) (is : IsTrail p steps chosen found) → Ready p steps chosen found is (at + 1) (is_wanted p old) (reverse before) → Ready p steps chosen found is at (is_wanted p new) (reverse after)
  next_ready old new before after at e here some (inl (reason, same_marks, same_hints)) chosen is ready =
      subst (λ (ms : List Bool). Ready p steps chosen found is at (is_wanted p ms) (reverse after)) (sym same_marks)
      (subst (λ (hs : List Hint). Ready p steps chosen found is at (is_wanted p old) (reverse hs)) (sym same_hints)
      (ready_skip p steps chosen found is at (is_wanted p old) (reverse before) e here reason (subst (λ (n : ℕ). Ready p steps chosen found is n (is_wanted p old) (reverse before)) next ready)))
    where
      next : at + 1 ≡ suc at
      next = omega arith
  next_ready old new before after at e here some (inr (h, why, grown, more)) chosen is ready =
      subst (λ (hs : List Hint). Ready p steps chosen found is at (is_wanted p new) hs) (sym (ap (λ (hs : List Hint). reverse hs) grown ∙ reverse-append before (h ∷ [])))
      (by (reverse before) (let long = length-reverse before in omega arith) (subst (λ (n : ℕ). Ready p steps chosen found is n (is_wanted p old) (reverse before)) next ready))
    where
      next : at + 1 ≡ suc at
      next = omega arith

      by : (hs : List Hint) → 0 < length hs → Ready p steps chosen found is (suc at) (is_wanted p old) hs → Ready p steps chosen found is at (is_wanted p new) (h ∷ hs)
      by [] none r = absurd (omega arith)
      by (g ∷ hs) more_than r = ready_hint p steps chosen found is at (is_wanted p old) (is_wanted p new) h g hs e here why more.keeps.kept more.parts r

  -- until none is left
  pub last_ready : (marks : List Bool) (hints given : List Hint) (at : ℕ) → at ≡ 0 → given ≡ reverse hints → (chosen : List Choice) (is : IsTrail p steps chosen found) → Ready p steps chosen found is at (is_wanted p marks) (reverse hints) → LeadToConflict p steps (map taken chosen) given
  last_ready marks hints given at none same chosen is ready =
      subst (λ (hs : List Hint). LeadToConflict p steps (map taken chosen) hs) (sym same)
      (ready_step p steps chosen found is (is_wanted p marks) (reverse hints) (subst (λ (n : ℕ). Ready p steps chosen found is n (is_wanted p marks) (reverse hints)) none ready))

-- hints that there are stay
pub more_hints : (p : Problem) (steps : List (List Choice)) (e : Entry) (old new : List Bool) (before after : List Hint) → 0 < length before → AddsReason p steps e old new before after → 0 < length after
more_hints p steps e old new before after some (inl (reason, marks, same)) = let long = ap (λ (hs : List Hint). length hs) same in omega arith
more_hints p steps e old new before after some (inr (h, why, grown, more)) = let long = ap (λ (hs : List Hint). length hs) grown ∙ length-append before (h ∷ []) in omega arith

-- a list that was reversed in its place
pub reversed_back : (xs now ys zs : List Hint) (n : ℕ) → ys ≡ reverse now → now ≡ xs → n ≡ length xs → take n (ys ++ zs) ≡ reverse xs
reversed_back xs now ys zs n turned same long =
    let one = turned ∙ ap (λ (hs : List Hint). reverse hs) same in
    let size : length ys ≡ length xs = ap (λ (hs : List Hint). length hs) one ∙ length-reverse xs in
    take_front ys zs n (omega arith) ∙ take_whole ys n (omega arith) ∙ one

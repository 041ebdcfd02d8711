-- What one hint more leads to, and lists of choices that rise.
use Rattle.std.proofs.Common.{ℕ, suc, zero, ◌≡◌, ◌≢◌, ◌+◌, ◌<◌, ◌⊎◌, ◌↔◌, nat_eq, IsTrue, Some, None, List, [], ◌∷◌, ◌++◌, length, map, take, drop, get_or, slice_get, Contains, refl, ap, subst, ◌∙◌, inl, inr, arith, add-one, drop-cons, length-drop}
use Rattle.std.proofs.lemmas.Bool.Decides.{nat_tests}
use Rattle.act1_base.specs.Rising.{Rises}
use Rattle.act1_channel.proofs.Facts.{same_fact, taken_from}
use Rattle.act1_channel.specs.declared.problem.Problem.{Problem}
use Rattle.act1_channel.specs.declared.problem.Choice.{Choice}
use Rattle.act1_channel.specs.declared.problem.Hint.{Hint}
use Rattle.act1_channel.specs.declared.trail.Entry.{Entry}
use Rattle.act1_channel.specs.Acceptance.{IsBefore, LeadToConflict}
use Rattle.act1_channel.specs.Clauses.{opposite, taken, Fact, IsContradicted, IsUnit}
use Rattle.act1_channel.specs.Found.{facts_of, truth_in}
use Rattle.act1_channel.proofs.Truths.{undecided_none}
use Rattle.act1_refute.proofs.HintLemmas.{fresh}

module _ (p : Problem) (steps : List (List Choice)) (facts : List Fact) (h : Hint) where
  never_both : (f : Fact) → IsUnit p steps facts h f → IsContradicted p steps facts h → ⊥
  never_both f unit contra = unit.undecided (opposite f) (contra.1 f unit.part) refl

  one_unit : (f g : Fact) → IsUnit p steps facts h f → IsUnit p steps facts h g → g ≡ f
  one_unit f g one other = from (same_fact g f)
    where
      from : (g ≡ f) ⊎ (g ≢ f) → g ≡ f
      from (inl same) = same
      from (inr apart) = absurd (other.undecided (opposite g) (one.others g other.part apart) refl)

  -- a clause whose parts are all false has to be the last one
  contradicted : (rest : List Hint) → IsContradicted p steps facts h → (length rest ≡ 0) ↔ LeadToConflict p steps facts (h ∷ rest)
  contradicted [] contra = (λ e. contra, λ lead. refl)
  contradicted (g ∷ rest) contra = (λ e. absurd (omega (arith, e)), λ lead. absurd (never_both lead.0 lead.1 contra))

  -- a clause with one part that is open goes on with that part
  unit_on : (f : Fact) (rest : List Hint) → IsUnit p steps facts h f → LeadToConflict p steps (facts ++ f ∷ []) rest ↔ LeadToConflict p steps facts (h ∷ rest)
  unit_on f [] unit = (λ lead. absurd lead, λ lead. never_both f unit lead)
  unit_on f (g ∷ rest) unit = (
    λ lead. (f, unit, lead),
    λ lead. subst (λ (x : Fact). LeadToConflict p steps (facts ++ x ∷ []) (g ∷ rest)) (one_unit f lead.0 unit lead.1) lead.2,
  )

module _ (p : Problem) (steps : List (List Choice)) (first facts : List Fact) (hints : List Hint) (i : ℕ) (e : Hint) (low : i < length hints)
    (so_far : LeadToConflict p steps facts (drop i hints) ↔ LeadToConflict p steps first hints) where
  next : drop i hints ≡ get_or hints i e ∷ drop (i + 1) hints
  next = rw add-one (drop-cons hints i e low)

  here : LeadToConflict p steps facts (get_or hints i e ∷ drop (i + 1) hints) ↔ LeadToConflict p steps first hints
  here = subst (λ (xs : List Hint). LeadToConflict p steps facts xs ↔ LeadToConflict p steps first hints) next so_far

  pub ends_here : IsContradicted p steps facts (get_or hints i e) → IsTrue (nat_eq (i + 1) (length hints)) ↔ LeadToConflict p steps first hints
  ends_here contra =
      let own = contradicted p steps facts (get_or hints i e) (drop (i + 1) hints) contra in
      let left = length-drop (i + 1) hints in (
        λ last. here.0 (own.0 (let is : i + 1 ≡ length hints = grind (arith, nat_tests) in omega arith)),
        λ lead. let none = own.1 (here.1 lead) in grind (arith, nat_tests),
      )

  pub goes_on : (f : Fact) → IsUnit p steps facts (get_or hints i e) f → LeadToConflict p steps (facts ++ f ∷ []) (drop (i + 1) hints) ↔ LeadToConflict p steps first hints
  goes_on f unit =
      let own = unit_on p steps facts (get_or hints i e) f (drop (i + 1) hints) unit in
      (λ lead. here.0 (own.0 lead), λ lead. own.1 (here.1 lead))

-- lists that rise, by their places
pub rises_at : (xs : List Choice) → Rises IsBefore xs → (k j : ℕ) (d : Choice) → k + 1 ≡ j → j < length xs → IsBefore (get_or xs k d) (get_or xs j d)
rises_at [] rise k j d next low = absurd (omega arith)
rises_at (x ∷ []) rise k j d next low = absurd (omega arith)
rises_at (x ∷ y ∷ xs) rise k zero d next low = absurd (omega arith)
rises_at (x ∷ y ∷ xs) rise zero (suc zero) d next low = rise.0
rises_at (x ∷ y ∷ xs) rise zero (suc (suc j)) d next low = absurd (omega arith)
rises_at (x ∷ y ∷ xs) rise (suc k) (suc j) d next low = rises_at (y ∷ xs) rise.1 k j d (omega arith) (omega arith)

pub rises_from : (xs : List Choice) → ((k j : ℕ) (d : Choice) → k + 1 ≡ j → j < length xs → IsBefore (get_or xs k d) (get_or xs j d)) → Rises IsBefore xs
rises_from [] all = tt
rises_from (x ∷ []) all = tt
rises_from (x ∷ y ∷ xs) all = (all 0 1 x (omega arith) (omega arith), rises_from (y ∷ xs) (λ k j d next low. all (suc k) (suc j) d (omega arith) (omega arith)))

-- a choice that was not yet taken is undecided
pub not_yet : (choices : List Choice) (i : ℕ) (x : Choice) (entries : List Entry) → Rises IsBefore choices → slice_get choices i ≡ Some x → facts_of entries ≡ map taken (take i choices) → truth_in entries x ≡ None
not_yet choices i x entries rise at are =
    undecided_none entries x (λ f among same.
    let own = taken_from (take i choices) f (subst (λ (fs : List Fact). Contains fs f) are among) in
    fresh choices i x rise at (subst (λ (c : Choice). Contains (take i choices) c) (ap (λ (g : Fact). g.choice) own.2 ∙ same) own.1))

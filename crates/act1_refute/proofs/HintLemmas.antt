-- What is left of the clauses that hints name.
use Rattle.std.proofs.Common.{ℕ, ◌≡◌, ◌+◌, ◌<◌, ◌≤◌, ◌⊎◌, ◌↔◌, Bool, true, false, not, Option, Some, List, [], ◌∷◌, ◌++◌, length, take, get_or, slice_get, Contains, refl, sym, ap, subst, inl, inr, arith}
use Rattle.std.proofs.lemmas.Bool.{cases_lt}
use Rattle.std.proofs.lemmas.List.{take_more}
use Rattle.std.proofs.lemmas.List.Elements.{All-contains, Contains-append_left, Contains-push}
use Rattle.std.proofs.lemmas.Option.{slice_get-get_or}
use Rattle.act1_base.proofs.ListGets.{get_mapped, get_within, one_at, place_of}
use Rattle.act1_base.proofs.RisingLists.{pair_itself, pair_on, same_place}
use Rattle.act1_channel.proofs.Facts.{choice_from, fact_from}
use Rattle.act1_channel.proofs.Takes.{contains_back, get_taken}
use Rattle.act1_channel.specs.declared.problem.Problem.{Problem}
use Rattle.act1_channel.specs.declared.problem.Choice.{Choice}
use Rattle.act1_channel.specs.declared.problem.Hint.{Hint}
use Rattle.act1_channel.specs.declared.problem.Hint.TheVariants as hint
use Rattle.act1_channel.specs.declared.problem.Step.{Step}
use Rattle.act1_channel.specs.Acceptance.{choices_of, IsBefore, IsInRange}
use Rattle.act1_channel.specs.Assignment.{choice_at, IsAllowed}
use Rattle.act1_channel.specs.Clauses.{Fact, IsClause, IsPart}
use Rattle.act1_channel.specs.Found.{Tell}
use Rattle.act1_refute.specs.declared.status.Status.{Status}
use Rattle.act1_refute.specs.declared.status.Status.TheVariants as status
use Rattle.act1_refute.specs.HintSteps.{part_at, truth_of, AreInOrder, IsEither, IsOfStep, IsOwn, IsStatusOf, StepsAreInOrder}
use Rattle.act1_refute.specs.StatusSteps.{with_part, IsAllowedBelow, IsFalse, IsStatus}
use Rattle.act1_refute.proofs.StatusLemmas.{false_more, for_clause, part_more, same_parts}

-- one track more of a connection: refused, not allowed, or allowed
module _ (p : Problem) (facts : List Fact) (Clause : Type 0) (c t : ℕ) (s : Status) (so_far : IsStatus facts Clause true (IsAllowedBelow p c t) s) where
  below_old : (d : Choice) → IsAllowedBelow p c t d → IsAllowedBelow p c (t + 1) d
  below_old d h = let low = h.1 in (h.0, omega arith, h.2)

  below_cases : (d : Choice) → IsAllowedBelow p c (t + 1) d → IsAllowedBelow p c t d ⊎ (d ≡ choice_at c t)
  below_cases d h = from (cases_lt d.track t)
    where
      from : (d.track < t) ⊎ (t ≤ d.track) → IsAllowedBelow p c t d ⊎ (d ≡ choice_at c t)
      from (inl low) = inl (h.0, low, h.2)
      from (inr high) = let less = h.1 in let same : d.track ≡ t = omega arith in inr (choice_from d (choice_at c t) h.0 same)

  pub refused_below : IsFalse facts true (choice_at c t) → IsStatus facts Clause true (IsAllowedBelow p c (t + 1)) s
  refused_below is = false_more facts Clause true (IsAllowedBelow p c t) (IsAllowedBelow p c (t + 1)) (choice_at c t) below_old below_cases s is so_far

  pub barred_below : (IsAllowed p (choice_at c t) → ⊥) → IsStatus facts Clause true (IsAllowedBelow p c (t + 1)) s
  barred_below barred = same_parts facts Clause true (IsAllowedBelow p c t) (IsAllowedBelow p c (t + 1)) (λ d. (below_old d, λ h. from d h (below_cases d h))) s so_far
    where
      from : (d : Choice) → IsAllowedBelow p c (t + 1) d → IsAllowedBelow p c t d ⊎ (d ≡ choice_at c t) → IsAllowedBelow p c t d
      from d h (inl before) = before
      from d h (inr same) = absurd (barred (subst (λ (e : Choice). IsAllowed p e) same h.2))

  pub allowed_below : (known : Option Bool) → IsAllowed p (choice_at c t) → Tell facts (choice_at c t) known → IsStatus facts Clause true (IsAllowedBelow p c (t + 1)) (with_part s (choice_at c t) true known)
  allowed_below known ok tell =
      part_more facts Clause true (IsAllowedBelow p c t) (IsAllowedBelow p c (t + 1)) (choice_at c t)
      (λ h. let low = h.1 in absurd (omega arith)) below_old (refl, omega arith, ok) below_cases s known tell so_far

-- the two parts of a clash
pub clash_status : (facts : List Fact) (Clause : Type 0) (c d t : ℕ) (one other : Option Bool) → Clause → c < d → Tell facts (choice_at c t) one → Tell facts (choice_at d t) other
    → IsStatus facts Clause false (IsEither c d t) (with_part (with_part status.Contradicted (choice_at c t) false one) (choice_at d t) false other)
clash_status facts Clause c d t one other is less tell also =
    part_more facts Clause false IsFirst (IsEither c d t) (choice_at d t) apart (λ x same. inl same) (inr refl) (λ x h. h) (with_part status.Contradicted (choice_at c t) false one) other also first
  where
    IsFirst : Choice → Type 0
    IsFirst x = x ≡ choice_at c t

    apart : choice_at d t ≡ choice_at c t → ⊥
    apart same = let e = ap (λ (x : Choice). x.connection) same in omega arith

    first : IsStatus facts Clause false IsFirst (with_part status.Contradicted (choice_at c t) false one)
    first = part_more facts Clause false (λ x. ⊥) IsFirst (choice_at c t) (λ h. h) (λ x h. absurd h) refl (λ x same. inr same) status.Contradicted one tell (is, λ x h. absurd h)

-- in a list that rises a choice isn't among those before it
pub fresh : (choices : List Choice) (i : ℕ) (x : Choice) → Rattle.act1_base.specs.Rising.Rises IsBefore choices → slice_get choices i ≡ Some x → Contains (take i choices) x → ⊥
fresh choices i x rise at among =
    let before = place_of (take i choices) x among in
    let there = get_taken choices i before.0 x before.1 in
    let same = same_place IsBefore (λ a. pair_itself a.connection a.track) (λ a b c. pair_on a.connection a.track b.connection b.track c.connection c.track) choices rise before.0 i x there.1 at in
    omega (arith, there.0, same)

-- one choice more of a step
pub step_more : (p : Problem) (facts : List Fact) (choices : List Choice) (i : ℕ) (e : Choice) (s : Status) (known : Option Bool) → AreInOrder p choices → i < length choices → Tell facts (get_or choices i e) known
    → IsStatus facts (Unit {0}) false (Contains (take i choices)) s → IsStatus facts (Unit {0}) false (Contains (take (i + 1) choices)) (with_part s (get_or choices i e) false known)
step_more p facts choices i e s known order low tell so_far =
    subst (λ (xs : List Choice). IsStatus facts (Unit {0}) false (Contains xs) (with_part s x false known)) (sym (take_more choices i e low))
    (part_more facts (Unit {0}) false (Contains (take i choices)) (Contains (take i choices ++ x ∷ [])) x
    (fresh choices i x order.rise (slice_get-get_or choices i e low)) (λ d among. Contains-append_left (take i choices) (x ∷ []) d among) (Contains-push (take i choices) x) (λ d among. contains_back (take i choices) x d among) s known tell so_far)
  where
    x : Choice
    x = get_or choices i e

-- a clause whose parts are known so far
pub lift : (p : Problem) (steps : List (List Choice)) (facts : List Fact) (h : Hint) (Has : Choice → Type 0) (s : Status) → ((f : Fact) → IsPart p steps h f ↔ ((f.truth ≡ truth_of h) × Has f.choice))
    → IsStatus facts (IsClause p steps h) (truth_of h) Has s → IsStatusOf p steps facts h s
lift p steps facts h Has status.Contradicted same is = (is.0, λ f part. let own = (same f).0 part in subst (λ (b : Bool). Contains facts (record { choice = f.choice; truth = not b })) (sym own.0) (is.1 f.choice own.1))
lift p steps facts h Has (status.Unit c) same is = record {
  clause = is.0;
  part = (same (part_at h c)).1 (refl, is.1.0);
  undecided = is.1.1;
  others = λ g part apart. let own = (same g).0 part in
      subst (λ (b : Bool). Contains facts (record { choice = g.choice; truth = not b })) (sym own.0) (is.1.2 g.choice own.1 (λ e. apart (fact_from g (part_at h c) e own.0)));
}
lift p steps facts h Has status.Open same is = (
  λ contra. (is contra.0).0 (λ c has. contra.1 (part_at h c) ((same (part_at h c)).1 (refl, has))),
  λ f unit. let own = (same f).0 unit.part in (is unit.clause).1 f.choice
      (own.1, unit.undecided, λ d has apart. unit.others (part_at h d) ((same (part_at h d)).1 (refl, has)) (λ e. apart (ap (λ (x : Fact). x.choice) e))),
)

pub lift_connection : (p : Problem) (steps : List (List Choice)) (facts : List Fact) (c : ℕ) (s : Status) → IsStatus facts (c < length p.connections) true (IsOwn p c) s → IsStatusOf p steps facts (hint.AtLeast c) s
lift_connection p steps facts c s is = lift p steps facts (hint.AtLeast c) (IsOwn p c) s (λ f. (λ part. (part.0, (part.1, part.2)), λ h. (h.0, h.1.0, h.1.1))) is

pub lift_clash : (p : Problem) (steps : List (List Choice)) (facts : List Fact) (c d t : ℕ) (s : Status) → IsStatus facts (IsClause p [] (hint.Clash c d t)) false (IsEither c d t) s → IsStatusOf p steps facts (hint.Clash c d t) s
lift_clash p steps facts c d t s is = lift p steps facts (hint.Clash c d t) (IsEither c d t) s (λ f. (λ part. part, λ h. h)) is

pub lift_step : (p : Problem) (steps : List (List Choice)) (facts : List Fact) (n : ℕ) (choices : List Choice) (s : Status) → slice_get steps n ≡ Some choices → IsStatus facts (Unit {0}) false (Contains choices) s → IsStatusOf p steps facts (hint.Step n) s
lift_step p steps facts n choices s at is =
    lift p steps facts (hint.Step n) (IsOfStep steps n) s (λ f. (λ part. part, λ h. h))
    (same_parts facts (n < length steps) false (Contains choices) (IsOfStep steps n) (λ c. (λ among. (choices, at, among), λ h. subst (λ (xs : List Choice). Contains xs c) (one_at steps n h.0 choices h.1 at) h.2)) s
    (for_clause facts (n < length steps) false (Contains choices) (get_within steps n choices at) s is))

-- what a clause speaks of is there
pub part_in_range : (p : Problem) (earlier : List Step) → StepsAreInOrder p earlier → (h : Hint) (f : Fact) → IsClause p (choices_of earlier) h → IsPart p (choices_of earlier) h f → IsInRange p f.choice
part_in_range p earlier order (hint.AtLeast c) f clause part = (part.2.0, part.2.1)
part_in_range p earlier order (hint.Clash c d t) f clause part = from part.1
  where
    from : IsEither c d t f.choice → IsInRange p f.choice
    from (inl same) = subst (λ (x : Choice). IsInRange p x) (sym same) (let less = clause.0 in let low = clause.1 in omega arith, clause.2)
    from (inr same) = subst (λ (x : Choice). IsInRange p x) (sym same) (clause.1, clause.2)
part_in_range p earlier order (hint.Step n) f clause part =
    let own = part.1 in
    let step = get_mapped (λ (s : Step). s.choices) earlier n own.0 own.1 in
    All-contains (IsInRange p) step.0.choices f.choice (order n step.0 step.1).within (subst (λ (xs : List Choice). Contains xs f.choice) (sym step.2) own.2)

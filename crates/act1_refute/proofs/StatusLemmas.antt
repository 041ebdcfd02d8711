-- The status of a clause with one part more.
use Rattle.std.proofs.Common.{◌≡◌, ◌≢◌, ◌⊎◌, ◌↔◌, Bool, true, false, not, Option, Some, None, List, Contains, refl, sym, subst, ◌∙◌, inl, inr}
use Rattle.act1_channel.proofs.Facts.{same_choice}
use Rattle.act1_channel.specs.declared.problem.Choice.{Choice}
use Rattle.act1_channel.specs.Clauses.{Fact, IsUndecided}
use Rattle.act1_channel.specs.Found.{Tell}
use Rattle.act1_refute.specs.declared.status.Status.{Status}
use Rattle.act1_refute.specs.declared.status.Status.TheVariants as status
use Rattle.act1_refute.specs.StatusSteps.{with_open, with_part, IsAlone, IsFalse, IsStatus}

module _ (facts : List Fact) (IsClause : Type 0) (truth : Bool) where
  -- the same parts in other words
  pub same_parts : (Has Also : Choice → Type 0) → ((c : Choice) → Has c ↔ Also c) → (s : Status) → IsStatus facts IsClause truth Has s → IsStatus facts IsClause truth Also s
  same_parts Has Also same status.Contradicted h = (h.0, λ c has. h.1 c ((same c).1 has))
  same_parts Has Also same (status.Unit c) h = (h.0, ((same c).0 h.1.0, h.1.1, λ d has apart. h.1.2 d ((same d).1 has) apart))
  same_parts Has Also same status.Open h = λ is. let own = h is in (
    λ all. own.0 (λ c has. all c ((same c).0 has)),
    λ c alone. own.1 c ((same c).1 alone.0, alone.1, λ d has apart. alone.2 d ((same d).0 has) apart),
  )

  -- where there is such a clause
  pub for_clause : (Has : Choice → Type 0) → IsClause → (s : Status) → IsStatus facts (Unit {0}) truth Has s → IsStatus facts IsClause truth Has s
  for_clause Has is status.Contradicted h = (is, h.1)
  for_clause Has is (status.Unit c) h = (is, h.1)
  for_clause Has is status.Open h = λ _. h tt

  module _ (Has More : Choice → Type 0) (c : Choice) (old : (d : Choice) → Has d → More d) (cases : (d : Choice) → More d → Has d ⊎ (d ≡ c)) where
    -- a false part more
    pub false_more : (s : Status) → IsFalse facts truth c → IsStatus facts IsClause truth Has s → IsStatus facts IsClause truth More s
    false_more status.Contradicted is h = (h.0, λ d has. from d (cases d has))
      where
        from : (d : Choice) → Has d ⊎ (d ≡ c) → IsFalse facts truth d
        from d (inl before) = h.1 d before
        from d (inr same) = subst (λ (e : Choice). IsFalse facts truth e) (sym same) is
    false_more (status.Unit e) is h = (h.0, (old e h.1.0, h.1.1, λ d has apart. from d apart (cases d has)))
      where
        from : (d : Choice) → d ≢ e → Has d ⊎ (d ≡ c) → IsFalse facts truth d
        from d apart (inl before) = h.1.2 d before apart
        from d apart (inr same) = subst (λ (x : Choice). IsFalse facts truth x) (sym same) is
    false_more status.Open is h = λ clause. let none = h clause in (
      λ all. none.0 (λ d has. all d (old d has)),
      λ e alone. from e alone (cases e alone.0) none.1,
    )
      where
        from : (e : Choice) → IsAlone facts truth More e → Has e ⊎ (e ≡ c) → ((e : Choice) → IsAlone facts truth Has e → ⊥) → ⊥
        from e alone (inl before) none = none e (before, alone.1, λ d has apart. alone.2 d (old d has) apart)
        from e alone (inr same) none = alone.1 (record { choice = c; truth = not truth }) is (sym same)

  module _ (Has More : Choice → Type 0) (c : Choice) (new : Has c → ⊥) (old : (d : Choice) → Has d → More d) (own : More c) (cases : (d : Choice) → More d → Has d ⊎ (d ≡ c)) where
    -- a true part more
    true_more : Contains facts (record { choice = c; truth = truth }) → (IsFalse facts truth c → ⊥) → IsStatus facts IsClause truth More status.Open
    true_more is none clause = (λ all. none (all c own), λ e alone. from e alone (same_choice c e))
      where
        from : (e : Choice) → IsAlone facts truth More e → (c ≡ e) ⊎ (c ≢ e) → ⊥
        from e alone (inl same) = alone.1 (record { choice = c; truth = truth }) is same
        from e alone (inr apart) = none (alone.2 c own apart)

    -- an undecided part more
    open_more : (s : Status) → IsUndecided facts c → IsStatus facts IsClause truth Has s → IsStatus facts IsClause truth More (with_open s c)
    open_more status.Contradicted free h = (h.0, (own, free, λ d has apart. from d apart (cases d has)))
      where
        from : (d : Choice) → d ≢ c → Has d ⊎ (d ≡ c) → IsFalse facts truth d
        from d apart (inl before) = h.1 d before
        from d apart (inr same) = absurd (apart same)
    open_more (status.Unit e) free h = λ clause. (
      λ all. undecided_false c free (all c own),
      λ d alone. from d alone (same_choice d c),
    )
      where
        undecided_false : (d : Choice) → IsUndecided facts d → IsFalse facts truth d → ⊥
        undecided_false d free is = free (record { choice = d; truth = not truth }) is refl

        from : (d : Choice) → IsAlone facts truth More d → (d ≡ c) ⊎ (d ≢ c) → ⊥
        from d alone (inl same) = undecided_false e h.1.1 (alone.2 e (old e h.1.0) (λ k. new (subst (λ (x : Choice). Has x) (k ∙ same) h.1.0)))
        from d alone (inr apart) = undecided_false c free (alone.2 c own (λ k. apart (sym k)))
    open_more status.Open free h = λ clause. let none = h clause in (
      λ all. none.0 (λ d has. all d (old d has)),
      λ d alone. from d alone (same_choice d c) none.0,
    )
      where
        from : (d : Choice) → IsAlone facts truth More d → (d ≡ c) ⊎ (d ≢ c) → (((d : Choice) → Has d → IsFalse facts truth d) → ⊥) → ⊥
        from d alone (inl same) none = none (λ e has. alone.2 e (old e has) (λ k. new (subst (λ (x : Choice). Has x) (k ∙ same) has)))
        from d alone (inr apart) none = free (record { choice = c; truth = not truth }) (alone.2 c own (λ k. apart (sym k))) refl

    -- by what is known of the part
    pub part_more : (s : Status) (known : Option Bool) → Tell facts c known → IsStatus facts IsClause truth Has s → IsStatus facts IsClause truth More (with_part s c truth known)
    part_more s None tell h = open_more s tell h
    part_more s (Some true) tell h = from truth refl
      where
        from : (t : Bool) → t ≡ truth → IsStatus facts IsClause truth More (with_part s c t (Some true))
        from true e = true_more (subst (λ (x : Bool). Contains facts (record { choice = c; truth = x })) e tell.0) (subst (λ (x : Bool). IsFalse facts x c → ⊥) e tell.1)
        from false e = false_more Has More c old cases s (subst (λ (x : Bool). IsFalse facts x c) e tell.0) h
    part_more s (Some false) tell h = from truth refl
      where
        from : (t : Bool) → t ≡ truth → IsStatus facts IsClause truth More (with_part s c t (Some false))
        from true e = false_more Has More c old cases s (subst (λ (x : Bool). IsFalse facts x c) e tell.0) h
        from false e = true_more (subst (λ (x : Bool). Contains facts (record { choice = c; truth = x })) e tell.0) (subst (λ (x : Bool). IsFalse facts x c → ⊥) e tell.1)

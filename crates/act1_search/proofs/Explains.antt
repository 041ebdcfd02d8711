-- The hints of a step: from the last fact found back to the first, the reasons of those that are wanted, before the clause that is contradicted.
use Rattle.std.proofs.Common.{ℕ, suc, ◌≡◌, ◌≢◌, ◌<◌, ◌≤◌, ◌⊎◌, Bool, true, false, Option, Some, None, List, [], ◌∷◌, ◌++◌, length, map, take, slice_get, Contains, refl, sym, ap, subst, ◌∙◌, inl, inr, arith, true≢false}
use Rattle.std.proofs.lemmas.Bool.{cases_lt}
use Rattle.act1_base.proofs.ListGets.{get_within, some_is, contains_at, get_map, place_of}
use Rattle.act1_search.proofs.Fronts.{get_taken, contains_front, contains_back, contains_middle}
use Rattle.act1_channel.proofs.Facts.{taken_from, fact_from}
use Rattle.act1_channel.specs.declared.problem.Problem.{Problem}
use Rattle.act1_channel.specs.declared.problem.Choice.{Choice}
use Rattle.act1_channel.specs.declared.problem.Hint.{Hint}
use Rattle.act1_channel.specs.Clauses.{Fact, taken, opposite, IsClause, IsPart}
use Rattle.act1_channel.specs.Clauses.{IsUndecided}
use Rattle.act1_channel.specs.Acceptance.{LeadToConflict}
use Rattle.act1_search.proofs.Unique.{Order, order}
use Rattle.act1_search.proofs.Unique.Order.{below, above, level}
use Rattle.std.proofs.lemmas.Option.{none-some}
use Rattle.act1_channel.specs.declared.trail.Entry.{Entry}
use Rattle.act1_channel.specs.Found.{fact_of}
use Rattle.act1_search.specs.Trail.{HasFound, IsGrounded, IsTrail}

-- a choice that was assumed is a fact
taken_of : (cs : List Choice) (c : Choice) → Contains cs c → Contains (map taken cs) (taken c)
taken_of cs c among = let at = place_of cs c among in contains_at (map taken cs) at.0 (taken c) (get_map taken cs at.0 c at.1)

module _ (p : Problem) (steps : List (List Choice)) (chosen : List Choice) (trail : List Entry) (is : IsTrail p steps chosen trail) where
  -- a list of facts that has the choices assumed and the wanted facts below a place, and speaks of no other choices
  pub record Fits (n : ℕ) (wanted : Choice → Bool) (known : List Fact) : Type 0 where
    pub assumed : (c : Choice) → Contains chosen c → Contains known (taken c)
    pub found : (m : ℕ) (e : Entry) → m < n → slice_get trail m ≡ Some e → wanted e.choice ≡ true → Contains known (fact_of e)
    pub only : (x : Fact) → Contains known x → Contains chosen x.choice ⊎ ((m : ℕ) × (e : Entry) × (m < n) × (slice_get trail m ≡ Some e) × (e.choice ≡ x.choice))

  -- hints that lead to a conflict from each such list
  abbrev pub Ready : ℕ → (Choice → Bool) → List Hint → Type 0
  Ready n wanted hints = (known : List Fact) → Fits n wanted known → LeadToConflict p steps known hints

  pub ready_first : (wanted : Choice → Bool) (h : Hint) → IsClause p steps h → ((g : Fact) → IsPart p steps h g → HasFound trail (opposite g) × (wanted g.choice ≡ true)) → Ready (length trail) wanted (h ∷ [])
  ready_first wanted h clause all known fits = (clause, found)
    where
      found : (g : Fact) → IsPart p steps h g → Contains known (opposite g)
      found g part =
          let own = all g part in
          let at = own.0.2 in
          let same = own.0.3 in
          subst (λ (x : Fact). Contains known x) same (fits.found own.0.0 own.0.1 (get_within trail own.0.0 own.0.1 at) at (subst (λ (c : Choice). wanted c ≡ true) (sym (ap (λ (x : Fact). x.choice) same)) own.1))

  -- a fact that isn't wanted, or that was assumed, needs no hint
  pub ready_skip : (n : ℕ) (wanted : Choice → Bool) (hints : List Hint) (e : Entry) → slice_get trail n ≡ Some e → (wanted e.choice ≡ false) ⊎ (e.why ≡ None) → Ready (suc n) wanted hints → Ready n wanted hints
  ready_skip n wanted hints e at reason ready known fits = ready known (record { assumed = fits.assumed; found = λ m d low there want. found m d low there want (cases_lt m n); only = λ x among. wider x (fits.only x among) })
    where
      own : (e.why ≡ None) → Contains known (fact_of e)
      own none =
          let g = subst (λ (w : Option Hint). IsGrounded p steps chosen (take n trail) (fact_of e) w) none (is.grounded n e at) in
          subst (λ (x : Fact). Contains known x) (fact_from (taken e.choice) (fact_of e) refl (sym g.0)) (fits.assumed e.choice g.1)

      here : (d : Entry) → e ≡ d → wanted d.choice ≡ true → (wanted e.choice ≡ false) ⊎ (e.why ≡ None) → Contains known (fact_of d)
      here d same want (inl not_wanted) = absurd (true≢false (sym want ∙ ap (λ (x : Entry). wanted x.choice) (sym same) ∙ not_wanted))
      here d same want (inr none) = subst (λ (x : Entry). Contains known (fact_of x)) same (own none)

      found : (m : ℕ) (d : Entry) → m < suc n → slice_get trail m ≡ Some d → wanted d.choice ≡ true → (m < n) ⊎ (n ≤ m) → Contains known (fact_of d)
      found m d low there want (inl less) = fits.found m d less there want
      found m d low there want (inr high) =
          let same : m ≡ n = omega arith in
          here d (some_is e d (sym at ∙ subst (λ (k : ℕ). slice_get trail k ≡ Some d) same there)) want reason

      wider : (x : Fact) → Contains chosen x.choice ⊎ ((m : ℕ) × (d : Entry) × (m < n) × (slice_get trail m ≡ Some d) × (d.choice ≡ x.choice)) → Contains chosen x.choice ⊎ ((m : ℕ) × (d : Entry) × (m < suc n) × (slice_get trail m ≡ Some d) × (d.choice ≡ x.choice))
      wider x (inl among) = inl among
      wider x (inr other) = let low = other.2 in inr (other.0, other.1, omega arith, other.3, other.4)

  -- a fact of a clause, wanted or not, may be told by its hint, and then the clause's other parts are wanted
  pub ready_hint : (n : ℕ) (wanted more : Choice → Bool) (h g : Hint) (hints : List Hint) (e : Entry) → slice_get trail n ≡ Some e → e.why ≡ Some h
      → ((c : Choice) → wanted c ≡ true → more c ≡ true) → ((x : Fact) → IsPart p steps h x → more x.choice ≡ true)
      → Ready (suc n) wanted (g ∷ hints) → Ready n more (h ∷ g ∷ hints)
  ready_hint n wanted more h g hints e at why keeps wants ready known fits =
      (fact_of e, record { clause = ground.0.0; part = ground.1; undecided = undecided; others = others }, ready (known ++ fact_of e ∷ []) (record { assumed = λ c among. contains_front known (fact_of e ∷ []) (taken c) (fits.assumed c among); found = λ m d low there want. found m d low there want (cases_lt m n); only = λ x among. only x (contains_back known (fact_of e) x among) }))
    where
      ground : IsGrounded p steps chosen (take n trail) (fact_of e) (Some h)
      ground = subst (λ (w : Option Hint). IsGrounded p steps chosen (take n trail) (fact_of e) w) why (is.grounded n e at)

      -- a choice of the list isn't that of the fact
      apart : (x : Fact) → x.choice ≡ e.choice → Contains chosen x.choice ⊎ ((m : ℕ) × (d : Entry) × (m < n) × (slice_get trail m ≡ Some d) × (d.choice ≡ x.choice)) → ⊥
      apart x same (inl among) = elsewhere (is.assumed x.choice among)
        where
          elsewhere : (k : ℕ) × (d : Entry) × (slice_get trail k ≡ Some d) × (d.choice ≡ x.choice) × (d.why ≡ None) → ⊥
          elsewhere own = from (order own.0 n)
            where
              from : Order own.0 n → ⊥
              from (below low) = is.distinct own.0 n own.1 e low own.2 at (own.3 ∙ same)
              from (above low) = is.distinct n own.0 e own.1 low at own.2 (sym same ∙ sym own.3)
              from (level k) =
                  let one = some_is own.1 e (sym own.2 ∙ subst (λ (j : ℕ). slice_get trail j ≡ Some e) (sym k) at) in
                  none-some h (sym own.4 ∙ ap (λ (x : Entry). x.why) one ∙ why)
      apart x same (inr other) = is.distinct other.0 n other.1 e other.2 other.3 at (other.4 ∙ same)

      undecided : IsUndecided known (fact_of e).choice
      undecided x among same = apart x same (fits.only x among)

      others : (x : Fact) → IsPart p steps h x → x ≢ fact_of e → Contains known (opposite x)
      others x part other =
          let own = ground.2 x part other in
          let there = get_taken trail n own.0 own.1 own.2 in
          subst (λ (y : Fact). Contains known y) own.3 (fits.found own.0 own.1 there.0 there.1 (subst (λ (c : Choice). more c ≡ true) (sym (ap (λ (y : Fact). y.choice) own.3)) (wants x part)))

      found : (m : ℕ) (d : Entry) → m < suc n → slice_get trail m ≡ Some d → wanted d.choice ≡ true → (m < n) ⊎ (n ≤ m) → Contains (known ++ fact_of e ∷ []) (fact_of d)
      found m d low there want (inl less) = contains_front known (fact_of e ∷ []) (fact_of d) (fits.found m d less there (keeps d.choice want))
      found m d low there want (inr high) =
          let same : m ≡ n = omega arith in
          let own = some_is e d (sym at ∙ subst (λ (k : ℕ). slice_get trail k ≡ Some d) same there) in
          subst (λ (x : Entry). Contains (known ++ fact_of e ∷ []) (fact_of x)) own (contains_middle known (fact_of e) [])

      only : (x : Fact) → Contains known x ⊎ (x ≡ fact_of e) → Contains chosen x.choice ⊎ ((m : ℕ) × (d : Entry) × (m < suc n) × (slice_get trail m ≡ Some d) × (d.choice ≡ x.choice))
      only x (inr same) = inr (n, e, omega arith, at, sym (ap (λ (y : Fact). y.choice) same))
      only x (inl among) = wider (fits.only x among)
        where
          wider : Contains chosen x.choice ⊎ ((m : ℕ) × (d : Entry) × (m < n) × (slice_get trail m ≡ Some d) × (d.choice ≡ x.choice)) → Contains chosen x.choice ⊎ ((m : ℕ) × (d : Entry) × (m < suc n) × (slice_get trail m ≡ Some d) × (d.choice ≡ x.choice))
          wider (inl there) = inl there
          wider (inr other) = let low = other.2 in inr (other.0, other.1, omega arith, other.3, other.4)

  -- hints that are ready from the first fact on show the step of the choices assumed
  pub ready_step : (wanted : Choice → Bool) (hints : List Hint) → Ready 0 wanted hints → LeadToConflict p steps (map taken chosen) hints
  ready_step wanted hints ready =
      ready (map taken chosen) (record { assumed = λ c among. taken_of chosen c among; found = λ m e low. absurd (omega arith); only = λ x among. inl (let own = taken_from chosen x among in subst (λ (y : Fact). Contains chosen y.choice) own.2 own.1) })

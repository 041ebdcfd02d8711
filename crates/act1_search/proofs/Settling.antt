-- Where all facts had their effect, the trail has exactly the facts that follow.
use Rattle.std.proofs.Common.{ℕ, zero, suc, ◌≡◌, ◌≢◌, ◌<◌, ◌≤◌, ◌⊎◌, Bool, true, false, Option, Some, None, List, [], length, take, slice_get, refl, sym, ap, subst, ◌∙◌, inl, inr, arith, true≢false}
use Rattle.std.proofs.lemmas.Bool.{cases_lt, cases_eq}
use Rattle.act1_base.proofs.ListGets.{some_is}
use Rattle.act1_search.proofs.Fronts.{get_taken}
use Rattle.act1_channel.proofs.Facts.{choice_from, fact_from}
use Rattle.act1_channel.specs.declared.problem.Problem.{Problem}
use Rattle.act1_channel.specs.declared.problem.Choice.{Choice}
use Rattle.act1_channel.specs.declared.problem.Hint.{Hint}
use Rattle.act1_channel.specs.declared.problem.Hint.TheVariants as hint
use Rattle.act1_channel.specs.Assignment.{IsAllowed, segments, choice_at}
use Rattle.act1_channel.specs.Clauses.{Fact, taken, refused, opposite, IsPart}
use Rattle.act1_channel.specs.declared.trail.Entry.{Entry}
use Rattle.act1_search.specs.Closure.{IsUsed, Follows, IsInConflict}
use Rattle.act1_search.specs.Closure.Follows.{is_chosen, is_left}
use Rattle.act1_channel.specs.Found.{truth_in, fact_of}
use Rattle.act1_channel.specs.TrailSteps.{AreDistinct}
use Rattle.act1_search.specs.Trail.{HasFound, IsGrounded, IsTrail}
use Rattle.act1_search.specs.Watching.{Stands, Keeps, KeepsConflict}
use Rattle.act1_search.specs.Watching.Keeps.{stands, keeps_left}
use Rattle.act1_search.specs.Propagation.{IsContradicted, IsServed, IsSettled, AreInside}
use Rattle.act1_search.proofs.Truths.{truth_found, found_truth}

-- among the tracks below a number one is allowed, or none is
pub some_track_of : (p : Problem) (c n : ℕ) → c < length p.connections → ((t : ℕ) × IsAllowed p (choice_at c t)) ⊎ ((t : ℕ) → t < n → IsAllowed p (choice_at c t) → ⊥)
some_track_of p c zero is_there = inr (λ t low ok. omega arith)
some_track_of p c (suc n) is_there = from (some_track_of p c n is_there) (cases_lt n (length p.tracks)) (cases_lt p.k (segments p c n))
  where
    from : ((t : ℕ) × IsAllowed p (choice_at c t)) ⊎ ((t : ℕ) → t < n → IsAllowed p (choice_at c t) → ⊥) → (n < length p.tracks) ⊎ (length p.tracks ≤ n) → (p.k < segments p c n) ⊎ (segments p c n ≤ p.k)
        → ((t : ℕ) × IsAllowed p (choice_at c t)) ⊎ ((t : ℕ) → t < suc n → IsAllowed p (choice_at c t) → ⊥)
    from (inl own) a b = inl own
    from (inr none) (inl there) (inr fits) = inl (n, (is_there, there, fits))
    from (inr none) (inl there) (inl large) = inr (λ t low ok. at t low ok (cases_eq t n))
      where
        at : (t : ℕ) → t < suc n → IsAllowed p (choice_at c t) → (t ≡ n) ⊎ (t ≢ n) → ⊥
        at t low ok (inl e) = let h = subst (λ (k : ℕ). IsAllowed p (choice_at c k)) e ok in let f = h.1 in omega arith
        at t low ok (inr other) = none t (let e : t ≢ n = other in omega arith) ok
    from (inr none) (inr past) b = inr (λ t low ok. let h = ok.0 in none t (omega arith) ok)

module _ (p : Problem) (steps : List (List Choice)) (chosen : List Choice) (trail : List Entry) (is : IsTrail p steps chosen trail) where
  -- what was found follows
  grounded_follows : (f : Fact) (why : Option Hint) (before : List Entry) → IsGrounded p steps chosen before f why → ((g : Fact) → HasFound before g → Follows p steps chosen g) → Follows p steps chosen f
  grounded_follows f None before g all = subst (λ (b : Bool). Follows p steps chosen (record { choice = f.choice; truth = b })) (sym g.0) (is_chosen f.choice g.1)
  grounded_follows f (Some h) before g all = is_left h f g.0 g.1 (λ x part other. all (opposite x) (g.2 x part other))

  sound_below : (k n : ℕ) (e : Entry) → n < k → slice_get trail n ≡ Some e → Follows p steps chosen (fact_of e)
  sound_below zero n e low at = absurd (omega arith)
  sound_below (suc k) n e low at =
      grounded_follows (fact_of e) e.why (take n trail) (is.grounded n e at) (λ g own. before (λ m d less there. sound_below k m d (omega arith) there) g own)
    where
      before : ((m : ℕ) (d : Entry) → m < n → slice_get trail m ≡ Some d → Follows p steps chosen (fact_of d)) → (g : Fact) → HasFound (take n trail) g → Follows p steps chosen g
      before all g own = let there = get_taken trail n own.0 own.1 own.2 in subst (λ (x : Fact). Follows p steps chosen x) own.3 (all own.0 own.1 there.0 there.1)

  pub sound : (f : Fact) → HasFound trail f → Follows p steps chosen f
  sound f own = subst (λ (x : Fact). Follows p steps chosen x) own.3 (sound_below (suc own.0) own.0 own.1 (omega arith) own.2)

  -- a contradicted clause of the problem is a conflict
  pub contradiction : (h : Hint) → IsContradicted p trail h → IsInConflict p steps chosen
  contradiction (hint.AtLeast c) own = from (some_track_of p c (length p.tracks) own.0.0)
    where
      used : IsUsed p steps (hint.AtLeast c)
      used = own.0

      from : ((t : ℕ) × IsAllowed p (choice_at c t)) ⊎ ((t : ℕ) → t < length p.tracks → IsAllowed p (choice_at c t) → ⊥) → IsInConflict p steps chosen
      from (inl one) =
          let f : Fact = taken (choice_at c one.0) in
          inl (choice_at c one.0, is_left (hint.AtLeast c) f used (refl, refl, one.1) (λ g part other. sound (opposite g) (own.1 g part)), sound (opposite f) (own.1 f (refl, refl, one.1)))
      from (inr none) = inr (hint.AtLeast c, used, λ f part. none f.choice.track part.2.1 (subst (λ (x : Choice). IsAllowed p x) (choice_from f.choice (choice_at c f.choice.track) part.1 refl) part.2))
  contradiction (hint.Clash c d t) own =
      let f : Fact = refused (choice_at c t) in
      inl (choice_at c t, sound (opposite f) (own.1 f (refl, inl refl)), is_left (hint.Clash c d t) f own.0 (refl, inl refl) (λ g part other. sound (opposite g) (own.1 g part)))
  contradiction (hint.Step n) own = absurd (let h = own.0.0 in omega arith)

module _ (p : Problem) (steps : List (List Choice)) (chosen : List Choice) (trail : List Entry) (distinct : AreDistinct trail)
    (inside : AreInside p trail) (settled : IsSettled p trail) (given : (f : Fact) → Stands steps chosen f → HasFound trail f) where
  truth_of : (f : Fact) → HasFound trail f → truth_in trail f.choice ≡ Some f.truth
  truth_of f own = subst (λ (x : Fact). truth_in trail x.choice ≡ Some x.truth) own.3 (found_truth trail distinct own.0 own.1 own.2)

  -- what a clause of the problem gives was found
  given_by : (f : Fact) (h : Hint) → IsUsed p [] h → IsPart p [] h f → ((g : Fact) → IsPart p [] h g → g ≢ f → HasFound trail (opposite g)) → HasFound trail f
  given_by f (hint.AtLeast c) used part all = (h.0, h.1, h.2, h.3 ∙ fact_from (taken (choice_at c f.choice.track)) f e (sym part.0))
    where
      e : choice_at c f.choice.track ≡ f.choice
      e = choice_from (choice_at c f.choice.track) f.choice (sym part.1) refl

      off : (u : ℕ) → IsAllowed p (choice_at c u) → u ≢ f.choice.track → truth_in trail (choice_at c u) ≡ Some false
      off u allowed other = truth_of (refused (choice_at c u)) (all (taken (choice_at c u)) (refl, refl, allowed) (λ s. other (ap (λ (x : Fact). x.choice.track) s)))

      h : HasFound trail (taken (choice_at c f.choice.track))
      h = truth_found trail (choice_at c f.choice.track) true ((settled.served c used.0).last f.choice.track (subst (λ (x : Choice). IsAllowed p x) (sym e) part.2) off)
  given_by f (hint.Clash c d t) used part all = from part.1
    where
      -- where one of the two is taken, the other was refused
      off : (a b : ℕ) → a ≢ b → b < length p.connections → IsAllowed p (choice_at b t) → Rattle.act1_channel.specs.Assignment.DoClash p a b t → HasFound trail (taken (choice_at a t)) → HasFound trail (refused (choice_at b t))
      off a b apart there allowed clash own =
          let same = own.3 in
          let choice = ap (λ (x : Fact). x.choice) same in
          let k = settled.clashes own.0 own.1 own.2 (ap (λ (x : Fact). x.truth) same) b there in
          let k' = subst (λ (x : Choice). Rattle.act1_search.specs.Propagation.IsKeptOff p trail x b) choice k in
          truth_found trail (choice_at b t) false (k' (λ e. apart (sym e)) allowed clash)

      apart : c ≢ d
      apart e = let low = used.0.0 in omega arith

      from : (f.choice ≡ choice_at c t) ⊎ (f.choice ≡ choice_at d t) → HasFound trail f
      from (inl mine) =
          let other = all (refused (choice_at d t)) (refl, inr refl) (λ s. apart (ap (λ (x : Choice). x.connection) (sym mine ∙ sym (ap (λ (x : Fact). x.choice) s)))) in
          let clash = used.0.3 in
          let h = off d c (λ e. apart (sym e)) (let low = used.0.0 in let top = used.0.1 in omega arith) used.1.0 (clash.0, clash.2, clash.1) other in
          (h.0, h.1, h.2, h.3 ∙ fact_from (refused (choice_at c t)) f (sym mine) (sym part.0))
      from (inr mine) =
          let other = all (refused (choice_at c t)) (refl, inl refl) (λ s. apart (ap (λ (x : Choice). x.connection) (ap (λ (x : Fact). x.choice) s ∙ mine))) in
          let h = off c d apart used.0.1 used.1.1 used.0.3 other in
          (h.0, h.1, h.2, h.3 ∙ fact_from (refused (choice_at d t)) f (sym mine) (sym part.0))
  given_by f (hint.Step n) used part all = absurd (let h = used.0 in omega arith)

  pub complete : (f : Fact) → Keeps p steps chosen f → HasFound trail f
  complete it (stands f own) = given f own
  complete it (keeps_left h f used part others) = given_by f h used part (λ g own other. complete (opposite g) (others g own other))

  pub calm : KeepsConflict p steps chosen → ⊥
  calm (inl both) = true≢false (some_is true false (sym (truth_of (taken both.0) (complete (taken both.0) both.1)) ∙ truth_of (refused both.0) (complete (refused both.0) both.2)))
  calm (inr (hint.AtLeast c, used, empty)) = let s = (settled.served c used.0).some in empty (taken (choice_at c s.0)) (refl, refl, s.1)
  calm (inr (hint.Clash c d t, used, empty)) = empty (refused (choice_at c t)) (refl, inl refl)
  calm (inr (hint.Step n, used, empty)) = let h = used.0 in omega arith

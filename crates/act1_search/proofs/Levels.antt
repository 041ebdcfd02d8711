-- The levels of a watch as choices are taken on and back.
use Rattle.std.proofs.Common.{ℕ, ◌≡◌, ◌≢◌, ◌<◌, ◌≤◌, ◌⊎◌, Bool, true, false, not, Option, Some, None, List, [], ◌∷◌, ◌++◌, length, take, slice_get, Contains, refl, sym, subst, ◌∙◌, inl, inr, arith}
use Rattle.std.proofs.lemmas.List.{length-append}
use Rattle.act1_base.proofs.ListGets.{get_within, get_cases, get_last, some_is}
use Rattle.act1_search.proofs.Fronts.{get_taken, get_front, contains_front, contains_back, contains_middle}
use Rattle.act1_channel.proofs.Facts.{fact_from}
use Rattle.act1_channel.specs.declared.problem.Problem.{Problem}
use Rattle.act1_channel.specs.declared.problem.Choice.{Choice}
use Rattle.act1_channel.specs.declared.problem.Hint.{Hint}
use Rattle.act1_channel.specs.declared.problem.Hint.TheVariants as hint
use Rattle.act1_channel.specs.Clauses.{Fact, taken, refused, opposite}
use Rattle.act1_channel.specs.Assignment.{choice_at, IsAllowed}
use Rattle.act1_channel.specs.declared.trail.Entry.{Entry}
use Rattle.act1_search.specs.Closure.{HasFactAbout}
use Rattle.act1_channel.specs.Found.{truth_in, fact_of}
use Rattle.act1_channel.specs.TrailSteps.{AreDistinct}
use Rattle.act1_search.specs.Trail.{HasFound, IsGrounded, IsTrail}
use Rattle.act1_search.specs.Watching.{IsWatched, Stands}
use Rattle.act1_search.specs.Propagation.{Grows, IsServed, IsSettled, IsPending, AreInside, AreKeptOff}
use Rattle.act1_search.specs.Propagation.Grows.{same, more}
use Rattle.act1_search.specs.Watch.{IsLevel}
use Rattle.act1_search.proofs.Closures.{used_more, part_more, part_back}
use Rattle.act1_search.proofs.Visits.{front_of, whole_of}
use Rattle.act1_search.proofs.Truths.{truth_other, truth_found}
use Rattle.act1_channel.proofs.Tables.{distinct_more}
use Rattle.act1_search.proofs.Growing.{inside_grown, served_more, later_apart}
use Rattle.act1_search.proofs.Watched.{assuming, learning}
use Rattle.act1_search.proofs.Settling.{sound}

found_more : (xs ys : List Entry) (f : Fact) → HasFound xs f → HasFound (xs ++ ys) f
found_more xs ys f own = (own.0, own.1, get_front xs ys own.0 own.1 own.2, own.3)

found_last : (xs : List Entry) (e : Entry) → HasFound (xs ++ e ∷ []) (fact_of e)
found_last xs e = (length xs, e, get_last xs e (length xs) refl, refl)

module _ (p : Problem) where
  -- a ground stays one with more steps, more choices
  ground_more : (steps more : List (List Choice)) (chosen larger : List Choice) (before : List Entry) (f : Fact) (why : Option Hint) → ((c : Choice) → Contains chosen c → Contains larger c)
      → IsGrounded p steps chosen before f why → IsGrounded p (steps ++ more) larger before f why
  ground_more steps others chosen larger before f None all g = (g.0, all f.choice g.1)
  ground_more steps others chosen larger before f (Some h) all g =
      (used_more p steps others h g.0, part_more p steps others h f g.1, λ x part other. g.2 x (part_back p steps others h x g.0 part) other)

  -- one entry more, with its ground
  trail_more : (steps : List (List Choice)) (chosen : List Choice) (xs : List Entry) (e : Entry) → ((n : ℕ) (d : Entry) → slice_get xs n ≡ Some d → IsGrounded p steps chosen (take n xs) (fact_of d) d.why) → AreDistinct xs
      → IsGrounded p steps chosen xs (fact_of e) e.why → truth_in xs e.choice ≡ None
      → ((c : Choice) → Contains chosen c → (n : ℕ) × (d : Entry) × (slice_get (xs ++ e ∷ []) n ≡ Some d) × (d.choice ≡ c) × (d.why ≡ None)) → IsTrail p steps chosen (xs ++ e ∷ [])
  trail_more steps chosen xs e grounds distinct ground free assumed = record {
    grounded = λ n d at. from n d (get_cases xs e d n at);
    distinct = distinct_more xs e distinct free;
    assumed = assumed;
  }
    where
      from : (n : ℕ) (d : Entry) → (slice_get xs n ≡ Some d) ⊎ ((n ≡ length xs) × (e ≡ d)) → IsGrounded p steps chosen (take n (xs ++ e ∷ [])) (fact_of d) d.why
      from n d (inl old) =
          let low = get_within xs n d old in
          subst (λ (ys : List Entry). IsGrounded p steps chosen ys (fact_of d) d.why) (sym (front_of xs e n (omega arith))) (grounds n d old)
      from n d (inr new) = subst (λ (ys : List Entry). IsGrounded p steps chosen ys (fact_of d) d.why) (sym (whole_of xs e n new.0)) (subst (λ (x : Entry). IsGrounded p steps chosen xs (fact_of x) x.why) new.1 ground)

  pub level_grown : (steps : List (List Choice)) (chosen : List Choice) (xs ys : List Entry) → Grows p xs ys → IsLevel p steps chosen xs → IsLevel p steps chosen ys
  level_grown steps chosen xs ys same l = l
  level_grown steps chosen xs it (more found e g forced) l = from (level_grown steps chosen xs found g l)
    where
      from : IsLevel p steps chosen found → IsLevel p steps chosen (found ++ e ∷ [])
      from m = record {
        trail = trail_more steps chosen found e m.trail.grounded m.trail.distinct ground forced.free (λ c among. let a = m.trail.assumed c among in (a.0, a.1, get_front found (e ∷ []) a.0 a.1 a.2, a.3, a.4));
        inside = inside_grown p found (found ++ e ∷ []) (more found e same forced) m.inside;
        given = λ f own. found_more found (e ∷ []) f (m.given f own);
      }
        where
          ground : IsGrounded p steps chosen found (fact_of e) e.why
          ground = subst (λ (w : Option Hint). IsGrounded p steps chosen found (fact_of e) w) (sym forced.why)
              (used_more p [] steps forced.clause forced.used, part_more p [] steps forced.clause (fact_of e) forced.part, λ x part other. forced.others x (part_back p [] steps forced.clause x forced.used part) other)

  -- an allowed choice's entry after settled facts: what they did stays done
  pub pending_more : (xs : List Entry) (e : Entry) → truth_in xs e.choice ≡ None → IsAllowed p e.choice → IsSettled p xs → IsPending p (xs ++ e ∷ []) (length xs)
  pending_more xs e free fits settled = record { clashes = λ m d low at is. clash m d low at is (get_cases xs e d m at); served = λ c there. serve c (served_more p xs e c free fits (settled.served c there)) }
    where
      clash : (m : ℕ) (d : Entry) → m < length xs → slice_get (xs ++ e ∷ []) m ≡ Some d → d.truth ≡ true → (slice_get xs m ≡ Some d) ⊎ ((m ≡ length xs) × (e ≡ d)) → AreKeptOff p (xs ++ e ∷ []) d.choice (length p.connections)
      clash m d low at is (inl old) = λ k there other allowed c. let h = settled.clashes m d old is k there other allowed c in truth_other xs e (choice_at k d.choice.track) (later_apart p xs e (choice_at k d.choice.track) false free h) ∙ h
      clash m d low at is (inr new) = absurd (let h = new.0 in omega arith)

      serve : (c : ℕ) → IsServed p (xs ++ e ∷ []) c ⊎ ((e.truth ≡ false) × (e.choice.connection ≡ c)) → IsServed p (xs ++ e ∷ []) c ⊎ ((m : ℕ) × (d : Entry) × (length xs ≤ m) × (slice_get (xs ++ e ∷ []) m ≡ Some d) × (d.truth ≡ false) × (d.choice.connection ≡ c))
      serve c (inl is) = inl is
      serve c (inr is) = inr (length xs, e, omega arith, get_last xs e (length xs) refl, is.0, is.1)

  -- where there is no fact about a choice, none was found
  pub free_choice : (steps : List (List Choice)) (chosen : List Choice) (xs : List Entry) (c : Choice) → IsTrail p steps chosen xs → (HasFactAbout p steps chosen c → ⊥) → truth_in xs c ≡ None
  free_choice steps chosen xs c trail none = from (truth_in xs c) refl
    where
      from : (o : Option Bool) → truth_in xs c ≡ o → truth_in xs c ≡ None
      from None e = e
      from (Some b) e = absurd (none (b, sound p steps chosen xs trail (record { choice = c; truth = b }) (truth_found xs c b e)))

  -- the level after a choice is assumed
  pub assumed_level : (steps : List (List Choice)) (chosen : List Choice) (xs : List Entry) (c : Choice) → IsWatched p steps chosen → (HasFactAbout p steps chosen c → ⊥) → IsAllowed p c → IsLevel p steps chosen xs
      → IsLevel p steps (chosen ++ c ∷ []) (xs ++ record { choice = c; truth = true; why = None } ∷ [])
  assumed_level steps chosen xs c watched none fits l = record {
    trail = trail_more steps (chosen ++ c ∷ []) xs e grounds l.trail.distinct (refl, contains_middle chosen c []) free (λ d among. assumed d (contains_back chosen c d among));
    inside = λ n d at. inside n d (get_cases xs e d n at);
    given = λ f own. given f ((assuming p steps chosen c watched none f).0 own);
  }
    where
      e : Entry
      e = record { choice = c; truth = true; why = None }

      free : truth_in xs c ≡ None
      free = free_choice steps chosen xs c l.trail none

      grounds : (n : ℕ) (d : Entry) → slice_get xs n ≡ Some d → IsGrounded p steps (chosen ++ c ∷ []) (take n xs) (fact_of d) d.why
      grounds n d at = subst (λ (s : List (List Choice)). IsGrounded p s (chosen ++ c ∷ []) (take n xs) (fact_of d) d.why) (Rattle.std.proofs.lemmas.List.append-nil steps) (ground_more steps [] chosen (chosen ++ c ∷ []) (take n xs) (fact_of d) d.why (λ x among. contains_front chosen (c ∷ []) x among) (l.trail.grounded n d at))

      assumed : (d : Choice) → Contains chosen d ⊎ (d ≡ c) → (n : ℕ) × (f : Entry) × (slice_get (xs ++ e ∷ []) n ≡ Some f) × (f.choice ≡ d) × (f.why ≡ None)
      assumed d (inl old) = let a = l.trail.assumed d old in (a.0, a.1, get_front xs (e ∷ []) a.0 a.1 a.2, a.3, a.4)
      assumed d (inr new) = (length xs, e, get_last xs e (length xs) refl, sym new, refl)

      inside : (n : ℕ) (d : Entry) → (slice_get xs n ≡ Some d) ⊎ ((n ≡ length xs) × (e ≡ d)) → IsAllowed p d.choice
      inside n d (inl old) = l.inside n d old
      inside n d (inr new) = subst (λ (x : Entry). IsAllowed p x.choice) new.1 fits

      given : (f : Fact) → Stands steps chosen f ⊎ (f ≡ taken c) → HasFound (xs ++ e ∷ []) f
      given f (inl old) = found_more xs (e ∷ []) f (l.given f old)
      given f (inr new) = subst (λ (x : Fact). HasFound (xs ++ e ∷ []) x) (sym new) (found_last xs e)

  -- the level after its next choice was taken back
  pub learned_level : (steps : List (List Choice)) (chosen : List Choice) (xs : List Entry) (c : Choice) → IsAllowed p c → IsLevel p steps chosen xs → truth_in xs c ≡ None
      → IsLevel p (steps ++ (chosen ++ c ∷ []) ∷ []) chosen (xs ++ record { choice = c; truth = false; why = Some (hint.Step (length steps)) } ∷ [])
  learned_level steps chosen xs c fits l free = record {
    trail = trail_more (steps ++ step ∷ []) chosen xs e (λ n d at. ground_more steps (step ∷ []) chosen chosen (take n xs) (fact_of d) d.why (λ x among. among) (l.trail.grounded n d at)) l.trail.distinct ground free
        (λ d among. let a = l.trail.assumed d among in (a.0, a.1, get_front xs (e ∷ []) a.0 a.1 a.2, a.3, a.4));
    inside = λ n d at. inside n d (get_cases xs e d n at);
    given = λ f own. given f ((learning steps chosen c f).0.0 own);
  }
    where
      step : List Choice
      step = chosen ++ c ∷ []

      e : Entry
      e = record { choice = c; truth = false; why = Some (hint.Step (length steps)) }

      other_parts : (g : Fact) → g.truth ≡ false → g ≢ refused c → Contains chosen g.choice ⊎ (g.choice ≡ c) → HasFound xs (opposite g)
      other_parts g is other (inl among) = subst (λ (b : Bool). HasFound xs (record { choice = g.choice; truth = not b })) (sym is) (l.given (taken g.choice) (inl (refl, among)))
      other_parts g is other (inr mine) = absurd (other (fact_from g (refused c) mine is))

      ground : IsGrounded p (steps ++ step ∷ []) chosen xs (fact_of e) e.why
      ground = (
        (omega (arith, length-append steps (step ∷ [])), tt),
        (refl, (step, get_last steps step (length steps) refl, contains_middle chosen c [])),
        λ g part other. let same = some_is step part.1.0 (sym (get_last steps step (length steps) refl) ∙ part.1.1) in
            other_parts g part.0 other (contains_back chosen c g.choice (subst (λ (s : List Choice). Contains s g.choice) (sym same) part.1.2)),
      )

      inside : (n : ℕ) (d : Entry) → (slice_get xs n ≡ Some d) ⊎ ((n ≡ length xs) × (e ≡ d)) → IsAllowed p d.choice
      inside n d (inl old) = l.inside n d old
      inside n d (inr new) = subst (λ (x : Entry). IsAllowed p x.choice) new.1 fits

      given : (f : Fact) → Stands steps chosen f ⊎ (f ≡ refused c) → HasFound (xs ++ e ∷ []) f
      given f (inl old) = found_more xs (e ∷ []) f (l.given f old)
      given f (inr new) = subst (λ (x : Fact). HasFound (xs ++ e ∷ []) x) (sym new) (found_last xs e)

  -- a lower level with the step learned above it
  pub lower_level : (steps : List (List Choice)) (chosen : List Choice) (c : Choice) (i : ℕ) (xs : List Entry) → i < length chosen → IsLevel p steps (take i chosen) xs → IsLevel p (steps ++ (chosen ++ c ∷ []) ∷ []) (take i chosen) xs
  lower_level steps chosen c i xs low l = record {
    trail = record {
      grounded = λ n d at. ground_more steps ((chosen ++ c ∷ []) ∷ []) (take i chosen) (take i chosen) (take n xs) (fact_of d) d.why (λ x among. among) (l.trail.grounded n d at);
      distinct = l.trail.distinct;
      assumed = l.trail.assumed;
    };
    inside = l.inside;
    given = λ f own. l.given f (((learning steps chosen c f).1 i low).0 own);
  }

  pub inside_more : (xs : List Entry) (e : Entry) → AreInside p xs → IsAllowed p e.choice → AreInside p (xs ++ e ∷ [])
  inside_more xs e all own n d at = from (get_cases xs e d n at)
    where
      from : (slice_get xs n ≡ Some d) ⊎ ((n ≡ length xs) × (e ≡ d)) → IsAllowed p d.choice
      from (inl old) = all n d old
      from (inr new) = subst (λ (x : Entry). IsAllowed p x.choice) new.1 own

  pub pending_at : (xs ys : List Entry) (e : Entry) (n : ℕ) → ys ≡ xs ++ e ∷ [] → n ≡ length xs → truth_in xs e.choice ≡ None → IsAllowed p e.choice → IsSettled p xs → IsPending p ys n
  pending_at xs ys e n is at free fits settled = subst (λ (zs : List Entry). IsPending p zs n) (sym is) (subst (λ (k : ℕ). IsPending p (xs ++ e ∷ []) k) (sym at) (pending_more xs e free fits settled))

  pub inside_cut : (xs : List Entry) (m : ℕ) → AreInside p xs → AreInside p (take m xs)
  inside_cut xs m all n d at = all n d (get_taken xs m n d at).1

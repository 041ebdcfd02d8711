-- The steps of a watch with their hints.
use Rattle.std.proofs.Common.{ℕ, ◌≡◌, ◌-◌, ◌*◌, ◌<◌, ◌≤◌, ◌⊎◌, Bool, List, [], ◌∷◌, ◌++◌, Option, Some, None, MatchOption, length, map, take, slice_get, Contains, refl, sym, ap, subst, ◌∙◌, inl, inr, arith}
use Rattle.std.proofs.lemmas.List.{length-append, length-map, map-append, take-map}
use Rattle.act1_base.proofs.ListGets.{get_cases, get_map, get_mapped, get_within}
use Rattle.act1_channel.specs.declared.problem.Problem.{Problem}
use Rattle.act1_channel.specs.declared.problem.Choice.{Choice}
use Rattle.act1_channel.specs.declared.problem.Hint.{Hint}
use Rattle.act1_channel.specs.declared.problem.Step.{Step}
use Rattle.act1_channel.specs.declared.trail.Entry.{Entry}
use Rattle.act1_channel.specs.Acceptance.{LeadToConflict, IsAccepted, IsAcceptedStep, choices_of}
use Rattle.act1_channel.specs.Assignment.{IsAllowed}
use Rattle.act1_channel.specs.Clauses.{taken}
use Rattle.act1_search.specs.Explaining.{AreReasons, AreShown, AreStepsAllowed, IsLogOf}
use Rattle.act1_search.specs.Search.{Descends, EndsRefuted}
use Rattle.act1_search.proofs.Showing.{accepted_step}
use Rattle.act1_channel.specs.Found.{Found, IsFor}
use Rattle.act1_search.specs.Closure.{IsInConflict}
use Rattle.act1_search.specs.Propagation.{IsContradicted}
use Rattle.act1_search.specs.Watch.{IsLogged, IsWatch}
use Rattle.act1_search.proofs.Watches.{watch_calm}
use Rattle.act1_search.specs.Trail.{IsGrounded, IsTrail}
use Rattle.act1_channel.specs.Found.{fact_of}
use Rattle.act1_search.specs.Watching.{IsWatched}
use Rattle.act1_search.specs.Watching.IsWatched.{is_new, is_assumed, is_learned}
use Rattle.act1_search.proofs.Fronts.{contains_back, contains_front, take_front, take_whole}

module _ (p : Problem) where
  -- a watch has allowed choices alone
  chosen_allowed : (steps : List (List Choice)) (chosen : List Choice) → IsWatched p steps chosen → (c : Choice) → Contains chosen c → IsAllowed p c
  chosen_allowed these those is_new c among = absurd (let low = among.1 in omega arith)
  chosen_allowed these those (is_assumed {steps} {chosen} d w calm fits none) c among = by (chosen_allowed steps chosen w) (contains_back chosen d c among)
    where
      by : ((e : Choice) → Contains chosen e → IsAllowed p e) → Contains chosen c ⊎ (c ≡ d) → IsAllowed p c
      by old (inl there) = old c there
      by old (inr same) = subst (λ (e : Choice). IsAllowed p e) (sym same) fits
  chosen_allowed these those (is_learned {steps} {chosen} d w conflict) c among = chosen_allowed steps (chosen ++ d ∷ []) w c (contains_front chosen (d ∷ []) c among)

  pub steps_allowed : (steps : List (List Choice)) (chosen : List Choice) → IsWatched p steps chosen → AreStepsAllowed p steps
  steps_allowed these those is_new n step c at among = cc
  steps_allowed these those (is_assumed {steps} {chosen} d w calm fits none) n step c at among = steps_allowed steps chosen w n step c at among
  steps_allowed these those (is_learned {steps} {chosen} d w conflict) n step c at among = by (steps_allowed steps (chosen ++ d ∷ []) w) (chosen_allowed steps (chosen ++ d ∷ []) w) (get_cases steps (chosen ++ d ∷ []) step n at)
    where
      by : AreStepsAllowed p steps → ((e : Choice) → Contains (chosen ++ d ∷ []) e → IsAllowed p e) → (slice_get steps n ≡ Some step) ⊎ ((n ≡ length steps) × (chosen ++ d ∷ [] ≡ step)) → IsAllowed p c
      by old own (inl there) = old n step c there among
      by old own (inr new) = own c (subst (λ (cs : List Choice). Contains cs c) (sym new.1) among)

  -- the reasons of its facts are clauses
  pub reasons_are : (steps : List (List Choice)) (chosen : List Choice) (found : List Entry) → IsTrail p steps chosen found → AreReasons p steps found
  reasons_are steps chosen found is n e h at why = (subst (λ (w : Option Hint). IsGrounded p steps chosen (take n found) (fact_of e) w) why (is.grounded n e at)).0.0

  -- one step more
  pub logged_more : (log : List Step) (choices : List Choice) (hints : List Hint) → AreShown p log → LeadToConflict p (choices_of log) (map taken choices) hints → AreShown p (log ++ record { choices = choices; hints = hints } ∷ [])
  logged_more log choices hints shown own n s at = by (get_cases log (record { choices = choices; hints = hints }) s n at)
    where
      last : Step
      last = record { choices = choices; hints = hints }

      by : (slice_get log n ≡ Some s) ⊎ ((n ≡ length log) × (last ≡ s)) → LeadToConflict p (choices_of (take n (log ++ last ∷ []))) (map taken s.choices) s.hints
      by (inl there) = let low = get_within log n s there in subst (λ (front : List Step). LeadToConflict p (choices_of front) (map taken s.choices) s.hints) (sym (take_front log (last ∷ []) n (omega arith))) (shown n s there)
      by (inr new) =
          let size = new.0 in
          let front : take n (log ++ last ∷ []) ≡ log = take_front log (last ∷ []) n (omega arith) ∙ take_whole log n (omega arith) in
          subst (λ (t : Step). LeadToConflict p (choices_of (take n (log ++ last ∷ []))) (map taken t.choices) t.hints) new.1
          (subst (λ (xs : List Step). LeadToConflict p (choices_of xs) (map taken choices) hints) (sym front) own)

pub choices_more : (log : List Step) (s : Step) → choices_of (log ++ s ∷ []) ≡ choices_of log ++ s.choices ∷ []
choices_more log s = map-append (λ (t : Step). t.choices) log (s ∷ [])

-- the log of a search that ends without choices is accepted
pub accepted_log : (p : Problem) (log : List Step) → EndsRefuted p (choices_of log) → AreShown p log → IsAccepted p log
accepted_log p log ends shown = record { each = each; last = (last.0, last.1, last.2) }
  where
    last : (s : Step) × (slice_get log (length log - 1) ≡ Some s) × (s.choices ≡ [])
    last = get_mapped (λ (s : Step). s.choices) log (length log - 1) [] (subst (λ (n : ℕ). slice_get (choices_of log) (n - 1) ≡ Some []) (length-map log (λ (s : Step). s.choices)) ends.1)

    each : (n : ℕ) (s : Step) → slice_get log n ≡ Some s → IsAcceptedStep p (choices_of (take n log)) s
    each n s at =
        let own = ends.0.each n s.choices (get_map (λ (t : Step). t.choices) log n s at) in
        accepted_step p (choices_of (take n log)) s.choices s.hints (subst (λ (steps : List (List Choice)). Descends p steps s.choices) (take-map (λ (t : Step). t.choices) n log) own.0) (shown n s at)

-- the room of the marks is that of the facts
pub logged_over : (p : Problem) (log : List Step) (old new : Found) (wanted : List Bool) → IsFor p old → IsFor p new → IsLogged p log old.places wanted → IsLogged p log new.places wanted
logged_over p log old new wanted before after is = record { shown = is.shown; few = is.few; marks = is.marks ∙ before.1 ∙ sym after.1 }

pub logged_new : (p : Problem) (log : List Step) (new : Found) (wanted : List Bool) (n t : ℕ) → log ≡ [] → IsFor p new → n ≡ length p.connections → t ≡ length p.tracks → length wanted ≡ n * t → IsLogged p log new.places wanted
logged_new p log new wanted n t none after are_n are_t long = record {
  shown = λ k s at. absurd (nothing k s (subst (λ (l : List Step). slice_get l k ≡ Some s) none at));
  few = let size = ap (λ (l : List Step). length l) none in omega arith;
  marks = long ∙ ap (λ (k : ℕ). k * t) are_n ∙ ap (λ (k : ℕ). length p.connections * k) are_t ∙ sym after.1;
}
  where
    nothing : (k : ℕ) (s : Step) → slice_get [] k ≡ Some s → ⊥
    nothing k s e = cc

-- where there is a conflict a clause is contradicted
pub clause_is : (p : Problem) (steps : List (List Choice)) (chosen : List Choice) (found : Found) (marks : List ℕ) (broken : Option Hint) → IsWatch p steps chosen found marks broken → IsInConflict p steps chosen → MatchOption broken ⊥ (IsContradicted p found.entries)
clause_is p steps chosen found marks None w conflict = watch_calm p steps chosen found marks w conflict
clause_is p steps chosen found marks (Some clause) w conflict = w.answer

-- the whole log
pub log_whole : (p : Problem) (log after : List Step) (hints : List Hint) (chosen : List Choice) → after ≡ log ++ record { choices = []; hints = hints } ∷ [] → chosen ≡ [] → AreShown p log → length log ≤ 4294967294
    → LeadToConflict p (choices_of log) (map taken chosen) hints → IsLogOf p (choices_of log) after
log_whole p log after hints chosen grown none shown few own = record {
  choices = ap (λ (l : List Step). choices_of l) grown ∙ choices_more log (record { choices = []; hints = hints });
  shown = subst (λ (l : List Step). AreShown p l) (sym grown) (logged_more p log [] hints shown (subst (λ (cs : List Choice). LeadToConflict p (choices_of log) (map taken cs) hints) none own));
  few = let size = ap (λ (l : List Step). length l) grown ∙ length-append log (record { choices = []; hints = hints } ∷ []) in omega arith;
}

pub none_of : (xs : List Choice) → length xs ≡ 0 → xs ≡ []
none_of [] e = refl
none_of (x ∷ xs) e = absurd (omega arith)

-- a step more
pub logged_step : (p : Problem) (log after : List Step) (chosen : List Choice) (hints : List Hint) (old new : Found) (wanted left : List Bool) → after ≡ log ++ record { choices = chosen; hints = hints } ∷ [] → length log < 4294967294
    → LeadToConflict p (choices_of log) (map taken chosen) hints → length left ≡ length wanted → IsFor p old → IsFor p new → IsLogged p log old.places wanted → IsLogged p after new.places left
logged_step p log after chosen hints old new wanted left grown few own room before later is = record {
  shown = subst (λ (l : List Step). AreShown p l) (sym grown) (logged_more p log chosen hints is.shown own);
  few = let size = ap (λ (l : List Step). length l) grown ∙ length-append log (record { choices = chosen; hints = hints } ∷ []) in omega arith;
  marks = room ∙ is.marks ∙ before.1 ∙ sym later.1;
}

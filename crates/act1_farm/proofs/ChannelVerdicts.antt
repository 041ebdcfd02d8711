-- The verdicts, one channel on.
use Rattle.std.proofs.Common.{ℕ, suc, zero, ◌≡◌, ◌<◌, ◌+◌, ◌⊎◌, inl, inr, Bool, true, false, List, [], ◌∷◌, ◌++◌, length, take, Option, Some, refl, sym, ap, subst, ◌∙◌, arith, add-one}
use Rattle.std.specs.Prelude.{slice_get}
use Rattle.std.proofs.lemmas.List.{length-append}
use Rattle.std.proofs.lemmas.Bool.{true≢false}
use Rattle.act1_base.proofs.ListGets.{get_last, get_cases, get_in, some_is}
use Rattle.act1_channel.specs.declared.problem.Problem.{Problem}
use Rattle.act1_search.specs.declared.verdict.Verdict.{Verdict}
use Rattle.act1_farm.specs.Usable.{Decides}
use Rattle.act1_farm.specs.Story.{has_connections, asked_for}
use Rattle.act1_search.specs.declared.verdict.Verdict.TheVariants as verdict
use Rattle.act1_search.specs.declared.verdict.SearchStop.{SearchStop}
use Rattle.act1_search.specs.declared.verdict.SearchStop.TheVariants as search
use Rattle.act1_farm.specs.declared.outcome.Tally.{Tally}
use Rattle.act1_farm.specs.Verdicts.{IsAssigned, IsRefuted, AreVerdicts}
use Rattle.act1_farm.specs.Deciding.{AreDecided, IsDecided, IsFrom, IsStopFor, StopsAt, own_found, place_of, stop_at}

-- a problem with connections has its place among those that are asked for
pub place_at : (problems : List Problem) (c : ℕ) (p : Problem) → slice_get problems c ≡ Some p → has_connections p ≡ true → slice_get (asked_for problems) (length (asked_for (take c problems))) ≡ Some p
place_at [] c p h has = cc
place_at (q ∷ problems) zero p h has =
    let is : q ≡ p = some_is q p h in
    let holds : has_connections q ≡ true = subst (λ (x : Problem). has_connections x ≡ true) (sym is) has in
    rw holds h
place_at (q ∷ problems) (suc c) p h has = by (place_at problems c p h has) (has_connections q) refl
  where
    by : slice_get (asked_for problems) (length (asked_for (take c problems))) ≡ Some p → (b : Bool) → has_connections q ≡ b → slice_get (asked_for (q ∷ problems)) (length (asked_for (take (suc c) (q ∷ problems)))) ≡ Some p
    by k true e = rw e k
    by k false e = rw e k

-- the places after one problem more
pub places_more : (problems : List Problem) (c : ℕ) (p : Problem) (n : ℕ) → slice_get problems c ≡ Some p → (has_connections p ≡ true → n ≡ 1) → (has_connections p ≡ false → n ≡ 0)
    → length (asked_for (take (suc c) problems)) ≡ length (asked_for (take c problems)) + n
places_more [] c p n h one none = cc
places_more (q ∷ problems) zero p n h one none = by (has_connections q) refl
  where
    is : q ≡ p
    is = some_is q p h

    by : (b : Bool) → has_connections q ≡ b → length (asked_for (take 1 (q ∷ problems))) ≡ 0 + n
    by true e = let i = one (subst (λ (x : Problem). has_connections x ≡ true) is e) in rw e (omega arith)
    by false e = let i = none (subst (λ (x : Problem). has_connections x ≡ false) is e) in rw e (omega arith)
places_more (q ∷ problems) (suc c) p n h one none = by (places_more problems c p n h one none) (has_connections q) refl
  where
    by : length (asked_for (take (suc c) problems)) ≡ length (asked_for (take c problems)) + n → (b : Bool) → has_connections q ≡ b
        → length (asked_for (take (suc (suc c)) (q ∷ problems))) ≡ length (asked_for (take (suc c) (q ∷ problems))) + n
    by k true e = rw e (omega arith)
    by k false e = rw e k

-- no verdict is both
never_both : (v : Verdict) → IsAssigned v → IsRefuted v → ⊥
never_both (verdict.Assigned tracks) a r = r
never_both (verdict.Refuted log) a r = a

module _ (problems : List Problem) (budget : ℕ) (found : List (Option Verdict)) (c number : ℕ) (verdicts : List Verdict) (d : AreDecided problems budget found c number verdicts)
    (p : Problem) (there : slice_get problems c ≡ Some p) where
  -- a search that stops here
  pub stops_here : (tally : Tally) (why : SearchStop) → IsStopFor p budget (own_found p found number) why → StopsAt problems budget found tally (stop_at c tally why)
  stops_here tally (search.Spent conflicts) h = (
    refl,
    record {
      p = p;
      there = there;
      none = ap (λ (n : ℕ). own_found p found n) (sym d.number) ∙ h.0;
      answer = h.1;
      before = λ k low. let at = get_in verdicts k (subst (λ (n : ℕ). k < n) (sym d.long) low) in (at.0, d.each k at.0 at.1, d.fit k at.0 at.1);
    },
  )
  stops_here tally search.Memory h = tt

  module _ (v : Verdict) (from : IsFrom p budget (own_found p found number) v) (decides : Decides p v) where
    decided : IsDecided problems budget found c v
    decided = record { p = p; there = there; from = subst (λ (n : ℕ). IsFrom p budget (own_found p found n) v) d.number from; decides = decides }

    all_decided : (k : ℕ) (w : Verdict) → slice_get (verdicts ++ v ∷ []) k ≡ Some w → IsDecided problems budget found k w
    all_decided k w h = by (get_cases verdicts v w k h)
      where
        by : (slice_get verdicts k ≡ Some w) ⊎ ((k ≡ length verdicts) × (v ≡ w)) → IsDecided problems budget found k w
        by (inl a) = d.each k w a
        by (inr a) = subst (λ (n : ℕ). IsDecided problems budget found n w) (sym (a.0 ∙ d.long)) (subst (λ (x : Verdict). IsDecided problems budget found c x) a.1 decided)

    -- an assignment goes on
    pub decided_more : (next : ℕ) → (has_connections p ≡ true → next ≡ number + 1) → (has_connections p ≡ false → next ≡ number) → IsAssigned v → AreDecided problems budget found (c + 1) next (verdicts ++ v ∷ [])
    decided_more next one none fits = record {
      number = by (has_connections p) refl;
      long = length-append verdicts (v ∷ []) ∙ (let l = d.long in omega arith);
      each = all_decided;
      fit = λ k w h. all_fit k w (get_cases verdicts v w k h);
    }
      where
        by : (b : Bool) → has_connections p ≡ b → next ≡ place_of problems (c + 1)
        by true e =
            let more = places_more problems c p 1 there (λ t. refl) (λ f. absurd (true≢false (sym e ∙ f))) in
            let n = one e in
            let m = d.number in
            rw add-one (omega arith)
        by false e =
            let more = places_more problems c p 0 there (λ t. absurd (true≢false (sym t ∙ e))) (λ f. refl) in
            let n = none e in
            let m = d.number in
            rw add-one (omega arith)

        all_fit : (k : ℕ) (w : Verdict) → (slice_get verdicts k ≡ Some w) ⊎ ((k ≡ length verdicts) × (v ≡ w)) → IsAssigned w
        all_fit k w (inl a) = d.fit k w a
        all_fit k w (inr a) = subst IsAssigned a.1 fits

    -- a refutation ends
    pub refuted_last : IsRefuted v → AreVerdicts problems (IsDecided problems budget found) (verdicts ++ v ∷ [])
    refuted_last refuted = record {
      each = all_decided;
      last = λ k w h r. at_last k w (get_cases verdicts v w k h) r;
      all = inr (length verdicts, v, get_last verdicts v (length verdicts) refl, refuted);
    }
      where
        at_last : (k : ℕ) (w : Verdict) → (slice_get verdicts k ≡ Some w) ⊎ ((k ≡ length verdicts) × (v ≡ w)) → IsRefuted w → k + 1 ≡ length (verdicts ++ v ∷ [])
        at_last k w (inl a) r = absurd (never_both w (d.fit k w a) r)
        at_last k w (inr a) r = let l = length-append verdicts (v ∷ []) in let e = a.0 in omega arith

-- all decided
pub decided_all : (problems : List Problem) (budget : ℕ) (found : List (Option Verdict)) (c number : ℕ) (verdicts : List Verdict) → AreDecided problems budget found c number verdicts → c ≡ length problems
    → AreVerdicts problems (IsDecided problems budget found) verdicts
decided_all problems budget found c number verdicts d is = record { each = d.each; last = λ k w h r. absurd (never_both w (d.fit k w h) r); all = inl (d.long ∙ is) }

pub decided_none : (problems : List Problem) (budget : ℕ) (found : List (Option Verdict)) → AreDecided problems budget found 0 0 []
decided_none problems budget found = record { number = none problems; long = refl; each = λ k w h. cc; fit = λ k w h. cc }
  where
    none : (ps : List Problem) → 0 ≡ place_of ps 0
    none [] = refl
    none (q ∷ ps) = refl

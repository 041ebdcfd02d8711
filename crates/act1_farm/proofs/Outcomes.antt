-- What was decided by what was found, as verdicts after a story.
use Rattle.std.proofs.Common.{ℕ, suc, ◌≡◌, ◌<◌, ◌+◌, ◌⊎◌, inl, inr, Bool, true, false, List, [], ◌∷◌, length, Option, Some, None, Ok, cond, refl, sym, ap, subst, ◌∙◌, arith}
use Rattle.std.specs.Prelude.{slice_get, count_by, is_some}
use Rattle.std.proofs.lemmas.List.{append-nil, length-map}
use Rattle.std.proofs.lemmas.List.Sums.{sum_by-cons}
use Rattle.std.proofs.lemmas.Option.{slice_get-get_or}
use Rattle.act1_base.proofs.ListGets.{get_in, get_within, some_is}
use Rattle.act1_outside.specs.Outside.{Bench}
use Rattle.act1_outside.specs.declared.helpers.Entry.{Entry}
use Rattle.act1_channel.specs.declared.problem.Problem.{Problem}
use Rattle.act1_channel.proofs.Refutes.{refutes}
use Rattle.act1_search.specs.declared.verdict.Verdict.{Verdict}
use Rattle.act1_search.specs.declared.verdict.Verdict.TheVariants as verdict
use Rattle.act1_search.specs.Answers.{IsAnswer}
use Rattle.act1_farm.specs.declared.course.Course.{Course}
use Rattle.act1_farm.specs.declared.outcome.FarmStop.{FarmStop}
use Rattle.act1_farm.specs.declared.outcome.FarmStop.TheVariants as stop
use Rattle.act1_farm.specs.declared.outcome.Tally.{Tally}
use Rattle.act1_farm.specs.Usable.{Brings, Decides}
use Rattle.act1_farm.specs.Story.{IsAnswered, IsStory, HasUsable, asked_for, asks, has_connections, is_fault, job_bytes, jobs_of}
use Rattle.act1_farm.specs.Jobs.{BeganStory}
use Rattle.act1_farm.specs.Course.{AreFound, IsFound}
use Rattle.act1_farm.specs.Helping.{Helped, tally_of}
use Rattle.act1_farm.specs.Verdicts.{AreExact, AreVerdicts, HasAssignment, IsBrought, IsCounted, IsExact, IsRefuted, IsSpent, IsVerdict, NoneCame, Stops, WereAsked}
use Rattle.act1_farm.specs.Deciding.{IsDecided, IsFrom, IsUndecided, StopsAt, own_found, place_of}
use Rattle.act1_farm.proofs.ChannelVerdicts.{place_at}
use Rattle.act1_farm.proofs.DecideLoop.{chosen_true, chosen_false, found_at, no_found}
use Rattle.act1_farm.proofs.WholeCourses.{none_answered}

module _ (problems : List Problem) (budget : ℕ) (s : List Entry) (found : List (Option Verdict)) (are : AreFound (asked_for problems) s found) where
  own_brought : (c : ℕ) (p : Problem) (v : Verdict) → slice_get problems c ≡ Some p → own_found p found (place_of problems c) ≡ Some v → IsBrought problems s c p v
  own_brought c p v there h = by (has_connections p) refl
    where
      by : (b : Bool) → has_connections p ≡ b → IsBrought problems s c p v
      by false e = absurd (no_found v (sym (chosen_false p found (place_of problems c) e) ∙ h))
      by true e = out (are.kept (place_of problems c) (Some v) (found_at found (place_of problems c) v (sym (chosen_true p found (place_of problems c) e) ∙ h)))
        where
          out : IsFound (asked_for problems) s (place_of problems c) (Some v) → IsBrought problems s c p v
          out (q, bytes, at, answer, brings) = record {
            i = place_of problems c;
            bytes = bytes;
            channel = record { there = there; asked = e; place = refl };
            answered = answer;
            brings = subst (λ (x : Problem). Brings x bytes v) (some_is q p (sym at ∙ place_at problems c p there e)) brings;
          }

  own_none : (c : ℕ) (p : Problem) → slice_get problems c ≡ Some p → own_found p found (place_of problems c) ≡ None → NoneCame problems s c p
  own_none c p there h = λ v b. silent v b (are.kept (place_of problems c) None (none_at b.channel.asked))
    where
      none_at : has_connections p ≡ true → slice_get found (place_of problems c) ≡ Some None
      none_at e =
          let low = get_within (asked_for problems) (place_of problems c) p (place_at problems c p there e) in
          let each = are.each in
          slice_get-get_or found (place_of problems c) None (omega arith) ∙ ap (λ (o : Option Verdict). let r : Option (Option Verdict) = Some o in r) (sym (chosen_true p found (place_of problems c) e) ∙ h)

      silent : (v : Verdict) → IsBrought problems s c p v → (HasUsable (asked_for problems) s (place_of problems c) → ⊥) → ⊥
      silent v b none = none (p, b.bytes, place_at problems c p there b.channel.asked, subst (λ (i : ℕ). IsAnswered s i b.bytes) (sym b.channel.place) b.answered, (v, b.brings))

  -- THE LIFT of a verdict
  verdict_is : (c : ℕ) (v : Verdict) → IsDecided problems budget found c v → IsVerdict problems budget s c v
  verdict_is c v d = record { p = d.p; there = d.there; from = by (own_found d.p found (place_of problems c)) refl; decides = d.decides }
    where
      by : (o : Option Verdict) → own_found d.p found (place_of problems c) ≡ o → IsBrought problems s c d.p v ⊎ (NoneCame problems s c d.p × IsAnswer d.p budget (Ok v))
      by None e = inr (own_none c d.p d.there e, subst (λ (o : Option Verdict). IsFrom d.p budget o v) e d.from)
      by (Some w) e =
          let same : v ≡ w = subst (λ (o : Option Verdict). IsFrom d.p budget o v) e d.from in
          inl (own_brought c d.p v d.there (e ∙ ap (λ (x : Verdict). let o : Option Verdict = Some x in o) (sym same)))

  pub verdicts_are : (verdicts : List Verdict) → AreVerdicts problems (IsDecided problems budget found) verdicts → AreVerdicts problems (IsVerdict problems budget s) verdicts
  verdicts_are verdicts a = record { each = λ c v h. verdict_is c v (a.each c v h); last = a.last; all = a.all }

  pub spent_is : (c conflicts : ℕ) → IsUndecided problems budget found c conflicts → IsSpent problems budget s c conflicts
  spent_is c conflicts u = record {
    p = u.p;
    there = u.there;
    none = own_none c u.p u.there u.none;
    answer = u.answer;
    before = λ k low. let b = u.before k low in (b.0, verdict_is k b.0 b.1, b.2);
  }

-- THE LIFT of a stop
pub stops_are : (program : List ℕ) (problems : List Problem) (budget most : ℕ) (before after : Bench) (course : Course) → Helped program problems budget most before after course
    → (why : FarmStop) → StopsAt problems budget course.answers (tally_of course) why → (0 < most → BeganStory program (jobs_of budget (asked_for problems)) most before after) → Stops program problems budget most before after why
stops_are program problems budget most before after course h (stop.Spent channel conflicts tally) at began =
    (h.s, subst (λ (t : Tally). WereAsked program problems budget most before after h.s t) (sym at.0) h.asked, spent_is problems budget h.s course.answers h.found channel conflicts at.1)
stops_are program problems budget most before after course h stop.Memory at began = began

-- after the asking a whole story was told
pub whole_began : (program : List ℕ) (problems : List Problem) (budget most : ℕ) (before after : Bench) (course : Course) → Helped program problems budget most before after course
    → 0 < most → BeganStory program (jobs_of budget (asked_for problems)) most before after
whole_began program problems budget most before after course h some = record { s = h.s; rest = []; story = subst (λ (s : List Entry). IsStory program (jobs_of budget (asked_for problems)) most s) (sym (append-nil h.s)) (h.asked.story some); told = h.asked.told }

-- a verdict that decides is exact
is_exact : (p : Problem) (v : Verdict) → Decides p v → IsExact p v
is_exact p (verdict.Assigned tracks) d = record { assigned = (λ a. (tracks, d), λ h. tt); refuted = (λ r. absurd r, λ none. none (tracks, d)) }
is_exact p (verdict.Refuted log) d = record { assigned = (λ a. absurd a, λ h. refutes p log.steps d h.0 h.1); refuted = (λ r h. refutes p log.steps d h.0 h.1, λ none. tt) }

pub are_exact : (problems : List Problem) (budget : ℕ) (s : List Entry) (verdicts : List Verdict) → AreVerdicts problems (IsVerdict problems budget s) verdicts → AreExact problems verdicts
are_exact problems budget s verdicts a = record { each = each; ends = (forth, λ h. back h.0 h.1 h.2 h.3 a.all) }
  where
    each : (c : ℕ) (p : Problem) (v : Verdict) → slice_get problems c ≡ Some p → slice_get verdicts c ≡ Some v → IsExact p v
    each c p v there is = let k = a.each c v is in is_exact p v (subst (λ (q : Problem). Decides q v) (some_is k.p p (sym k.there ∙ there)) k.decides)

    forth : ((c : ℕ) × (v : Verdict) × (slice_get verdicts c ≡ Some v) × IsRefuted v) → (c : ℕ) × (p : Problem) × (slice_get problems c ≡ Some p) × (HasAssignment p → ⊥)
    forth (c, v, is, refuted) = let k = a.each c v is in (c, k.p, k.there, (each c k.p v k.there is).refuted.0 refuted)

    back : (c : ℕ) (p : Problem) → slice_get problems c ≡ Some p → (HasAssignment p → ⊥) → (length verdicts ≡ length problems) ⊎ ((d : ℕ) × (v : Verdict) × (slice_get verdicts d ≡ Some v) × IsRefuted v)
        → (d : ℕ) × (v : Verdict) × (slice_get verdicts d ≡ Some v) × IsRefuted v
    back c p there none (inr e) = e
    back c p there none (inl long) =
        let low = get_within problems c p there in
        let at = get_in verdicts c (omega arith) in
        (c, at.0, at.1, (each c p at.0 there at.1).refuted.1 none)

-- of nothing that was answered nothing is found
none_counted : (found : List (Option Verdict)) → ((i : ℕ) (v : Verdict) → slice_get found i ≡ Some (Some v) → ⊥) → count_by is_some found ≡ 0
none_counted [] h = refl
none_counted (None ∷ found) h = sum_by-cons (λ (o : Option Verdict). cond (is_some o) 1 0) None found ∙ ap (λ (n : ℕ). 0 + n) (none_counted found (λ i v e. h (suc i) v e))
none_counted (Some v ∷ found) h = absurd (h 0 v refl)

pub are_counted : (program : List ℕ) (problems : List Problem) (budget most : ℕ) (before after : Bench) (s : List Entry) (tally : Tally) → WereAsked program problems budget most before after s tally → IsCounted problems most tally
are_counted program problems budget most before after s tally w = (
  λ some. w.asked ∙ (w.story some).all ∙ length-map (asked_for problems) (job_bytes budget),
  λ z. (w.asked ∙ ap (λ (l : List Entry). length (asks l)) (w.none z), w.taken ∙ none_counted w.found (silent z), w.faults ∙ ap (λ (l : List Entry). count_by is_fault l) (w.none z)),
)
  where
    out : (i : ℕ) (v : Verdict) → IsFound (asked_for problems) [] i (Some v) → ⊥
    out i v (q, bytes, at, answer, brings) = none_answered i bytes answer

    silent : most ≡ 0 → (i : ℕ) (v : Verdict) → slice_get w.found i ≡ Some (Some v) → ⊥
    silent z i v e = out i v (subst (λ (l : List Entry). IsFound (asked_for problems) l i (Some v)) (w.none z) (w.are_found.kept i (Some v) e))

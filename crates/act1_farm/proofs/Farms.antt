-- What lists of events do to jobs.
use Rattle.std.proofs.Common.{ℕ, suc, zero, ◌≡◌, ◌≢◌, ◌<◌, ◌⊎◌, inl, inr, true, false, List, [], ◌∷◌, length, Option, Some, None, refl, sym, ap, subst, ◌∙◌, arith}
use Rattle.std.specs.Prelude.{Contains, slice_get, slice_set}
use Rattle.std.proofs.lemmas.Bool.{cases_eq}
use Rattle.act1_base.proofs.ListGets.{get_written, get_unwritten, get_within, some_is}
use Rattle.act1_farm.specs.declared.event.JobState.{JobState}
use Rattle.act1_farm.specs.declared.event.JobState.TheVariants as state
use Rattle.act1_farm.specs.declared.event.Event.{Event}
use Rattle.act1_farm.specs.declared.event.Event.TheVariants as event
use Rattle.act1_farm.specs.Farm.{job_number, state_after, states_after, after_all, IsDone}
use Rattle.act1_farm.specs.Farm.{next_of, with_state}

pub length_written : {X : Type 0} (xs : List X) (i : ℕ) (x : X) → length (slice_set xs i x) ≡ length xs
length_written [] i x = refl
length_written (y ∷ xs) zero x = refl
length_written (y ∷ xs) (suc i) x = ap suc (length_written xs i x)

pub one_length : (states : List JobState) (c : ℕ) (o : Option JobState) → length (with_state states c o) ≡ length states
one_length states c None = refl
one_length states c (Some s) = length_written states c s

pub all_length : (states : List JobState) (events : List Event) → length (after_all states events) ≡ length states
all_length states [] = refl
all_length states (e ∷ events) = all_length (states_after states e) events ∙ one_length states (job_number e) (next_of e (slice_get states (job_number e)))

none_after : (e : Event) (s : JobState) → IsDone s → state_after e s ≡ None
none_after (event.Started c) s (inl i) = ap (λ (x : JobState). state_after (event.Started c) x) i
none_after (event.Started c) s (inr i) = ap (λ (x : JobState). state_after (event.Started c) x) i
none_after (event.Answered c u) s (inl i) = ap (λ (x : JobState). state_after (event.Answered c u) x) i
none_after (event.Answered c u) s (inr i) = ap (λ (x : JobState). state_after (event.Answered c u) x) i
none_after (event.Failed c) s (inl i) = ap (λ (x : JobState). state_after (event.Failed c) x) i
none_after (event.Failed c) s (inr i) = ap (λ (x : JobState). state_after (event.Failed c) x) i

others : (states : List JobState) (c d : ℕ) (o : Option JobState) → c ≢ d → slice_get (with_state states d o) c ≡ slice_get states c
others states c d None apart = refl
others states c d (Some s) apart = get_unwritten states d c s apart

-- an event leaves a state as it was, or is of that job and fits it
pub one_step : (states : List JobState) (e : Event) (c : ℕ) (before : JobState) → slice_get states c ≡ Some before
    → (s : JobState) × (slice_get (states_after states e) c ≡ Some s) × ((s ≡ before) ⊎ ((job_number e ≡ c) × (state_after e before ≡ Some s)))
one_step states e c before h = by (cases_eq c (job_number e))
  where
    at : (d : ℕ) (o : Option JobState) → c ≡ d → (next : Option JobState) → next ≡ state_after e before
        → (s : JobState) × (slice_get (with_state states d next) c ≡ Some s) × ((s ≡ before) ⊎ (state_after e before ≡ Some s))
    at d o same None is = (before, h, inl refl)
    at d o same (Some s) is = (s, ap (λ (n : ℕ). slice_get (slice_set states d s) n) same ∙ get_written states d s (subst (λ (n : ℕ). n < length states) same (get_within states c before h)), inr (sym is))

    by : (c ≡ job_number e) ⊎ (c ≢ job_number e) → (s : JobState) × (slice_get (states_after states e) c ≡ Some s) × ((s ≡ before) ⊎ ((job_number e ≡ c) × (state_after e before ≡ Some s)))
    by (inr apart) = (before, others states c (job_number e) (next_of e (slice_get states (job_number e))) apart ∙ h, inl refl)
    by (inl same) = out (at (job_number e) None same (next_of e (slice_get states (job_number e))) (ap (λ (o : Option JobState). next_of e o) (ap (λ (n : ℕ). slice_get states n) (sym same) ∙ h)))
      where
        out : (s : JobState) × (slice_get (states_after states e) c ≡ Some s) × ((s ≡ before) ⊎ (state_after e before ≡ Some s)) → (s : JobState) × (slice_get (states_after states e) c ≡ Some s) × ((s ≡ before) ⊎ ((job_number e ≡ c) × (state_after e before ≡ Some s)))
        out (s, there, inl i) = (s, there, inl i)
        out (s, there, inr i) = (s, there, inr (sym same, i))

pub done_one : (states : List JobState) (e : Event) (c : ℕ) (s : JobState) → slice_get states c ≡ Some s → IsDone s → slice_get (states_after states e) c ≡ Some s
done_one states e c s h d = by (one_step states e c s h)
  where
    by : (r : JobState) × (slice_get (states_after states e) c ≡ Some r) × ((r ≡ s) ⊎ ((job_number e ≡ c) × (state_after e s ≡ Some r))) → slice_get (states_after states e) c ≡ Some s
    by (r, there, inl i) = there ∙ ap (λ (x : JobState). let o : Option JobState = Some x in o) i
    by (r, there, inr i) = let none = none_after e s d in let some = i.1 in cc

pub done_stays : (states : List JobState) (events : List Event) (c : ℕ) (s : JobState) → slice_get states c ≡ Some s → IsDone s → slice_get (after_all states events) c ≡ Some s
done_stays states [] c s h d = h
done_stays states (e ∷ events) c s h d = done_stays (states_after states e) events c s (done_one states e c s h d) d

by_usable : (e : Event) (before : JobState) (c : ℕ) → job_number e ≡ c → state_after e before ≡ Some state.Taken → e ≡ event.Answered c true
by_usable (event.Started d) state.Waiting c i h = cc
by_usable (event.Started d) state.Running c i h = cc
by_usable (event.Started d) state.Taken c i h = cc
by_usable (event.Started d) state.Own c i h = cc
by_usable (event.Failed d) state.Waiting c i h = cc
by_usable (event.Failed d) state.Running c i h = cc
by_usable (event.Failed d) state.Taken c i h = cc
by_usable (event.Failed d) state.Own c i h = cc
by_usable (event.Answered d u) state.Waiting c i h = cc
by_usable (event.Answered d true) state.Running c i h = ap (λ (n : ℕ). event.Answered n true) i
by_usable (event.Answered d false) state.Running c i h = cc
by_usable (event.Answered d u) state.Taken c i h = cc
by_usable (event.Answered d u) state.Own c i h = cc

is_taken : (s : JobState) → (s ≡ state.Taken) ⊎ (s ≡ state.Taken → ⊥)
is_taken state.Waiting = inr (λ e. cc)
is_taken state.Running = inr (λ e. cc)
is_taken state.Taken = inl refl
is_taken state.Own = inr (λ e. cc)

pub taken_by : (states : List JobState) (events : List Event) (c : ℕ) (before : JobState) → slice_get states c ≡ Some before → (before ≡ state.Taken → ⊥)
    → slice_get (after_all states events) c ≡ Some state.Taken → Contains events (event.Answered c true)
taken_by states [] c before h fresh t = absurd (fresh (some_is before state.Taken (sym h ∙ t)))
taken_by states (e ∷ events) c before h fresh t = by (λ s h f. taken_by (states_after states e) events c s h f t) (one_step states e c before h)
  where
    behind : Contains events (event.Answered c true) → Contains (e ∷ events) (event.Answered c true)
    behind (k, low, is) = (suc k, omega (arith, low), is)

    by : ((s : JobState) → slice_get (states_after states e) c ≡ Some s → (s ≡ state.Taken → ⊥) → Contains events (event.Answered c true))
        → (s : JobState) × (slice_get (states_after states e) c ≡ Some s) × ((s ≡ before) ⊎ ((job_number e ≡ c) × (state_after e before ≡ Some s))) → Contains (e ∷ events) (event.Answered c true)
    by on (s, there, inl i) = behind (on s there (λ k. fresh (sym i ∙ k)))
    by on (s, there, inr i) = after (is_taken s)
      where
        after : (s ≡ state.Taken) ⊎ (s ≡ state.Taken → ⊥) → Contains (e ∷ events) (event.Answered c true)
        after (inl k) = (0, omega arith, by_usable e before c i.0 (i.1 ∙ ap (λ (x : JobState). let o : Option JobState = Some x in o) k))
        after (inr k) = behind (on s there k)

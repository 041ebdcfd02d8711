-- The law of the events of a story.
use Rattle.std.proofs.Common.{ℕ, suc, zero, ◌≡◌, ◌<◌, inl, inr, Bool, true, false, if◌then◌else◌, List, [], ◌∷◌, ◌++◌, length, replicate, Option, Some, None, refl, sym, subst, ◌∙◌, arith}
use Rattle.std.specs.Prelude.{Contains, slice_get}
use Rattle.std.proofs.lemmas.List.{append_assoc, append-nil, length-map}
use Rattle.act1_base.proofs.ListGets.{contains_at, get_in, get_within}
use Rattle.act1_channel.specs.declared.problem.Problem.{Problem}
use Rattle.act1_outside.specs.declared.helpers.Entry.{Entry}
use Rattle.act1_outside.specs.declared.helpers.Entry.TheVariants as entry
use Rattle.act1_farm.specs.declared.event.Event.{Event}
use Rattle.act1_farm.specs.declared.event.Event.TheVariants as event
use Rattle.act1_farm.specs.declared.event.JobState.{JobState}
use Rattle.act1_farm.specs.declared.event.JobState.TheVariants as state
use Rattle.act1_farm.specs.Story.{AreInOrder, Asks, Ends, HaveOwnTickets, MayFollow, Story, asked_for, asks, job_bytes, may_ask, unfinished}
use Rattle.act1_farm.specs.Events.{AreEvents, IsChannelOf, IsEvent}
use Rattle.act1_farm.specs.Farm.{AreAccepted, Fits, IsDone, after_all, states_after}
use Rattle.act1_farm.specs.Laws.{StoriesAreAccepted}
use Rattle.act1_farm.specs.StorySteps.{IsOver, Stand}
use Rattle.act1_farm.proofs.ChannelVerdicts.{place_at}
use Rattle.act1_farm.proofs.Entries.{asks_more, unfinished_more}
use Rattle.act1_farm.proofs.Stories.{finished_stand, next, own_front, refused_stand, started_stand}
use Rattle.act1_farm.proofs.WholeCourses.{nothing_in}

module _ (program : List ℕ) (jobs : List (List ℕ)) (most : ℕ) (problems : List Problem) where
  -- an entry that ends a ticket ends the oldest
  oldest : (before : List Entry) (e : Entry) (t : ℕ) → ((job : List ℕ) → Asks program job e → ⊥) → ((ticket : ℕ) → Ends ticket e → t ≡ ticket) → MayFollow program jobs most before e → Contains (unfinished before) t
  oldest before e t none ends m = by (may_ask jobs most before) refl
    where
      by : (b : Bool) → may_ask jobs most before ≡ b → Contains (unfinished before) t
      by true goes = let a = m.asking goes in absurd (none a.0 a.2)
      by false stop = let f = m.finishing stop in subst (λ (u : ℕ). Contains (unfinished before) u) (sym (ends f.0 f.2)) (contains_at (unfinished before) 0 f.0 f.1)

  is_done : (usable : Bool) → IsDone (if usable then state.Taken else state.Own)
  is_done true = inl refl
  is_done false = inr refl

  -- an entry is an event that fits
  one_entry : (before : List Entry) (e : Entry) (v : Event) (states : List JobState) → HaveOwnTickets (before ++ e ∷ []) → MayFollow program jobs most before e → IsEvent problems before e v
      → Stand problems before states → ((after : JobState) × Fits states v after) × Stand problems (before ++ e ∷ []) (states_after states v)
  one_entry before (entry.Started prog job t) (event.Started d) states own m (i, c, p, last, channel, kind) k =
      let n = next states (event.Started d) c state.Waiting state.Running kind (k.waiting i c p channel (let l : length (asks before) ≡ i = sym last in omega (arith, l))) refl in
      ((state.Running, n.fits), started_stand problems before states k i c p channel (event.Started d) state.Running n prog job t own last refl)
  one_entry before (entry.Started prog job t) (event.Answered d usable) states own m (i, c, p, last, channel, kind) k = absurd kind
  one_entry before (entry.Started prog job t) (event.Failed d) states own m (i, c, p, last, channel, kind) k = absurd kind
  one_entry before (entry.Refused prog job) (event.Started d) states own m (i, c, p, last, channel, kind) k = absurd kind
  one_entry before (entry.Refused prog job) (event.Answered d usable) states own m (i, c, p, last, channel, kind) k = absurd kind
  one_entry before (entry.Refused prog job) (event.Failed d) states own m (i, c, p, last, channel, kind) k =
      let n = next states (event.Failed d) c state.Waiting state.Own kind (k.waiting i c p channel (let l : length (asks before) ≡ i = sym last in omega (arith, l))) refl in
      ((state.Own, n.fits), refused_stand problems before states k i c p channel (event.Failed d) state.Own n prog job last (inr refl))
  one_entry before (entry.Answered t bytes) (event.Started d) states own m (i, c, p, asked, channel, kind) k = absurd kind
  one_entry before (entry.Answered t bytes) (event.Failed d) states own m (i, c, p, asked, channel, kind) k = absurd kind
  one_entry before (entry.Answered t bytes) (event.Answered d usable) states own m (i, c, p, asked, channel, kind) k =
      let e : Entry = entry.Answered t bytes in
      let left = oldest before e t (λ job a. a) (λ ticket h. h) m in
      let n = next states (event.Answered d usable) c state.Running (if usable then state.Taken else state.Own) kind.0 (k.running i c p channel (record { t = t; asked = asked; left = left })) refl in (
        (_, n.fits),
        finished_stand problems before states k i c p channel (event.Answered d usable) _ n e t (own_front before (e ∷ []) own) asked (is_done usable)
            (asks_more before e ∙ append-nil (asks before)) (unfinished_more [] before e),
      )
  one_entry before (entry.Lost t) (event.Started d) states own m (i, c, p, asked, channel, kind) k = absurd kind
  one_entry before (entry.Lost t) (event.Answered d usable) states own m (i, c, p, asked, channel, kind) k = absurd kind
  one_entry before (entry.Lost t) (event.Failed d) states own m (i, c, p, asked, channel, kind) k =
      let e : Entry = entry.Lost t in
      let left = oldest before e t (λ job a. a) (λ ticket h. h) m in
      let n = next states (event.Failed d) c state.Running state.Own kind (k.running i c p channel (record { t = t; asked = asked; left = left })) refl in (
        (state.Own, n.fits),
        finished_stand problems before states k i c p channel (event.Failed d) state.Own n e t (own_front before (e ∷ []) own) asked (inr refl)
            (asks_more before e ∙ append-nil (asks before)) (unfinished_more [] before e),
      )

  all_entries : (later : List Entry) (events : List Event) (before : List Entry) (states : List JobState) → AreInOrder program jobs most before later → HaveOwnTickets (before ++ later) → AreEvents problems before later events
      → Stand problems before states → AreAccepted states events × Stand problems (before ++ later) (after_all states events)
  all_entries [] [] before states o own are k = (tt, subst (λ (b : List Entry). Stand problems b states) (sym (append-nil before)) k)
  all_entries [] (v ∷ events) before states o own are k = absurd are
  all_entries (e ∷ later) [] before states o own are k = absurd are
  all_entries (e ∷ later) (v ∷ events) before states o own are k =
      let owns : HaveOwnTickets ((before ++ e ∷ []) ++ later) = subst HaveOwnTickets (sym (append_assoc before (e ∷ []) later)) own in
      let one = one_entry before e v states (own_front (before ++ e ∷ []) later owns) o.0 are.0 k in
      let rest = all_entries later events (before ++ e ∷ []) (states_after states v) o.1 owns are.1 one.1 in
      ((one.0, rest.0), subst (λ (b : List Entry). Stand problems b (after_all (states_after states v) events)) (append_assoc before (e ∷ []) later) rest.1)

get_same : (n c : ℕ) → c < n → slice_get (replicate n state.Waiting) c ≡ Some state.Waiting
get_same zero c low = absurd (omega arith)
get_same (suc n) zero low = refl
get_same (suc n) (suc c) low = get_same n c (omega arith)

nothing_at : (i : ℕ) (o : Option ℕ) → slice_get [] i ≡ Some o → ⊥
nothing_at i o h = cc

-- before any entry all jobs wait
all_wait : (problems : List Problem) → Stand problems [] (replicate (length problems) state.Waiting)
all_wait problems = record {
  waiting = λ i c p channel low. get_same (length problems) c (get_within problems c p channel.there);
  running = λ i c p channel r. absurd (nothing_at i (Some r.t) r.asked);
  over = λ i c p channel o. absurd (none i o);
  known = λ t h. absurd (nothing_in t h);
}
  where
    none : (i : ℕ) → IsOver [] i → ⊥
    none i (inl h) = nothing_at i None h
    none i (inr (t, h, gone)) = nothing_at i (Some t) h

-- at the end of a story each problem with connections was asked for, and no ticket is unfinished
all_over : (problems : List Problem) (budget most : ℕ) (program : List ℕ) (s : List Entry) → Story problems budget most program s → (i c : ℕ) (p : Problem) → IsChannelOf problems i c p → IsOver s i
all_over problems budget most program s story i c p channel = by (get_in (asks s) i low).0 (get_in (asks s) i low).1
  where
    low : i < length (asks s)
    low =
        let within = get_within (asked_for problems) _ p (place_at problems c p channel.there channel.asked) in
        let place = channel.place in
        let all = story.all in
        let long = length-map (asked_for problems) (job_bytes budget) in
        omega arith

    by : (o : Option ℕ) → slice_get (asks s) i ≡ Some o → IsOver s i
    by None h = inl h
    by (Some t) h = inr (t, h, λ left. nothing_in t (subst (λ (ts : List ℕ). Contains ts t) story.finished left))

-- THE LAW
pub stories_accepted : StoriesAreAccepted
stories_accepted problems budget most program s events story own are =
    let r = all_entries program _ most problems s events [] (replicate (length problems) state.Waiting) story.order own are (all_wait problems) in
    (r.0, λ i c p channel. r.1.over i c p channel (all_over problems budget most program s story i c p channel))

-- The entries of a story are events that a farm accepts.
use Rattle.std.proofs.Common.{ℕ, suc, zero, ◌≡◌, ◌≢◌, ◌⊎◌, inl, inr, Bool, true, false, nat_eq, List, [], ◌∷◌, ◌++◌, length, take, Option, Some, None, refl, sym, ap, subst, ◌∙◌, arith}
use Rattle.std.specs.Prelude.{Contains, slice_get, slice_set}
use Rattle.std.proofs.lemmas.Bool.Decides.{nat_tests}
use Rattle.std.proofs.lemmas.Bool.{cases_eq}
use Rattle.std.proofs.lemmas.List.{length-append}
use Rattle.std.proofs.lemmas.List.Elements.{Contains-append_cases, Contains-append_left, Contains-append_right}
use Rattle.act1_base.proofs.ListGets.{contains_at, get_last, get_unwritten, get_within, get_written, place_of, some_is}
use Rattle.act1_channel.specs.declared.problem.Problem.{Problem}
use Rattle.act1_outside.specs.Outside.{without}
use Rattle.act1_outside.specs.declared.helpers.Entry.{Entry}
use Rattle.act1_outside.specs.declared.helpers.Entry.TheVariants as entry
use Rattle.act1_farm.specs.declared.event.Event.{Event}
use Rattle.act1_farm.specs.declared.event.JobState.{JobState}
use Rattle.act1_farm.specs.declared.event.JobState.TheVariants as state
use Rattle.act1_farm.specs.Story.{HaveOwnTickets, asked_for, asks, unfinished}
use Rattle.act1_farm.specs.Events.{IsChannelOf}
use Rattle.act1_farm.specs.Farm.{Fits, IsDone, job_number, next_of, state_after, states_after, with_state}
use Rattle.act1_farm.specs.StorySteps.{HasEnded, IsOver, IsRunning, Stand}
use Rattle.act1_farm.proofs.Channels.{one_channel}
use Rattle.act1_farm.proofs.Entries.{asks_cases, asks_more, unfinished_more}
use Rattle.act1_farm.proofs.Found.{asks_kept}

-- what is among the tickets without one is another one of them
without_has : (t u : ℕ) (ts : List ℕ) (k : ℕ) → slice_get (without t ts) k ≡ Some u → Contains ts u × (u ≢ t)
without_has t u [] k h = cc
without_has t u (x ∷ ts) k h = by (λ k h. without_has t u ts k h) (nat_eq x t) refl k h
  where
    deeper : Contains ts u × (u ≢ t) → Contains (x ∷ ts) u × (u ≢ t)
    deeper r = (Contains-append_right (x ∷ []) ts u r.0, r.1)

    kept : nat_eq x t ≡ false → without t (x ∷ ts) ≡ x ∷ without t ts
    kept e = rw e refl

    gone : nat_eq x t ≡ true → without t (x ∷ ts) ≡ without t ts
    gone e = rw e refl

    by : ((k : ℕ) → slice_get (without t ts) k ≡ Some u → Contains ts u × (u ≢ t)) → (b : Bool) → nat_eq x t ≡ b → (k : ℕ) → slice_get (without t (x ∷ ts)) k ≡ Some u → Contains (x ∷ ts) u × (u ≢ t)
    by again true e k h = deeper (again k (ap (λ (l : List ℕ). slice_get l k) (sym (gone e)) ∙ h))
    by again false e zero h =
        let is : x ≡ u = some_is x u (ap (λ (l : List ℕ). slice_get l 0) (sym (kept e)) ∙ h) in
        (contains_at (x ∷ ts) 0 u (ap (λ (n : ℕ). let o : Option ℕ = Some n in o) is), λ same. let n : x ≡ t = is ∙ same in grind (arith, nat_tests))
    by again false e (suc k) h = deeper (again k (ap (λ (l : List ℕ). slice_get l (suc k)) (sym (kept e)) ∙ h))

-- and each other one is among them
without_keeps : (t u : ℕ) (ts : List ℕ) (k : ℕ) → slice_get ts k ≡ Some u → u ≢ t → Contains (without t ts) u
without_keeps t u [] k h apart = cc
without_keeps t u (x ∷ ts) k h apart = by (λ k h. without_keeps t u ts k h apart) (nat_eq x t) refl k h
  where
    kept : nat_eq x t ≡ false → without t (x ∷ ts) ≡ x ∷ without t ts
    kept e = rw e refl

    gone : nat_eq x t ≡ true → without t (x ∷ ts) ≡ without t ts
    gone e = rw e refl

    by : ((k : ℕ) → slice_get ts k ≡ Some u → Contains (without t ts) u) → (b : Bool) → nat_eq x t ≡ b → (k : ℕ) → slice_get (x ∷ ts) k ≡ Some u → Contains (without t (x ∷ ts)) u
    by again true e zero h = let is : x ≡ u = some_is x u h in let same : x ≡ t = grind (arith, nat_tests) in absurd (apart (sym is ∙ same))
    by again true e (suc k) h = subst (λ (l : List ℕ). Contains l u) (sym (gone e)) (again k h)
    by again false e zero h = subst (λ (l : List ℕ). Contains l u) (sym (kept e)) (contains_at (x ∷ without t ts) 0 u h)
    by again false e (suc k) h = subst (λ (l : List ℕ). Contains l u) (sym (kept e)) (Contains-append_right (x ∷ []) (without t ts) u (again k h))

-- an event that fits leaves its state, and all others as they were
stepped : (states : List JobState) (v : Event) (c : ℕ) (b n : JobState) → job_number v ≡ c → slice_get states c ≡ Some b → state_after v b ≡ Some n → states_after states v ≡ slice_set states c n
stepped states v c b n is at after =
    ap (λ (k : ℕ). with_state states k (next_of v (slice_get states k))) is
    ∙ ap (λ (o : Option JobState). with_state states c (next_of v o)) at
    ∙ ap (λ (o : Option JobState). with_state states c o) after

-- the states after an event of this channel
pub record IsNext (states : List JobState) (v : Event) (c : ℕ) (n : JobState) : Type 0 where
  pub fits : Fits states v n
  pub at : slice_get (states_after states v) c ≡ Some n
  pub others : (d : ℕ) → d ≢ c → slice_get (states_after states v) d ≡ slice_get states d

pub next : (states : List JobState) (v : Event) (c : ℕ) (b n : JobState) → job_number v ≡ c → slice_get states c ≡ Some b → state_after v b ≡ Some n → IsNext states v c n
next states v c b n is at after =
    let same = stepped states v c b n is at after in
    record {
      fits = (b, ap (λ (k : ℕ). slice_get states k) is ∙ at, after);
      at = ap (λ (l : List JobState). slice_get l c) same ∙ get_written states c n (get_within states c b at);
      others = λ d apart. ap (λ (l : List JobState). slice_get l d) same ∙ get_unwritten states c d n apart;
    }

module _ (problems : List Problem) (before : List Entry) (states : List JobState) (k : Stand problems before states) (i c : ℕ) (p : Problem) (channel : IsChannelOf problems i c p)
    (v : Event) (n : JobState) (is : IsNext states v c n) where
  -- another problem's job stays as it is
  apart : (j d : ℕ) (q : Problem) → IsChannelOf problems j d q → j ≢ i → slice_get (states_after states v) d ≡ slice_get states d
  apart j d q other differs = is.others d (λ same. differs (sym other.place ∙ ap (λ (x : ℕ). length (asked_for (take x problems))) same ∙ channel.place))

  here : (j d : ℕ) (q : Problem) → IsChannelOf problems j d q → j ≡ i → slice_get (states_after states v) d ≡ Some n
  here j d q other same = ap (λ (x : ℕ). slice_get (states_after states v) x) (one_channel problems i d c q p (subst (λ (m : ℕ). IsChannelOf problems m d q) same other) channel) ∙ is.at

  apart_ended : (j d : ℕ) (q : Problem) → IsChannelOf problems j d q → j ≢ i → HasEnded states d → HasEnded (states_after states v) d
  apart_ended j d q other differs h = (h.0, apart j d q other differs ∙ h.1, h.2)

  -- a helper was started for it
  module _ (program job : List ℕ) (t : ℕ) (own : HaveOwnTickets (before ++ entry.Started program job t ∷ [])) (last : i ≡ length (asks before)) (runs : n ≡ state.Running) where
    asks_are : asks (before ++ entry.Started program job t ∷ []) ≡ asks before ++ Some t ∷ []
    asks_are = asks_more before (entry.Started program job t)

    left_are : unfinished (before ++ entry.Started program job t ∷ []) ≡ unfinished before ++ t ∷ []
    left_are = unfinished_more [] before (entry.Started program job t)

    last_asked : slice_get (asks (before ++ entry.Started program job t ∷ [])) i ≡ Some (Some t)
    last_asked = ap (λ (l : List (Option ℕ)). slice_get l i) asks_are ∙ get_last (asks before) (Some t) i last

    older : (j : ℕ) (o : Option ℕ) → slice_get (asks before) j ≡ Some o → j ≢ i
    older j o h same = let l = get_within (asks before) j o h in absurd (omega arith)

    last_ticket : (t u : ℕ) → slice_get (Some t ∷ []) 0 ≡ Some (Some u) → t ≡ u
    last_ticket t u h = some_is t u (some_is (Some t) (Some u) h)

    pub started_stand : Stand problems (before ++ entry.Started program job t ∷ []) (states_after states v)
    started_stand = record {
      waiting = λ j d q other low. (let l = ap (λ (xs : List (Option ℕ)). length xs) asks_are ∙ length-append (asks before) (Some t ∷ []) in apart j d q other (λ same. absurd (omega arith)) ∙ k.waiting j d q other (omega arith));
      running = λ j d q other r. runs_still j d q other r (asks_cases before (entry.Started program job t) j (Some r.t) r.asked);
      over = λ j d q other o. over_still j d q other o;
      known = λ u h. known_still u (Contains-append_cases (unfinished before) (t ∷ []) u (subst (λ (l : List ℕ). Contains l u) left_are h));
    }
      where
        runs_still : (j d : ℕ) (q : Problem) → IsChannelOf problems j d q → (r : IsRunning (before ++ entry.Started program job t ∷ []) j)
            → (slice_get (asks before) j ≡ Some (Some r.t)) ⊎ ((j ≡ length (asks before)) × (slice_get (Some t ∷ []) 0 ≡ Some (Some r.t))) → slice_get (states_after states v) d ≡ Some state.Running
        runs_still j d q other r (inr h) = here j d q other (h.0 ∙ sym last) ∙ ap (λ (x : JobState). let o : Option JobState = Some x in o) runs
        runs_still j d q other r (inl h) = apart j d q other (older j (Some r.t) h) ∙ k.running j d q other (record { t = r.t; asked = h; left = old (Contains-append_cases (unfinished before) (t ∷ []) r.t (subst (λ (l : List ℕ). Contains l r.t) left_are r.left)) })
          where
            old : Contains (unfinished before) r.t ⊎ Contains (t ∷ []) r.t → Contains (unfinished before) r.t
            old (inl x) = x
            old (inr x) =
                let at = place_of (t ∷ []) r.t x in
                let same = only at.0 at.1 in
                absurd (older j (Some r.t) h (own j i t (subst (λ (w : ℕ). slice_get (asks (before ++ entry.Started program job t ∷ [])) j ≡ Some (Some w)) (sym same) r.asked) last_asked))
              where
                only : (m : ℕ) → slice_get (t ∷ []) m ≡ Some r.t → t ≡ r.t
                only zero e = some_is t r.t e
                only (suc m) e = cc

        over_still : (j d : ℕ) (q : Problem) → IsChannelOf problems j d q → IsOver (before ++ entry.Started program job t ∷ []) j → HasEnded (states_after states v) d
        over_still j d q other (inl h) = by (asks_cases before (entry.Started program job t) j None h)
          where
            no_ticket : slice_get (Some t ∷ []) 0 ≡ Some None → ⊥
            no_ticket e = cc

            by : (slice_get (asks before) j ≡ Some None) ⊎ ((j ≡ length (asks before)) × (slice_get (Some t ∷ []) 0 ≡ Some None)) → HasEnded (states_after states v) d
            by (inl x) = apart_ended j d q other (older j None x) (k.over j d q other (inl x))
            by (inr x) = absurd (no_ticket x.1)
        over_still j d q other (inr (u, h, gone)) = by (asks_cases before (entry.Started program job t) j (Some u) h)
          where
            by : (slice_get (asks before) j ≡ Some (Some u)) ⊎ ((j ≡ length (asks before)) × (slice_get (Some t ∷ []) 0 ≡ Some (Some u))) → HasEnded (states_after states v) d
            by (inl x) = apart_ended j d q other (older j (Some u) x) (k.over j d q other (inr (u, x, λ there. gone (subst (λ (l : List ℕ). Contains l u) (sym left_are) (Contains-append_left (unfinished before) (t ∷ []) u there)))))
            by (inr x) = absurd (gone (subst (λ (l : List ℕ). Contains l u) (sym left_are) (Contains-append_right (unfinished before) (t ∷ []) u (contains_at (t ∷ []) 0 u (ap (λ (w : ℕ). let o : Option ℕ = Some w in o) (last_ticket t u x.1))))))

        known_still : (u : ℕ) → Contains (unfinished before) u ⊎ Contains (t ∷ []) u → (j : ℕ) × (slice_get (asks (before ++ entry.Started program job t ∷ [])) j ≡ Some (Some u))
        known_still u (inl x) = let at = k.known u x in (at.0, asks_kept before (entry.Started program job t) at.0 (Some u) at.1)
        known_still u (inr x) = (i, last_asked ∙ ap (λ (w : ℕ). let o : Option (Option ℕ) = Some (Some w) in o) (only (place_of (t ∷ []) u x).0 (place_of (t ∷ []) u x).1))
          where
            only : (m : ℕ) → slice_get (t ∷ []) m ≡ Some u → t ≡ u
            only zero e = some_is t u e
            only (suc m) e = cc

  -- a helper was refused
  module _ (program job : List ℕ) (last : i ≡ length (asks before)) (ended : IsDone n) where
    refused_are : asks (before ++ entry.Refused program job ∷ []) ≡ asks before ++ None ∷ []
    refused_are = asks_more before (entry.Refused program job)

    left_same : unfinished (before ++ entry.Refused program job ∷ []) ≡ unfinished before
    left_same = unfinished_more [] before (entry.Refused program job)

    earlier : (j : ℕ) (o : Option ℕ) → slice_get (asks before) j ≡ Some o → j ≢ i
    earlier j o h same = let l = get_within (asks before) j o h in absurd (omega arith)

    pub refused_stand : Stand problems (before ++ entry.Refused program job ∷ []) (states_after states v)
    refused_stand = record {
      waiting = λ j d q other low. (let l = ap (λ (xs : List (Option ℕ)). length xs) refused_are ∙ length-append (asks before) (None ∷ []) in apart j d q other (λ same. absurd (omega arith)) ∙ k.waiting j d q other (omega arith));
      running = λ j d q other r. runs_still j d q other r (asks_cases before (entry.Refused program job) j (Some r.t) r.asked);
      over = λ j d q other o. over_still j d q other o;
      known = λ u h. (let at = k.known u (subst (λ (l : List ℕ). Contains l u) left_same h) in (at.0, asks_kept before (entry.Refused program job) at.0 (Some u) at.1));
    }
      where
        no_ticket : (u : ℕ) → slice_get (asks (entry.Refused program job ∷ [])) 0 ≡ Some (Some u) → ⊥
        no_ticket u e = cc

        runs_still : (j d : ℕ) (q : Problem) → IsChannelOf problems j d q → (r : IsRunning (before ++ entry.Refused program job ∷ []) j)
            → (slice_get (asks before) j ≡ Some (Some r.t)) ⊎ ((j ≡ length (asks before)) × (slice_get (asks (entry.Refused program job ∷ [])) 0 ≡ Some (Some r.t))) → slice_get (states_after states v) d ≡ Some state.Running
        runs_still j d q other r (inr h) = absurd (no_ticket r.t h.1)
        runs_still j d q other r (inl h) = apart j d q other (earlier j (Some r.t) h) ∙ k.running j d q other (record { t = r.t; asked = h; left = subst (λ (l : List ℕ). Contains l r.t) left_same r.left })

        over_still : (j d : ℕ) (q : Problem) → IsChannelOf problems j d q → IsOver (before ++ entry.Refused program job ∷ []) j → HasEnded (states_after states v) d
        over_still j d q other (inl h) = by (asks_cases before (entry.Refused program job) j None h)
          where
            by : (slice_get (asks before) j ≡ Some None) ⊎ ((j ≡ length (asks before)) × (slice_get (asks (entry.Refused program job ∷ [])) 0 ≡ Some None)) → HasEnded (states_after states v) d
            by (inl x) = apart_ended j d q other (earlier j None x) (k.over j d q other (inl x))
            by (inr x) = (n, here j d q other (x.0 ∙ sym last), ended)
        over_still j d q other (inr (u, h, gone)) = by (asks_cases before (entry.Refused program job) j (Some u) h)
          where
            by : (slice_get (asks before) j ≡ Some (Some u)) ⊎ ((j ≡ length (asks before)) × (slice_get (asks (entry.Refused program job ∷ [])) 0 ≡ Some (Some u))) → HasEnded (states_after states v) d
            by (inl x) = apart_ended j d q other (earlier j (Some u) x) (k.over j d q other (inr (u, x, λ there. gone (subst (λ (l : List ℕ). Contains l u) (sym left_same) there))))
            by (inr x) = absurd (no_ticket u x.1)

  -- a helper was finished
  module _ (e : Entry) (t : ℕ) (own : HaveOwnTickets before) (asked : slice_get (asks before) i ≡ Some (Some t)) (ended : IsDone n)
      (asks_same : asks (before ++ e ∷ []) ≡ asks before) (left_are : unfinished (before ++ e ∷ []) ≡ without t (unfinished before)) where
    was : (j : ℕ) (o : Option ℕ) → slice_get (asks (before ++ e ∷ [])) j ≡ Some o → slice_get (asks before) j ≡ Some o
    was j o h = ap (λ (l : List (Option ℕ)). slice_get l j) (sym asks_same) ∙ h

    other_ticket : (j u : ℕ) → slice_get (asks before) j ≡ Some (Some u) → u ≢ t → j ≢ i
    other_ticket j u h differs same = differs (some_is u t (some_is (Some u) (Some t) (sym h ∙ ap (λ (m : ℕ). slice_get (asks before) m) same ∙ asked)))

    kept_of : (u : ℕ) → Contains (unfinished (before ++ e ∷ [])) u → Contains (unfinished before) u × (u ≢ t)
    kept_of u h = let at = place_of (without t (unfinished before)) u (subst (λ (l : List ℕ). Contains l u) left_are h) in without_has t u (unfinished before) at.0 at.1

    pub finished_stand : Stand problems (before ++ e ∷ []) (states_after states v)
    finished_stand = record {
      waiting = λ j d q other low. (let l = ap (λ (xs : List (Option ℕ)). length xs) asks_same in let w = get_within (asks before) i (Some t) asked in apart j d q other (λ same. absurd (omega arith)) ∙ k.waiting j d q other (omega arith));
      running = λ j d q other r. (let h = was j (Some r.t) r.asked in let o = kept_of r.t r.left in apart j d q other (other_ticket j r.t h o.1) ∙ k.running j d q other (record { t = r.t; asked = h; left = o.0 }));
      over = λ j d q other o. over_still j d q other o;
      known = λ u h. (let at = k.known u (kept_of u h).0 in (at.0, ap (λ (l : List (Option ℕ)). slice_get l at.0) asks_same ∙ at.1));
    }
      where
        no_ticket : slice_get (asks before) i ≡ Some None → ⊥
        no_ticket h = let both = some_is (Some t) None (sym asked ∙ h) in cc

        over_still : (j d : ℕ) (q : Problem) → IsChannelOf problems j d q → IsOver (before ++ e ∷ []) j → HasEnded (states_after states v) d
        over_still j d q other (inl h) = let x = was j None h in apart_ended j d q other (λ same. no_ticket (ap (λ (m : ℕ). slice_get (asks before) m) (sym same) ∙ x)) (k.over j d q other (inl x))
        over_still j d q other (inr (u, h, gone)) = by (cases_eq u t)
          where
            x : slice_get (asks before) j ≡ Some (Some u)
            x = was j (Some u) h

            by : (u ≡ t) ⊎ (u ≢ t) → HasEnded (states_after states v) d
            by (inl same) = (n, here j d q other (own j i t (x ∙ ap (λ (w : ℕ). let o : Option (Option ℕ) = Some (Some w) in o) same) asked), ended)
            by (inr differs) = apart_ended j d q other (other_ticket j u x differs) (k.over j d q other (inr (u, x, λ there. gone (still there))))
              where
                still : Contains (unfinished before) u → Contains (unfinished (before ++ e ∷ [])) u
                still there = let at = place_of (unfinished before) u there in subst (λ (l : List ℕ). Contains l u) (sym left_are) (without_keeps t u (unfinished before) at.0 at.1 differs)

-- the tickets of a front
asks_append : (s later : List Entry) → asks (s ++ later) ≡ asks s ++ asks later
asks_append [] later = refl
asks_append (entry.Started p j t ∷ s) later = ap (λ (r : List (Option ℕ)). Some t ∷ r) (asks_append s later)
asks_append (entry.Refused p j ∷ s) later = ap (λ (r : List (Option ℕ)). None ∷ r) (asks_append s later)
asks_append (entry.Answered t bytes ∷ s) later = asks_append s later
asks_append (entry.Lost t ∷ s) later = asks_append s later

get_front : {X : Type 0} (xs ys : List X) (i : ℕ) (x : X) → slice_get xs i ≡ Some x → slice_get (xs ++ ys) i ≡ Some x
get_front [] ys i x h = cc
get_front (y ∷ xs) ys zero x h = h
get_front (y ∷ xs) ys (suc i) x h = get_front xs ys i x h

pub own_front : (s later : List Entry) → HaveOwnTickets (s ++ later) → HaveOwnTickets s
own_front s later own i j t h k = own i j t (front i h) (front j k)
  where
    front : (i : ℕ) → slice_get (asks s) i ≡ Some (Some t) → slice_get (asks (s ++ later)) i ≡ Some (Some t)
    front i h = ap (λ (l : List (Option ℕ)). slice_get l i) (asks_append s later) ∙ get_front (asks s) (asks later) i (Some t) h

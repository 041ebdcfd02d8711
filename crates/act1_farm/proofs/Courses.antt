-- The course, one call on.
use Rattle.std.proofs.Common.{ℕ, suc, zero, ◌≡◌, ◌<◌, ◌≤◌, ◌+◌, ◌⊎◌, inl, inr, List, [], ◌∷◌, ◌++◌, length, map, drop, Option, Some, Ok, Err, refl, sym, ap, subst, ◌∙◌, arith, add-one}
use Rattle.std.specs.Prelude.{Contains, slice_get, slice_set, Vec}
use Rattle.std.specs.declared.alloc.Global.{Global}
use Rattle.std.proofs.lemmas.List.{drop-append-le, map-append, length-append, length-map}
use Rattle.std.proofs.lemmas.List.Elements.{Contains-append_right}
use Rattle.act1_base.proofs.ListGets.{get_last, get_cases, get_map, get_within, some_is}
use Rattle.act1_outside.specs.Outside.{Bench, Starts, Finishes}
use Rattle.act1_outside.specs.declared.helpers.HelperFault.TheVariants as helper_fault
use Rattle.act1_outside.specs.declared.helpers.Entry.{Entry}
use Rattle.act1_outside.specs.declared.helpers.Entry.TheVariants as entry
use Rattle.act1_channel.specs.declared.problem.Problem.{Problem}
use Rattle.act1_search.specs.declared.verdict.Verdict.{Verdict}
use Rattle.act1_farm.specs.declared.course.Course.{Course}
use Rattle.act1_farm.specs.declared.course.Started.{Started}
use Rattle.act1_farm.specs.Usable.{Brings, IsUsable}
use Rattle.act1_farm.specs.Story.{asks, asked_for, job_bytes, jobs_of}
use Rattle.act1_farm.specs.Jobs.{AreMade}
use Rattle.act1_farm.specs.Course.{IsCourse, running_of}
use Rattle.act1_farm.specs.Steps.{AskGives, AskStops, FinishGives, FinishStops, IsBegun, IsOnCourse, AreChannels, left_to_do}
use Rattle.act1_farm.proofs.Entries.{asks_more, faults_more, started_more, refused_more, answered_more, lost_more}
use Rattle.act1_farm.proofs.Found.{asks_kept, found_silent, found_useless, found_usable}

pub drop_at : {X : Type 0} (xs : List X) (n : ℕ) (x : X) → slice_get xs n ≡ Some x → drop n xs ≡ x ∷ drop (suc n) xs
drop_at [] n x h = cc
drop_at (y ∷ xs) zero x h = ap (λ z. z ∷ xs) (some_is y x h)
drop_at (y ∷ xs) (suc n) x h = drop_at xs n x h

ticket_of : Started → ℕ
ticket_of b = b.ticket

-- the running tickets, with one more
running_more : (xs : List Started) (n : ℕ) (x : Started) → n ≤ length xs → map (λ (b : Started). b.ticket) (drop n xs) ++ x.ticket ∷ [] ≡ map (λ (b : Started). b.ticket) (drop n (xs ++ x ∷ []))
running_more xs n x l = sym (ap (λ (ys : List Started). map (λ (b : Started). b.ticket) ys) (drop-append-le n xs (x ∷ []) l) ∙ map-append (λ (b : Started). b.ticket) (drop n xs) (x ∷ []))

-- and without the oldest
running_less : (xs : List Started) (n : ℕ) (x : Started) → slice_get xs n ≡ Some x → map (λ (b : Started). b.ticket) (drop n xs) ≡ x.ticket ∷ map (λ (b : Started). b.ticket) (drop (n + 1) xs)
running_less xs n x h = rw add-one (ap (λ (ys : List Started). map (λ (b : Started). b.ticket) ys) (drop_at xs n x h))

pub one_longer : (s : List Entry) (e : Entry) (n : ℕ) → length (asks (e ∷ [])) ≡ n → length (asks (s ++ e ∷ [])) ≡ length (asks s) + n
one_longer s e n h = ap (λ (l : List (Option ℕ)). length l) (asks_more s e) ∙ length-append (asks s) (asks (e ∷ [])) ∙ ap (λ (k : ℕ). length (asks s) + k) h

module _ (program : List ℕ) (wanted : List Problem) (budget most : ℕ) (start now : Bench) (course : Course) (k : IsCourse program wanted budget most start now course) where
  module _ (p : Problem) (next : slice_get wanted course.asked ≡ Some p) (low : length (running_of course) < most) where
    next_job : slice_get (jobs_of budget wanted) (length (asks k.s)) ≡ Some (job_bytes budget p)
    next_job = ap (λ (n : ℕ). slice_get (jobs_of budget wanted) n) k.asked ∙ get_map (job_bytes budget) wanted course.asked p next

    within : course.asked < length wanted
    within = get_within wanted course.asked p next

    started_course : (t : ℕ) (after : Bench) → Starts program (job_bytes budget p) now (Ok t) after
        → IsCourse program wanted budget most start after (record course { started = course.started ++ (record { ticket = t; number = course.asked }) ∷ []; asked = course.asked + 1 })
    started_course t after r =
        let e : Entry = entry.Started program (job_bytes budget p) t in
        let b : Started = record { ticket = t; number = course.asked } in
        let made = started_more program (jobs_of budget wanted) most start now k.s (running_of course) k.made (job_bytes budget p) t after r low next_job in
        let asked = k.asked in
        let longer = length-append course.started (b ∷ []) in
        record {
          s = k.s ++ e ∷ [];
          made = subst (λ (ts : List ℕ). AreMade program (jobs_of budget wanted) most start after (k.s ++ e ∷ []) ts) (running_more course.started course.done b k.within) made;
          asked = one_longer k.s e 1 refl ∙ ap (λ (n : ℕ). n + 1) k.asked;
          few = let w = within in omega arith;
          within = let w = k.within in omega arith;
          short = let w = k.short in omega arith;
          faults = faults_more k.s e ∙ (let f = k.faults in omega arith);
          bounded = let f = k.bounded in omega arith;
          places = λ n c h. place n c (get_cases course.started b c n h);
          answers = found_silent wanted k.s e (λ u bytes i. cc) (λ u bytes i has. let is : t ≡ u = some_is t u (some_is (Some t) (Some u) i) in let l = k.made.answered u bytes has in let q = r.ticket in absurd (omega arith)) course.answers k.answers;
        }
      where
        place : (n : ℕ) (c : Started) → (slice_get course.started n ≡ Some c) ⊎ ((n ≡ length course.started) × (record { ticket = t; number = course.asked } ≡ c)) → slice_get (asks (k.s ++ entry.Started program (job_bytes budget p) t ∷ [])) c.number ≡ Some (Some c.ticket)
        place n c (inl h) = asks_kept k.s (entry.Started program (job_bytes budget p) t) c.number (Some c.ticket) (k.places n c h)
        place n c (inr h) = subst (λ (x : Started). slice_get (asks (k.s ++ entry.Started program (job_bytes budget p) t ∷ [])) x.number ≡ Some (Some x.ticket)) h.1
            (ap (λ (l : List (Option ℕ)). slice_get l course.asked) (asks_more k.s (entry.Started program (job_bytes budget p) t)) ∙ get_last (asks k.s) (Some t) course.asked (sym k.asked))

    refused_course : (after : Bench) → Starts program (job_bytes budget p) now (Err helper_fault.Failed) after
        → IsCourse program wanted budget most start after (record course { asked = course.asked + 1; faults = course.faults + 1 })
    refused_course after r =
        let e : Entry = entry.Refused program (job_bytes budget p) in
        record {
          s = k.s ++ e ∷ [];
          made = refused_more program (jobs_of budget wanted) most start now k.s (running_of course) k.made (job_bytes budget p) after r low next_job;
          asked = one_longer k.s e 1 refl ∙ ap (λ (n : ℕ). n + 1) k.asked;
          few = let w = within in omega arith;
          within = k.within;
          short = let w = k.short in omega arith;
          faults = faults_more k.s e ∙ (let f = k.faults in omega arith);
          bounded = let f = k.bounded in omega arith;
          places = λ n c h. asks_kept k.s e c.number (Some c.ticket) (k.places n c h);
          answers = found_silent wanted k.s e (λ u bytes i. cc) (λ u bytes i has. cc) course.answers k.answers;
        }

    -- THE LIFT of a start
    pub ask_lifts : (after : Bench) (new : Course) → AskGives program (job_bytes budget p) now course after new → IsCourse program wanted budget most start after new
    ask_lifts after new (inl (t, r, is)) = subst (λ (c : Course). IsCourse program wanted budget most start after c) (sym is) (started_course t after r)
    ask_lifts after new (inr (r, is)) = subst (λ (c : Course). IsCourse program wanted budget most start after c) (sym is) (refused_course after r)

    pub ask_begun : (after : Bench) → AskStops program (job_bytes budget p) now after → IsBegun program (jobs_of budget wanted) most start after
    ask_begun after (inl silent) = record { s = k.s; order = k.made.order; few = few_jobs; told = silent ∙ k.made.told }
      where
        few_jobs : length (asks k.s) ≤ length (jobs_of budget wanted)
        few_jobs = let n = length-map wanted (job_bytes budget) in let a = k.asked in let f = k.few in omega arith
    ask_begun after (inr (t, r)) =
        let e : Entry = entry.Started program (job_bytes budget p) t in
        let made = started_more program (jobs_of budget wanted) most start now k.s (running_of course) k.made (job_bytes budget p) t after r low next_job in
        record { s = k.s ++ e ∷ []; order = made.order; few = few_jobs e (one_longer k.s e 1 refl); told = made.told }
      where
        few_jobs : (e : Entry) → length (asks (k.s ++ e ∷ [])) ≡ length (asks k.s) + 1 → length (asks (k.s ++ e ∷ [])) ≤ length (jobs_of budget wanted)
        few_jobs e l = let n = length-map wanted (job_bytes budget) in let a = k.asked in let f = within in omega arith

  module _ (b : Started) (at : slice_get course.started course.done ≡ Some b) (p : Problem) (there : slice_get wanted b.number ≡ Some p) (full : (most ≤ length (running_of course)) ⊎ (length wanted ≤ course.asked)) where
    all_asked : (most ≤ length (running_of course)) ⊎ (length wanted ≤ course.asked) → (most ≤ length (running_of course)) ⊎ (length (jobs_of budget wanted) ≤ length (asks k.s))
    all_asked (inl h) = inl h
    all_asked (inr h) = inr (let n = length-map wanted (job_bytes budget) in let a = k.asked in omega arith)

    behind : course.done < length course.started
    behind = get_within course.started course.done b at

    same_length : (e : Entry) → length (asks (e ∷ [])) ≡ 0 → length (asks (k.s ++ e ∷ [])) ≡ course.asked
    same_length e h = let l = one_longer k.s e 0 h in let a = k.asked in omega arith

    answered_made : (bytes : Vec ℕ Global) (after : Bench) → Finishes b.ticket now (Ok bytes) after
        → AreMade program (jobs_of budget wanted) most start after (k.s ++ entry.Answered b.ticket bytes.items ∷ []) (map (λ (c : Started). c.ticket) (drop (course.done + 1) course.started))
    answered_made bytes after r = answered_more program (jobs_of budget wanted) most start now k.s (running_of course) k.made b.ticket (map (λ (c : Started). c.ticket) (drop (course.done + 1) course.started))
        (running_less course.started course.done b at) bytes after r (all_asked full)

    useless_course : (bytes : Vec ℕ Global) (after : Bench) → Finishes b.ticket now (Ok bytes) after → (IsUsable p bytes.items → ⊥) → IsCourse program wanted budget most start after (record course { done = course.done + 1 })
    useless_course bytes after r useless =
        let e : Entry = entry.Answered b.ticket bytes.items in
        record {
          s = k.s ++ e ∷ [];
          made = answered_made bytes after r;
          asked = same_length e refl;
          few = k.few;
          within = let l = behind in omega arith;
          short = k.short;
          faults = faults_more k.s e ∙ (let f = k.faults in omega arith);
          bounded = let f = k.bounded in omega arith;
          places = λ n c h. asks_kept k.s e c.number (Some c.ticket) (k.places n c h);
          answers = found_useless wanted k.s b.ticket b.number bytes.items p k.made.once (k.places course.done b at) there course.answers useless k.answers;
        }

    usable_course : (bytes : Vec ℕ Global) (after : Bench) → Finishes b.ticket now (Ok bytes) after → (v : Verdict) → Brings p bytes.items v
        → IsCourse program wanted budget most start after (record course { done = course.done + 1; answers = slice_set course.answers b.number (Some v) })
    usable_course bytes after r v brings =
        let e : Entry = entry.Answered b.ticket bytes.items in
        record {
          s = k.s ++ e ∷ [];
          made = answered_made bytes after r;
          asked = same_length e refl;
          few = k.few;
          within = let l = behind in omega arith;
          short = k.short;
          faults = faults_more k.s e ∙ (let f = k.faults in omega arith);
          bounded = let f = k.bounded in omega arith;
          places = λ n c h. asks_kept k.s e c.number (Some c.ticket) (k.places n c h);
          answers = found_usable wanted k.s b.ticket b.number bytes.items p k.made.once (k.places course.done b at) there course.answers v brings k.answers;
        }

    lost_course : (after : Bench) → Finishes b.ticket now (Err helper_fault.Failed) after → IsCourse program wanted budget most start after (record course { done = course.done + 1; faults = course.faults + 1 })
    lost_course after r =
        let e : Entry = entry.Lost b.ticket in
        record {
          s = k.s ++ e ∷ [];
          made = lost_more program (jobs_of budget wanted) most start now k.s (running_of course) k.made b.ticket (map (λ (c : Started). c.ticket) (drop (course.done + 1) course.started))
              (running_less course.started course.done b at) after r (all_asked full);
          asked = same_length e refl;
          few = k.few;
          within = let l = behind in omega arith;
          short = k.short;
          faults = faults_more k.s e ∙ (let f = k.faults in omega arith);
          bounded = let f = k.bounded in omega arith;
          places = λ n c h. asks_kept k.s e c.number (Some c.ticket) (k.places n c h);
          answers = found_silent wanted k.s e (λ u bytes i. cc) (λ u bytes i has. cc) course.answers k.answers;
        }

    -- THE LIFT of a finish
    pub finish_lifts : (after : Bench) (new : Course) → FinishGives p b now course after new → IsCourse program wanted budget most start after new
    finish_lifts after new (inl (bytes, r, inl (v, brings, is))) = subst (λ (c : Course). IsCourse program wanted budget most start after c) (sym is) (usable_course bytes after r v brings)
    finish_lifts after new (inl (bytes, r, inr (useless, is))) = subst (λ (c : Course). IsCourse program wanted budget most start after c) (sym is) (useless_course bytes after r useless)
    finish_lifts after new (inr (r, is)) = subst (λ (c : Course). IsCourse program wanted budget most start after c) (sym is) (lost_course after r)

    pub finish_begun : (after : Bench) → FinishStops b.ticket now after → IsBegun program (jobs_of budget wanted) most start after
    finish_begun after (inl silent) = record { s = k.s; order = k.made.order; few = let n = length-map wanted (job_bytes budget) in let a = k.asked in let f = k.few in omega arith; told = silent ∙ k.made.told }
    finish_begun after (inr (bytes, r)) =
        let e : Entry = entry.Answered b.ticket bytes.items in
        let made = answered_made bytes after r in
        record { s = k.s ++ e ∷ []; order = made.order; few = few_jobs e (same_length e refl); told = made.told }
      where
        few_jobs : (e : Entry) → length (asks (k.s ++ e ∷ [])) ≡ course.asked → length (asks (k.s ++ e ∷ [])) ≤ length (jobs_of budget wanted)
        few_jobs e l = let n = length-map wanted (job_bytes budget) in let f = k.few in omega arith

  -- each unfinished ticket is open
  pub open_ticket : (b : Started) → slice_get course.started course.done ≡ Some b → Contains now.open_tickets b.ticket
  open_ticket b at = subst (λ (ts : List ℕ). Contains ts b.ticket) (sym k.made.opened)
      (Contains-append_right start.open_tickets (running_of course) b.ticket (subst (λ (ts : List ℕ). Contains ts b.ticket) (sym (running_less course.started course.done b at)) (0, omega arith, refl)))

few_faults_of : (program : List ℕ) (wanted : List Problem) (budget most : ℕ) (now : Bench) (course : Course) → IsOnCourse program wanted budget most now course → length wanted ≤ 65535 → course.faults < 1000000
few_faults_of program wanted budget most now course (start, k) few = let a = k.bounded in let b = k.few in let d = k.within in let e = k.short in omega arith

pub few_faults : (problems : List Problem) (channels : List ℕ) (program : List ℕ) (budget most : ℕ) (now : Bench) (course : Course) → AreChannels problems channels → length channels ≤ 65535
    → IsOnCourse program (asked_for problems) budget most now course → course.faults < 1000000
few_faults problems channels program budget most now course are few on = let e = are.each in few_faults_of program (asked_for problems) budget most now course on (omega arith)

pub few_done : (problems : List Problem) (channels : List ℕ) (program : List ℕ) (budget most : ℕ) (now : Bench) (course : Course) → AreChannels problems channels → length channels ≤ 65535
    → IsOnCourse program (asked_for problems) budget most now course → course.done < length course.started → course.done < 65535
few_done problems channels program budget most now course are few (start, k) some = let e = are.each in let b = k.few in let d = k.short in omega arith

-- a helper that was started is for one of the problems
pub number_within : (problems : List Problem) (channels : List ℕ) (program : List ℕ) (budget most : ℕ) (now : Bench) (course : Course) → AreChannels problems channels
    → IsOnCourse program (asked_for problems) budget most now course → (n : ℕ) (b : Started) → slice_get course.started n ≡ Some b → (b.number < length channels) × (b.number < length course.answers)
number_within problems channels program budget most now course are (start, k) n b h =
    let l = get_within (asks k.s) b.number (Some b.ticket) (k.places n b h) in
    let a = k.asked in
    let f = k.few in
    let e = are.each in
    let m = k.answers.each in
    (omega arith, omega arith)

pub ticket_open : (program : List ℕ) (wanted : List Problem) (budget most : ℕ) (now : Bench) (course : Course) → IsOnCourse program wanted budget most now course
    → (b : Started) → slice_get course.started course.done ≡ Some b → Contains now.open_tickets b.ticket
ticket_open program wanted budget most now course (start, k) b at = open_ticket program wanted budget most start now course k b at

pub done_within : (program : List ℕ) (wanted : List Problem) (budget most : ℕ) (now : Bench) (course : Course) → IsOnCourse program wanted budget most now course → course.done ≤ length course.started
done_within program wanted budget most now course (start, k) = k.within

pub ask_less : (program job : List ℕ) (before after : Bench) (old new : Course) (n : ℕ) → AskGives program job before old after new → old.asked < n → old.done ≤ length old.started → left_to_do n new < left_to_do n old
ask_less program job before after old new n (inl (t, r, is)) low l =
    let longer = length-append old.started ((record { ticket = t; number = old.asked }) ∷ []) in
    subst (λ (c : Course). left_to_do n c < left_to_do n old) (sym is) (omega arith)
ask_less program job before after old new n (inr (r, is)) low l = subst (λ (c : Course). left_to_do n c < left_to_do n old) (sym is) (omega arith)

pub finish_less : (p : Problem) (b : Started) (before after : Bench) (old new : Course) (n : ℕ) → FinishGives p b before old after new → old.done < length old.started → left_to_do n new < left_to_do n old
finish_less p b before after old new n (inl (bytes, r, inl (v, brings, is))) low = subst (λ (c : Course). left_to_do n c < left_to_do n old) (sym is) (omega arith)
finish_less p b before after old new n (inl (bytes, r, inr (useless, is))) low = subst (λ (c : Course). left_to_do n c < left_to_do n old) (sym is) (omega arith)
finish_less p b before after old new n (inr (r, is)) low = subst (λ (c : Course). left_to_do n c < left_to_do n old) (sym is) (omega arith)

pub all_or_full : (problems : List Problem) (channels : List ℕ) (course : Course) (most : ℕ) → AreChannels problems channels → (most ≤ length (running_of course)) ⊎ (length channels ≤ course.asked) → (most ≤ length (running_of course)) ⊎ (length (asked_for problems) ≤ course.asked)
all_or_full problems channels course most are (inl h) = inl h
all_or_full problems channels course most are (inr h) = inr (let e = are.each in omega arith)

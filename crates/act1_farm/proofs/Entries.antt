-- One entry more.
use Rattle.std.proofs.Common.{ℕ, suc, zero, ◌≡◌, ◌<◌, ◌≤◌, ◌+◌, ◌-◌, ◌^◌, ◌⊎◌, inl, inr, ◌&&◌, true, false, nat_lt, List, [], ◌∷◌, ◌++◌, length, Option, Some, None, cond, refl, sym, ap, subst, ◌∙◌, arith}
use Rattle.std.proofs.lemmas.Bool.Decides.{nat_tests}
use Rattle.std.specs.Prelude.{Contains, slice_get, count_by, Ok, Err, Vec}
use Rattle.std.specs.declared.alloc.Global.{Global}
use Rattle.std.proofs.lemmas.List.{append_assoc, append-nil}
use Rattle.std.proofs.lemmas.List.Elements.{Contains-append_cases}
use Rattle.std.proofs.lemmas.List.Sums.{sum_by-append}
use Rattle.std.proofs.lemmas.Bool.{cases_lt, true≢false}
use Rattle.act1_base.proofs.ListGets.{get_cases, get_within, some_is}
use Rattle.act1_outside.specs.Faults.{Rose}
use Rattle.act1_outside.specs.Outside.{Bench, Starts, Finishes, with_entry, without}
use Rattle.act1_outside.specs.declared.helpers.HelperFault.TheVariants as helper_fault
use Rattle.act1_outside.specs.declared.helpers.Entry.{Entry}
use Rattle.act1_outside.specs.declared.helpers.Entry.TheVariants as entry
use Rattle.act1_farm.specs.Story.{unfinished_from, unfinished, asks, may_ask, MayFollow, AreInOrder, is_fault, Asks, Ends}
use Rattle.act1_farm.specs.Jobs.{grown, Climb, RoseBy, AreMade}
use Rattle.act1_farm.proofs.Tickets.{climb_more, climb_wider, without_first, without_behind}

pub unfinished_more : (ts : List ℕ) (s : List Entry) (e : Entry) → unfinished_from ts (s ++ e ∷ []) ≡ unfinished_from (unfinished_from ts s) (e ∷ [])
unfinished_more ts [] e = refl
unfinished_more ts (entry.Started p j t ∷ s) e = unfinished_more (ts ++ t ∷ []) s e
unfinished_more ts (entry.Refused p j ∷ s) e = unfinished_more ts s e
unfinished_more ts (entry.Answered t bytes ∷ s) e = unfinished_more (without t ts) s e
unfinished_more ts (entry.Lost t ∷ s) e = unfinished_more (without t ts) s e

pub asks_more : (s : List Entry) (e : Entry) → asks (s ++ e ∷ []) ≡ asks s ++ asks (e ∷ [])
asks_more [] e = refl
asks_more (entry.Started p j t ∷ s) e = ap (λ (r : List (Option ℕ)). Some t ∷ r) (asks_more s e)
asks_more (entry.Refused p j ∷ s) e = ap (λ (r : List (Option ℕ)). None ∷ r) (asks_more s e)
asks_more (entry.Answered t bytes ∷ s) e = asks_more s e
asks_more (entry.Lost t ∷ s) e = asks_more s e

pub faults_more : (s : List Entry) (e : Entry) → count_by is_fault (s ++ e ∷ []) ≡ count_by is_fault s + count_by is_fault (e ∷ [])
faults_more s e = sum_by-append (λ x. cond (is_fault x) 1 0) s (e ∷ [])

pub order_more : (program : List ℕ) (jobs : List (List ℕ)) (most : ℕ) (before s : List Entry) (e : Entry) → AreInOrder program jobs most before s
    → MayFollow program jobs most (before ++ s) e → AreInOrder program jobs most before (s ++ e ∷ [])
order_more program jobs most before [] e o m = (subst (λ (b : List Entry). MayFollow program jobs most b e) (append-nil before) m, tt)
order_more program jobs most before (x ∷ s) e o m =
    (o.0, order_more program jobs most (before ++ x ∷ []) s e o.1 (subst (λ (b : List Entry). MayFollow program jobs most b e) (sym (append_assoc before (x ∷ []) s)) m))

-- what was asked for, was asked for before or by the added entry
pub asks_cases : (s : List Entry) (e : Entry) (i : ℕ) (x : Option ℕ) → slice_get (asks (s ++ e ∷ [])) i ≡ Some x
    → (slice_get (asks s) i ≡ Some x) ⊎ ((i ≡ length (asks s)) × (slice_get (asks (e ∷ [])) 0 ≡ Some x))
asks_cases s (entry.Started p j t) i x h = by (get_cases (asks s) (Some t) x i (ap (λ (l : List (Option ℕ)). slice_get l i) (sym (asks_more s (entry.Started p j t))) ∙ h))
  where
    by : (slice_get (asks s) i ≡ Some x) ⊎ ((i ≡ length (asks s)) × (Some t ≡ x)) → (slice_get (asks s) i ≡ Some x) ⊎ ((i ≡ length (asks s)) × (slice_get (Some t ∷ []) 0 ≡ Some x))
    by (inl h) = inl h
    by (inr h) = inr (h.0, ap (λ (o : Option ℕ). let r : Option (Option ℕ) = Some o in r) h.1)
asks_cases s (entry.Refused p j) i x h = by (get_cases (asks s) None x i (ap (λ (l : List (Option ℕ)). slice_get l i) (sym (asks_more s (entry.Refused p j))) ∙ h))
  where
    by : (slice_get (asks s) i ≡ Some x) ⊎ ((i ≡ length (asks s)) × (None ≡ x)) → (slice_get (asks s) i ≡ Some x) ⊎ ((i ≡ length (asks s)) × (slice_get (None ∷ []) 0 ≡ Some x))
    by (inl h) = inl h
    by (inr h) = inr (h.0, ap (λ (o : Option ℕ). let r : Option (Option ℕ) = Some o in r) h.1)
asks_cases s (entry.Answered t bytes) i x h = inl (ap (λ (l : List (Option ℕ)). slice_get l i) (sym (asks_more s (entry.Answered t bytes) ∙ append-nil (asks s))) ∙ h)
asks_cases s (entry.Lost t) i x h = inl (ap (λ (l : List (Option ℕ)). slice_get l i) (sym (asks_more s (entry.Lost t) ∙ append-nil (asks s))) ∙ h)

grown_by : (s : List Entry) (e : Entry) (old : Option (List Entry)) → with_entry e (grown s old) ≡ grown (s ++ e ∷ []) old
grown_by s e None = refl
grown_by s e (Some old) = ap (λ (l : List Entry). let r : Option (List Entry) = Some l in r) (append_assoc old s (e ∷ []))

-- the entry added is one of the list
pub contains_cases : (s : List Entry) (e x : Entry) → Contains (s ++ e ∷ []) x → Contains s x ⊎ (e ≡ x)
contains_cases s e x h = by (Contains-append_cases s (e ∷ []) x h)
  where
    by : Contains s x ⊎ Contains (e ∷ []) x → Contains s x ⊎ (e ≡ x)
    by (inl h) = inl h
    by (inr (zero, low, is)) = inr is
    by (inr (suc k, low, is)) = absurd (omega (arith, low))

rose_more : (a b before now after : ℕ) → RoseBy a before now → now ≤ after → RoseBy b now after → RoseBy (a + b) before after
rose_more a b before now after (inr full) l r = inr (omega arith)
rose_more a b before now after (inl h) l (inr full) = inr full
rose_more a b before now after (inl h) l (inl i) = inl (omega arith)

-- what an added entry has to keep
pub record Adds (program : List ℕ) (jobs : List (List ℕ)) (most : ℕ) (start now after : Bench) (s : List Entry) (tickets kept : List ℕ) (e : Entry) : Type 0 where
  pub follows : MayFollow program jobs most s e
  pub left : unfinished_from tickets (e ∷ []) ≡ kept
  pub told : after.story ≡ with_entry e now.story
  pub opened : after.open_tickets ≡ start.open_tickets ++ kept
  pub climb : Climb start.next kept after.next
  pub later : now.next ≤ after.next
  pub fresh : (t : ℕ) → slice_get (asks (e ∷ [])) 0 ≡ Some (Some t) → (now.next ≤ t) × (t < after.next)
  pub known : (t : ℕ) (bytes : List ℕ) → e ≡ entry.Answered t bytes → t < after.next
  pub counted : now.faults ≤ after.faults
  pub faults : RoseBy (count_by is_fault (e ∷ [])) now.faults after.faults

-- THE STEP: the entries made, and one more
pub made_more : (program : List ℕ) (jobs : List (List ℕ)) (most : ℕ) (start now after : Bench) (s : List Entry) (tickets kept : List ℕ) (e : Entry)
    → AreMade program jobs most start now s tickets → Adds program jobs most start now after s tickets kept e → AreMade program jobs most start after (s ++ e ∷ []) kept
made_more program jobs most start now after s tickets kept e m a = record {
  order = order_more program jobs most [] s e m.order a.follows;
  left = unfinished_more [] s e ∙ ap (λ (ts : List ℕ). unfinished_from ts (e ∷ [])) m.left ∙ a.left;
  told = a.told ∙ ap (λ (o : Option (List Entry)). with_entry e o) m.told ∙ grown_by s e start.story;
  opened = a.opened;
  climb = a.climb;
  older = m.older;
  known = λ i t h. known t (asks_cases s e i (Some t) h);
  once = λ i j t h k. once i j t (asks_cases s e i (Some t) h) (asks_cases s e j (Some t) k);
  answered = λ t bytes h. answered t bytes (contains_cases s e (entry.Answered t bytes) h);
  faults = subst (λ (n : ℕ). RoseBy n start.faults after.faults) (sym (faults_more s e)) (rose_more (count_by is_fault s) (count_by is_fault (e ∷ [])) start.faults now.faults after.faults m.faults a.counted a.faults);
}
  where
    known : {i : ℕ} (t : ℕ) → (slice_get (asks s) i ≡ Some (Some t)) ⊎ ((i ≡ length (asks s)) × (slice_get (asks (e ∷ [])) 0 ≡ Some (Some t))) → t < after.next
    known {i} t (inl h) = let l = m.known i t h in let up = a.later in omega arith
    known t (inr h) = (a.fresh t h.1).1

    once : (i j t : ℕ) → (slice_get (asks s) i ≡ Some (Some t)) ⊎ ((i ≡ length (asks s)) × (slice_get (asks (e ∷ [])) 0 ≡ Some (Some t)))
        → (slice_get (asks s) j ≡ Some (Some t)) ⊎ ((j ≡ length (asks s)) × (slice_get (asks (e ∷ [])) 0 ≡ Some (Some t))) → i ≡ j
    once i j t (inl h) (inl k) = m.once i j t h k
    once i j t (inl h) (inr k) = let l = m.known i t h in let up = (a.fresh t k.1).0 in absurd (omega arith)
    once i j t (inr h) (inl k) = let l = m.known j t k in let up = (a.fresh t h.1).0 in absurd (omega arith)
    once i j t (inr h) (inr k) = h.0 ∙ sym k.0

    answered : (t : ℕ) (bytes : List ℕ) → Contains s (entry.Answered t bytes) ⊎ (e ≡ entry.Answered t bytes) → t < after.next
    answered t bytes (inl h) = let l = m.answered t bytes h in let up = a.later in omega arith
    answered t bytes (inr h) = a.known t bytes h

rose_one : (before now : ℕ) → Rose before now → RoseBy 1 before now
rose_one before now h = by (cases_lt before (2 ^ 64 - 1))
  where
    by : (before < 2 ^ 64 - 1) ⊎ (2 ^ 64 - 1 ≤ before) → RoseBy 1 before now
    by (inl low) = inl (omega arith)
    by (inr full) = inr (omega arith)

answered_ticket : (t u : ℕ) (a b : List ℕ) → entry.Answered t a ≡ entry.Answered u b → t ≡ u
answered_ticket t u a b e = cc

climb_bound : (low : ℕ) (ts : List ℕ) (high : ℕ) → Climb low ts high → low ≤ high
climb_bound low [] high c = c
climb_bound low (t ∷ ts) high c = let rest = climb_bound (suc t) ts high c.1 in let l = c.0 in omega arith

may : (a b c d : ℕ) → a < b → c < d → (nat_lt a b && nat_lt c d) ≡ true
may a b c d h k = grind (arith, nat_tests)

may_not : (a b c d : ℕ) → (b ≤ a) ⊎ (d ≤ c) → (nat_lt a b && nat_lt c d) ≡ false
may_not a b c d (inl h) = grind (arith, nat_tests)
may_not a b c d (inr h) = grind (arith, nat_tests)

module _ (program : List ℕ) (jobs : List (List ℕ)) (most : ℕ) (start now : Bench) (s : List Entry) (tickets : List ℕ) (m : AreMade program jobs most start now s tickets) where
  -- where fewer than so many tickets are unfinished, an entry that asks for the next job may follow
  pub may_ask_now : (job : List ℕ) (e : Entry) → length tickets < most → slice_get jobs (length (asks s)) ≡ Some job → Asks program job e → MayFollow program jobs most s e
  may_ask_now job e low next a = record { asking = λ yes. (job, next, a); finishing = λ no. absurd (true≢false (sym can ∙ no)) }
    where
      can : may_ask jobs most s ≡ true
      can =
          let few : length (unfinished s) < most = rw m.left low in
          may (length (unfinished s)) most (length (asks s)) (length jobs) few (get_within jobs (length (asks s)) job next)

  -- else one that ends the oldest
  pub may_end_now : (t : ℕ) (rest : List ℕ) (e : Entry) → tickets ≡ t ∷ rest → (most ≤ length tickets) ⊎ (length jobs ≤ length (asks s)) → Ends t e → MayFollow program jobs most s e
  may_end_now t rest e first full ends =
      record { asking = λ yes. absurd (true≢false (sym yes ∙ cannot full)); finishing = λ no. (t, ap (λ (ts : List ℕ). slice_get ts 0) (m.left ∙ first), ends) }
    where
      cannot : (most ≤ length tickets) ⊎ (length jobs ≤ length (asks s)) → may_ask jobs most s ≡ false
      cannot (inl h) = let many : most ≤ length (unfinished s) = rw m.left h in may_not (length (unfinished s)) most (length (asks s)) (length jobs) (inl many)
      cannot (inr h) = may_not (length (unfinished s)) most (length (asks s)) (length jobs) (inr h)

  -- a start
  pub started_more : (job : List ℕ) (t : ℕ) (after : Bench) → Starts program job now (Ok t) after → length tickets < most → slice_get jobs (length (asks s)) ≡ Some job
      → AreMade program jobs most start after (s ++ entry.Started program job t ∷ []) (tickets ++ t ∷ [])
  started_more job t after r low next = made_more program jobs most start now after s tickets (tickets ++ t ∷ []) (entry.Started program job t) m (record {
    follows = may_ask_now job (entry.Started program job t) low next (refl, refl);
    left = refl;
    told = r.started;
    opened = r.opens ∙ ap (λ (u : ℕ). now.open_tickets ++ u ∷ []) (sym r.ticket) ∙ ap (λ (us : List ℕ). us ++ t ∷ []) m.opened ∙ append_assoc start.open_tickets tickets (t ∷ []);
    climb = climb_more start.next tickets t after.next (subst (λ (h : ℕ). Climb start.next tickets h) (sym r.ticket) m.climb) (let up = r.raises in let is = r.ticket in omega arith);
    later = let up = r.raises in omega arith;
    fresh = λ u e. let up = r.raises in let is = r.ticket in let same : t ≡ u = some_is t u (some_is (Some t) (Some u) e) in (omega arith, omega arith);
    known = λ u bytes e. cc;
    counted = r.later;
    faults = let up = r.later in inl (omega arith);
  })

  -- a start that failed
  pub refused_more : (job : List ℕ) (after : Bench) → Starts program job now (Err helper_fault.Failed) after → length tickets < most → slice_get jobs (length (asks s)) ≡ Some job
      → AreMade program jobs most start after (s ++ entry.Refused program job ∷ []) tickets
  refused_more job after r low next = made_more program jobs most start now after s tickets tickets (entry.Refused program job) m (record {
    follows = may_ask_now job (entry.Refused program job) low next (refl, refl);
    left = refl;
    told = r.refused refl;
    opened = r.err.open_tickets ∙ m.opened;
    climb = subst (λ (h : ℕ). Climb start.next tickets h) (sym r.err.next) m.climb;
    later = let is = r.err.next in omega arith;
    fresh = λ u e. cc;
    known = λ u bytes e. cc;
    counted = r.later;
    faults = rose_one now.faults after.faults (r.failed refl);
  })

  -- the oldest ticket, and what is left without it
  module _ (t : ℕ) (rest : List ℕ) (first : tickets ≡ t ∷ rest) where
    first_climb : Climb start.next (t ∷ rest) now.next
    first_climb = subst (λ (ts : List ℕ). Climb start.next ts now.next) first m.climb

    rest_climb : Climb start.next rest now.next
    rest_climb = let l = first_climb.0 in climb_wider start.next (suc t) rest now.next (omega arith) first_climb.1

    rest_left : without t tickets ≡ rest
    rest_left = ap (λ (ts : List ℕ). without t ts) first ∙ without_first t start.next rest now.next first_climb

    rest_opened : without t now.open_tickets ≡ start.open_tickets ++ rest
    rest_opened = ap (λ (us : List ℕ). without t us) (m.opened ∙ ap (λ (ts : List ℕ). start.open_tickets ++ ts) first) ∙ without_behind t start.next start.open_tickets rest now.next m.older first_climb

    -- an answer
    pub answered_more : (bytes : Vec ℕ Global) (after : Bench) → Finishes t now (Ok bytes) after → (most ≤ length tickets) ⊎ (length jobs ≤ length (asks s))
        → AreMade program jobs most start after (s ++ entry.Answered t bytes.items ∷ []) rest
    answered_more bytes after r full = made_more program jobs most start now after s tickets rest (entry.Answered t bytes.items) m (record {
      follows = may_end_now t rest (entry.Answered t bytes.items) first full refl;
      left = rest_left;
      told = r.answered;
      opened = r.closes ∙ rest_opened;
      climb = subst (λ (h : ℕ). Climb start.next rest h) (sym r.next) rest_climb;
      later = let is = r.next in omega arith;
      fresh = λ u e. cc;
      known = λ u other e. let is = r.next in let same : t ≡ u = answered_ticket t u bytes.items other e in let up = climb_bound (suc t) rest now.next first_climb.1 in omega arith;
      counted = r.later;
      faults = let up = r.later in inl (omega arith);
    })

    -- a helper that gave no answer
    pub lost_more : (after : Bench) → Finishes t now (Err helper_fault.Failed) after → (most ≤ length tickets) ⊎ (length jobs ≤ length (asks s))
        → AreMade program jobs most start after (s ++ entry.Lost t ∷ []) rest
    lost_more after r full = made_more program jobs most start now after s tickets rest (entry.Lost t) m (record {
      follows = may_end_now t rest (entry.Lost t) first full refl;
      left = rest_left;
      told = r.lost refl;
      opened = r.closes ∙ rest_opened;
      climb = subst (λ (h : ℕ). Climb start.next rest h) (sym r.next) rest_climb;
      later = let is = r.next in omega arith;
      fresh = λ u e. cc;
      known = λ u other e. cc;
      counted = r.later;
      faults = rose_one now.faults after.faults (r.failed refl);
    })

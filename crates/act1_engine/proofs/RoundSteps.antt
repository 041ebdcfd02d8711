-- A round over marked modules only leaves what a round over all modules leaves.
use Rattle.std.proofs.Common.{ℕ, ◌+◌, ◌*◌, ◌≡◌, ◌≢◌, ◌⊎◌, ◌<◌, ◌≤◌, Bool, List, length, set, inl, inr, refl, ap, sym, ◌∙◌, subst, arith}
use Rattle.std.proofs.lemmas.Bool.{cases_eq, cases_lt}
use Rattle.std.proofs.lemmas.List.{length-set}
use Rattle.act1_circuit.specs.Firing.{site_order}
use Rattle.act1_engine.specs.declared.marks.Marks.{Marks}
use Rattle.act1_engine.specs.declared.wiring.Wiring.{Wiring}
use Rattle.act1_engine.specs.Slots.{entry}
use Rattle.act1_engine.specs.Turns.{gives, turn, turn_all, value, IsStill, IsLeastUnstill}
use Rattle.act1_engine.specs.Marking.{mark, AreMarksAt, AreReadersMarked, AreUnmarked, IsFirstMarked, IsQuiet}
use Rattle.act1_engine.specs.Rounds.{IsTable}
use Rattle.act1_engine.proofs.MarkSteps.{never_both, unmarked, unmarked_before}
use Rattle.act1_engine.proofs.TurnSteps.{next_turn, passed_to, quiet_after}

-- another value in the table
pub table_set : (n : ℕ) (wiring : Wiring) (values : List Bool) (s : ℕ) (b : Bool) → IsTable n wiring values → IsTable n wiring (set values s b)
table_set n wiring values s b table =
    let long = length-set values s b in
    record {
      pins = table.pins;
      linked = table.linked;
      count = table.count ∙ sym long;
      modules = subst (λ (k : ℕ). n ≤ k) (sym long) table.modules;
      within = λ pin low. subst (λ (k : ℕ). entry wiring.slots.items pin < k) (sym long) (table.within pin low);
    }

-- a marked module is one of the n
pub marked_within : (n at k : ℕ) (marks : Marks) → AreMarksAt n at marks → mark marks.words.items k ≡ 1 → k < n
marked_within n at k marks are one = by (are.each k one)
  where
    by : ((at ≤ k) × (k < marks.end)) ⊎ ((marks.low ≤ k) × (k < marks.high) × (k < at)) → k < n
    by (inl h) = let a = h.1 in let e = are.end_within in omega arith
    by (inr h) = let a = h.1 in let e = are.high_within in omega arith

-- no module from here on is marked where none before the end is
pub unmarked_on : (n from : ℕ) (marks : Marks) → AreMarksAt n from marks → AreUnmarked marks.words.items from marks.end → (k : ℕ) → from ≤ k → mark marks.words.items k ≡ 0
unmarked_on n from marks are none k on = unmarked marks.words.items k (λ one. by one (are.each k one))
  where
    by : mark marks.words.items k ≡ 1 → ((from ≤ k) × (k < marks.end)) ⊎ ((marks.low ≤ k) × (k < marks.high) × (k < from)) → ⊥
    by one (inl h) = never_both marks.words.items k (none k h.0 h.1) one
    by one (inr h) = let below = h.2 in absurd (omega arith)

-- between two rounds: no module below the lowest is marked
pub unmarked_below : (n : ℕ) (marks : Marks) → AreMarksAt n n marks → (k : ℕ) → k < marks.low → mark marks.words.items k ≡ 0
unmarked_below n marks are k below = unmarked marks.words.items k (λ one. by (are.each k one))
  where
    by : ((n ≤ k) × (k < marks.end)) ⊎ ((marks.low ≤ k) × (k < marks.high) × (k < n)) → ⊥
    by (inl h) = let a = h.0 in let b = are.low_within in omega arith
    by (inr h) = let a = h.0 in omega arith

-- between two rounds: none is where the bounds leave no room
pub none_marked : (n : ℕ) (marks : Marks) → AreMarksAt n n marks → marks.high ≤ marks.low → (k : ℕ) → mark marks.words.items k ≡ 0
none_marked n marks are empty k = unmarked marks.words.items k (λ one. by (are.each k one))
  where
    by : ((n ≤ k) × (k < marks.end)) ⊎ ((marks.low ≤ k) × (k < marks.high) × (k < n)) → ⊥
    by (inl h) = let a = h.0 in let b = h.1 in let e = are.end_within in omega arith
    by (inr h) = let a = h.0 in let b = h.1 in omega arith

-- between two rounds: none is from a place on where none below the bound is
pub unmarked_up : (n from : ℕ) (marks : Marks) → AreMarksAt n n marks → AreUnmarked marks.words.items from marks.high → (k : ℕ) → from ≤ k → mark marks.words.items k ≡ 0
unmarked_up n from marks are none k on = unmarked marks.words.items k (λ one. by one (are.each k one))
  where
    by : mark marks.words.items k ≡ 1 → ((n ≤ k) × (k < marks.end)) ⊎ ((marks.low ≤ k) × (k < marks.high) × (k < n)) → ⊥
    by one (inl h) = let a = h.0 in let b = h.1 in let e = are.end_within in omega arith
    by one (inr h) = never_both marks.words.items k (none k on h.1) one

-- the marks of the next round are those of this one
pub round_begins : (n : ℕ) (marks now : Marks) → AreMarksAt n n marks → now.words.items ≡ marks.words.items → now.end ≡ marks.high → now.low ≡ n → now.high ≡ 0 → AreMarksAt n marks.low now
round_begins n marks now are words end low high = record {
  room = subst (λ (ws : List ℕ). n ≤ 64 * length ws) (sym words) are.room;
  end_within = let h = are.high_within in omega arith;
  low_within = omega arith;
  high_within = omega arith;
  each = λ k one. by k (are.each k (ap (λ (ws : List ℕ). mark ws k) (sym words) ∙ one));
}
  where
    by : (k : ℕ) → ((n ≤ k) × (k < marks.end)) ⊎ ((marks.low ≤ k) × (k < marks.high) × (k < n)) → ((marks.low ≤ k) × (k < now.end)) ⊎ ((now.low ≤ k) × (k < now.high) × (k < marks.low))
    by k (inl h) = let a = h.0 in let b = h.1 in let e = are.end_within in absurd (omega arith)
    by k (inr h) = let b = h.1 in inl (h.0, omega arith)

-- what is left at a round's end has its turn in the next
pub round_ends : (n from : ℕ) (marks : Marks) → from ≤ n → AreMarksAt n from marks → AreUnmarked marks.words.items from marks.end → AreMarksAt n n marks
round_ends n from marks up are none = record {
  room = are.room;
  end_within = are.end_within;
  low_within = are.low_within;
  high_within = are.high_within;
  each = λ k one. by k one (are.each k one);
}
  where
    by : (k : ℕ) → mark marks.words.items k ≡ 1 → ((from ≤ k) × (k < marks.end)) ⊎ ((marks.low ≤ k) × (k < marks.high) × (k < from)) → ((n ≤ k) × (k < marks.end)) ⊎ ((marks.low ≤ k) × (k < marks.high) × (k < n))
    by k one (inl h) = absurd (never_both marks.words.items k (none k h.0 h.1) one)
    by k one (inr h) = let a = h.2 in inr (h.0, h.1, omega arith)

-- a module has its turn, and has no mark any more
pub turn_taken : (n from m : ℕ) (marks now : Marks) → AreMarksAt n from marks → IsFirstMarked marks.words.items from m → length now.words.items ≡ length marks.words.items
    → now.end ≡ marks.end → now.low ≡ marks.low → now.high ≡ marks.high → mark now.words.items m ≡ 0 → ((k : ℕ) → k ≢ m → mark now.words.items k ≡ mark marks.words.items k) → AreMarksAt n (m + 1) now
turn_taken n from m marks now are first long end low high here others = record {
  room = let r = are.room in omega arith;
  end_within = let r = are.end_within in omega arith;
  low_within = let r = are.low_within in omega arith;
  high_within = let r = are.high_within in omega arith;
  each = λ k one. each k one (cases_eq k m);
}
  where
    by : (k : ℕ) → k ≢ m → mark marks.words.items k ≡ 1 → ((from ≤ k) × (k < marks.end)) ⊎ ((marks.low ≤ k) × (k < marks.high) × (k < from)) → (k < m) ⊎ (m ≤ k)
        → ((m + 1 ≤ k) × (k < now.end)) ⊎ ((now.low ≤ k) × (k < now.high) × (k < m + 1))
    by k apart one (inl h) (inl below) = absurd (never_both marks.words.items k (first.first k h.0 below) one)
    by k apart one (inl h) (inr above) = let a = h.1 in inl (omega arith, omega arith)
    by k apart one (inr h) c = let a = h.0 in let b = h.1 in let d = h.2 in let e = first.from_on in inr (omega arith, omega arith, omega arith)

    each : (k : ℕ) → mark now.words.items k ≡ 1 → (k ≡ m) ⊎ (k ≡ m → ⊥) → ((m + 1 ≤ k) × (k < now.end)) ⊎ ((now.low ≤ k) × (k < now.high) × (k < m + 1))
    each k one (inl e) = absurd (never_both now.words.items m here (ap (mark now.words.items) (sym e) ∙ one))
    each k one (inr ne) = let before = sym (others k ne) ∙ one in by k ne before (are.each k before) (cases_lt k m)

-- the module fires: a module without a mark has the value that it gives
pub quiet_fired : (n m : ℕ) (slots : List ℕ) (values : List Bool) (words now new : List ℕ) → length slots ≡ 8 * n → m < length values → IsQuiet slots values words n
    → ((k : ℕ) → k ≢ m → mark now k ≡ mark words k) → ((k : ℕ) → mark now k ≡ 1 → mark new k ≡ 1) → (value values m ≢ gives slots values m → AreReadersMarked slots m new)
    → IsQuiet slots (turn slots values m) new n
quiet_fired n m slots values words now new pins low quiet others keeps readers =
    quiet_after slots values new n m (gives slots values m) pins low readers
    (λ k within none apart. quiet k within (sym (others k apart) ∙ unmarked_before now new k (keeps k) none)) (λ within. refl)

-- a value outside the modules is set
pub quiet_set : (n s : ℕ) (slots : List ℕ) (values : List Bool) (b : Bool) (words new : List ℕ) → length slots ≡ 8 * n → s < length values → n ≤ s → IsQuiet slots values words n
    → ((k : ℕ) → mark words k ≡ 1 → mark new k ≡ 1) → (value values s ≢ b → AreReadersMarked slots s new) → IsQuiet slots (set values s b) new n
quiet_set n s slots values b words new pins low outside quiet keeps readers =
    quiet_after slots values new n s b pins low readers (λ k within none apart. quiet k within (unmarked_before words new k (keeps k) none)) (λ within. absurd (omega arith))

-- what a round keeps that has come so far
pub record RoundAt (n from : ℕ) (wiring : Wiring) (start values : List Bool) (marks : Marks) : Type 0 where
  pub up : from ≤ n
  pub fires : values ≡ turn_all wiring.slots.items start (site_order from)
  pub table : IsTable n wiring values
  pub marked : AreMarksAt n from marks
  pub quiet : IsQuiet wiring.slots.items values marks.words.items n

pub round_starts : (n : ℕ) (wiring : Wiring) (values : List Bool) (marks now : Marks) → IsTable n wiring values → AreMarksAt n n marks → IsQuiet wiring.slots.items values marks.words.items n
    → now.words.items ≡ marks.words.items → now.end ≡ marks.high → now.low ≡ n → now.high ≡ 0 → RoundAt n marks.low wiring values values now
round_starts n wiring values marks now table are quiet words end low high = record {
  up = are.low_within;
  fires = passed_to wiring.slots.items values values 0 marks.low (omega arith) refl
      (λ k from below. let few : k < n = let l = are.low_within in omega arith in quiet k few (unmarked_below n marks are k below));
  table = table;
  marked = round_begins n marks now are words end low high;
  quiet = subst (λ (ws : List ℕ). IsQuiet wiring.slots.items values ws n) (sym words) quiet;
}

pub round_goes : (n from m : ℕ) (wiring : Wiring) (start values next : List Bool) (marks now : Marks) → RoundAt n from wiring start values marks → IsFirstMarked marks.words.items from m
    → next ≡ turn wiring.slots.items values m → IsTable n wiring next → AreMarksAt n (m + 1) now → IsQuiet wiring.slots.items next now.words.items n → RoundAt n (m + 1) wiring start next now
round_goes n from m wiring start values next marks now so_far first fires table marked quiet =
    let within = marked_within n from m marks so_far.marked first.marked in
    let on = first.from_on in
    record {
      up = omega arith;
      fires = fires ∙ ap (λ (v : List Bool). turn wiring.slots.items v m) (passed_to wiring.slots.items start values from m on so_far.fires
          (λ k above below. let few : k < n = omega arith in so_far.quiet k few (first.first k above below))) ∙ sym (next_turn wiring.slots.items start m);
      table = table;
      marked = marked;
      quiet = quiet;
    }

pub round_done : (n from : ℕ) (wiring : Wiring) (start values : List Bool) (marks : Marks) → RoundAt n from wiring start values marks → AreUnmarked marks.words.items from marks.end
    → values ≡ turn_all wiring.slots.items start (site_order n)
round_done n from wiring start values marks so_far none =
    passed_to wiring.slots.items start values from n so_far.up so_far.fires (λ k above below. so_far.quiet k below (unmarked_on n from marks so_far.marked none k above))

-- where no module before this one changes its value, and those between have no mark
between : (n from m : ℕ) (slots : List ℕ) (values : List Bool) (words : List ℕ) → m ≤ n → ((k : ℕ) → from ≤ k → k < m → mark words k ≡ 0) → IsQuiet slots values words n → ((k : ℕ) → k < from → gives slots values k ≡ value values k)
    → (k : ℕ) → k < m → gives slots values k ≡ value values k
between n from m slots values words up none quiet before k below = by (cases_lt k from)
  where
    by : (k < from) ⊎ (from ≤ k) → gives slots values k ≡ value values k
    by (inl h) = before k h
    by (inr h) = quiet k (omega arith) (none k h below)

pub least_unstill : (n from m : ℕ) (slots : List ℕ) (values : List Bool) (words : List ℕ) → m < n → IsFirstMarked words from m → IsQuiet slots values words n → ((k : ℕ) → k < from → gives slots values k ≡ value values k)
    → gives slots values m ≢ value values m → IsLeastUnstill slots values n m
least_unstill n from m slots values words within first quiet before changes = record {
  within = within;
  changes = changes;
  least = between n from m slots values words (omega arith) first.first quiet before;
}

pub still_more : (n from m : ℕ) (slots : List ℕ) (values : List Bool) (words : List ℕ) → m < n → IsFirstMarked words from m → IsQuiet slots values words n → ((k : ℕ) → k < from → gives slots values k ≡ value values k)
    → gives slots values m ≡ value values m → (k : ℕ) → k < m + 1 → gives slots values k ≡ value values k
still_more n from m slots values words within first quiet before same k below = by (cases_eq k m)
  where
    by : (k ≡ m) ⊎ (k ≡ m → ⊥) → gives slots values k ≡ value values k
    by (inl e) = ap (gives slots values) e ∙ same ∙ ap (value values) (sym e)
    by (inr ne) = between n from m slots values words (omega arith) first.first quiet before k (omega arith)

pub still_all : (n from : ℕ) (slots : List ℕ) (values : List Bool) (marks : Marks) → AreMarksAt n n marks → AreUnmarked marks.words.items from marks.high → IsQuiet slots values marks.words.items n → ((k : ℕ) → k < from → gives slots values k ≡ value values k)
    → IsStill slots values n
still_all n from slots values marks are none quiet before =
    between n from n slots values marks.words.items (omega arith) (λ k on below. unmarked_up n from marks are none k on) quiet before

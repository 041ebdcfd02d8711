-- The pins at a slot, walked from the last to the first, and what setting a value keeps.
use Rattle.std.proofs.Common.{ℕ, ◌+◌, ◌-◌, ◌*◌, ◌/◌, ◌≡◌, ◌⊎◌, ◌<◌, ◌≤◌, List, length, inl, inr, refl, ap, sym, ◌∙◌, arith}
use Rattle.std.proofs.lemmas.Bool.{cases_eq, cases_lt}
use Rattle.act1_engine.specs.declared.marks.Marks.{Marks}
use Rattle.act1_engine.specs.Slots.{entry, IsLast}
use Rattle.act1_engine.specs.Marking.{mark, Adds}

pub adds_none : (n at : ℕ) (marks : Marks) → Adds n at marks marks
adds_none n at marks = record { long = refl; keeps = λ k one. one; goes = λ are. are }

pub adds_more : (n at : ℕ) (old marks new : Marks) → Adds n at old marks → Adds n at marks new → Adds n at old new
adds_more n at old marks new first second = record {
  long = second.long ∙ first.long;
  keeps = λ k one. second.keeps k (first.keeps k one);
  goes = λ are. second.goes (first.goes are);
}

-- the pins at the slot from link on are walked: their modules are marked
pub record WalkedTo (slots : List ℕ) (s link at : ℕ) (old marks : Marks) : Type 0 where
  pub before : link ≤ length slots
  pub there : 0 < link → entry slots (link - 1) ≡ s
  pub marked : (pin : ℕ) → link ≤ pin → pin < length slots → entry slots pin ≡ s → mark marks.words.items (pin / 8) ≡ 1
  pub long : length marks.words.items ≡ length old.words.items
  pub adds : (n : ℕ) → length slots ≡ 8 * n → Adds n at old marks

pub walk_begins : (slots : List ℕ) (s link at : ℕ) (marks : Marks) → IsLast (entry slots) s (length slots) link → WalkedTo slots s link at marks marks
walk_begins slots s link at marks last = record {
  before = last.before;
  there = last.there;
  marked = λ pin from below is. absurd (last.last pin from below is);
  long = refl;
  adds = λ n e. adds_none n at marks;
}

pub walk_goes : (slots : List ℕ) (s link next at : ℕ) (old marks new : Marks) → 0 < link → WalkedTo slots s link at old marks → IsLast (entry slots) (entry slots (link - 1)) (link - 1) next
    → mark new.words.items ((link - 1) / 8) ≡ 1 → ((n : ℕ) → (link - 1) / 8 < n → Adds n at marks new) → WalkedTo slots s next at old new
walk_goes slots s link next at old marks new some walked last here adds =
    let here_is = walked.there some in
    let fits = walked.before in
    let low = last.before in
    let own = adds ((link - 1) / 8 + 1) (omega arith) in
    record {
      before = omega arith;
      there = λ more. last.there more ∙ here_is;
      marked = λ pin from below is. by pin from below is (cases_lt pin link);
      long = own.long ∙ walked.long;
      adds = λ n e. adds_more n at old marks new (walked.adds n e) (adds n (omega arith));
    }
  where
    at_link : (pin : ℕ) → next ≤ pin → entry slots pin ≡ s → pin < link → (pin ≡ link - 1) ⊎ (pin ≡ link - 1 → ⊥) → mark new.words.items (pin / 8) ≡ 1
    at_link pin from is below (inl e) = ap (λ (p : ℕ). mark new.words.items (p / 8)) e ∙ here
    at_link pin from is below (inr ne) = absurd (last.last pin from (omega arith) (is ∙ sym (walked.there some)))

    by : (pin : ℕ) → next ≤ pin → pin < length slots → entry slots pin ≡ s → (pin < link) ⊎ (link ≤ pin) → mark new.words.items (pin / 8) ≡ 1
    by pin from below is (inl h) = at_link pin from is h (cases_eq pin (link - 1))
    by pin from below is (inr h) = (adds ((link - 1) / 8 + 1) (omega arith)).keeps (pin / 8) (walked.marked pin h below is)

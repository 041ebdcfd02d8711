-- Marks in words of 64 bits: one that is set or taken, and the first from a place on.
use Rattle.std.proofs.Common.{ℕ, ◌+◌, ◌-◌, ◌*◌, ◌/◌, ◌%◌, ◌^◌, ◌≡◌, ◌≢◌, ◌⊎◌, ◌<◌, ◌≤◌, List, length, set, bit_and, min, inl, inr, ap, sym, ◌∙◌, arith}
use Rattle.std.specs.Int.{bit_at}
use Rattle.std.proofs.lemmas.Bool.{cases_eq, cases_lt}
use Rattle.std.proofs.lemmas.List.{get_or-set_same, get_or-set_other}
use Rattle.std.proofs.lemmas.Nat.Bits.{bit_at-zero, bit_at-lt, bit_at_and, bit_at_mask_inside, bit_at_mask_below, ones_shl}
use Rattle.act1_engine.specs.declared.marks.Marks.{Marks}
use Rattle.act1_engine.specs.Slots.{entry}
use Rattle.act1_engine.specs.Marking.{mark, AreMarksAt, IsFirstMarked, IsLowestBit, AreUnmarked, Adds}

-- a word has changed: the mark of its module
pub mark_same : (words : List ℕ) (m word b : ℕ) → m / 64 < length words → bit_at word (m % 64) ≡ b → mark (set words (m / 64) word) m ≡ b
mark_same words m word b low is = ap (λ (w : ℕ). bit_at w (m % 64)) (get_or-set_same words (m / 64) word 0 low) ∙ is

-- and of another, where only that bit of the word has changed
pub mark_other : (words : List ℕ) (m word : ℕ) → m / 64 < length words → ((i : ℕ) → i < 64 → i ≢ m % 64 → bit_at word i ≡ bit_at (entry words (m / 64)) i)
    → (k : ℕ) → k ≢ m → mark (set words (m / 64) word) k ≡ mark words k
mark_other words m word low same k apart = by (cases_eq (k / 64) (m / 64))
  where
    by : (k / 64 ≡ m / 64) ⊎ (k / 64 ≡ m / 64 → ⊥) → mark (set words (m / 64) word) k ≡ mark words k
    by (inl e) =
        let bits : k % 64 ≢ m % 64 = λ f. apart (omega arith) in
        ap (λ (j : ℕ). bit_at (entry (set words (m / 64) word) j) (k % 64)) e
        ∙ ap (λ (w : ℕ). bit_at w (k % 64)) (get_or-set_same words (m / 64) word 0 low)
        ∙ same (k % 64) (omega arith) bits
        ∙ ap (λ (j : ℕ). bit_at (entry words j) (k % 64)) (sym e)
    by (inr other) = ap (λ (w : ℕ). bit_at w (k % 64)) (get_or-set_other words (m / 64) (k / 64) word 0 other)

-- a mark is 0 or 1
pub unmarked : (words : List ℕ) (k : ℕ) → (mark words k ≡ 1 → ⊥) → mark words k ≡ 0
unmarked words k not_one = by (cases_eq (mark words k) 1)
  where
    by : (mark words k ≡ 1) ⊎ (mark words k ≡ 1 → ⊥) → mark words k ≡ 0
    by (inl e) = absurd (not_one e)
    by (inr ne) = let few = bit_at-lt (entry words (k / 64)) (k % 64) in omega arith

pub never_both : (words : List ℕ) (k : ℕ) → mark words k ≡ 0 → mark words k ≡ 1 → ⊥
never_both words k none one = omega arith

-- what was marked and what was not
pub unmarked_before : (old new : List ℕ) (k : ℕ) → (mark old k ≡ 1 → mark new k ≡ 1) → mark new k ≡ 0 → mark old k ≡ 0
unmarked_before old new k keeps none = unmarked old k (λ one. never_both new k none (keeps one))

-- a module more is marked
kept : (old new : List ℕ) (m : ℕ) → mark new m ≡ 1 → ((k : ℕ) → k ≢ m → mark new k ≡ mark old k) → (k : ℕ) → mark old k ≡ 1 → mark new k ≡ 1
kept old new m here others k one = by (cases_eq k m)
  where
    by : (k ≡ m) ⊎ (k ≡ m → ⊥) → mark new k ≡ 1
    by (inl e) = ap (mark new) e ∙ here
    by (inr ne) = others k ne ∙ one

pub noted_now : (n at m : ℕ) (old new : Marks) → m < n → at ≤ m → length new.words.items ≡ length old.words.items → mark new.words.items m ≡ 1
    → ((k : ℕ) → k ≢ m → mark new.words.items k ≡ mark old.words.items k) → old.end ≤ new.end → m < new.end → (new.end ≡ old.end) ⊎ (new.end ≡ m + 1) → new.low ≡ old.low → new.high ≡ old.high → Adds n at old new
noted_now n at m old new within here_on long here others more above bound same_low same_high = record {
  long = long;
  keeps = kept old.words.items new.words.items m here others;
  goes = λ before. record {
    room = let r = before.room in omega arith;
    end_within = end_fits bound before.end_within;
    low_within = let r = before.low_within in omega arith;
    high_within = let r = before.high_within in omega arith;
    each = λ k one. each before k one (cases_eq k m);
  };
}
  where
    end_fits : (new.end ≡ old.end) ⊎ (new.end ≡ m + 1) → old.end ≤ n → new.end ≤ n
    end_fits (inl e) h = omega arith
    end_fits (inr e) h = omega arith

    moved : (k : ℕ) → ((at ≤ k) × (k < old.end)) ⊎ ((old.low ≤ k) × (k < old.high) × (k < at)) → ((at ≤ k) × (k < new.end)) ⊎ ((new.low ≤ k) × (k < new.high) × (k < at))
    moved k (inl h) = let a = h.0 in let b = h.1 in inl (a, omega arith)
    moved k (inr h) = let a = h.0 in let b = h.1 in inr (omega arith, omega arith, h.2)

    each : AreMarksAt n at old → (k : ℕ) → mark new.words.items k ≡ 1 → (k ≡ m) ⊎ (k ≡ m → ⊥) → ((at ≤ k) × (k < new.end)) ⊎ ((new.low ≤ k) × (k < new.high) × (k < at))
    each before k one (inl e) = inl (omega arith, omega arith)
    each before k one (inr ne) = moved k (before.each k (sym (others k ne) ∙ one))

pub noted_next : (n at m : ℕ) (old new : Marks) → m < n → m < at → length new.words.items ≡ length old.words.items → mark new.words.items m ≡ 1
    → ((k : ℕ) → k ≢ m → mark new.words.items k ≡ mark old.words.items k) → new.end ≡ old.end → new.low ≤ old.low → new.low ≤ m → old.high ≤ new.high → m < new.high → (new.high ≡ old.high) ⊎ (new.high ≡ m + 1) → Adds n at old new
noted_next n at m old new within passed long here others same_end less below more above bound = record {
  long = long;
  keeps = kept old.words.items new.words.items m here others;
  goes = λ before. record {
    room = let r = before.room in omega arith;
    end_within = let r = before.end_within in omega arith;
    low_within = let r = before.low_within in omega arith;
    high_within = high_fits bound before.high_within;
    each = λ k one. each before k one (cases_eq k m);
  };
}
  where
    high_fits : (new.high ≡ old.high) ⊎ (new.high ≡ m + 1) → old.high ≤ n → new.high ≤ n
    high_fits (inl e) h = omega arith
    high_fits (inr e) h = omega arith

    moved : (k : ℕ) → ((at ≤ k) × (k < old.end)) ⊎ ((old.low ≤ k) × (k < old.high) × (k < at)) → ((at ≤ k) × (k < new.end)) ⊎ ((new.low ≤ k) × (k < new.high) × (k < at))
    moved k (inl h) = let b = h.1 in inl (h.0, omega arith)
    moved k (inr h) = let a = h.0 in let b = h.1 in inr (omega arith, omega arith, h.2)

    each : AreMarksAt n at old → (k : ℕ) → mark new.words.items k ≡ 1 → (k ≡ m) ⊎ (k ≡ m → ⊥) → ((at ≤ k) × (k < new.end)) ⊎ ((new.low ≤ k) × (k < new.high) × (k < at))
    each before k one (inl e) = inr (omega arith, omega arith, omega arith)
    each before k one (inr ne) = moved k (before.each k (sym (others k ne) ∙ one))

-- a word of which the lower bits are cut away
abbrev pub upper : ℕ → ℕ → ℕ
upper word k = bit_and word (18446744073709551615 * 2 ^ k % 2 ^ 64)

upper_inside : (word k i : ℕ) → k ≤ i → i < 64 → bit_at (upper word k) i ≡ bit_at word i
upper_inside word k i above low =
    let mask : bit_at (18446744073709551615 * 2 ^ k % 2 ^ 64) i ≡ 1 = ap (λ (w : ℕ). bit_at w i) (ones_shl 64 k (omega arith)) ∙ bit_at_mask_inside k 64 i above low in
    let both = bit_at_and word (18446744073709551615 * 2 ^ k % 2 ^ 64) i in
    let few = bit_at-lt word i in
    both ∙ ap (min (bit_at word i)) mask ∙ least (bit_at word i) few
  where
    least : (b : ℕ) → b < 2 → min b 1 ≡ b
    least b h = omega arith

upper_below : (word k i : ℕ) → k ≤ 64 → i < k → bit_at (upper word k) i ≡ 0
upper_below word k i fits below =
    let mask : bit_at (18446744073709551615 * 2 ^ k % 2 ^ 64) i ≡ 0 = ap (λ (w : ℕ). bit_at w i) (ones_shl 64 k fits) ∙ bit_at_mask_below k 64 i below in
    bit_at_and word (18446744073709551615 * 2 ^ k % 2 ^ 64) i ∙ ap (min (bit_at word i)) mask ∙ least (bit_at word i)
  where
    least : (b : ℕ) → min b 0 ≡ 0
    least b = omega arith

-- the bits of the modules of a word
at_word : (words : List ℕ) (k block : ℕ) → k / 64 ≡ block → mark words k ≡ bit_at (entry words block) (k % 64)
at_word words k block e = ap (λ (j : ℕ). bit_at (entry words j) (k % 64)) e

-- the first marked module of a word, from one of its modules on
pub first_above : (words : List ℕ) (from bit : ℕ) → IsLowestBit (upper (entry words (from / 64)) (from % 64)) bit → IsFirstMarked words from (64 * (from / 64) + bit)
first_above words from bit lowest = by (cases_lt bit (from % 64))
  where
    word : ℕ
    word = entry words (from / 64)

    by : (bit < from % 64) ⊎ (from % 64 ≤ bit) → IsFirstMarked words from (64 * (from / 64) + bit)
    by (inl below) = let none = upper_below (entry words (from / 64)) (from % 64) bit (omega arith) below in let there = lowest.there in absurd (omega arith)
    by (inr above) =
        let small = lowest.within in
        let place : (64 * (from / 64) + bit) / 64 ≡ from / 64 = omega arith in
        let within : (64 * (from / 64) + bit) % 64 ≡ bit = omega arith in
        record {
          from_on = omega arith;
          marked = at_word words (64 * (from / 64) + bit) (from / 64) place ∙ ap (bit_at (entry words (from / 64))) within ∙ sym (upper_inside (entry words (from / 64)) (from % 64) bit above small) ∙ lowest.there;
          first = λ k from_on before.
              let here : k / 64 ≡ from / 64 = omega arith in
              let on : from % 64 ≤ k % 64 = omega arith in
              let below : k % 64 < bit = omega arith in
              let fits : k % 64 < 64 = omega arith in
              at_word words k (from / 64) here ∙ sym (upper_inside (entry words (from / 64)) (from % 64) (k % 64) on fits) ∙ lowest.lowest (k % 64) below;
        }

pub none_above : (words : List ℕ) (from : ℕ) → upper (entry words (from / 64)) (from % 64) ≡ 0 → AreUnmarked words from (64 * (from / 64) + 64)
none_above words from none k from_on before =
    let here : k / 64 ≡ from / 64 = omega arith in
    let on : from % 64 ≤ k % 64 = omega arith in
    let fits : k % 64 < 64 = omega arith in
    at_word words k (from / 64) here ∙ sym (upper_inside (entry words (from / 64)) (from % 64) (k % 64) on fits) ∙ ap (λ (w : ℕ). bit_at w (k % 64)) none ∙ bit_at-zero (k % 64)

-- a word more
pub none_in_word : (words : List ℕ) (block place : ℕ) → AreUnmarked words (64 * block) (64 * place) → entry words place ≡ 0 → AreUnmarked words (64 * block) (64 * (place + 1))
none_in_word words block place so_far none k from_on before = by (cases_lt k (64 * place))
  where
    by : (k < 64 * place) ⊎ (64 * place ≤ k) → mark words k ≡ 0
    by (inl h) = so_far k from_on h
    by (inr h) =
        let here : k / 64 ≡ place = omega arith in
        at_word words k place here ∙ ap (λ (w : ℕ). bit_at w (k % 64)) none ∙ bit_at-zero (k % 64)

pub first_in_place : (words : List ℕ) (block place bit : ℕ) → block ≤ place → AreUnmarked words (64 * block) (64 * place) → IsLowestBit (entry words place) bit → IsFirstMarked words (64 * block) (64 * place + bit)
first_in_place words block place bit after so_far lowest =
    let small = lowest.within in
    let there : (64 * place + bit) / 64 ≡ place = omega arith in
    let within : (64 * place + bit) % 64 ≡ bit = omega arith in
    record {
      from_on = omega arith;
      marked = at_word words (64 * place + bit) place there ∙ ap (bit_at (entry words place)) within ∙ lowest.there;
      first = λ k from_on before. first k from_on before (cases_lt k (64 * place));
    }
  where
    first : (k : ℕ) → 64 * block ≤ k → k < 64 * place + bit → (k < 64 * place) ⊎ (64 * place ≤ k) → mark words k ≡ 0
    first k from_on before (inl h) = so_far k from_on h
    first k from_on before (inr h) =
        let small = lowest.within in
        let here : k / 64 ≡ place = omega arith in
        let below : k % 64 < bit = omega arith in
        at_word words k place here ∙ lowest.lowest (k % 64) below

-- behind a word without a marked module
pub first_behind : (words : List ℕ) (from m : ℕ) → AreUnmarked words from (64 * (from / 64) + 64) → IsFirstMarked words (64 * (from / 64 + 1)) m → IsFirstMarked words from m
first_behind words from m none found =
    let on = found.from_on in
    record {
      from_on = omega arith;
      marked = found.marked;
      first = λ k from_on before. by k from_on before (cases_lt k (64 * (from / 64) + 64));
    }
  where
    by : (k : ℕ) → from ≤ k → k < m → (k < 64 * (from / 64) + 64) ⊎ (64 * (from / 64) + 64 ≤ k) → mark words k ≡ 0
    by k from_on before (inl h) = none k from_on h
    by k from_on before (inr h) = found.first k (omega arith) before

pub none_behind : (words : List ℕ) (from end : ℕ) → 0 < end → AreUnmarked words from (64 * (from / 64) + 64) → AreUnmarked words (64 * (from / 64 + 1)) (64 * ((end - 1) / 64 + 1)) → AreUnmarked words from end
none_behind words from end some none others k from_on before = by (cases_lt k (64 * (from / 64) + 64))
  where
    by : (k < 64 * (from / 64) + 64) ⊎ (64 * (from / 64) + 64 ≤ k) → mark words k ≡ 0
    by (inl h) = none k from_on h
    by (inr h) = others k (omega arith) (omega arith)

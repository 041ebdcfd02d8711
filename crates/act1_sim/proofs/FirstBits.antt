-- The bits with which a simulation begins, start by start.
use Rattle.std.proofs.Common.{ℕ, zero, suc, ◌≡◌, ◌≢◌, ◌+◌, ◌<◌, ◌≤◌, ◌==◌, Bool, true, false, nat_le, if◌then◌else◌, List, [], ◌∷◌, ◌++◌, length, get_or, take, Some, All, AllPairs, Contains, slice_set, inl, inr, ◌⊎◌, refl, sym, ap, subst, ◌∙◌, arith, length-set, replicate}
use Rattle.std.proofs.lemmas.List.{take_more, length-take-le, get_or-take, get_or-replicate, length-replicate}
use Rattle.std.proofs.lemmas.List.Elements.{Contains-append_cases, Contains-append_left, Contains-append_right}
use Rattle.std.proofs.lemmas.Option.{slice_get-get_or}
use Rattle.std.specs.Prelude.{slice_get}
use Rattle.act1_base.proofs.ListGets.{some_is, get_written, get_unwritten}
use Rattle.act1_circuit.specs.declared.circuit.Start.{Start}
use Rattle.act1_sim.specs.Cycles.{AreFirstBits}

-- the bits with what one more start says
abbrev with_start : List Bool → Start → Bool → List Bool
with_start bits start says = if says then slice_set bits start.module (start.init == 1) else bits

module _ (before : List Start) (start : Start) (count : ℕ) (fill : Bool) (bits : List Bool) where
  only_last : (s : Start) → Contains (start ∷ []) s → s ≡ start
  only_last s (zero, low, e) = sym e
  only_last s (suc k, low, e) = absurd (omega arith)

  -- a start that says its bit
  says_bit : (apart : (s : Start) → Contains before s → s.module ≢ start.module) → start.module < count → start.init ≤ 1 → AreFirstBits before count fill bits
      → AreFirstBits (before ++ start ∷ []) count fill (slice_set bits start.module (start.init == 1))
  says_bit apart inside says old = record {
    one_each = length-set bits start.module (start.init == 1) ∙ old.one_each;
    declared = λ s there low. declared_by s low (Contains-append_cases before (start ∷ []) s there);
    filled = λ m within none.
        let other : m ≢ start.module = λ e. let over = none start (Contains-append_right before (start ∷ []) start (0, omega arith, refl)) (sym e) in absurd (omega arith) in
        get_unwritten bits start.module m (start.init == 1) other ∙ old.filled m within (λ s there e. none s (Contains-append_left before (start ∷ []) s there) e);
  }
    where
      declared_by : (s : Start) → s.init ≤ 1 → Contains before s ⊎ Contains (start ∷ []) s → slice_get (slice_set bits start.module (start.init == 1)) s.module ≡ Some (s.init == 1)
      declared_by s low (inl there) = get_unwritten bits start.module s.module (start.init == 1) (apart s there) ∙ old.declared s there low
      declared_by s low (inr last) =
          let e = only_last s last in
          let all = old.one_each in
          subst (λ (t : Start). slice_get (slice_set bits start.module (start.init == 1)) t.module ≡ Some (t.init == 1)) (sym e) (get_written bits start.module (start.init == 1) (omega arith))

  -- a start that leaves its bit free
  leaves_bit : 1 < start.init → AreFirstBits before count fill bits → AreFirstBits (before ++ start ∷ []) count fill bits
  leaves_bit free old = record {
    one_each = old.one_each;
    declared = λ s there low. declared_by s low (Contains-append_cases before (start ∷ []) s there);
    filled = λ m within none. old.filled m within (λ s there e. none s (Contains-append_left before (start ∷ []) s there) e);
  }
    where
      declared_by : (s : Start) → s.init ≤ 1 → Contains before s ⊎ Contains (start ∷ []) s → slice_get bits s.module ≡ Some (s.init == 1)
      declared_by s low (inl there) = old.declared s there low
      declared_by s low (inr last) = let e = ap (λ (t : Start). t.init) (only_last s last) in absurd (omega arith)

  one_more : (apart : (s : Start) → Contains before s → s.module ≢ start.module) → start.module < count → AreFirstBits before count fill bits
      → (says : Bool) → says ≡ nat_le start.init 1 → AreFirstBits (before ++ start ∷ []) count fill (with_start bits start says)
  one_more apart inside old true e = says_bit apart inside (grind (arith, e)) old
  one_more apart inside old false e = leaves_bit (grind (arith, e)) old

-- the next start of the list
pub next_start : (starts : List Start) (i : ℕ) (start : Start) (count : ℕ) (fill : Bool) (bits new : List Bool) → i < length starts → start ≡ get_or starts i start
    → AllPairs (λ (s t : Start). s.module ≢ t.module) starts → All (λ (s : Start). s.module < count) starts → AreFirstBits (take i starts) count fill bits
    → new ≡ (if nat_le start.init 1 then slice_set bits start.module (start.init == 1) else bits) → AreFirstBits (take (i + 1) starts) count fill new
next_start starts i start count fill bits new low is apart inside old e =
    let others : (s : Start) → Contains (take i starts) s → s.module ≢ start.module = λ s (k, within, same).
    let short = length-take-le i starts (omega arith) in
    let read = get_or-take i starts k s (omega arith) in
    let pair = apart k i s (omega arith) low in
    let here = some_is start (get_or starts i s) (ap (λ (t : Start). Some t) is ∙ sym (slice_get-get_or starts i start low) ∙ slice_get-get_or starts i s low) in
    λ equal. pair (ap (λ (t : Start). t.module) (sym read ∙ same) ∙ equal ∙ ap (λ (t : Start). t.module) here) in
    let here = subst (λ (t : Start). t.module < count) (sym is) (inside i start low) in
    subst (λ (list : List Start). AreFirstBits list count fill new) (ap (λ (t : Start). take i starts ++ t ∷ []) is ∙ sym (take_more starts i start low))
    (subst (λ (b : List Bool). AreFirstBits (take i starts ++ start ∷ []) count fill b) (sym e) (one_more (take i starts) start count fill bits others here old (nat_le start.init 1) refl))

-- before any start
pub no_start : (count : ℕ) (fill : Bool) → AreFirstBits [] count fill (replicate count fill)
no_start count fill = record {
  one_each = length-replicate count fill;
  declared = λ s (k, low, e) small. absurd (omega arith);
  filled = λ m within none.
      let all = length-replicate count fill in
      slice_get-get_or (replicate count fill) m false (omega arith) ∙ ap (λ (b : Bool). Some b) (get_or-replicate count m fill false within);
}

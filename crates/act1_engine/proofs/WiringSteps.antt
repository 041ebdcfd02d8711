-- The pins of a circuit, taken one after the other.
use Rattle.std.proofs.Common.{ℕ, ◌+◌, ◌-◌, ◌*◌, ◌/◌, ◌%◌, ◌≡◌, ◌≢◌, ◌⊎◌, ◌<◌, ◌≤◌, List, [], ◌∷◌, ◌++◌, length, set, inl, inr, refl, ap, sym, ◌∙◌, subst, arith}
use Rattle.std.proofs.lemmas.Bool.{cases_eq}
use Rattle.std.proofs.lemmas.List.{length-set, length_push, get_or_append_left, get_or_push, get_or-set_same, get_or-set_other, get_or-replicate, length-replicate}
use Rattle.std.specs.Prelude.{replicate}
use Rattle.act1_circuit.specs.declared.circuit.Circuit.{Circuit}
use Rattle.act1_circuit.specs.declared.circuit.Source.{Source}
use Rattle.act1_circuit.specs.declared.circuit.Source.TheVariants.{Zero, One, Clock, Input, Module}
use Rattle.act1_circuit.specs.Range.{HasSource, InRange}
use Rattle.act1_engine.specs.declared.wiring.Wiring.{Wiring}
use Rattle.act1_engine.specs.Slots.{slot_count, slot_of, pin_source, entry, IsLast, IsWiringOf}

-- the circuit has the source at each of its pins
pub has_source : (c : Circuit) → InRange c → (pin : ℕ) → pin < 8 * length c.modules → HasSource c (pin_source c pin)
has_source c range pin low =
    let module_low : pin / 8 < length c.modules = omega arith in
    let sources = range.pins (pin / 8) [] module_low in
    let long = sources.0 in
    sources.1 (pin % 8) Zero (omega arith)

pub slot_within : (c : Circuit) (source : Source) → HasSource c source → slot_of c source < slot_count c
slot_within c Zero h = omega arith
slot_within c One h = omega arith
slot_within c Clock h = omega arith
slot_within c (Input i) h = omega arith
slot_within c (Module m) h = omega arith

-- the slot of a pin
abbrev pub pin_slot : Circuit → ℕ → ℕ
pin_slot c pin = slot_of c (pin_source c pin)

-- what is kept of the pins so far
pub record WiringAt (c : Circuit) (pin : ℕ) (slots lasts befores : List ℕ) : Type 0 where
  pub slots_long : length slots ≡ pin
  pub befores_long : length befores ≡ pin
  pub count : length lasts ≡ slot_count c
  pub slots_are : (p : ℕ) → p < pin → entry slots p ≡ pin_slot c p
  pub lasts_are : (s : ℕ) → s < slot_count c → IsLast (pin_slot c) s pin (entry lasts s)
  pub befores_are : (p : ℕ) → p < pin → IsLast (pin_slot c) (pin_slot c p) p (entry befores p)

pub no_pins : (c : Circuit) (lasts : List ℕ) (n : ℕ) → lasts ≡ replicate n 0 → n ≡ slot_count c → WiringAt c 0 [] lasts []
no_pins c lasts n zeros count = record {
  slots_long = refl;
  befores_long = refl;
  count = ap length zeros ∙ length-replicate n 0 ∙ count;
  slots_are = λ p low. absurd (omega arith);
  lasts_are = λ s low.
      let none : entry lasts s ≡ 0 = ap (λ (xs : List ℕ). entry xs s) zeros ∙ get_or-replicate n s 0 0 (omega arith) in
      record { before = omega arith; there = λ some. absurd (omega arith); last = λ p from below. absurd (omega arith) };
  befores_are = λ p low. absurd (omega arith);
}

more_last : (slot : ℕ → ℕ) (s end link : ℕ) → IsLast slot s end link → slot end ≢ s → IsLast slot s (end + 1) link
more_last slot s end link last apart = record {
  before = let b = last.before in omega arith;
  there = last.there;
  last = λ p from below. by p from (cases_eq p end) below;
}
  where
    by : (p : ℕ) → link ≤ p → (p ≡ end) ⊎ (p ≡ end → ⊥) → p < end + 1 → slot p ≢ s
    by p from (inl e) below = λ f. apart (sym (ap slot e) ∙ f)
    by p from (inr ne) below = last.last p from (omega arith)

pub more_pins : (c : Circuit) (pin : ℕ) (slots lasts befores : List ℕ) (s link : ℕ) → WiringAt c pin slots lasts befores → s ≡ pin_slot c pin → s < slot_count c → link ≡ entry lasts s
    → WiringAt c (pin + 1) (slots ++ s ∷ []) (set lasts s (pin + 1)) (befores ++ link ∷ [])
more_pins c pin slots lasts befores s link so_far slot_is within link_is = record {
  slots_long = length_push slots s ∙ ap (λ (k : ℕ). k + 1) so_far.slots_long;
  befores_long = length_push befores link ∙ ap (λ (k : ℕ). k + 1) so_far.befores_long;
  count = length-set lasts s (pin + 1) ∙ so_far.count;
  slots_are = λ p low. slots_are p low (cases_eq p pin);
  lasts_are = λ t low. lasts_are t low (cases_eq t s);
  befores_are = λ p low. befores_are p low (cases_eq p pin);
}
  where
    slots_are : (p : ℕ) → p < pin + 1 → (p ≡ pin) ⊎ (p ≡ pin → ⊥) → entry (slots ++ s ∷ []) p ≡ pin_slot c p
    slots_are p low (inl e) = get_or_push slots s 0 p (so_far.slots_long ∙ sym e) ∙ slot_is ∙ ap (pin_slot c) (sym e)
    slots_are p low (inr ne) = let long = so_far.slots_long in get_or_append_left slots (s ∷ []) 0 p (omega arith) ∙ so_far.slots_are p (omega arith)

    befores_are : (p : ℕ) → p < pin + 1 → (p ≡ pin) ⊎ (p ≡ pin → ⊥) → IsLast (pin_slot c) (pin_slot c p) p (entry (befores ++ link ∷ []) p)
    befores_are p low (inl e) =
        let now : entry (befores ++ link ∷ []) p ≡ entry lasts s = get_or_push befores link 0 p (so_far.befores_long ∙ sym e) ∙ link_is in
        subst (λ (k : ℕ). IsLast (pin_slot c) (pin_slot c p) p k) (sym now)
        (subst (λ (k : ℕ). IsLast (pin_slot c) (pin_slot c k) k (entry lasts s)) (sym e)
        (subst (λ (k : ℕ). IsLast (pin_slot c) k pin (entry lasts s)) slot_is (so_far.lasts_are s within)))
    befores_are p low (inr ne) =
        let long = so_far.befores_long in
        let same : entry (befores ++ link ∷ []) p ≡ entry befores p = get_or_append_left befores (link ∷ []) 0 p (omega arith) in
        subst (λ (k : ℕ). IsLast (pin_slot c) (pin_slot c p) p k) (sym same) (so_far.befores_are p (omega arith))

    lasts_are : (t : ℕ) → t < slot_count c → (t ≡ s) ⊎ (t ≡ s → ⊥) → IsLast (pin_slot c) t (pin + 1) (entry (set lasts s (pin + 1)) t)
    lasts_are t low (inl e) =
        let count = so_far.count in
        let now : entry (set lasts s (pin + 1)) t ≡ pin + 1 = ap (entry (set lasts s (pin + 1))) e ∙ get_or-set_same lasts s (pin + 1) 0 (omega arith) in
        subst (λ (k : ℕ). IsLast (pin_slot c) t (pin + 1) k) (sym now) (record {
          before = omega arith;
          there = λ some. let back : pin + 1 - 1 ≡ pin = omega arith in ap (pin_slot c) back ∙ sym slot_is ∙ sym e;
          last = λ p from below. absurd (omega arith);
        })
    lasts_are t low (inr ne) =
        let same : entry (set lasts s (pin + 1)) t ≡ entry lasts t = get_or-set_other lasts s t (pin + 1) 0 ne in
        subst (λ (k : ℕ). IsLast (pin_slot c) t (pin + 1) k) (sym same) (more_last (pin_slot c) t pin (entry lasts t) (so_far.lasts_are t low) (λ f. ne (sym f ∙ sym slot_is)))

-- the last pin at a slot, by the table
same_last : (f g : ℕ → ℕ) (s end link : ℕ) → ((p : ℕ) → p < end → f p ≡ g p) → IsLast f s end link → IsLast g s end link
same_last f g s end link same last = record {
  before = last.before;
  there = λ some. let b = last.before in sym (same (link - 1) (omega arith)) ∙ last.there some;
  last = λ p from below e. last.last p from below (same p below ∙ e);
}

pub all_pins : (c : Circuit) (pin : ℕ) (wiring : Wiring) → InRange c → pin ≡ 8 * length c.modules → WiringAt c pin wiring.slots.items wiring.lasts.items wiring.befores.items → IsWiringOf c wiring
all_pins c pin wiring range all so_far =
    let long = so_far.slots_long in
    let count = so_far.count in
    record {
      all = long ∙ all;
      slots = λ p low. so_far.slots_are p (omega arith);
      within = λ p low. subst (λ (k : ℕ). k < slot_count c) (sym (so_far.slots_are p (omega arith))) (slot_within c (pin_source c p) (has_source c range p low));
      count = count;
      linked = record {
        lasts = λ s low. subst (λ (end : ℕ). IsLast (entry wiring.slots.items) s end (entry wiring.lasts.items s)) (sym long) (same_last (pin_slot c) (entry wiring.slots.items) s pin (entry wiring.lasts.items s) (λ p below. sym (so_far.slots_are p below)) (so_far.lasts_are s (omega arith)));
        few = let few = range.few_modules in omega arith;
        long = so_far.befores_long ∙ sym long;
        befores = λ p low.
            let here : p < pin = omega arith in
            subst (λ (s : ℕ). IsLast (entry wiring.slots.items) s p (entry wiring.befores.items p)) (sym (so_far.slots_are p here))
            (same_last (pin_slot c) (entry wiring.slots.items) (pin_slot c p) p (entry wiring.befores.items p) (λ q below. sym (so_far.slots_are q (omega arith))) (so_far.befores_are p here));
      };
    }

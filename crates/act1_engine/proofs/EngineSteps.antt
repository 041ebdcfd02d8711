-- A table of values and the bits of a circuit.
use Rattle.std.proofs.Common.{ℕ, zero, suc, ◌+◌, ◌*◌, ◌/◌, ◌%◌, ◌≡◌, ◌≢◌, ◌⊎◌, ◌<◌, ◌≤◌, Bool, false, List, [], ◌∷◌, ◌++◌, Option, Some, None, length, get_or, set, take, inl, inr, refl, ap, sym, ◌∙◌, subst, arith}
use Rattle.std.specs.Prelude.{IfSome, IfNone}
use Rattle.std.specs.List.{AllByRecursion}
use Rattle.std.proofs.lemmas.Bool.{cases_eq}
use Rattle.std.proofs.lemmas.List.{length-set, length-take-le, get_or-set_same, get_or-set_other, get_or-take, set-get_or, take-set-le}
use Rattle.act1_circuit.specs.declared.circuit.Circuit.{Circuit}
use Rattle.act1_circuit.specs.declared.circuit.Source.{Source}
use Rattle.act1_circuit.specs.declared.circuit.Source.TheVariants.{Zero, One, Clock, Input, Module}
use Rattle.act1_circuit.specs.Firing.{source_value, fired, fire, fire_all, site_order, site_rounds, site_wave, IsAtRest, IsLeastUnrest}
use Rattle.act1_circuit.specs.Range.{HasSource, InRange}
use Rattle.act1_engine.specs.declared.marks.Marks.{Marks}
use Rattle.act1_engine.specs.declared.wiring.Wiring.{Wiring}
use Rattle.act1_engine.specs.Slots.{slot_count, slot_of, pin_source, entry, IsWiringOf}
use Rattle.act1_engine.specs.Turns.{gives, turn, turn_all, value, IsStill, IsLeastUnstill}
use Rattle.act1_engine.specs.Marking.{Adds, AreMarksAt, AreReadersMarked, IsQuiet}
use Rattle.act1_engine.specs.Rounds.{IsTable}
use Rattle.act1_engine.specs.Engines.{HasConstants, IsReady, IsSet}
use Rattle.act1_engine.proofs.RoundSteps.{quiet_set}
use Rattle.act1_engine.proofs.TurnSteps.{same_module}
use Rattle.act1_engine.proofs.WiringSteps.{has_source}

-- the table has the value of each source
pub same_value : (c : Circuit) (clock : Bool) (x values : List Bool) → HasConstants c values → IsSet c clock x values → (source : Source) → HasSource c source
    → value values (slot_of c source) ≡ source_value clock x (take (length c.modules) values) source
same_value c clock x values constants is_set Zero h = constants.zero_is
same_value c clock x values constants is_set One h = constants.one_is
same_value c clock x values constants is_set Clock h = is_set.clock_is
same_value c clock x values constants is_set (Input i) h = is_set.inputs i h
same_value c clock x values constants is_set (Module m) h = sym (get_or-take (length c.modules) values m false h)

-- and a module gives what it does in the circuit
pub same_gives : (c : Circuit) (wiring : Wiring) (clock : Bool) (x values : List Bool) (m : ℕ) → InRange c → IsWiringOf c wiring → HasConstants c values → IsSet c clock x values → m < length c.modules
    → gives wiring.slots.items values m ≡ fired c clock x (take (length c.modules) values) m
same_gives c wiring clock x values m range wired constants is_set within =
    same_module (λ pin. value values (entry wiring.slots.items (8 * m + pin)))
    (λ pin. source_value clock x (take (length c.modules) values) (get_or (get_or c.modules m []) pin Zero)) same
  where
    same : (pin : ℕ) → pin < 8 → value values (entry wiring.slots.items (8 * m + pin)) ≡ source_value clock x (take (length c.modules) values) (get_or (get_or c.modules m []) pin Zero)
    same pin low =
        let place : (8 * m + pin) / 8 ≡ m = omega arith in
        let rest : (8 * m + pin) % 8 ≡ pin = omega arith in
        let fits : 8 * m + pin < 8 * length c.modules = omega arith in
        ap (value values) (wired.slots (8 * m + pin) fits)
        ∙ same_value c clock x values constants is_set (pin_source c (8 * m + pin)) (has_source c range (8 * m + pin) fits)
        ∙ ap (λ (j : ℕ). source_value clock x (take (length c.modules) values) (get_or (get_or c.modules j []) ((8 * m + pin) % 8) Zero)) place
        ∙ ap (λ (j : ℕ). source_value clock x (take (length c.modules) values) (get_or (get_or c.modules m []) j Zero)) rest

-- a write within the part that is taken
pub take_set_in : (n : ℕ) (xs : List Bool) (i : ℕ) (b : Bool) → take n (set xs i b) ≡ set (take n xs) i b
take_set_in zero xs i b = refl
take_set_in (suc n) [] i b = refl
take_set_in (suc n) (x ∷ xs) zero b = refl
take_set_in (suc n) (x ∷ xs) (suc i) b = ap (λ (ys : List Bool). x ∷ ys) (take_set_in n xs i b)

-- a module's value changes
pub constants_stay : (c : Circuit) (values : List Bool) (m : ℕ) (b : Bool) → m < length c.modules → HasConstants c values → HasConstants c (set values m b)
constants_stay c values m b within constants =
    let zero_apart : length c.modules + length c.inputs ≢ m = omega arith in
    let one_apart : length c.modules + length c.inputs + 1 ≢ m = omega arith in
    record {
      all = length-set values m b ∙ constants.all;
      zero_is = get_or-set_other values m (length c.modules + length c.inputs) b false zero_apart ∙ constants.zero_is;
      one_is = get_or-set_other values m (length c.modules + length c.inputs + 1) b false one_apart ∙ constants.one_is;
    }

pub set_stays : (c : Circuit) (clock : Bool) (x values : List Bool) (m : ℕ) (b : Bool) → m < length c.modules → IsSet c clock x values → IsSet c clock x (set values m b)
set_stays c clock x values m b within is_set =
    let apart : length c.modules + length c.inputs + 2 ≢ m = omega arith in
    record {
      inputs = λ i low. let other : length c.modules + i ≢ m = omega arith in get_or-set_other values m (length c.modules + i) b false other ∙ is_set.inputs i low;
      clock_is = get_or-set_other values m (length c.modules + length c.inputs + 2) b false apart ∙ is_set.clock_is;
    }

-- firings in the table are those of the circuit
pub same_turns : (c : Circuit) (wiring : Wiring) (clock : Bool) (x values : List Bool) (ms : List ℕ) → InRange c → IsWiringOf c wiring → HasConstants c values → IsSet c clock x values
    → AllByRecursion (λ m. m < length c.modules) ms
    → (take (length c.modules) (turn_all wiring.slots.items values ms) ≡ fire_all c clock x (take (length c.modules) values) ms) × HasConstants c (turn_all wiring.slots.items values ms) × IsSet c clock x (turn_all wiring.slots.items values ms)
same_turns c wiring clock x values [] range wired constants is_set low = (refl, constants, is_set)
same_turns c wiring clock x values (m ∷ ms) range wired constants is_set low =
    let b = gives wiring.slots.items values m in
    let rest = same_turns c wiring clock x (turn wiring.slots.items values m) ms range wired (constants_stay c values m b low.0 constants) (set_stays c clock x values m b low.0 is_set) low.1 in
    let first : take (length c.modules) (turn wiring.slots.items values m) ≡ fire c clock x (take (length c.modules) values) m =
    take_set_in (length c.modules) values m b ∙ ap (set (take (length c.modules) values) m) (same_gives c wiring clock x values m range wired constants is_set low.0) in
    (rest.0 ∙ ap (λ (bits : List Bool). fire_all c clock x bits ms) first, rest.1, rest.2)

one_more_low : (n : ℕ) (ms : List ℕ) (m : ℕ) → AllByRecursion (λ k. k < n) ms → m < n → AllByRecursion (λ k. k < n) (ms ++ m ∷ [])
one_more_low n [] m h low = (low, tt)
one_more_low n (k ∷ ms) m h low = (h.0, one_more_low n ms m h.1 low)

both_low : (n : ℕ) (ms ns : List ℕ) → AllByRecursion (λ k. k < n) ms → AllByRecursion (λ k. k < n) ns → AllByRecursion (λ k. k < n) (ms ++ ns)
both_low n [] ns h g = g
both_low n (k ∷ ms) ns h g = (h.0, both_low n ms ns h.1 g)

order_low : (n k : ℕ) → k ≤ n → AllByRecursion (λ m. m < n) (site_order k)
order_low n zero up = tt
order_low n (suc k) up = one_more_low n (site_order k) k (order_low n k (omega arith)) (omega arith)

rounds_low : (n k : ℕ) → AllByRecursion (λ m. m < n) (site_rounds n k)
rounds_low n zero = tt
rounds_low n (suc k) = both_low n (site_rounds n k) (site_order n) (rounds_low n k) (order_low n n (omega arith))

pub wave_low : (n : ℕ) → AllByRecursion (λ m. m < n) (site_wave n)
wave_low n = rounds_low n n

-- values that no firing changes are bits at rest
fire_still : (c : Circuit) (wiring : Wiring) (clock : Bool) (x values : List Bool) (m : ℕ) → InRange c → IsWiringOf c wiring → HasConstants c values → IsSet c clock x values → m < length c.modules
    → gives wiring.slots.items values m ≡ value values m → fire c clock x (take (length c.modules) values) m ≡ take (length c.modules) values
fire_still c wiring clock x values m range wired constants is_set within still =
    let bits = take (length c.modules) values in
    ap (set bits m) (sym (same_gives c wiring clock x values m range wired constants is_set within) ∙ still ∙ sym (get_or-take (length c.modules) values m false within)) ∙ set-get_or bits m false

pub rests : (c : Circuit) (wiring : Wiring) (clock : Bool) (x values : List Bool) → InRange c → IsWiringOf c wiring → HasConstants c values → IsSet c clock x values
    → IsStill wiring.slots.items values (length c.modules) → IsAtRest c clock x (take (length c.modules) values)
rests c wiring clock x values range wired constants is_set still m within = fire_still c wiring clock x values m range wired constants is_set within (still m within)

pub least_unrest : (c : Circuit) (wiring : Wiring) (clock : Bool) (x values : List Bool) (m : ℕ) → InRange c → IsWiringOf c wiring → HasConstants c values → IsSet c clock x values
    → IsLeastUnstill wiring.slots.items values (length c.modules) m → IsLeastUnrest c clock x (take (length c.modules) values) m
least_unrest c wiring clock x values m range wired constants is_set least = record {
  within = least.within;
  changes = λ same.
      let bits = take (length c.modules) values in
      let count = constants.all in
      let long : length bits ≡ length c.modules = length-take-le (length c.modules) values (omega arith) in
      let low = least.within in
      let inside : m < length bits = omega arith in
      let now : fired c clock x bits m ≡ get_or bits m false = sym (get_or-set_same bits m (fired c clock x bits m) false inside) ∙ ap (λ (ys : List Bool). get_or ys m false) same in
      least.changes (same_gives c wiring clock x values m range wired constants is_set low ∙ now ∙ get_or-take (length c.modules) values m false low);
  least = λ k below. let low = least.within in let here : k < length c.modules = omega arith in fire_still c wiring clock x values k range wired constants is_set here (least.least k below);
}

-- the same of an answer
pub rests_at : (c : Circuit) (wiring : Wiring) (clock : Bool) (x values : List Bool) (n : ℕ) (result : Option ℕ) → InRange c → IsWiringOf c wiring → HasConstants c values → IsSet c clock x values → n ≡ length c.modules
    → IfNone result (IsStill wiring.slots.items values n) → IfNone result (IsAtRest c clock x (take n values))
rests_at c wiring clock x values n None range wired constants is_set e h =
    subst (λ (k : ℕ). IsAtRest c clock x (take k values)) (sym e) (rests c wiring clock x values range wired constants is_set (subst (λ (k : ℕ). IsStill wiring.slots.items values k) e h))
rests_at c wiring clock x values n (Some m) range wired constants is_set e h = tt

pub unrests_at : (c : Circuit) (wiring : Wiring) (clock : Bool) (x values : List Bool) (n : ℕ) (result : Option ℕ) → InRange c → IsWiringOf c wiring → HasConstants c values → IsSet c clock x values → n ≡ length c.modules
    → IfSome result (IsLeastUnstill wiring.slots.items values n) → IfSome result (IsLeastUnrest c clock x (take n values))
unrests_at c wiring clock x values n None range wired constants is_set e h = tt
unrests_at c wiring clock x values n (Some m) range wired constants is_set e h =
    subst (λ (k : ℕ). IsLeastUnrest c clock x (take k values) m) (sym e) (least_unrest c wiring clock x values m range wired constants is_set (subst (λ (k : ℕ). IsLeastUnstill wiring.slots.items values k m) e h))

-- the table of an engine
pub table_of : (c : Circuit) (wiring : Wiring) (values : List Bool) → IsWiringOf c wiring → HasConstants c values → IsTable (length c.modules) wiring values
table_of c wiring values wired constants =
    let all = wired.all in
    let count = constants.all in
    record {
      pins = all;
      linked = wired.linked;
      count = wired.count ∙ sym count;
      modules = omega arith;
      within = λ pin low. subst (λ (k : ℕ). entry wiring.slots.items pin < k) (sym count) (wired.within pin (omega arith));
    }

-- inputs are set up to this one
pub record SetTo (c : Circuit) (wiring : Wiring) (x : List Bool) (input : ℕ) (start values : List Bool) (marks : Marks) : Type 0 where
  pub ready : IsReady c wiring values marks
  pub inputs : (i : ℕ) → i < input → value values (length c.modules + i) ≡ get_or x i false
  pub same : take (length c.modules) values ≡ take (length c.modules) start

pub none_set : (c : Circuit) (wiring : Wiring) (x values : List Bool) (marks : Marks) → IsReady c wiring values marks → SetTo c wiring x 0 values values marks
none_set c wiring x values marks ready = record { ready = ready; inputs = λ i low. absurd (omega arith); same = refl }

-- a value outside the modules and the constants is set
pub ready_set : (c : Circuit) (wiring : Wiring) (values : List Bool) (marks now : Marks) (s : ℕ) (b : Bool) → IsWiringOf c wiring → IsReady c wiring values marks
    → length c.modules ≤ s → s < slot_count c → s ≢ length c.modules + length c.inputs → s ≢ length c.modules + length c.inputs + 1
    → (value values s ≢ b → AreReadersMarked wiring.slots.items s now.words.items) → ((n : ℕ) → length wiring.slots.items ≡ 8 * n → Adds n (length c.modules) marks now)
    → IsReady c wiring (set values s b) now
ready_set c wiring values marks now s b wired ready outside within not_zero not_one readers adds =
    let all = ready.constants.all in
    let own = adds (length c.modules) wired.all in
    record {
      constants = record {
        all = length-set values s b ∙ all;
        zero_is = get_or-set_other values s (length c.modules + length c.inputs) b false (λ e. not_zero (sym e)) ∙ ready.constants.zero_is;
        one_is = get_or-set_other values s (length c.modules + length c.inputs + 1) b false (λ e. not_one (sym e)) ∙ ready.constants.one_is;
      };
      marked = own.goes ready.marked;
      quiet = quiet_set (length c.modules) s wiring.slots.items values b marks.words.items now.words.items wired.all (omega arith) outside ready.quiet own.keeps readers;
    }

pub next_set : (c : Circuit) (wiring : Wiring) (x start values next : List Bool) (marks now : Marks) (input : ℕ) → input < length c.inputs → IsWiringOf c wiring → SetTo c wiring x input start values marks
    → next ≡ set values (length c.modules + input) (get_or x input false)
    → (value values (length c.modules + input) ≢ get_or x input false → AreReadersMarked wiring.slots.items (length c.modules + input) now.words.items)
    → ((n : ℕ) → length wiring.slots.items ≡ 8 * n → Adds n (length c.modules) marks now) → SetTo c wiring x (input + 1) start next now
next_set c wiring x start values next marks now input low wired so_far is readers adds =
    let s = length c.modules + input in
    let b = get_or x input false in
    let outside : length c.modules ≤ s = omega arith in
    let within : s < slot_count c = omega arith in
    let not_zero : s ≢ length c.modules + length c.inputs = omega arith in
    let not_one : s ≢ length c.modules + length c.inputs + 1 = omega arith in
    let all = so_far.ready.constants.all in
    let room : s < length values = omega arith in
    subst (λ (vs : List Bool). SetTo c wiring x (input + 1) start vs now) (sym is) (record {
      ready = ready_set c wiring values marks now s b wired so_far.ready outside within not_zero not_one readers adds;
      inputs = λ i below. inputs i below room (cases_eq i input);
      same = take-set-le (length c.modules) values s b outside ∙ so_far.same;
    })
  where
    inputs : (i : ℕ) → i < input + 1 → length c.modules + input < length values → (i ≡ input) ⊎ (i ≡ input → ⊥) → value (set values (length c.modules + input) (get_or x input false)) (length c.modules + i) ≡ get_or x i false
    inputs i below room (inl e) =
        ap (λ (j : ℕ). value (set values (length c.modules + input) (get_or x input false)) (length c.modules + j)) e
        ∙ get_or-set_same values (length c.modules + input) (get_or x input false) false room ∙ ap (λ (j : ℕ). get_or x j false) (sym e)
    inputs i below room (inr ne) =
        let apart : length c.modules + i ≢ length c.modules + input = λ f. ne (omega arith) in
        get_or-set_other values (length c.modules + input) (length c.modules + i) (get_or x input false) false apart ∙ so_far.inputs i (omega arith)

-- the clock is set after the inputs
pub all_set : (c : Circuit) (wiring : Wiring) (clock : Bool) (x start values next : List Bool) (marks now : Marks) → IsWiringOf c wiring → SetTo c wiring x (length c.inputs) start values marks
    → next ≡ set values (length c.modules + length c.inputs + 2) clock
    → (value values (length c.modules + length c.inputs + 2) ≢ clock → AreReadersMarked wiring.slots.items (length c.modules + length c.inputs + 2) now.words.items)
    → ((n : ℕ) → length wiring.slots.items ≡ 8 * n → Adds n (length c.modules) marks now)
    → IsReady c wiring next now × IsSet c clock x next × (take (length c.modules) next ≡ take (length c.modules) start)
all_set c wiring clock x start values next marks now wired so_far is readers adds =
    let s = length c.modules + length c.inputs + 2 in
    let outside : length c.modules ≤ s = omega arith in
    let within : s < slot_count c = omega arith in
    let not_zero : s ≢ length c.modules + length c.inputs = omega arith in
    let not_one : s ≢ length c.modules + length c.inputs + 1 = omega arith in
    let all = so_far.ready.constants.all in
    let room : s < length values = omega arith in
    let ready : IsReady c wiring next now = subst (λ (vs : List Bool). IsReady c wiring vs now) (sym is) (ready_set c wiring values marks now s clock wired so_far.ready outside within not_zero not_one readers adds) in
    let is_set : IsSet c clock x next = subst (λ (vs : List Bool). IsSet c clock x vs) (sym is) (record {
      inputs = λ i low. let apart : length c.modules + i ≢ s = omega arith in get_or-set_other values s (length c.modules + i) clock false apart ∙ so_far.inputs i low;
      clock_is = get_or-set_same values s clock false room;
    }) in
    (ready, is_set, ap (take (length c.modules)) is ∙ take-set-le (length c.modules) values s clock outside ∙ so_far.same)

-- what a wave leaves of the bits, and that the table still has what was set
pub wave_of : (c : Circuit) (wiring : Wiring) (clock : Bool) (x old begun after : List Bool) (n : ℕ) → InRange c → IsWiringOf c wiring → n ≡ length c.modules → HasConstants c begun → IsSet c clock x begun
    → take (length c.modules) begun ≡ take (length c.modules) old → after ≡ turn_all wiring.slots.items begun (site_wave n)
    → (take n after ≡ fire_all c clock x (take n old) (site_wave (length c.modules))) × HasConstants c after × IsSet c clock x after
wave_of c wiring clock x old begun after n range wired e constants is_set same wave =
    let turns = same_turns c wiring clock x begun (site_wave (length c.modules)) range wired constants is_set (wave_low (length c.modules)) in
    let here : after ≡ turn_all wiring.slots.items begun (site_wave (length c.modules)) = wave ∙ ap (λ (k : ℕ). turn_all wiring.slots.items begun (site_wave k)) e in (
      ap (λ (k : ℕ). take k after) e ∙ ap (take (length c.modules)) here ∙ turns.0 ∙ ap (λ (bits : List Bool). fire_all c clock x bits (site_wave (length c.modules))) same
          ∙ ap (λ (k : ℕ). fire_all c clock x (take k old) (site_wave (length c.modules))) (sym e),
      subst (HasConstants c) (sym here) turns.1,
      subst (IsSet c clock x) (sym here) turns.2,
    )

-- the engine after the wave is ready for the next
pub ready_after : (c : Circuit) (wiring : Wiring) (after : List Bool) (marks : Marks) (n : ℕ) → n ≡ length c.modules → HasConstants c after → AreMarksAt n n marks → IsQuiet wiring.slots.items after marks.words.items n → IsReady c wiring after marks
ready_after c wiring after marks n e constants marked quiet = record {
  constants = constants;
  marked = subst (λ (k : ℕ). AreMarksAt k k marks) e marked;
  quiet = subst (λ (k : ℕ). IsQuiet wiring.slots.items after marks.words.items k) e quiet;
}

-- a bit for each module
pub bits_long : (c : Circuit) (values : List Bool) (n : ℕ) → n ≡ length c.modules → HasConstants c values → length (take n values) ≡ length c.modules
bits_long c values n e constants = let all = constants.all in length-take-le n values (omega arith) ∙ e

-- What firings in a table of values change, and what they leave.
use Rattle.std.proofs.Common.{ℕ, zero, suc, ◌+◌, ◌*◌, ◌/◌, ◌≡◌, ◌≢◌, ◌⊎◌, ◌<◌, ◌≤◌, Bool, true, false, List, [], ◌∷◌, ◌++◌, ◌-◌, length, set, inl, inr, refl, ap, sym, ◌∙◌, arith, add-one}
use Rattle.std.proofs.lemmas.Bool.{cases_eq}
use Rattle.std.proofs.lemmas.List.{get_or-set_same, get_or-set_other, set-get_or}
use Rattle.act1_logic.specs.Module.{module_of}
use Rattle.act1_circuit.specs.Firing.{site_order, site_rounds}
use Rattle.act1_engine.specs.Slots.{entry}
use Rattle.act1_engine.specs.Turns.{gives, turn, turn_all, value, IsStill}
use Rattle.act1_engine.specs.Marking.{mark, AreReadersMarked, IsQuiet}
use Rattle.act1_engine.proofs.MarkSteps.{never_both}

-- a module looks at its eight pins alone
pub same_module : (f g : ℕ → Bool) → ((pin : ℕ) → pin < 8 → f pin ≡ g pin) → module_of f ≡ module_of g
same_module f g same =
    let e0 : f 0 ≡ g 0 = same 0 (omega arith) in
    let e1 : f 1 ≡ g 1 = same 1 (omega arith) in
    let e2 : f 2 ≡ g 2 = same 2 (omega arith) in
    let e3 : f 3 ≡ g 3 = same 3 (omega arith) in
    let e4 : f 4 ≡ g 4 = same 4 (omega arith) in
    let e5 : f 5 ≡ g 5 = same 5 (omega arith) in
    let e6 : f 6 ≡ g 6 = same 6 (omega arith) in
    let e7 : f 7 ≡ g 7 = same 7 (omega arith) in
    cc

-- two values are the same, or not
pub same_or_not : (a b : Bool) → (a ≡ b) ⊎ (a ≢ b)
same_or_not true true = inl refl
same_or_not false false = inl refl
same_or_not true false = inr (λ f. cc)
same_or_not false true = inr (λ f. cc)

-- a module without a pin at a slot gives the same when the slot's value changes
pub gives_same : (slots : List ℕ) (values : List Bool) (m s : ℕ) (b : Bool) → ((pin : ℕ) → pin < 8 → entry slots (8 * m + pin) ≢ s) → gives slots (set values s b) m ≡ gives slots values m
gives_same slots values m s b apart =
    same_module (λ pin. value (set values s b) (entry slots (8 * m + pin))) (λ pin. value values (entry slots (8 * m + pin)))
    (λ pin low. get_or-set_other values s (entry slots (8 * m + pin)) b false (apart pin low))

-- a value is set and the readers of its slot are marked where that changes it: still a module without a mark has the value that it gives
pub quiet_after : (slots : List ℕ) (values : List Bool) (words : List ℕ) (n s : ℕ) (b : Bool) → length slots ≡ 8 * n → s < length values → (value values s ≢ b → AreReadersMarked slots s words)
    → ((m : ℕ) → m < n → mark words m ≡ 0 → (m ≡ s → ⊥) → gives slots values m ≡ value values m) → (s < n → gives slots values s ≡ b) → IsQuiet slots (set values s b) words n
quiet_after slots values words n s b pins low readers others own m within none = by (same_or_not (value values s) b)
  where
    own_or_other : (m ≡ s) ⊎ (m ≡ s → ⊥) → gives slots values m ≡ value (set values s b) m
    own_or_other (inl e) =
        let here : s < n = omega arith in
        ap (gives slots values) e ∙ own here ∙ sym (get_or-set_same values s b false low) ∙ ap (value (set values s b)) (sym e)
    own_or_other (inr ne) = others m within none ne ∙ sym (get_or-set_other values s m b false ne)

    apart : AreReadersMarked slots s words → (pin : ℕ) → pin < 8 → entry slots (8 * m + pin) ≢ s
    apart marked pin pin_low e =
        let place : (8 * m + pin) / 8 ≡ m = omega arith in
        let one = marked (8 * m + pin) (omega arith) e in
        never_both words m none (ap (mark words) (sym place) ∙ one)

    by : (value values s ≡ b) ⊎ (value values s ≢ b) → gives slots (set values s b) m ≡ value (set values s b) m
    by (inl e) =
        let same : set values s b ≡ values = ap (set values s) (sym e) ∙ set-get_or values s false in
        ap (λ (v : List Bool). gives slots v m) same ∙ own_or_other (cases_eq m s)
    by (inr ne) = gives_same slots values m s b (apart (readers ne)) ∙ own_or_other (cases_eq m s)

-- a firing that changes nothing
pub turn_still : (slots : List ℕ) (values : List Bool) (m : ℕ) → gives slots values m ≡ value values m → turn slots values m ≡ values
turn_still slots values m same = ap (set values m) same ∙ set-get_or values m false

pub turn_all-append : (slots : List ℕ) (values : List Bool) (ms ns : List ℕ) → turn_all slots values (ms ++ ns) ≡ turn_all slots (turn_all slots values ms) ns
turn_all-append slots values [] ns = refl
turn_all-append slots values (m ∷ ms) ns = turn_all-append slots (turn slots values m) ms ns

-- one module more in site order
pub next_turn : (slots : List ℕ) (values : List Bool) (m : ℕ) → turn_all slots values (site_order (m + 1)) ≡ turn slots (turn_all slots values (site_order m)) m
next_turn slots values m = rw add-one (turn_all-append slots values (site_order m) (m ∷ []))

-- one round more
pub next_round : (slots : List ℕ) (values : List Bool) (n k : ℕ) → turn_all slots values (site_rounds n (k + 1)) ≡ turn_all slots (turn_all slots values (site_rounds n k)) (site_order n)
next_round slots values n k = rw add-one (turn_all-append slots values (site_rounds n k) (site_order n))

-- a round passes modules whose firing changes nothing
pub passed : (slots : List ℕ) (start values : List Bool) (j i : ℕ) → values ≡ turn_all slots start (site_order j) → ((k : ℕ) → j ≤ k → k < j + i → gives slots values k ≡ value values k)
    → values ≡ turn_all slots start (site_order (j + i))
passed slots start values j zero so_far still = let e : j + 0 ≡ j = omega arith in so_far ∙ ap (λ (k : ℕ). turn_all slots start (site_order k)) (sym e)
passed slots start values j (suc i) so_far still =
    let e : j + suc i ≡ (j + i) + 1 = omega arith in
    let before = passed slots start values j i so_far (λ k from below. still k from (omega arith)) in
    sym (turn_still slots values (j + i) (still (j + i) (omega arith) (omega arith)))
    ∙ ap (λ (v : List Bool). turn slots v (j + i)) before
    ∙ sym (next_turn slots start (j + i))
    ∙ ap (λ (k : ℕ). turn_all slots start (site_order k)) (sym e)

pub passed_to : (slots : List ℕ) (start values : List Bool) (j m : ℕ) → j ≤ m → values ≡ turn_all slots start (site_order j) → ((k : ℕ) → j ≤ k → k < m → gives slots values k ≡ value values k)
    → values ≡ turn_all slots start (site_order m)
passed_to slots start values j m up so_far still =
    let e : j + (m - j) ≡ m = omega arith in
    passed slots start values j (m - j) so_far (λ k from below. still k from (omega arith)) ∙ ap (λ (k : ℕ). turn_all slots start (site_order k)) e

-- rounds of values that no firing changes
round_still : (slots : List ℕ) (values : List Bool) (n : ℕ) → IsStill slots values n → values ≡ turn_all slots values (site_order n)
round_still slots values n still = passed_to slots values values 0 n (omega arith) refl (λ k from below. still k below)

rounds_still : (slots : List ℕ) (start values : List Bool) (n k j : ℕ) → IsStill slots values n → values ≡ turn_all slots start (site_rounds n k) → values ≡ turn_all slots start (site_rounds n (k + j))
rounds_still slots start values n k zero still so_far = let e : k + 0 ≡ k = omega arith in so_far ∙ ap (λ (i : ℕ). turn_all slots start (site_rounds n i)) (sym e)
rounds_still slots start values n k (suc j) still so_far =
    let e : k + suc j ≡ (k + j) + 1 = omega arith in
    round_still slots values n still
    ∙ ap (λ (v : List Bool). turn_all slots v (site_order n)) (rounds_still slots start values n k j still so_far)
    ∙ sym (next_round slots start n (k + j))
    ∙ ap (λ (i : ℕ). turn_all slots start (site_rounds n i)) (sym e)

-- after rounds that leave such values, all rounds leave them
pub wave_still : (slots : List ℕ) (start values : List Bool) (n k : ℕ) → k ≤ n → IsStill slots values n → values ≡ turn_all slots start (site_rounds n k) → values ≡ turn_all slots start (site_rounds n n)
wave_still slots start values n k up still so_far =
    let e : k + (n - k) ≡ n = omega arith in
    rounds_still slots start values n k (n - k) still so_far ∙ ap (λ (i : ℕ). turn_all slots start (site_rounds n i)) e

-- Steps of the code's loops.
use Rattle.std.proofs.Common.{ℕ, suc, zero, ◌≡◌, ◌≢◌, ◌<◌, ◌≤◌, ◌+◌, ◌-◌, ◌⊎◌, ◌||◌, cond, not, Bool, true, false, List, [], ◌∷◌, ◌++◌, length, map, take, drop, get_or, Some, refl, sym, ap, subst, ◌∙◌, inl, inr, arith}
use Rattle.std.specs.Prelude.{filter, slice_get, slice_index_or, if◌then◌else◌}
use Rattle.std.proofs.lemmas.Bool.{false≢true}
use Rattle.std.proofs.lemmas.List.{map-append, append-nil}
use Rattle.std.proofs.lemmas.List.Elements.{filter_more}
use Rattle.std.proofs.lemmas.Option.{get_or_from_slice_get, slice_get-get_or}
use Rattle.act1_base.proofs.ListGets.{get_read}
use Rattle.act1_blif.specs.declared.blif.Node.{Node}
use Rattle.act1_circuit.specs.declared.circuit.Circuit.{Circuit}
use Rattle.act1_circuit.specs.declared.circuit.Output.{Output}
use Rattle.act1_circuit.specs.declared.circuit.Source.{Source}
use Rattle.act1_circuit.specs.PairForm.{has_clock, pins_of}
use Rattle.act1_meaning.specs.Extracted.{count_below, different, is_outside, module_in}
use Rattle.act1_meaning.specs.ArrayNames.{is_own_signal}
use Rattle.act1_extract.specs.Layout.{found_signal}
use Rattle.act1_extract.specs.Parts.{constant_of, with_source}
use Rattle.act1_extract.specs.Picked.{AddsConstant, AddsModule, AddsOutput, ArePicked, IsModuleNode, IsNode, IsOutNode, IsOutputNode, has_node, no_output}
use Rattle.act1_extract.proofs.Picks.{picked_more, picked_same, place_low}

-- one more of a list that is filtered and mapped
pub kept_more : {X Y : Type 0} (f : X → Y) (p : X → Bool) (xs : List X) (i : ℕ) (x : X) → i < length xs → x ≡ get_or xs i x
    → map f (filter p (take (i + 1) xs)) ≡ map f (filter p (take i xs)) ++ (if p x then f x ∷ [] else [])
kept_more {X} {Y} f p xs i x low is =
    ap (map f) (filter_more p xs i x low ∙ ap (λ (y : X). filter p (take i xs) ++ cond (p y) (y ∷ []) []) (sym is))
    ∙ map-append f (filter p (take i xs)) (cond (p x) (x ∷ []) [])
    ∙ ap (λ (ys : List Y). map f (filter p (take i xs)) ++ ys) (by (p x))
  where
    by : (b : Bool) → map f (cond b (x ∷ []) []) ≡ (if b then f x ∷ [] else [])
    by true = refl
    by false = refl

pub module_added : (c : Circuit) (signals : List ℕ) (names : List (List ℕ)) (m n : ℕ) (before after : List Node) → n ≡ m + 1 → ArePicked (is_outside c) m (IsModuleNode c signals names) before → AddsModule c signals names m before after
    → ArePicked (is_outside c) n (IsModuleNode c signals names) after
module_added c signals names m n before after next h adds = subst (λ (k : ℕ). ArePicked (is_outside c) k (IsModuleNode c signals names) after) (sym is) (by (has_clock c m) refl)
  where
    is : n ≡ suc m
    is = omega arith

    by : (b : Bool) → has_clock c m ≡ b → ArePicked (is_outside c) (suc m) (IsModuleNode c signals names) after
    by true e = subst (λ (xs : List Node). ArePicked (is_outside c) (suc m) (IsModuleNode c signals names) xs) (sym (adds.0 e)) (picked_same (is_outside c) (IsModuleNode c signals names) m before h (ap not e))
    by false e =
        let r = adds.1 e in
        subst (λ (xs : List Node). ArePicked (is_outside c) (suc m) (IsModuleNode c signals names) xs) (sym r.1)
        (picked_more (is_outside c) (IsModuleNode c signals names) m before r.0 h (ap not e)
        (subst (λ (k : ℕ). IsNode (slice_index_or names k []) (map (found_signal signals) (different (pins_of c m))) (module_in (pins_of c m)) r.0) h.count r.2))

pub output_added : (c : Circuit) (signals : List ℕ) (i n : ℕ) (o : Output) (before after : List Node) → n ≡ i + 1 → o ≡ slice_index_or c.outputs i no_output → ArePicked (has_node c) i (IsOutputNode c signals) before → AddsOutput c signals o before after
    → ArePicked (has_node c) n (IsOutputNode c signals) after
output_added c signals i n o before after next is h adds = subst (λ (k : ℕ). ArePicked (has_node c) k (IsOutputNode c signals) after) (sym step) (by (is_own_signal c o) refl)
  where
    step : n ≡ suc i
    step = omega arith

    by : (b : Bool) → is_own_signal c o ≡ b → ArePicked (has_node c) (suc i) (IsOutputNode c signals) after
    by true e = subst (λ (xs : List Node). ArePicked (has_node c) (suc i) (IsOutputNode c signals) xs) (sym (adds.0 e)) (picked_same (has_node c) (IsOutputNode c signals) i before h (ap not (ap (is_own_signal c) (sym is) ∙ e)))
    by false e =
        let r = adds.1 e in
        subst (λ (xs : List Node). ArePicked (has_node c) (suc i) (IsOutputNode c signals) xs) (sym r.1)
        (picked_more (has_node c) (IsOutputNode c signals) i before r.0 h (ap not (ap (is_own_signal c) (sym is) ∙ e))
        (subst (λ (u : Output). IsOutNode signals u.name u.source r.0) is r.2))

drop_here : {X : Type 0} (xs : List X) (i : ℕ) (x : X) → i < length xs → x ≡ get_or xs i x → drop i xs ≡ x ∷ drop (suc i) xs
drop_here [] i x low is = absurd (omega arith)
drop_here (y ∷ xs) zero x low is = ap (λ z. z ∷ xs) (sym is)
drop_here (y ∷ xs) (suc i) x low is = drop_here xs i x (omega arith) is

pub drop_all : {X : Type 0} (xs : List X) (n : ℕ) → n ≡ length xs → drop n xs ≡ []
drop_all [] n e = let z : n ≡ 0 = e in ap (λ (k : ℕ). drop k []) z
drop_all (x ∷ xs) zero e = absurd (omega arith)
drop_all (x ∷ xs) (suc n) e = drop_all xs n (omega arith)

-- the different sources from the last to the first
pub different_more : (pins before after : List Source) (at i : ℕ) (s : Source) → at < length pins → i ≡ length pins - 1 - at → s ≡ get_or pins i s → before ≡ different (drop (length pins - at) pins) → after ≡ with_source s before
    → after ≡ different (drop (length pins - (at + 1)) pins)
different_more pins before after at i s low is read e f =
    let one : length pins - at ≡ suc i = omega arith in
    let two : length pins - (at + 1) ≡ i = omega arith in
    let small : i < length pins = omega arith in
    f ∙ ap (with_source s) (e ∙ ap (λ (k : ℕ). different (drop k pins)) one) ∙ sym (ap (λ (k : ℕ). different (drop k pins)) two ∙ ap different (drop_here pins i s small read))

pub name_read : (names : List (List ℕ)) (i j : ℕ) (name : List ℕ) → i ≡ j → j < length names → name ≡ get_or names i name → name ≡ slice_index_or names j []
name_read names i j name e low is =
    let at = get_read names i name (omega arith) is in
    sym (ap (λ (k : ℕ). slice_index_or names k []) (sym e) ∙ get_or_from_slice_get names i name [] at)

-- what is added of an output, of a module and of a constant
pub node_of_output : (c : Circuit) (signals : List ℕ) (o : Output) (node : Node) (before after : List Node) → is_own_signal c o ≡ false → after ≡ before ++ node ∷ [] → IsOutNode signals o.name o.source node → AddsOutput c signals o before after
node_of_output c signals o node before after none e h = (λ f. absurd (false≢true (sym none ∙ f)), λ f. (node, e, h))

pub none_of_output : (c : Circuit) (signals : List ℕ) (o : Output) (before : List Node) → is_own_signal c o ≡ true → AddsOutput c signals o before before
none_of_output c signals o before own = (λ f. refl, λ f. absurd (false≢true (sym f ∙ own)))

pub node_of_module : (c : Circuit) (signals : List ℕ) (names : List (List ℕ)) (m : ℕ) (pins : List Source) (name : List ℕ) (node : Node) (before after : List Node) → has_clock c m ≡ false → after ≡ before ++ node ∷ []
    → pins ≡ pins_of c m → name ≡ slice_index_or names (length before) [] → IsNode name (map (found_signal signals) (different pins)) (module_in pins) node → AddsModule c signals names m before after
node_of_module c signals names m pins name node before after none e here named h = (
  λ f. absurd (false≢true (sym none ∙ f)),
  λ f. (
    node,
    e,
    subst (λ (n : List ℕ). IsNode n (map (found_signal signals) (different (pins_of c m))) (module_in (pins_of c m)) node) named
        (subst (λ (ps : List Source). IsNode name (map (found_signal signals) (different ps)) (module_in ps) node) here h),
  ),
)

pub none_of_module : (c : Circuit) (signals : List ℕ) (names : List (List ℕ)) (m : ℕ) (before : List Node) → has_clock c m ≡ true → AddsModule c signals names m before before
none_of_module c signals names m before clocked = (λ f. refl, λ f. absurd (false≢true (sym f ∙ clocked)))

pub node_of_constant : (is_taken value : Bool) (names : List (List ℕ)) (name : List ℕ) (node : Node) (before after : List Node) → is_taken ≡ true → after ≡ before ++ node ∷ [] → name ≡ slice_index_or names (length before) []
    → IsNode name [] (constant_of value) node → AddsConstant is_taken value names before after
node_of_constant is_taken value names name node before after held e named h =
    (λ f. absurd (false≢true (sym f ∙ held)), λ f. (node, e, subst (λ (n : List ℕ). IsNode n [] (constant_of value) node) named h))

pub none_of_constant : (is_taken value : Bool) (names : List (List ℕ)) (before : List Node) → is_taken ≡ false → AddsConstant is_taken value names before before
none_of_constant is_taken value names before none = (λ f. refl, λ f. absurd (false≢true (sym none ∙ f)))

-- a module outside pairs has a name
pub has_name_left : (c : Circuit) (signals : List ℕ) (names : List (List ℕ)) (m n : ℕ) (nodes : List Node) → ArePicked (is_outside c) m (IsModuleNode c signals names) nodes → m < n → count_below (is_outside c) n ≤ length names → has_clock c m ≡ false → length nodes < length names
has_name_left c signals names m n nodes h low enough none = let a = h.count in let b = place_low (is_outside c) n m low (ap not none) in omega arith

pub different_step : (pins before mid after : List Source) (at i : ℕ) (d : Source) → at < length pins → i ≡ length pins - 1 - at → before ≡ different (drop (length pins - at) pins) → mid ≡ before → after ≡ with_source (get_or pins i d) mid
    → after ≡ different (drop (length pins - (at + 1)) pins)
different_step pins before mid after at i d low is e m f =
    let small : i < length pins = omega arith in
    let s : Source = get_or pins i d in
    let read : s ≡ get_or pins i s = sym (get_or_from_slice_get pins i s s (slice_get-get_or pins i d small)) in
    different_more pins before after at i s low is read e (f ∙ ap (with_source s) m)

pub different_first : (pins all : List Source) → all ≡ [] → all ≡ different (drop (length pins - 0) pins)
different_first pins all e = let n : length pins - 0 ≡ length pins = omega arith in e ∙ ap different (sym (drop_all pins (length pins - 0) n))

pub different_last : (pins all : List Source) (at : ℕ) → length pins ≤ at → all ≡ different (drop (length pins - at) pins) → all ≡ different pins
different_last pins all at high e = let n : length pins - at ≡ 0 = omega arith in e ∙ ap (λ (k : ℕ). different (drop k pins)) n

-- A circuit in pair form means the netlist that it is extracted to.
use Rattle.std.proofs.Common.{ℕ, ◌≡◌, ◌≢◌, ◌⊎◌, ◌+◌, ◌<◌, ◌≤◌, Bool, true, false, List, [], ◌∷◌, length, Some, map, refl, sym, ap, subst, ◌∙◌, inl, inr, arith}
use Rattle.std.specs.Prelude.{All, AllPairs, if◌then◌else◌, slice_get, slice_index_or}
use Rattle.std.specs.List.{AllByRecursion, AllZip, range_with_len}
use Rattle.std.proofs.lemmas.Bool.{cases_lt, false≢true}
use Rattle.std.proofs.lemmas.List.Elements.{recursion_from_All}
use Rattle.std.proofs.lemmas.List.{get_or-map, get_or_past, length-map}
use Rattle.std.proofs.lemmas.List.FromFn.{get_or-map-range_with_len}
use Rattle.std.proofs.lemmas.Option.{get_or_from_slice_get, slice_get_within, slice_get-get_or}
use Rattle.act1_logic.specs.Cover.{value_of}
use Rattle.act1_logic.specs.OnSets.{OnSetsHaveValues}
use Rattle.act1_blif.specs.declared.blif.Blif.{Blif}
use Rattle.act1_blif.specs.declared.blif.Latch.{Latch}
use Rattle.act1_blif.specs.declared.blif.Node.{Node}
use Rattle.act1_blif.specs.Laws.{EachHasSignals, HasSignals, LatchNamesDiffer}
use Rattle.act1_blif.specs.Run.{Fits, node_value, signal, signals}
use Rattle.act1_circuit.specs.declared.circuit.Circuit.{Circuit}
use Rattle.act1_circuit.specs.declared.circuit.Output.{Output}
use Rattle.act1_circuit.specs.declared.circuit.Start.{Start}
use Rattle.act1_circuit.specs.declared.circuit.Source.{Source}
use Rattle.act1_circuit.specs.declared.circuit.Source.TheVariants.{Zero, One, Clock, Input, Module}
use Rattle.act1_circuit.specs.Cycles.{bit}
use Rattle.act1_circuit.specs.Firing.{fired, source_value}
use Rattle.act1_circuit.specs.Laws.{ClockIsUnseen, PairsAreClocked, PairsTakeSources}
use Rattle.act1_circuit.specs.PairForm.{Edge, pins_of, pin_of, is_clock, has_clock, IsPairForm}
use Rattle.act1_circuit.specs.Range.{HasSource, InRange}
use Rattle.act1_blif.specs.Run.{own_reading}
use Rattle.act1_meaning.specs.Carries.{IsPairOfLatch, Carries}
use Rattle.act1_meaning.specs.Extracted.{is_constant, different, module_in, count_below, is_outside, is_slave, first_node, signal_of, IsNodeAt, IsSignalOf, IsOutputSignal, first_bit, IsArrayNet}
use Rattle.act1_meaning.specs.Laws.{ArrayNetMeans, CarryingMeans}
use Rattle.act1_meaning.specs.Meaning.{Means, Ports, StartsLatch}
use Rattle.act1_meaning.proofs.SourceLists.{all_different, each_pin, mapped_same, module_value}

map_at : {X : Type 0} (f : X → Bool) (xs : List X) (k : ℕ) (x : X) → slice_get xs k ≡ Some x → slice_index_or (map f xs) k false ≡ f x
map_at f xs k x e = get_or-map f xs k x false (slice_get_within xs k x e) ∙ ap f (get_or_from_slice_get xs k x x e)

module _ (c : Circuit) (b : Blif) (range : InRange c) (form : IsPairForm c) (net : IsArrayNet c b)
    (clocked : PairsAreClocked) (unseen : ClockIsUnseen) (takes_has : PairsTakeSources) (have_values : OnSetsHaveValues) (have_signals : EachHasSignals) (names_differ : LatchNamesDiffer) where
  abbrev n : ℕ
  n = length c.modules

  module _ (q x v : List Bool) (fits : Fits b q x v) where
    pub bits : List Bool
    bits = map (λ m. signal v (signal_of c (Module m))) (range_with_len 0 n)

    bit_is : (m : ℕ) → m < n → bit bits m ≡ signal v (signal_of c (Module m))
    unfolding bits
    bit_is m low = let e : 0 + m ≡ m = omega arith in get_or-map-range_with_len (λ k. signal v (signal_of c (Module k))) 0 n m m false low e

    has : HasSignals b q x v
    has = have_signals b q x v fits

    inputs_same : length c.inputs ≡ length b.inputs
    inputs_same = ap length net.inputs

    input_at : (i : ℕ) → i < length c.inputs → signal v i ≡ signal x i
    input_at i low = let e = inputs_same in has.inputs i (omega arith)

    latch_at : (k : ℕ) → k < length b.latches → signal v (length c.inputs + k) ≡ signal q k
    latch_at k low = ap (λ (i : ℕ). signal v (i + k)) inputs_same ∙ has.latches k low

    node_at : (j : ℕ) (node : Node) → slice_get b.nodes j ≡ Some node → signal v (first_node c + j) ≡ node_value v node
    node_at j node e =
        let first : first_node c + j ≡ length b.inputs + length b.latches + j = (let i = inputs_same in let l = net.latch_count in omega arith) in
        ap (signal v) first ∙ has.nodes j node e

    -- a node with such a function has that value
    node_gives : (j : ℕ) (ins : List ℕ) (f : List Bool → Bool) → IsNodeAt b j ins f → signal v (first_node c + j) ≡ f (signals v ins)
    node_gives j ins f h =
        node_at j h.node h.there
        ∙ ap (λ (is : List ℕ). value_of h.node.cover (signals v is)) h.inputs_are
        ∙ have_values (length ins) f h.node.cover (signals v ins) h.function (length-map ins (signal v))

    -- the value of a source that has a signal
    has_value : (s : Source) → is_clock s ≡ false → is_constant s ≡ false → HasSource c s → signal v (signal_of c s) ≡ source_value false x bits s
    has_value Zero e f h = absurd (false≢true (sym f))
    has_value One e f h = absurd (false≢true (sym f))
    has_value Clock e f h = absurd (false≢true (sym e))
    has_value (Input i) e f h = input_at i h
    has_value (Module m) e f h = sym (bit_is m h)

    signal_value : (s : Source) (k : ℕ) → HasSource c s → IsSignalOf c b s k → signal v k ≡ source_value false x bits s
    signal_value Zero k h (j, e, node) = ap (signal v) e ∙ node_gives j [] (λ ys. false) node
    signal_value One k h (j, e, node) = ap (signal v) e ∙ node_gives j [] (λ ys. true) node
    signal_value Clock k h e = absurd e
    signal_value (Input i) k h e = ap (signal v) e ∙ input_at i h
    signal_value (Module m) k h e = ap (signal v) e ∙ sym (bit_is m h)

    output_value : (s : Source) (k : ℕ) → HasSource c s → IsOutputSignal c b s k → source_value false x bits s ≡ signal v k
    output_value s k h (inl e) = sym (signal_value s k h e)
    output_value s k h (inr (j, t, e, node, is)) = sym (ap (signal v) e ∙ node_gives j (t ∷ []) first_bit node ∙ signal_value s t h is)

    -- each pin of a module outside pairs
    pin_source : (m pin : ℕ) → m < n → HasSource c (pin_of c m pin)
    pin_source m pin low = by (cases_lt pin (length (pins_of c m)))
      where
        by : (pin < length (pins_of c m)) ⊎ (length (pins_of c m) ≤ pin) → HasSource c (pin_of c m pin)
        by (inl short) = (range.pins m [] low).1 pin Zero short
        by (inr high) = subst (λ (s : Source). HasSource c s) (sym (get_or_past (pins_of c m) pin Zero high)) tt

    pub is_steady : (m : ℕ) → m < n → has_clock c m ≡ false → fired c false x bits m ≡ bit bits m
    is_steady m low none =
        let value = node_gives (count_below (is_outside c) m) (map (signal_of c) (different (pins_of c m))) (module_in (pins_of c m)) (net.nodes m low none) in
        let sources = mapped_same (signal_of c) v (source_value false x bits) (different (pins_of c m))
        (all_different (λ s. signal v (signal_of c s) ≡ source_value false x bits s) (pins_of c m)
        (each_pin (λ s. is_constant s ≡ false → signal v (signal_of c s) ≡ source_value false x bits s) (pins_of c m)
        (λ pin f. has_value (pin_of c m pin) (unseen c m pin none) f (pin_source m pin low)))) in
        let here : signal_of c (Module m) ≡ first_node c + count_below (is_outside c) m = ap (λ (b : Bool). if b then length c.inputs + count_below (is_slave c) m else first_node c + count_below (is_outside c) m) none in
        sym (bit_is m low ∙ ap (signal v) here ∙ value ∙ ap (module_in (pins_of c m)) sources ∙ module_value false x bits (pins_of c m))

    shown_is : (os : List Output) (ss : List ℕ) → AllByRecursion (λ (o : Output). HasSource c o.source) os → AllZip (λ (o : Output) (s : ℕ). IsOutputSignal c b o.source s) os ss
        → map (λ (o : Output). source_value false x bits o.source) os ≡ signals v ss
    shown_is [] [] ins h = refl
    shown_is [] (s ∷ ss) ins h = absurd h
    shown_is (o ∷ os) [] ins h = absurd h
    shown_is (o ∷ os) (s ∷ ss) ins h = rw (output_value o.source s ins.0 h.0, shown_is os ss ins.1 h.1) refl

    -- the latch of a pair is the one at the slave's place
    place_of : (f : Edge) (t : Source) (m s k : ℕ) (latch : Latch) → IsPairOfLatch c b f t m s k latch → (slice_get b.latches (count_below (is_slave c) s) ≡ Some latch) × (count_below (is_slave c) s ≡ k) × IsSignalOf c b t latch.input
    place_of f t m s k latch h =
        let own = net.latches f t m s h.place h.start h.pair h.there h.here in
        let same : count_below (is_slave c) s ≡ k = names_differ b (count_below (is_slave c) s) k own.0 latch own.1 h.starts.is (own.2.name ∙ sym h.starts.name) in
        let is : own.0 ≡ latch = some own.0 latch (sym own.1 ∙ ap (slice_get b.latches) same ∙ h.starts.is) in
        (own.1 ∙ ap Some is, same, subst (λ (l : Latch). IsSignalOf c b t l.input) is own.2.takes)
      where
        some : (a b : Latch) → Some a ≡ Some b → a ≡ b
        some a b e = cc

    pub carried : Carries c b (own_reading b) q x v bits
    carried = record {
      steady = is_steady;
      latches = λ f t m s k latch h.
          let p = place_of f t m s k latch h in
          let low = slice_get_within b.latches k latch h.starts.is in
          let clock = (clocked c f t m s h.pair).1 in
          let is : signal_of c (Module s) ≡ length c.inputs + count_below (is_slave c) s = ap (λ (d : Bool). if d then length c.inputs + count_below (is_slave c) s else first_node c + count_below (is_outside c) s) clock in
          bit_is s (slice_get_within c.modules s _ h.pair.slave) ∙ ap (signal v) (is ∙ ap (λ (i : ℕ). length c.inputs + i) p.1) ∙ latch_at k low;
      taken = λ f t m s k latch h. sym (map_at (λ (l : Latch). signal v l.input) b.latches k latch h.starts.is ∙ signal_value t latch.input (takes_has c range f t m s h.pair) (place_of f t m s k latch h).2);
      outputs = shown_is c.outputs b.outputs (recursion_from_All (λ (o : Output). HasSource c o.source) c.outputs range.outputs) net.outputs;
    }

  all_starts : (P : Start → Type 0) → ((j : ℕ) (start : Start) → slice_get c.starts j ≡ Some start → P start) → All P c.starts
  all_starts P h k d low = h k (slice_index_or c.starts k d) (slice_get-get_or c.starts k d low)

  start_latch : (j : ℕ) (start : Start) → slice_get c.starts j ≡ Some start → (k : ℕ) × (latch : Latch) × StartsLatch b start k latch
  start_latch j start e =
      let at = form.pairs j start e in
      let l = net.latches at.edge at.takes at.master at.slave j start at.pair e (sym at.here) in
      (count_below (is_slave c) at.slave, l.0, record { is = l.1; name = l.2.name; init = l.2.init })

  ports : AllPairs (λ (s t : Start). (s.name ≢ t.name) × (s.module ≢ t.module)) c.starts → Ports c b
  ports apart = record {
    clock = net.clock;
    inputs = net.inputs;
    outputs = net.output_names;
    starts = all_starts (λ (start : Start). (k : ℕ) × (latch : Latch) × StartsLatch b start k latch) start_latch;
    apart = apart;
  }

  pub array_means : CarryingMeans → AllPairs (λ (s t : Start). (s.name ≢ t.name) × (s.module ≢ t.module)) c.starts → Means c b
  array_means means apart = means c b range form (ports apart) (λ q x v fits. (bits q x v fits, carried q x v fits))

pub array_net_means : PairsAreClocked → ClockIsUnseen → PairsTakeSources → OnSetsHaveValues → EachHasSignals → LatchNamesDiffer → CarryingMeans → ArrayNetMeans
array_net_means clocked unseen takes values signals names means c b range form net apart = array_means c b range form net clocked unseen takes values signals names means apart

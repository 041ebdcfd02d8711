-- A mapped circuit carries each valuation of its net.
use Rattle.std.proofs.Common.{ℕ, zero, suc, ◌≡◌, ◌⊎◌, ◌+◌, ◌-◌, ◌<◌, ◌≤◌, Bool, true, false, List, [], ◌∷◌, length, Option, Some, None, map, refl, sym, ap, subst, ◌∙◌, inl, inr, arith}
use Rattle.std.specs.Prelude.{Contains, slice_get, slice_index_or}
use Rattle.std.specs.List.{AllZip, list_any, range_with_len}
use Rattle.std.proofs.Math.Logic.{∥∥₁_elim}
use mathlib.Core.Bool.{Bool-set}
use Rattle.std.proofs.lemmas.Bool.{cases_lt, false≢true}
use Rattle.std.proofs.lemmas.List.{get_or-map, get_or_past, length-map}
use Rattle.std.proofs.lemmas.List.FromFn.{get_or-map-range_with_len}
use Rattle.std.proofs.lemmas.List.Folds.{list_any_at}
use Rattle.std.proofs.lemmas.Option.{slice_get_within, get_or_from_slice_get}
use Rattle.act1_blif.specs.declared.blif.Blif.{Blif}
use Rattle.act1_blif.specs.declared.blif.Latch.{Latch}
use Rattle.act1_blif.specs.declared.blif.Node.{Node}
use Rattle.act1_blif.specs.Graph.{first_node, signal_count}
use Rattle.act1_blif.specs.Laws.{EachHasSignals, EachIsWhole, HasSignals, LatchNamesDiffer}
use Rattle.act1_blif.specs.Rules.{HasLevels}
use Rattle.act1_blif.specs.Run.{Fits, ShowsBy, signal, signals}
use Rattle.act1_circuit.specs.declared.circuit.Circuit.{Circuit}
use Rattle.act1_circuit.specs.declared.circuit.Output.{Output}
use Rattle.act1_circuit.specs.declared.circuit.Source.{Source}
use Rattle.act1_circuit.specs.declared.circuit.Source.TheVariants.{Zero, Module}
use Rattle.act1_circuit.specs.Cycles.{bit}
use Rattle.act1_circuit.specs.Firing.{fired, source_value, run, RestsAlong, IsWave, Waves}
use Rattle.act1_circuit.specs.PairForm.{Edge, rising, pins_of, is_clock, has_clock, master_pins, slave_pins, start_module, IsPair, IsPairForm}
use Rattle.act1_circuit.specs.Range.{InRange}
use Rattle.act1_cover.specs.declared.forest.Forest.{Forest}
use Rattle.act1_cover.specs.declared.forest.Term.{Term}
use Rattle.act1_cover.specs.declared.forest.Term.TheVariants as term
use Rattle.act1_cover.specs.declared.tile.Tile.{Tile}
use Rattle.act1_cover.specs.Denotes.{ForestsDenote}
use Rattle.act1_cover.specs.Least.{IsForest}
use Rattle.act1_cover.specs.Pins.{TilesGiveValues}
use Rattle.act1_cover.specs.Pins as tile
use Rattle.act1_cover.specs.Values.{AreValues}
use Rattle.act1_cover.proofs.ForestValues.{value, are_values}
use Rattle.act1_logic.specs.Cover.{value_of}
use Rattle.act1_logic.specs.Module.{module_of}
use Rattle.act1_meaning.specs.Carries.{Carries, IsPairOfLatch}
use Rattle.act1_meaning.specs.Laws.{CarryingShows}
use Rattle.act1_meaning.specs.Meaning.{IsCase}
use Rattle.act1_net.specs.declared.net.Net.{Net}
use Rattle.act1_net.specs.declared.net.NetTerm.{NetTerm}
use Rattle.act1_net.specs.declared.net.NetTerm.TheVariants as net
use Rattle.act1_net.specs.Net.{reading_of, term_value}
use Rattle.act1_map.specs.Mapped.{Role, tile as tile_of, «master» as master_of, «slave» as slave_of, Tables, is_live, signal_source, input_of, term_source, net_source, HasTerm, HasNetTerm, IsMappedOutput, IsMapped}
use Rattle.act1_map.specs.Meaning.{IsNet, PortsOfNet, MeansNet}
use Rattle.act1_map.proofs.Gets.{some_same, one_at, some_within, contained_at, mapped_at, mapped_or, at_each}

-- the module has these pins
pub pins_are : (c : Circuit) (m : ℕ) (pins : List Source) → slice_get c.modules m ≡ Some pins → pins_of c m ≡ pins
pins_are c m pins e = get_or_from_slice_get c.modules m pins [] e

pub any_clock : (c : Circuit) (m : ℕ) (pins : List Source) (i : ℕ) → slice_get c.modules m ≡ Some pins → i < length pins → is_clock (slice_index_or pins i Zero) ≡ true → has_clock c m ≡ true
any_clock c m pins i e low is = ap (list_any is_clock) (pins_are c m pins e) ∙ list_any_at is_clock pins i Zero low is

module_same : (f g : ℕ → Bool) → ((pin : ℕ) → f pin ≡ g pin) → module_of f ≡ module_of g
module_same f g h = λ i. module_of (λ pin. h pin i)

pub module_is : (m k : ℕ) → Module m ≡ Module k → m ≡ k
module_is m k e = cc

-- a signal with a source is one of the net's
pub live_within : (n : Net) (c : Circuit) (t : Tables) → IsMapped n c t → (s : ℕ) → is_live t s ≡ true → s < signal_count n.blif
live_within n c t mapped s live = by (cases_lt s (length t.live))
  where
    by : (s < length t.live) ⊎ (length t.live ≤ s) → s < signal_count n.blif
    by (inl low) = let l = mapped.live_count in omega arith
    by (inr high) = absurd (false≢true (sym (get_or_past t.live s false high) ∙ live))

module _ (n : Net) (c : Circuit) (t : Tables) (mapped : IsMapped n c t)
    (have_signals : EachHasSignals) (names_differ : LatchNamesDiffer) (whole : EachIsWhole) (denote : ForestsDenote) (gives : TilesGiveValues) where
  abbrev b : Blif
  b = n.blif

  module _ (q x v : List Bool) (fits : Fits b q x v) where
    -- the values of the terms of a node's forest
    node_terms : (i : ℕ) (o : Option Node) → slice_get b.nodes i ≡ o → Term → Bool
    node_terms i None e = λ u. false
    node_terms i (Some node) e = let f = mapped.forests i node e in value f.0 (denote node.cover f.0 f.2).0 (signals v node.inputs)

    terms : ℕ → Term → Bool
    terms i = node_terms i (slice_get b.nodes i) refl

    record AreTerms (i : ℕ) (node : Node) (forest : Forest) (at : Term → Bool) : Type 0 where
      is : IsForest forest
      values : AreValues forest (signals v node.inputs) at
      root : at forest.root ≡ value_of node.cover (signals v node.inputs)

    terms_by : (i : ℕ) (node : Node) (forest : Forest) (o : Option Node) (e : slice_get b.nodes i ≡ o) → o ≡ Some node → slice_get t.forests i ≡ Some forest → AreTerms i node forest (node_terms i o e)
    unfolding node_terms
    terms_by i node forest None e is there = cc
    terms_by i node forest (Some own) e is there =
        let f = mapped.forests i own e in
        let d = denote own.cover f.0 f.2 in
        let same_node : own ≡ node = some_same own node is in
        let same_forest : f.0 ≡ forest = one_at t.forests i f.0 forest f.1 there in
        let at = value f.0 d.0 (signals v own.inputs) in
        let are = are_values f.0 d.0 (signals v own.inputs) in
        let here : AreTerms i own f.0 at = record { is = d.0; values = are; root = d.1 (signals v own.inputs) at (length-map own.inputs (signal v) ∙ sym ((whole b).widths i own e)) are } in
        subst (λ (nd : Node). AreTerms i nd forest at) same_node (subst (λ (g : Forest). AreTerms i own g at) same_forest here)

    are_terms : (i : ℕ) (node : Node) (forest : Forest) → slice_get b.nodes i ≡ Some node → slice_get t.forests i ≡ Some forest → AreTerms i node forest (terms i)
    unfolding terms
    are_terms i node forest is there = terms_by i node forest (slice_get b.nodes i) refl is there

    -- the bit of each module: that of its fork, that of its latch, and any for a master
    role_bit : Option Role → Bool
    role_bit (Some (tile_of i u)) = terms i (term.Fork u.fork)
    role_bit (Some (slave_of j)) = signal q j
    role_bit (Some (master_of j)) = false
    role_bit None = false

    pub bits : List Bool
    bits = map (λ m. role_bit (slice_get t.roles m)) (range_with_len 0 (length c.modules))

    within_roles : (m : ℕ) (r : Role) → slice_get t.roles m ≡ Some r → m < length c.modules
    within_roles m r e = let low = slice_get_within t.roles m r e in let s = mapped.count in omega arith

    bit_is : (m : ℕ) (r : Role) → slice_get t.roles m ≡ Some r → bit bits m ≡ role_bit (Some r)
    unfolding bits
    bit_is m r e =
        let zero_more : 0 + m ≡ m = omega arith in
        get_or-map-range_with_len (λ k. role_bit (slice_get t.roles k)) 0 (length c.modules) m m false (within_roles m r e) zero_more ∙ ap role_bit e

    tile_bit : (m i : ℕ) (u : Tile) → slice_get t.roles m ≡ Some (tile_of i u) → bit bits m ≡ terms i (term.Fork u.fork)
    unfolding role_bit
    tile_bit m i u e = bit_is m (tile_of i u) e

    slave_bit : (m j : ℕ) → slice_get t.roles m ≡ Some (slave_of j) → bit bits m ≡ signal q j
    unfolding role_bit
    slave_bit m j e = bit_is m (slave_of j) e

    has : HasSignals b q x v
    has = have_signals b q x v fits

    -- the source of a signal has the signal's value
    abbrev IsRight : ℕ → Type 0
    IsRight s = source_value false x bits (signal_source t s) ≡ signal v s

    -- where those of a node's inputs have, the source of each term of its forest has the term's value
    right_term : (i : ℕ) (node : Node) (forest : Forest) → AreTerms i node forest (terms i)
        → ((k : ℕ) → k < length node.inputs → is_live t (input_of node k) ≡ true → IsRight (input_of node k))
        → (e : Term) → HasTerm t i node e → source_value false x bits (term_source t i node e) ≡ terms i e
    right_term i node forest are inputs term.Zero live = sym are.values.zero_is
    right_term i node forest are inputs term.One live = sym are.values.one_is
    right_term i node forest are inputs (term.Var k) live = inputs k live.0 live.1 ∙ sym (get_or-map (signal v) node.inputs k 0 false live.0) ∙ sym (are.values.input_is k)
    right_term i node forest are inputs (term.Fork k) live = tile_bit (t.place i k) i live.0 live.2 ∙ ap (λ (f : ℕ). terms i (term.Fork f)) live.1

    from_front : (s : ℕ) → s < first_node b → IsRight s
    from_front s low = by (cases_lt s (length b.inputs))
      where
        by : (s < length b.inputs) ⊎ (length b.inputs ≤ s) → IsRight s
        by (inl l) = ap (source_value false x bits) (mapped.inputs s l) ∙ sym (has.inputs s l)
        by (inr h) =
            let j = s - length b.inputs in
            let is : length b.inputs + j ≡ s = omega arith in
            let at = mapped.latches j (omega arith) in
            subst IsRight is (ap (source_value false x bits) at.source ∙ slave_bit at.at j at.is ∙ sym (has.latches j (omega arith)))

    -- a node whose inputs do has its value too
    from_node : (i : ℕ) (node : Node) → slice_get b.nodes i ≡ Some node → is_live t (first_node b + i) ≡ true
        → ((k : ℕ) → k < length node.inputs → is_live t (input_of node k) ≡ true → IsRight (input_of node k)) → IsRight (first_node b + i)
    from_node i node e live inputs =
        let l = mapped.nodes i node e live in
        let are = are_terms i node l.forest e l.forest_is in
        ap (source_value false x bits) l.source ∙ right_term i node l.forest are inputs l.forest.root l.root ∙ are.root ∙ sym (has.nodes i node e)

    module _ (levels : HasLevels b.inputs b.latches b.nodes) where
      level : ℕ → ℕ
      level i = slice_index_or levels.levels i 0

      lower : (i j : ℕ) (node : Node) → slice_get b.nodes i ≡ Some node → Contains node.inputs (first_node b + j) → level j < level i
      unfolding level
      lower i j node e h = levels.above i j node e h

      right : (r s : ℕ) → is_live t s ≡ true → ((j : ℕ) → s ≡ first_node b + j → level j < r) → IsRight s
      right zero s live few = by (cases_lt s (first_node b))
        where
          by : (s < first_node b) ⊎ (first_node b ≤ s) → IsRight s
          by (inl low) = from_front s low
          by (inr high) = let f = few (s - first_node b) (omega arith) in absurd (omega arith)
      right (suc r) s live few = by (cases_lt s (first_node b)) (λ u lu fu. right r u lu fu)
        where
          by : (s < first_node b) ⊎ (first_node b ≤ s) → ((u : ℕ) → is_live t u ≡ true → ((j : ℕ) → u ≡ first_node b + j → level j < r) → IsRight u) → IsRight s
          by (inl low) before = from_front s low
          by (inr high) before =
              let i = s - first_node b in
              let is : first_node b + i ≡ s = omega arith in
              let all = live_within n c t mapped s live in
              let own = some_within b.nodes i (omega arith) in
              let node = own.0 in
              subst IsRight is (from_node i node own.1 (ap (is_live t) is ∙ live) (λ k k_in l. before (input_of node k) l
              (λ j f. let up = lower i j node own.1 (subst (λ (u : ℕ). Contains node.inputs u) f (contained_at node.inputs k 0 k_in)) in let here = few i (sym is) in omega arith)))

      all_right : (s : ℕ) → is_live t s ≡ true → IsRight s
      all_right s live = right (suc (level (s - first_node b))) s live (λ j e. let same : s - first_node b ≡ j = omega arith in let f = ap level same in omega arith)

    right_prop : IsProp ((s : ℕ) → is_live t s ≡ true → IsRight s)
    right_prop = hlevel Bool-set

    -- the levels are there, but not told
    pub each_right : (s : ℕ) → is_live t s ≡ true → IsRight s
    each_right = ∥∥₁_elim b.acyclic right_prop all_right

    net_right : (u : NetTerm) → HasNetTerm t u → source_value false x bits (net_source t u) ≡ term_value v u
    net_right net.Zero live = refl
    net_right net.One live = refl
    net_right (net.Signal s) live = each_right s live

    shown_is : (os : List Output) (us : List NetTerm) → AllZip (IsMappedOutput t) os us → map (λ (o : Output). source_value false x bits o.source) os ≡ map (term_value v) us
    shown_is [] [] h = refl
    shown_is [] (u ∷ us) h = absurd h
    shown_is (o ∷ os) [] h = absurd h
    shown_is (o ∷ os) (u ∷ us) h = rw (ap (source_value false x bits) h.0.source ∙ net_right u h.0.has, shown_is os us h.1) refl

    -- each module outside pairs gives its bit
    tile_gives : (m i : ℕ) (u : Tile) → slice_get t.roles m ≡ Some (tile_of i u) → fired c false x bits m ≡ bit bits m
    tile_gives m i u e =
        let h = mapped.tiles m i u e in
        let are = are_terms i h.node h.forest h.node_is h.forest_is in
        let source = term_source t i h.node in
        let pins = tile.pins_of h.forest u in
        let right_pin : (e : Term) → HasTerm t i h.node e → source_value false x bits (source e) ≡ terms i e =
        right_term i h.node h.forest are (λ j low l. each_right (input_of h.node j) l) in
        let each : (pin : ℕ) → source_value false x bits (slice_index_or (map source pins) pin Zero) ≡ terms i (slice_index_or pins pin term.Zero) =
        λ pin. ap (source_value false x bits) (mapped_or source pins pin term.Zero Zero refl)
        ∙ right_pin (slice_index_or pins pin term.Zero) (at_each (HasTerm t i h.node) pins pin term.Zero tt h.reads) in
        ap (λ (ps : List Source). module_of (λ pin. source_value false x bits (slice_index_or ps pin Zero))) (pins_are c m (map source pins) h.pins)
        ∙ module_same (λ pin. source_value false x bits (slice_index_or (map source pins) pin Zero)) (λ pin. terms i (slice_index_or pins pin term.Zero)) each
        ∙ gives h.forest (signals v h.node.inputs) (terms i) are.is are.values u h.stands
        ∙ sym (tile_bit m i u e)

    steady : (m : ℕ) → m < length c.modules → has_clock c m ≡ false → fired c false x bits m ≡ bit bits m
    steady m low none = by (some_within t.roles m (let s = mapped.count in omega arith))
      where
        by : ((r : Role) × (slice_get t.roles m ≡ Some r)) → fired c false x bits m ≡ bit bits m
        by (tile_of i u, e) = tile_gives m i u e
        by (master_of j, e) = let h = mapped.masters m j e in absurd (false≢true (sym none ∙ any_clock c m (master_pins rising (net_source t h.takes) m) 6 h.pins (omega arith) refl))
        by (slave_of j, e) = let h = mapped.slaves m j e in absurd (false≢true (sym none ∙ any_clock c m (slave_pins rising h.of m) 6 h.pins (omega arith) refl))

    start_is : (f : Edge) (m s : ℕ) → start_module f m s ≡ s
    start_is rising m s = refl

    -- the slave of a pair is that of its latch
    slave_role : (f : Edge) (u : Source) (m s k : ℕ) (latch : Latch) → IsPairOfLatch c b f u m s k latch → slice_get t.roles s ≡ Some (slave_of k)
    slave_role f u m s k latch h =
        let own = mapped.starts h.place h.start h.there in
        let same : own.number ≡ k = names_differ b own.number k own.of latch own.starts.is h.starts.is (own.starts.name ∙ sym h.starts.name) in
        let at : h.start.module ≡ s = h.here ∙ start_is f m s in
        ap (slice_get t.roles) (sym at) ∙ own.at ∙ ap (λ (j : ℕ). Some (slave_of j)) same

    takes_next : (f : Edge) (u : Source) (m s k : ℕ) → IsPair c f u m s → slice_get t.roles s ≡ Some (slave_of k) → source_value false x bits u ≡ signal (map (term_value v) n.next) k
    takes_next rising u m s k p e =
        let own = mapped.slaves s k e in
        let slave_same : slave_pins rising own.of s ≡ slave_pins rising m s = one_at c.modules s (slave_pins rising own.of s) (slave_pins rising m s) own.pins p.slave in
        let same : own.of ≡ m = module_is own.of m (ap (λ (ps : List Source). slice_index_or ps 3 Zero) slave_same) in
        let h = mapped.masters own.of k own.of_is in
        let there : slice_get c.modules m ≡ Some (master_pins rising (net_source t h.takes) own.of) = ap (slice_get c.modules) (sym same) ∙ h.pins in
        let pins : master_pins rising u m ≡ master_pins rising (net_source t h.takes) own.of = one_at c.modules m (master_pins rising u m) (master_pins rising (net_source t h.takes) own.of) p.master there in
        let is : u ≡ net_source t h.takes = ap (λ (ps : List Source). slice_index_or ps 0 Zero) pins in
        ap (source_value false x bits) is ∙ net_right h.takes h.has ∙ sym (mapped_at (term_value v) n.next k h.takes false h.takes_is)

    pub carried : Carries c b (reading_of n) q x v bits
    carried = record {
      steady = steady;
      latches = λ f u m s k latch h. slave_bit s k (slave_role f u m s k latch h);
      taken = λ f u m s k latch h. takes_next f u m s k h.pair (slave_role f u m s k latch h);
      outputs = shown_is c.outputs n.outputs mapped.outputs;
    }

  pub mapped_means : CarryingShows → IsNet n → InRange c → IsPairForm c → PortsOfNet c n → MeansNet c n
  mapped_means carrying is_net range form ports = record {
    in_range = range;
    ports = ports;
    shows = λ q bits xs ws k. (all q bits xs ws k).0;
    rests = λ q bits xs ws k. (all q bits xs ws k).1;
  }
    where
      all : (q bits : List Bool) (xs : List (List Bool)) (ws : List Waves) → IsCase IsWave c b q bits xs ws → ShowsBy b (reading_of n) q xs (run c bits xs ws) × RestsAlong c bits xs ws
      all = carrying c b (reading_of n) range form (record { inputs = ports.inputs; starts = ports.starts })
          (λ q x v fits. (bits q x v fits, carried q x v fits))
          (λ v. length-map n.next (term_value v) ∙ is_net.next)

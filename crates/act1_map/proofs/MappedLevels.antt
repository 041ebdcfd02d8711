-- What the sources of a mapping can be: never the clock or a master, and at a tile of a node only lower tiles.
use Rattle.std.proofs.Common.{ℕ, zero, suc, ◌≡◌, ◌⊎◌, ◌+◌, ◌-◌, ◌<◌, ◌≤◌, Bool, true, false, List, [], ◌∷◌, length, Option, Some, None, map, refl, sym, ap, subst, ◌∙◌, inl, inr, arith}
use Rattle.std.specs.Prelude.{Contains, if◌then◌else◌, slice_get, slice_index_or}
use Rattle.std.specs.List.{filter_map, cons_option}
use Rattle.std.proofs.Math.Logic.{∥∥₁_elim}
use mathlib.Core.Bool.{Bool-set}
use Rattle.std.proofs.lemmas.Bool.{cases_lt, false≢true}
use Rattle.std.proofs.lemmas.List.{get_or-map, get_or_past, length-map}
use Rattle.act1_blif.specs.declared.blif.Blif.{Blif}
use Rattle.act1_blif.specs.declared.blif.Node.{Node}
use Rattle.act1_blif.specs.Graph.{first_node}
use Rattle.act1_blif.specs.Rules.{HasLevels}
use Rattle.act1_circuit.specs.declared.circuit.Circuit.{Circuit}
use Rattle.act1_circuit.specs.declared.circuit.Source.{Source}
use Rattle.act1_circuit.specs.declared.circuit.Source.TheVariants.{Zero, One, Clock, Input, Module}
use Rattle.act1_circuit.specs.PairForm.{rising, pins_of, pin_of, has_clock, master_pins, slave_pins, outside_module, outside_reads, outside_reads_of}
use Rattle.act1_circuit.specs.Range.{HasSource, InRange}
use Rattle.act1_cover.specs.declared.forest.Forest.{Forest}
use Rattle.act1_cover.specs.declared.forest.Term.{Term}
use Rattle.act1_cover.specs.declared.forest.Term.TheVariants as term
use Rattle.act1_cover.specs.declared.tile.Tile.{Tile}
use Rattle.act1_cover.specs.Denotes.{ForestsDenote}
use Rattle.act1_cover.specs.Least.{IsForest}
use Rattle.act1_cover.specs.Pins as tile
use Rattle.act1_net.specs.declared.net.Net.{Net}
use Rattle.act1_net.specs.declared.net.NetTerm.{NetTerm}
use Rattle.act1_net.specs.declared.net.NetTerm.TheVariants as net
use Rattle.act1_order.specs.Order.{OnRing, Reads, LeadsTo}
use Rattle.act1_map.specs.Mapped.{Role, tile as tile_of, «master» as master_of, «slave» as slave_of, Tables, is_live, signal_source, input_of, term_source, net_source, HasTerm, HasNetTerm, IsMapped}
use Rattle.act1_map.proofs.Gets.{one_at, some_within, contained_at, mapped_or, at_each}
use Rattle.act1_map.proofs.MappedMeaning.{pins_are, any_clock, module_is, live_within}
use Rattle.act1_map.proofs.TilePins.{pin_below}

-- the circuit has each module that is at a pin
pub source_within : (c : Circuit) → InRange c → (m pin k : ℕ) → pin_of c m pin ≡ Module k → (m < length c.modules) × (k < length c.modules)
source_within c range m pin k e = by (cases_lt m (length c.modules))
  where
    no : Zero ≡ Module k → ⊥
    no f = cc

    at : m < length c.modules → (pin < length (pins_of c m)) ⊎ (length (pins_of c m) ≤ pin) → HasSource c (pin_of c m pin)
    at low (inl short) = (range.pins m [] low).1 pin Zero short
    at low (inr high) = subst (λ (s : Source). HasSource c s) (sym (get_or_past (pins_of c m) pin Zero high)) tt

    by : (m < length c.modules) ⊎ (length c.modules ≤ m) → (m < length c.modules) × (k < length c.modules)
    by (inl low) = (low, subst (λ (s : Source). HasSource c s) e (at low (cases_lt pin (length (pins_of c m)))))
    by (inr high) = absurd (no (sym (ap (λ (ps : List Source). slice_index_or ps pin Zero) (get_or_past c.modules m [] high)) ∙ e))

-- what the row of a module without the clock has
from_filtered : (c : Circuit) (ss : List Source) (k : ℕ) → Contains (filter_map (outside_module c) ss) k → (pin : ℕ) × (slice_index_or ss pin Zero ≡ Module k) × (has_clock c k ≡ false)
from_filtered c [] k (i, low, e) = absurd (omega arith)
from_filtered c (s ∷ ss) k h = by (outside_module c s) refl h (from_filtered c ss k)
  where
    later : ((pin : ℕ) × (slice_index_or ss pin Zero ≡ Module k) × (has_clock c k ≡ false)) → (pin : ℕ) × (slice_index_or (s ∷ ss) pin Zero ≡ Module k) × (has_clock c k ≡ false)
    later (pin, e, f) = (suc pin, e, f)

    chosen : (j i : ℕ) (b : Bool) → (if b then None else Some j) ≡ Some i → (j ≡ i) × (b ≡ false)
    chosen j i true e = cc
    chosen j i false e = ((let f : j ≡ i = cc in f), refl)

    is : (t : Source) (j : ℕ) → outside_module c t ≡ Some j → (t ≡ Module j) × (has_clock c j ≡ false)
    is (Module i) j e = let r = chosen i j (has_clock c i) e in (ap Module r.0, ap (has_clock c) (sym r.0) ∙ r.1)
    is Zero j e = cc
    is One j e = cc
    is Clock j e = cc
    is (Input i) j e = cc

    by : (o : Option ℕ) → outside_module c s ≡ o → Contains (cons_option o (filter_map (outside_module c) ss)) k
        → (Contains (filter_map (outside_module c) ss) k → (pin : ℕ) × (slice_index_or ss pin Zero ≡ Module k) × (has_clock c k ≡ false)) → (pin : ℕ) × (slice_index_or (s ∷ ss) pin Zero ≡ Module k) × (has_clock c k ≡ false)
    by None f h r = later (r h)
    by (Some j) f (zero, low, e) r = let g = is s j f in (0, g.0 ∙ ap Module e, ap (has_clock c) (sym e) ∙ g.1)
    by (Some j) f (suc i, low, e) r = later (r (i, omega arith, e))

outside_row : (c : Circuit) (m k : ℕ) → Reads (outside_reads c) m k → (has_clock c m ≡ false) × ((pin : ℕ) × (pin_of c m pin ≡ Module k) × (has_clock c k ≡ false))
outside_row c m k h = by (cases_lt m (length c.modules))
  where
    one : (b : Bool) → has_clock c m ≡ b → Contains (if b then [] else filter_map (outside_module c) (pins_of c m)) k → (has_clock c m ≡ false) × ((pin : ℕ) × (pin_of c m pin ≡ Module k) × (has_clock c k ≡ false))
    one true e (i, low, f) = absurd (omega arith)
    one false e g = (e, from_filtered c (pins_of c m) k g)

    by : (m < length c.modules) ⊎ (length c.modules ≤ m) → (has_clock c m ≡ false) × ((pin : ℕ) × (pin_of c m pin ≡ Module k) × (has_clock c k ≡ false))
    by (inl low) = one (has_clock c m) refl (subst (λ (ks : List ℕ). Contains ks k) (get_or-map (outside_reads_of c) c.modules m [] [] low) h)
    by (inr high) =
        let none = get_or_past (outside_reads c) m [] (let l = length-map c.modules (outside_reads_of c) in omega arith) in
        let g = subst (λ (ks : List ℕ). Contains ks k) none h in absurd (omega (arith, g.1))

module _ (n : Net) (c : Circuit) (t : Tables) (range : InRange c) (mapped : IsMapped n c t) (denote : ForestsDenote) where
  abbrev b : Blif
  b = n.blif

  abbrev pub Roles : ℕ → Role → Type 0
  Roles m r = slice_get t.roles m ≡ Some r

  -- the levels of the forks of a node
  node_level : (i : ℕ) (o : Option Node) → slice_get b.nodes i ≡ o → ℕ → ℕ
  node_level i None e = λ k. 0
  node_level i (Some node) e = let f = mapped.forests i node e in (denote node.cover f.0 f.2).0.level

  fork_level : ℕ → ℕ → ℕ
  fork_level i = node_level i (slice_get b.nodes i) refl

  abbrev HasLevel : ℕ → Forest → (ℕ → ℕ) → Type 0
  HasLevel i forest level = (is : IsForest forest) × (is.level ≡ level)

  level_by : (i : ℕ) (node : Node) (forest : Forest) (o : Option Node) (e : slice_get b.nodes i ≡ o) → o ≡ Some node → slice_get t.forests i ≡ Some forest → HasLevel i forest (node_level i o e)
  unfolding node_level
  level_by i node forest None e is there = cc
  level_by i node forest (Some own) e is there =
      let f = mapped.forests i own e in
      let same : f.0 ≡ forest = one_at t.forests i f.0 forest f.1 there in
      let d = (denote own.cover f.0 f.2).0 in
      subst (λ (g : Forest). HasLevel i g d.level) same (d, refl)

  has_level : (i : ℕ) (node : Node) (forest : Forest) → slice_get b.nodes i ≡ Some node → slice_get t.forests i ≡ Some forest → HasLevel i forest (fork_level i)
  unfolding fork_level
  has_level i node forest is there = level_by i node forest (slice_get b.nodes i) refl is there

  pub role_of : (m : ℕ) → m < length c.modules → (r : Role) × Roles m r
  role_of m low = some_within t.roles m (let s = mapped.count in omega arith)

  -- a module without the clock is a tile
  is_tile : (m : ℕ) → m < length c.modules → has_clock c m ≡ false → (i : ℕ) × (u : Tile) × Roles m (tile_of i u)
  is_tile m low none = by (role_of m low)
    where
      by : ((r : Role) × Roles m r) → (i : ℕ) × (u : Tile) × Roles m (tile_of i u)
      by (tile_of i u, e) = (i, u, e)
      by (master_of j, e) = let h = mapped.masters m j e in absurd (false≢true (sym none ∙ any_clock c m (master_pins rising (net_source t h.takes) m) 6 h.pins (omega arith) refl))
      by (slave_of j, e) = let h = mapped.slaves m j e in absurd (false≢true (sym none ∙ any_clock c m (slave_pins rising h.of m) 6 h.pins (omega arith) refl))

  module _ (levels : HasLevels b.inputs b.latches b.nodes) where
    level : ℕ → ℕ
    level i = slice_index_or levels.levels i 0

    lower : (i j : ℕ) (node : Node) → slice_get b.nodes i ≡ Some node → Contains node.inputs (first_node b + j) → level j < level i
    unfolding level
    lower i j node e h = levels.above i j node e h

    -- what the source of a signal can be: not the clock, no master, and a tile of this node or of a lower one
    record IsPlain (s : ℕ) : Type 0 where
      clock : signal_source t s ≡ Clock → ⊥
      masters : (m j : ℕ) → signal_source t s ≡ Module m → Roles m (master_of j) → ⊥
      tiles : (m i : ℕ) (u : Tile) → signal_source t s ≡ Module m → Roles m (tile_of i u) → (first_node b ≤ s) × (level i ≤ level (s - first_node b))

    same_module : (s : Source) (m k : ℕ) → s ≡ Module m → s ≡ Module k → m ≡ k
    same_module s m k e f = module_is m k (sym e ∙ f)

    from_front : (s : ℕ) → s < first_node b → IsPlain s
    from_front s low = by (cases_lt s (length b.inputs))
      where
        by : (s < length b.inputs) ⊎ (length b.inputs ≤ s) → IsPlain s
        by (inl l) =
            let is = mapped.inputs s l in
            record { clock = λ e. (let f = sym is ∙ e in cc); masters = λ m j e r. (let f = sym is ∙ e in cc); tiles = λ m i u e r. (let f = sym is ∙ e in cc) }
        by (inr h) =
            let j = s - length b.inputs in
            let is : length b.inputs + j ≡ s = omega arith in
            let at = mapped.latches j (omega arith) in
            let source : signal_source t s ≡ Module at.at = ap (signal_source t) (sym is) ∙ at.source in
            record {
              clock = λ e. (let f = sym source ∙ e in cc);
              masters = λ m k e r. (let same = same_module (signal_source t s) at.at m source e in let f = sym at.is ∙ ap (slice_get t.roles) same ∙ r in cc);
              tiles = λ m i u e r. (let same = same_module (signal_source t s) at.at m source e in let f = sym at.is ∙ ap (slice_get t.roles) same ∙ r in cc);
            }

    same_tile : (m i j : ℕ) (u w : Tile) → Roles m (tile_of i u) → Roles m (tile_of j w) → (i ≡ j) × (u ≡ w)
    same_tile m i j u w e f = by (one_at t.roles m (tile_of i u) (tile_of j w) e f)
      where
        by : tile_of i u ≡ tile_of j w → (i ≡ j) × (u ≡ w)
        by g = ((let h : i ≡ j = cc in h), (let h : u ≡ w = cc in h))

    -- the source of a term of a node's forest
    record IsPlainTerm (i : ℕ) (s : Source) : Type 0 where
      clock : s ≡ Clock → ⊥
      masters : (m j : ℕ) → s ≡ Module m → Roles m (master_of j) → ⊥
      tiles : (m j : ℕ) (u : Tile) → s ≡ Module m → Roles m (tile_of j u) → level j ≤ level i

    plain_term : (i : ℕ) (node : Node) → slice_get b.nodes i ≡ Some node → ((k : ℕ) → k < length node.inputs → is_live t (input_of node k) ≡ true → IsPlain (input_of node k))
        → (e : Term) → HasTerm t i node e → IsPlainTerm i (term_source t i node e)
    plain_term i node is inputs term.Zero live = record { clock = λ e. cc; masters = λ m j e r. cc; tiles = λ m j u e r. cc }
    plain_term i node is inputs term.One live = record { clock = λ e. cc; masters = λ m j e r. cc; tiles = λ m j u e r. cc }
    plain_term i node is inputs (term.Var v) live =
        let h = inputs v live.0 live.1 in
        record {
          clock = h.clock;
          masters = h.masters;
          tiles = λ m j u e r. (let g = h.tiles m j u e r in let s = input_of node v in
              let at : first_node b + (s - first_node b) ≡ s = (let a = g.0 in omega arith) in
              let up = lower i (s - first_node b) node is (subst (λ (u : ℕ). Contains node.inputs u) (sym at) (contained_at node.inputs v 0 live.0)) in omega (arith, g.1));
        }
    plain_term i node is inputs (term.Fork k) live =
        record {
          clock = λ e. cc;
          masters = λ m j e r. (let same = module_is (t.place i k) m e in let f = sym live.2 ∙ ap (slice_get t.roles) same ∙ r in cc);
          tiles = λ m j u e r. (let same = module_is (t.place i k) m e in
              let g = same_tile m i j live.0 u (ap (slice_get t.roles) (sym same) ∙ live.2) r in let f = ap level g.0 in omega arith);
        }

    from_node : (i : ℕ) (node : Node) → slice_get b.nodes i ≡ Some node → is_live t (first_node b + i) ≡ true
        → ((k : ℕ) → k < length node.inputs → is_live t (input_of node k) ≡ true → IsPlain (input_of node k)) → IsPlain (first_node b + i)
    from_node i node e live inputs =
        let l = mapped.nodes i node e live in
        let h = plain_term i node e inputs l.forest.root l.root in
        let at : (first_node b + i) - first_node b ≡ i = omega arith in
        let same = ap level at in
        record {
          clock = λ f. h.clock (sym l.source ∙ f);
          masters = λ m j f r. h.masters m j (sym l.source ∙ f) r;
          tiles = λ m j u f r. (let g = h.tiles m j u (sym l.source ∙ f) r in (omega arith, omega arith));
        }

    plain : (r s : ℕ) → is_live t s ≡ true → ((j : ℕ) → s ≡ first_node b + j → level j < r) → IsPlain s
    plain zero s live few = by (cases_lt s (first_node b))
      where
        by : (s < first_node b) ⊎ (first_node b ≤ s) → IsPlain s
        by (inl low) = from_front s low
        by (inr high) = let f = few (s - first_node b) (omega arith) in absurd (omega arith)
    plain (suc r) s live few = by (cases_lt s (first_node b)) (λ u lu fu. plain r u lu fu)
      where
        by : (s < first_node b) ⊎ (first_node b ≤ s) → ((u : ℕ) → is_live t u ≡ true → ((j : ℕ) → u ≡ first_node b + j → level j < r) → IsPlain u) → IsPlain s
        by (inl low) before = from_front s low
        by (inr high) before =
            let i = s - first_node b in
            let is : first_node b + i ≡ s = omega arith in
            let all = live_within n c t mapped s live in
            let own = some_within b.nodes i (omega arith) in
            let node = own.0 in
            subst IsPlain is (from_node i node own.1 (ap (is_live t) is ∙ live) (λ k k_in l. before (input_of node k) l
            (λ j f. let up = lower i j node own.1 (subst (λ (u : ℕ). Contains node.inputs u) f (contained_at node.inputs k 0 k_in)) in let here = few i (sym is) in omega arith)))

    all_plain : (s : ℕ) → is_live t s ≡ true → IsPlain s
    all_plain s live = plain (suc (level (s - first_node b))) s live (λ j e. let same : s - first_node b ≡ j = omega arith in let f = ap level same in omega arith)

    net_plain : (u : NetTerm) → HasNetTerm t u → (net_source t u ≡ Clock → ⊥) × ((m j : ℕ) → net_source t u ≡ Module m → Roles m (master_of j) → ⊥)
    net_plain net.Zero live = ((λ e. cc), (λ m j e r. cc))
    net_plain net.One live = ((λ e. cc), (λ m j e r. cc))
    net_plain (net.Signal s) live = let h = all_plain s live in (h.clock, h.masters)

    -- a tile is lower than another: of a lower node, or of a lower fork of the same node
    abbrev Less : ℕ → ℕ → ℕ → ℕ → Type 0
    Less j l i k = (level j < level i) ⊎ ((j ≡ i) × (fork_level i l < fork_level i k))

    -- what the pins of a tile can be
    record IsBelow (i k : ℕ) (s : Source) : Type 0 where
      clock : s ≡ Clock → ⊥
      masters : (m j : ℕ) → s ≡ Module m → Roles m (master_of j) → ⊥
      tiles : (m j : ℕ) (u : Tile) → s ≡ Module m → Roles m (tile_of j u) → Less j u.fork i k

    below_term : (i k : ℕ) (node : Node) → slice_get b.nodes i ≡ Some node → (e : Term) → HasTerm t i node e
        → ((j : ℕ) → e ≡ term.Fork j → fork_level i j < fork_level i k) → IsBelow i k (term_source t i node e)
    below_term i k node is term.Zero live low = record { clock = λ e. cc; masters = λ m j e r. cc; tiles = λ m j u e r. cc }
    below_term i k node is term.One live low = record { clock = λ e. cc; masters = λ m j e r. cc; tiles = λ m j u e r. cc }
    below_term i k node is (term.Var v) live low =
        let h = all_plain (input_of node v) live.1 in
        record {
          clock = h.clock;
          masters = h.masters;
          tiles = λ m j u e r. (let g = h.tiles m j u e r in let s = input_of node v in
              let at : first_node b + (s - first_node b) ≡ s = (let a = g.0 in omega arith) in
              let up = lower i (s - first_node b) node is (subst (λ (u : ℕ). Contains node.inputs u) (sym at) (contained_at node.inputs v 0 live.0)) in
              let l : level j < level i = omega (arith, g.1) in inl l);
        }
    below_term i k node is (term.Fork f) live low =
        record {
          clock = λ e. cc;
          masters = λ m j e r. (let same = module_is (t.place i f) m e in let g = sym live.2 ∙ ap (slice_get t.roles) same ∙ r in cc);
          tiles = λ m j u e r.
              let same = module_is (t.place i f) m e in
              let g = same_tile m i j live.0 u (ap (slice_get t.roles) (sym same) ∙ live.2) r in
              let fork : f ≡ u.fork = sym live.1 ∙ ap (λ (w : Tile). w.fork) g.1 in
              let l : fork_level i u.fork < fork_level i k = subst (λ (d : ℕ). fork_level i d < fork_level i k) fork (low f refl) in
              inr (sym g.0, l);
        }

    pin_plain_below : (m i : ℕ) (u : Tile) → Roles m (tile_of i u) → (pin : ℕ) → IsBelow i u.fork (pin_of c m pin)
    pin_plain_below m i u e pin =
        let h = mapped.tiles m i u e in
        let source = term_source t i h.node in
        let lev = has_level i h.node h.forest h.node_is h.forest_is in
        let below : (x : Term) → Contains (tile.pins_of h.forest u) x → (j : ℕ) → x ≡ term.Fork j → fork_level i j < fork_level i u.fork =
        λ x d j f. (let low = pin_below h.forest lev.0 u h.stands x d j f in
        let one = ap (λ (l : ℕ → ℕ). l j) lev.1 in let two = ap (λ (l : ℕ → ℕ). l u.fork) lev.1 in omega arith) in
        let at : IsBelow i u.fork (source (slice_index_or (tile.pins_of h.forest u) pin term.Zero)) =
        at_each (λ (x : Term). IsBelow i u.fork (source x)) (tile.pins_of h.forest u) pin term.Zero
        (below_term i u.fork h.node h.node_is term.Zero tt (λ j f. cc))
        (λ x d. below_term i u.fork h.node h.node_is x (h.reads x d) (below x d)) in
        subst (λ (s : Source). IsBelow i u.fork s)
        (sym (ap (λ (ps : List Source). slice_index_or ps pin Zero) (pins_are c m (map source (tile.pins_of h.forest u)) h.pins) ∙ mapped_or source (tile.pins_of h.forest u) pin term.Zero Zero refl)) at

    -- a module outside pairs reads lower tiles alone
    record IsLower (m k : ℕ) : Type 0 where
      i : ℕ
      u : Tile
      j : ℕ
      w : Tile
      upper : Roles m (tile_of i u)
      under : Roles k (tile_of j w)
      less : Less j w.fork i u.fork

    edge : (m k : ℕ) → Reads (outside_reads c) m k → IsLower m k
    edge m k h =
        let r = outside_row c m k h in
        let low = source_within c range m r.1.0 k r.1.1 in
        let up = is_tile m low.0 r.0 in
        let down = is_tile k low.1 r.1.2 in
        let is = pin_plain_below m up.0 up.1 up.2 r.1.0 in
        record { i = up.0; u = up.1; j = down.0; w = down.1; upper = up.2; under = down.2; less = is.tiles k down.0 down.1 r.1.1 down.2 }

    less_less : (i f j g k h : ℕ) → Less j g i f → Less k h j g → Less k h i f
    less_less i f j g k h (inl a) (inl d) = inl (omega arith)
    less_less i f j g k h (inl a) (inr d) = let s = ap level d.0 in inl (omega arith)
    less_less i f j g k h (inr a) (inl d) = let s = ap level a.0 in inl (omega arith)
    less_less i f j g k h (inr a) (inr d) = inr (d.0 ∙ a.0, (let lower2 : fork_level i h < fork_level i g = subst (λ (u : ℕ). fork_level u h < fork_level u g) a.0 d.1 in let x = a.1 in omega arith))

    join : (m k l : ℕ) → IsLower m k → IsLower k l → IsLower m l
    join m k l a d =
        let s = same_tile k a.j d.i a.w d.u a.under d.upper in
        let forks = ap (λ (x : Tile). x.fork) s.1 in
        record {
          i = a.i;
          u = a.u;
          j = d.j;
          w = d.w;
          upper = a.upper;
          under = d.under;
          less = less_less a.i a.u.fork a.j a.w.fork d.j d.w.fork a.less
              (subst (λ (x : ℕ). Less d.j d.w.fork x a.w.fork) (sym s.0) (subst (λ (x : ℕ). Less d.j d.w.fork d.i x) (sym forks) d.less));
        }

    path_lower : (m k : ℕ) (path : List ℕ) → LeadsTo (outside_reads c) m path k → IsLower m k
    path_lower m k [] h = edge m k h
    path_lower m k (u ∷ path) h = join m u k (edge m u h.0) (path_lower u k path h.1)

    no_ring : (m : ℕ) → OnRing (outside_reads c) m → ⊥
    no_ring m ring = by (path_lower m m ring.path ring.leads)
      where
        never : (i f j g : ℕ) → i ≡ j → f ≡ g → Less j g i f → ⊥
        never i f j g s u (inl a) = let e = ap level s in omega arith
        never i f j g s u (inr a) = let e = ap (fork_level i) u in omega (arith, a.1)

        by : IsLower m m → ⊥
        by a = let s = same_tile m a.i a.j a.u a.w a.upper a.under in never a.i a.u.fork a.j a.w.fork s.0 (ap (λ (x : Tile). x.fork) s.1) a.less

  -- without the levels, which a netlist has but doesn't tell
  abbrev pub TermsPlain : Type 0
  TermsPlain = (u : NetTerm) → HasNetTerm t u → (net_source t u ≡ Clock → ⊥) × ((m j : ℕ) → net_source t u ≡ Module m → Roles m (master_of j) → ⊥)

  terms_prop : IsProp TermsPlain
  terms_prop = hlevel Bool-set

  pub term_plain : TermsPlain
  term_plain = ∥∥₁_elim b.acyclic terms_prop net_plain

  abbrev pub PinsPlain : Type 0
  PinsPlain = (m i : ℕ) (u : Tile) → Roles m (tile_of i u) → (pin : ℕ) → (pin_of c m pin ≡ Clock → ⊥) × ((l j : ℕ) → pin_of c m pin ≡ Module l → Roles l (master_of j) → ⊥)

  pins_prop : IsProp PinsPlain
  pins_prop = hlevel Bool-set

  pub pin_plain : PinsPlain
  pin_plain = ∥∥₁_elim b.acyclic pins_prop (λ levels m i u e pin. ((pin_plain_below levels m i u e pin).clock, (pin_plain_below levels m i u e pin).masters))

  rings_prop : IsProp ((m : ℕ) → OnRing (outside_reads c) m → ⊥)
  rings_prop = hlevel Bool-set

  pub no_rings : (m : ℕ) → OnRing (outside_reads c) m → ⊥
  no_rings = ∥∥₁_elim b.acyclic rings_prop no_ring

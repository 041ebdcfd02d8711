-- A built circuit has each of its sources, and the ports of its net.
use Rattle.std.proofs.Common.{ℕ, zero, suc, ◌≡◌, ◌≢◌, ◌⊎◌, ◌+◌, ◌-◌, ◌*◌, ◌<◌, ◌≤◌, Bool, true, false, List, [], ◌∷◌, length, map, Some, refl, sym, ap, subst, ◌∙◌, inl, inr, arith}
use Rattle.std.specs.Prelude.{All, Contains, slice_get, slice_index_or}
use Rattle.std.proofs.lemmas.Bool.{cases_lt}
use Rattle.std.proofs.lemmas.List.{length-append, length-map}
use Rattle.std.proofs.lemmas.Option.{get_or_from_slice_get, slice_get-get_or, slice_get_within}
use Rattle.act1_base.proofs.ListGets.{get_mapped}
use Rattle.act1_blif.specs.declared.blif.Blif.{Blif}
use Rattle.act1_blif.specs.declared.blif.Latch.{Latch}
use Rattle.act1_blif.specs.declared.blif.Node.{Node}
use Rattle.act1_blif.specs.Graph.{first_node, signal_count}
use Rattle.act1_blif.specs.Laws.{LatchNamesDiffer}
use Rattle.act1_circuit.specs.declared.circuit.Circuit.{Circuit}
use Rattle.act1_circuit.specs.declared.circuit.Output.{Output}
use Rattle.act1_circuit.specs.declared.circuit.Source.{Source}
use Rattle.act1_circuit.specs.declared.circuit.Source.TheVariants.{Zero, Clock, Module}
use Rattle.act1_circuit.specs.declared.circuit.Start.{Start}
use Rattle.act1_circuit.specs.PairForm.{rising, master_pins, slave_pins}
use Rattle.act1_circuit.specs.Range.{HasSource, InRange}
use Rattle.act1_cover.specs.declared.forest.Term.{Term}
use Rattle.act1_cover.specs.declared.forest.Term.TheVariants as term
use Rattle.act1_cover.specs.Pins.{pins_of}
use Rattle.act1_meaning.specs.Meaning.{StartsLatch}
use Rattle.act1_net.specs.declared.net.Net.{Net}
use Rattle.act1_net.specs.declared.net.NetTerm.{NetTerm}
use Rattle.act1_net.specs.declared.net.NetTerm.TheVariants as net
use Rattle.act1_map.specs.declared.covers.Covered.{Covered}
use Rattle.act1_map.specs.declared.tiles.NodeTile.{NodeTile}
use Rattle.act1_map.specs.Mapped.{Role, tile, «master» as master_of, «slave» as slave_of, HasNetTerm, HasTerm, IsMasterModule, IsSlaveModule, Tables, net_source, signal_source, term_source}
use Rattle.act1_map.specs.MapSteps.{latch_modules, slave_at, source_in}
use Rattle.act1_map.specs.Meaning.{PortsOfNet}
use Rattle.act1_map.proofs.Gets.{contained_at, got, mapped_get, one_at, some_within}
use Rattle.act1_map.proofs.LatchPairs.{master_module, modules_count, slave_module, start_at, start_from, start_is, starts_count}
use Rattle.act1_map.proofs.Passes.{get_right}
use Rattle.act1_map.proofs.TilePins.{eight_pins}
use Rattle.act1_map.proofs.BuiltRoles.{IsBuilt, all_roles, master_at, master_from, roles_of, slave_from, tables}
use Rattle.act1_map.proofs.BuiltParts.{input_source, latch_source, net_same, next_there, node_source_is, output_there, root_there, tile_module}

module _ (n : Net) (covers : List Covered) (marks : List Bool) (tiles : List NodeTile) (places : List (List ℕ)) (sources : List Source) (c : Circuit) (h : IsBuilt n covers marks tiles places sources c) where
  abbrev b : Blif
  b = n.blif

  abbrev t : Tables
  t = tables n covers marks tiles places sources

  abbrev roles : List Role
  roles = roles_of tiles (length b.latches)

  abbrev IsLive : ℕ → Type 0
  IsLive s = slice_index_or marks s false ≡ true

  -- how many modules there are
  pub count : length c.modules ≡ length tiles + 2 * length b.latches
  count =
      let ms = h.made.modules in
      let l = ap (λ (xs : List (List Source)). length xs) ms.is in
      let a = length-append ms.front (latch_modules sources (length tiles) n.next) in
      let f = ms.are_tiles.count in
      let m = modules_count sources (length tiles) n.next in
      let e = h.is_net.next in omega arith

  pub roles_count : length roles ≡ length c.modules
  roles_count = all_roles tiles (length b.latches) ∙ sym count

  role_low : (m : ℕ) (r : Role) → slice_get roles m ≡ Some r → m < length c.modules
  role_low m r e = let l = slice_get_within roles m r e in let k = roles_count in omega arith

  -- the masters and the slaves
  pub the_master : (m j : ℕ) → slice_get roles m ≡ Some (master_of j) → IsMasterModule n c t m j
  the_master m j e =
      let (place, low) = master_from tiles (length b.latches) m j e in
      let next = h.is_net.next in
      let (x, at) = some_within n.next j (omega arith) in
      let ms = h.made.modules in
      let f = ms.are_tiles.count in
      record {
        takes = x;
        takes_is = at;
        pins =
            ap (λ (xs : List (List Source)). slice_get xs m) ms.is
            ∙ get_right ms.front (latch_modules sources (length tiles) n.next) m (2 * j) (master_pins rising (source_in sources x) m) (omega arith) (master_module sources (length tiles) n.next j m (2 * j) x at place refl)
            ∙ ap (λ (s : Source). Some (master_pins rising s m)) (net_same n covers marks tiles places sources c h x);
        has = next_there n covers marks tiles places sources c h j x at;
      }

  pub the_slave : (s j : ℕ) → slice_get roles s ≡ Some (slave_of j) → IsSlaveModule c t s j
  the_slave s j e =
      let (place, low) = slave_from tiles (length b.latches) s j e in
      let next = h.is_net.next in
      let (x, at) = some_within n.next j (omega arith) in
      let ms = h.made.modules in
      let f = ms.are_tiles.count in
      record {
        of = length tiles + 2 * j;
        of_is = master_at tiles (length b.latches) j low;
        pins =
            ap (λ (xs : List (List Source)). slice_get xs s) ms.is
            ∙ get_right ms.front (latch_modules sources (length tiles) n.next) s (2 * j + 1) (slave_pins rising (length tiles + 2 * j) s) (omega arith)
            (slave_module sources (length tiles) n.next j (length tiles + 2 * j) s (2 * j + 1) x at refl place refl);
      }

  -- the source of a signal that is read is there
  live_source : (r p s : ℕ) → p < r → slice_get h.sourced.order p ≡ Some s → IsLive s → HasSource c (signal_source t s)
  live_source zero p s low at live = absurd (omega arith)
  live_source (suc r) p s low at live = by (cases_lt s (length b.inputs)) (cases_lt s (first_node b)) (λ q w less there own. live_source r q w (omega arith) there own)
    where
      root : ((q w : ℕ) → q < p → slice_get h.sourced.order q ≡ Some w → IsLive w → HasSource c (signal_source t w)) → (i : ℕ) (node : Node) (d : Covered) → s ≡ first_node b + i → slice_get b.nodes i ≡ Some node → (e : Term) → HasTerm t i node e → HasSource c (term_source t i node e)
      root rest i node d place there term.Zero g = tt
      root rest i node d place there term.One g = tt
      root rest i node d place there (term.Fork k) g = role_low (t.place i k) (tile i g.0) g.2
      root rest i node d place there (term.Var v) g =
          let w = slice_index_or node.inputs v 0 in
          let reads = subst (λ (ws : List ℕ). Contains ws w) (sym (h.whole.reads i node there)) (contained_at node.inputs v 0 g.0) in
          let stand = h.sourced.is_order.after p (first_node b + i) w (at ∙ ap (λ (x : ℕ). Some x) place) reads in
          rest stand.place w stand.before stand.there g.1

      by : (s < length b.inputs) ⊎ (length b.inputs ≤ s) → (s < first_node b) ⊎ (first_node b ≤ s) → ((q w : ℕ) → q < p → slice_get h.sourced.order q ≡ Some w → IsLive w → HasSource c (signal_source t w)) → HasSource c (signal_source t s)
      by (inl low_s) o rest = subst (HasSource c) (sym (input_source n covers marks tiles places sources c h s low_s)) (let l = ap (λ (xs : List (List ℕ)). length xs) h.made.inputs in omega arith)
      by (inr high) (inl low_s) rest =
          let j : ℕ = s - length b.inputs in
          let place : s ≡ length b.inputs + j = omega arith in
          let less : j < length b.latches = omega arith in
          subst (HasSource c) (sym (ap (signal_source t) place ∙ latch_source n covers marks tiles places sources c h j less)) (let k = count in omega arith)
      by (inr high) (inr high_s) rest =
          let i : ℕ = s - first_node b in
          let place : s ≡ first_node b + i = omega arith in
          let all = h.whole.all in
          let inside = h.sourced.is_order.inside p s at in
          let (node, there) = some_within b.nodes i (omega arith) in
          let number = h.covered.count in
          let (d, here) = some_within covers i (omega arith) in
          let own = subst IsLive place live in
          subst (HasSource c) (sym (ap (signal_source t) place ∙ node_source_is n covers marks tiles places sources c h i node d there here))
          (root rest i node d place there d.forest.root (root_there n covers marks tiles places sources c h i node d there here own))

  signal_there : (s : ℕ) → s < signal_count b → IsLive s → HasSource c (signal_source t s)
  signal_there s low live =
      let all = h.whole.all in
      let (p, at) = got h.sourced.order s (h.sourced.is_order.there s (omega arith)) in
      live_source (suc p) p s (omega arith) at live

  term_there : (i : ℕ) (node : Node) → slice_get b.nodes i ≡ Some node → (e : Term) → HasTerm t i node e → HasSource c (term_source t i node e)
  term_there i node there term.Zero g = tt
  term_there i node there term.One g = tt
  term_there i node there (term.Var v) g = signal_there (slice_index_or node.inputs v 0) (h.whole.nodes i (slice_index_or node.inputs v 0) node there (contained_at node.inputs v 0 g.0)) g.1
  term_there i node there (term.Fork k) g = role_low (t.place i k) (tile i g.0) g.2

  net_there : (x : NetTerm) → ((s : ℕ) → x ≡ net.Signal s → s < signal_count b) → HasNetTerm t x → HasSource c (net_source t x)
  net_there net.Zero low g = tt
  net_there net.One low g = tt
  net_there (net.Signal s) low g = signal_there s (low s refl) g

  -- the pins of a module
  abbrev AreThere : List Source → Type 0
  AreThere pins = (length pins ≡ 8) × All (HasSource c) pins

  each_there : (pins : List Source) → ((k : ℕ) (x : Source) → slice_get pins k ≡ Some x → HasSource c x) → All (HasSource c) pins
  each_there pins f k d low = f k (slice_index_or pins k d) (slice_get-get_or pins k d low)

  eight : (a e f g i j k l : Source) → HasSource c a → HasSource c e → HasSource c f → HasSource c g → HasSource c i → HasSource c j → HasSource c k → HasSource c l → All (HasSource c) (a ∷ e ∷ f ∷ g ∷ i ∷ j ∷ k ∷ l ∷ [])
  eight a e f g i j k l pa pe pf pg pi pj pk pl = each_there (a ∷ e ∷ f ∷ g ∷ i ∷ j ∷ k ∷ l ∷ []) at
    where
      at : (m : ℕ) (x : Source) → slice_get (a ∷ e ∷ f ∷ g ∷ i ∷ j ∷ k ∷ l ∷ []) m ≡ Some x → HasSource c x
      at zero x s = let same : a ≡ x = cc in subst (HasSource c) same pa
      at (suc zero) x s = let same : e ≡ x = cc in subst (HasSource c) same pe
      at (suc (suc zero)) x s = let same : f ≡ x = cc in subst (HasSource c) same pf
      at (suc (suc (suc zero))) x s = let same : g ≡ x = cc in subst (HasSource c) same pg
      at (suc (suc (suc (suc zero)))) x s = let same : i ≡ x = cc in subst (HasSource c) same pi
      at (suc (suc (suc (suc (suc zero))))) x s = let same : j ≡ x = cc in subst (HasSource c) same pj
      at (suc (suc (suc (suc (suc (suc zero)))))) x s = let same : k ≡ x = cc in subst (HasSource c) same pk
      at (suc (suc (suc (suc (suc (suc (suc zero))))))) x s = let same : l ≡ x = cc in subst (HasSource c) same pl
      at (suc (suc (suc (suc (suc (suc (suc (suc m)))))))) x s = cc

  module_there : (m : ℕ) (r : Role) → slice_get roles m ≡ Some r → (pins : List Source) → slice_get c.modules m ≡ Some pins → AreThere pins
  module_there m (tile i u) e pins at =
      let o = tile_module n covers marks tiles places sources c h m i u e in
      subst AreThere (one_at c.modules m (map (term_source t i o.node) (pins_of o.forest u)) pins o.pins at) (
        length-map (pins_of o.forest u) (term_source t i o.node) ∙ eight_pins o.forest u,
        each_there (map (term_source t i o.node) (pins_of o.forest u)) (λ k x s.
            (let (y, own, same) = get_mapped (term_source t i o.node) (pins_of o.forest u) k x s in
            subst (HasSource c) same (term_there i o.node o.node_is y (o.reads y (k, slice_get_within (pins_of o.forest u) k y own, get_or_from_slice_get (pins_of o.forest u) k y y own))))),
      )
  module_there m (master_of j) e pins at =
      let o = the_master m j e in
      let low = role_low m (master_of j) e in
      subst AreThere (one_at c.modules m (master_pins rising (net_source t o.takes) m) pins o.pins at)
      (refl, eight (net_source t o.takes) Zero Zero (Module m) Zero Zero Clock Zero (net_there o.takes (λ s is. h.is_net.next_within j s (o.takes_is ∙ ap (λ (x : NetTerm). Some x) is)) o.has) tt tt low tt tt tt tt)
  module_there m (slave_of j) e pins at =
      let o = the_slave m j e in
      let low = role_low m (slave_of j) e in
      let own = role_low o.of (master_of j) o.of_is in
      subst AreThere (one_at c.modules m (slave_pins rising o.of m) pins o.pins at) (refl, eight (Module m) Zero Zero (Module o.of) Zero Zero Clock Zero low tt tt own tt tt tt tt)

  -- the outputs
  abbrev name_of : Output → List ℕ
  name_of o = o.name

  abbrev source_of : Output → Source
  source_of o = o.source

  pub output_is : (k : ℕ) (o : Output) (x : NetTerm) → slice_get c.outputs k ≡ Some o → slice_get n.outputs k ≡ Some x → o.source ≡ net_source t x
  output_is k o x e f =
      one_at (map source_of c.outputs) k o.source (source_in sources x) (mapped_get source_of c.outputs k o e)
      (ap (λ (ss : List Source). slice_get ss k) h.made.outputs.sources_are ∙ mapped_get (source_in sources) n.outputs k x f)
      ∙ net_same n covers marks tiles places sources c h x

  pub outputs_count : length c.outputs ≡ length n.outputs
  outputs_count =
      let l = length-map c.outputs source_of in
      let m = length-map n.outputs (source_in sources) in
      let e = ap (λ (ss : List Source). length ss) h.made.outputs.sources_are in omega arith

  -- the starts
  pub start_there : (j : ℕ) (start : Start) → slice_get c.starts j ≡ Some start → (latch : Latch) × (slice_get b.latches j ≡ Some latch) × (start ≡ start_at (slave_at (length tiles) j) latch)
  start_there j start e = start_from (slave_at (length tiles) 0) b.latches j (slave_at (length tiles) j) start (ap (λ (ss : List Start). slice_get ss j) (sym h.made.starts) ∙ e) (omega arith)

  pub starts_long : length c.starts ≡ length b.latches
  starts_long = ap (λ (ss : List Start). length ss) h.made.starts ∙ starts_count (slave_at (length tiles) 0) b.latches

  pub has_start : (j : ℕ) (latch : Latch) → slice_get b.latches j ≡ Some latch → slice_get c.starts j ≡ Some (start_at (slave_at (length tiles) j) latch)
  has_start j latch e = ap (λ (ss : List Start). slice_get ss j) h.made.starts ∙ start_is (slave_at (length tiles) 0) b.latches j (slave_at (length tiles) j) latch e (omega arith)

  pub starts_latch : (j : ℕ) (start : Start) → slice_get c.starts j ≡ Some start → (latch : Latch) × StartsLatch b start j latch
  starts_latch j start e =
      let (latch, at, is) = start_there j start e in
      (latch, record { is = at; name = ap (λ (s : Start). s.name) (sym is); init = ap (λ (s : Start). s.init) (sym is) })

  -- the circuit has each of its sources
  pub in_range : length n.names ≤ 65535 → length tiles + 2 * length b.latches ≤ 65535 → InRange c
  in_range few_names few = record {
    pins = λ k d low. (let r = some_within roles k (let l = roles_count in omega arith) in module_there k r.0 r.1 (slice_index_or c.modules k d) (slice_get-get_or c.modules k d low));
    outputs = λ k d low. (let o = slice_index_or c.outputs k d in
        let l = outputs_count in
        let x = some_within n.outputs k (omega arith) in
        subst (HasSource c) (sym (output_is k o x.0 (slice_get-get_or c.outputs k d low) x.1))
        (net_there x.0 (λ s is. h.is_net.outputs_within k s (x.1 ∙ ap (λ (y : NetTerm). Some y) is)) (output_there n covers marks tiles places sources c h k x.0 x.1)));
    starts = λ k d low. (let s = start_there k (slice_index_or c.starts k d) (slice_get-get_or c.starts k d low) in
        let at = ap (λ (x : Start). x.«module») s.2 in
        let less = slice_get_within b.latches k s.0 s.1 in
        let l = count in omega arith);
    few_inputs = (let l = ap (λ (xs : List (List ℕ)). length xs) h.made.inputs in let f = h.whole.few in omega arith);
    few_outputs = (let l = outputs_count in let e = h.is_net.outputs in omega arith);
    few_modules = (let l = count in omega arith);
  }

  -- and the ports of the net
  pub ports : LatchNamesDiffer → PortsOfNet c n
  ports differ = record {
    clock = h.made.clock;
    inputs = h.made.inputs;
    outputs = h.made.outputs.names;
    starts = λ k d low. (let s = starts_latch k (slice_index_or c.starts k d) (slice_get-get_or c.starts k d low) in (k, s.0, s.1));
    apart = λ i j d less low. two i j (slice_index_or c.starts i d) (slice_index_or c.starts j d) less (slice_get-get_or c.starts i d (omega arith)) (slice_get-get_or c.starts j d low);
  }
    where
      two : (i j : ℕ) (s u : Start) → i < j → slice_get c.starts i ≡ Some s → slice_get c.starts j ≡ Some u → (s.name ≢ u.name) × (s.«module» ≢ u.«module»)
      two i j s u less e f =
          let (l, at, is) = start_there i s e in
          let (m, there, own) = start_there j u f in (
            λ same. (let k = differ b i j l m at there (ap (λ (x : Start). x.name) (sym is) ∙ same ∙ ap (λ (x : Start). x.name) own) in absurd (omega arith)),
            λ same. (let a = ap (λ (x : Start). x.«module») is in let d = ap (λ (x : Start). x.«module») own in absurd (omega arith)),
          )

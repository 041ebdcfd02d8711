-- All that the modules, outputs and latches of a built circuit read is there.
use Rattle.std.proofs.Common.{ℕ, ◌≡◌, ◌+◌, ◌<◌, ◌||◌, Bool, true, false, List, [], ◌++◌, length, map, replicate, Some, refl, sym, ap, subst, ◌∙◌, arith}
use Rattle.std.specs.Prelude.{Contains, nat_lt, slice_get, slice_index_or}
use Rattle.std.proofs.lemmas.Bool.Decides.{nat_tests}
use Rattle.std.proofs.lemmas.List.{length-append}
use Rattle.std.proofs.lemmas.Option.{slice_get_within}
use Rattle.act1_base.proofs.ListGets.{get_mapped}
use Rattle.act1_blif.specs.declared.blif.Blif.{Blif}
use Rattle.act1_blif.specs.declared.blif.Node.{Node}
use Rattle.act1_blif.specs.Graph.{first_node}
use Rattle.act1_circuit.specs.declared.circuit.Circuit.{Circuit}
use Rattle.act1_circuit.specs.declared.circuit.Source.{Source}
use Rattle.act1_circuit.specs.declared.circuit.Source.TheVariants.{Zero, Input, Module}
use Rattle.act1_cover.specs.declared.forest.Term.{Term}
use Rattle.act1_cover.specs.declared.forest.Term.TheVariants as term
use Rattle.act1_cover.specs.declared.tile.Tile.{Tile}
use Rattle.act1_cover.specs.Pins.{pins_of}
use Rattle.act1_cover.specs.Tilings.{ends, is_fork, is_root, references, times}
use Rattle.act1_cover.proofs.Totals.{stands}
use Rattle.act1_net.specs.declared.net.Net.{Net}
use Rattle.act1_net.specs.declared.net.NetTerm.{NetTerm}
use Rattle.act1_net.specs.declared.net.NetTerm.TheVariants as net
use Rattle.act1_map.specs.declared.covers.Covered.{Covered}
use Rattle.act1_map.specs.declared.tiles.NodeTile.{NodeTile}
use Rattle.act1_map.specs.CoverSteps.{IsCovered}
use Rattle.act1_map.specs.Mapped.{Role, tile, HasNetTerm, HasTerm, IsLiveNode, IsTileModule, Tables, net_source, signal_source, term_source}
use Rattle.act1_map.specs.MapSteps.{at_first, at_node, latch_modules, part_source, place_of, slave_at, source_in}
use Rattle.act1_map.proofs.CoverInputs.{cover_asks, pin_asks}
use Rattle.act1_map.proofs.Gets.{got, mapped_get, some_within}
use Rattle.act1_map.proofs.LiveSignals.{next_live, node_live, output_live, pin_read, root_read}
use Rattle.act1_map.proofs.NodeTiles.{before, from, to}
use Rattle.act1_map.proofs.Passes.{first_at, first_count, get_left, or_left, or_right}
use Rattle.act1_map.proofs.TilePins.{pin_cases}
use Rattle.act1_map.proofs.BuiltRoles.{IsBuilt, forest_in, roles_of, tables, tile_from, tile_role}

module _ (n : Net) (covers : List Covered) (marks : List Bool) (tiles : List NodeTile) (places : List (List ℕ)) (sources : List Source) (c : Circuit) (h : IsBuilt n covers marks tiles places sources c) where
  abbrev b : Blif
  b = n.blif

  abbrev t : Tables
  t = tables n covers marks tiles places sources

  abbrev roles : List Role
  roles = roles_of tiles (length b.latches)

  abbrev IsLive : ℕ → Type 0
  IsLive s = slice_index_or marks s false ≡ true

  cover_of : (i : ℕ) (node : Node) → slice_get b.nodes i ≡ Some node → (d : Covered) × (slice_get covers i ≡ Some d)
  cover_of i node e = let low = slice_get_within b.nodes i node e in let count = h.covered.count in some_within covers i (omega arith)

  -- each tile of a node that is read has its module
  pub tile_there : (i : ℕ) (d : Covered) (j : ℕ) (u : Tile) → slice_get covers i ≡ Some d → IsLive (first_node b + i) → slice_get d.cover.tiles j ≡ Some u → slice_get roles (place_of places i u.fork) ≡ Some (tile i u)
  tile_there i d j u e live at = ap (slice_get roles) place ∙ tile_role tiles (length b.latches) m (at_node i u) there
    where
      m : ℕ
      m = before marks (first_node b) 0 covers i + j

      there : slice_get tiles m ≡ Some (at_node i u)
      there = ap (λ (ts : List NodeTile). slice_get ts m) h.tiles_are ∙ to marks (first_node b) 0 covers i j i d u (omega arith) e live at

      place : place_of places i u.fork ≡ m
      place = h.placed.at m (at_node i u) (slice_get_within tiles m (at_node i u) there) there

  -- and so has each fork at which a tile stands
  fork_there : (i : ℕ) (node : Node) (d : Covered) (k : ℕ) → slice_get covers i ≡ Some d → IsLive (first_node b + i) → 0 < times k (map (λ (u : Tile). u.fork) d.cover.tiles) → HasTerm t i node (term.Fork k)
  fork_there i node d k e live some =
      let (j, at) = stands k (map (λ (u : Tile). u.fork) d.cover.tiles) some in
      let (u, own, same) = get_mapped (λ (v : Tile). v.fork) d.cover.tiles j k at in
      (u, same, ap (λ (l : ℕ). slice_get roles (place_of places i l)) (sym same) ∙ tile_there i d j u e live own)

  -- the root of a node that is read is there
  pub root_there : (i : ℕ) (node : Node) (d : Covered) → slice_get b.nodes i ≡ Some node → slice_get covers i ≡ Some d → IsLive (first_node b + i) → HasTerm t i node d.forest.root
  root_there i node d there e live = by d.forest.root refl
    where
      own : IsCovered node d
      own = h.covered.each i node d there e

      root_is : (k : ℕ) → d.forest.root ≡ term.Fork k → is_root d.forest k ≡ true
      root_is k f = ap (λ (x : Term). is_fork k x || nat_lt 1 (references d.forest k)) f ∙ (let s : is_fork k (term.Fork k) ≡ true = grind (arith, nat_tests) in ap (λ (x : Bool). x || nat_lt 1 (references d.forest k)) s)

      by : (x : Term) → d.forest.root ≡ x → HasTerm t i node x
      by term.Zero f = tt
      by term.One f = tt
      by (term.Var v) f =
          let low = (cover_asks node.cover d.forest own.forest).root v f in
          let wide = h.whole.widths i node there in
          (omega arith, node_live n covers h.whole h.covered marks h.reached i node d (slice_index_or node.inputs v 0) there e live (root_read node.inputs d v f))
      by (term.Fork k) f = fork_there i node d k e live (own.least.tiling.roots k (own.is_forest.root k f) (root_is k f))

  -- and what is at the pins of its tiles
  pub pin_there : (i : ℕ) (node : Node) (d : Covered) (j : ℕ) (u : Tile) → slice_get b.nodes i ≡ Some node → slice_get covers i ≡ Some d → IsLive (first_node b + i) → slice_get d.cover.tiles j ≡ Some u
      → (x : Term) → Contains (pins_of d.forest u) x → HasTerm t i node x
  pin_there i node d j u there e live at x pin = by x refl pin
    where
      own : IsCovered node d
      own = h.covered.each i node d there e

      counted : (y : Term) → Contains (pins_of d.forest u) y → (k : ℕ) → y ≡ term.Fork k → 0 < times k (map (λ (v : Tile). v.fork) d.cover.tiles)
      counted = pin_cases d.forest (λ (y : Term). (k : ℕ) → y ≡ term.Fork k → 0 < times k (map (λ (v : Tile). v.fork) d.cover.tiles)) u (λ k f. no_zero k f) (λ v k f. no_input v k f)
          (λ y r k f. own.least.tiling.ends j k u at (subst (λ (z : Term). Contains (ends d.forest u.fork u.shape) z) f r))
        where
          no_zero : (k : ℕ) → term.Zero ≡ term.Fork k → 0 < times k (map (λ (v : Tile). v.fork) d.cover.tiles)
          no_zero k f = cc

          no_input : (v k : ℕ) → term.Var v ≡ term.Fork k → 0 < times k (map (λ (w : Tile). w.fork) d.cover.tiles)
          no_input v k f = cc

      by : (y : Term) → y ≡ x → Contains (pins_of d.forest u) y → HasTerm t i node y
      by term.Zero f r = tt
      by term.One f r = tt
      by (term.Var v) f r =
          let low = pin_asks d.forest own.is_forest node.cover.width (cover_asks node.cover d.forest own.forest) u (own.least.tiling.stand j u at) (term.Var v) r v refl in
          let wide = h.whole.widths i node there in
          (omega arith, node_live n covers h.whole h.covered marks h.reached i node d (slice_index_or node.inputs v 0) there e live (pin_read node.inputs d j u v at r))
      by (term.Fork k) f r = fork_there i node d k e live (counted (term.Fork k) r k refl)

  -- the sources of the code are those of the tables
  pub source_same : (i : ℕ) (node : Node) (x : Term) → part_source sources node.inputs (slice_index_or places i []) x ≡ term_source t i node x
  source_same i node term.Zero = refl
  source_same i node term.One = refl
  source_same i node (term.Var v) = refl
  source_same i node (term.Fork k) = refl

  pub net_same : (x : NetTerm) → source_in sources x ≡ net_source t x
  net_same net.Zero = refl
  net_same net.One = refl
  net_same (net.Signal s) = refl

  abbrev fronts : List Source
  fronts = at_first Input (length b.inputs)

  abbrev slaves : List Source
  slaves = at_first (λ j. Module (slave_at (length tiles) j)) (length b.latches)

  fronts_long : length fronts ≡ length b.inputs
  fronts_long = first_count Input (length b.inputs)

  slaves_long : length slaves ≡ length b.latches
  slaves_long = first_count (λ j. Module (slave_at (length tiles) j)) (length b.latches)

  both_long : length (fronts ++ slaves) ≡ first_node b
  both_long = let a = length-append fronts slaves in let f = fronts_long in let s = slaves_long in omega arith

  -- the sources of inputs and latches
  pub input_source : (i : ℕ) → i < length b.inputs → signal_source t i ≡ Input i
  input_source i low =
      let f = fronts_long in
      let g = both_long in
      h.sourced.sourced.given i (omega arith) ∙ or_left (fronts ++ slaves) (replicate (length b.nodes) Zero) i Zero (omega arith) ∙ or_left fronts slaves i Zero (omega arith) ∙ first_at Input (length b.inputs) i Zero low

  pub latch_source : (j : ℕ) → j < length b.latches → signal_source t (length b.inputs + j) ≡ Module (slave_at (length tiles) j)
  latch_source j low =
      let f = fronts_long in
      let g = both_long in
      h.sourced.sourced.given (length b.inputs + j) (omega arith) ∙ or_left (fronts ++ slaves) (replicate (length b.nodes) Zero) (length b.inputs + j) Zero (omega arith) ∙ or_right fronts slaves (length b.inputs + j) j Zero (omega arith)
      ∙ first_at (λ k. Module (slave_at (length tiles) k)) (length b.latches) j Zero low

  -- and of nodes
  pub node_source_is : (i : ℕ) (node : Node) (d : Covered) → slice_get b.nodes i ≡ Some node → slice_get covers i ≡ Some d → signal_source t (first_node b + i) ≡ term_source t i node d.forest.root
  node_source_is i node d there e =
      let s = h.sourced in
      let low = slice_get_within b.nodes i node there in
      let all = h.whole.all in
      let (p, within, at) = s.is_order.there (first_node b + i) (omega arith) in
      let got_at = got s.order (first_node b + i) (p, within, at) in
      s.sourced.nodes got_at.0 i node d (slice_get_within s.order got_at.0 (first_node b + i) got_at.1) got_at.1 there e ∙ source_same i node d.forest.root

  pub live_node : (i : ℕ) (node : Node) → slice_get b.nodes i ≡ Some node → IsLive (first_node b + i) → IsLiveNode n t i node
  live_node i node there live =
      let (d, e) = cover_of i node there in
      record { forest = d.forest; forest_is = mapped_get forest_in covers i d e; source = node_source_is i node d there e; root = root_there i node d there e live }

  -- which node a tile is of
  pub record IsOfNode (i : ℕ) (u : Tile) : Type 0 where
    pub node : Node
    pub d : Covered
    pub j : ℕ
    pub there : slice_get b.nodes i ≡ Some node
    pub here : slice_get covers i ≡ Some d
    pub live : IsLive (first_node b + i)
    pub at : slice_get d.cover.tiles j ≡ Some u

  pub of_node : (m i : ℕ) (u : Tile) → slice_get tiles m ≡ Some (at_node i u) → IsOfNode i u
  of_node m i u e =
      let f = from marks (first_node b) 0 covers m (at_node i u) (ap (λ (ts : List NodeTile). slice_get ts m) (sym h.tiles_are) ∙ e) in
      let number : f.k ≡ i = (let k = f.node in omega arith) in
      let low = slice_get_within covers f.k f.c f.is in
      let count = h.covered.count in
      let node = some_within b.nodes i (omega arith) in
      record {
        node = node.0;
        d = f.c;
        j = f.j;
        there = node.1;
        here = ap (slice_get covers) (sym number) ∙ f.is;
        live = subst (λ (k : ℕ). IsLive (first_node b + k)) (let k : 0 + f.k ≡ i = omega arith in k) f.read;
        at = f.at;
      }

  pub tile_module : (m i : ℕ) (u : Tile) → slice_get roles m ≡ Some (tile i u) → IsTileModule n c t m i u
  tile_module m i u e =
      let at = tile_from tiles (length b.latches) m i u e in
      let o = of_node m i u at in
      let own = h.covered.each i o.node o.d o.there o.here in
      let ms = h.made.modules in
      record {
        node = o.node;
        forest = o.d.forest;
        node_is = o.there;
        forest_is = mapped_get forest_in covers i o.d o.here;
        stands = own.least.tiling.stand o.j u o.at;
        pins =
            ap (λ (xs : List (List Source)). slice_get xs m) ms.is
            ∙ get_left ms.front (latch_modules sources (length tiles) n.next) m (map (part_source sources o.node.inputs (slice_index_or places i [])) (pins_of o.d.forest u))
            (ms.are_tiles.each m (at_node i u) o.node o.d (slice_get_within tiles m (at_node i u) at) at o.there o.here)
            ∙ (λ k. Some (map (λ (x : Term). source_same i o.node x k) (pins_of o.d.forest u)));
        reads = pin_there i o.node o.d o.j u o.there o.here o.live o.at;
      }

  pub next_there : (j : ℕ) (x : NetTerm) → slice_get n.next j ≡ Some x → HasNetTerm t x
  next_there j net.Zero e = tt
  next_there j net.One e = tt
  next_there j (net.Signal s) e = next_live n covers h.whole h.covered marks h.reached j s e

  pub output_there : (j : ℕ) (x : NetTerm) → slice_get n.outputs j ≡ Some x → HasNetTerm t x
  output_there j net.Zero e = tt
  output_there j net.One e = tt
  output_there j (net.Signal s) e = output_live n covers h.whole h.covered marks h.reached j s e

-- A circuit that the passes made is mapped from its net.
use Rattle.std.proofs.Common.{ℕ, suc, ◌≡◌, ◌⊎◌, ◌+◌, ◌*◌, ◌<◌, ◌≤◌, Bool, true, false, List, [], ◌∷◌, length, map, Some, refl, sym, ap, subst, ◌∙◌, inl, inr, arith}
use Rattle.std.specs.Prelude.{Contains, Err, IfOk, Ok, Result, slice_get, slice_index_or}
use Rattle.std.specs.List.{AllZip}
use Rattle.std.proofs.lemmas.List.{length-map}
use Rattle.std.proofs.lemmas.Option.{slice_get_within}
use Rattle.act1_base.specs.declared.memory.Memory.{Memory}
use Rattle.act1_base.proofs.ListGets.{get_mapped}
use Rattle.act1_blif.specs.declared.blif.Blif.{Blif}
use Rattle.act1_blif.specs.declared.blif.Node.{Node}
use Rattle.act1_blif.specs.Graph.{first_node}
use Rattle.act1_blif.specs.Laws.{LatchNamesDiffer}
use Rattle.act1_circuit.specs.declared.circuit.Circuit.{Circuit}
use Rattle.act1_circuit.specs.declared.circuit.Output.{Output}
use Rattle.act1_circuit.specs.declared.circuit.Source.{Source}
use Rattle.act1_circuit.specs.declared.circuit.Start.{Start}
use Rattle.act1_circuit.specs.PairForm.{HasStart}
use Rattle.act1_cover.specs.declared.forest.Forest.{Forest}
use Rattle.act1_cover.specs.declared.forest.Term.TheVariants as term
use Rattle.act1_cover.specs.declared.tile.Tile.{Tile}
use Rattle.act1_cover.specs.Denotes.{IsForestOfCover}
use Rattle.act1_cover.specs.Least.{IsLeastTiling}
use Rattle.act1_net.specs.declared.net.Net.{Net}
use Rattle.act1_net.specs.declared.net.NetTerm.{NetTerm}
use Rattle.act1_net.specs.declared.net.NetTerm.TheVariants as net
use Rattle.act1_map.specs.declared.covers.Covered.{Covered}
use Rattle.act1_map.specs.declared.tiles.NodeTile.{NodeTile}
use Rattle.act1_map.specs.Laws.{MappedHasOwnSources, MappedIsFew, MappedIsRead, MappedMeans}
use Rattle.act1_map.specs.Map.{IsMapOf}
use Rattle.act1_map.specs.Mapped.{Role, tile, «slave» as slave_of, HasSlave, IsMapped, IsMappedOutput, IsSlaveStart, Tables}
use Rattle.act1_map.specs.MapSteps.{slave_at}
use Rattle.act1_map.specs.Read.{IsFull, IsTileOf, IsTiled, IsUsed}
use Rattle.act1_map.proofs.CoverInputs.{cover_asks}
use Rattle.act1_map.proofs.Gets.{mapped_get, some_within}
use Rattle.act1_map.proofs.LatchPairs.{start_at}
use Rattle.act1_map.proofs.LiveSignals.{IsReadAt, IsReadLive, live_from, marks_long, read_at}
use Rattle.act1_map.proofs.BuiltRoles.{IsBuilt, forest_in, roles_of, roles_once, slave_from, slave_there, tables, tile_from, tiles_of}
use Rattle.act1_map.proofs.BuiltParts.{input_source, latch_source, live_node, of_node, output_there, tile_module, tile_there}
use Rattle.act1_map.proofs.BuiltRange.{has_start, in_range, output_is, outputs_count, ports, roles_count, start_there, starts_latch, starts_long, the_master, the_slave}

-- an element of a mapped list of forests or tiles
cover_from : {X : Type 0} (f : Covered → X) (covers : List Covered) (i : ℕ) (x : X) → slice_get (map f covers) i ≡ Some x → (d : Covered) × (slice_get covers i ≡ Some d) × (f d ≡ x)
cover_from f covers i x e = get_mapped f covers i x e

module _ (n : Net) (covers : List Covered) (marks : List Bool) (tiles : List NodeTile) (places : List (List ℕ)) (sources : List Source) (c : Circuit) (h : IsBuilt n covers marks tiles places sources c) where
  abbrev b : Blif
  b = n.blif

  abbrev t : Tables
  t = tables n covers marks tiles places sources

  abbrev roles : List Role
  roles = roles_of tiles (length b.latches)

  abbrev IsLive : ℕ → Type 0
  IsLive s = slice_index_or marks s false ≡ true

  has_slave : (j : ℕ) → j < length b.latches → HasSlave n t j
  has_slave j low = record { at = slave_at (length tiles) j; source = latch_source n covers marks tiles places sources c h j low; is = slave_there tiles (length b.latches) j low }

  forest_of : (i : ℕ) (node : Node) → slice_get b.nodes i ≡ Some node → (forest : Forest) × (slice_get (map forest_in covers) i ≡ Some forest) × IsForestOfCover node.cover forest
  forest_of i node e =
      let low = slice_get_within b.nodes i node e in
      let count = h.covered.count in
      let (d, at) = some_within covers i (omega arith) in
      (d.forest, mapped_get forest_in covers i d at, (h.covered.each i node d e at).forest)

  zipped : (os : List Output) (xs : List NetTerm) → length os ≡ length xs → ((k : ℕ) (o : Output) (x : NetTerm) → slice_get os k ≡ Some o → slice_get xs k ≡ Some x → IsMappedOutput t o x) → AllZip (IsMappedOutput t) os xs
  zipped [] [] l f = tt
  zipped [] (x ∷ xs) l f = absurd (omega arith)
  zipped (o ∷ os) [] l f = absurd (omega arith)
  zipped (o ∷ os) (x ∷ xs) l f = (f 0 o x refl refl, zipped os xs (omega arith) (λ k p y e g. f (suc k) p y e g))

  slave_start : (s j : ℕ) → slice_get roles s ≡ Some (slave_of j) → HasStart c s
  slave_start s j e =
      let (place, low) = slave_from tiles (length b.latches) s j e in
      let (latch, at) = some_within b.latches j low in
      (j, start_at (slave_at (length tiles) j) latch, has_start n covers marks tiles places sources c h j latch at, sym place)

  slave_of_start : (j : ℕ) (start : Start) → slice_get c.starts j ≡ Some start → IsSlaveStart n t start
  slave_of_start j start e =
      let (latch, at, is) = start_there n covers marks tiles places sources c h j start e in
      let (own, starts) = starts_latch n covers marks tiles places sources c h j start e in
      record {
        number = j;
        of = own;
        at = ap (λ (s : Start). slice_get roles s.«module») is ∙ slave_there tiles (length b.latches) j (slice_get_within b.latches j latch at);
        starts = starts;
      }

  pub mapped : IsMapped n c t
  mapped = record {
    count = roles_count n covers marks tiles places sources c h;
    live_count = marks_long n covers h.whole h.covered marks h.reached;
    forests = forest_of;
    inputs = input_source n covers marks tiles places sources c h;
    latches = has_slave;
    nodes = live_node n covers marks tiles places sources c h;
    tiles = tile_module n covers marks tiles places sources c h;
    masters = the_master n covers marks tiles places sources c h;
    slaves = the_slave n covers marks tiles places sources c h;
    once = roles_once n covers marks tiles places sources c h;
    outputs = zipped c.outputs n.outputs (outputs_count n covers marks tiles places sources c h)
        (λ k o x e f. record { source = output_is n covers marks tiles places sources c h k o x e f; has = output_there n covers marks tiles places sources c h k x f });
    each_start = slave_start;
    starts = slave_of_start;
  }

  tiled : (i : ℕ) (forest : Forest) → slice_get (map forest_in covers) i ≡ Some forest → i < length b.nodes → IsTiled t i forest
  tiled i forest e low =
      let (d, at, same) = cover_from forest_in covers i forest e in
      let (node, there) = some_within b.nodes i low in
      record { tiles = d.cover.tiles; there = mapped_get tiles_of covers i d at; least = subst (λ (f : Forest). IsLeastTiling f d.cover.tiles) same (h.covered.each i node d there at).least }

  only : (m i : ℕ) (u : Tile) → slice_get roles m ≡ Some (tile i u) → IsTileOf t i u × IsLive (first_node b + i)
  only m i u e =
      let o = of_node n covers marks tiles places sources c h m i u (tile_from tiles (length b.latches) m i u e) in
      ((o.d.cover.tiles, o.j, mapped_get tiles_of covers i o.d o.here, o.at), o.live)

  each : (i : ℕ) (u : Tile) → IsLive (first_node b + i) → IsTileOf t i u → slice_get roles (t.place i u.fork) ≡ Some (tile i u)
  each i u live (us, j, there, at) =
      let (d, here, same) = cover_from tiles_of covers i us there in
      tile_there n covers marks tiles places sources c h i d j u here live (ap (λ (vs : List Tile). slice_get vs j) same ∙ at)

  root_low : (i : ℕ) (node : Node) (d : Covered) → slice_get b.nodes i ≡ Some node → slice_get covers i ≡ Some d → (v : ℕ) → d.forest.root ≡ term.Var v → v < length node.inputs
  root_low i node d there here v root =
      let low = (cover_asks node.cover d.forest (h.covered.each i node d there here).forest).root v root in
      let wide = h.whole.widths i node there in omega arith

  used : (i : ℕ) → i < length b.nodes → IsLive (first_node b + i) → IsUsed n t (first_node b + i)
  used i low live = by (live_from n covers h.whole h.covered marks h.reached (first_node b + i) live)
    where
      read : IsReadLive n covers h.whole h.covered marks h.reached (first_node b + i) → IsUsed n t (first_node b + i)
      read r = at (read_at r.reader.node.inputs r.reader.c (first_node b + i) r.reader.reads)
        where
          own : IsLive (first_node b + r.reader.i)
          own = subst IsLive r.reader.is r.live

          at : IsReadAt r.reader.node.inputs r.reader.c (first_node b + i) → IsUsed n t (first_node b + i)
          at (inl (v, root, is)) =
              let used_input = root_low r.reader.i r.reader.node r.reader.c r.reader.there r.reader.here v root in
              inr (inr (inr (record {
                i = r.reader.i;
                node = r.reader.node;
                forest = r.reader.c.forest;
                node_is = r.reader.there;
                forest_is = mapped_get forest_in covers r.reader.i r.reader.c r.reader.here;
                live = own;
                v = v;
                within = used_input;
                root = root;
                is = is;
              })))
          at (inr (j, u, here, v, pin, is)) = inr (inr (inl (record {
            at = t.place r.reader.i u.fork;
            i = r.reader.i;
            of = u;
            node = r.reader.node;
            forest = r.reader.c.forest;
            role = tile_there n covers marks tiles places sources c h r.reader.i r.reader.c j u r.reader.here own here;
            node_is = r.reader.there;
            forest_is = mapped_get forest_in covers r.reader.i r.reader.c r.reader.here;
            v = v;
            reads = pin;
            is = is;
          })))

      by : (Contains n.outputs (net.Signal (first_node b + i)) ⊎ Contains n.next (net.Signal (first_node b + i))) ⊎ IsReadLive n covers h.whole h.covered marks h.reached (first_node b + i) → IsUsed n t (first_node b + i)
      by (inl (inl e)) = inl e
      by (inl (inr e)) = inr (inl e)
      by (inr r) = read r

  pub full : IsFull n t
  full = record {
    count = length-map covers tiles_of ∙ h.covered.count;
    tiled = tiled;
    only = only;
    each = each;
    used = used;
  }

  -- what the laws of mappings say of it
  pub built_maps : MappedMeans → MappedIsRead → MappedIsFew → MappedHasOwnSources → LatchNamesDiffer → length n.names ≤ 65535 → length tiles + 2 * length b.latches ≤ 65535 → IsMapOf n c
  built_maps means is_read is_few own differ few_names few =
      let range = in_range n covers marks tiles places sources c h few_names few in
      let both = means n c t h.is_net range (ports n covers marks tiles places sources c h differ) mapped in
      record {
        form = both.0;
        means = both.1;
        few = is_few n c t h.is_net mapped full;
        read = is_read n c t h.is_net mapped full;
        own = own n c t mapped;
        starts = starts_long n covers marks tiles places sources c h;
      }

-- what holds of a circuit that was found, by another fact of it
pub on_result : (r : Result Circuit Memory) (P Q : Circuit → Type 0) → ((x : Circuit) → P x → Q x) → IfOk r P → IfOk r Q
on_result (Ok x) P Q f h = f x h
on_result (Err e) P Q f h = tt

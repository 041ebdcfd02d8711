-- Each module of a mapped circuit is the source of some pin or output.
use Rattle.std.proofs.Common.{ℕ, zero, suc, ◌≡◌, ◌+◌, ◌<◌, ◌≤◌, Bool, true, false, List, [], ◌∷◌, Some, map, refl, ap, subst, ◌∙◌, inl, inr, arith}
use Rattle.std.specs.Prelude.{Contains, slice_get, slice_index_or}
use Rattle.std.specs.List.{AllZip}
use Rattle.std.proofs.Math.Logic.{∥∥₁_elim}
use Rattle.std.proofs.lemmas.Bool.{false≢true}
use Rattle.std.proofs.lemmas.Bool.Decides.{nat_tests}
use Rattle.std.proofs.lemmas.Option.{slice_get_within, get_or_from_slice_get}
use Rattle.act1_blif.specs.declared.blif.Blif.{Blif}
use Rattle.act1_blif.specs.declared.blif.Node.{Node}
use Rattle.act1_blif.specs.Graph.{first_node}
use Rattle.act1_blif.specs.Rules.{HasLevels}
use Rattle.act1_circuit.specs.declared.circuit.Circuit.{Circuit}
use Rattle.act1_circuit.specs.declared.circuit.Output.{Output}
use Rattle.act1_circuit.specs.declared.circuit.Source.{Source}
use Rattle.act1_circuit.specs.declared.circuit.Source.TheVariants.{Zero, Module}
use Rattle.act1_circuit.specs.PairForm.{rising, master_pins, slave_pins}
use Rattle.act1_cover.specs.declared.forest.Forest.{Forest}
use Rattle.act1_cover.specs.declared.forest.Term.{Term}
use Rattle.act1_cover.specs.declared.forest.Term.TheVariants as term
use Rattle.act1_cover.specs.declared.tile.Tile.{Tile}
use Rattle.act1_cover.specs.Denotes.{ForestsDenote}
use Rattle.act1_cover.specs.Least.{EachTileIsRead, IsForest}
use Rattle.act1_cover.specs.Pins.{pins_of}
use Rattle.act1_cover.specs.Tilings.{is_fork}
use Rattle.act1_net.specs.declared.net.Net.{Net}
use Rattle.act1_net.specs.declared.net.NetTerm.{NetTerm}
use Rattle.act1_net.specs.declared.net.NetTerm.TheVariants as net
use Rattle.act1_map.specs.Laws.{MappedIsRead}
use Rattle.act1_map.specs.Mapped.{Role, tile, «master» as master_of, «slave» as slave_of, Tables, is_live, signal_source, input_of, term_source, net_source, IsMappedOutput, IsMapped, IsTileModule}
use Rattle.act1_map.specs.Meaning.{IsNet}
use Rattle.act1_map.specs.Read.{IsFull, IsSource, IsTiled, IsUsed}
use Rattle.act1_map.proofs.Gets.{one_at, some_within, contained_at, got, mapped_or}
use Rattle.act1_map.proofs.MappedMeaning.{pins_are}
use Rattle.act1_map.proofs.TilePins.{end_pin, eight_pins}

fork_is : (f : ℕ) (t : Term) → is_fork f t ≡ true → t ≡ term.Fork f
fork_is f (term.Fork j) e = let same : j ≡ f = grind (arith, nat_tests) in ap term.Fork same
fork_is f term.Zero e = absurd (false≢true e)
fork_is f term.One e = absurd (false≢true e)
fork_is f (term.Var v) e = absurd (false≢true e)

-- more than each number of a list
above_all : List ℕ → ℕ
above_all [] = 1
above_all (l ∷ ls) = l + above_all ls

bounded : (ls : List ℕ) (i : ℕ) → slice_index_or ls i 0 < above_all ls
unfolding above_all
bounded [] i = omega arith
bounded (l ∷ ls) zero = let r = bounded ls 0 in omega arith
bounded (l ∷ ls) (suc i) = let r = bounded ls i in omega arith

module _ (n : Net) (c : Circuit) (t : Tables) (is_net : IsNet n) (mapped : IsMapped n c t) (full : IsFull n t) (denote : ForestsDenote) (tiles_read : EachTileIsRead) where
  abbrev b : Blif
  b = n.blif

  abbrev Has : ℕ → Role → Type 0
  Has m r = slice_get t.roles m ≡ Some r

  -- what is at a pin of a module
  at_pin : (k m : ℕ) (pins : List Source) → slice_get c.modules k ≡ Some pins → (pin : ℕ) → pin < 8 → slice_index_or pins pin Zero ≡ Module m → IsSource c m
  at_pin k m pins e pin low is = inl (k, pin, low, ap (λ (ps : List Source). slice_index_or ps pin Zero) (pins_are c k pins e) ∙ is)

  -- what a tile reads
  tile_reads : (k i m : ℕ) (u : Tile) (h : IsTileModule n c t k i u) (e : Term) → Contains (pins_of h.forest u) e → term_source t i h.node e ≡ Module m → IsSource c m
  tile_reads k i m u h e (pin, low, f) is =
      let pins = pins_of h.forest u in
      let source = term_source t i h.node in
      let at = got pins e (pin, low, f) in
      let eight = eight_pins h.forest u in
      let there = slice_get_within pins at.0 e at.1 in
      at_pin k m (map source pins) h.pins at.0 (omega arith) (mapped_or source pins at.0 term.Zero Zero refl ∙ ap source (get_or_from_slice_get pins at.0 e term.Zero at.1) ∙ is)

  out_at : (os : List Output) (us : List NetTerm) (j : ℕ) (u : NetTerm) → AllZip (IsMappedOutput t) os us → slice_get us j ≡ Some u → (o : Output) × (slice_get os j ≡ Some o) × (o.source ≡ net_source t u)
  out_at [] [] j u h e = cc
  out_at [] (x ∷ us) j u h e = absurd h
  out_at (o ∷ os) [] j u h e = absurd h
  out_at (o ∷ os) (x ∷ us) zero u h e = let same : x ≡ u = cc in (o, refl, h.0.source ∙ ap (net_source t) same)
  out_at (o ∷ os) (x ∷ us) (suc j) u h e = out_at os us j u h.1 e

  module _ (levels : HasLevels b.inputs b.latches b.nodes) where
    level : ℕ → ℕ
    level i = slice_index_or levels.levels i 0

    -- the module of a used signal is a source
    used_source : (r i m : ℕ) → above_all levels.levels ≤ level i + r → IsUsed n t (first_node b + i) → signal_source t (first_node b + i) ≡ Module m → IsSource c m
    unfolding level
    used_source r i m far (inl h) is =
        let at = got n.outputs (net.Signal (first_node b + i)) h in
        let o = out_at c.outputs n.outputs at.0 (net.Signal (first_node b + i)) mapped.outputs at.1 in inr (at.0, o.0, o.1, o.2 ∙ is)
    used_source r i m far (inr (inl h)) is =
        let j = got n.next (net.Signal (first_node b + i)) h in
        let within = slice_get_within n.next j.0 (net.Signal (first_node b + i)) j.1 in
        let at = mapped.latches j.0 (let l = is_net.next in omega arith) in
        let s = mapped.slaves at.at j.0 at.is in
        let own = mapped.masters s.of j.0 s.of_is in
        let same : own.takes ≡ net.Signal (first_node b + i) = one_at n.next j.0 own.takes (net.Signal (first_node b + i)) own.takes_is j.1 in
        at_pin s.of m (master_pins rising (net_source t own.takes) s.of) own.pins 0 (omega arith) (ap (net_source t) same ∙ is)
    used_source r i m far (inr (inr (inl u))) is =
        let h = mapped.tiles u.at u.i u.of u.role in
        let forest_same = one_at t.forests u.i u.forest h.forest u.forest_is h.forest_is in
        let node_same = one_at b.nodes u.i h.node u.node h.node_is u.node_is in
        tile_reads u.at u.i m u.of h (term.Var u.v) (subst (λ (f : Forest). Contains (pins_of f u.of) (term.Var u.v)) forest_same u.reads)
        (ap (λ (x : Node). signal_source t (input_of x u.v)) node_same ∙ ap (signal_source t) u.is ∙ is)
    used_source zero i m far (inr (inr (inr u))) is = let l = bounded levels.levels i in absurd (omega arith)
    used_source (suc r) i m far (inr (inr (inr u))) is =
        let own = mapped.nodes u.i u.node u.node_is u.live in
        let same : own.forest ≡ u.forest = one_at t.forests u.i own.forest u.forest own.forest_is u.forest_is in
        let source : signal_source t (first_node b + u.i) ≡ Module m =
        own.source ∙ ap (λ (f : Forest). term_source t u.i u.node f.root) same ∙ ap (term_source t u.i u.node) u.root ∙ ap (signal_source t) u.is ∙ is in
        let up = levels.above u.i i u.node u.node_is (subst (λ (s : ℕ). Contains u.node.inputs s) u.is (contained_at u.node.inputs u.v 0 u.within)) in
        used_source r u.i m (omega arith) (full.used u.i (slice_get_within b.nodes u.i u.node u.node_is) u.live) source

    tile_source : (m i : ℕ) (u : Tile) → Has m (tile i u) → IsSource c m
    tile_source m i u e = by (is_fork u.fork own.forest.root) refl
      where
        own : IsTileModule n c t m i u
        own = mapped.tiles m i u e

        live : is_live t (first_node b + i) ≡ true
        live = (full.only m i u e).1

        tiles : IsTiled t i own.forest
        tiles = full.tiled i own.forest own.forest_is (slice_get_within b.nodes i own.node own.node_is)

        mine : (j : ℕ) × (slice_get tiles.tiles j ≡ Some u)
        mine = let o = (full.only m i u e).0 in (o.1, ap (λ (us : List Tile). slice_get us o.1) (one_at t.tiles i tiles.tiles o.0 tiles.there o.2) ∙ o.3)

        place_is : t.place i u.fork ≡ m
        place_is = mapped.once (t.place i u.fork) m (tile i u) (full.each i u live (full.only m i u e).0) e

        is_forest : IsForest own.forest
        is_forest =
            let f = mapped.forests i own.node own.node_is in
            subst IsForest (one_at t.forests i f.0 own.forest f.1 own.forest_is) (denote own.node.cover f.0 f.2).0

        by : (x : Bool) → is_fork u.fork own.forest.root ≡ x → IsSource c m
        by true f =
            let l = mapped.nodes i own.node own.node_is live in
            let same : l.forest ≡ own.forest = one_at t.forests i l.forest own.forest l.forest_is own.forest_is in
            let source : signal_source t (first_node b + i) ≡ Module m =
            l.source ∙ ap (λ (g : Forest). term_source t i own.node g.root) same ∙ ap (term_source t i own.node) (fork_is u.fork own.forest.root f) ∙ ap Module place_is in
            used_source (above_all levels.levels) i m (omega arith) (full.used i (slice_get_within b.nodes i own.node own.node_is) live) source
        by false f =
            let r = tiles_read own.forest is_forest tiles.tiles tiles.least.tiling mine.0 u mine.1 f in
            let w = r.1 in
            let at = t.place i w.fork in
            let h = mapped.tiles at i w (full.each i w live (tiles.tiles, r.0, tiles.there, r.2)) in
            let same = one_at t.forests i own.forest h.forest own.forest_is h.forest_is in
            tile_reads at i m w h (term.Fork u.fork) (subst (λ (g : Forest). Contains (pins_of g w) (term.Fork u.fork)) same (end_pin own.forest w (term.Fork u.fork) r.3)) (ap Module place_is)

    is_source : (m : ℕ) → ((r : Role) × Has m r) → IsSource c m
    is_source m (tile i u, e) = tile_source m i u e
    is_source m (slave_of j, e) = let h = mapped.slaves m j e in at_pin m m (slave_pins rising h.of m) h.pins 0 (omega arith) refl
    is_source m (master_of j, e) = let h = mapped.masters m j e in at_pin m m (master_pins rising (net_source t h.takes) m) h.pins 3 (omega arith) refl

pub mapped_is_read : ForestsDenote → EachTileIsRead → MappedIsRead
mapped_is_read denote tiles_read n c t is_net mapped full m low =
    ∥∥₁_elim n.blif.acyclic squash₁ (λ levels. ∣ is_source n c t is_net mapped full denote tiles_read levels m (some_within t.roles m (let s = mapped.count in omega arith)) ∣₁)

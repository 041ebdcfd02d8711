use Rattle.std.proofs.Common.{ℕ, List, length, sym, subst, ◌∙◌, arith}
use Rattle.act1_circuit.specs.declared.circuit.Source.{Source}
use Rattle.act1_map.specs.Map.{IsMapOf}
use Rattle.act1_map.specs.MapSteps.{ArePlaced, AreSourcedAll, IsCircuitOf}
use Rattle.act1_map.proofs.BuiltMaps.{built_maps, on_result}
use Rattle.act1_map.proofs.LeastOfCovers.{are_node_tiles, few_modules}
use Rattle.act1_map.proofs.mapping.map_tiles.Goals as goal

pub places_of-requires-clause-tiles : goal.places_of-requires-clause-tiles
places_of-requires-clause-tiles c = are_node_tiles c.args.net.now.blif c.args.covers.now c.requires.covers c.args.live.now c.args.tiles.now c.requires.tiles

pub places_of-requires-clause-few : goal.places_of-requires-clause-few
places_of-requires-clause-few c =
    let few = few_modules c.args.net.now.blif c.args.covers.now c.requires.covers c.args.live.now c.args.tiles.now c.requires.tiles c.least_counts.ensures.one c.requires.few in omega arith

pub sources_of-requires-clause-few : goal.sources_of-requires-clause-few
sources_of-requires-clause-few c = few_modules c.args.net.now.blif c.args.covers.now c.requires.covers c.args.live.now c.args.tiles.now c.requires.tiles c.least_counts.ensures.one c.requires.few

pub circuit_of-requires-clause-tiles : goal.circuit_of-requires-clause-tiles
circuit_of-requires-clause-tiles c = are_node_tiles c.args.net.now.blif c.args.covers.now c.requires.covers c.args.live.now c.args.tiles.now c.requires.tiles

pub circuit_of-requires-clause-few : goal.circuit_of-requires-clause-few
circuit_of-requires-clause-few c = few_modules c.args.net.now.blif c.args.covers.now c.requires.covers c.args.live.now c.args.tiles.now c.requires.tiles c.least_counts.ensures.one c.requires.few

pub returns : goal.returns
returns c =
    let n = c.args.net.now in
    let covers = c.args.covers.now in
    let tiles = c.args.tiles.now in
    let places = c.deref-2.result.now in
    let sources = c.deref-3.result.now in
    let placed = subst (λ (ps : List (List ℕ)). ArePlaced covers tiles (length tiles) ps) (sym c.deref-2.ensures.value) c.in_ok-places.ensures in
    let found = subst (λ (ss : List Source). AreSourcedAll n.blif covers c.deref.result.now (length tiles) ss) (sym c.deref-3.ensures.value) c.in_ok-sources.ensures in
    let sourced = subst (λ (ps : List (List ℕ)). AreSourcedAll n.blif covers ps (length tiles) sources) (c.deref.ensures.value ∙ sym c.deref-2.ensures.value) found in
    let few = few_modules n.blif covers c.requires.covers c.args.live.now tiles c.requires.tiles c.least_counts.ensures.one c.requires.few in
    on_result c.circuit_of.result (IsCircuitOf n covers tiles places sources) (IsMapOf n)
    (λ circuit made. built_maps n covers c.args.live.now tiles places sources circuit
    (record { is_net = c.requires.net; whole = c.netlists_are_whole.ensures n.blif; covered = c.requires.covers; reached = c.requires.live; tiles_are = c.requires.tiles; placed = placed; sourced = sourced; made = made })
    c.mapped_means.ensures c.mapped_is_small.ensures.read c.mapped_is_small.ensures.few c.mapped_has_own_sources.ensures c.latch_names_differ.ensures c.requires.outputs few)
    c.circuit_of.ensures

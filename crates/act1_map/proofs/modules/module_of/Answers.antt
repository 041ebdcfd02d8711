use Rattle.std.proofs.Common.{List, length, sym, ap, subst, ◌∙◌, arith}
use Rattle.std.specs.Prelude.{slice_get}
use Rattle.std.proofs.lemmas.Option.{slice_get_within}
use Rattle.act1_base.proofs.ListGets.{get_read}
use Rattle.act1_blif.specs.declared.blif.Node.{Node}
use Rattle.act1_cover.specs.Tilings.{MayStand}
use Rattle.act1_map.specs.declared.covers.Covered.{Covered}
use Rattle.act1_map.proofs.Gets.{one_at, contained_at}
use Rattle.act1_map.proofs.NodeParts.{pins_read, table_long}
use Rattle.act1_map.proofs.modules.module_of.Goals as goal

pub tile_sources-requires-clause-covered : goal.tile_sources-requires-clause-covered
tile_sources-requires-clause-covered c =
    let i = c.from-at.result in
    let number = c.from-at.ensures in
    let low = slice_get_within c.args.covers.now c.args.tile.node c.requires.stands.0 c.requires.stands.1 in
    let count = c.requires.covers.count in
    let long = ap (λ (ns : List Node). length ns) c.as_slice.ensures in
    c.requires.covers.each i c.index-as_slice-at.result c.index-covers-at.result
    (ap (λ (ns : List Node). slice_get ns i) (sym c.as_slice.ensures) ∙ get_read c.as_slice.result.now i c.index-as_slice-at.result (omega arith) c.index-as_slice-at.is)
    (get_read c.args.covers.now i c.index-covers-at.result (omega arith) c.index-covers-at.is)

pub tile_sources-requires-clause-width : goal.tile_sources-requires-clause-width
tile_sources-requires-clause-width c =
    let i = c.from-at.result in
    let number = c.from-at.ensures in
    let low = slice_get_within c.args.covers.now c.args.tile.node c.requires.stands.0 c.requires.stands.1 in
    let count = c.requires.covers.count in
    let long = ap (λ (ns : List Node). length ns) c.as_slice.ensures in
    (c.netlists_are_whole.ensures c.args.blif.now).widths i c.index-as_slice-at.result
    (ap (λ (ns : List Node). slice_get ns i) (sym c.as_slice.ensures) ∙ get_read c.as_slice.result.now i c.index-as_slice-at.result (omega arith) c.index-as_slice-at.is)

pub tile_sources-requires-clause-inputs : goal.tile_sources-requires-clause-inputs
tile_sources-requires-clause-inputs c = λ k d within.
    let i = c.from-at.result in
    let number = c.from-at.ensures in
    let low = slice_get_within c.args.covers.now c.args.tile.node c.requires.stands.0 c.requires.stands.1 in
    let count = c.requires.covers.count in
    let long = ap (λ (ns : List Node). length ns) c.as_slice.ensures in
    let own = c.index-as_slice-at.result in
    let all = c.requires.all in
    let signal = (c.netlists_are_whole.ensures c.args.blif.now).nodes i _ own
    (ap (λ (ns : List Node). slice_get ns i) (sym c.as_slice.ensures) ∙ get_read c.as_slice.result.now i own (omega arith) c.index-as_slice-at.is)
    (contained_at own.inputs k d within) in omega arith

pub tile_sources-requires-clause-table : goal.tile_sources-requires-clause-table
tile_sources-requires-clause-table c =
    let i = c.from-at.result in
    let number = c.from-at.ensures in
    let low = slice_get_within c.args.covers.now c.args.tile.node c.requires.stands.0 c.requires.stands.1 in
    let tables = c.requires.places.count in
    table_long c.args.covers.now c.args.places.now c.requires.places i c.index-covers-at.result c.as_slice-2.result.now c.index-places-at.result
    (get_read c.args.covers.now i c.index-covers-at.result (omega arith) c.index-covers-at.is)
    (get_read c.args.places.now i c.index-places-at.result (omega arith) c.index-places-at.is) c.as_slice-2.ensures

pub tile_sources-requires-clause-stands : goal.tile_sources-requires-clause-stands
tile_sources-requires-clause-stands c =
    let i = c.from-at.result in
    let number = c.from-at.ensures in
    let (d, at, stands) = c.requires.stands in
    let low = slice_get_within c.args.covers.now c.args.tile.node d at in
    let cover = c.index-covers-at.result in
    subst (λ (x : Covered). MayStand x.forest c.args.tile.tile.fork c.args.tile.tile.shape)
    (one_at c.args.covers.now i d cover (ap (slice_get c.args.covers.now) number ∙ at) (get_read c.args.covers.now i cover (omega arith) c.index-covers-at.is)) stands

pub returns : goal.returns
returns c = λ node d there here.
    let i = c.from-at.result in
    let number = c.from-at.ensures in
    let low = slice_get_within c.args.covers.now c.args.tile.node c.requires.stands.0 c.requires.stands.1 in
    let count = c.requires.covers.count in
    let tables = c.requires.places.count in
    let long = ap (λ (ns : List Node). length ns) c.as_slice.ensures in
    let own = c.index-as_slice-at.result in
    let cover = c.index-covers-at.result in
    c.tile_sources.ensures
    ∙ pins_read c.args.blif.now.nodes c.args.covers.now c.args.sources.now c.args.places.now i own node cover d c.as_slice-2.result.now c.index-places-at.result
    (ap (λ (ns : List Node). slice_get ns i) (sym c.as_slice.ensures) ∙ get_read c.as_slice.result.now i own (omega arith) c.index-as_slice-at.is)
    (ap (slice_get c.args.blif.now.nodes) number ∙ there)
    (get_read c.args.covers.now i cover (omega arith) c.index-covers-at.is)
    (ap (slice_get c.args.covers.now) number ∙ here)
    (get_read c.args.places.now i c.index-places-at.result (omega arith) c.index-places-at.is) c.as_slice-2.ensures c.args.tile (sym number)

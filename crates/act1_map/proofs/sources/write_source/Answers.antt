use Rattle.std.proofs.Common.{ℕ, ◌≡◌, ◌+◌, ◌-◌, List, length, sym, ap, ◌∙◌, arith}
use Rattle.std.specs.Prelude.{slice_get, slice_set}
use Rattle.act1_base.proofs.ListGets.{get_read}
use Rattle.act1_blif.specs.declared.blif.Node.{Node}
use Rattle.act1_circuit.specs.declared.circuit.Source.{Source}
use Rattle.act1_map.specs.MapSteps.{node_source, part_source}
use Rattle.act1_map.proofs.NodeParts.{source_read, table_long}
use Rattle.act1_map.proofs.sources.write_source.Goals as goal

pub node_source-source-requires-clause-covered : goal.node_source-source-requires-clause-covered
node_source-source-requires-clause-covered c =
    let i : ℕ = c.args.signal - (c.len.result + c.len-2.result) in
    let first = c.if-signal-first.false in
    let low = c.requires.low in
    let inputs = c.len.ensures in
    let latches = c.len-2.ensures in
    let count = c.requires.covers.count in
    let long = ap (λ (ns : List Node). length ns) c.as_slice.ensures in
    c.requires.covers.each i c.index-as_slice-at.result c.index-covers-at.result
    (ap (λ (ns : List Node). slice_get ns i) (sym c.as_slice.ensures) ∙ get_read c.as_slice.result.now i c.index-as_slice-at.result (omega arith) c.index-as_slice-at.is)
    (get_read c.args.covers.now i c.index-covers-at.result (omega arith) c.index-covers-at.is)

pub node_source-source-requires-clause-table : goal.node_source-source-requires-clause-table
node_source-source-requires-clause-table c =
    let i : ℕ = c.args.signal - (c.len.result + c.len-2.result) in
    let first = c.if-signal-first.false in
    let low = c.requires.low in
    let inputs = c.len.ensures in
    let latches = c.len-2.ensures in
    let count = c.requires.covers.count in
    let tables = c.requires.places.count in
    table_long c.args.covers.now c.args.places.now c.requires.places i c.index-covers-at.result c.as_slice-2.result.now c.index-places-at.result
    (get_read c.args.covers.now i c.index-covers-at.result (omega arith) c.index-covers-at.is)
    (get_read c.args.places.now i c.index-places-at.result (omega arith) c.index-places-at.is) c.as_slice-2.ensures

pub returns-clause-node : goal.returns-clause-node
returns-clause-node c = λ j node d is there here.
    let i : ℕ = c.args.signal - (c.len.result + c.len-2.result) in
    let first = c.if-signal-first.false in
    let low = c.requires.low in
    let inputs = c.len.ensures in
    let latches = c.len-2.ensures in
    let count = c.requires.covers.count in
    let tables = c.requires.places.count in
    let long = ap (λ (ns : List Node). length ns) c.as_slice.ensures in
    let number : j ≡ i = omega arith in
    let own = c.index-as_slice-at.result in
    let cover = c.index-covers-at.result in
    let sources = c.args.sources.now.items in
    ap (λ (source : Source). slice_set sources c.args.signal source)
    (c.node_source-source.ensures ∙ ap (λ (ss : List Source). part_source ss own.inputs c.as_slice-2.result.now cover.forest.root) c.deref.ensures.value
    ∙ source_read c.args.blif.now.nodes c.args.covers.now sources c.args.places.now i own node cover d c.as_slice-2.result.now c.index-places-at.result
    (ap (λ (ns : List Node). slice_get ns i) (sym c.as_slice.ensures) ∙ get_read c.as_slice.result.now i own (omega arith) c.index-as_slice-at.is)
    (ap (slice_get c.args.blif.now.nodes) (sym number) ∙ there)
    (get_read c.args.covers.now i cover (omega arith) c.index-covers-at.is)
    (ap (slice_get c.args.covers.now) (sym number) ∙ here)
    (get_read c.args.places.now i c.index-places-at.result (omega arith) c.index-places-at.is) c.as_slice-2.ensures
    ∙ ap (λ (l : ℕ). node_source sources c.args.places.now l node d) (sym number))

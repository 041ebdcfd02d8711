use Rattle.std.proofs.Common.{ℕ, List, Some, sym, ap, subst, ◌∙◌, arith}
use Rattle.std.proofs.lemmas.Option.{slice_get-get_or}
use Rattle.act1_order.specs.Order.{IsOrder}
use Rattle.act1_blif.specs.Graph.{reads_of}
use Rattle.act1_map.proofs.SourcePass.{all_sourced, none_sourced, signal_next, signal_within}
use Rattle.act1_map.proofs.sources.sources_of.Goals as goal

pub loop-signal-init : goal.loop-signal-init
loop-signal-init c = none_sourced c.args.blif.now c.args.covers.now c.args.places.now c.args.tiles c.as_slice-signal-items.result.now c.in_ok-sources.sources.items c.in_ok-sources.ensures

pub write_source-requires-clause-low : goal.write_source-requires-clause-low
write_source-requires-clause-low c =
    let b = c.args.blif.now in
    let order = c.as_slice-signal-items.result.now in
    let i = c.loop-signal.signal-index in
    let is_order = subst (λ (signals : List ℕ). IsOrder (reads_of b) signals) (sym c.as_slice-signal-items.ensures) c.in_ok-order.ensures in
    signal_within b c.args.covers.now c.args.places.now c.args.tiles (c.netlists_are_whole.ensures b) c.requires.covers order is_order i c.from.result (slice_get-get_or order i 0 c.loop-signal-test.true ∙ ap (λ (s : ℕ). Some s) (sym c.from.ensures))

pub loop-signal-preserved : goal.loop-signal-preserved
loop-signal-preserved c =
    let b = c.args.blif.now in
    let order = c.as_slice-signal-items.result.now in
    let i = c.loop-signal.signal-index in
    let is_order = subst (λ (signals : List ℕ). IsOrder (reads_of b) signals) (sym c.as_slice-signal-items.ensures) c.in_ok-order.ensures in
    signal_next b c.args.covers.now c.args.places.now c.args.tiles (c.netlists_are_whole.ensures b) c.requires.covers order is_order i c.from.result c.loop-signal.sources.items c.write_source.new.sources.items
    (slice_get-get_or order i 0 c.loop-signal-test.true ∙ ap (λ (s : ℕ). Some s) (sym c.from.ensures))
    c.loop-signal.invariant
    c.write_source.ensures.given
    c.write_source.ensures.node

pub returns : goal.returns
returns c =
    let b = c.args.blif.now in
    let order = c.as_slice-signal-items.result.now in
    let is_order = subst (λ (signals : List ℕ). IsOrder (reads_of b) signals) (sym c.as_slice-signal-items.ensures) c.in_ok-order.ensures in
    let past = c.loop-signal-test.false in
    let end = c.loop-signal.auto.signal-index-end in
    all_sourced b c.args.covers.now c.args.places.now c.args.tiles (c.netlists_are_whole.ensures b) c.requires.covers order is_order c.loop-signal.signal-index c.loop-signal.sources.items (omega arith) c.loop-signal.invariant

use Rattle.std.proofs.Common.{ℕ, ◌+◌, ◌-◌, Bool, List, length, refl, sym, ap, ◌∙◌, arith}
use Rattle.std.specs.Prelude.{slice_set}
use Rattle.act1_base.proofs.ListGets.{some_is}
use Rattle.act1_blif.specs.declared.blif.Node.{Node}
use Rattle.act1_blif.specs.Run.{node_value}
use Rattle.act1_blif.specs.Graph.{signal_count}
use Rattle.act1_blif.proofs.NetFacts.{node_is, node_width, read_node}
use Rattle.act1_blif.proofs.valuation.evaluate.Goals as goal

pub node_value-requires-clause-width : goal.node_value-requires-clause-width
node_value-requires-clause-width c =
    let net = c.args.blif.now in
    let node = c.index-as_slice-signal.result in
    let i : ℕ = c.args.signal - (c.len.result + c.len-2.result) in
    let first = c.if-signal-first.false in
    let nodes = ap (λ (ns : List Node). length ns) c.as_slice.ensures in
    let low = c.requires.low in
    let inputs = c.len.ensures in
    let latches = c.len-2.ensures in
    node_width (signal_count net) node (node_is net i node (read_node net c.as_slice.result.now i i node c.as_slice.ensures refl (omega arith) c.index-as_slice-signal.is))

pub returns-clause-node : goal.returns-clause-node
returns-clause-node c = λ j node is there.
    let net = c.args.blif.now in
    let own = c.index-as_slice-signal.result in
    let i : ℕ = c.args.signal - (c.len.result + c.len-2.result) in
    let first = c.if-signal-first.false in
    let nodes = ap (λ (ns : List Node). length ns) c.as_slice.ensures in
    let low = c.requires.low in
    let inputs = c.len.ensures in
    let latches = c.len-2.ensures in
    let at = read_node net c.as_slice.result.now i j own c.as_slice.ensures (omega arith) (omega arith) c.index-as_slice-signal.is in
    let same = some_is own node (sym at ∙ there) in
    ap (λ (value : Bool). slice_set c.args.values.now.items c.args.signal value)
    (c.in_ok-value.ensures ∙ ap (λ (values : List Bool). node_value values own) c.deref.ensures.value ∙ ap (node_value c.args.values.now.items) same)

use Rattle.std.proofs.Common.{List, ◌++◌, sym, ap, ◌∙◌}
use Rattle.std.specs.Option.{option_to_list}
use Rattle.act1_blif.specs.declared.blif.Node.{Node}
use Rattle.act1_bliftext.specs.declared.statement.NumberedStatement.{NumberedStatement}
use Rattle.act1_blifread.specs.NetlistSteps.{node_at}
use Rattle.act1_blifread.proofs.StatementLists.{filter_map_push}
use Rattle.act1_blifread.proofs.netlist.nodes_of.Goals as goal

pub loop-numbered-preserved : goal.loop-numbered-preserved
loop-numbered-preserved c =
    let names = c.args.names.now in
    let places = c.args.places.now in
    let x = c.in-Some.numbered in
    c.in_ok-add_node.ensures ∙ ap (λ (nodes : List Node). nodes ++ option_to_list (node_at names places x.statement)) c.loop-numbered.invariant
    ∙ sym (filter_map_push (λ (numbered : NumberedStatement). node_at names places numbered.statement) c.loop-numbered.yielded x)

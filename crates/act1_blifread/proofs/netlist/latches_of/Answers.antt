use Rattle.std.proofs.Common.{length, List, ◌++◌, sym, ap, ◌∙◌}
use Rattle.std.specs.Option.{option_to_list}
use Rattle.act1_blif.specs.declared.blif.Latch.{Latch}
use Rattle.act1_bliftext.specs.declared.statement.NumberedStatement.{NumberedStatement}
use Rattle.act1_blifread.specs.NetlistSteps.{latch_at}
use Rattle.act1_blifread.proofs.StatementLists.{filter_map_read, statement_within}
use Rattle.act1_blifread.proofs.netlist.latches_of.Goals as goal

pub add_latch-requires : goal.add_latch-requires
add_latch-requires c = statement_within (length c.args.names.now) c.args.statements.now c.loop-numbered.numbered-index c.numbered-item.result c.loop-numbered-test.true c.numbered-item.is c.requires

pub loop-numbered-preserved : goal.loop-numbered-preserved
loop-numbered-preserved c =
    let names = c.args.names.now in
    let places = c.args.places.now in
    let x = c.numbered-item.result in
    c.in_ok-add_latch.ensures ∙ ap (λ (latches : List Latch). latches ++ option_to_list (latch_at names places x.statement)) c.loop-numbered.invariant
    ∙ sym (filter_map_read (λ (numbered : NumberedStatement). latch_at names places numbered.statement) c.args.statements.now c.loop-numbered.numbered-index x c.loop-numbered-test.true c.numbered-item.is)

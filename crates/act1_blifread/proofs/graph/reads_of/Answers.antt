use Rattle.std.proofs.Common.{ℕ, List, ◌++◌, sym, ap, ◌∙◌}
use Rattle.std.specs.Option.{option_to_list}
use Rattle.act1_bliftext.specs.declared.statement.NumberedStatement.{NumberedStatement}
use Rattle.act1_blifread.specs.NetlistSteps.{reads_in}
use Rattle.act1_blifread.proofs.StatementLists.{filter_map_read}
use Rattle.act1_blifread.proofs.graph.reads_of.Goals as goal

pub loop-numbered-preserved : goal.loop-numbered-preserved
loop-numbered-preserved c =
    let x = c.numbered-item.result in
    c.in_ok-add_reads.ensures ∙ ap (λ (graph : List (List ℕ)). graph ++ option_to_list (reads_in c.args.places.now x.statement)) c.loop-numbered.invariant
    ∙ sym (filter_map_read (λ (numbered : NumberedStatement). reads_in c.args.places.now numbered.statement) c.args.statements.now c.loop-numbered.numbered-index x c.loop-numbered-test.true c.numbered-item.is)

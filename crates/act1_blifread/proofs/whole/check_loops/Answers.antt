use Rattle.std.proofs.Common.{◌≤◌, List, length, sym, subst}
use Rattle.act1_bliftext.specs.declared.fault.BlifKind.TheVariants.{Loop}
use Rattle.act1_bliftext.specs.declared.statement.NumberedStatement.{NumberedStatement}
use Rattle.act1_blifread.specs.Parts.{all_of, node_names}
use Rattle.act1_blifread.specs.NetlistSteps.{IsFirstLine}
use Rattle.act1_blifread.proofs.FirstLines.{loop_is_bad, refused}
use Rattle.act1_blifread.proofs.SignalLists.{nodes_few}
use Rattle.act1_blifread.proofs.StatementRules.{kept}
use Rattle.act1_blifread.proofs.whole.check_loops.Goals as goal

pub loop_line-requires-clause-few : goal.loop_line-requires-clause-few
loop_line-requires-clause-few c =
    let s = c.args.statements.now in
    subst (λ (ss : List NumberedStatement). length (all_of node_names ss) ≤ 65535) (sym c.as_slice-numbered.ensures) (nodes_few (length s.names) s.statements (kept s).few (kept s).within c.requires.once)

pub returns-clause-fault : goal.returns-clause-fault
returns-clause-fault c =
    refused c.args.statements.now Loop c.in_ok-line.line c.refuse.result (subst (λ (ss : List NumberedStatement). IsFirstLine ss Loop c.in_ok-line.line) c.as_slice-numbered.ensures c.in_ok-line.ensures) c.refuse.ensures
    (λ line. loop_is_bad c.args.statements.now line c.requires.once c.requires.one_clock c.requires.driven c.requires.unused)

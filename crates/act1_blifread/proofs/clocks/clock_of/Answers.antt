use Rattle.std.proofs.Common.{sym, ◌∙◌}
use Rattle.act1_blifread.proofs.StatementLists.{clock_here, clock_later}
use Rattle.act1_blifread.proofs.clocks.clock_of.Goals as goal

pub returns-in-Some : goal.returns-in-Some
returns-in-Some c =
    sym (clock_here c.args.statements.now c.loop-numbered.numbered-index c.numbered-item.result c.in-Some.clock c.loop-numbered-test.true c.numbered-item.is (sym c.in-Some.ensures)) ∙ c.loop-numbered.invariant

pub loop-numbered-preserved : goal.loop-numbered-preserved
loop-numbered-preserved c =
    sym (clock_later c.args.statements.now c.loop-numbered.numbered-index c.numbered-item.result c.loop-numbered-test.true c.numbered-item.is (sym c.first_clock.ensures ∙ c.in_default.is)) ∙ c.loop-numbered.invariant

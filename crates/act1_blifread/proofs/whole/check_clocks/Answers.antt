use Rattle.std.proofs.Common.{ℕ, Option, ap, ◌∙◌}
use Rattle.act1_bliftext.specs.declared.fault.BlifKind.TheVariants.{Clocks}
use Rattle.act1_blifread.specs.Faults.{is_second_clock}
use Rattle.act1_blifread.specs.NetlistSteps.{IsFirstLine, first_line}
use Rattle.act1_blifread.proofs.FirstLines.{clocks_are_bad, clocks_line, not_refused, refused}
use Rattle.act1_blifread.proofs.whole.check_clocks.Goals as goal

found : (c : goal.After-refuse) → IsFirstLine c.args.statements.now.statements Clocks c.second_clock_line-line.result
found c =
    clocks_line c.args.statements.now.statements c.second_clock_line-line.result
    (c.second_clock_line-line.ensures ∙ ap (first_line (is_second_clock c.args.clock)) c.as_slice.ensures ∙ ap (λ (clock : Option ℕ). first_line (is_second_clock clock) c.args.statements.now.statements) c.requires.clock)

pub returns-clause-free : goal.returns-clause-free
returns-clause-free c = not_refused c.args.statements.now Clocks c.second_clock_line-line.result c.refuse.result (found c) c.refuse.ensures

pub returns-clause-fault : goal.returns-clause-fault
returns-clause-fault c = refused c.args.statements.now Clocks c.second_clock_line-line.result c.refuse.result (found c) c.refuse.ensures (λ line. clocks_are_bad c.args.statements.now line c.requires.once)

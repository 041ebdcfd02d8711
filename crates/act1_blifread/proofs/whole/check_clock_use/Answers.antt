use Rattle.std.proofs.Common.{ℕ, Option, ap, ◌∙◌}
use Rattle.act1_bliftext.specs.declared.fault.BlifKind.TheVariants.{ClockUsed}
use Rattle.act1_blifread.specs.Faults.{is_clock_used}
use Rattle.act1_blifread.specs.NetlistSteps.{IsFirstLine, first_line}
use Rattle.act1_blifread.proofs.FirstLines.{clock_used_is_bad, clock_used_lines, not_refused, refused}
use Rattle.act1_blifread.proofs.whole.check_clock_use.Goals as goal

found : (c : goal.After-refuse) → IsFirstLine c.args.statements.now.statements ClockUsed c.clock_used_line-line.result
found c =
    clock_used_lines c.args.statements.now.statements c.clock_used_line-line.result
    (c.clock_used_line-line.ensures ∙ ap (first_line (is_clock_used c.args.clock)) c.as_slice.ensures ∙ ap (λ (clock : Option ℕ). first_line (is_clock_used clock) c.args.statements.now.statements) c.requires.clock)

pub returns-clause-free : goal.returns-clause-free
returns-clause-free c = not_refused c.args.statements.now ClockUsed c.clock_used_line-line.result c.refuse.result (found c) c.refuse.ensures

pub returns-clause-fault : goal.returns-clause-fault
returns-clause-fault c =
    refused c.args.statements.now ClockUsed c.clock_used_line-line.result c.refuse.result (found c) c.refuse.ensures
    (λ line. clock_used_is_bad c.args.statements.now line c.requires.once c.requires.one_clock c.requires.driven)

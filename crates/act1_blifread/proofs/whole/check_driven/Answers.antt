use Rattle.std.proofs.Common.{ℕ, Option, length, ap, ◌∙◌}
use Rattle.std.specs.List.{list_any}
use Rattle.act1_bliftext.specs.declared.fault.BlifKind.TheVariants.{Undriven}
use Rattle.act1_bliftext.specs.declared.statement.Statement.{Statement}
use Rattle.act1_blifread.specs.Parts.{clock_of, used_names}
use Rattle.act1_blifread.specs.Faults.{is_undriven}
use Rattle.act1_blifread.specs.NetlistSteps.{IsFirstLine, first_line, is_without_place}
use Rattle.act1_blifread.proofs.FirstLines.{undriven_is_bad, undriven_lines, first_line_same, not_refused, refused}
use Rattle.act1_blifread.proofs.SignalLists.{undriven_same}
use Rattle.act1_blifread.proofs.StatementRules.{kept}
use Rattle.act1_blifread.proofs.whole.check_driven.Goals as goal

found : (c : goal.After-refuse) → IsFirstLine c.args.statements.now.statements Undriven c.undriven_line-line.result
found c =
    let ss = c.args.statements.now.statements in
    let places = c.args.places.now in
    undriven_lines ss c.undriven_line-line.result (
    c.undriven_line-line.ensures ∙ ap (first_line (λ (statement : Statement). list_any (is_without_place c.args.clock places) (used_names statement))) c.as_slice.ensures
    ∙ ap (λ (clock : Option ℕ). first_line (λ (statement : Statement). list_any (is_without_place clock places) (used_names statement)) ss) c.requires.clock
    ∙ first_line_same (λ (statement : Statement). list_any (is_without_place (clock_of ss) places) (used_names statement)) (is_undriven ss) ss (undriven_same (length c.args.statements.now.names) ss places c.requires.places ss (kept c.args.statements.now).within)
    )

pub returns-clause-free : goal.returns-clause-free
returns-clause-free c = not_refused c.args.statements.now Undriven c.undriven_line-line.result c.refuse.result (found c) c.refuse.ensures

pub returns-clause-fault : goal.returns-clause-fault
returns-clause-fault c =
    refused c.args.statements.now Undriven c.undriven_line-line.result c.refuse.result (found c) c.refuse.ensures (λ line. undriven_is_bad c.args.statements.now line c.requires.once c.requires.one_clock)

use Rattle.std.proofs.Common.{Some, true, refl, sym}
use Rattle.act1_bliftext.proofs.TakesRow.{under_open}
use Rattle.act1_bliftext.proofs.WordLists.{texts}
use Rattle.act1_bliftext.proofs.step.after_row.Goals as goal

pub returns : goal.returns
returns c =
    let old = c.args.reading.now in
    under_open old.open_names c.in-Some.open_names c.in_ok-row_under.field-0 c.args.first.now (texts c.args.rest.now) old
    (record { model = old.model; names = old.names; statements = old.statements; open_names = Some c.in_ok-row_under.field-0; is_later = true; has_ended = old.has_ended })
    (sym c.in-Some.ensures.value) refl c.in_ok-row_under.ensures refl refl refl refl refl

use Rattle.std.proofs.Common.{sym, ap, ◌∙◌, arith}
use Rattle.act1_table.specs.Reads.{number_of}
use Rattle.act1_table.specs.declared.forms.Limit.{Limit}
use Rattle.act1_table.proofs.NumberLaws.{as_answered, as_refused}
use Rattle.act1_table.proofs.read.number_of.Goals as goal

pub returns-in-Ok : goal.returns-in-Ok
returns-in-Ok c =
    as_answered c.in-Most.most c.args.digits.now c.in-Ok.n (omega arith) c.in-Ok.ensures
    ∙ ap (λ (l : Limit). number_of l c.args.digits.now) (sym c.in-Most.is)

pub returns-in-Err : goal.returns-in-Err
returns-in-Err c =
    as_refused c.in-Most.most c.args.digits.now (omega arith) c.in-Err.ensures
    ∙ ap (λ (l : Limit). number_of l c.args.digits.now) (sym c.in-Most.is)

use Rattle.std.proofs.Common.{sym, subst}
use Rattle.act1_bliftext.specs.ReadingSteps.{FormGives, left}
use Rattle.act1_bliftext.specs.declared.form.Form.{Form}
use Rattle.act1_bliftext.proofs.WordLists.{texts}
use Rattle.act1_bliftext.proofs.step.after_form.Goals as goal

pub returns-in-Model : goal.returns-in-Model
returns-in-Model c = subst (λ (f : Form). FormGives f c.args.number (texts c.args.rest.now) c.args.reading.now (left c.after_model.new.reading c.after_model.result)) (sym c.in-Model.is) (c.after_model.ensures c.args.number)

pub returns-in-End : goal.returns-in-End
returns-in-End c = subst (λ (f : Form). FormGives f c.args.number (texts c.args.rest.now) c.args.reading.now (left c.after_end.new.reading c.after_end.result)) (sym c.in-End.is) (c.after_end.ensures c.args.number)

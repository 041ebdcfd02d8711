use Rattle.std.proofs.Common.{Err, ap, ◌∙◌}
use Rattle.act1_frame.proofs.Unwritten.{unwritten}
use Rattle.act1_frame.proofs.finishing.write_and_say.Goals as goal

pub returns-in-Err-Failed-clause-ends : goal.returns-in-Err-Failed-clause-ends
returns-in-Err-Failed-clause-ends g c =
    unwritten c.args.name.now c.args.bytes.now c.args.fault.now c.args.text.now c.args.status _ _ _ _ _ c.write.result c.write.ensures (c.in-Err-Failed.is ∙ ap Err c.in-Err-Failed.field-0-is) c.requires c.say-in-Err-Failed.ensures

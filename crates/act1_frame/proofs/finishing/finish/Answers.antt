use Rattle.act1_frame.proofs.Unwritten.{finished}
use Rattle.act1_frame.proofs.finishing.finish.Goals as goal

pub returns-in-Ok-clause-ends : goal.returns-in-Ok-clause-ends
returns-in-Ok-clause-ends g c =
    finished c.args.ending.now c.in-Some.file _ _ _ _ _ _ _ _ c.in-Some.is c.as_str-name.ensures c.as_slice.ensures c.as_slice-text.ensures c.write_and_say.ensures.ends

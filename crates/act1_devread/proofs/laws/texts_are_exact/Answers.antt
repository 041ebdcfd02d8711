use Rattle.act1_devread.proofs.DeviceLaws.{never_both, one_fault, one_device}
use Rattle.act1_devread.proofs.EachText.{each_text}
use Rattle.act1_devread.proofs.laws.texts_are_exact.Goals as goal

pub returns : goal.returns
returns c = record { each_text = each_text; never_both = never_both; one_fault = one_fault; one_device = one_device }

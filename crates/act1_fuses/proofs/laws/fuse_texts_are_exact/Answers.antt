use Rattle.act1_fuses.proofs.Completions.{each_text, first_lines}
use Rattle.act1_fuses.proofs.FuseTexts.{one_file, never_refused}
use Rattle.act1_fuses.proofs.laws.fuse_texts_are_exact.Goals as goal

pub returns : goal.returns
returns c = record {
  one_file = one_file c.devices_are_small.ensures;
  never_both = never_refused c.devices_are_small.ensures;
  each = each_text;
  first_lines = first_lines c.devices_are_small.ensures;
}

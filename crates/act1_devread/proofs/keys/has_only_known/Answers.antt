use Rattle.std.proofs.Common.{◌∙◌}
use Rattle.act1_devread.proofs.KeyLemmas.{knows_members}
use Rattle.act1_devread.proofs.keys.has_only_known.Goals as goal

pub returns : goal.returns
returns c = c.are_known.ensures ∙ knows_members c.args.table.now.entries

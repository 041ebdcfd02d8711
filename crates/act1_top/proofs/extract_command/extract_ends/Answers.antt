use Rattle.std.proofs.Common.{inl}
use Rattle.act1_top.proofs.extract_command.extract_ends.Goals as goal

pub returns-in_ok-extracted_ending-in-Ok-clause-ok : goal.returns-in_ok-extracted_ending-in-Ok-clause-ok
returns-in_ok-extracted_ending-in-Ok-clause-ok c = inl (c.in-Ok.net, c.in-Ok.ensures, c.in_ok-extracted_ending-in-Ok.ensures)

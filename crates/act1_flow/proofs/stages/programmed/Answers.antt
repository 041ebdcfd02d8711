use Rattle.std.proofs.Common.{arith}
use Rattle.act1_flow.proofs.stages.programmed.Goals as goal

pub overflow_cast-modules : goal.overflow_cast-modules
overflow_cast-modules c = let few = c.requires.legal.range.few_modules in omega arith

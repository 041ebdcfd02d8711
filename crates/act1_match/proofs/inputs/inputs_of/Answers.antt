use Rattle.act1_match.proofs.Bits.{shift_fits, inputs_bits}
use Rattle.act1_match.proofs.inputs.inputs_of.Goals as goal

pub overflow_sub-result : goal.overflow_sub-result
overflow_sub-result c = shift_fits c.args.vars c.requires

pub returns : goal.returns
returns c = λ i h. inputs_bits c.args.vars i c.requires h

use Rattle.std.proofs.Common.{◌≡◌, not, take}
use Rattle.std.specs.Prelude.{filter}
use Rattle.act1_blifread.specs.Parts.{all_of, input_names, is_clock}
use Rattle.act1_blifread.proofs.signals.data_inputs.Given as goal

abbrev pub invariant-loop-numbered : goal.invariant-loop-numbered
invariant-loop-numbered l = l.names.items ≡ filter (λ n. not (is_clock l.clock n)) (all_of input_names (take l.numbered-index l.statements))

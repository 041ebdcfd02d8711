use Rattle.std.proofs.Common.{◌≡◌, map, take}
use Rattle.act1_blifread.specs.Parts.{all_of, output_names}
use Rattle.act1_blifread.specs.NetlistSteps.{number_at}
use Rattle.act1_blifread.proofs.netlist.outputs_of.Given as goal

abbrev pub invariant-loop-numbered : goal.invariant-loop-numbered
invariant-loop-numbered l = l.outputs.items ≡ map (number_at l.places) (all_of output_names (take l.numbered-index l.statements))

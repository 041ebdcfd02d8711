use Rattle.std.proofs.Common.{◌≡◌, take}
use Rattle.std.specs.List.{filter_map}
use Rattle.act1_bliftext.specs.declared.statement.NumberedStatement.{NumberedStatement}
use Rattle.act1_blifread.specs.NetlistSteps.{reads_in}
use Rattle.act1_blifread.proofs.graph.reads_of.Given as goal

abbrev pub invariant-loop-numbered : goal.invariant-loop-numbered
invariant-loop-numbered l = l.graph.items ≡ filter_map (λ (numbered : NumberedStatement). reads_in l.places numbered.statement) (take l.numbered-index l.statements)

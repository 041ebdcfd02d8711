use Rattle.std.proofs.Common.{◌≡◌, ◌++◌, not, take}
use Rattle.std.specs.Prelude.{filter}
use Rattle.act1_blifread.specs.Parts.{is_clock}
use Rattle.act1_blifread.proofs.signals.add_data.Given as goal

abbrev pub invariant-loop-name : goal.invariant-loop-name
invariant-loop-name l = l.out.items ≡ l.initial.out.items ++ filter (λ n. not (is_clock l.clock n)) (take l.name-index l.names)

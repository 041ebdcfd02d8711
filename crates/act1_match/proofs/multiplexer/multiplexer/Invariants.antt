use Rattle.std.proofs.Common.{All, take, ◌≡◌}
use Rattle.act1_match.specs.SearchSteps.{IsMultiplexer}
use Rattle.act1_match.specs.declared.pins.Multiplexer.{Multiplexer}
use Rattle.act1_match.proofs.multiplexer.multiplexer.Given as goal

abbrev pub invariant-loop-select : goal.invariant-loop-select
invariant-loop-select l = All (λ select. ¬ ((m : Multiplexer) × (m.select ≡ select) × IsMultiplexer l.table l.inputs l.choices m)) (take l.select-index l.choices)

use Rattle.std.proofs.Common.{ℕ, ◌≡◌, ◌<◌, ◌≤◌, ◌-◌}
use Rattle.act1_engine.specs.Turns.{gives, value}
use Rattle.act1_engine.proofs.rounds.unrest.Given as goal

-- no module so far changes its value
abbrev pub invariant-loop-module : goal.invariant-loop-module
invariant-loop-module l = record {
  up : l.next ≤ l.modules;
  still : (k : ℕ) → k < l.next → gives l.wiring.slots.items l.values k ≡ value l.values k;
}

abbrev pub decreases-loop-module : goal.decreases-loop-module
decreases-loop-module l = l.modules - l.next

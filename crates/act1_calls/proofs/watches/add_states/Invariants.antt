use Rattle.std.proofs.Common.{◌≡◌}
use Rattle.act1_calls.proofs.watches.add_states.Given as goal

abbrev pub invariant-loop-word : goal.invariant-loop-word
invariant-loop-word l = l.watch.problem ≡ l.problem

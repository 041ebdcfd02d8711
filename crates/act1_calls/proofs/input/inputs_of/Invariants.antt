use Rattle.std.proofs.Common.{◌≡◌, length}
use Rattle.act1_calls.proofs.input.inputs_of.Given as goal

-- there is a value for each place so far
abbrev pub invariant-loop-place : goal.invariant-loop-place
invariant-loop-place l = length l.inputs.items ≡ l.place

use Rattle.std.proofs.Common.{ℕ, ◌≡◌, ◌≤◌, length}
use Rattle.std.specs.Prelude.{slice_get}
use Rattle.act1_farm.specs.Deciding.{AreDecided}
use Rattle.act1_farm.proofs.deciding.decide.Given as goal

abbrev pub invariant-loop-channel : goal.invariant-loop-channel
invariant-loop-channel l =
    AreDecided l.problems l.budget l.fn.found l.channel l.number l.verdicts
    × ((j : ℕ) → l.number ≤ j → slice_get l.left.items j ≡ slice_get l.fn.found j)
    × (length l.left.items ≡ length l.fn.found)

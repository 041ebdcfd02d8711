use Rattle.std.proofs.Common.{◌*◌}
use Rattle.act1_engine.specs.Marking.{AreUnmarked}
use Rattle.act1_engine.proofs.marks.first_in_words.Given as goal

-- no module of the words so far is marked
abbrev pub invariant-loop-place : goal.invariant-loop-place
invariant-loop-place l = AreUnmarked l.words (64 * l.block) (64 * l.place)

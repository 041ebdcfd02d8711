use Rattle.std.proofs.Common.{◌≡◌, ◌++◌, map, take}
use Rattle.act1_base.specs.Words.{text_of_lines}
use Rattle.act1_job.specs.WriteSteps.{track_words}
use Rattle.act1_job.proofs.write.write_tracks.Given as goal

-- the lines so far
abbrev pub invariant-loop-breaks : goal.invariant-loop-breaks
invariant-loop-breaks l = l.text.items ≡ l.initial.text.items ++ text_of_lines (map track_words (take l.breaks-index l.tracks))

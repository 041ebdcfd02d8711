use Rattle.std.proofs.Common.{◌≡◌, ◌++◌, map, take}
use Rattle.act1_base.specs.Words.{text_of_lines}
use Rattle.act1_logtext.specs.WriteSteps.{take_words}
use Rattle.act1_logtext.proofs.answer_write.write_tracks.Given as goal

-- the lines so far
abbrev pub invariant-loop-track : goal.invariant-loop-track
invariant-loop-track l = l.text.items ≡ l.initial.text.items ++ text_of_lines (map take_words (take l.track-index l.tracks))

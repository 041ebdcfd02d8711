use Rattle.std.proofs.Common.{◌≡◌, length, map, take}
use Rattle.act1_bliftext.specs.Rows.{mark_of}
use Rattle.act1_bliftext.proofs.rows.marks_of.Given as goal

-- the marks so far, in front of those that are still blank
abbrev pub invariant-loop-place : goal.invariant-loop-place
invariant-loop-place l = record {
  marks : take l.place l.marks ≡ map mark_of (take l.place l.word);
  room : length l.marks ≡ 64;
}

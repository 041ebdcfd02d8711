use Rattle.std.proofs.Common.{◌≡◌, ◌<◌, ◌+◌, ℕ, false, take}
use Rattle.act1_blifread.specs.Parts.{all_of, given_names, output_names}
use Rattle.act1_blifread.specs.Faults.{is_twice}
use Rattle.act1_blifread.specs.NetlistSteps.{AreMarks}
use Rattle.act1_blifread.proofs.twice.twice_line.Given as goal

-- the marks are those of the statements so far, of which none gives a name again
abbrev pub invariant-loop-numbered : goal.invariant-loop-numbered
invariant-loop-numbered l = record {
  given : AreMarks l.count (all_of given_names (take l.numbered-index l.statements)) l.given.items;
  shown : AreMarks l.count (all_of output_names (take l.numbered-index l.statements)) l.shown.items;
  free : (j : ℕ) → j < l.numbered-index → is_twice (take (j + 1) l.statements) ≡ false;
}

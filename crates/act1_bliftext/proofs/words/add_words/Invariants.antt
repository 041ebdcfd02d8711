use Rattle.std.proofs.Common.{◌≡◌, ◌≤◌, ◌++◌, [], drop, map, slice_range}
use Rattle.act1_bliftext.proofs.WordTurns.{words_after}
use Rattle.act1_bliftext.proofs.words.add_words.Given as goal

-- the words so far, and those to come
abbrev pub invariant-loop-i : goal.invariant-loop-i
invariant-loop-i l = record {
  words : map (λ w. w.now) l.words.items ++ words_after (slice_range l.line l.start l.i) (drop l.i l.line) ≡ map (λ w. w.now) l.initial.words.items ++ words_after [] l.line;
  order : l.start ≤ l.i;
}

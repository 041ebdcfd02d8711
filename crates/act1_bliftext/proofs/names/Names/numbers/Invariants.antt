use Rattle.std.proofs.Common.{◌≡◌, ◌≤◌, take, drop, map, length}
use Rattle.std.specs.Vec.{vec_len, vec_capacity}
use Rattle.act1_bliftext.specs.Tables.{with_names, AreNumbersOf}
use Rattle.act1_bliftext.proofs.names.Names.numbers.Given as goal

-- the names to come decide, the numbers are those of the names so far, and there is room for all
abbrev pub invariant-loop-word : goal.invariant-loop-word
invariant-loop-word l = record {
  names : with_names l.self (drop l.word-index (map (λ w. w.now) l.words)) ≡ with_names l.initial.self (map (λ w. w.now) l.words);
  numbers : AreNumbersOf l.self l.numbers.items (take l.word-index (map (λ w. w.now) l.words));
  few : length l.self ≤ 65535;
  taken : vec_len l.numbers ≡ l.word-index;
  room : vec_capacity l.numbers ≡ length l.words;
}

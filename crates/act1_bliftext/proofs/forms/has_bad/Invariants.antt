use Rattle.std.proofs.Common.{◌≡◌, drop, map}
use Rattle.std.specs.List.{list_any}
use Rattle.act1_bliftext.specs.Faults.{is_bad_word}
use Rattle.act1_bliftext.proofs.forms.has_bad.Given as goal

-- the words to come decide
abbrev pub invariant-loop-word : goal.invariant-loop-word
invariant-loop-word l = list_any is_bad_word (drop l.word-index (map (λ w. w.now) l.words)) ≡ list_any is_bad_word (map (λ w. w.now) l.words)

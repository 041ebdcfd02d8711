use Rattle.std.proofs.Common.{◌≡◌, drop, map}
use Rattle.std.specs.List.{list_any}
use Rattle.act1_bliftext.specs.Faults.{is_long}
use Rattle.act1_bliftext.proofs.forms.has_long.Given as goal

-- the words to come decide
abbrev pub invariant-loop-name : goal.invariant-loop-name
invariant-loop-name l = list_any is_long (drop l.name-index (map (λ w. w.now) l.names)) ≡ list_any is_long (map (λ w. w.now) l.names)

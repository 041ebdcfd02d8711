use Rattle.std.proofs.Common.{◌≡◌, ◌++◌}
use Rattle.act1_bliftext.proofs.names.Names.into_items.Given as goal

-- the names so far and those to come are all names
abbrev pub invariant-loop-name : goal.invariant-loop-name
invariant-loop-name l = record {
  can : (goal.iterator-loop-name).can_next l.name-iterator;
  finite : (goal.iterator-loop-name).is_finite l.name-iterator;
  names : l.names ++ l.name-iterator ≡ l.fn.self;
}

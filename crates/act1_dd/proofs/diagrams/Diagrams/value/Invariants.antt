use Rattle.std.proofs.Common.{◌≡◌, length}
use Rattle.act1_dd.specs.Inputs.{inputs_of}
use Rattle.act1_dd.specs.Diagram.{IsRef, IsWithin, size_of, value_at}
use Rattle.act1_dd.proofs.diagrams.Diagrams.value.Given as goal

-- the value of what is left is that of the whole
abbrev pub invariant-loop-at : goal.invariant-loop-at
invariant-loop-at l = record {
  is_ref : IsRef l.self l.at;
  within : IsWithin l.self l.at (length l.values);
  value : value_at l.self l.fn.f (inputs_of l.values) ≡ value_at l.self l.at (inputs_of l.values);
}

abbrev pub decreases-loop-at : goal.decreases-loop-at
decreases-loop-at l = size_of l.at

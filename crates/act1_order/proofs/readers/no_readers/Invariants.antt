use Rattle.act1_order.specs.ReadersSteps.{HasNone}
use Rattle.act1_order.proofs.readers.no_readers.Given as goal

abbrev pub invariant-loop-vertex : goal.invariant-loop-vertex
invariant-loop-vertex l = HasNone l._vertex l.readers.items

use Rattle.std.proofs.Common.{◌≡◌, ◌≤◌, ◌+◌, List, length}
use Rattle.act1_circuit.specs.declared.circuit.Spot.{Spot}
use Rattle.act1_array.specs.OwnerSteps.{AreOwners}
use Rattle.act1_array.proofs.owners.Owners.add_inputs.Given as goal

-- the inputs from this one on have been looked at
abbrev pub invariant-loop-number : goal.invariant-loop-number
invariant-loop-number l = record {
  low : l.number ≤ length l.file.ins;
  all : length l.self.owners.items ≡ length l.initial.self.owners.items;
  owners : (spots : List Spot) → AreOwners l.file spots l.classes (3 + length l.file.ins) l.initial.self → AreOwners l.file spots l.classes (3 + l.number) l.self;
}

abbrev pub decreases-loop-number : goal.decreases-loop-number
decreases-loop-number l = l.number

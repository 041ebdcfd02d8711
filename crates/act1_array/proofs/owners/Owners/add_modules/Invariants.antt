use Rattle.std.proofs.Common.{◌≡◌, ◌≤◌, ◌+◌, length}
use Rattle.act1_fuses.specs.declared.fuses.FuseFile.{FuseFile}
use Rattle.act1_array.specs.OwnerSteps.{AreOwners}
use Rattle.act1_array.proofs.owners.Owners.add_modules.Given as goal

-- the modules from this one on have been looked at
abbrev pub invariant-loop-number : goal.invariant-loop-number
invariant-loop-number l = record {
  low : l.number ≤ length l.spots;
  all : length l.self.owners.items ≡ length l.initial.self.owners.items;
  owners : (f : FuseFile) → AreOwners f l.spots l.classes (3 + length f.ins + length l.spots) l.initial.self → AreOwners f l.spots l.classes (3 + length f.ins + l.number) l.self;
}

abbrev pub decreases-loop-number : goal.decreases-loop-number
decreases-loop-number l = l.number

use Rattle.std.proofs.Common.{◌≡◌, ◌++◌, ◌∷◌, Bool, List, map, take}
use Rattle.act1_extract.proofs.covers.add_with_bit.Given as goal

abbrev pub invariant-loop-bits : goal.invariant-loop-bits
invariant-loop-bits l = l.out ≡ l.initial.out ++ map (λ (ys : List Bool). l.bit ∷ ys) (take l.bits-index l.all)

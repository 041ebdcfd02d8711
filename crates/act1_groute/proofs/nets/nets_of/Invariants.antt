use Rattle.std.proofs.Common.{◌≡◌, ◌++◌, length, map}
use Rattle.act1_circuit.specs.declared.circuit.Source.TheVariants.{Input, Module}
use Rattle.act1_base.specs.Lists.{numbers}
use Rattle.act1_groute.specs.RouteSteps.{net_with}
use Rattle.act1_groute.proofs.nets.nets_of.Given as goal

-- the nets of the inputs so far
abbrev pub invariant-loop-input : goal.invariant-loop-input
invariant-loop-input l = l.nets.items ≡ map (net_with l.all) (map Input (numbers 0 l.input))

-- those, and the nets of the modules so far
abbrev pub invariant-loop-number : goal.invariant-loop-number
invariant-loop-number l = l.nets.items ≡ map (net_with l.all) (map Input (numbers 0 (length l.plan.placed.circuit.inputs)) ++ map Module (numbers 0 l.number))

use Rattle.std.proofs.Common.{◌≡◌, map, take}
use Rattle.act1_groute.specs.Routes.{interval}
use Rattle.act1_groute.proofs.problem.intervals_of.Given as goal

-- the connections so far
abbrev pub invariant-loop-wiring : goal.invariant-loop-wiring
invariant-loop-wiring l = l.found.items ≡ map interval (take l.wiring-index l.wirings)

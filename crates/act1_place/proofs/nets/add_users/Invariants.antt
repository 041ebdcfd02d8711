use Rattle.std.proofs.Common.{◌≡◌, ◌++◌, drop}
use Rattle.act1_place.specs.Kept.{users}
use Rattle.act1_place.proofs.nets.add_users.Given as goal

-- the modules so far, and those to come
abbrev pub invariant-loop-module : goal.invariant-loop-module
invariant-loop-module l = l.found.items ++ users l.net l.«module» (drop l.«module» l.modules) ≡ l.initial.found.items ++ users l.net 0 l.modules

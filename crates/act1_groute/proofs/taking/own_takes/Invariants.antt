use Rattle.std.proofs.Common.{◌≡◌, ◌++◌, drop}
use Rattle.act1_groute.specs.Routes.{own}
use Rattle.act1_groute.proofs.taking.own_takes.Given as goal

-- the net's so far, and those to come
abbrev pub invariant-loop-take : goal.invariant-loop-take
invariant-loop-take l = l.own.items ++ own l.net (drop l.take-index l.takes) ≡ own l.net l.takes

use Rattle.std.proofs.Common.{◌≡◌, drop, map}
use Rattle.std.specs.Prelude.{find}
use Rattle.act1_groute.specs.Nets.{covers}
use Rattle.act1_groute.specs.Routes.{wire_of}
use Rattle.act1_groute.proofs.connections.first_crossing.Given as goal

-- what is to come decides
abbrev pub invariant-loop-take : goal.invariant-loop-take
invariant-loop-take l = find (λ x. covers l.device x l.channel) (map wire_of (drop l.take-index l.own)) ≡ find (λ x. covers l.device x l.channel) (map wire_of l.own)

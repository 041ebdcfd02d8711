use Rattle.std.proofs.Common.{◌≡◌, map, take}
use Rattle.act1_groute.specs.declared.net.Net.{Net}
use Rattle.act1_groute.specs.Routes.{own}
use Rattle.act1_groute.proofs.taking.owns_of.Given as goal

-- the nets so far
abbrev pub invariant-loop-net : goal.invariant-loop-net
invariant-loop-net l = l.owns.items ≡ map (λ (n : Net). own n.source l.takes) (take l.net-index l.nets)

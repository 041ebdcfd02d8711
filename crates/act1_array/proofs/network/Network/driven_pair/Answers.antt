use Rattle.std.proofs.Common.{Option, sym, subst}
use Rattle.act1_array.specs.declared.owners.Pair.{Pair}
use Rattle.act1_array.specs.NetworkSteps.{GivesPair}
use Rattle.act1_array.proofs.NetworkLemmas.{gives_pair}
use Rattle.act1_array.proofs.network.Network.driven_pair.Goals as goal

pub returns : goal.returns
returns c = λ dev f h once. subst (λ (p : Option Pair). GivesPair dev f c.args.self.now.spots p) (sym c.pair.ensures) (gives_pair dev f c.args.self.now h once c.args.self.now.owners.pair h.owners.pair)

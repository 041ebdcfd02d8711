use Rattle.act1_array.proofs.NetworkLemmas.{feeds}
use Rattle.act1_array.proofs.network.Network.source_of.Goals as goal

pub returns : goal.returns
returns c = λ dev f h other. feeds dev f c.args.self.now h c.args.wire other c.source_of.result (c.source_of.ensures f c.args.self.now.spots h.owners)

use Rattle.act1_meaning.proofs.ArrayMeaning.{array_net_means as it_means}
use Rattle.act1_meaning.proofs.laws.array_net_means.Goals as goal

pub returns : goal.returns
returns c =
    it_means c.pairs_are_clocked.ensures.clocked c.pairs_are_clocked.ensures.unseen c.pairs_are_clocked.ensures.sources c.on_sets_have_values.ensures c.valuations_have_signals.ensures c.latch_names_differ.ensures c.carrying_means.ensures.means

use Rattle.act1_map.proofs.MappedForm.{form_and_meaning}
use Rattle.act1_map.proofs.laws.mapped_means.Goals as goal

pub returns : goal.returns
returns c =
    form_and_meaning c.valuations_have_signals.ensures c.latch_names_differ.ensures c.netlists_are_whole.ensures c.forests_denote.ensures c.tiles_give_values.ensures c.pairs_are_clocked.ensures.clocked c.carrying_means.ensures.shows

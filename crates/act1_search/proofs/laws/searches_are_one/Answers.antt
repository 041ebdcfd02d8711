use Rattle.act1_search.proofs.Unique.{ends, last, unique}
use Rattle.act1_search.proofs.laws.searches_are_one.Goals as goal

pub returns : goal.returns
returns c = record { conflicts = unique; «last» = last; «ends» = ends }

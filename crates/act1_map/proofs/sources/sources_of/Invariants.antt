use Rattle.act1_map.specs.MapSteps.{AreSourced}
use Rattle.act1_map.proofs.sources.sources_of.Given as goal

-- the nodes among the first signals of the order have their sources
abbrev pub invariant-loop-signal : goal.invariant-loop-signal
invariant-loop-signal l = AreSourced l.blif l.covers l.places l.tiles l.signal-items l.signal-index l.sources.items

use Rattle.act1_map.specs.MapSteps.{ArePlaced}
use Rattle.act1_map.proofs.numbers.places_of.Given as goal

-- the first tiles have their modules in the tables
abbrev pub invariant-loop-number : goal.invariant-loop-number
invariant-loop-number l = ArePlaced l.covers l.tiles l.number l.tables.items

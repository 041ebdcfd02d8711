use Rattle.std.proofs.Common.{◌≡◌, ◌++◌, drop, map}
use Rattle.act1_net.specs.Net.{chosen}
use Rattle.act1_net.specs.BuildSteps.{gate_of, moved_left, name_of, width_left, width_of}
use Rattle.act1_net.proofs.build.nodes_of.Given as goal

-- with those to come these are all
abbrev pub invariant-loop-at : goal.invariant-loop-at
invariant-loop-at l =
    (map name_of l.found ++ chosen (drop l.at l.kept) (map name_of (drop l.at l.nodes)) ≡ chosen l.kept (map name_of l.nodes))
    × (map width_of l.found ++ chosen (drop l.at l.kept) (map (width_left l.terms) (drop l.at l.nodes)) ≡ chosen l.kept (map (width_left l.terms) l.nodes))
    × (map gate_of l.found ++ chosen (drop l.at l.kept) (map (moved_left l.terms l.places) (drop l.at l.nodes)) ≡ chosen l.kept (map (moved_left l.terms l.places) l.nodes))

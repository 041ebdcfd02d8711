use Rattle.std.proofs.Common.{◌≡◌, take}
use Rattle.std.specs.List.{filter_map}
use Rattle.act1_blifread.specs.NetlistSteps.{place_at}
use Rattle.act1_blifread.proofs.graph.places_among.Given as goal

abbrev pub invariant-loop-name : goal.invariant-loop-name
invariant-loop-name l = l.reads.items ≡ filter_map (place_at l.places) (take l.name-index l.names)

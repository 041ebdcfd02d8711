use Rattle.act1_map.proofs.CoverReads.{root_asks}
use Rattle.act1_map.proofs.sources.node_source.Goals as goal

pub part_source-requires-clause-asks : goal.part_source-requires-clause-asks
part_source-requires-clause-asks c = root_asks c.args.node.now c.args.covered.now c.requires.covered c.as_slice.result.now c.as_slice.ensures c.requires.width

use Rattle.act1_extract.specs.Picked.{ArePicked, IsOutputNode, has_node}
use Rattle.act1_extract.proofs.outputs.output_nodes.Given as goal

abbrev pub invariant-loop-output : goal.invariant-loop-output
invariant-loop-output l = ArePicked (has_node l.circuit) l.output-index (IsOutputNode l.circuit l.signals) l.nodes

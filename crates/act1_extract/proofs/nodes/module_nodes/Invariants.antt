use Rattle.act1_meaning.specs.Extracted.{is_outside}
use Rattle.act1_extract.specs.Picked.{ArePicked, IsModuleNode}
use Rattle.act1_extract.proofs.nodes.module_nodes.Given as goal

abbrev pub invariant-loop-module : goal.invariant-loop-module
invariant-loop-module l = ArePicked (is_outside l.circuit) l.«module» (IsModuleNode l.circuit l.signals l.names) l.nodes

use Rattle.std.proofs.Common.{ℕ, List, length, subst}
use Rattle.act1_meaning.specs.Extracted.{is_outside}
use Rattle.act1_extract.specs.Picked.{ArePicked, IsModuleNode, IsOutputNode, has_node}
use Rattle.act1_extract.proofs.net.nodes_of.Goals as goal

pub returns : goal.returns
returns c =
    let circuit = c.args.circuit.now in
    record {
      first = c.in_ok-nodes.nodes;
      with_zero = c.add_constant.new.nodes;
      with_one = c.add_constant-2.new.nodes;
      last = c.in_ok-more.more;
      modules = subst (λ (signals : List ℕ). ArePicked (is_outside circuit) (length circuit.modules) (IsModuleNode circuit signals c.args.names.now) c.in_ok-nodes.nodes) c.as_slice-signals.ensures c.in_ok-nodes.ensures;
      adds_zero = c.in_ok-add_constant.ensures;
      adds_one = c.in_ok-add_constant-2.ensures;
      outputs = subst (λ (signals : List ℕ). ArePicked (has_node circuit) (length circuit.outputs) (IsOutputNode circuit signals) c.in_ok-more.more) c.as_slice-signals.ensures c.in_ok-more.ensures;
      all = c.in_ok-add_all.ensures;
    }

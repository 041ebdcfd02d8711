use Rattle.std.proofs.Common.{ℕ, ◌≡◌, ◌+◌, Bool, List, Some, length, sym, ap, subst, ◌∙◌, arith}
use Rattle.std.specs.Prelude.{slice_get}
use Rattle.act1_blif.specs.declared.blif.Latch.{Latch}
use Rattle.act1_blif.specs.declared.blif.Node.{Node}
use Rattle.act1_blif.specs.Graph.{first_node}
use Rattle.act1_net.specs.BuildSteps.{AreKeptNodes, node_marks}
use Rattle.act1_net.proofs.KeptNodes.{can_keep, kept_latches, kept_nodes, nodes_marked}
use Rattle.act1_net.proofs.NewNets.{has_levels, is_valid}
use Rattle.act1_net.proofs.build.kept_part.Goals as goal

pub nodes_of-requires-clause-nodes : goal.nodes_of-requires-clause-nodes
nodes_of-requires-clause-nodes c = λ j m node at is.
    let b = c.args.blif.now in
    let p = c.len.ensures in
    let q = c.len-2.ensures in
    let n : c.len.result + c.len-2.result ≡ first_node b = omega arith in
    can_keep b (c.netlists_are_whole.ensures b) c.args.terms.now c.args.places.now c.requires j m node
    (ap (λ (ms : List Bool). slice_get ms j) (sym (nodes_marked b c.args.places.now c.marks-marks.result.now (c.len.result + c.len-2.result) c.marks-marks.ensures n)) ∙ at)
    (ap (λ (ns : List Node). slice_get ns j) (sym c.as_slice-3.ensures) ∙ is)

pub assembled-requires-clause-valid : goal.assembled-requires-clause-valid
assembled-requires-clause-valid c =
    let b = c.args.blif.now in
    let p = c.len.ensures in
    let q = c.len-2.ensures in
    let n : c.len.result + c.len-2.result ≡ first_node b = omega arith in
    is_valid b (c.netlists_are_whole.ensures b) c.args.terms.now c.args.places.now c.requires c.in_ok-clock.clock c.in_ok-inputs.inputs c.in_ok-latches.latches c.in_ok-nodes.nodes
    c.in_ok-clock.ensures (c.in_ok-inputs.ensures ∙ c.as_slice.ensures)
    (kept_latches b c.args.places.now c.marks-marks.result.now c.len-3.result (c.len.result + c.len-2.result) c.as_slice-2.result.now c.in_ok-latches.latches c.marks-marks.ensures c.len-3.ensures n c.as_slice-2.ensures c.in_ok-latches.ensures)
    (kept_nodes b c.args.terms.now c.args.places.now c.marks-marks.result.now (c.len.result + c.len-2.result) c.as_slice-3.result.now c.in_ok-nodes.nodes c.marks-marks.ensures n c.as_slice-3.ensures c.in_ok-nodes.ensures)
    c.in_ok-model.model c.in_ok-model.ensures

pub assembled-requires-clause-acyclic : goal.assembled-requires-clause-acyclic
assembled-requires-clause-acyclic c =
    let b = c.args.blif.now in
    let p = c.len.ensures in
    let q = c.len-2.ensures in
    let n : c.len.result + c.len-2.result ≡ first_node b = omega arith in
    ∣ has_levels b (c.netlists_are_whole.ensures b) c.args.terms.now c.args.places.now c.requires c.in_ok-clock.clock c.in_ok-inputs.inputs c.in_ok-latches.latches c.in_ok-nodes.nodes
    c.in_ok-clock.ensures (c.in_ok-inputs.ensures ∙ c.as_slice.ensures)
    (kept_latches b c.args.places.now c.marks-marks.result.now c.len-3.result (c.len.result + c.len-2.result) c.as_slice-2.result.now c.in_ok-latches.latches c.marks-marks.ensures c.len-3.ensures n c.as_slice-2.ensures c.in_ok-latches.ensures)
    (kept_nodes b c.args.terms.now c.args.places.now c.marks-marks.result.now (c.len.result + c.len-2.result) c.as_slice-3.result.now c.in_ok-nodes.nodes c.marks-marks.ensures n c.as_slice-3.ensures c.in_ok-nodes.ensures) ∣₁

pub returns : goal.returns
returns c =
    let b = c.args.blif.now in
    let p = c.len.ensures in
    let q = c.len-2.ensures in
    let n : c.len.result + c.len-2.result ≡ first_node b = omega arith in
    record {
      clock = c.assembled.ensures.clock ∙ c.in_ok-clock.ensures;
      inputs = c.assembled.ensures.inputs ∙ c.in_ok-inputs.ensures ∙ c.as_slice.ensures;
      latches = c.assembled.ensures.latches
          ∙ kept_latches b c.args.places.now c.marks-marks.result.now c.len-3.result (c.len.result + c.len-2.result) c.as_slice-2.result.now c.in_ok-latches.latches c.marks-marks.ensures c.len-3.ensures n c.as_slice-2.ensures c.in_ok-latches.ensures;
      nodes = subst (λ (nodes : List Node). AreKeptNodes c.args.terms.now c.args.places.now (node_marks b c.args.places.now) b.nodes nodes) (sym c.assembled.ensures.nodes)
          (kept_nodes b c.args.terms.now c.args.places.now c.marks-marks.result.now (c.len.result + c.len-2.result) c.as_slice-3.result.now c.in_ok-nodes.nodes c.marks-marks.ensures n c.as_slice-3.ensures c.in_ok-nodes.ensures);
    }

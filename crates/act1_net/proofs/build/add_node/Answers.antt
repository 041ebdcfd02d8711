use Rattle.std.proofs.Common.{ℕ, ◌≡◌, ◌≤◌, ◌++◌, ◌∷◌, [], List, length, map, sym, subst, ◌∙◌}
use Rattle.std.specs.Prelude.{IsTrue}
use Rattle.act1_base.proofs.ListGets.{on_ok}
use Rattle.act1_logic.specs.Rows.{is_cover}
use Rattle.act1_net.specs.declared.gate.Gate.{Gate}
use Rattle.act1_net.specs.Gates.{term_of}
use Rattle.act1_net.specs.BuildSteps.{AddsNode}
use Rattle.act1_net.proofs.KeptNodes.{node_added}
use Rattle.act1_net.proofs.LeftCovers.{cover_left, few_left}
use Rattle.act1_net.proofs.build.add_node.Goals as goal
use Rattle.act1_net.proofs.FitLists.{length_map}

pub node_of-requires-clause-valid : goal.node_of-requires-clause-valid
node_of-requires-clause-valid c =
    let node = c.args.node.now in
    let terms = c.args.terms.now in
    subst (λ (gate : Gate). IsTrue (is_cover (length gate.inputs) gate.output gate.rows)) (sym c.in_ok-gate.ensures)
    (cover_left (map (term_of terms) node.inputs) node (c.requires.width ∙ sym (length_map (term_of terms) node.inputs)) (c.requires.lean c.if-not-is_kept.false))

pub node_of-requires-clause-few : goal.node_of-requires-clause-few
node_of-requires-clause-few c =
    let node = c.args.node.now in
    let terms = c.args.terms.now in
    subst (λ (gate : Gate). length gate.inputs ≤ 64) (sym c.in_ok-gate.ensures) (few_left (map (term_of terms) node.inputs) node (c.requires.width ∙ sym (length_map (term_of terms) node.inputs)))

pub returns : goal.returns
returns c =
    let node = c.args.node.now in
    let made = c.in_ok-node_of.field-0 in
    on_ok (c.push.new.self ≡ c.args.nodes.now ++ made ∷ []) (AddsNode c.args.terms.now c.args.places.now c.args.is_kept node c.args.nodes.now c.push.new.self) c.push.result
    (λ e. node_added c.args.terms.now c.args.places.now c.args.is_kept node made c.in_ok-gate.gate c.args.nodes.now c.push.new.self c.if-not-is_kept.false e c.in_ok-node_of.ensures c.in_ok-gate.ensures)
    c.push.ensures.ok

use Rattle.std.proofs.Common.{ℕ, ◌≡◌, List, ◌++◌, Option, true, sym, ap, subst, ◌∙◌}
use Rattle.std.proofs.lemmas.Result.{IfOk-weaker}
use Rattle.act1_bliftext.specs.Rules.{are_below}
use Rattle.act1_blifread.specs.Parts.{all_of, node_names}
use Rattle.act1_blifread.specs.NetlistSteps.{ArePlaces}
use Rattle.act1_blifread.proofs.NodeGraphs.{all_below, node_below, graph_is}
use Rattle.act1_blifread.proofs.graph.node_graph.Goals as goal

pub places_of-requires-clause-within : goal.places_of-requires-clause-within
places_of-requires-clause-within c =
    let e : c.as_slice.result.now ≡ all_of node_names c.args.statements.now = c.as_slice.ensures.value ∙ c.in_ok-add_nodes.ensures ∙ ap (λ (ns : List ℕ). ns ++ all_of node_names c.args.statements.now) c.new-outputs.ensures.items in
    subst (λ (ns : List ℕ). are_below c.args.count ns ≡ true) (sym e) (all_below node_names c.args.count c.args.statements.now (node_below c.args.count) c.requires.within)

pub returns : goal.returns
returns c =
    let ss = c.args.statements.now in
    let outputs : c.as_slice.result.now ≡ all_of node_names ss = c.as_slice.ensures.value ∙ c.in_ok-add_nodes.ensures ∙ ap (λ (ns : List ℕ). ns ++ all_of node_names ss) c.new-outputs.ensures.items in
    let known : ArePlaces c.args.count (all_of node_names ss) c.as_slice-2.result.now =
    subst (λ (places : List (Option ℕ)). ArePlaces c.args.count (all_of node_names ss) places) (sym c.as_slice-2.ensures.value)
    (subst (λ (ns : List ℕ). ArePlaces c.args.count ns c.in_ok-places.places.items) outputs c.in_ok-places.ensures) in
    IfOk-weaker c.reads_of.result _ _ (λ graph is. is ∙ graph_is c.args.count (all_of node_names ss) c.as_slice-2.result.now ss known c.requires.within) c.reads_of.ensures

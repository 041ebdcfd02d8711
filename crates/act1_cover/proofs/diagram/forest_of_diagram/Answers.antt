use Rattle.std.proofs.Common.{List, sym, subst, ◌∙◌}
use Rattle.std.specs.Prelude.{IfOk}
use Rattle.act1_dd.specs.declared.refs.Branch.{Branch}
use Rattle.act1_dd.specs.Diagram.{IsRef, size_of}
use Rattle.act1_cover.specs.Forests.{Tree, IsForestOf}
use Rattle.act1_cover.specs.Stores.{IsStore, tree_of}
use Rattle.act1_cover.proofs.DiagramTrees.{is_store, front_store, front_ref, diagram_tree}
use Rattle.act1_cover.proofs.diagram.forest_of_diagram.Goals as goal

pub forest_in-requires-clause-store : goal.forest_in-requires-clause-store
forest_in-requires-clause-store c =
    let forks = c.args.diagrams.now in
    subst IsStore (sym (c.as_slice.ensures ∙ c.in_ok-branches.ensures)) (front_store (size_of c.args.root) forks (is_store forks c.are_reduced.ensures))

pub forest_in-requires-clause-root : goal.forest_in-requires-clause-root
forest_in-requires-clause-root c =
    subst (λ (bs : List Branch). IsRef bs c.args.root) (sym (c.as_slice.ensures ∙ c.in_ok-branches.ensures)) (front_ref c.args.diagrams.now c.args.root c.requires.ref)

pub returns : goal.returns
returns c =
    let forks = c.args.diagrams.now in
    let root = c.args.root in
    subst (λ (t : Tree). IfOk c.forest_in.result (IsForestOf t)) (diagram_tree c.args.cover.now forks root c.are_reduced.ensures c.parts_are_within.ensures c.requires)
    (subst (λ (bs : List Branch). IfOk c.forest_in.result (IsForestOf (tree_of bs root))) (c.as_slice.ensures ∙ c.in_ok-branches.ensures) c.forest_in.ensures)

use Rattle.std.proofs.Common.{List, sym, subst, ◌∙◌}
use Rattle.std.specs.Prelude.{IfOk}
use Rattle.act1_dd.specs.declared.refs.Branch.{Branch}
use Rattle.act1_dd.specs.Diagram.{IsRef}
use Rattle.act1_cover.specs.Forests.{Tree, IsForestOf}
use Rattle.act1_cover.specs.Stores.{IsStore, tree_of}
use Rattle.act1_cover.proofs.chain.forest_of_chain.Goals as goal

pub forest_in-requires-clause-store : goal.forest_in-requires-clause-store
forest_in-requires-clause-store c = subst IsStore (sym (c.as_slice.ensures ∙ c.in_ok-branches.ensures)) c.in_ok-root.ensures.store

pub forest_in-requires-clause-root : goal.forest_in-requires-clause-root
forest_in-requires-clause-root c = subst (λ (bs : List Branch). IsRef bs c.in_ok-root.root) (sym (c.as_slice.ensures ∙ c.in_ok-branches.ensures)) c.in_ok-root.ensures.ref

pub returns : goal.returns
returns c =
    subst (λ (t : Tree). IfOk c.forest_in.result (IsForestOf t)) c.in_ok-root.ensures.drawn
    (subst (λ (bs : List Branch). IfOk c.forest_in.result (IsForestOf (tree_of bs c.in_ok-root.root))) (c.as_slice.ensures ∙ c.in_ok-branches.ensures) c.forest_in.ensures)

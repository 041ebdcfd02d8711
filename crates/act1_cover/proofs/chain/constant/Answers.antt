use Rattle.std.proofs.Common.{[], ap, sym, ◌∙◌}
use Rattle.act1_cover.specs.Forests.{constant}
use Rattle.act1_cover.proofs.StoredTrees.{tree_zero, tree_one}
use Rattle.act1_cover.proofs.chain.constant.Goals as goal

pub returns-then-value-clause-tree : goal.returns-then-value-clause-tree
returns-then-value-clause-tree c = tree_one [] ∙ ap constant (sym c.if-value.true)

pub returns-else-value-clause-tree : goal.returns-else-value-clause-tree
returns-else-value-clause-tree c = tree_zero [] ∙ ap constant (sym c.if-value.false)

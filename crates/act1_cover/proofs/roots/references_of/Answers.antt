use Rattle.std.proofs.Common.{ℕ, suc, List, length, get_or, add-one, ap, sym, subst, ◌∙◌}
use Rattle.std.specs.Prelude.{slice_get}
use Rattle.std.proofs.lemmas.Option.{slice_get-get_or}
use Rattle.act1_cover.specs.declared.forest.Fork.{Fork}
use Rattle.act1_cover.specs.Costs.{AreCounts, counted}
use Rattle.act1_cover.specs.Tilings.{no_fork}
use Rattle.act1_cover.proofs.RootCounts.{references_in, counts_more}
use Rattle.act1_cover.proofs.roots.references_of.Goals as goal

pub loop-fork-preserved : goal.loop-fork-preserved
loop-fork-preserved c =
    let forest = c.args.forest.now in
    let items = c.as_slice-fork-items.result.now in
    let i = c.loop-fork.fork-index in
    let n = length forest.forks in
    let f = get_or items i no_fork in
    let at = ap (λ (fs : List Fork). slice_get fs i) (sym c.as_slice-fork-items.ensures) ∙ slice_get-get_or items i no_fork c.loop-fork-test.true in
    let counts = c.refer-in-loop-fork.ensures ∙ ap (λ (ns : List ℕ). counted ns f.high) c.refer.ensures in
    subst (λ (k : ℕ). AreCounts n (references_in forest k) c.refer-in-loop-fork.new.counts.items) (sym (add-one i))
    (subst (λ (ns : List ℕ). AreCounts n (references_in forest (suc i)) ns) (sym counts) (counts_more forest i f c.loop-fork.counts.items at c.requires c.loop-fork.invariant))

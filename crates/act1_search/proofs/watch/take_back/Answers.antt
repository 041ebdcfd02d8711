use Rattle.std.proofs.Common.{List, ◌++◌, ◌∷◌, [], take, false, Some, ap, sym, subst, ◌∙◌}
use Rattle.act1_channel.specs.declared.problem.Hint.TheVariants.{Step}
use Rattle.act1_channel.specs.declared.trail.Entry.{Entry}
use Rattle.act1_channel.specs.Found.{Found}
use Rattle.act1_search.specs.Propagation.{AreInside}
use Rattle.act1_search.proofs.Levels.{inside_more, inside_cut}
use Rattle.act1_search.proofs.watch.take_back.Goals as goal

pub propagate-requires-clause-inside : goal.propagate-requires-clause-inside
propagate-requires-clause-inside c =
    let e : Entry = record { choice = c.args.choice; truth = false; why = Some (Step c.args.number) } in
    let is = ap (λ (f : Found). f.entries) c.put.ensures ∙ ap (λ (xs : List Entry). xs ++ e ∷ []) (ap (λ (f : Found). f.entries) c.cut.ensures) in
    subst (λ (xs : List Entry). AreInside c.args.problem.now xs) (sym is) (inside_more c.args.problem.now (take c.args.mark c.args.trail.now.entries) e (inside_cut c.args.problem.now c.args.trail.now.entries c.args.mark c.requires.inside) c.requires.choice)

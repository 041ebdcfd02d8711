use Rattle.std.proofs.Common.{ℕ, suc, ◌≡◌, Bool, false, List, [], ◌∷◌, ◌++◌, add-one, ap, sym, subst, ◌∙◌, arith, rules}
use Rattle.act1_cover.specs.declared.tile.Tile.{Tile}
use Rattle.act1_cover.specs.Costs.{IsPass, best_in, marked, refers}
use Rattle.act1_cover.proofs.CostSteps.{best_all}
use Rattle.act1_cover.proofs.RootCounts.{any_default}
use Rattle.act1_cover.proofs.PassSteps.{pass_skips, pass_places}
use Rattle.act1_cover.proofs.least.place.Goals as goal

pub returns-then-not-index : goal.returns-then-not-index
returns-then-not-index c =
    let marks = c.args.marks.now.items in
    let fork = c.args.fork in
    let long = c.requires.pass.count in
    let low = c.requires.fork in
    let unwanted = any_default marks fork false c.index.result.now (omega arith) ∙ sym c.index.ensures ∙ c.if-not-index.true in
    subst (λ (m : ℕ). IsPass c.args.forest.now c.args.table.now m marks c.args.tiles.now) (sym (add-one fork))
    (pass_skips c.args.forest.now c.requires.forest c.args.table.now c.requires.table fork c.requires.fork marks c.args.tiles.now c.requires.pass unwanted)

pub mark_ends-requires-clause-stands : goal.mark_ends-requires-clause-stands
mark_ends-requires-clause-stands c = (best_all c.args.forest.now c.args.table.now c.requires.table c.args.fork c.requires.fork).stands

pub returns : goal.returns
returns c =
    let forest = c.args.forest.now in
    let table = c.args.table.now in
    let marks = c.args.marks.now.items in
    let tiles = c.args.tiles.now in
    let fork = c.args.fork in
    let long = c.requires.pass.count in
    let low = c.requires.fork in
    let wanted = any_default marks fork false c.index.result.now (omega arith) ∙ sym c.index.ensures ∙ c.if-not-index.false in
    let number : c.in-Ok.number ≡ fork = search rules in
    let tiles_are = c.in_ok-push.ensures.ok ∙ ap (λ (n : ℕ). let t : Tile = record { fork = n; shape = (best_in table fork).shape } in tiles ++ t ∷ []) number in
    subst (λ (m : ℕ). IsPass forest table m c.mark_ends.new.marks.items c.push.new.self) (sym (add-one fork))
    (subst (λ (ms : List Bool). IsPass forest table (suc fork) ms c.push.new.self) (sym c.mark_ends.ensures.marked)
    (subst (λ (ts : List Tile). IsPass forest table (suc fork) (marked marks (refers forest (record { fork = fork; shape = (best_in table fork).shape }))) ts) (sym tiles_are)
    (pass_places forest c.requires.forest table c.requires.table fork c.requires.fork marks tiles c.requires.pass wanted)))

use Rattle.std.proofs.Common.{ℕ, ◌≡◌, List, ◌++◌, Option, get_or, take, refl, sym, ap, ◌∙◌}
use Rattle.std.specs.List.{filter_map}
use Rattle.std.specs.Option.{option_to_list}
use Rattle.act1_blifread.specs.NetlistSteps.{place_at}
use Rattle.act1_blifread.proofs.StatementLists.{filter_map_at}
use Rattle.act1_blifread.proofs.graph.places_among.Goals as goal

pub loop-name-preserved : goal.loop-name-preserved
loop-name-preserved c =
    let names = c.args.names.now in
    let i = c.loop-name.name-index in
    let e : get_or names i 0 ≡ get_or names i 0 = refl in
    c.in_ok-add_place.ensures ∙ ap (λ (reads : List ℕ). reads ++ option_to_list c.place_at.result) c.loop-name.invariant
    ∙ ap (λ (o : Option ℕ). filter_map (place_at c.args.places.now) (take i names) ++ option_to_list o) (c.place_at.ensures ∙ ap (place_at c.args.places.now) e)
    ∙ sym (filter_map_at (place_at c.args.places.now) names i 0 c.loop-name-test.true)

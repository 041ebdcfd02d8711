use Rattle.std.proofs.Common.{ℕ, List, ◌≡◌, length, sym, ap, subst, ◌∙◌}
use Rattle.act1_circuit.specs.declared.circuit.Spot.{Spot}
use Rattle.act1_plan.specs.Order.{AreSites}
use Rattle.act1_place.specs.Passes.{Leaves}
use Rattle.act1_place.specs.Start.{start_of, seeded_start, IsPlacement}
use Rattle.act1_place.proofs.Starts.{starts_are_sites_law, placements_settle_law}
use Rattle.act1_place.proofs.placing.place.Goals as goal

pub placed_from-requires-clause-each : goal.placed_from-requires-clause-each
placed_from-requires-clause-each c =
    let dev = c.args.device.now in
    let is : c.as_slice.result.now ≡ seeded_start dev c.args.circuit.now c.args.seed = c.as_slice.ensures.value ∙ c.in_ok-start.ensures ∙ ap (λ (n : ℕ). start_of dev.rows dev.columns n c.args.seed) c.len.ensures in
    ap length is ∙ (starts_are_sites_law dev c.args.circuit.now c.args.seed c.in_ok-find_room.ensures.room.1).1

pub placed_from-requires-clause-sites : goal.placed_from-requires-clause-sites
placed_from-requires-clause-sites c =
    let dev = c.args.device.now in
    let is : c.as_slice.result.now ≡ seeded_start dev c.args.circuit.now c.args.seed = c.as_slice.ensures.value ∙ c.in_ok-start.ensures ∙ ap (λ (n : ℕ). start_of dev.rows dev.columns n c.args.seed) c.len.ensures in
    subst (AreSites dev) (sym is) (starts_are_sites_law dev c.args.circuit.now c.args.seed c.in_ok-find_room.ensures.room.1).0

pub returns : goal.returns
returns c =
    let dev = c.args.device.now in
    let circuit = c.args.circuit.now in
    let room = c.in_ok-find_room.ensures.room in
    let spots = c.in_ok-placed_from.field-0.spots in
    let is : c.as_slice.result.now ≡ seeded_start dev circuit c.args.seed = c.as_slice.ensures.value ∙ c.in_ok-start.ensures ∙ ap (λ (n : ℕ). start_of dev.rows dev.columns n c.args.seed) c.len.ensures in
    let placement : IsPlacement dev circuit c.args.seed spots = subst (λ (start : List Spot). Leaves dev circuit start spots) is c.in_ok-placed_from.ensures in
    record { pads = room.0; sites = room.1; placement = placement; settled = placements_settle_law dev circuit c.args.seed spots room.1 placement }

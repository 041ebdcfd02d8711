-- The channels of a plan on a wide device have an unbroken track for each connection.
use Rattle.std.proofs.Common.{ℕ, ◌≡◌, ◌+◌, ◌≤◌, List, [], length, map, sym, ap, subst, ◌∙◌, arith, slice_get}
use Rattle.std.specs.Prelude.{filter, count_by, Result, Ok, Err}
use Rattle.std.proofs.lemmas.List.{length-map}
use Rattle.std.proofs.lemmas.List.Sums.{length-filter, count_by-le-length}
use Rattle.act1_blif.specs.Need.{need}
use Rattle.act1_device.specs.declared.device.Device.{Device}
use Rattle.act1_device.specs.Sites.{tracks_of}
use Rattle.act1_plan.specs.declared.plan.Plan.{Plan}
use Rattle.act1_groute.specs.declared.wiring.Wiring.{Wiring}
use Rattle.act1_groute.specs.Nets.{nets, channels}
use Rattle.act1_groute.specs.declared.net.Take.{Take}
use Rattle.act1_groute.specs.Routes.{Demand, demands, and_on, take_all, wirings, routes, interval, wiring_of, lines_in, has_connection}
use Rattle.act1_groute.proofs.WiringFacts.{all_wirings, wirings_at}
use Rattle.act1_ample.specs.Ample.{is_unbroken, count_unbroken, count_spanning, IsWideFor}
use Rattle.act1_ample.specs.Laws.{ChannelsAreWide, WidePlansRoute, AmplePlansRoute}
use Rattle.act1_ample.proofs.SpanningRoutes.{how_many_nets, routes_are_there}

-- what was taken where the rule doesn't fail
taken : (dev : Device) (plan : Plan) (chans : List (List Wiring)) → routes dev plan ≡ Ok chans → (takes : List Take) × (chans ≡ all_wirings dev plan takes)
taken dev plan chans e = from (take_all dev plan [] (demands dev plan)) e
  where
    ok_is : (x y : List (List Wiring)) → (let r : Result (List (List Wiring)) Demand = Ok x in r) ≡ Ok y → x ≡ y
    ok_is x y e = cc

    from : (r : Result (List Take) Demand) → and_on r (λ takes. Ok (map (wirings dev plan takes) (channels dev))) ≡ Ok chans → (takes : List Take) × (chans ≡ all_wirings dev plan takes)
    from (Ok takes) q = (takes, sym (ok_is (map (wirings dev plan takes) (channels dev)) chans q))
    from (Err d) q = cc

pub channels_are_wide : ChannelsAreWide
channels_are_wide dev plan chans h ws p wide e at is =
    let t = taken dev plan chans e in
    let r = wirings_at dev plan t.0 h ws (ap (λ (c : List (List Wiring)). slice_get c h) (sym t.1) ∙ at) in
    let listed = filter (λ net. has_connection dev plan t.0 net h) (nets plan) in
    let few : length listed ≤ length (nets plan) = omega (arith, length-filter (λ net. has_connection dev plan t.0 net h) (nets plan), count_by-le-length (λ net. has_connection dev plan t.0 net h) (nets plan)) in
    let count : length p.connections ≡ length listed = ap length is.connections ∙ length-map ws interval ∙ ap length r.1 ∙ length-map listed (λ net. wiring_of dev net (lines_in dev plan t.0 net h)) in
    let tracks = subst (λ (ts : List (List ℕ)). length (nets plan) ≤ count_by is_unbroken ts) (sym is.tracks) (wide.tracks h r.0) in
    omega (arith, few, count, tracks)

pub wide_plans_route : WidePlansRoute
wide_plans_route dev plan count legal wide few =
    let tracks = λ (h : ℕ) (low : h ≤ dev.rows). let most = wide.tracks h low in most_of count (length (nets plan)) (count_unbroken (tracks_of dev h)) few most in
    let own : IsWideFor dev (length (nets plan)) = record { longs = most_of count (length (nets plan)) (count_spanning dev) few wide.longs; tracks = tracks } in
    let r = routes_are_there dev plan legal own in
    record { channels = r.0; routed = r.1; wide = λ h ws p at is. channels_are_wide dev plan r.0 h ws p own r.1 at is }
  where
    most_of : (a b n : ℕ) → b ≤ a → a ≤ n → b ≤ n
    most_of a b n h k = omega arith

pub ample_plans_route : AmplePlansRoute
ample_plans_route dev net plan ample legal inputs modules =
    wide_plans_route dev plan (length net.inputs + need net) legal ample.wide (omega (arith, how_many_nets plan, inputs, modules))

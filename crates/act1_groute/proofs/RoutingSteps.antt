-- From what the nets take to the routes of a plan.
use Rattle.std.proofs.Common.{ℕ, zero, suc, ◌≡◌, ◌+◌, ◌||◌, Bool, true, false, cond, List, [], ◌∷◌, ◌++◌, length, map, refl, sym, ap, subst, ◌∙◌, arith}
use Rattle.std.specs.Prelude.{filter, flat_map, All, Result, Ok, Err}
use Rattle.std.specs.List.{list_any}
use Rattle.std.proofs.lemmas.List.{length-map, map_push}
use Rattle.act1_device.specs.declared.device.Device.{Device}
use Rattle.act1_circuit.specs.declared.circuit.Source.{Source}
use Rattle.act1_plan.specs.declared.plan.Plan.{Plan}
use Rattle.act1_base.specs.Lists.{numbers}
use Rattle.act1_plan.proofs.OrderLoops.{numbers_more}
use Rattle.act1_groute.specs.declared.net.Net.{Net}
use Rattle.act1_groute.specs.declared.wiring.Wiring.{Wiring}
use Rattle.act1_groute.specs.Nets.{Sink, is_same_source, nets, sinks, channels}
use Rattle.act1_groute.specs.Routes.{Demand, Take, own, and_on, take_all, lines_in, has_connection, wiring_of, wirings, routes}
use Rattle.act1_groute.specs.RouteSteps.{IsWith, is_in, net_with, demands_of, demands_by, is_at_home, source_lines, lines_with, connects, wirings_with, channels_with}
use Rattle.act1_groute.proofs.TakeSteps.{any_filter, filter_filter}

-- one channel more
pub channel_more : (dev : Device) (plan : Plan) (ns : List Net) (owns : List (List Take)) (n : ℕ) (found more : List (List Wiring)) (ws : List Wiring) → found ≡ map (λ h. wirings_with dev plan h ns owns) (numbers 0 n) → ws ≡ wirings_with dev plan n ns owns
    → more ≡ found ++ ws ∷ [] → more ≡ map (λ h. wirings_with dev plan h ns owns) (numbers 0 (n + 1))
channel_more dev plan ns owns n found more ws e is grown =
    let f : ℕ → List Wiring = λ h. wirings_with dev plan h ns owns in
    grown ∙ (λ i. e i ++ is i ∷ []) ∙ sym (ap (map f) (numbers_more n) ∙ map_push f (numbers 0 n) n)

pub as_many : (ns : List Net) (takes : List Take) (owns : List (List Take)) → owns ≡ map (λ (n : Net). own n.source takes) ns → length ns ≡ length owns
as_many ns takes owns e = sym (length-map ns (λ (n : Net). own n.source takes)) ∙ sym (ap length e)

module _ (dev : Device) (plan : Plan) where
  pub all_with : (ns : List Net) → ns ≡ map (net_with (sinks dev plan)) (nets plan) → All (IsWith dev plan) ns
  all_with ns e = subst (All (IsWith dev plan)) (sym e) (each (nets plan))
    where
      each : (nets : List Source) → All (IsWith dev plan) (map (net_with (sinks dev plan)) nets)
      each [] k d low = absurd (omega arith)
      each (n ∷ nets) zero d low = refl
      each (n ∷ nets) (suc k) d low = each nets k d (omega arith)

  -- the demands are those of the nets
  demands_are : (nets : List Source) → demands_by dev plan (map (net_with (sinks dev plan)) nets) ≡ flat_map (λ net. demands_of dev plan net) nets
  demands_are [] = refl
  demands_are (n ∷ nets) = ap (λ (ds : List Demand). demands_of dev plan n ++ ds) (demands_are nets)

  module _ (takes : List Take) (h : ℕ) where
    connects_is : (net : Source) → connects (net_with (sinks dev plan) net) (own net takes) h ≡ has_connection dev plan takes net h
    connects_is net = ap (λ (b : Bool). b || list_any (is_at_home h) (own net takes)) (any_filter (λ (s : Sink). is_same_source s.source net) (is_in h) (sinks dev plan))

    lines_are : (net : Source) → lines_with dev plan (net_with (sinks dev plan) net) (own net takes) h ≡ lines_in dev plan takes net h
    lines_are net = ap (λ (ss : List Sink). map (λ (s : Sink). s.line) ss ++ source_lines dev plan net (own net takes) h) (filter_filter (λ (s : Sink). is_same_source s.source net) (is_in h) (sinks dev plan))

    wirings_are : (nets : List Source)
        → wirings_with dev plan h (map (net_with (sinks dev plan)) nets) (map (λ (n : Net). own n.source takes) (map (net_with (sinks dev plan)) nets)) ≡ map (λ net. wiring_of dev net (lines_in dev plan takes net h)) (filter (λ net. has_connection dev plan takes net h) nets)
    wirings_are [] = refl
    wirings_are (n ∷ nets) =
        (λ i. cond (connects_is n i) (wiring_of dev n (lines_are n i) ∷ []) [] ++ wirings_are nets i)
        ∙ from (has_connection dev plan takes n h)
      where
        from : (b : Bool) → cond b (wiring_of dev n (lines_in dev plan takes n h) ∷ []) [] ++ map (λ net. wiring_of dev net (lines_in dev plan takes net h)) (filter (λ net. has_connection dev plan takes net h) nets)
            ≡ map (λ net. wiring_of dev net (lines_in dev plan takes net h)) (cond b (n ∷ filter (λ net. has_connection dev plan takes net h) nets) (filter (λ net. has_connection dev plan takes net h) nets))
        from true = refl
        from false = refl

  map_same : {X Y : Type 0} (f g : X → Y) (xs : List X) → ((x : X) → f x ≡ g x) → map f xs ≡ map g xs
  map_same f g [] e = refl
  map_same f g (x ∷ xs) e = λ i. e x i ∷ map_same f g xs e i

  pub are_routes : (ns : List Net) (takes : List Take) (owns : List (List Take)) (found : List (List Wiring)) → ns ≡ map (net_with (sinks dev plan)) (nets plan) → take_all dev plan [] (demands_by dev plan ns) ≡ Ok takes
      → owns ≡ map (λ (n : Net). own n.source takes) ns → found ≡ channels_with dev plan ns owns → routes dev plan ≡ Ok found
  are_routes ns takes owns found e taken are is =
      ap (λ (r : Result (List Take) Demand). and_on r (λ takes. Ok (map (wirings dev plan takes) (channels dev)))) (sym (ap (take_all dev plan []) (ap (demands_by dev plan) e ∙ demands_are (nets plan))) ∙ taken)
      ∙ ap (λ (ws : List (List Wiring)). Ok ws) (sym (is ∙ ap (channels_with dev plan ns) are ∙ ap (λ (ms : List Net). channels_with dev plan ms (map (λ (n : Net). own n.source takes) ms)) e
      ∙ map_same (λ h. wirings_with dev plan h (map (net_with (sinks dev plan)) (nets plan)) (map (λ (n : Net). own n.source takes) (map (net_with (sinks dev plan)) (nets plan)))) (wirings dev plan takes) (channels dev) (λ h. wirings_are takes h (nets plan))))

  pub no_routes : (ns : List Net) (d : Demand) → ns ≡ map (net_with (sinks dev plan)) (nets plan) → take_all dev plan [] (demands_by dev plan ns) ≡ Err d → routes dev plan ≡ Err d
  no_routes ns d e failed =
      ap (λ (r : Result (List Take) Demand). and_on r (λ takes. Ok (map (wirings dev plan takes) (channels dev)))) (sym (ap (take_all dev plan []) (ap (demands_by dev plan) e ∙ demands_are (nets plan))) ∙ failed)

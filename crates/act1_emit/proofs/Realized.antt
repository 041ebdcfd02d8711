-- The law of emission.
use Rattle.std.proofs.Common.{◌≡◌, List, [], map, refl, sym, subst}
use Rattle.std.specs.Prelude.{Result, Ok, Err}
use Rattle.act1_device.specs.declared.device.Device.{Device}
use Rattle.act1_plan.specs.declared.plan.Plan.{Plan}
use Rattle.act1_groute.specs.declared.wiring.Wiring.{Wiring}
use Rattle.act1_groute.specs.Nets.{channels}
use Rattle.act1_groute.specs.declared.net.Take.{Take}
use Rattle.act1_groute.specs.Routes.{Demand, demands, and_on, take_all, wirings, routes}
use Rattle.act1_groute.specs.Emitted.{AreAssigned}
use Rattle.act1_groute.proofs.RouteFacts.{all_served}
use Rattle.act1_groute.proofs.WiringFacts.{all_wirings}
use Rattle.act1_emit.specs.File.{IsFileOf, FilesRealize}
use Rattle.act1_emit.proofs.Arrays.{sound, is_circuit}
use Rattle.act1_emit.proofs.KeptRules.{keeps}

-- what was taken where the rule doesn't fail
pub taken : (dev : Device) (plan : Plan) (chans : List (List Wiring)) → routes dev plan ≡ Ok chans → (takes : List Take) × (take_all dev plan [] (demands dev plan) ≡ Ok takes) × (chans ≡ all_wirings dev plan takes)
taken dev plan chans e = from (take_all dev plan [] (demands dev plan)) refl e
  where
    ok_is : (x y : List (List Wiring)) → (let r : Result (List (List Wiring)) Demand = Ok x in r) ≡ Ok y → x ≡ y
    ok_is x y e = cc

    from : (r : Result (List Take) Demand) → take_all dev plan [] (demands dev plan) ≡ r → and_on r (λ takes. Ok (map (wirings dev plan takes) (channels dev))) ≡ Ok chans
        → (takes : List Take) × (take_all dev plan [] (demands dev plan) ≡ Ok takes) × (chans ≡ all_wirings dev plan takes)
    from (Ok takes) k q = (takes, k, sym (ok_is (map (wirings dev plan takes) (channels dev)) chans q))
    from (Err d) k q = cc

pub realized : FilesRealize
realized dev plan chans tracks f has file =
    let t = taken dev plan chans has.routed in
    let all = all_served dev plan has.legal t.0 t.1 in
    let assigned = subst (λ (c : List (List Wiring)). AreAssigned dev plan.k c tracks) t.2 has.assigned in
    let same = subst (λ (c : List (List Wiring)). IsFileOf dev plan c tracks f) t.2 file in
    record {
      file = file;
      rules = keeps dev plan has.legal t.0 all.routed tracks assigned f same;
      sound = sound dev plan has.legal has.drive t.0 all.routed all.served tracks assigned f same;
      circuit = is_circuit dev plan has.legal has.drive t.0 all.routed all.served tracks assigned f same;
    }

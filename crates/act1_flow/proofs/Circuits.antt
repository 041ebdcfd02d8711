-- The circuit of a netlist, and its plan.
use Rattle.std.proofs.Common.{ℕ, ◌≡◌, ◌≤◌, min, length, inl, sym, ap, subst, ◌∙◌, arith}
use Rattle.std.proofs.lemmas.List.{length-map}
use Rattle.act1_blif.specs.declared.blif.Blif.{Blif}
use Rattle.act1_blif.specs.Names.{signal_name}
use Rattle.act1_map.specs.Laws.{NetMeansNetlist}
use Rattle.act1_map.specs.Map.{IsMapOf}
use Rattle.act1_circuit.specs.declared.circuit.Circuit.{Circuit}
use Rattle.act1_circuit.specs.declared.circuit.Output.{Output}
use Rattle.act1_device.specs.declared.device.Device.{Device}
use Rattle.act1_meaning.specs.Meaning.{Means}
use Rattle.act1_plan.specs.declared.plan.Plan.{Plan}
use Rattle.act1_place.specs.Place as room
use Rattle.act1_planned.specs.Placed.{IsPlacedAt, MayBePlanned}
use Rattle.act1_flow.specs.declared.answer.FlowStop.{FlowStop}
use Rattle.act1_flow.specs.declared.answer.FlowStop.TheVariants as stop
use Rattle.act1_flow.specs.declared.answer.Settings.{Settings}
use Rattle.act1_flow.specs.declared.mapping.Counted.{Counted}
use Rattle.act1_flow.specs.Flow.{pads_needed, HasPads}
use Rattle.act1_flow.specs.Realizes.{IsFew, IsPlanFor}
use Rattle.act1_flow.proofs.Clear.{no_clash}
use Rattle.act1_flow.specs.Steps.{IsCounted, IsCircuitFor, IsPlanned, IsPlanStop, OnFull, OnPlaceStop, PlanLaws}

-- the circuit of the net that is mapped is one of the netlist
pub circuit_is : NetMeansNetlist → (b : Blif) (counted : Counted) (c : Circuit) → IsCounted b counted → IsMapOf counted.net c → IsCircuitFor b c
circuit_is law b counted c h is = record {
  form = is.form;
  means = means;
  few = record { least = h.few.least; is = h.few.is; few = le (is.few counted.count h.least) h.few.few; needed = h.few.needed };
  read = is.read;
  clear = no_clash b h.kept counted.net c h.is h.own means is.means.ports is.own;
}
  where
    means : Means c b
    means = law b h.kept counted.net c h.is is.means

    le : {a b c : ℕ} → a ≤ b → b ≤ c → a ≤ c
    le h k = omega arith

-- the circuit has as many inputs and outputs as the netlist
pub same_pads : (b : Blif) (c : Circuit) → Means c b → room.pads_needed c ≡ pads_needed b
same_pads b c means =
    let inputs : length c.inputs ≡ length b.inputs = ap length means.ports.inputs in
    let outputs : length c.outputs ≡ length b.outputs = sym (length-map c.outputs (λ (o : Output). o.name)) ∙ ap length means.ports.outputs ∙ length-map b.outputs (signal_name b) in
    omega arith

module _ (laws : PlanLaws) (dev : Device) (b : Blif) (settings : Settings) (low : 1 ≤ settings.k) (high : settings.k ≤ 64) (c : Circuit) (is : IsCircuitFor b c) (plan : Plan) (planned : IsPlanned dev c settings plan) where
  at_spots : IsPlacedAt c planned.spots plan.placed
  at_spots = record { each = planned.settled.one_each; apart = planned.settled.sites.apart; order = planned.is.order }

  may : MayBePlanned dev c planned.spots settings.k
  may = record {
    low = low;
    high = high;
    range = is.means.in_range;
    named = laws.named c b is.means.ports;
    outputs = is.form.outputs;
    pads = planned.pads;
    each = planned.settled.one_each;
    sites = planned.settled.sites;
  }

  pub plan_is : IsPlanFor dev b settings plan
  plan_is = record {
    legal = laws.legal dev c planned.spots settings.k plan may planned.is;
    k_is = planned.is.k_is;
    form = laws.form c planned.spots plan.placed is.means.in_range at_spots is.form;
    means = laws.means c b planned.spots plan.placed at_spots is.means;
    few = subst (IsFew b) (sym planned.is.order.modules_count) is.few;
    read = laws.sources c planned.spots plan.placed is.means.in_range at_spots is.read;
    clear = laws.clear c planned.spots plan.placed is.means.in_range at_spots is.clear;
    placed = record { circuit = c; spots = planned.spots; range = is.means.in_range; sites = planned.sites; placement = planned.placement; order = planned.is.order };
    stable = (laws.sums dev c planned.spots plan.placed is.means.in_range at_spots).1 planned.settled.stable;
  }

-- the stops of the circuit and of its placement are those of the flow
pub full_stops : (dev : Device) (b : Blif) (settings : Settings) (why : FlowStop) → HasPads dev b → OnFull dev b why → IsPlanStop dev b settings why
full_stops dev b settings (stop.Pads needed have) pads h = absurd h
full_stops dev b settings (stop.Full needed have) pads h = λ helping. (pads, h)
full_stops dev b settings (stop.Vertical net channel plan) pads h = absurd h
full_stops dev b settings (stop.Refuted report connections tally) pads h = absurd h
full_stops dev b settings (stop.Spent plan channel conflicts tracks connections tally) pads h = absurd h
full_stops dev b settings stop.Memory pads h = λ helping. h

-- a count of 16 bits is that of 32 bits
min_is : (n : ℕ) → n ≤ 65535 → n ≡ min n 4294967295
min_is n h = omega arith

pub place_stops : (dev : Device) (b : Blif) (settings : Settings) (c : Circuit) → IsCircuitFor b c → (why : FlowStop) → HasPads dev b → OnPlaceStop dev c why → IsPlanStop dev b settings why
place_stops dev b settings c is (stop.Pads needed have) pads h =
    let same = same_pads b c is.means in
    let needed_is = h.0 in
    let have_is = h.1 in
    let less = h.2 in
    absurd (omega arith)
place_stops dev b settings c is (stop.Full needed have) pads h = λ helping.
    (pads, record { count = needed; few = subst (IsFew b) (sym h.1) is.few; of = inl (c, is.means, h.1); needed_is = min_is needed (subst (λ (n : ℕ). n ≤ 65535) (sym h.1) is.means.in_range.few_modules); have_is = h.2; more = h.3 })
place_stops dev b settings c is (stop.Vertical net channel plan) pads h = absurd h
place_stops dev b settings c is (stop.Refuted report connections tally) pads h = absurd h
place_stops dev b settings c is (stop.Spent plan channel conflicts tracks connections tally) pads h = absurd h
place_stops dev b settings c is stop.Memory pads h = λ helping. h

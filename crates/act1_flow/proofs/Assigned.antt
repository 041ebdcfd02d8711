-- The channels of a plan, and its antifuse file.
use Rattle.std.proofs.Common.{ℕ, zero, suc, ◌≡◌, ◌⊎◌, ◌<◌, ◌≤◌, ◌+◌, IsTrue, List, [], ◌∷◌, ◌++◌, length, map, Some, inl, inr, sym, ap, subst, ◌∙◌, refl, arith, slice_get}
use Rattle.std.specs.Prelude.{Result, Ok, Err}
use Rattle.std.proofs.Math.Logic.{∥∥₁_elim}
use mathlib.Core.Bool.{Bool-set}
use Rattle.std.proofs.lemmas.List.{length-map}
use Rattle.act1_base.proofs.ListGets.{one_at}
use Rattle.act1_outside.specs.Outside.{Bench}
use Rattle.act1_outside.specs.declared.helpers.Entry.{Entry}
use Rattle.act1_blif.specs.declared.blif.Blif.{Blif}
use Rattle.act1_map.specs.Read.{IsSource}
use Rattle.act1_channel.specs.declared.problem.Problem.{Problem}
use Rattle.act1_search.specs.Exact.{AssignmentsFit}
use Rattle.act1_search.specs.declared.verdict.Verdict.{Verdict}
use Rattle.act1_search.specs.declared.verdict.Verdict.TheVariants.{Assigned, Refuted}
use Rattle.act1_farm.specs.Usable.{Decides}
use Rattle.act1_farm.specs.Verdicts.{WereAsked}
use Rattle.act1_circuit.specs.declared.circuit.Circuit.{Circuit}
use Rattle.act1_device.specs.declared.device.Device.{Device}
use Rattle.act1_plan.specs.declared.plan.Plan.{Plan}
use Rattle.act1_groute.specs.Emitted.{AreAssigned, Emitted}
use Rattle.act1_groute.specs.Nets.{channels as all_channels}
use Rattle.act1_groute.specs.declared.net.Take.{Take}
use Rattle.act1_groute.specs.Routes.{Demand, routes, demands, take_all, and_on, wirings, IsProblemOf}
use Rattle.act1_base.specs.Lists.{numbers}
use Rattle.act1_groute.specs.declared.wiring.Wiring.{Wiring}
use Rattle.act1_emit.specs.Drivers.{is_driver}
use Rattle.act1_emit.specs.File.{HasTracks}
use Rattle.act1_emit.proofs.Drivers.{is_driver_by}
use Rattle.act1_flow.specs.declared.answer.FlowStop.{FlowStop}
use Rattle.act1_flow.specs.declared.answer.FlowStop.TheVariants as stop
use Rattle.act1_flow.specs.declared.answer.Routed.{Routed}
use Rattle.act1_flow.specs.declared.answer.Settings.{Settings}
use Rattle.act1_flow.specs.declared.assigning.ChannelStop.{ChannelStop}
use Rattle.act1_flow.specs.declared.assigning.ChannelStop.TheVariants as channel_stop
use Rattle.act1_flow.specs.declared.assigning.Tracked.{Tracked}
use Rattle.act1_flow.specs.Flow.{AreAssignedTo, FlowCalls, FlowGives, HasPads, IsAsking, IsDecided, IsHelpedTo, IsProblemAt, IsRoutedFor, WereAskedFor}
use Rattle.act1_flow.specs.Helping.{Helping, helping_of}
use Rattle.act1_flow.specs.Realizes.{IsEmission, IsPlanFor, Realizes, plan_with}
use Rattle.act1_flow.specs.Steps.{ChannelCalls, ChannelsWereAsked, IsChannelStop, IsPlanStop, IsProgrammed, IsTracked, OnVertical, flow_stop}
use Rattle.act1_flow.proofs.Reports.{is_checked}

-- how a channel is decided decides its problem
pub decides_by : AssignmentsFit → (problems : List Problem) (s : List Entry) (budget c : ℕ) (p : Problem) (v : Verdict) → IsDecided problems s budget c p (Ok v) → Decides p v
decides_by fit problems s budget c p v (inl brought) = brought.brings.0
decides_by fit problems s budget c p (Assigned tracks) (inr (none, answer)) = fit p answer.0 tracks answer.1
decides_by fit problems s budget c p (Refuted log) (inr (none, answer)) = answer.2

-- the stops of routes are those of the flow
pub vertical_stops : (dev : Device) (b : Blif) (settings : Settings) (plan : Plan) → IsPlanFor dev b settings plan → (why : FlowStop) → HasPads dev b → OnVertical dev plan why → IsPlanStop dev b settings why
vertical_stops dev b settings plan is (stop.Pads needed have) pads h = absurd h
vertical_stops dev b settings plan is (stop.Full needed have) pads h = absurd h
vertical_stops dev b settings plan is (stop.Vertical net channel same) pads h = λ helping. (pads, record { plan_is = subst (IsPlanFor dev b settings) (sym h.0) is; failed = ap (routes dev) h.0 ∙ h.1 })
vertical_stops dev b settings plan is (stop.Refuted report connections tally) pads h = absurd h
vertical_stops dev b settings plan is (stop.Spent same channel conflicts tracks connections tally) pads h = absurd h
vertical_stops dev b settings plan is stop.Memory pads h = λ helping. h

-- so are those of the channels
pub channel_stops : AssignmentsFit → (dev : Device) (b : Blif) (settings : Settings) (helping : Helping) (plan : Plan) → IsPlanFor dev b settings plan → HasPads dev b
    → (why : ChannelStop) → IsChannelStop dev plan settings helping why → FlowGives dev b settings helping (Err (flow_stop plan why))
channel_stops fit dev b settings helping plan is pads (channel_stop.Refuted channel connections log tally) (p, first, count) =
    let asking = first.asking in
    let at = asking.are.each channel p first.at in (
      pads,
      p,
      record { plan_is = is; asking = asking; before = first.before; at = first.at; is = first.is },
      count,
      is_checked dev (record { plan = plan; channel = channel; log = log }) (
        p,
        record { wirings = at.wirings; has = record { legal = is.legal; channels = asking.channels; routed = asking.routed; at = at.at }; is = at.is },
        decides_by fit asking.problems asking.story settings.budget channel p (Refuted log) first.is,
      ),
    )
channel_stops fit dev b settings helping plan is pads (channel_stop.Spent channel conflicts tracks connections tally) (p, first, tracks_are, count) =
    (pads, p, record { plan_is = is; asking = first.asking; before = first.before; at = first.at; is = first.is }, tracks_are, count)
channel_stops fit dev b settings helping plan is pads channel_stop.Memory h = tt

-- each module is the source of some pin or output
pub all_drive : (c : Circuit) → ((m : ℕ) → m < length c.modules → ∥ IsSource c m ∥₁) → (m : ℕ) → m < length c.modules → IsTrue (is_driver c m)
all_drive c each m low = ∥∥₁_elim (each m low) (hlevel Bool-set) (is_driver_by c m)

numbers_long : (first count : ℕ) → length (numbers first count) ≡ count
numbers_long first zero = refl
numbers_long first (suc count) = ap suc (numbers_long (first + 1) count)

-- a routed plan has connections for each channel
ok_is : {A B : Type 0} (x y : A) → (let r : Result A B = Ok x in r) ≡ Ok y → x ≡ y
ok_is x y e = cc

pub routed_channels : (dev : Device) (plan : Plan) (channels : List (List Wiring)) → routes dev plan ≡ Ok channels → length channels ≡ dev.rows + 1
routed_channels dev plan channels e = by (take_all dev plan [] (demands dev plan)) e
  where
    by : (r : Result (List Take) Demand) → and_on r (λ takes. Ok (map (wirings dev plan takes) (all_channels dev))) ≡ Ok channels → length channels ≡ dev.rows + 1
    by (Ok takes) e = let same = ok_is (map (wirings dev plan takes) (all_channels dev)) channels e in sym (ap length same) ∙ length-map (all_channels dev) (wirings dev plan takes) ∙ numbers_long 0 (dev.rows + 1)
    by (Err d) e = cc

-- the tracks by which all channels are decided assign their problems
pub are_assigned : AssignmentsFit → (dev : Device) (plan : Plan) (settings : Settings) (helping : Helping) (t : Tracked) (is : IsTracked dev plan settings helping t) → AreAssigned dev plan.k is.asking.channels t.tracks
are_assigned fit dev plan settings helping t is = record {
  count = is.decided.long ∙ sym (routed_channels dev plan asking.channels asking.routed);
  each = λ h ws assigned there given.
      let e = is.decided.each h assigned given in
      let at = asking.are.each h e.0 e.1 in
      let same = one_at asking.channels h at.wirings ws at.at there in
      record { problem = e.0; is = subst (λ (w : List Wiring). IsProblem w e.0 h) same at.is; assigns = decides_by fit asking.problems asking.story settings.budget h e.0 (Assigned assigned) e.2 };
}
  where
    asking : IsAsking dev plan settings helping t.tally
    asking = is.asking

    IsProblem : List Wiring → Problem → ℕ → Type 0
    IsProblem w p h = IsProblemOf dev plan.k h w p

-- a plan that is routed, with an assignment for each channel, has tracks
pub has_tracks : AssignmentsFit → (dev : Device) (b : Blif) (settings : Settings) (helping : Helping) (plan : Plan) (channels : List (List Wiring)) (t : Tracked) → IsPlanFor dev b settings plan → routes dev plan ≡ Ok channels
    → IsTracked dev plan settings helping t → HasTracks dev plan channels t.tracks
has_tracks fit dev b settings helping plan channels t is routed tracked = record {
  legal = is.legal;
  drive = all_drive plan.placed.circuit is.read;
  routed = routed;
  assigned = subst (λ (chans : List (List Wiring)). AreAssigned dev plan.k chans t.tracks) (ok_is tracked.asking.channels channels (sym tracked.asking.routed ∙ routed)) (are_assigned fit dev plan settings helping t tracked);
}

-- the file of such a plan is what the flow gives
pub routed_for : (dev : Device) (b : Blif) (settings : Settings) (helping : Helping) (plan : Plan) (channels : List (List Wiring)) (t : Tracked) (r : Routed) → HasPads dev b → IsPlanFor dev b settings plan → routes dev plan ≡ Ok channels
    → IsTracked dev plan settings helping t → IsProgrammed dev plan channels t.tracks r → r.tally ≡ t.tally → IsRoutedFor dev b settings helping r
routed_for dev b settings helping plan channels t r pads is routed tracked made tally = record { pads = pads; realizes = realizes; helped = helped }
  where
    is_plan_with : (plan : Plan) → plan.device ≡ dev.name → plan.k ≡ settings.k → plan ≡ plan_with dev settings plan.placed
    is_plan_with plan d k = by plan.device dev.name plan.k settings.k d k
      where
        by : (a b : List ℕ) (m n : ℕ) → a ≡ b → m ≡ n → let p : Plan = record { device = a; k = m; placed = plan.placed } in let q : Plan = record { device = b; k = n; placed = plan.placed } in p ≡ q
        by a b m n e f = cc

    same : plan ≡ plan_with dev settings plan.placed
    same = is_plan_with plan is.legal.device is.k_is

    realizes : Realizes dev b settings r.fuses r.modules
    realizes = record {
      keeps = made.realizes.rules;
      sound = made.realizes.sound;
      array = plan.placed;
      is = made.realizes.circuit;
      plan = subst (IsPlanFor dev b settings) same is;
      emission = subst (λ (p : Plan). IsEmission dev p r.fuses.sites) same
          (record { channels = channels; tracks = t.tracks; routed = made.tracked.routed; assigned = made.tracked.assigned; emitted = made.realizes.file.sites });
      count = made.count;
    }

    here : IsHelpedTo dev plan settings helping r.tally r.fuses.sites
    here = record {
      asking = asking;
      tracks = t.tracks;
      decided = decided;
      emitted = subst (λ (chans : List (List Wiring)). Emitted dev plan chans t.tracks r.fuses.sites) (ok_is channels tracked.asking.channels (sym routed ∙ tracked.asking.routed)) made.realizes.file.sites;
    }
      where
        asking : IsAsking dev plan settings helping r.tally
        asking = record { channels = tracked.asking.channels; routed = tracked.asking.routed; problems = tracked.asking.problems; are = tracked.asking.are; story = tracked.asking.story; asked = subst (WereAsked helping.program tracked.asking.problems settings.budget settings.jobs helping.before helping.after tracked.asking.story) (sym tally) tracked.asking.asked }

        decided : AreAssignedTo tracked.asking.problems tracked.asking.story settings.budget (dev.rows + 1) t.tracks
        decided = tracked.decided

    helped : IsHelpedTo dev (plan_with dev settings plan.placed) settings helping r.tally r.fuses.sites
    helped = subst (λ (p : Plan). IsHelpedTo dev p settings helping r.tally r.fuses.sites) same here

-- what was called for the channels of a plan of the netlist was called for the netlist
pub flow_calls : (dev : Device) (b : Blif) (settings : Settings) (helping : Helping) (plan : Plan) (channels : List (List Wiring)) → IsPlanFor dev b settings plan → routes dev plan ≡ Ok channels
    → ChannelCalls dev plan channels settings helping → FlowCalls dev b settings helping
flow_calls dev b settings helping plan channels is routed c = record { calls = by c.calls; none = c.none }
  where
    by : (helping.after ≡ helping.before) ⊎ ChannelsWereAsked dev plan channels settings helping → (helping.after ≡ helping.before) ⊎ WereAskedFor dev b settings helping
    by (inl same) = inl same
    by (inr asked) = inr (record { plan = plan; plan_is = is; channels = channels; routed = routed; problems = asked.problems; are = asked.are; began = asked.began })

pub no_calls : (dev : Device) (b : Blif) (settings : Settings) (program : List ℕ) (bench : Bench) → FlowCalls dev b settings (helping_of program bench bench)
no_calls dev b settings program bench = record { calls = inl refl; none = λ e. refl }

-- What the steps of the flow find.
use Rattle.std.specs.Prelude.{ℕ, ◌≡◌, ◌<◌, ◌+◌, ◌⊎◌, Bool, true, List, ◌∷◌, ◌++◌, length, map, slice_get, Some, Result, Ok, Err}
use Rattle.act1_blif.specs.declared.blif.Blif.{Blif}
use Rattle.act1_net.specs.declared.net.Net.{Net}
use Rattle.act1_net.specs.declared.net.NetTerm.TheVariants as term
use Rattle.act1_net.specs.Net.{IsNetOf, place_in}
use Rattle.act1_map.specs.Least.{IsLeast}
use Rattle.act1_map.specs.Read.{IsSource}
use Rattle.act1_circuit.specs.declared.circuit.Circuit.{Circuit}
use Rattle.act1_circuit.specs.declared.circuit.Spot.{Spot}
use Rattle.act1_circuit.specs.PairForm.{IsPairForm}
use Rattle.act1_device.specs.declared.device.Device.{Device}
use Rattle.act1_meaning.specs.ArrayNames.{IsClash}
use Rattle.act1_meaning.specs.Meaning.{Means}
use Rattle.act1_plan.specs.declared.plan.Plan.{Plan}
use Rattle.act1_plan.specs.Order.{IsPlanOf}
use Rattle.act1_place.specs.declared.placement.PlaceStop.{PlaceStop}
use Rattle.act1_place.specs.declared.placement.PlaceStop.TheVariants as place
use Rattle.act1_place.specs.Place as room
use Rattle.act1_place.specs.Laws.{IsSettled}
use Rattle.act1_place.specs.Start.{IsPlacement}
use Rattle.act1_channel.specs.declared.problem.Problem.{Problem}
use Rattle.act1_channel.specs.declared.problem.Log.{Log}
use Rattle.act1_search.specs.declared.verdict.SearchStop.{SearchStop}
use Rattle.act1_search.specs.declared.verdict.SearchStop.TheVariants as search
use Rattle.act1_search.specs.declared.verdict.Verdict.{Verdict}
use Rattle.act1_search.specs.declared.verdict.Verdict.TheVariants.{Assigned, Refuted}
use Rattle.act1_farm.specs.declared.outcome.FarmStop.{FarmStop}
use Rattle.act1_farm.specs.declared.outcome.FarmStop.TheVariants as farm
use Rattle.act1_farm.specs.declared.outcome.Outcome.{Outcome}
use Rattle.act1_farm.specs.declared.outcome.Tally.{Tally}
use Rattle.act1_farm.specs.Jobs.{BeganStory}
use Rattle.act1_farm.specs.Story.{asked_for, jobs_of}
use Rattle.act1_groute.specs.declared.wiring.Wiring.{Wiring}
use Rattle.act1_groute.specs.Routes.{routes}
use Rattle.act1_emit.specs.File as emit
use Rattle.act1_emit.specs.File.{HasTracks}
use Rattle.act1_planned.specs.Laws.{OrderKeepsClear, OrderKeepsForm, OrderKeepsMeaning, OrderKeepsSources, OrderKeepsSums, PlansAreLegal, PortsAreNamed}
use Rattle.act1_search.specs.Exact.{AssignmentsFit}
use Rattle.act1_flow.specs.declared.answer.FlowStop.{FlowStop}
use Rattle.act1_flow.specs.declared.answer.Routed.{Routed}
use Rattle.act1_flow.specs.declared.answer.FlowStop.TheVariants as stop
use Rattle.act1_flow.specs.declared.answer.Settings.{Settings}
use Rattle.act1_flow.specs.declared.assigning.ChannelStop.{ChannelStop}
use Rattle.act1_flow.specs.declared.assigning.ChannelStop.TheVariants as channel_stop
use Rattle.act1_flow.specs.declared.assigning.Ending.{Ending}
use Rattle.act1_flow.specs.declared.assigning.Ending.TheVariants as ending
use Rattle.act1_flow.specs.declared.assigning.Tracked.{Tracked}
use Rattle.act1_flow.specs.declared.mapping.Counted.{Counted}
use Rattle.act1_flow.specs.declared.planning.RoutedPlan.{RoutedPlan}
use Rattle.act1_flow.specs.Flow.{pads_needed, AreAssignedBefore, AreAssignedTo, AreProblemsOf, FlowGives, HasPads, IsAsking, IsDecided, IsFull, IsProblemAt}
use Rattle.act1_flow.specs.Helping.{Helping}
use Rattle.act1_flow.specs.Realizes.{IsFew, IsPlanFor}

-- a stop of the placement is one of the flow
abbrev pub stop_of : PlaceStop → FlowStop
stop_of (place.Pads needed have) = stop.Pads needed have
stop_of (place.Full needed have) = stop.Full needed have
stop_of place.Memory = stop.Memory

-- the netlist has more modules than the device has sites, or no memory is found
abbrev pub OnFull : Device → Blif → FlowStop → Type 0
OnFull dev b (stop.Full needed have) = IsFull dev b needed have
OnFull dev b stop.Memory = Unit {0}
OnFull dev b why = ⊥

-- an output of the netlist that is an input or a kept latch has that signal of the net as its term
pub record HasOwnTerms (b : Blif) (kept : List Bool) (net : Net) : Type 0 where
  pub inputs : (o i : ℕ) → slice_get b.outputs o ≡ Some i → i < length b.inputs → slice_get net.outputs o ≡ Some (term.Signal i)
  pub latches : (o k : ℕ) → slice_get b.outputs o ≡ Some (length b.inputs + k) → slice_get kept k ≡ Some true → slice_get net.outputs o ≡ Some (term.Signal (length b.inputs + place_in kept k))

-- the net does what the netlist does; its least count of modules is this one, which is at most that of the netlist
pub record IsCounted (b : Blif) (counted : Counted) : Type 0 where
  pub kept : List Bool
  pub is : IsNetOf b kept counted.net
  pub own : HasOwnTerms b kept counted.net
  pub least : IsLeast counted.net.blif counted.count
  pub few : IsFew b counted.count

-- the circuit means the netlist, with few modules, each of which drives something; no output has the name of an input or a latch but another source
pub record IsCircuitFor (b : Blif) (c : Circuit) : Type 0 where
  pub form : IsPairForm c
  pub means : Means c b
  pub few : IsFew b (length c.modules)
  pub read : (m : ℕ) → m < length c.modules → ∥ IsSource c m ∥₁
  pub clear : (i : ℕ) → IsClash c i → ⊥

-- the plan of the circuit, with its modules where the passes from the seeded start leave them
pub record IsPlanned (dev : Device) (c : Circuit) (settings : Settings) (plan : Plan) : Type 0 where
  pub spots : List Spot
  pub pads : room.HasPads dev c
  pub sites : room.HasSites dev c
  pub placement : IsPlacement dev c settings.seed spots
  pub settled : IsSettled dev c settings.seed spots
  pub is : IsPlanOf dev c spots settings.k plan

-- pads or else sites are too few for the circuit
abbrev pub OnPlaceStop : Device → Circuit → FlowStop → Type 0
OnPlaceStop dev c (stop.Pads needed have) = room.IsStop dev c (place.Pads needed have)
OnPlaceStop dev c (stop.Full needed have) = room.IsStop dev c (place.Full needed have)
OnPlaceStop dev c stop.Memory = Unit {0}
OnPlaceStop dev c why = ⊥

-- the plan with its routes
pub record IsRouted (dev : Device) (plan : Plan) (r : RoutedPlan) : Type 0 where
  pub plan_is : r.plan ≡ plan
  pub routed : routes dev plan ≡ Ok r.routes.channels

-- the rule of routes fails first for this net and channel
abbrev pub OnVertical : Device → Plan → FlowStop → Type 0
OnVertical dev plan (stop.Vertical net channel same) = (same ≡ plan) × (routes dev plan ≡ Err (record { net = net; channel = channel }))
OnVertical dev plan stop.Memory = Unit {0}
OnVertical dev plan why = ⊥

-- the plan is that of a netlist that has its pads, and is routed
pub record IsReadyPlan (dev : Device) (net : Blif) (settings : Settings) (r : RoutedPlan) : Type 0 where
  pub pads : HasPads dev net
  pub plan_is : IsPlanFor dev net settings r.plan
  pub routed : routes dev r.plan ≡ Ok r.routes.channels

-- why there is no such plan, whatever helpers there are
abbrev pub IsPlanStop : Device → Blif → Settings → FlowStop → Type 0
IsPlanStop dev net settings why = (helping : Helping) → FlowGives dev net settings helping (Err why)

-- so many first channels of the plan have these problems
pub record AreFirstProblems (dev : Device) (plan : Plan) (channels : List (List Wiring)) (count : ℕ) (problems : List Problem) : Type 0 where
  pub long : length problems ≡ count
  pub each : (h : ℕ) (p : Problem) → slice_get problems h ≡ Some p → IsProblemAt dev plan channels h p

-- the verdicts are assignments by these tracks up to this channel, which is refuted by this log
abbrev pub EndsAt : List Verdict → ℕ → Log → Type 0
EndsAt verdicts channel log = (tracks : List (List ℕ)) × (rest : List Verdict) × (channel ≡ length tracks) × (verdicts ≡ map Assigned tracks ++ Refuted log ∷ rest)

abbrev pub EndsIn : List Verdict → Ending → Type 0
EndsIn verdicts (ending.Refuted channel log) = EndsAt verdicts channel log
EndsIn verdicts ending.Memory = Unit {0}

-- the same as the stop of a channel, with the number of its connections
abbrev pub EndsRefuted : List Problem → Outcome → ChannelStop → Type 0
EndsRefuted problems outcome (channel_stop.Refuted channel connections log tally) =
    EndsAt outcome.answers channel log × ((p : Problem) × (slice_get problems channel ≡ Some p) × (connections ≡ length p.connections)) × (tally ≡ outcome.tally)
EndsRefuted problems outcome (channel_stop.Spent channel conflicts tracks connections tally) = ⊥
EndsRefuted problems outcome channel_stop.Memory = Unit {0}

-- the tracks are those of the verdicts, which are all assignments
pub record AreTracksOf (outcome : Outcome) (t : Tracked) : Type 0 where
  pub tracks : map Assigned t.tracks ≡ outcome.answers
  pub tally : t.tally ≡ outcome.tally

-- the stop of the verdicts is that of a channel, with the numbers of its tracks and connections
abbrev pub IsSpentStop : List Problem → FarmStop → ChannelStop → Type 0
IsSpentStop problems (farm.Spent channel conflicts tally) (channel_stop.Spent same number tracks connections counts) =
    (same ≡ channel) × (number ≡ conflicts) × (counts ≡ tally) × (p : Problem) × (slice_get problems channel ≡ Some p) × (tracks ≡ length p.tracks) × (connections ≡ length p.connections)
IsSpentStop problems farm.Memory channel_stop.Memory = Unit {0}
IsSpentStop problems why stop = ⊥

-- the channel of the stop is one of these
abbrev pub IsStopOf : List Problem → FarmStop → Type 0
IsStopOf problems (farm.Spent channel conflicts tally) = channel < length problems
IsStopOf problems farm.Memory = Unit {0}

-- all channels of the plan have these tracks, by which they are decided
pub record IsTracked (dev : Device) (plan : Plan) (settings : Settings) (helping : Helping) (t : Tracked) : Type 0 where
  pub asking : IsAsking dev plan settings helping t.tally
  pub decided : AreAssignedTo asking.problems asking.story settings.budget (dev.rows + 1) t.tracks

-- a channel is decided by this answer, and each before it by an assignment
pub record IsFirstStop (dev : Device) (plan : Plan) (settings : Settings) (helping : Helping) (channel : ℕ) (p : Problem) (answer : Result Verdict SearchStop) (tally : Tally) : Type 0 where
  pub asking : IsAsking dev plan settings helping tally
  pub before : AreAssignedBefore asking.problems asking.story settings.budget channel
  pub at : slice_get asking.problems channel ≡ Some p
  pub is : IsDecided asking.problems asking.story settings.budget channel p answer

-- the first channel that isn't decided by an assignment ends so
abbrev pub IsChannelStop : Device → Plan → Settings → Helping → ChannelStop → Type 0
IsChannelStop dev plan settings helping (channel_stop.Refuted channel connections log tally) =
    (p : Problem) × IsFirstStop dev plan settings helping channel p (Ok (Refuted log)) tally × (connections ≡ length p.connections)
IsChannelStop dev plan settings helping (channel_stop.Spent channel conflicts tracks connections tally) =
    (p : Problem) × IsFirstStop dev plan settings helping channel p (Err (search.Spent conflicts)) tally × (tracks ≡ length p.tracks) × (connections ≡ length p.connections)
IsChannelStop dev plan settings helping channel_stop.Memory = Unit {0}

-- no helper was called, or they were asked for the channels of the plan, by the front of their story at least
pub record ChannelsWereAsked (dev : Device) (plan : Plan) (channels : List (List Wiring)) (settings : Settings) (helping : Helping) : Type 0 where
  pub problems : List Problem
  pub are : AreProblemsOf dev plan channels problems
  pub began : BeganStory helping.program (jobs_of settings.budget (asked_for problems)) settings.jobs helping.before helping.after

pub record ChannelCalls (dev : Device) (plan : Plan) (channels : List (List Wiring)) (settings : Settings) (helping : Helping) : Type 0 where
  pub calls : (helping.after ≡ helping.before) ⊎ ChannelsWereAsked dev plan channels settings helping
  pub none : settings.jobs ≡ 0 → helping.after ≡ helping.before

-- what the flow answers where a channel has no tracks
abbrev pub flow_stop : Plan → ChannelStop → FlowStop
flow_stop plan (channel_stop.Refuted channel connections log tally) = stop.Refuted (record { plan = plan; channel = channel; log = log }) connections tally
flow_stop plan (channel_stop.Spent channel conflicts tracks connections tally) = stop.Spent plan channel conflicts tracks connections tally
flow_stop plan channel_stop.Memory = stop.Memory

-- pads are too few
abbrev pub OnPads : Device → Blif → FlowStop → Type 0
OnPads dev b (stop.Pads needed have) = (needed ≡ pads_needed b) × (have ≡ length dev.pads) × (have < needed)
OnPads dev b why = ⊥

-- the plan's file on these tracks is this one, with so many modules
pub record IsProgrammed (dev : Device) (plan : Plan) (channels : List (List Wiring)) (tracks : List (List ℕ)) (r : Routed) : Type 0 where
  pub tracked : HasTracks dev plan channels tracks
  pub realizes : emit.Realizes dev plan channels tracks r.fuses
  pub count : r.modules ≡ length plan.placed.circuit.modules

-- the laws that the stages need of each other
pub record PlanLaws : Type 0 where
  pub legal : PlansAreLegal
  pub means : OrderKeepsMeaning
  pub form : OrderKeepsForm
  pub clear : OrderKeepsClear
  pub sums : OrderKeepsSums
  pub sources : OrderKeepsSources
  pub named : PortsAreNamed
  pub fit : AssignmentsFit

-- What the flow answers.
use Rattle.std.specs.Prelude.{ℕ, ◌≡◌, ◌+◌, ◌*◌, ◌<◌, ◌≤◌, ◌⊎◌, min, Bool, List, length, slice_get, Some, Result, Ok, Err}
use Rattle.act1_outside.specs.declared.helpers.Entry.{Entry}
use Rattle.act1_blif.specs.declared.blif.Blif.{Blif}
use Rattle.act1_net.specs.declared.net.Net.{Net}
use Rattle.act1_net.specs.Net.{IsNetOf}
use Rattle.act1_map.specs.Least.{IsLeast}
use Rattle.act1_circuit.specs.declared.circuit.Circuit.{Circuit}
use Rattle.act1_device.specs.declared.device.Device.{Device}
use Rattle.act1_device.specs.declared.device.Site.{Site}
use Rattle.act1_meaning.specs.Meaning.{Means}
use Rattle.act1_plan.specs.declared.plan.Plan.{Plan}
use Rattle.act1_channel.specs.declared.problem.Problem.{Problem}
use Rattle.act1_search.specs.declared.verdict.SearchStop.{SearchStop}
use Rattle.act1_search.specs.declared.verdict.SearchStop.TheVariants as search
use Rattle.act1_search.specs.declared.verdict.Verdict.{Verdict}
use Rattle.act1_search.specs.declared.verdict.Verdict.TheVariants.{Assigned, Refuted}
use Rattle.act1_search.specs.Answers.{IsAnswer}
use Rattle.act1_farm.specs.declared.outcome.Tally.{Tally}
use Rattle.act1_farm.specs.Jobs.{BeganStory}
use Rattle.act1_farm.specs.Story.{asked_for, jobs_of}
use Rattle.act1_farm.specs.Verdicts.{IsBrought, NoneCame, WereAsked}
use Rattle.act1_report.specs.declared.report.Report.{Report}
use Rattle.act1_report.specs.Checks.{ReportChecks}
use Rattle.act1_report.specs.Texts.{report_text}
use Rattle.act1_groute.specs.Emitted.{Emitted}
use Rattle.act1_groute.specs.declared.wiring.Wiring.{Wiring}
use Rattle.act1_groute.specs.Routes.{Demand, routes, IsProblemOf}
use Rattle.act1_flow.specs.declared.answer.FlowStop.{FlowStop}
use Rattle.act1_flow.specs.declared.answer.FlowStop.TheVariants as stop
use Rattle.act1_flow.specs.declared.answer.Routed.{Routed}
use Rattle.act1_flow.specs.declared.answer.Settings.{Settings}
use Rattle.act1_flow.specs.Helping.{Helping}
use Rattle.act1_flow.specs.Realizes.{Realizes, IsFew, IsPlanFor, plan_with}

-- a pad for each input and each output
abbrev pub pads_needed : Blif → ℕ
pads_needed net = length net.inputs + length net.outputs

abbrev pub HasPads : Device → Blif → Type 0
HasPads dev net = pads_needed net ≤ length dev.pads

-- a channel of a routed plan has this problem
pub record IsProblemAt (dev : Device) (plan : Plan) (channels : List (List Wiring)) (channel : ℕ) (p : Problem) : Type 0 where
  pub wirings : List Wiring
  pub at : slice_get channels channel ≡ Some wirings
  pub is : IsProblemOf dev plan.k channel wirings p

-- these are the problems of all channels of a routed plan, the channels rising
pub record AreProblemsOf (dev : Device) (plan : Plan) (channels : List (List Wiring)) (problems : List Problem) : Type 0 where
  pub long : length problems ≡ length channels
  pub each : (h : ℕ) (p : Problem) → slice_get problems h ≡ Some p → IsProblemAt dev plan channels h p

-- how a channel is decided: by a usable answer that came for it in the story of the helpers, or where none came, as its search ends
abbrev pub IsDecided : List Problem → List Entry → ℕ → ℕ → Problem → Result Verdict SearchStop → Type 0
IsDecided problems story budget channel p (Ok verdict) = IsBrought problems story channel p verdict ⊎ (NoneCame problems story channel p × IsAnswer p budget (Ok verdict))
IsDecided problems story budget channel p (Err why) = NoneCame problems story channel p × IsAnswer p budget (Err why)

-- a channel is decided by an assignment
pub record IsAssigned (problems : List Problem) (story : List Entry) (budget channel : ℕ) : Type 0 where
  pub problem : Problem
  pub tracks : List ℕ
  pub at : slice_get problems channel ≡ Some problem
  pub decided : IsDecided problems story budget channel problem (Ok (Assigned tracks))

-- so is each channel before this one
abbrev pub AreAssignedBefore : List Problem → List Entry → ℕ → ℕ → Type 0
AreAssignedBefore problems story budget channel = (h : ℕ) → h < channel → IsAssigned problems story budget h

-- helpers were asked for the channels of a routed plan, with this tally, where the settings have jobs
pub record IsAsking (dev : Device) (plan : Plan) (settings : Settings) (helping : Helping) (tally : Tally) : Type 0 where
  pub channels : List (List Wiring)
  pub routed : routes dev plan ≡ Ok channels
  pub problems : List Problem
  pub are : AreProblemsOf dev plan channels problems
  pub story : List Entry
  pub asked : WereAsked helping.program problems settings.budget settings.jobs helping.before helping.after story tally

-- each channel before this one is decided by an assignment, and this one by this answer
pub record IsFirstUnassigned (dev : Device) (net : Blif) (settings : Settings) (helping : Helping) (plan : Plan) (channel : ℕ) (problem : Problem) (answer : Result Verdict SearchStop) (tally : Tally) : Type 0 where
  pub plan_is : IsPlanFor dev net settings plan
  pub asking : IsAsking dev plan settings helping tally
  pub before : AreAssignedBefore asking.problems asking.story settings.budget channel
  pub at : slice_get asking.problems channel ≡ Some problem
  pub is : IsDecided asking.problems asking.story settings.budget channel problem answer

-- so many first channels have these tracks, by which they are decided
pub record AreAssignedTo (problems : List Problem) (story : List Entry) (budget count : ℕ) (tracks : List (List ℕ)) : Type 0 where
  pub long : length tracks ≡ count
  pub each : (h : ℕ) (assigned : List ℕ) → slice_get tracks h ≡ Some assigned → (p : Problem) × (slice_get problems h ≡ Some p) × IsDecided problems story budget h p (Ok (Assigned assigned))

-- the antifuses are those of the plan's routes on the tracks by which its channels are decided
pub record IsHelpedTo (dev : Device) (plan : Plan) (settings : Settings) (helping : Helping) (tally : Tally) (sites : List Site) : Type 0 where
  pub asking : IsAsking dev plan settings helping tally
  pub tracks : List (List ℕ)
  pub decided : AreAssignedTo asking.problems asking.story settings.budget (dev.rows + 1) tracks
  pub emitted : Emitted dev plan asking.channels tracks sites

-- the rule of routes fails first for this net and channel of the plan
pub record IsVertical (dev : Device) (net : Blif) (settings : Settings) (plan : Plan) (d : Demand) : Type 0 where
  pub plan_is : IsPlanFor dev net settings plan
  pub failed : routes dev plan ≡ Err d

-- so many modules has a circuit that means the netlist
abbrev pub IsCountOfCircuit : Blif → ℕ → Type 0
IsCountOfCircuit net count = (c : Circuit) × Means c net × (count ≡ length c.modules)

-- it is the least count of a net that does what the netlist does, and more than circuits can number
abbrev pub IsCountOfNet : Blif → ℕ → Type 0
IsCountOfNet net count = (65535 < count) × (kept : List Bool) × (n : Net) × IsNetOf net kept n × IsLeast n.blif count

-- the modules of the circuit that the netlist is mapped to, or the least count of the net that would be mapped, are more than the sites; the count is at most the least count of the netlist
pub record IsFull (dev : Device) (net : Blif) (needed have : ℕ) : Type 0 where
  pub count : ℕ
  pub few : IsFew net count
  pub of : IsCountOfCircuit net count ⊎ IsCountOfNet net count
  pub needed_is : needed ≡ min count 4294967295
  pub have_is : have ≡ dev.rows * dev.columns
  pub more : have < needed

-- the text of the report is one that the check of reports accepts
abbrev pub IsChecked : Device → Report → Type 0
IsChecked dev report = ReportChecks dev (report_text report) (Ok tt)

-- pads are too few exactly where the netlist needs more than there are; else sites, then long wires; else the first channel that isn't decided by an assignment is refuted or spent
abbrev pub IsStop : Device → Blif → Settings → Helping → FlowStop → Type 0
IsStop dev net settings helping (stop.Pads needed have) = (needed ≡ pads_needed net) × (have ≡ length dev.pads) × (have < needed)
IsStop dev net settings helping (stop.Full needed have) = HasPads dev net × IsFull dev net needed have
IsStop dev net settings helping (stop.Vertical source channel plan) = HasPads dev net × IsVertical dev net settings plan (record { net = source; channel = channel })
IsStop dev net settings helping (stop.Refuted report connections tally) =
    HasPads dev net × (problem : Problem) × IsFirstUnassigned dev net settings helping report.plan report.channel problem (Ok (Refuted report.log)) tally × (connections ≡ length problem.connections) × IsChecked dev report
IsStop dev net settings helping (stop.Spent plan channel conflicts tracks connections tally) =
    HasPads dev net × (problem : Problem) × IsFirstUnassigned dev net settings helping plan channel problem (Err (search.Spent conflicts)) tally × (tracks ≡ length problem.tracks) × (connections ≡ length problem.connections)
IsStop dev net settings helping stop.Memory = ⊥

-- what is routed realizes the netlist, with the verdicts of helpers where usable answers came
pub record IsRoutedFor (dev : Device) (net : Blif) (settings : Settings) (helping : Helping) (routed : Routed) : Type 0 where
  pub pads : HasPads dev net
  pub realizes : Realizes dev net settings routed.fuses routed.modules
  pub helped : IsHelpedTo dev (plan_with dev settings realizes.array) settings helping routed.tally routed.fuses.sites

-- it is routed, or stopped by the first cause; want of memory alone is free
abbrev pub FlowGives : Device → Blif → Settings → Helping → Result Routed FlowStop → Type 0
FlowGives dev net settings helping (Ok routed) = IsRoutedFor dev net settings helping routed
FlowGives dev net settings helping (Err stop.Memory) = Unit {0}
FlowGives dev net settings helping (Err why) = IsStop dev net settings helping why

-- helpers were asked for the channels of a plan of the netlist, by the front of their story at least
pub record WereAskedFor (dev : Device) (net : Blif) (settings : Settings) (helping : Helping) : Type 0 where
  pub plan : Plan
  pub plan_is : IsPlanFor dev net settings plan
  pub channels : List (List Wiring)
  pub routed : routes dev plan ≡ Ok channels
  pub problems : List Problem
  pub are : AreProblemsOf dev plan channels problems
  pub began : BeganStory helping.program (jobs_of settings.budget (asked_for problems)) settings.jobs helping.before helping.after

-- no helper was called, or they were asked so; without jobs none is called
pub record FlowCalls (dev : Device) (net : Blif) (settings : Settings) (helping : Helping) : Type 0 where
  pub calls : (helping.after ≡ helping.before) ⊎ WereAskedFor dev net settings helping
  pub none : settings.jobs ≡ 0 → helping.after ≡ helping.before

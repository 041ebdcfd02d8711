-- What the flow's answers say beside their texts, whatever command prints them.
use Rattle.std.specs.Prelude.{ℕ, ◌≡◌, ◌≢◌, ◌<◌, ◌+◌, ◌^◌, List, [], length, slice_get, Some, Ok}
use Rattle.act1_blif.specs.declared.blif.Blif.{Blif}
use Rattle.act1_channel.specs.declared.problem.Choice.{Choice}
use Rattle.act1_channel.specs.declared.problem.Problem.{Problem}
use Rattle.act1_channel.specs.Acceptance.{IsAccepted}
use Rattle.act1_channel.specs.Assignment.{Assigns}
use Rattle.act1_device.specs.declared.device.Device.{Device}
use Rattle.act1_groute.specs.declared.wiring.Wiring.{Wiring}
use Rattle.act1_plan.specs.declared.plan.Plan.{Plan}
use Rattle.act1_report.specs.declared.report.Report.{Report}
use Rattle.act1_search.specs.Search.{HasConflict}
use Rattle.act1_search.specs.declared.verdict.Verdict.TheVariants.{Refuted}
use Rattle.act1_farm.specs.declared.outcome.Tally.{Tally}
use Rattle.act1_farm.specs.Verdicts.{NoneCame}
use Rattle.act1_flow.specs.Flow.{IsAsking, IsAssigned, IsChecked, IsDecided, IsProblemAt}
use Rattle.act1_flow.specs.Helping.{Helping}
use Rattle.act1_flow.specs.Realizes.{IsPlanFor}
use Rattle.act1_flow.specs.declared.answer.Settings.{Settings}

-- the problem of a channel of a routed plan has an assignment
pub record HasAssignment (dev : Device) (plan : Plan) (channels : List (List Wiring)) (channel : ℕ) : Type 0 where
  pub problem : Problem
  pub tracks : List ℕ
  pub at : IsProblemAt dev plan channels channel problem
  pub assigns : Assigns problem tracks

-- A report of a channel without an assignment. Its plan is legal and stable, has the k of the settings, means the netlist, has at most the least count of modules, and has routes; each channel before its own is decided by an assignment, by a usable answer of a helper or where none came by its search within the budget; its log, which comes the same way, is accepted for the problem of its channel, which so has no assignment. The check of reports accepts its text.
pub record IsRefutation (dev : Device) (net : Blif) (settings : Settings) (helping : Helping) (report : Report) (problem : Problem) (tally : Tally) : Type 0 where
  pub plan : IsPlanFor dev net settings report.plan
  pub asking : IsAsking dev report.plan settings helping tally
  pub before_it : (h : ℕ) → h < report.channel → IsAssigned asking.problems asking.story settings.budget h × HasAssignment dev report.plan asking.channels h
  pub at : slice_get asking.problems report.channel ≡ Some problem
  pub decided : IsDecided asking.problems asking.story settings.budget report.channel problem (Ok (Refuted report.log))
  pub accepted : IsAccepted problem report.log.steps
  pub none : (tracks : List ℕ) → Assigns problem tracks → ⊥
  pub checked : IsChecked dev report

-- A plan, which is as above, with a channel whose search is spent. Each channel before it is decided by an assignment; no usable answer of a helper came for it, and the conflict of the budget's number of its search has choices, and so the budget is below `(1 + T)^n`, T the number of tracks and n that of connections.
pub record IsSpending (dev : Device) (net : Blif) (settings : Settings) (helping : Helping) (plan : Plan) (channel : ℕ) (problem : Problem) (tally : Tally) : Type 0 where
  pub chosen : List Choice
  pub plan_is : IsPlanFor dev net settings plan
  pub asking : IsAsking dev plan settings helping tally
  pub before_it : (h : ℕ) → h < channel → IsAssigned asking.problems asking.story settings.budget h × HasAssignment dev plan asking.channels h
  pub at : slice_get asking.problems channel ≡ Some problem
  pub unhelped : NoneCame asking.problems asking.story channel problem
  pub conflict : HasConflict problem settings.budget chosen
  pub unfinished : chosen ≢ []
  pub short : settings.budget < (1 + length problem.tracks) ^ length problem.connections

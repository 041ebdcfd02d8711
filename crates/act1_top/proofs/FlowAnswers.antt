-- What the flow's causes say, whatever command prints them.
use Rattle.std.proofs.Common.{ℕ, ◌≡◌, List, length, inl, inr}
use Rattle.std.specs.Prelude.{Result, Ok, Err}
use Rattle.act1_blif.specs.declared.blif.Blif.{Blif}
use Rattle.act1_channel.specs.declared.problem.Problem.{Problem}
use Rattle.act1_channel.specs.Acceptance.{IsAccepted}
use Rattle.act1_channel.specs.Assignment.{Assigns}
use Rattle.act1_device.specs.declared.device.Device.{Device}
use Rattle.act1_plan.specs.declared.plan.Plan.{Plan}
use Rattle.act1_report.specs.declared.report.Report.{Report}
use Rattle.act1_search.specs.declared.verdict.SearchStop.TheVariants as search
use Rattle.act1_search.specs.declared.verdict.Verdict.TheVariants.{Assigned, Refuted}
use Rattle.act1_farm.specs.declared.outcome.Tally.{Tally}
use Rattle.act1_flow.specs.Flow.{FlowGives, IsAsking, IsAssigned, IsChecked, IsDecided, IsFirstUnassigned, IsStop}
use Rattle.act1_flow.specs.Helping.{Helping}
use Rattle.act1_flow.specs.declared.answer.FlowStop.{FlowStop}
use Rattle.act1_flow.specs.declared.answer.FlowStop.TheVariants as stop
use Rattle.act1_flow.specs.declared.answer.Settings.{Settings}
use Rattle.act1_top.specs.FlowAnswers.{HasAssignment, IsRefutation, IsSpending}
use Rattle.act1_top.specs.FlowCommand.{IsCause}
use Rattle.act1_top.specs.Laws.{TextsAreOne}

-- what isn't want of memory is a cause
pub cause_is : (dev : Device) (net : Blif) (settings : Settings) (helping : Helping) (why : FlowStop) → IsCause why → FlowGives dev net settings helping (Err why) → IsStop dev net settings helping why
cause_is dev net settings helping (stop.Pads needed have) c h = h
cause_is dev net settings helping (stop.Full needed have) c h = h
cause_is dev net settings helping (stop.Vertical source channel plan) c h = h
cause_is dev net settings helping (stop.Refuted report connections tally) c h = h
cause_is dev net settings helping (stop.Spent plan channel conflicts tracks connections tally) c h = h
cause_is dev net settings helping stop.Memory c h = absurd c

module _ (laws : TextsAreOne) (dev : Device) (net : Blif) (settings : Settings) (helping : Helping) where
  -- a channel before has an assignment
  assigned : (plan : Plan) (tally : Tally) (asking : IsAsking dev plan settings helping tally) (h : ℕ) → IsAssigned asking.problems asking.story settings.budget h → HasAssignment dev plan asking.channels h
  assigned plan tally asking h a = record { problem = a.problem; tracks = a.tracks; at = asking.are.each h a.problem a.at; assigns = by a.decided }
    where
      by : IsDecided asking.problems asking.story settings.budget h a.problem (Ok (Assigned a.tracks)) → Assigns a.problem a.tracks
      by (inl brought) = brought.brings.0
      by (inr (none, answer)) = laws.fit a.problem answer.0 a.tracks answer.1

  pub refutation : (report : Report) (problem : Problem) (tally : Tally) → IsFirstUnassigned dev net settings helping report.plan report.channel problem (Ok (Refuted report.log)) tally → IsChecked dev report → IsRefutation dev net settings helping report problem tally
  refutation report problem tally first checked = record {
    plan = first.plan_is;
    asking = first.asking;
    before_it = λ k low. (first.before k low, assigned report.plan tally first.asking k (first.before k low));
    at = first.at;
    decided = first.is;
    accepted = by first.is;
    none = laws.logs_refute problem report.log.steps (by first.is);
    checked = checked;
  }
    where
      by : IsDecided first.asking.problems first.asking.story settings.budget report.channel problem (Ok (Refuted report.log)) → IsAccepted problem report.log.steps
      by (inl brought) = brought.brings.0
      by (inr (none, answer)) = answer.2

  pub spending : (plan : Plan) (channel conflicts : ℕ) (problem : Problem) (tally : Tally) → IsFirstUnassigned dev net settings helping plan channel problem (Err (search.Spent conflicts)) tally → IsSpending dev net settings helping plan channel problem tally
  spending plan channel conflicts problem tally first = record {
    chosen = first.is.1.2.0;
    plan_is = first.plan_is;
    asking = first.asking;
    before_it = λ k low. (first.before k low, assigned plan tally first.asking k (first.before k low));
    at = first.at;
    unhelped = first.is.0;
    conflict = first.is.1.2.1;
    unfinished = first.is.1.2.2;
    short = first.is.1.1;
  }

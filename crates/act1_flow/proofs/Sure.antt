-- On an ample device the flow succeeds, and with a budget that is enough it isn't spent.
use Rattle.std.proofs.Common.{ℕ, ◌≡◌, ◌⊎◌, ◌+◌, ◌*◌, ◌<◌, ◌≤◌, List, length, refl, sym, ap, ◌∙◌, inl, inr, arith, slice_get, Some}
use Rattle.std.specs.Prelude.{Result, Ok, Err, min}
use Rattle.act1_blif.specs.declared.blif.Blif.{Blif}
use Rattle.act1_blif.specs.Need.{need}
use Rattle.act1_device.specs.declared.device.Device.{Device}
use Rattle.act1_channel.specs.declared.problem.Log.{Log}
use Rattle.act1_channel.specs.declared.problem.Problem.{Problem}
use Rattle.act1_channel.specs.Acceptance.{IsAccepted}
use Rattle.act1_channel.specs.Laws.{AcceptedLogsRefute}
use Rattle.act1_farm.specs.declared.outcome.Tally.{Tally}
use Rattle.act1_plan.specs.declared.plan.Plan.{Plan}
use Rattle.act1_groute.specs.declared.wiring.Wiring.{Wiring}
use Rattle.act1_groute.specs.Routes.{Demand}
use Rattle.act1_search.specs.declared.verdict.Verdict.{Verdict}
use Rattle.act1_search.specs.declared.verdict.Verdict.TheVariants.{Assigned, Refuted}
use Rattle.act1_search.specs.declared.verdict.SearchStop.{SearchStop}
use Rattle.act1_search.specs.declared.verdict.SearchStop.TheVariants as search
use Rattle.act1_flow.specs.declared.answer.FlowStop.TheVariants as stop
use Rattle.act1_flow.specs.declared.answer.Settings.{Settings}
use Rattle.act1_flow.specs.Flow.{IsDecided, IsFirstUnassigned, IsFull, IsProblemAt}
use Rattle.act1_flow.specs.Helping.{Helping}
use Rattle.act1_flow.specs.Realizes.{IsPlanFor}
use Rattle.act1_ample.specs.Ample.{IsAmple, IsWide}
use Rattle.act1_ample.specs.Laws.{RoutesWidely}
use Rattle.act1_ample.proofs.WideChannels.{ample_plans_route}
use Rattle.act1_ample.proofs.Answering.{wide_is_answered, enough_is_not_spent}
use Rattle.act1_ample.proofs.CalmSearch.{wide_has_assignment}
use Rattle.act1_extract.specs.Laws.{FormedAreExtracted}
use Rattle.act1_flow.specs.Sure.{FlowSucceeds, FlowIsExtracted, FlowIsNotSpent}

module _ (dev : Device) (net : Blif) (settings : Settings) (ample : IsAmple dev net) where
  plan_routes : (plan : Plan) → IsPlanFor dev net settings plan → RoutesWidely dev plan
  plan_routes plan is = ample_plans_route dev net plan ample is.legal (ap length is.means.ports.inputs) (omega (arith, is.few.few, is.few.needed))

  not_full : (needed have : ℕ) → IsFull dev net needed have → ⊥
  not_full needed have full = less full.count full.few.least full.needed_is full.more full.have_is full.few.few full.few.needed
    where
      less : (count least : ℕ) → needed ≡ min count 4294967295 → have < needed → have ≡ dev.rows * dev.columns → count ≤ least → least ≤ need net → ⊥
      less count least a b c d e = let sites = ample.sites in omega (arith, a, b, c, d, e, sites)

  -- a channel of a plan is wide
  is_wide : (helping : Helping) (plan : Plan) (channel : ℕ) (p : Problem) (answer : Result Verdict SearchStop) (tally : Tally) → IsFirstUnassigned dev net settings helping plan channel p answer tally → IsWide p
  is_wide helping plan channel p answer tally is = r.wide channel at.wirings p here at.is
    where
      r : RoutesWidely dev plan
      r = plan_routes plan is.plan_is

      at : IsProblemAt dev plan is.asking.channels channel p
      at = is.asking.are.each channel p is.at

      same : (a b : List (List Wiring)) → (let r : Result (List (List Wiring)) Demand = Ok a in r) ≡ Ok b → a ≡ b
      same a b e = cc

      here : slice_get r.channels channel ≡ Some at.wirings
      here = ap (λ (c : List (List Wiring)). slice_get c channel) (same r.channels is.asking.channels (sym r.routed ∙ is.asking.routed)) ∙ at.at

  -- it isn't refuted, by a helper's log nor by the search
  not_refuted : AcceptedLogsRefute → (helping : Helping) (plan : Plan) (channel : ℕ) (p : Problem) (log : Log) (tally : Tally) → IsFirstUnassigned dev net settings helping plan channel p (Ok (Refuted log)) tally → ⊥
  not_refuted refute helping plan channel p log tally is =
      let has = wide_has_assignment p (is_wide helping plan channel p (Ok (Refuted log)) tally is) in
      refute p log.steps (accepted is.is) has.0 has.1
    where
      accepted : IsDecided is.asking.problems is.asking.story settings.budget channel p (Ok (Refuted log)) → IsAccepted p log.steps
      accepted (inl brought) = brought.brings.0
      accepted (inr (none, answer)) = answer.2

  -- and its search isn't spent
  not_spent : (helping : Helping) (plan : Plan) (channel : ℕ) (p : Problem) (conflicts : ℕ) (tally : Tally) → IsFirstUnassigned dev net settings helping plan channel p (Err (search.Spent conflicts)) tally → ⊥
  not_spent helping plan channel p conflicts tally is = never (wide_is_answered p settings.budget (Err (search.Spent conflicts)) (is_wide helping plan channel p (Err (search.Spent conflicts)) tally is) is.is.1)
    where
      never : ((tracks : List ℕ) × ((let r : Result Verdict SearchStop = Err (search.Spent conflicts) in r) ≡ Ok (Assigned tracks))) ⊎ ((let r : Result Verdict SearchStop = Err (search.Spent conflicts) in r) ≡ Err search.Memory) → ⊥
      never (inl k) = let e = k.1 in cc
      never (inr e) = cc

pub flow_succeeds : AcceptedLogsRefute → FlowSucceeds
flow_succeeds refute dev net settings helping (Ok routed) ample h = inl (routed, refl)
flow_succeeds refute dev net settings helping (Err (stop.Pads needed have)) ample h = absurd (few needed have h.0 h.1 h.2)
  where
    few : (needed have : ℕ) → needed ≡ length net.inputs + length net.outputs → have ≡ length dev.pads → have < needed → ⊥
    few needed have a b c = let pads = ample.pads in omega (arith, a, b, c, pads)
flow_succeeds refute dev net settings helping (Err (stop.Full needed have)) ample h = absurd (not_full dev net settings ample needed have h.1)
flow_succeeds refute dev net settings helping (Err (stop.Vertical source channel plan)) ample h = absurd (never (plan_routes dev net settings ample plan h.1.plan_is))
  where
    apart : {A E : Type 0} (x : A) (d : E) → (let r : Result A E = Ok x in r) ≡ Err d → ⊥
    apart x d e = cc

    never : RoutesWidely dev plan → ⊥
    never r = apart r.channels (record { net = source; channel = channel }) (sym r.routed ∙ h.1.failed)
flow_succeeds refute dev net settings helping (Err (stop.Refuted report connections tally)) ample h = absurd (not_refuted dev net settings ample refute helping report.plan report.channel h.1 report.log tally h.2)
flow_succeeds refute dev net settings helping (Err (stop.Spent plan channel conflicts tracks connections tally)) ample h = absurd (not_spent dev net settings ample helping plan channel h.1 conflicts tally h.2)
flow_succeeds refute dev net settings helping (Err stop.Memory) ample h = inr refl

pub flow_is_not_spent : FlowIsNotSpent
flow_is_not_spent dev net settings helping (Ok routed) h = tt
flow_is_not_spent dev net settings helping (Err (stop.Pads needed have)) h = tt
flow_is_not_spent dev net settings helping (Err (stop.Full needed have)) h = tt
flow_is_not_spent dev net settings helping (Err (stop.Vertical source channel plan)) h = tt
flow_is_not_spent dev net settings helping (Err (stop.Refuted report connections tally)) h = tt
flow_is_not_spent dev net settings helping (Err (stop.Spent plan channel conflicts tracks connections tally)) h =
    λ enough. enough_is_not_spent h.1 settings.budget conflicts (enough h.2.asking.channels channel h.1 h.2.asking.routed (h.2.asking.are.each channel h.1 h.2.at)) h.2.is.1
flow_is_not_spent dev net settings helping (Err stop.Memory) h = tt

-- the array of the file is sound, in pair form and without a clash
pub flow_is_extracted : FormedAreExtracted → FlowIsExtracted
flow_is_extracted law dev net settings helping (Ok routed) is =
    let realizes = is.realizes in
    law dev routed.fuses realizes.keeps (record { placed = realizes.array; circuit = record { sound = realizes.sound; is = realizes.is }; form = realizes.plan.form; clear = realizes.plan.clear })
flow_is_extracted law dev net settings helping (Err why) h = tt

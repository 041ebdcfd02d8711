-- The lines of a report lead to its end, and lines that lead to an end are those of a report.
use Rattle.std.proofs.Common.{ℕ, ◌≡◌, ◌<◌, ◌≤◌, ◌+◌, ◌^◌, IsTrue, List, [], ◌∷◌, ◌++◌, length, Result, Ok, Err, refl, sym, ap, subst, ◌∙◌, append_assoc, append-nil, arith}
use Rattle.std.specs.List.{AllByRecursion}
use Rattle.std.proofs.lemmas.List.{map-append}
use Rattle.act1_channel.specs.declared.problem.Step.{Step}
use Rattle.act1_logtext.specs.Logs.{AreSteps, add_step}
use Rattle.act1_logtext.specs.StepLines.{has_hint, IsStep}
use Rattle.act1_logtext.proofs.LogTexts.{ok_is, AreFew, room, first_few, next_few, added, added_is}
use Rattle.act1_logtext.proofs.StepWords.{step_fits, step_is, has_hint_by}
use Rattle.act1_plan.specs.Lines.{plan_format, plan_lines}
use Rattle.act1_plan.specs.Plans.{IsPlan}
use Rattle.act1_plan.specs.Steps as plan
use Rattle.act1_plan.specs.Steps.{plan_steps}
use Rattle.act1_plan.specs.declared.line.PlanLine.{PlanLine}
use Rattle.act1_plan.specs.declared.line.PlanState.{PlanState}
use Rattle.act1_plan.specs.declared.line.PlanState.TheVariants as plan_state
use Rattle.act1_plan.specs.declared.plan.Plan.{Plan}
use Rattle.act1_plan.proofs.PlanSteps as steps_of_plan
use Rattle.act1_plan.proofs.PlanSteps.{IsGoodPlan, plan_leads}
use Rattle.act1_plan.proofs.PlanTexts as texts_of_plan
use Rattle.act1_report.specs.Lines.{report_format, plan_part, step_part, open_lines, draft_lines}
use Rattle.act1_report.specs.Steps.{Fault, as_plan, plan_more, with_channel, behind_plan, as_log, with_step, behind_channel, step, report_steps}
use Rattle.act1_report.specs.declared.line.Draft.{Draft}
use Rattle.act1_report.specs.declared.line.ReportLine.{ReportLine}
use Rattle.act1_report.specs.declared.line.ReportLine.TheVariants as line
use Rattle.act1_report.specs.declared.line.ReportState.{ReportState}
use Rattle.act1_report.specs.declared.line.ReportState.TheVariants as state
use Rattle.act1_report.proofs.ReportLines.{plan_fine_in, plan_fine_of}
use Rattle.act1_table.specs.Formats.{IsFine, Leads, CanEnd}

abbrev pub AreFine : List ReportLine → Type 0
AreFine lines = AllByRecursion (IsFine report_format) lines

abbrev Lead : ReportState → List ReportLine → ReportState → Type 0
Lead s lines t = Leads report_format report_steps s lines t

-- a draft is a report: its plan is one that a text can say, its channel fits, and its steps are those of a log
pub record IsDraft (d : Draft) : Type 0 where
  pub plan : IsPlan d.plan
  pub channel : d.channel ≤ 255
  pub steps : AreSteps d.steps
  pub few : AreFew d.steps

-- the lines of a report lead to its end

leads_on : (s t u : ReportState) (xs ys : List ReportLine) → Lead s xs t → Lead t ys u → Lead s (xs ++ ys) u
leads_on s t u [] ys h k = subst (λ (v : ReportState). Lead v ys u) (sym h) k
leads_on s t u (x ∷ xs) ys h k = (h.0, h.1, leads_on h.0 t u xs ys h.2 k)

plan_part_leads : (lines : List PlanLine) (s t : PlanState) → Leads plan_format plan_steps s lines t → Lead (state.Plan s) (plan_part lines) (state.Plan t)
plan_part_leads [] s t h = ap (λ (u : PlanState). state.Plan u) h
plan_part_leads (l ∷ lines) s t h = (state.Plan h.0, ap as_plan h.1, plan_part_leads lines h.0 t h.2)

-- the report so far, with these steps
abbrev log_at : Plan → ℕ → List Step → ReportState
log_at p channel steps = state.Log (record { plan = p; channel = channel; steps = steps })

steps_lead : (p : Plan) (channel : ℕ) (before steps : List Step) → AreSteps steps → length before + length steps < 2 ^ 32 → Lead (log_at p channel before) (step_part steps) (log_at p channel (before ++ steps))
steps_lead p channel before [] fine few = ap (log_at p channel) (sym (append-nil before))
steps_lead p channel before (s ∷ steps) fine few =
    let next = next_few before s steps few in
    let at : ReportState = log_at p channel (before ++ s ∷ []) in (
      at,
      ap (as_log (record { plan = p; channel = channel; steps = before })) (added before s (has_hint_by s fine.0) (room before next.0)),
      subst (λ (ss : List Step). Lead at (step_part steps) (log_at p channel ss)) (append_assoc before (s ∷ []) steps) (steps_lead p channel (before ++ s ∷ []) steps fine.1 next.1),
    )

pub draft_leads : (d : Draft) → IsDraft d → Lead state.Start (draft_lines d) (state.End d)
draft_leads d is = (
  state.Plan plan_state.Start,
  refl,
  leads_on (state.Plan plan_state.Start) (state.Log d) (state.End d) (plan_part (plan_lines d.plan) ++ line.Channel d.channel ∷ step_part d.steps) (line.End ∷ [])
      (leads_on (state.Plan plan_state.Start) (state.Plan (plan_state.Body d.plan)) (state.Log d) (plan_part (plan_lines d.plan)) (line.Channel d.channel ∷ step_part d.steps)
      (plan_part_leads (plan_lines d.plan) plan_state.Start (plan_state.Body d.plan) (plan_leads d.plan is.plan.starts_rise is.plan.spots_rise is.plan.one_each))
      (log_at d.plan d.channel [], refl, steps_lead d.plan d.channel [] d.steps is.steps (first_few d.steps is.few)))
      (state.End d, refl, refl),
)

-- and they are fine

fine_append : (xs ys : List ReportLine) → AreFine xs → AreFine ys → AreFine (xs ++ ys)
fine_append [] ys h k = k
fine_append (x ∷ xs) ys h k = (h.0, fine_append xs ys h.1 k)

plan_part_fine : (lines : List PlanLine) → texts_of_plan.AreFine lines → AreFine (plan_part lines)
plan_part_fine [] h = tt
plan_part_fine (l ∷ lines) h = (plan_fine_in l h.0, plan_part_fine lines h.1)

step_part_fine : (steps : List Step) → AreSteps steps → AreFine (step_part steps)
step_part_fine [] h = tt
step_part_fine (s ∷ steps) h = (step_fits s h.0, step_part_fine steps h.1)

pub draft_fine : (d : Draft) → IsDraft d → AreFine (draft_lines d)
draft_fine d is = (
  (tt, (tt, (tt, tt))),
  fine_append (plan_part (plan_lines d.plan) ++ line.Channel d.channel ∷ step_part d.steps) (line.End ∷ [])
      (fine_append (plan_part (plan_lines d.plan)) (line.Channel d.channel ∷ step_part d.steps) (plan_part_fine (plan_lines d.plan) (texts_of_plan.plan_fine d.plan is.plan))
      ((tt, ((is.channel, tt), tt)), step_part_fine d.steps is.steps))
      ((tt, tt), tt),
)

-- lines that lead to a state are those that it says

-- what the lines keep of a draft
pub record IsGoodDraft (d : Draft) : Type 0 where
  pub plan : IsGoodPlan d.plan
  pub steps : AreSteps d.steps
  pub few : AreFew d.steps

abbrev pub IsGood : ReportState → Type 0
IsGood state.Start = Unit {0}
IsGood (state.Plan s) = steps_of_plan.IsGood s
IsGood (state.Log d) = IsGoodDraft d
IsGood (state.End d) = IsGoodDraft d

abbrev pub said : ReportState → List ReportLine
said state.Start = []
said (state.Plan s) = line.Header ∷ plan_part (steps_of_plan.said s)
said (state.Log d) = open_lines d
said (state.End d) = draft_lines d

-- what is said of the state after a line
abbrev IsNext : List ReportLine → ReportLine → ReportState → Type 0
IsNext before l t = IsGood t × (said t ≡ before ++ l ∷ [])

-- a line more of the plan
record IsPlanMore (s : PlanState) (l : PlanLine) (t : ReportState) : Type 0 where
  next : PlanState
  step : plan.step s l ≡ Ok next
  is : state.Plan next ≡ t

plan_more_by : (s : PlanState) (l : PlanLine) (t : ReportState) (found : Result PlanState Fault) → plan.step s l ≡ found → as_plan found ≡ Ok t → IsPlanMore s l t
plan_more_by s l t (Ok next) e h = record { next = next; step = e; is = ok_is (state.Plan next) t h }
plan_more_by s l t (Err fault) e h = cc

plan_kept : (s : PlanState) (l : PlanLine) (t : ReportState) → steps_of_plan.IsGood s → plan_more s l ≡ Ok t → IsNext (said (state.Plan s)) (line.Plan l) t
plan_kept s l t good h =
    let m = plan_more_by s l t (plan.step s l) refl h in
    let k = steps_of_plan.kept s m.next l good m.step in
    subst (IsNext (said (state.Plan s)) (line.Plan l)) m.is (
      k.0,
      ap (λ (ls : List PlanLine). line.Header ∷ plan_part ls) k.1 ∙ ap (λ (ls : List ReportLine). line.Header ∷ ls) (map-append (λ (x : PlanLine). line.Plan x) (steps_of_plan.said s) (l ∷ [])),
    )

channel_kept : (s : PlanState) (channel : ℕ) (t : ReportState) → steps_of_plan.IsGood s → with_channel s channel ≡ Ok t → IsNext (said (state.Plan s)) (line.Channel channel) t
channel_kept (plan_state.Body p) channel t good h =
    subst (IsNext (said (state.Plan (plan_state.Body p))) (line.Channel channel)) (ok_is (log_at p channel []) t h) (record { plan = good; steps = tt; few = omega arith }, refl)
channel_kept plan_state.Start channel t good h = cc
channel_kept (plan_state.Device name) channel t good h = cc

behind_plan_kept : (s : PlanState) (l : ReportLine) (t : ReportState) → steps_of_plan.IsGood s → behind_plan s l ≡ Ok t → IsNext (said (state.Plan s)) l t
behind_plan_kept s (line.Plan l) t good h = plan_kept s l t good h
behind_plan_kept s (line.Channel channel) t good h = channel_kept s channel t good h
behind_plan_kept s line.Header t good h = cc
behind_plan_kept s (line.Step x) t good h = cc
behind_plan_kept s line.End t good h = cc

all_more : {A : Type 0} (P : A → Type 0) (xs : List A) (x : A) → AllByRecursion P xs → P x → AllByRecursion P (xs ++ x ∷ [])
all_more P [] x h k = (k, tt)
all_more P (y ∷ xs) x h k = (h.0, all_more P xs x h.1 k)

-- a step more
record IsStepMore (d : Draft) (s : Step) (t : ReportState) : Type 0 where
  hint : IsTrue (has_hint s)
  few : AreFew (d.steps ++ s ∷ [])
  is : log_at d.plan d.channel (d.steps ++ s ∷ []) ≡ t

step_more_by : (d : Draft) (s : Step) (t : ReportState) (found : Result (List Step) Fault) → add_step d.steps s ≡ found → as_log d found ≡ Ok t → IsStepMore d s t
step_more_by d s t (Ok more) e h =
    let a = added_is d.steps s more e in
    record { hint = a.hint; few = a.few; is = ap (log_at d.plan d.channel) a.is ∙ ok_is (log_at d.plan d.channel more) t h }
step_more_by d s t (Err fault) e h = cc

step_kept : (d : Draft) (s : Step) (t : ReportState) → IsGoodDraft d → IsFine report_format (line.Step s) → with_step d s ≡ Ok t → IsNext (open_lines d) (line.Step s) t
step_kept d s t good fine h =
    let m = step_more_by d s t (add_step d.steps s) refl h in
    let front = plan_part (plan_lines d.plan) in
    subst (IsNext (open_lines d) (line.Step s)) m.is (
      record { plan = good.plan; steps = all_more IsStep d.steps s good.steps (step_is s fine m.hint); few = m.few },
      ap (λ (ls : List ReportLine). line.Header ∷ (front ++ line.Channel d.channel ∷ ls)) (map-append (λ (x : Step). line.Step x) d.steps (s ∷ []))
          ∙ ap (λ (ls : List ReportLine). line.Header ∷ ls) (sym (append_assoc front (line.Channel d.channel ∷ step_part d.steps) (line.Step s ∷ []))),
    )

behind_channel_kept : (d : Draft) (l : ReportLine) (t : ReportState) → IsGoodDraft d → IsFine report_format l → behind_channel d l ≡ Ok t → IsNext (open_lines d) l t
behind_channel_kept d (line.Step s) t good fine h = step_kept d s t good fine h
behind_channel_kept d line.End t good fine h = subst (IsNext (open_lines d) line.End) (ok_is (state.End d) t h) (good, refl)
behind_channel_kept d line.Header t good fine h = cc
behind_channel_kept d (line.Plan l) t good fine h = cc
behind_channel_kept d (line.Channel channel) t good fine h = cc

kept : (s t : ReportState) (l : ReportLine) → IsGood s → IsFine report_format l → step s l ≡ Ok t → IsNext (said s) l t
kept state.Start t line.Header good fine h = subst (IsNext [] line.Header) (ok_is (state.Plan plan_state.Start) t h) (tt, refl)
kept (state.Plan s) t l good fine h = behind_plan_kept s l t good h
kept (state.Log d) t l good fine h = behind_channel_kept d l t good fine h
kept s t l good fine h = cc

pub leads_said : (lines : List ReportLine) (s t : ReportState) → IsGood s → AreFine lines → Lead s lines t → IsGood t × (said t ≡ said s ++ lines)
leads_said [] s t good fine h = (subst IsGood h good, sym (ap said h) ∙ sym (append-nil (said s)))
leads_said (l ∷ lines) s t good fine h =
    let one = kept s h.0 l good fine.0 h.1 in
    let rest = leads_said lines h.0 t one.0 fine.1 h.2 in
    (rest.0, rest.1 ∙ ap (λ (ls : List ReportLine). ls ++ lines) one.1 ∙ append_assoc (said s) (l ∷ []) lines)

-- a draft whose lines are fine is a report

fine_parts : (xs ys : List ReportLine) → AreFine (xs ++ ys) → AreFine xs × AreFine ys
fine_parts [] ys h = (tt, h)
fine_parts (x ∷ xs) ys h = let r = fine_parts xs ys h.1 in ((h.0, r.0), r.1)

plan_part_of : (lines : List PlanLine) → AreFine (plan_part lines) → texts_of_plan.AreFine lines
plan_part_of [] h = tt
plan_part_of (l ∷ lines) h = (plan_fine_of l h.0, plan_part_of lines h.1)

pub draft_is : (d : Draft) → IsGoodDraft d → AreFine (draft_lines d) → IsDraft d
draft_is d good fine =
    let front = plan_part (plan_lines d.plan) in
    let all = fine_parts (front ++ line.Channel d.channel ∷ step_part d.steps) (line.End ∷ []) fine.1 in
    let parts = fine_parts front (line.Channel d.channel ∷ step_part d.steps) all.0 in
    record { plan = texts_of_plan.plan_is d.plan good.plan (plan_part_of (plan_lines d.plan) parts.0); channel = parts.1.0.1.0.0; steps = good.steps; few = good.few }

-- lines that are taken can be completed

and_then_end : (s next : ReportState) (l : ReportLine) → IsFine report_format l → step s l ≡ Ok next → CanEnd report_format report_steps next → CanEnd report_format report_steps s
and_then_end s next l fine h c = record {
  more = l ∷ c.more;
  last = c.last;
  end = c.end;
  fine = (fine, c.fine);
  leads = (next, h, c.leads);
  ends = c.ends;
}

lines_then_end : (s t : ReportState) (lines : List ReportLine) → AreFine lines → Lead s lines t → CanEnd report_format report_steps t → CanEnd report_format report_steps s
lines_then_end s t lines fine leads c = record {
  more = lines ++ c.more;
  last = c.last;
  end = c.end;
  fine = fine_append lines c.more fine c.fine;
  leads = leads_on s t c.last lines c.more leads c.leads;
  ends = c.ends;
}

at_end : (d : Draft) → CanEnd report_format report_steps (state.End d)
at_end d = record { more = []; last = state.End d; end = state.End d; fine = tt; leads = refl; ends = refl }

in_log : (d : Draft) → CanEnd report_format report_steps (state.Log d)
in_log d = and_then_end (state.Log d) (state.End d) line.End (tt, tt) refl (at_end d)

behind_body : (p : Plan) → CanEnd report_format report_steps (state.Plan (plan_state.Body p))
behind_body p = and_then_end (state.Plan (plan_state.Body p)) (log_at p 0 []) (line.Channel 0) (tt, ((omega arith, tt), tt)) refl (in_log (record { plan = p; channel = 0; steps = [] }))

-- where a plan may end
body_by : (s t : PlanState) → plan.end s ≡ Ok t → CanEnd report_format report_steps (state.Plan s)
body_by (plan_state.Body p) t h = behind_body p
body_by plan_state.Start t h = cc
body_by (plan_state.Device name) t h = cc

in_plan : (s : PlanState) → CanEnd report_format report_steps (state.Plan s)
in_plan s =
    let c = steps_of_plan.can_end s in
    lines_then_end (state.Plan s) (state.Plan c.last) (plan_part c.more) (plan_part_fine c.more c.fine) (plan_part_leads c.more s c.last c.leads) (body_by c.last c.end c.ends)

pub can_end : (s : ReportState) → CanEnd report_format report_steps s
can_end state.Start = and_then_end state.Start (state.Plan plan_state.Start) line.Header (tt, (tt, (tt, tt))) refl (in_plan plan_state.Start)
can_end (state.Plan s) = in_plan s
can_end (state.Log d) = in_log d
can_end (state.End d) = at_end d

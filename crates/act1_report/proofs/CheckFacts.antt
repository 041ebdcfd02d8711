-- A report has one verdict, and one that is accepted refutes the problem that it sets.
use Rattle.std.proofs.Common.{ℕ, ◌≡◌, ◌≢◌, ◌<◌, ◌≤◌, ◌⊎◌, IsTrue, true, List, [], get_or, map, Result, Ok, Err, refl, sym, ap, subst, ◌∙◌, inl, inr, arith}
use Rattle.std.specs.Prelude.{slice_get, OnOk}
use Rattle.std.proofs.Math.Bool.{Bool-set}
use Rattle.std.proofs.lemmas.Bool.{cases_order}
use Rattle.std.proofs.lemmas.Option.{slice_get-get_or}
use Rattle.act1_base.specs.FirstFault.{IsFirstFaultyLine}
use Rattle.act1_base.proofs.FirstFaults.{one_first}
use Rattle.act1_base.proofs.ListGets.{get_within}
use Rattle.act1_channel.specs.Acceptance.{IsAccepted}
use Rattle.act1_channel.specs.Ranges.{is_problem}
use Rattle.act1_channel.specs.declared.problem.Problem.{Problem}
use Rattle.act1_channel.specs.declared.problem.Step.{Step}
use Rattle.act1_channel.proofs.Refutes.{refutes}
use Rattle.act1_device.specs.declared.device.Device.{Device}
use Rattle.act1_groute.specs.Routes.{Demand, routes, interval, IsProblemOf}
use Rattle.act1_groute.specs.declared.wiring.Wiring.{Wiring}
use Rattle.act1_groute.proofs.ProblemSteps.{channels_count, has_channel}
use Rattle.act1_plan.specs.Legal.{Legal}
use Rattle.act1_refute.specs.Verdict.{IsFirstFault}
use Rattle.act1_report.specs.CheckSteps.{IsVerdictFor, IsVerdictOn}
use Rattle.act1_report.specs.Checks.{HasConnections, Sets, HasNone, IsAcceptedReport, HasFirstFault, IsUnfinished, ReportChecks, Refutes}
use Rattle.act1_report.specs.Laws.{OneAnswer}
use Rattle.act1_report.specs.Texts.{IsTextOf, IsReportText}
use Rattle.act1_report.specs.declared.fault.ReportFault.{ReportFault}
use Rattle.act1_report.specs.declared.fault.ReportFault.TheVariants as fault
use Rattle.act1_report.specs.declared.report.Report.{Report}
use Rattle.act1_report.proofs.ReportTexts.{one_report, never_both}
use Rattle.act1_table.proofs.NumberLaws.{some_is}
use mathlib.Core.HLevel.{is_prop→PathP}

-- a report sets one problem at most

same_channels : (a b : List (List Wiring)) → let r : Result (List (List Wiring)) Demand = Ok a in r ≡ Ok b → a ≡ b
same_channels a b h = cc

one_connections : (dev : Device) (r : Report) (ws vs : List Wiring) → HasConnections dev r ws → HasConnections dev r vs → ws ≡ vs
one_connections dev r ws vs h k =
    let same = same_channels h.channels k.channels (sym h.routed ∙ k.routed) in
    some_is ws vs (sym h.at ∙ ap (λ (channels : List (List Wiring)). slice_get channels r.channel) same ∙ k.at)

same_problem : (a b : Problem) → a.columns ≡ b.columns → a.k ≡ b.k → a.tracks ≡ b.tracks → a.connections ≡ b.connections → a ≡ b
same_problem a b columns k tracks connections = λ i. record {
  columns = columns i;
  k = k i;
  tracks = tracks i;
  connections = connections i;
  valid = is_prop→PathP
      (λ j. IsTrue (is_problem (columns j) (k j) (tracks j) (connections j)))
      (λ j. Bool-set (is_problem (columns j) (k j) (tracks j) (connections j)) true)
      a.valid b.valid i;
}

one_problem : (dev : Device) (r : Report) (p q : Problem) → Sets dev r p → Sets dev r q → p ≡ q
one_problem dev r p q h k =
    let same = one_connections dev r h.wirings k.wirings h.has k.has in
    same_problem p q (h.is.columns ∙ sym k.is.columns) (h.is.k_is ∙ sym k.is.k_is) (h.is.tracks ∙ sym k.is.tracks)
    (h.is.connections ∙ ap (λ (ws : List Wiring). map interval ws) same ∙ sym k.is.connections)

-- where there is no such channel there is none
pub no_channel : (dev : Device) (r : Report) → dev.rows < r.channel → HasNone dev r
no_channel dev r high = λ ws h.
    let count = channels_count dev h.channels (record { plan = r.plan; legal = h.legal; is = h.routed }) in
    let low = get_within h.channels r.channel ws h.at in
    absurd (omega (arith, count, low, high))

-- and else the report sets that of its channel
pub sets_that : (dev : Device) (r : Report) (p : Problem) (channels : List (List Wiring)) → Legal dev r.plan → routes dev r.plan ≡ Ok channels → r.channel ≤ dev.rows → IsProblemOf dev r.plan.k r.channel (get_or channels r.channel []) p → Sets dev r p
sets_that dev r p channels legal routed low is =
    let there = has_channel dev channels r.channel (record { plan = r.plan; legal = legal; is = routed }) low in
    record {
      wirings = get_or channels r.channel [];
      has = record { legal = legal; channels = channels; routed = routed; at = slice_get-get_or channels r.channel [] there };
      is = is;
    }

-- and has one verdict

module _ (p : Problem) (log : List Step) where
  never_later : (n m : ℕ) → IsFirstFault p log n → IsFirstFault p log m → n < m → ⊥
  never_later n m f g less = f.refused (g.before n f.step less f.there)

  one_fault : (n m : ℕ) → IsFirstFault p log n → IsFirstFault p log m → n ≡ m
  one_fault n m f g = by (cases_order n m)
    where
      by : (n ≡ m) ⊎ ((n < m) ⊎ (m < n)) → n ≡ m
      by (inl same) = same
      by (inr (inl less)) = absurd (never_later n m f g less)
      by (inr (inr more)) = absurd (never_later m n g f more)

module _ (dev : Device) (r : Report) where
  none_sets : (p : Problem) → HasNone dev r → Sets dev r p → ⊥
  none_sets p none h = none h.wirings h.has

  fault_or_accepted : (n : ℕ) → IsAcceptedReport dev r → HasFirstFault dev r n → ⊥
  fault_or_accepted n h k =
      let f = subst (λ (p : Problem). IsFirstFault p r.log.steps n) (one_problem dev r k.0 h.0 k.1 h.1) k.2 in
      f.refused (h.2.each n f.step f.there)

  fault_or_unfinished : (n : ℕ) → HasFirstFault dev r n → IsUnfinished dev r → ⊥
  fault_or_unfinished n k h =
      let f = subst (λ (p : Problem). IsFirstFault p r.log.steps n) (one_problem dev r k.0 h.0 k.1 h.1) k.2 in
      f.refused (h.2 n f.step f.there)

  unfinished_or_accepted : IsAcceptedReport dev r → IsUnfinished dev r → ⊥
  unfinished_or_accepted h k = k.3 h.2.last

  one_step : (n m : ℕ) → HasFirstFault dev r n → HasFirstFault dev r m → n ≡ m
  one_step n m h k = one_fault k.0 r.log.steps n m (subst (λ (p : Problem). IsFirstFault p r.log.steps n) (one_problem dev r h.0 k.0 h.1 k.1) h.2) k.2

  accepted_only : (a : Result (Unit {0}) ReportFault) → a ≢ Err fault.Memory → IsVerdictOn dev r a → IsAcceptedReport dev r → a ≡ Ok tt
  accepted_only (Ok u) some h k = refl
  accepted_only (Err (fault.Line number)) some h k = absurd h
  accepted_only (Err fault.Plan) some h k = absurd (none_sets k.0 h k.1)
  accepted_only (Err (fault.Step n)) some h k = absurd (fault_or_accepted n k h)
  accepted_only (Err fault.Unfinished) some h k = absurd (unfinished_or_accepted k h)
  accepted_only (Err fault.Memory) some h k = absurd (some refl)

  none_only : (a : Result (Unit {0}) ReportFault) → a ≢ Err fault.Memory → IsVerdictOn dev r a → HasNone dev r → a ≡ Err fault.Plan
  none_only (Ok u) some h k = absurd (none_sets h.0 k h.1)
  none_only (Err (fault.Line number)) some h k = absurd h
  none_only (Err fault.Plan) some h k = refl
  none_only (Err (fault.Step n)) some h k = absurd (none_sets h.0 k h.1)
  none_only (Err fault.Unfinished) some h k = absurd (none_sets h.0 k h.1)
  none_only (Err fault.Memory) some h k = absurd (some refl)

  fault_only : (a : Result (Unit {0}) ReportFault) (m : ℕ) → a ≢ Err fault.Memory → IsVerdictOn dev r a → HasFirstFault dev r m → a ≡ Err (fault.Step m)
  fault_only (Ok u) m some h k = absurd (fault_or_accepted m h k)
  fault_only (Err (fault.Line number)) m some h k = absurd h
  fault_only (Err fault.Plan) m some h k = absurd (none_sets k.0 h k.1)
  fault_only (Err (fault.Step n)) m some h k = ap (λ (i : ℕ). let x : Result (Unit {0}) ReportFault = Err (fault.Step i) in x) (one_step n m h k)
  fault_only (Err fault.Unfinished) m some h k = absurd (fault_or_unfinished m k h)
  fault_only (Err fault.Memory) m some h k = absurd (some refl)

  unfinished_only : (a : Result (Unit {0}) ReportFault) → a ≢ Err fault.Memory → IsVerdictOn dev r a → IsUnfinished dev r → a ≡ Err fault.Unfinished
  unfinished_only (Ok u) some h k = absurd (unfinished_or_accepted h k)
  unfinished_only (Err (fault.Line number)) some h k = absurd h
  unfinished_only (Err fault.Plan) some h k = absurd (none_sets k.0 h k.1)
  unfinished_only (Err (fault.Step n)) some h k = absurd (fault_or_unfinished n h k)
  unfinished_only (Err fault.Unfinished) some h k = refl
  unfinished_only (Err fault.Memory) some h k = absurd (some refl)

  one_verdict : (a b : Result (Unit {0}) ReportFault) → a ≢ Err fault.Memory → b ≢ Err fault.Memory → IsVerdictOn dev r a → IsVerdictOn dev r b → a ≡ b
  one_verdict a (Ok u) some other h k = accepted_only a some h k
  one_verdict a (Err (fault.Line number)) some other h k = absurd k
  one_verdict a (Err fault.Plan) some other h k = none_only a some h k
  one_verdict a (Err (fault.Step n)) some other h k = fault_only a n some h k
  one_verdict a (Err fault.Unfinished) some other h k = unfinished_only a some h k
  one_verdict a (Err fault.Memory) some other h k = absurd (other refl)

-- bytes that are no text of a report are refused at a line
record IsLine (bytes : List ℕ) (a : Result (Unit {0}) ReportFault) : Type 0 where
  number : ℕ
  is : a ≡ Err (fault.Line number)
  faulty : IsFirstFaultyLine IsReportText bytes number

-- and others are those of a report with a verdict
record IsOn (dev : Device) (bytes : List ℕ) (a : Result (Unit {0}) ReportFault) : Type 0 where
  report : Report
  text : IsTextOf bytes report
  verdict : IsVerdictOn dev report a

module _ (dev : Device) (bytes : List ℕ) where
  line_or_verdict : (a : Result (Unit {0}) ReportFault) → a ≢ Err fault.Memory → ReportChecks dev bytes a → IsLine bytes a ⊎ IsOn dev bytes a
  line_or_verdict (Ok u) some h = inr (record { report = h.0; text = h.1; verdict = h.2 })
  line_or_verdict (Err (fault.Line number)) some h = inl (record { number = number; is = refl; faulty = h })
  line_or_verdict (Err fault.Plan) some h = inr (record { report = h.0; text = h.1; verdict = h.2 })
  line_or_verdict (Err (fault.Step n)) some h = inr (record { report = h.0; text = h.1; verdict = h.2 })
  line_or_verdict (Err fault.Unfinished) some h = inr (record { report = h.0; text = h.1; verdict = h.2 })
  line_or_verdict (Err fault.Memory) some h = absurd (some refl)

  one_by : (a b : Result (Unit {0}) ReportFault) → a ≢ Err fault.Memory → b ≢ Err fault.Memory → IsLine bytes a ⊎ IsOn dev bytes a → IsLine bytes b ⊎ IsOn dev bytes b → a ≡ b
  one_by a b some other (inl h) (inl k) =
      h.is ∙ ap (λ (n : ℕ). let x : Result (Unit {0}) ReportFault = Err (fault.Line n) in x) (one_first IsReportText bytes h.number k.number h.faulty k.faulty) ∙ sym k.is
  one_by a b some other (inl h) (inr k) = absurd (never_both bytes k.report h.number k.text h.faulty)
  one_by a b some other (inr h) (inl k) = absurd (never_both bytes h.report k.number h.text k.faulty)
  one_by a b some other (inr h) (inr k) =
      one_verdict dev k.report a b some other (subst (λ (r : Report). IsVerdictOn dev r a) (one_report bytes h.report k.report h.text k.text) h.verdict) k.verdict

pub one_answer_is : OneAnswer
one_answer_is dev bytes a b some other h k = one_by dev bytes a b some other (line_or_verdict dev bytes a some h) (line_or_verdict dev bytes b other k)

-- what is said of a report that was read

pub on_report : (dev : Device) (bytes : List ℕ) (r : Report) (a : Result (Unit {0}) ReportFault) → IsTextOf bytes r → IsVerdictOn dev r a → ReportChecks dev bytes a
on_report dev bytes r (Ok u) text h = (r, text, h)
on_report dev bytes r (Err (fault.Line number)) text h = absurd h
on_report dev bytes r (Err fault.Plan) text h = (r, text, h)
on_report dev bytes r (Err (fault.Step n)) text h = (r, text, h)
on_report dev bytes r (Err fault.Unfinished) text h = (r, text, h)
on_report dev bytes r (Err fault.Memory) text h = tt

-- and of a problem that it sets
pub on_problem : (dev : Device) (r : Report) (p : Problem) (a : Result (Unit {0}) ReportFault) → Sets dev r p → IsVerdictFor p r.log.steps a → IsVerdictOn dev r a
on_problem dev r p (Ok u) sets h = (p, sets, h)
on_problem dev r p (Err (fault.Line number)) sets h = absurd h
on_problem dev r p (Err fault.Plan) sets h = absurd h
on_problem dev r p (Err (fault.Step n)) sets h = (p, sets, h)
on_problem dev r p (Err fault.Unfinished) sets h = (p, sets, h.0, h.1)
on_problem dev r p (Err fault.Memory) sets h = tt

-- the problem of a report that is accepted has no assignment
accepted_refutes : (dev : Device) (bytes : List ℕ) (r : Report) → IsTextOf bytes r → IsAcceptedReport dev r → Refutes dev bytes
accepted_refutes dev bytes r text h = λ other p is sets.
    let same = one_report bytes other r is text in
    let one = one_problem dev r h.0 p h.1 (subst (λ (x : Report). Sets dev x p) same sets) in
    refutes p r.log.steps (subst (λ (q : Problem). IsAccepted q r.log.steps) one h.2)

pub refuted_if : (dev : Device) (bytes : List ℕ) (r : Report) (a : Result (Unit {0}) ReportFault) → IsTextOf bytes r → IsVerdictOn dev r a → OnOk a (Refutes dev bytes)
refuted_if dev bytes r (Ok u) text h = accepted_refutes dev bytes r text h
refuted_if dev bytes r (Err fault) text h = tt

-- The texts of plans are those that the lines of plans make, and they are read line by line.
use Rattle.std.proofs.Common.{ℕ, ◌≡◌, IsTrue, length, List, [], ◌∷◌, ◌++◌, Option, Some, None, Result, Ok, Err, refl, sym, ap, subst, ◌∙◌, arith}
use Rattle.std.specs.Prelude.{IfSome}
use Rattle.std.specs.List.{AllByRecursion}
use Rattle.act1_base.specs.FirstFault.{IsFormatOf}
use Rattle.act1_base.specs.Names.{is_name}
use Rattle.act1_base.specs.Texts.{reading}
use Rattle.act1_base.specs.declared.texts.TextFault.{TextFault}
use Rattle.act1_circuit.specs.declared.circuit.Output.{Output}
use Rattle.act1_circuit.specs.declared.circuit.Source.{Source}
use Rattle.act1_circuit.specs.declared.circuit.Spot.{Spot}
use Rattle.act1_circuit.specs.declared.circuit.Start.{Start}
use Rattle.act1_table.specs.Formats.{IsFine, IsLinesTo, OwesTexts, text_of}
use Rattle.act1_table.proofs.ExactLaws.{plain_exact}
use Rattle.act1_table.proofs.FormatLaws.{is_format, lines_are_read, read_is_lines}
use Rattle.act1_plan.specs.Lines.{plan_table, given_of, plan_format, clock_lines, input_lines, output_lines, start_lines, module_lines, plan_lines}
use Rattle.act1_plan.specs.Plans.{IsOutput, IsStart, ArePins, IsSpot, IsPlan}
use Rattle.act1_plan.specs.Reads.{IsTextOf, IsPlanText}
use Rattle.act1_plan.specs.Steps.{Fault, plan_steps, plan_rules}
use Rattle.act1_plan.specs.declared.plan.Plan.{Plan}
use Rattle.act1_plan.specs.declared.line.PlanLine.{PlanLine}
use Rattle.act1_plan.specs.declared.line.PlanState.{PlanState}
use Rattle.act1_plan.specs.declared.line.PlanState.TheVariants as state
use Rattle.act1_plan.proofs.PlanWrites.{text_of_plan}
use Rattle.act1_plan.proofs.PlanLines.{source_fits, source_is, pins_fit, pins_are, plan_lines_are}
use Rattle.act1_plan.proofs.PlanSteps.{IsGoodPlan, plan_leads, lines_are_plan, can_end}

abbrev pub AreFine : List PlanLine → Type 0
AreFine lines = AllByRecursion (IsFine plan_format) lines

abbrev AreNames : List (List ℕ) → Type 0
AreNames names = AllByRecursion (λ (name : List ℕ). IsTrue (is_name name)) names

-- the lines of a plan that a text can say are fine

fine_append : (xs ys : List PlanLine) → AreFine xs → AreFine ys → AreFine (xs ++ ys)
fine_append [] ys h k = k
fine_append (x ∷ xs) ys h k = (h.0, fine_append xs ys h.1 k)

clock_fine : (clock : Option (List ℕ)) → IfSome clock (λ name. IsTrue (is_name name)) → AreFine (clock_lines clock)
clock_fine None h = tt
clock_fine (Some name) h = ((tt, (h, tt)), tt)

inputs_fine : (names : List (List ℕ)) → AreNames names → AreFine (input_lines names)
inputs_fine [] h = tt
inputs_fine (name ∷ names) h = ((tt, (h.0, tt)), inputs_fine names h.1)

outputs_fine : (outputs : List Output) → AllByRecursion IsOutput outputs → AreFine (output_lines outputs)
outputs_fine [] h = tt
outputs_fine (o ∷ outputs) h = ((tt, (source_fits o.source h.0.0, (h.0.1, tt))), outputs_fine outputs h.1)

starts_fine : (starts : List Start) → AllByRecursion IsStart starts → AreFine (start_lines starts)
starts_fine [] h = tt
starts_fine (s ∷ starts) h = ((tt, ((h.0.0, tt), ((h.0.1, tt), (h.0.2, tt)))), starts_fine starts h.1)

modules_fine : (spots : List Spot) (modules : List (List Source)) → AllByRecursion IsSpot spots → AllByRecursion ArePins modules → AreFine (module_lines spots modules)
modules_fine [] modules h k = tt
modules_fine (s ∷ spots) [] h k = tt
modules_fine (s ∷ spots) (pins ∷ modules) h k = ((tt, ((h.0.0, tt), ((h.0.1, tt), pins_fit 8 pins k.0.0 k.0.1))), modules_fine spots modules h.1 k.1)

pub plan_fine : (p : Plan) → IsPlan p → AreFine (plan_lines p)
plan_fine p is =
    let c = p.placed.circuit in
    let clocks = clock_lines c.clock in
    let ins = input_lines c.inputs in
    let outs = output_lines c.outputs in (
      (tt, (is.device, tt)),
      (
        (tt, ((is.k, tt), tt)),
        fine_append (((clocks ++ ins) ++ outs) ++ start_lines c.starts) (module_lines p.placed.spots c.modules)
            (fine_append ((clocks ++ ins) ++ outs) (start_lines c.starts)
            (fine_append (clocks ++ ins) outs (fine_append clocks ins (clock_fine c.clock is.clock) (inputs_fine c.inputs is.inputs)) (outputs_fine c.outputs is.outputs))
            (starts_fine c.starts is.starts))
            (modules_fine p.placed.spots c.modules is.spots is.modules),
      ),
    )

-- and a plan whose lines are fine is one that a text can say

fine_parts : (xs ys : List PlanLine) → AreFine (xs ++ ys) → AreFine xs × AreFine ys
fine_parts [] ys h = (tt, h)
fine_parts (x ∷ xs) ys h = let r = fine_parts xs ys h.1 in ((h.0, r.0), r.1)

clock_is : (clock : Option (List ℕ)) → AreFine (clock_lines clock) → IfSome clock (λ name. IsTrue (is_name name))
clock_is None h = tt
clock_is (Some name) h = h.0.1.0

inputs_are : (names : List (List ℕ)) → AreFine (input_lines names) → AreNames names
inputs_are [] h = tt
inputs_are (name ∷ names) h = (h.0.1.0, inputs_are names h.1)

outputs_are : (outputs : List Output) → AreFine (output_lines outputs) → AllByRecursion IsOutput outputs
outputs_are [] h = tt
outputs_are (o ∷ outputs) h = ((source_is o.source h.0.1.0, h.0.1.1.0), outputs_are outputs h.1)

starts_are : (starts : List Start) → AreFine (start_lines starts) → AllByRecursion IsStart starts
starts_are [] h = tt
starts_are (s ∷ starts) h = ((h.0.1.0.0, h.0.1.1.0.0, h.0.1.1.1.0), starts_are starts h.1)

modules_are : (spots : List Spot) (modules : List (List Source)) → length spots ≡ length modules → AreFine (module_lines spots modules) → AllByRecursion IsSpot spots × AllByRecursion ArePins modules
modules_are [] [] e h = (tt, tt)
modules_are [] (pins ∷ modules) e h = absurd (omega (arith, e))
modules_are (s ∷ spots) [] e h = absurd (omega (arith, e))
modules_are (s ∷ spots) (pins ∷ modules) e h =
    let r = modules_are spots modules (omega (arith, e)) h.1 in
    (((h.0.1.0.0, h.0.1.1.0.0), r.0), (pins_are 8 pins h.0.1.1.1, r.1))

pub plan_is : (p : Plan) → IsGoodPlan p → AreFine (plan_lines p) → IsPlan p
plan_is p good h =
    let c = p.placed.circuit in
    let clocks = clock_lines c.clock in
    let ins = input_lines c.inputs in
    let outs = output_lines c.outputs in
    let last = fine_parts (((clocks ++ ins) ++ outs) ++ start_lines c.starts) (module_lines p.placed.spots c.modules) h.1.1 in
    let held = fine_parts ((clocks ++ ins) ++ outs) (start_lines c.starts) last.0 in
    let out = fine_parts (clocks ++ ins) outs held.0 in
    let first = fine_parts clocks ins out.0 in
    let at = modules_are p.placed.spots c.modules good.one_each last.1 in
    record {
      device = h.0.1.0;
      k = h.1.0.1.0.0;
      clock = clock_is c.clock first.0;
      inputs = inputs_are c.inputs first.1;
      outputs = outputs_are c.outputs out.1;
      starts = starts_are c.starts held.1;
      starts_rise = good.starts_rise;
      modules = at.1;
      spots = at.0;
      spots_rise = good.spots_rise;
      one_each = good.one_each;
    }

-- texts and lines

text_lines : (bytes : List ℕ) (p : Plan) → IsTextOf bytes p → IsLinesTo plan_format plan_steps bytes (state.Body p)
text_lines bytes p is = record { lines = plan_lines p; last = state.Body p; fine = plan_fine p is.0; leads = plan_leads p is.0.starts_rise is.0.spots_rise is.0.one_each; ends = refl; text = is.1 ∙ text_of_plan p is.0 }

-- the plan whose text the bytes are that are read to a state
record IsOf (bytes : List ℕ) (ended : PlanState) : Type 0 where
  plan : Plan
  ended_is : ended ≡ state.Body plan
  text : IsTextOf bytes plan

lines_text : (bytes : List ℕ) (ended : PlanState) → IsLinesTo plan_format plan_steps bytes ended → IsOf bytes ended
lines_text bytes ended lines =
    let r = lines_are_plan lines.lines lines.last ended lines.leads lines.ends in
    let p = r.0 in
    let is = plan_is p r.2 (subst AreFine r.3 lines.fine) in
    record { plan = p; ended_is = r.1; text = (is, lines.text ∙ ap (text_of plan_format) r.3 ∙ sym (text_of_plan p is)) }

owes : OwesTexts plan_format plan_steps IsPlanText
owes = record {
  own = plan_lines_are;
  exact = λ s t l fine h. plain_exact plan_table (given_of l) refl;
  spelled = λ bytes is. (state.Body is.0, text_lines bytes is.0 is.1);
  said = λ bytes ended lines. let r = lines_text bytes ended lines in (r.plan, r.text);
  completes = λ lines s fine leads. can_end s;
}

-- the rules are those of the texts of plans
pub plan_rules_are : IsFormatOf plan_rules IsPlanText
plan_rules_are = is_format plan_format plan_steps IsPlanText owes

same_plan : (a b : Plan) → state.Body a ≡ state.Body b → a ≡ b
same_plan a b h = cc

ok_is : {A B : Type 0} (a b : A) → let r : Result A B = Ok a in r ≡ Ok b → a ≡ b
ok_is a b h = cc

read_of : (bytes : List ℕ) (s : PlanState) → reading plan_rules bytes ≡ Ok s → IsOf bytes s
read_of bytes s h = lines_text bytes s (read_is_lines plan_format plan_lines_are plan_steps owes.exact bytes s h)

-- the text of a plan is read as that plan
text_read : (bytes : List ℕ) (p : Plan) → IsTextOf bytes p → reading plan_rules bytes ≡ Ok (state.Body p)
text_read bytes p is = lines_are_read plan_format plan_lines_are plan_steps bytes (state.Body p) (text_lines bytes p is)

-- a reading ends at a plan
pub ends_at_plan : (bytes : List ℕ) (s : PlanState) → reading plan_rules bytes ≡ Ok s → (p : Plan) × (s ≡ state.Body p)
ends_at_plan bytes s h = let r = read_of bytes s h in (r.plan, r.ended_is)

pub first_read : (bytes : List ℕ) (s : PlanState) (p : Plan) → reading plan_rules bytes ≡ Ok s → s ≡ state.Body p → IsTextOf bytes p
first_read bytes s p h is = let r = read_of bytes s h in subst (IsTextOf bytes) (same_plan r.plan p (sym r.ended_is ∙ is)) r.text

pub again_read : (bytes : List ℕ) (s : PlanState) (p other : Plan) → reading plan_rules bytes ≡ Ok s → s ≡ state.Body p → IsTextOf bytes other → p ≡ other
again_read bytes s p other h is text = same_plan p other (sym is ∙ ok_is s (state.Body other) (sym h ∙ text_read bytes other text))

-- the text of a plan has no faulty line
pub never_refused : (bytes : List ℕ) (fault : TextFault Fault) (p : Plan) → reading plan_rules bytes ≡ Err fault → IsTextOf bytes p → ⊥
never_refused bytes fault p h text = let read = text_read bytes p text in cc

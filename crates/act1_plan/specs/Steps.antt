-- What the lines of a plan's text do, one after the other.
use Rattle.std.specs.Prelude.{ℕ, Bool, true, false, ◌&&◌, nat_lt, List, [], ◌∷◌, ◌++◌, Option, Some, None, Result, Ok, Err}
use Rattle.act1_base.specs.Texts.{LineRules}
use Rattle.act1_table.specs.Formats.{LineSteps, rules_of}
use Rattle.act1_circuit.specs.declared.circuit.Circuit.{Circuit}
use Rattle.act1_circuit.specs.declared.circuit.Output.{Output}
use Rattle.act1_circuit.specs.declared.circuit.Source.{Source}
use Rattle.act1_circuit.specs.declared.circuit.Spot.{Spot}
use Rattle.act1_circuit.specs.declared.circuit.Start.{Start}
use Rattle.act1_plan.specs.Lines.{plan_format}
use Rattle.act1_plan.specs.Order.{spot_is_before}
use Rattle.act1_plan.specs.declared.plan.Plan.{Plan}
use Rattle.act1_plan.specs.declared.line.PlanLine.{PlanLine}
use Rattle.act1_plan.specs.declared.line.PlanLine.TheVariants as line
use Rattle.act1_plan.specs.declared.line.PlanState.{PlanState}
use Rattle.act1_plan.specs.declared.line.PlanState.TheVariants as state

-- what is wrong with a line: all faults are one
abbrev pub Fault : Type 0
Fault = Unit {0}

-- the plan, if the test was passed
abbrev pub if_so : Bool → Plan → Result PlanState Fault
if_so true plan = Ok (state.Body plan)
if_so false plan = Err tt

-- a plan of nothing
abbrev pub empty_plan : List ℕ → ℕ → Plan
empty_plan device k =
    record { device = device; k = k; placed = record { circuit = record { clock = None; inputs = []; modules = []; outputs = []; starts = [] }; spots = [] } }

-- the plan with another circuit
abbrev pub with_circuit : Plan → Circuit → Plan
with_circuit plan circuit = record { device = plan.device; k = plan.k; placed = record { circuit = circuit; spots = plan.placed.spots } }

abbrev pub with_clock : Plan → List ℕ → Plan
with_clock plan name =
    let c = plan.placed.circuit in
    with_circuit plan (record { clock = Some name; inputs = c.inputs; modules = c.modules; outputs = c.outputs; starts = c.starts })

abbrev pub with_input : Plan → List ℕ → Plan
with_input plan name =
    let c = plan.placed.circuit in
    with_circuit plan (record { clock = c.clock; inputs = c.inputs ++ name ∷ []; modules = c.modules; outputs = c.outputs; starts = c.starts })

abbrev pub with_output : Plan → Output → Plan
with_output plan output =
    let c = plan.placed.circuit in
    with_circuit plan (record { clock = c.clock; inputs = c.inputs; modules = c.modules; outputs = c.outputs ++ output ∷ []; starts = c.starts })

abbrev pub with_start : Plan → Start → Plan
with_start plan start =
    let c = plan.placed.circuit in
    with_circuit plan (record { clock = c.clock; inputs = c.inputs; modules = c.modules; outputs = c.outputs; starts = c.starts ++ start ∷ [] })

abbrev pub with_module : Plan → Spot → List Source → Plan
with_module plan spot pins =
    let c = plan.placed.circuit in
    record {
      device = plan.device;
      k = plan.k;
      placed = record {
        circuit = record { clock = c.clock; inputs = c.inputs; modules = c.modules ++ pins ∷ []; outputs = c.outputs; starts = c.starts };
        spots = plan.placed.spots ++ spot ∷ [];
      };
    }

abbrev pub is_empty : {A : Type 0} → List A → Bool
is_empty [] = true
is_empty (x ∷ xs) = false

abbrev pub has_none : Option (List ℕ) → Bool
has_none None = true
has_none (Some name) = false

-- the last of the elements comes before this one, or there is none
abbrev pub comes_after : {A : Type 0} → (A → A → Bool) → List A → A → Bool
comes_after before [] x = true
comes_after before (y ∷ []) x = before y x
comes_after before (y ∷ z ∷ ys) x = comes_after before (z ∷ ys) x

abbrev pub start_is_before : Start → Start → Bool
start_is_before a b = nat_lt a.module b.module

-- each kind of line comes before all lines of the kinds behind it, and starts and modules rise
abbrev pub takes_start : Circuit → Start → Bool
takes_start c start = is_empty c.modules && comes_after start_is_before c.starts start

abbrev pub takes_output : Circuit → Bool
takes_output c = is_empty c.modules && is_empty c.starts

abbrev pub takes_input : Circuit → Bool
takes_input c = takes_output c && is_empty c.outputs

abbrev pub takes_clock : Circuit → Bool
takes_clock c = takes_input c && (is_empty c.inputs && has_none c.clock)

-- the line may follow behind `k`
abbrev pub takes : Plan → PlanLine → Bool
takes plan (line.Clock name) = takes_clock plan.placed.circuit
takes plan (line.Input name) = takes_input plan.placed.circuit
takes plan (line.Output output) = takes_output plan.placed.circuit
takes plan (line.Start start) = takes_start plan.placed.circuit start
takes plan (line.Module spot pins) = comes_after spot_is_before plan.placed.spots spot
takes plan _ = false

-- the plan with what the line says
abbrev pub with_line : Plan → PlanLine → Plan
with_line plan (line.Clock name) = with_clock plan name
with_line plan (line.Input name) = with_input plan name
with_line plan (line.Output output) = with_output plan output
with_line plan (line.Start start) = with_start plan start
with_line plan (line.Module spot pins) = with_module plan spot pins
with_line plan _ = plan

-- what a line does: `device` and `k` come first
abbrev pub step : PlanState → PlanLine → Result PlanState Fault
step state.Start (line.Device name) = Ok (state.Device name)
step (state.Device name) (line.K k) = Ok (state.Body (empty_plan name k))
step (state.Body plan) line = if_so (takes plan line) (with_line plan line)
step _ _ = Err tt

-- a text may end behind `k`, and behind each line that follows it
abbrev pub end : PlanState → Result PlanState Fault
end (state.Body plan) = Ok (state.Body plan)
end _ = Err tt

abbrev pub plan_steps : LineSteps PlanLine PlanState Fault
plan_steps = record { start = state.Start; step = step; unread = λ s. tt; unended = λ s. tt; end = end }

-- the rules by which the text of a plan is read
abbrev pub plan_rules : LineRules PlanState Fault
plan_rules = rules_of plan_format plan_steps

-- The laws of ample devices and of wide channels.
use Rattle.std.specs.Prelude.{ℕ, ◌≡◌, ◌+◌, ◌^◌, ◌≤◌, ◌⊎◌, List, [], length, slice_get, Some, Result, Ok, Err}
use Rattle.act1_blif.specs.declared.blif.Blif.{Blif}
use Rattle.act1_blif.specs.Need.{need}
use Rattle.act1_device.specs.declared.device.Device.{Device}
use Rattle.act1_channel.specs.declared.problem.Problem.{Problem}
use Rattle.act1_channel.specs.declared.problem.Choice.{Choice}
use Rattle.act1_channel.specs.Assignment.{Assigns}
use Rattle.act1_plan.specs.declared.plan.Plan.{Plan}
use Rattle.act1_plan.specs.Legal.{Legal}
use Rattle.act1_groute.specs.declared.wiring.Wiring.{Wiring}
use Rattle.act1_groute.specs.Nets.{nets}
use Rattle.act1_groute.specs.Routes.{routes, IsProblemOf}
use Rattle.act1_search.specs.declared.verdict.Verdict.{Verdict}
use Rattle.act1_search.specs.declared.verdict.Verdict.TheVariants.{Assigned}
use Rattle.act1_search.specs.declared.verdict.SearchStop.{SearchStop}
use Rattle.act1_search.specs.declared.verdict.SearchStop.TheVariants as stop
use Rattle.act1_search.specs.Answers.{IsAnswer}
use Rattle.act1_search.specs.Search.{EndsInConflict, AreConflicts, EndsRefuted, HasConflict}
use Rattle.act1_ample.specs.Ample.{IsWideFor, IsAmple, IsWide}

-- the plan has routes, and the problem of each of its channels is wide
pub record RoutesWidely (dev : Device) (plan : Plan) : Type 0 where
  pub channels : List (List Wiring)
  pub routed : routes dev plan ≡ Ok channels
  pub wide : (h : ℕ) (ws : List Wiring) (p : Problem) → slice_get channels h ≡ Some ws → IsProblemOf dev plan.k h ws p → IsWide p

-- on a device that is wide for its nets, the rule finds a wire for each net and channel of a legal plan
abbrev pub RoutesExist : Type 0
RoutesExist = (dev : Device) (plan : Plan) → Legal dev plan → IsWideFor dev (length (nets plan)) → (channels : List (List Wiring)) × (routes dev plan ≡ Ok channels)

-- and each channel of a routed plan is wide
abbrev pub ChannelsAreWide : Type 0
ChannelsAreWide = (dev : Device) (plan : Plan) (channels : List (List Wiring)) (h : ℕ) (ws : List Wiring) (p : Problem) → IsWideFor dev (length (nets plan)) → routes dev plan ≡ Ok channels
    → slice_get channels h ≡ Some ws → IsProblemOf dev plan.k h ws p → IsWide p

-- on a device that is wide for so many nets, a legal plan of at most so many has routes, and its channels are wide
abbrev pub WidePlansRoute : Type 0
WidePlansRoute = (dev : Device) (plan : Plan) (count : ℕ) → Legal dev plan → IsWideFor dev count → length (nets plan) ≤ count → RoutesWidely dev plan

-- on a device that is ample for a netlist, so does a legal plan with the netlist's inputs and at most as many modules as it needs
abbrev pub AmplePlansRoute : Type 0
AmplePlansRoute = (dev : Device) (net : Blif) (plan : Plan) → IsAmple dev net → Legal dev plan → length plan.placed.circuit.inputs ≡ length net.inputs → length plan.placed.circuit.modules ≤ need net
    → RoutesWidely dev plan

-- no descent of the search of a wide channel ends in a conflict
abbrev pub WideIsCalm : Type 0
WideIsCalm = (p : Problem) → IsWide p → (chosen : List Choice) → EndsInConflict p [] chosen → ⊥

-- so its search has no conflicts at all
abbrev pub NoConflicts : Type 0
NoConflicts = (p : Problem) → IsWide p → (steps : List (List Choice)) → AreConflicts p steps → steps ≡ []

-- it is never refuted, and has no conflict of any number
abbrev pub WideIsAssigned : Type 0
WideIsAssigned = (p : Problem) → IsWide p → ((steps : List (List Choice)) → EndsRefuted p steps → ⊥) × ((number : ℕ) (chosen : List Choice) → HasConflict p number chosen → ⊥)

-- it has an assignment
abbrev pub WideHasAssignment : Type 0
WideHasAssignment = (p : Problem) → IsWide p → (tracks : List ℕ) × Assigns p tracks

-- so whatever the budget, the search of a wide channel answers an assignment, or finds no memory
abbrev pub WideIsAnswered : Type 0
WideIsAnswered = (p : Problem) (budget : ℕ) (answer : Result Verdict SearchStop) → IsWide p → IsAnswer p budget answer → ((tracks : List ℕ) × (answer ≡ Ok (Assigned tracks))) ⊎ (answer ≡ Err stop.Memory)

-- a budget of (1 + T)^n, with T tracks and n connections, is never spent
abbrev pub EnoughIsNotSpent : Type 0
EnoughIsNotSpent = (p : Problem) (budget conflicts : ℕ) → (1 + length p.tracks) ^ length p.connections ≤ budget → IsAnswer p budget (Err (stop.Spent conflicts)) → ⊥

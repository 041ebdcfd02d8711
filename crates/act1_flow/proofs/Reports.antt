-- The report of a channel that has no assignment is one that its check accepts.
use Rattle.std.proofs.Common.{ℕ, ◌≡◌, ◌≢◌, ◌≤◌, ◌<◌, IsTrue, List, [], ◌∷◌, ◌++◌, length, map, get_or, take, Option, Some, None, All, refl, arith, length-take}
use Rattle.std.specs.Prelude.{IfSome}
use Rattle.std.specs.List.{AllByRecursion}
use Rattle.std.proofs.lemmas.List.{length-map}
use Rattle.std.proofs.lemmas.List.Elements.{All-from_get_or, All-weaker, recursion_from_All}
use Rattle.std.proofs.lemmas.Option.{slice_get-get_or}
use Rattle.act1_base.specs.Names.{is_name}
use Rattle.act1_base.proofs.ListGets.{get_within}
use Rattle.act1_channel.specs.declared.problem.Choice.{Choice}
use Rattle.act1_channel.specs.declared.problem.Hint.{Hint}
use Rattle.act1_channel.specs.declared.problem.Hint.TheVariants as hint
use Rattle.act1_channel.specs.declared.problem.Problem.{Problem}
use Rattle.act1_channel.specs.declared.problem.Step.{Step}
use Rattle.act1_channel.specs.Acceptance.{AreAccepted, IsAcceptedStep, IsInRange, LeadToConflict, choices_of}
use Rattle.act1_channel.specs.Clauses.{Fact, taken, IsClause}
use Rattle.act1_channel.proofs.Breaks.{sizes}
use Rattle.act1_circuit.specs.declared.circuit.Circuit.{Circuit}
use Rattle.act1_circuit.specs.declared.circuit.Output.{Output}
use Rattle.act1_circuit.specs.declared.circuit.Source.{Source}
use Rattle.act1_circuit.specs.declared.circuit.Source.TheVariants as source
use Rattle.act1_circuit.specs.declared.circuit.Spot.{Spot}
use Rattle.act1_circuit.specs.declared.circuit.Start.{Start}
use Rattle.act1_circuit.specs.Range.{HasSource, InRange}
use Rattle.act1_device.specs.declared.device.Device.{Device}
use Rattle.act1_fuses.proofs.ReadLaw.{device_name, few_columns, few_rows}
use Rattle.act1_fuses.proofs.ReadWhole.{fine_device}
use Rattle.act1_logtext.specs.Logs.{AreSteps}
use Rattle.act1_logtext.specs.StepLines.{IsChoice, IsHint, IsStep}
use Rattle.act1_plan.specs.declared.plan.Plan.{Plan}
use Rattle.act1_plan.specs.Legal.{IsOnDevice, Legal, output_names, start_names}
use Rattle.act1_plan.specs.Plans.{ArePins, IsOutput, IsPlan, IsSource, IsSpot, IsStart}
use Rattle.act1_report.specs.Checks.{IsAcceptedReport}
use Rattle.act1_report.specs.Texts.{IsReport}
use Rattle.act1_report.specs.declared.report.Report.{Report}
use Rattle.act1_flow.specs.Flow.{IsChecked}
use Rattle.act1_groute.proofs.ProblemSteps.{channels_count}

-- ---- the numbers of accepted steps fit their fields

module _ (p : Problem) (steps : List (List Choice)) (few : length steps ≤ 4294967295) where
  hint_fits : (h : Hint) → IsClause p steps h → IsHint h
  hint_fits (hint.AtLeast c) k = let most = (sizes p).2 in omega (arith, k, most)
  hint_fits (hint.Clash c d t) k =
      let (low, high, track, clash) = k in
      let (some, tracks, connections) = sizes p in
      (omega (arith, low, high, connections), omega (arith, high, connections), omega (arith, track, tracks))
  hint_fits (hint.Step n) k = omega (arith, k, few)

  -- each of hints that lead to a conflict names a clause, and there is one
  hints_fit : (facts : List Fact) (hints : List Hint) → LeadToConflict p steps facts hints → AllByRecursion IsHint hints
  hints_fit facts [] k = tt
  hints_fit facts (h ∷ []) k = (hint_fits h k.0, tt)
  hints_fit facts (h ∷ g ∷ hints) (f, unit, rest) = (hint_fits h unit.clause, hints_fit (facts ++ f ∷ []) (g ∷ hints) rest)

  some_hint : (facts : List Fact) (hints : List Hint) → LeadToConflict p steps facts hints → hints ≢ []
  some_hint facts [] k = absurd k
  some_hint facts (h ∷ hints) k = λ e. cc

  choice_fits : (c : Choice) → IsInRange p c → IsChoice c
  choice_fits c (low, track) =
      let (some, tracks, connections) = sizes p in
      (omega (arith, low, connections), omega (arith, track, tracks))

  step_fits : (s : Step) → IsAcceptedStep p steps s → IsStep s
  step_fits s a = record {
    choices = recursion_from_All IsChoice s.choices (All-weaker (IsInRange p) IsChoice choice_fits s.choices a.within);
    hints = hints_fit (map taken s.choices) s.hints a.shown;
    some = some_hint (map taken s.choices) s.hints a.shown;
  }

no_step : Step
no_step = record { choices = []; hints = [] }

steps_fit : (p : Problem) (log : List Step) → length log ≤ 4294967295 → AreAccepted p log → AreSteps log
steps_fit p log few accepted =
    recursion_from_All IsStep log (All-from_get_or IsStep log no_step (λ n low.
    step_fits p (choices_of (take n log)) (short n) (get_or log n no_step) (accepted n (get_or log n no_step) (slice_get-get_or log n no_step low))))
  where
    short : (n : ℕ) → length (choices_of (take n log)) ≤ 4294967295
    short n = omega (arith, few, length-map (take n log) (λ (s : Step). s.choices), length-take n log)

-- ---- a text can say a legal plan

source_fits : (c : Circuit) → InRange c → (s : Source) → HasSource c s → IsSource s
source_fits c range source.Zero h = tt
source_fits c range source.One h = tt
source_fits c range source.Clock h = tt
source_fits c range (source.Input i) h = let few = range.few_inputs in omega (arith, h, few)
source_fits c range (source.Module m) h = let few = range.few_modules in omega (arith, h, few)

pins_fit : (c : Circuit) → InRange c → (pins : List Source) → (length pins ≡ 8) × All (HasSource c) pins → ArePins pins
pins_fit c range pins (eight, have) = (eight, recursion_from_All IsSource pins (All-weaker (HasSource c) IsSource (source_fits c range) pins have))

spot_fits : (dev : Device) (s : Spot) → IsOnDevice dev s → IsSpot s
spot_fits dev s (row, column) = (omega (arith, row, few_rows dev), omega (arith, column, few_columns dev))

-- two facts of the elements of a list are one of each
together : {X : Type 0} {P Q R : X → Type 0} → ((x : X) → P x → Q x → R x) → (xs : List X) → AllByRecursion P xs → AllByRecursion Q xs → AllByRecursion R xs
together f [] h k = tt
together f (x ∷ xs) h k = (f x h.0 k.0, together f xs h.1 k.1)

unmapped : {X Y : Type 0} (P : Y → Type 0) (f : X → Y) (xs : List X) → AllByRecursion P (map f xs) → AllByRecursion (λ (x : X). P (f x)) xs
unmapped P f [] h = tt
unmapped P f (x ∷ xs) h = (h.0, unmapped P f xs h.1)

-- what holds of all names holds of the inputs', the outputs' and the starts'
first_part : {X : Type 0} (P : X → Type 0) (xs ys : List X) → AllByRecursion P (xs ++ ys) → AllByRecursion P xs
first_part P [] ys h = tt
first_part P (x ∷ xs) ys h = (h.0, first_part P xs ys h.1)

last_part : {X : Type 0} (P : X → Type 0) (xs ys : List X) → AllByRecursion P (xs ++ ys) → AllByRecursion P ys
last_part P [] ys h = h
last_part P (x ∷ xs) ys h = last_part P xs ys h.1

module _ (dev : Device) (plan : Plan) (legal : Legal dev plan) where
  abbrev c : Circuit
  c = plan.placed.circuit

  abbrev IsNamed : List ℕ → Type 0
  IsNamed name = IsTrue (is_name name)

  all_names : AllByRecursion IsNamed (c.inputs ++ output_names c ++ start_names c)
  all_names = recursion_from_All IsNamed (c.inputs ++ output_names c ++ start_names c) legal.names.each

  output_fits : (o : Output) → HasSource c o.source → IsNamed o.name → IsOutput o
  output_fits o has named = (source_fits c legal.range o.source has, named)

  start_fits : (s : Start) → (s.module < length c.modules) × (s.init ≤ 3) → IsNamed s.name → IsStart s
  start_fits s (low, init) named = let few = legal.range.few_modules in (omega (arith, low, few), init, named)

  clock_fits : (clock : Option (List ℕ)) → IfSome clock (λ name. IsNamed name × All (λ other. other ≢ name) (c.inputs ++ output_names c ++ start_names c)) → IfSome clock IsNamed
  clock_fits None h = tt
  clock_fits (Some name) h = h.0

  pub plan_fits : IsPlan plan
  plan_fits =
      let ports = first_part IsNamed (c.inputs ++ output_names c) (start_names c) all_names in
      let starts = recursion_from_All (λ (s : Start). s.module < length c.modules) c.starts legal.range.starts in
      let inits = recursion_from_All (λ (s : Start). s.init ≤ 3) c.starts legal.inits in
      let high = legal.high in
      record {
        device = rw legal.device (fine_device dev.name (device_name dev));
        k = omega (arith, high);
        clock = clock_fits c.clock legal.names.clock;
        inputs = first_part IsNamed c.inputs (output_names c) ports;
        outputs = together output_fits c.outputs (recursion_from_All (λ (o : Output). HasSource c o.source) c.outputs legal.range.outputs) (unmapped IsNamed (λ (o : Output). o.name) c.outputs (last_part IsNamed c.inputs (output_names c) ports));
        starts = together start_fits c.starts (together (λ s h k. (h, k)) c.starts starts inits) (unmapped IsNamed (λ (s : Start). s.name) c.starts (last_part IsNamed (c.inputs ++ output_names c) (start_names c) all_names));
        starts_rise = legal.starts_rise;
        modules = recursion_from_All ArePins c.modules (All-weaker (λ (pins : List Source). (length pins ≡ 8) × All (HasSource c) pins) ArePins (pins_fit c legal.range) c.modules legal.range.pins);
        spots = recursion_from_All IsSpot plan.placed.spots (All-weaker (IsOnDevice dev) IsSpot (spot_fits dev) plan.placed.spots legal.on_device);
        spots_rise = legal.rise;
        one_each = legal.spots;
      }

-- ---- so the check accepts the text of an accepted report

pub is_checked : (dev : Device) (r : Report) → IsAcceptedReport dev r → IsChecked dev r
is_checked dev r (p, sets, accepted) = (r, (is_report, refl), (p, sets, accepted))
  where
    channel_fits : r.channel ≤ 255
    channel_fits =
        let has = sets.has in
        let rows = few_rows dev in
        let count = channels_count dev has.channels (record { plan = r.plan; legal = has.legal; is = has.routed }) in
        let within = get_within has.channels r.channel sets.wirings has.at in
        omega (arith, rows, count, within)

    few_steps : length r.log.steps ≤ 4294967295
    few_steps = let few = r.log.few in omega (arith, few)

    is_report : IsReport r
    is_report = record { plan = plan_fits dev r.plan sets.has.legal; channel = channel_fits; steps = steps_fit p r.log.steps few_steps accepted.each }

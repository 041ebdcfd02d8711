-- What the sinks of a plan are, and that no line is that of two of them.
use Rattle.std.proofs.Common.{ℕ, zero, suc, ◌≡◌, ◌⊎◌, ◌+◌, ◌<◌, Bool, true, false, List, [], ◌∷◌, length, Some, refl, sym, ap, subst, ◌∙◌, inl, inr, arith, slice_get, Contains}
use Rattle.std.proofs.lemmas.Bool.{false≢true}
use Rattle.std.proofs.lemmas.List.Elements.{Contains-append_left, Contains-append_right, Contains-append_cases}
use Rattle.act1_base.specs.Rising.{Rises}
use Rattle.act1_base.proofs.ListGets.{some_is}
use Rattle.act1_device.specs.declared.device.Device.{Device}
use Rattle.act1_device.specs.declared.device.Line.{Line}
use Rattle.act1_device.specs.declared.device.Line.TheVariants as line
use Rattle.act1_device.specs.Sites.{pin_channel, pad_at}
use Rattle.act1_circuit.specs.declared.circuit.Output.{Output}
use Rattle.act1_circuit.specs.declared.circuit.Source.{Source}
use Rattle.act1_circuit.specs.declared.circuit.Spot.{Spot}
use Rattle.act1_circuit.specs.Spots.{SpotIsBefore}
use Rattle.act1_plan.specs.declared.plan.Plan.{Plan}
use Rattle.act1_plan.specs.Legal.{Legal}
use Rattle.act1_groute.specs.Nets.{Sink, pin_sinks, module_sinks, output_sinks, sinks}
use Rattle.act1_base.proofs.Elements.{here, later, first_or_later, not_in_none}

-- the sink of a pin, and of an output
abbrev pub pin_sink : Device → Spot → ℕ → Source → Sink
pin_sink dev s pin source = record { source = source; line = line.Pin s.row s.column pin; channel = pin_channel dev s.row pin }

abbrev pub output_sink : Device → ℕ → Output → Sink
output_sink dev pad output = record { source = output.source; line = line.Pad pad; channel = (pad_at dev pad).channel }

-- the sink is that of a pin of a module
pub record IsPinSink (dev : Device) (spots : List Spot) (modules : List (List Source)) (sink : Sink) : Type 0 where
  pub number : ℕ
  pub pin : ℕ
  pub spot : Spot
  pub sources : List Source
  pub source : Source
  pub spot_is : slice_get spots number ≡ Some spot
  pub module_is : slice_get modules number ≡ Some sources
  pub source_is : slice_get sources pin ≡ Some source
  pub is : sink ≡ pin_sink dev spot pin source

-- the sink is that of an output, whose pads are counted from the first one
pub record IsOutputSink (dev : Device) (first : ℕ) (outputs : List Output) (sink : Sink) : Type 0 where
  pub number : ℕ
  pub output : Output
  pub output_is : slice_get outputs number ≡ Some output
  pub is : sink ≡ output_sink dev (first + number) output

-- pins of one module, counted from the first one
record IsPinFrom (dev : Device) (s : Spot) (first : ℕ) (sources : List Source) (sink : Sink) : Type 0 where
  pub number : ℕ
  pub source : Source
  pub source_is : slice_get sources number ≡ Some source
  pub is : sink ≡ pin_sink dev s (first + number) source

pins_are : (dev : Device) (s : Spot) (first : ℕ) (sources : List Source) (sink : Sink) → Contains (pin_sinks dev s first sources) sink → IsPinFrom dev s first sources sink
pins_are dev s first [] sink h = not_in_none sink h
pins_are dev s first (source ∷ sources) sink h = from (λ k. pins_are dev s (first + 1) sources sink k) (first_or_later sink (pin_sink dev s first source) (pin_sinks dev s (first + 1) sources) h)
  where
    more : IsPinFrom dev s (first + 1) sources sink → IsPinFrom dev s first (source ∷ sources) sink
    more r = record {
      number = suc r.number;
      source = r.source;
      source_is = r.source_is;
      is = let e : first + 1 + r.number ≡ first + suc r.number = omega arith in r.is ∙ ap (λ (k : ℕ). pin_sink dev s k r.source) e;
    }

    from : (Contains (pin_sinks dev s (first + 1) sources) sink → IsPinFrom dev s (first + 1) sources sink) → (pin_sink dev s first source ≡ sink) ⊎ Contains (pin_sinks dev s (first + 1) sources) sink → IsPinFrom dev s first (source ∷ sources) sink
    from rec (inl same) = record {
      number = 0;
      source = source;
      source_is = refl;
      is = let e : first ≡ first + 0 = omega arith in sym same ∙ ap (λ (k : ℕ). pin_sink dev s k source) e;
    }
    from rec (inr rest) = more (rec rest)

has_pin : (dev : Device) (s : Spot) (first : ℕ) (sources : List Source) (k : ℕ) (source : Source) → slice_get sources k ≡ Some source → Contains (pin_sinks dev s first sources) (pin_sink dev s (first + k) source)
has_pin dev s first [] k source e = cc
has_pin dev s first (x ∷ sources) zero source e =
    let number : first ≡ first + 0 = omega arith in
    here (pin_sink dev s (first + 0) source) (pin_sink dev s first x) (pin_sinks dev s (first + 1) sources) (ap (pin_sink dev s first) (some_is x source e) ∙ ap (λ (k : ℕ). pin_sink dev s k source) number)
has_pin dev s first (x ∷ sources) (suc k) source e =
    let number : first + 1 + k ≡ first + suc k = omega arith in
    later (pin_sink dev s (first + suc k) source) (pin_sink dev s first x) (pin_sinks dev s (first + 1) sources)
    (subst (λ (n : ℕ). Contains (pin_sinks dev s (first + 1) sources) (pin_sink dev s n source)) number (has_pin dev s (first + 1) sources k source e))

modules_are : (dev : Device) (spots : List Spot) (modules : List (List Source)) (sink : Sink) → Contains (module_sinks dev spots modules) sink → IsPinSink dev spots modules sink
modules_are dev [] modules sink h = not_in_none sink h
modules_are dev (s ∷ spots) [] sink h = not_in_none sink h
modules_are dev (s ∷ spots) (sources ∷ modules) sink h = from (λ k. modules_are dev spots modules sink k) (Contains-append_cases (pin_sinks dev s 0 sources) (module_sinks dev spots modules) sink h)
  where
    first : IsPinFrom dev s 0 sources sink → IsPinSink dev (s ∷ spots) (sources ∷ modules) sink
    first r = record {
      number = 0;
      pin = r.number;
      spot = s;
      sources = sources;
      source = r.source;
      spot_is = refl;
      module_is = refl;
      source_is = r.source_is;
      is = let e : 0 + r.number ≡ r.number = omega arith in r.is ∙ ap (λ (k : ℕ). pin_sink dev s k r.source) e;
    }

    more : IsPinSink dev spots modules sink → IsPinSink dev (s ∷ spots) (sources ∷ modules) sink
    more r = record {
      number = suc r.number;
      pin = r.pin;
      spot = r.spot;
      sources = r.sources;
      source = r.source;
      spot_is = r.spot_is;
      module_is = r.module_is;
      source_is = r.source_is;
      is = r.is;
    }

    from : (Contains (module_sinks dev spots modules) sink → IsPinSink dev spots modules sink) → Contains (pin_sinks dev s 0 sources) sink ⊎ Contains (module_sinks dev spots modules) sink → IsPinSink dev (s ∷ spots) (sources ∷ modules) sink
    from rec (inl k) = first (pins_are dev s 0 sources sink k)
    from rec (inr k) = more (rec k)

has_module_pin : (dev : Device) (spots : List Spot) (modules : List (List Source)) (m k : ℕ) (s : Spot) (sources : List Source) (source : Source)
    → slice_get spots m ≡ Some s → slice_get modules m ≡ Some sources → slice_get sources k ≡ Some source → Contains (module_sinks dev spots modules) (pin_sink dev s k source)
has_module_pin dev [] modules m k s sources source a b e = cc
has_module_pin dev (t ∷ spots) [] m k s sources source a b e = cc
has_module_pin dev (t ∷ spots) (ss ∷ modules) zero k s sources source a b e =
    let number : 0 + k ≡ k = omega arith in
    let listed : slice_get ss k ≡ Some source = subst (λ (xs : List Source). slice_get xs k ≡ Some source) (sym (some_is ss sources b)) e in
    let found : Contains (pin_sinks dev t 0 ss) (pin_sink dev s k source) =
    subst (λ (u : Spot). Contains (pin_sinks dev t 0 ss) (pin_sink dev u k source)) (some_is t s a)
    (subst (λ (n : ℕ). Contains (pin_sinks dev t 0 ss) (pin_sink dev t n source)) number (has_pin dev t 0 ss k source listed)) in
    Contains-append_left (pin_sinks dev t 0 ss) (module_sinks dev spots modules) (pin_sink dev s k source) found
has_module_pin dev (t ∷ spots) (ss ∷ modules) (suc m) k s sources source a b e =
    Contains-append_right (pin_sinks dev t 0 ss) (module_sinks dev spots modules) (pin_sink dev s k source) (has_module_pin dev spots modules m k s sources source a b e)

outputs_are : (dev : Device) (first : ℕ) (outputs : List Output) (sink : Sink) → Contains (output_sinks dev first outputs) sink → IsOutputSink dev first outputs sink
outputs_are dev first [] sink h = not_in_none sink h
outputs_are dev first (output ∷ outputs) sink h = from (λ k. outputs_are dev (first + 1) outputs sink k) (first_or_later sink (output_sink dev first output) (output_sinks dev (first + 1) outputs) h)
  where
    more : IsOutputSink dev (first + 1) outputs sink → IsOutputSink dev first (output ∷ outputs) sink
    more r = record {
      number = suc r.number;
      output = r.output;
      output_is = r.output_is;
      is = let e : first + 1 + r.number ≡ first + suc r.number = omega arith in r.is ∙ ap (λ (k : ℕ). output_sink dev k r.output) e;
    }

    from : (Contains (output_sinks dev (first + 1) outputs) sink → IsOutputSink dev (first + 1) outputs sink) → (output_sink dev first output ≡ sink) ⊎ Contains (output_sinks dev (first + 1) outputs) sink → IsOutputSink dev first (output ∷ outputs) sink
    from rec (inl same) = record {
      number = 0;
      output = output;
      output_is = refl;
      is = let e : first ≡ first + 0 = omega arith in sym same ∙ ap (λ (k : ℕ). output_sink dev k output) e;
    }
    from rec (inr rest) = more (rec rest)

has_output : (dev : Device) (first : ℕ) (outputs : List Output) (k : ℕ) (output : Output) → slice_get outputs k ≡ Some output → Contains (output_sinks dev first outputs) (output_sink dev (first + k) output)
has_output dev first [] k output e = cc
has_output dev first (x ∷ outputs) zero output e =
    let number : first ≡ first + 0 = omega arith in
    here (output_sink dev (first + 0) output) (output_sink dev first x) (output_sinks dev (first + 1) outputs) (ap (output_sink dev first) (some_is x output e) ∙ ap (λ (k : ℕ). output_sink dev k output) number)
has_output dev first (x ∷ outputs) (suc k) output e =
    let number : first + 1 + k ≡ first + suc k = omega arith in
    later (output_sink dev (first + suc k) output) (output_sink dev first x) (output_sinks dev (first + 1) outputs)
    (subst (λ (n : ℕ). Contains (output_sinks dev (first + 1) outputs) (output_sink dev n output)) number (has_output dev (first + 1) outputs k output e))

-- spots that rise are each at one place
pub before_itself : {A : Type 0} (s : Spot) → SpotIsBefore s s → A
before_itself s (inl h) = absurd (omega arith)
before_itself s (inr h) = let low = h.1 in absurd (omega arith)

before_on : (a b c : Spot) → SpotIsBefore a b → SpotIsBefore b c → SpotIsBefore a c
before_on a b c (inl h) (inl k) = let low : a.row < c.row = omega arith in inl low
before_on a b c (inl h) (inr k) = let same = k.0 in let low : a.row < c.row = omega arith in inl low
before_on a b c (inr h) (inl k) = let same = h.0 in let low : a.row < c.row = omega arith in inl low
before_on a b c (inr h) (inr k) = let x = h.1 in let y = k.1 in let low : a.column < c.column = omega arith in inr (h.0 ∙ k.0, low)

pub rises_later : (spots : List Spot) (s t : Spot) (k : ℕ) → Rises SpotIsBefore (s ∷ spots) → slice_get spots k ≡ Some t → SpotIsBefore s t
rises_later [] s t k rise e = cc
rises_later (u ∷ spots) s t zero rise e = subst (λ (v : Spot). SpotIsBefore s v) (some_is u t e) rise.0
rises_later (u ∷ spots) s t (suc k) rise e = before_on s u t rise.0 (rises_later spots u t k rise.1 e)

pub tail_rises : (s : Spot) (spots : List Spot) → Rises SpotIsBefore (s ∷ spots) → Rises SpotIsBefore spots
tail_rises s [] h = tt
tail_rises s (t ∷ spots) h = h.1

-- of two modules the one with the lesser number stands before
pub rises_before : (spots : List Spot) (s t : Spot) (i j : ℕ) → Rises SpotIsBefore spots → i < j → slice_get spots i ≡ Some s → slice_get spots j ≡ Some t → SpotIsBefore s t
rises_before [] s t i j rise less a b = cc
rises_before (u ∷ spots) s t zero zero rise less a b = absurd (omega arith)
rises_before (u ∷ spots) s t zero (suc j) rise less a b = subst (λ (v : Spot). SpotIsBefore v t) (some_is u s a) (rises_later spots u t j rise b)
rises_before (u ∷ spots) s t (suc i) zero rise less a b = absurd (omega arith)
rises_before (u ∷ spots) s t (suc i) (suc j) rise less a b = rises_before spots s t i j (tail_rises u spots rise) (omega arith) a b

pub spot_once : (spots : List Spot) (s : Spot) (i j : ℕ) → Rises SpotIsBefore spots → slice_get spots i ≡ Some s → slice_get spots j ≡ Some s → i ≡ j
spot_once [] s i j rise a b = cc
spot_once (t ∷ spots) s zero zero rise a b = refl
spot_once (t ∷ spots) s zero (suc j) rise a b = before_itself s (subst (λ (u : Spot). SpotIsBefore u s) (some_is t s a) (rises_later spots t s j rise b))
spot_once (t ∷ spots) s (suc i) zero rise a b = before_itself s (subst (λ (u : Spot). SpotIsBefore u s) (some_is t s b) (rises_later spots t s i rise a))
spot_once (t ∷ spots) s (suc i) (suc j) rise a b = ap suc (spot_once spots s i j (tail_rises t spots rise) a b)

module _ (dev : Device) (plan : Plan) where
  abbrev pub IsPin : Sink → Type 0
  IsPin sink = IsPinSink dev plan.placed.spots plan.placed.circuit.modules sink

  abbrev pub IsOut : Sink → Type 0
  IsOut sink = IsOutputSink dev (length plan.placed.circuit.inputs) plan.placed.circuit.outputs sink

  pub sink_is : (sink : Sink) → Contains (sinks dev plan) sink → IsPin sink ⊎ IsOut sink
  sink_is sink h = from (Contains-append_cases (module_sinks dev plan.placed.spots plan.placed.circuit.modules) (output_sinks dev (length plan.placed.circuit.inputs) plan.placed.circuit.outputs) sink h)
    where
      from : Contains (module_sinks dev plan.placed.spots plan.placed.circuit.modules) sink ⊎ Contains (output_sinks dev (length plan.placed.circuit.inputs) plan.placed.circuit.outputs) sink → IsPin sink ⊎ IsOut sink
      from (inl k) = inl (modules_are dev plan.placed.spots plan.placed.circuit.modules sink k)
      from (inr k) = inr (outputs_are dev (length plan.placed.circuit.inputs) plan.placed.circuit.outputs sink k)

  pub pin_is_sink : (m k : ℕ) (s : Spot) (sources : List Source) (source : Source)
      → slice_get plan.placed.spots m ≡ Some s → slice_get plan.placed.circuit.modules m ≡ Some sources → slice_get sources k ≡ Some source → Contains (sinks dev plan) (pin_sink dev s k source)
  pin_is_sink m k s sources source a b e =
      Contains-append_left (module_sinks dev plan.placed.spots plan.placed.circuit.modules) (output_sinks dev (length plan.placed.circuit.inputs) plan.placed.circuit.outputs) (pin_sink dev s k source)
      (has_module_pin dev plan.placed.spots plan.placed.circuit.modules m k s sources source a b e)

  pub output_is_sink : (k : ℕ) (output : Output) → slice_get plan.placed.circuit.outputs k ≡ Some output → Contains (sinks dev plan) (output_sink dev (length plan.placed.circuit.inputs + k) output)
  output_is_sink k output e =
      Contains-append_right (module_sinks dev plan.placed.spots plan.placed.circuit.modules) (output_sinks dev (length plan.placed.circuit.inputs) plan.placed.circuit.outputs) (output_sink dev (length plan.placed.circuit.inputs + k) output)
      (has_output dev (length plan.placed.circuit.inputs) plan.placed.circuit.outputs k output e)

-- which numbers stand in a line, so that equal lines have equal numbers
abbrev row_of : Line → ℕ
row_of (line.Pin row column pin) = row
row_of l = 0

abbrev column_in : Line → ℕ
column_in (line.Pin row column pin) = column
column_in l = 0

abbrev pin_of : Line → ℕ
pin_of (line.Pin row column pin) = pin
pin_of l = 0

abbrev pad_of : Line → ℕ
pad_of (line.Pad pad) = pad
pad_of l = 0

abbrev is_pad : Line → Bool
is_pad (line.Pad pad) = true
is_pad l = false

abbrev spot_at : ℕ → ℕ → Spot
spot_at row column = record { row = row; column = column }

-- no line is that of two sinks
module _ (dev : Device) (plan : Plan) (legal : Legal dev plan) where
  two_pins : (a b : Sink) → IsPin dev plan a → IsPin dev plan b → a.line ≡ b.line → a.source ≡ b.source
  two_pins a b p q e =
      let lines : (pin_sink dev p.spot p.pin p.source).line ≡ (pin_sink dev q.spot q.pin q.source).line = sym (ap (λ (s : Sink). s.line) p.is) ∙ e ∙ ap (λ (s : Sink). s.line) q.is in
      let rows : p.spot.row ≡ q.spot.row = ap row_of lines in
      let columns : p.spot.column ≡ q.spot.column = ap column_in lines in
      let pins : p.pin ≡ q.pin = ap pin_of lines in
      let spots : p.spot ≡ q.spot = ap (λ (r : ℕ). spot_at r p.spot.column) rows ∙ ap (λ (c : ℕ). spot_at q.spot.row c) columns in
      let numbers : p.number ≡ q.number = spot_once plan.placed.spots q.spot p.number q.number legal.rise (p.spot_is ∙ ap Some spots) q.spot_is in
      let modules : Some p.sources ≡ Some q.sources = sym p.module_is ∙ ap (slice_get plan.placed.circuit.modules) numbers ∙ q.module_is in
      let sources : p.sources ≡ q.sources = some_is p.sources q.sources modules in
      let found : Some p.source ≡ Some q.source = sym p.source_is ∙ ap (λ (ss : List Source). slice_get ss p.pin) sources ∙ ap (slice_get q.sources) pins ∙ q.source_is in
      ap (λ (s : Sink). s.source) p.is ∙ some_is p.source q.source found ∙ sym (ap (λ (s : Sink). s.source) q.is)

  two_outputs : (a b : Sink) → IsOut dev plan a → IsOut dev plan b → a.line ≡ b.line → a.source ≡ b.source
  two_outputs a b p q e =
      let lines : line.Pad (length plan.placed.circuit.inputs + p.number) ≡ line.Pad (length plan.placed.circuit.inputs + q.number) = sym (ap (λ (s : Sink). s.line) p.is) ∙ e ∙ ap (λ (s : Sink). s.line) q.is in
      let pads : length plan.placed.circuit.inputs + p.number ≡ length plan.placed.circuit.inputs + q.number = ap pad_of lines in
      let numbers : p.number ≡ q.number = omega arith in
      let found : Some p.output ≡ Some q.output = sym p.output_is ∙ ap (slice_get plan.placed.circuit.outputs) numbers ∙ q.output_is in
      ap (λ (s : Sink). s.source) p.is ∙ ap (λ (o : Output). o.source) (some_is p.output q.output found) ∙ sym (ap (λ (s : Sink). s.source) q.is)

  pin_and_output : {A : Type 0} (a b : Sink) → IsPin dev plan a → IsOut dev plan b → a.line ≡ b.line → A
  pin_and_output a b p q e = absurd (false≢true (ap (λ (s : Sink). is_pad s.line) (sym p.is) ∙ ap is_pad e ∙ ap (λ (s : Sink). is_pad s.line) q.is))

  pub sink_once : (a b : Sink) → Contains (sinks dev plan) a → Contains (sinks dev plan) b → a.line ≡ b.line → a.source ≡ b.source
  sink_once a b h k e = from (sink_is dev plan a h) (sink_is dev plan b k)
    where
      from : IsPin dev plan a ⊎ IsOut dev plan a → IsPin dev plan b ⊎ IsOut dev plan b → a.source ≡ b.source
      from (inl p) (inl q) = two_pins a b p q e
      from (inl p) (inr q) = pin_and_output a b p q e
      from (inr p) (inl q) = pin_and_output b a q p (sym e)
      from (inr p) (inr q) = two_outputs a b p q e

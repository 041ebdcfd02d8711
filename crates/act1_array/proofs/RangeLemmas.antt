-- An array's circuit has each of its sources, and its starts stand at modules of their own.
use Rattle.std.proofs.Common.{ℕ, ◌≡◌, ◌≢◌, ◌<◌, ◌≤◌, ◌+◌, List, length, map, get_or, Some, All, AllPairs, sym, ap, subst, ◌∙◌, arith}
use Rattle.std.proofs.lemmas.List.{length-map}
use Rattle.std.proofs.lemmas.Option.{slice_get-get_or}
use Rattle.std.specs.Prelude.{slice_get, Result, Ok, Err, IfOk}
use Rattle.act1_base.proofs.ListGets.{some_is, get_within, get_in, get_map, get_mapped}
use Rattle.act1_device.specs.declared.device.Device.{Device}
use Rattle.act1_device.specs.declared.device.Wire.{Wire}
use Rattle.act1_circuit.specs.declared.circuit.Output.{Output}
use Rattle.act1_circuit.specs.declared.circuit.Placed.{Placed}
use Rattle.act1_circuit.specs.declared.circuit.Source.{Source}
use Rattle.act1_circuit.specs.declared.circuit.Source.TheVariants.{Zero, One, Clock, Input, Module}
use Rattle.act1_circuit.specs.declared.circuit.Spot.{Spot}
use Rattle.act1_circuit.specs.declared.circuit.Start.{Start}
use Rattle.act1_circuit.specs.Range.{HasSource, InRange}
use Rattle.act1_circuit.specs.Spots.{SpotIsBefore}
use Rattle.act1_fuses.specs.Array.{IsCircuitOf, Beginning, Drives, pad_wire, pin_wire}
use Rattle.act1_fuses.specs.Rules.{KeepsRules}
use Rattle.act1_fuses.specs.declared.fuses.FuseFile.{FuseFile}
use Rattle.act1_fuses.specs.declared.fuses.Port.{Port}
use Rattle.act1_fuses.specs.declared.fuses.StartAt.{StartAt}
use Rattle.act1_array.specs.Gives.{Gives}
use Rattle.act1_array.specs.declared.fault.ArrayFault.{ArrayFault}
use Rattle.act1_array.specs.PartSteps.{start_beginning, start_at_beginning}
use Rattle.act1_array.proofs.NetworkLemmas.{places_rise, not_both}

third : (a b : Beginning) → a ≡ b → a.2 ≡ b.2
third a b e = ap (λ (x : Beginning). x.2) e

module _ (dev : Device) (f : FuseFile) (p : Placed) (is : IsCircuitOf p dev f) where
  -- the line of a start, whose spot is that of its module
  line_of : (k : ℕ) (start : Start) → slice_get p.circuit.starts k ≡ Some start → (at : StartAt) × (slice_get f.starts k ≡ Some at) × (slice_get p.spots start.module ≡ Some at.spot)
  line_of k start e =
      let here = get_map {Y = Beginning} (start_beginning p.spots) p.circuit.starts k start e in
      let there = sym (ap (λ (xs : List Beginning). slice_get xs k) is.starts) ∙ here in
      let found = get_mapped {Y = Beginning} start_at_beginning f.starts k (start_beginning p.spots start) there in
      (found.0, found.1, sym (third (start_at_beginning found.0) (start_beginning p.spots start) found.2))

  starts_inside : All (λ (start : Start). start.module < length p.circuit.modules) p.circuit.starts
  starts_inside k d low =
      let start = get_or p.circuit.starts k d in
      let found = line_of k start (slice_get-get_or p.circuit.starts k d low) in
      let inside = get_within p.spots start.module found.0.spot found.2 in
      let same = is.modules in
      omega arith

  starts_apart : KeepsRules dev f → AllPairs (λ (s t : Start). s.module ≢ t.module) p.circuit.starts
  starts_apart rules i j d less low same =
      let s = get_or p.circuit.starts i d in
      let t = get_or p.circuit.starts j d in
      let a = line_of i s (slice_get-get_or p.circuit.starts i d (omega arith)) in
      let b = line_of j t (slice_get-get_or p.circuit.starts j d low) in
      let spot : StartAt → Spot = λ start. start.spot in
      let one : a.0.spot ≡ b.0.spot = some_is a.0.spot b.0.spot (sym a.2 ∙ ap (λ (m : ℕ). slice_get p.spots m) same ∙ b.2) in
      let before = places_rise (map spot f.starts) rules.spots_rise i j a.0.spot b.0.spot (get_map spot f.starts i a.0 a.1) (get_map spot f.starts j b.0 b.1) less in
      let itself = subst (λ (u : Spot). SpotIsBefore u b.0.spot) one before in
      not_both b.0.spot b.0.spot itself itself

  -- a source that drives a wire is one of the circuit's
  has_source : (source : Source) (w : Wire) → Drives dev f p.spots source w → HasSource p.circuit source
  has_source Zero w h = tt
  has_source One w h = tt
  has_source Clock w h = tt
  has_source (Input i) w h =
      let within = get_within f.ins i h.1.0 h.1.1 in
      let names = ap (λ (ns : List (List ℕ)). length ns) is.inputs in
      omega (arith, within, names, length-map f.ins (λ (port : Port). port.name))
  has_source (Module m) w h =
      let within = get_within p.spots m h.1.0 h.1.1 in
      let modules = is.modules in
      omega (arith, within, modules)

  pins_inside : All (λ (sources : List Source). (length sources ≡ 8) × All (HasSource p.circuit) sources) p.circuit.modules
  pins_inside m d low =
      let sources = get_or p.circuit.modules m d in
      let at = slice_get-get_or p.circuit.modules m d low in
      let modules = is.modules in
      let spot = get_in p.spots m (omega arith) in (
        is.eight m d low,
        λ k e small.
            let source = get_or sources k e in
            has_source source (pin_wire spot.0 k) (is.pins m k spot.0 sources source spot.1 at (slice_get-get_or sources k e small)),
      )

  outputs_long : length p.circuit.outputs ≡ length f.outs
  outputs_long = sym (length-map p.circuit.outputs (λ (o : Output). o.name)) ∙ ap (λ (ns : List (List ℕ)). length ns) is.output_names ∙ length-map f.outs (λ (port : Port). port.name)

  outputs_inside : All (λ (o : Output). HasSource p.circuit o.source) p.circuit.outputs
  outputs_inside k d low =
      let output = get_or p.circuit.outputs k d in
      let port = get_in f.outs k (omega (arith, low, outputs_long)) in
      has_source output.source (pad_wire port.0.pad) (is.outputs k port.0 output port.1 (slice_get-get_or p.circuit.outputs k d low))

  in_range : length p.spots ≤ 2048 → length f.ins + length f.outs ≤ 2112 → InRange p.circuit
  in_range few ports =
      let names = ap (λ (ns : List (List ℕ)). length ns) is.inputs in
      record {
        pins = pins_inside;
        outputs = outputs_inside;
        starts = starts_inside;
        few_inputs = omega (arith, ports, names, length-map f.ins (λ (port : Port). port.name));
        few_outputs = omega (arith, ports, outputs_long);
        few_modules = let modules = is.modules in omega (arith, few, modules);
      }

module _ (dev : Device) (f : FuseFile) where
  pub given_in_range : length f.ins + length f.outs ≤ 2112 → (r : Result Placed ArrayFault) → Gives dev f r → IfOk r (λ (p : Placed). length p.spots ≤ 2048) → IfOk r (λ (p : Placed). InRange p.circuit)
  given_in_range ports (Ok p) given few = in_range dev f p given.1 few ports
  given_in_range ports (Err e) given few = tt

  pub given_apart : KeepsRules dev f → (r : Result Placed ArrayFault) → Gives dev f r → IfOk r (λ (p : Placed). AllPairs (λ (s t : Start). s.module ≢ t.module) p.circuit.starts)
  given_apart rules (Ok p) given = starts_apart dev f p given.1 rules
  given_apart rules (Err e) given = tt

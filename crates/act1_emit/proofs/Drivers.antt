-- Modules that drive something: what shows it, and that a plan has sinks of them.
use Rattle.std.proofs.Common.{ℕ, zero, suc, ◌≡◌, ◌≢◌, ◌⊎◌, ◌+◌, ◌<◌, ◌||◌, Bool, true, false, List, [], ◌∷◌, length, map, Some, refl, ap, subst, ◌∙◌, inl, inr, arith, slice_get, AllPairs, Contains}
use Rattle.std.specs.Prelude.{slice_index_or}
use Rattle.std.specs.List.{list_any}
use Rattle.act1_base.proofs.ListGets.{get_within, get_in, contains_at, place_of}
use Rattle.act1_device.specs.declared.device.Device.{Device}
use Rattle.act1_circuit.specs.declared.circuit.Circuit.{Circuit}
use Rattle.act1_circuit.specs.declared.circuit.Output.{Output}
use Rattle.act1_circuit.specs.declared.circuit.Source.{Source}
use Rattle.act1_circuit.specs.declared.circuit.Source.TheVariants.{Zero, Module}
use Rattle.act1_circuit.specs.PairForm.{pin_of}
use Rattle.act1_plan.specs.declared.plan.Plan.{Plan}
use Rattle.act1_plan.specs.Legal.{Legal}
use Rattle.act1_plan.specs.Nets.{is_same_source}
use Rattle.act1_groute.specs.declared.net.Sink.{Sink}
use Rattle.act1_groute.specs.Nets.{sinks}
use Rattle.act1_base.proofs.Elements.{any_of, some_of}
use Rattle.act1_groute.proofs.SinkFacts.{pin_sink, output_sink, pin_is_sink, output_is_sink}
use Rattle.act1_plan.proofs.SourceFacts.{same_source_is, source_is_itself}
use Rattle.act1_emit.specs.Drivers.{drives_pin, is_driver}

-- a module that is the source of a pin drives something
pub driver_of_pin : (c : Circuit) (m k : ℕ) (sources : List Source) (pin : ℕ) → slice_get c.modules k ≡ Some sources → slice_get sources pin ≡ Some (Module m) → is_driver c m ≡ true
driver_of_pin c m k sources pin e h =
    let here = any_of (λ source. is_same_source source (Module m)) sources (Module m) (contains_at sources pin (Module m) h) (source_is_itself (Module m)) in
    let there = any_of (drives_pin m) c.modules sources (contains_at c.modules k sources e) here in
    ap (λ b. b || list_any (λ (o : Output). is_same_source o.source (Module m)) c.outputs) there

-- a second test that passes
pub or_true : (b : Bool) → (b || true) ≡ true
or_true true = refl
or_true false = refl

-- so does the source of an output
pub driver_of_output : (c : Circuit) (m j : ℕ) (o : Output) → slice_get c.outputs j ≡ Some o → o.source ≡ Module m → is_driver c m ≡ true
driver_of_output c m j o e h =
    let here = any_of (λ (o : Output). is_same_source o.source (Module m)) c.outputs o (contains_at c.outputs j o e) (ap (λ s. is_same_source s (Module m)) h ∙ source_is_itself (Module m)) in
    ap (λ b. list_any (drives_pin m) c.modules || b) here ∙ or_true (list_any (drives_pin m) c.modules)

one_or_other : (a b : Bool) → (a || b) ≡ true → (a ≡ true) ⊎ (b ≡ true)
one_or_other true b h = inl refl
one_or_other false b h = inr h

-- the pin of this number, where there is one
pin_there : (sources : List Source) (pin m : ℕ) → slice_index_or sources pin Zero ≡ Module m → slice_get sources pin ≡ Some (Module m)
pin_there [] pin m e = cc
pin_there (s ∷ sources) zero m e = ap Some e
pin_there (s ∷ sources) (suc pin) m e = pin_there sources pin m e

module_there : (modules : List (List Source)) (k pin m : ℕ) → slice_index_or (slice_index_or modules k []) pin Zero ≡ Module m → (sources : List Source) × (slice_get modules k ≡ Some sources) × (slice_get sources pin ≡ Some (Module m))
module_there [] k pin m e = cc
module_there (s ∷ modules) zero pin m e = (s, refl, pin_there s pin m e)
module_there (s ∷ modules) (suc k) pin m e = module_there modules k pin m e

-- a module that is the source of some pin or output, as mappings say it, drives something
pub is_driver_by : (c : Circuit) (m : ℕ) → ((k : ℕ) × (pin : ℕ) × (pin < 8) × (pin_of c k pin ≡ Module m)) ⊎ ((j : ℕ) × (o : Output) × (slice_get c.outputs j ≡ Some o) × (o.source ≡ Module m)) → is_driver c m ≡ true
is_driver_by c m (inl h) = let r = module_there c.modules h.0 h.1 m h.3 in driver_of_pin c m h.0 r.0 h.1 r.1 r.2
is_driver_by c m (inr h) = driver_of_output c m h.0 h.1 h.2 h.3

-- what drives something is the source of a pin or of an output
abbrev DrivesPin : Circuit → ℕ → Type 0
DrivesPin c m = (k : ℕ) × (sources : List Source) × (pin : ℕ) × (slice_get c.modules k ≡ Some sources) × (slice_get sources pin ≡ Some (Module m))

abbrev DrivesOutput : Circuit → ℕ → Type 0
DrivesOutput c m = (j : ℕ) × (o : Output) × (slice_get c.outputs j ≡ Some o) × (o.source ≡ Module m)

driver_is : (c : Circuit) (m : ℕ) → is_driver c m ≡ true → DrivesPin c m ⊎ DrivesOutput c m
driver_is c m h = from (one_or_other (list_any (drives_pin m) c.modules) (list_any (λ (o : Output). is_same_source o.source (Module m)) c.outputs) h)
  where
    from : (list_any (drives_pin m) c.modules ≡ true) ⊎ (list_any (λ (o : Output). is_same_source o.source (Module m)) c.outputs ≡ true) → DrivesPin c m ⊎ DrivesOutput c m
    from (inl k) =
        let of = some_of (drives_pin m) c.modules k in
        let at = place_of c.modules of.0 of.1 in
        let pin = some_of (λ source. is_same_source source (Module m)) of.0 of.2 in
        let source = same_source_is pin.0 (Module m) pin.2 in
        let on = place_of of.0 pin.0 pin.1 in
        inl (at.0, of.0, on.0, at.1, on.1 ∙ ap Some source)
    from (inr k) =
        let of = some_of (λ (o : Output). is_same_source o.source (Module m)) c.outputs k in
        let at = place_of c.outputs of.0 of.1 in
        inr (at.0, of.0, at.1, same_source_is of.0.source (Module m) of.2)

-- a module that drives something has a sink
pub sink_of_module : (dev : Device) (plan : Plan) → Legal dev plan → (m : ℕ) → is_driver plan.placed.circuit m ≡ true → (sink : Sink) × Contains (sinks dev plan) sink × (sink.source ≡ Module m)
sink_of_module dev plan legal m h = from (driver_is plan.placed.circuit m h)
  where
    from : DrivesPin plan.placed.circuit m ⊎ DrivesOutput plan.placed.circuit m → (sink : Sink) × Contains (sinks dev plan) sink × (sink.source ≡ Module m)
    from (inl k) =
        let within : k.0 < length plan.placed.spots = omega (arith, get_within plan.placed.circuit.modules k.0 k.1 k.3, legal.spots) in
        let spot = get_in plan.placed.spots k.0 within in
        (pin_sink dev spot.0 k.2 (Module m), pin_is_sink dev plan k.0 k.2 spot.0 k.1 (Module m) spot.1 k.3 k.4, refl)
    from (inr k) = (output_sink dev (length plan.placed.circuit.inputs + k.0) k.1, output_is_sink dev plan k.0 k.1 k.2, k.3)

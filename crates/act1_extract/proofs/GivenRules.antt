-- What the circuit of an array has whose file keeps the rules.
use Rattle.std.proofs.Common.{ℕ, suc, zero, ◌≡◌, ◌≢◌, ◌<◌, ◌≤◌, ◌+◌, ◌⊎◌, List, [], ◌∷◌, ◌++◌, length, map, Option, Some, refl, sym, ap, subst, ◌∙◌, inl, inr, arith}
use Rattle.std.specs.Prelude.{All, AllPairs, IsTrue, slice_get, slice_index_or}
use Rattle.std.proofs.lemmas.Bool.{cases_lt}
use Rattle.std.proofs.lemmas.List.{length-map}
use Rattle.std.proofs.lemmas.Option.{get_or_from_slice_get, slice_get-get_or}
use Rattle.act1_base.specs.Names.{is_name}
use Rattle.act1_base.specs.Rising.{Rises}
use Rattle.act1_base.proofs.ListGets.{get_map, get_mapped, get_within, some_is}
use Rattle.act1_device.specs.declared.device.Device.{Device}
use Rattle.act1_circuit.specs.declared.circuit.Output.{Output}
use Rattle.act1_circuit.specs.declared.circuit.Placed.{Placed}
use Rattle.act1_circuit.specs.declared.circuit.Spot.{Spot}
use Rattle.act1_circuit.specs.declared.circuit.Start.{Start}
use Rattle.act1_circuit.specs.Range.{InRange}
use Rattle.act1_circuit.specs.Spots.{SpotIsBefore}
use Rattle.act1_fuses.specs.Array.{Beginning, IsCircuitOf}
use Rattle.act1_fuses.specs.Rules.{IsApart, IsStart, KeepsRules, port_names}
use Rattle.act1_fuses.specs.Rules as rules
use Rattle.act1_fuses.specs.declared.fuses.FuseFile.{FuseFile}
use Rattle.act1_fuses.specs.declared.fuses.Port.{Port}
use Rattle.act1_fuses.specs.declared.fuses.StartAt.{StartAt}
use Rattle.act1_array.specs.PartSteps.{start_at_beginning, start_beginning}
use Rattle.act1_array.proofs.NetworkLemmas.{not_both, places_rise}
use Rattle.act1_extract.specs.Net.{HasFineNames, HasRules, IsArrayCircuit, output_names, start_names}

firsts : {X : Type 0} (g : X → Beginning) (h : X → List ℕ) → ((x : X) → (g x).0 ≡ h x) → (xs : List X) → map (λ (b : Beginning). b.0) (map {B = Beginning} g xs) ≡ map h xs
firsts g h e [] = refl
firsts g h e (x ∷ xs) = rw (e x, firsts g h e xs) refl

rises_by : {X : Type 0} (R : X → X → Type 0) (xs : List X) → ((i : ℕ) (x y : X) → slice_get xs i ≡ Some x → slice_get xs (suc i) ≡ Some y → R x y) → Rises R xs
rises_by R [] h = tt
rises_by R (x ∷ []) h = tt
rises_by R (x ∷ y ∷ xs) h = (h 0 x y refl refl, rises_by R (y ∷ xs) (λ i a b e f. h (suc i) a b e f))

module _ (dev : Device) (f : FuseFile) (p : Placed) (is : IsCircuitOf p dev f) (kept : KeepsRules dev f) where
  starts_named : start_names p.circuit ≡ rules.start_names f.starts
  starts_named =
      sym (firsts (start_beginning p.spots) (λ (s : Start). s.name) (λ s. refl) p.circuit.starts)
      ∙ ap (map (λ (b : Beginning). b.0)) is.starts
      ∙ firsts start_at_beginning (λ (s : StartAt). s.name) (λ s. refl) f.starts

  fine : HasFineNames p.circuit
  fine = record {
    names = subst (λ (ns : List (List ℕ)). All (λ name. IsTrue (is_name name)) ns) (sym all_same) kept.names;
    inputs = subst (λ (ns : List (List ℕ)). AllPairs (λ (a b : List ℕ). a ≢ b) ns) (sym (λ i. is.inputs i ++ starts_named i)) kept.inputs;
    outputs = subst (λ (ns : List (List ℕ)). AllPairs (λ (a b : List ℕ). a ≢ b) ns) (sym is.output_names) kept.outputs;
    clock = subst (λ (ns : List (List ℕ)). IsApart p.circuit.clock ns) (sym all_same) (subst (λ (k : Option (List ℕ)). IsApart k (port_names f.ins ++ port_names f.outs ++ rules.start_names f.starts)) (sym is.clock) kept.clock);
  }
    where
      all_same : p.circuit.inputs ++ output_names p.circuit ++ start_names p.circuit ≡ port_names f.ins ++ port_names f.outs ++ rules.start_names f.starts
      all_same = λ i. is.inputs i ++ is.output_names i ++ starts_named i

  line : (k : ℕ) (start : Start) → slice_get p.circuit.starts k ≡ Some start → (at : StartAt) × (slice_get f.starts k ≡ Some at) × (start.init ≡ at.init) × (slice_get p.spots start.module ≡ Some at.spot)
  line k start e =
      let here = get_map {Y = Beginning} (start_beginning p.spots) p.circuit.starts k start e in
      let there = sym (ap (λ (xs : List Beginning). slice_get xs k) is.starts) ∙ here in
      let found = get_mapped {Y = Beginning} start_at_beginning f.starts k (start_beginning p.spots start) there in
      (found.0, found.1, sym (ap (λ (b : Beginning). b.1) found.2), sym (ap (λ (b : Beginning). b.2) found.2))

  abbrev spot_of : StartAt → Spot
  spot_of start = start.spot

  up : (i : ℕ) (s t : Start) → slice_get p.circuit.starts i ≡ Some s → slice_get p.circuit.starts (suc i) ≡ Some t → s.module < t.module
  up i s t e g =
      let a = line i s e in
      let b = line (suc i) t g in
      let before = places_rise (map spot_of f.starts) kept.spots_rise i (suc i) a.0.spot b.0.spot (get_map spot_of f.starts i a.0 a.1) (get_map spot_of f.starts (suc i) b.0 b.1) (omega arith) in
      by a.0.spot b.0.spot a.3 b.3 before (cases_lt s.module t.module) (cases_lt t.module s.module)
    where
      by : (x y : Spot) → slice_get p.spots s.module ≡ Some x → slice_get p.spots t.module ≡ Some y → SpotIsBefore x y → (s.module < t.module) ⊎ (t.module ≤ s.module) → (t.module < s.module) ⊎ (s.module ≤ t.module) → s.module < t.module
      by x y ex ey before (inl less) q = less
      by x y ex ey before (inr high) (inl less) = absurd (not_both x y before (places_rise p.spots is.rise t.module s.module y x ey ex less))
      by x y ex ey before (inr high) (inr low) =
          let same : s.module ≡ t.module = omega arith in
          let one : x ≡ y = some_is x y (sym ex ∙ ap (λ (m : ℕ). slice_get p.spots m) same ∙ ey) in
          let itself = subst (λ (u : Spot). SpotIsBefore u y) one before in
          absurd (not_both y y itself itself)

  pub has_rules : InRange p.circuit → length f.ins + length f.outs ≤ 2112 → length p.spots ≤ 2048 → IsArrayCircuit p
  has_rules range ports few =
      let ins = ap length is.inputs in
      let outs = ap length is.output_names in
      let modules = is.modules in
      record {
        rules = record {
          range = range;
          names = fine;
          inits = λ k d low.
              let start = slice_index_or p.circuit.starts k d in
              let at = line k start (slice_get-get_or p.circuit.starts k d low) in
              let own = (kept.starts k at.0 (get_within f.starts k at.0 at.1)).init in
              let same = at.2 in
              let is = get_or_from_slice_get f.starts k at.0 at.0 at.1 in
              let init : (slice_index_or f.starts k at.0).init ≡ at.0.init = ap (λ (s : StartAt). s.init) is in
              omega arith;
          rise = rises_by (λ (s t : Start). s.module < t.module) p.circuit.starts up;
          ports = omega (arith, ins, outs, length-map f.ins (λ (port : Port). port.name), length-map f.outs (λ (port : Port). port.name), length-map p.circuit.outputs (λ (o : Output). o.name));
          modules = omega arith;
        };
        spots = is.modules;
      }

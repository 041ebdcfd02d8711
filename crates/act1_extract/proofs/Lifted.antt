-- What is answered of an array's circuit is answered of the array.
use Rattle.std.proofs.Common.{ℕ, ◌≡◌, ◌≢◌, ◌<◌, ◌≤◌, ◌+◌, List, ◌++◌, length, map, Some, refl, sym, ap, subst, ◌∙◌, arith}
use Rattle.std.specs.Prelude.{AllPairs, Err, IfOk, Ok, Result, slice_get, slice_index_or}
use Rattle.std.proofs.lemmas.Option.{slice_get-get_or}
use Rattle.act1_base.proofs.ListGets.{get_map}
use Rattle.act1_array.specs.declared.fault.ArrayFault.{ArrayFault}
use Rattle.act1_array.specs.Gives.{Gives}
use Rattle.act1_array.proofs.Bounds.{few_ports}
use Rattle.act1_blif.specs.declared.blif.Blif.{Blif}
use Rattle.act1_circuit.specs.declared.circuit.Circuit.{Circuit}
use Rattle.act1_circuit.specs.declared.circuit.Placed.{Placed}
use Rattle.act1_circuit.specs.declared.circuit.Start.{Start as StartAt}
use Rattle.act1_circuit.specs.Range.{InRange}
use Rattle.act1_device.specs.declared.device.Device.{Device}
use Rattle.act1_device.specs.Laws.{DevicesAreSmall}
use Rattle.act1_fuses.specs.Rules.{KeepsRules}
use Rattle.act1_fuses.specs.declared.fuses.FuseFile.{FuseFile}
use Rattle.act1_meaning.specs.Laws.{ArrayNetMeans}
use Rattle.act1_extract.specs.declared.fault.ExtractFault.{ExtractFault}
use Rattle.act1_extract.specs.declared.fault.ExtractFault.TheVariants.{Array, Form, ClockOut, Clash, Memory}
use Rattle.act1_extract.specs.Gives.{ExtractGives, IsCircuit, PlacedGives}
use Rattle.act1_extract.specs.Net.{HasFineNames, IsArrayCircuit}
use Rattle.act1_extract.proofs.GivenRules.{has_rules}
use Rattle.act1_extract.proofs.Tests.{from_pairs, get_behind}

pub rules_given : DevicesAreSmall → (dev : Device) (f : FuseFile) (r : Result Placed ArrayFault) (p : Placed) → KeepsRules dev f → r ≡ Ok p → Gives dev f r → IfOk r (λ (q : Placed). length q.spots ≤ 2048) → IfOk r (λ (q : Placed). InRange q.circuit) → IsArrayCircuit p
rules_given small dev f r p kept is gives few range =
    let g = subst (λ (s : Result Placed ArrayFault). Gives dev f s) is gives in
    has_rules dev f p g.1 kept (subst (λ (s : Result Placed ArrayFault). IfOk s (λ (q : Placed). InRange q.circuit)) is range) (few_ports small dev f kept)
    (subst (λ (s : Result Placed ArrayFault). IfOk s (λ (q : Placed). length q.spots ≤ 2048)) is few)

names_apart : (c : Circuit) → HasFineNames c → AllPairs (λ (s t : StartAt). s.module ≢ t.module) c.starts → AllPairs (λ (s t : StartAt). (s.name ≢ t.name) × (s.module ≢ t.module)) c.starts
names_apart c fine modules = λ i j d low within. (
  from_pairs (λ (a b : List ℕ). a ≢ b) (c.inputs ++ map (λ (s : StartAt). s.name) c.starts) fine.inputs (length c.inputs + i) (length c.inputs + j) (slice_index_or c.starts i d).name (slice_index_or c.starts j d).name
      (at i d (omega arith)) (at j d within) (omega arith),
  modules i j d low within,
)
  where
    at : (i : ℕ) (d : StartAt) → i < length c.starts → slice_get (c.inputs ++ map (λ (s : StartAt). s.name) c.starts) (length c.inputs + i) ≡ Some (slice_index_or c.starts i d).name
    at i d low = get_behind c.inputs (map (λ (s : StartAt). s.name) c.starts) (length c.inputs + i) i (slice_index_or c.starts i d).name (get_map (λ (s : StartAt). s.name) c.starts i (slice_index_or c.starts i d) (slice_get-get_or c.starts i d low)) refl

lifted : ArrayNetMeans → (dev : Device) (f : FuseFile) (p : Placed) → IsCircuit dev f p → IsArrayCircuit p → AllPairs (λ (s t : StartAt). s.module ≢ t.module) p.circuit.starts → (r : Result Blif ExtractFault) → PlacedGives p r → ExtractGives dev f r
lifted means dev f p circuit rules apart (Ok b) h = record {
  placed = p;
  circuit = circuit;
  form = h.0;
  clear = h.1;
  net = h.2;
  names = h.3;
  means = means p.circuit b rules.rules.range h.0 h.2 (names_apart p.circuit rules.rules.names apart);
}
lifted means dev f p circuit rules apart (Err (Array fault)) h = absurd h
lifted means dev f p circuit rules apart (Err (Form kind spot)) h = record { placed = p; circuit = circuit; at = h.0; there = h.1; fault = h.2 }
lifted means dev f p circuit rules apart (Err (ClockOut output)) h = record { placed = p; circuit = circuit; fault = h }
lifted means dev f p circuit rules apart (Err (Clash output)) h = record { placed = p; circuit = circuit; form = h.0; clash = h.1 }
lifted means dev f p circuit rules apart (Err Memory) h = tt

pub answer_given : ArrayNetMeans → DevicesAreSmall → (dev : Device) (f : FuseFile) (r : Result Placed ArrayFault) (p : Placed) → KeepsRules dev f → r ≡ Ok p → Gives dev f r → IfOk r (λ (q : Placed). length q.spots ≤ 2048) → IfOk r (λ (q : Placed). InRange q.circuit)
    → IfOk r (λ (q : Placed). AllPairs (λ (s t : StartAt). s.module ≢ t.module) q.circuit.starts) → (answer : Result Blif ExtractFault) → PlacedGives p answer → ExtractGives dev f answer
answer_given means small dev f r p kept is gives few range apart answer h =
    let g = subst (λ (s : Result Placed ArrayFault). Gives dev f s) is gives in
    lifted means dev f p (record { sound = g.0; is = g.1 }) (rules_given small dev f r p kept is gives few range)
    (subst (λ (s : Result Placed ArrayFault). IfOk s (λ (q : Placed). AllPairs (λ (s t : StartAt). s.module ≢ t.module) q.circuit.starts)) is apart) answer h

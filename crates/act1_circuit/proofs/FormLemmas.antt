-- Steps in finding the pair form of a circuit.
use Rattle.std.proofs.Common.{ℕ, ◌≡◌, ◌≢◌, ◌<◌, length, Some, sym, ap, subst, ◌∙◌, inl, inr, arith}
use Rattle.std.specs.Prelude.{slice_get}
use Rattle.std.proofs.lemmas.Option.{slice_get_within, get_or_from_slice_get}
use Rattle.act1_circuit.specs.declared.circuit.Circuit.{Circuit}
use Rattle.act1_circuit.specs.declared.circuit.Output.{Output}
use Rattle.act1_circuit.specs.declared.circuit.Start.{Start as StartAt}
use Rattle.act1_circuit.specs.declared.circuit.Source.{Source}
use Rattle.act1_circuit.specs.declared.circuit.Source.TheVariants.{Clock}
use Rattle.act1_circuit.specs.declared.pairs.FormFault.{FormFault}
use Rattle.act1_circuit.specs.declared.pairs.FormFault.TheVariants as fault
use Rattle.act1_circuit.specs.FormFaults.{HasFault, IsBefore, IsFirstFault}
use Rattle.act1_circuit.specs.PairForm.{Edge, rising, slave_pins, start_module, IsPair, IsStartModule}
use Rattle.act1_circuit.specs.Range.{InRange}

-- an output that isn't the clock has no fault
pub no_clock_out : (c : Circuit) (o : ℕ) (output : Output) → slice_get c.outputs o ≡ Some output → output.source ≢ Clock → HasFault c (fault.ClockOut o) → ⊥
no_clock_out c o output there other (it, at, is) = other (ap (λ (u : Output). u.source) (some output it (sym there ∙ at)) ∙ is)
  where
    some : (x y : Output) → Some x ≡ Some y → x ≡ y
    some x y e = cc

pub output_within : (c : Circuit) (o : ℕ) → HasFault c (fault.ClockOut o) → o < length c.outputs
output_within c o (it, at, is) = slice_get_within c.outputs o it at

-- a start stands at a module
pub start_low : (c : Circuit) → InRange c → (j : ℕ) (start : StartAt) → slice_get c.starts j ≡ Some start → start.module < length c.modules
start_low c range j start at =
    let within = range.starts j start (slice_get_within c.starts j start at) in
    subst (λ (s : StartAt). s.module < length c.modules) (get_or_from_slice_get c.starts j start start at) within

-- and so does that of a pair
pub slave_low : (c : Circuit) (k : ℕ) → IsStartModule c k → k < length c.modules
slave_low c k is = by is.edge is.takes is.master is.slave is.pair is.here
  where
    by : (edge : Edge) (takes : Source) (m s : ℕ) → IsPair c edge takes m s → start_module edge m s ≡ k → k < length c.modules
    by rising takes m s p e = let low = slice_get_within c.modules s (slave_pins rising m s) p.slave in omega arith

pub start_within : (c : Circuit) → InRange c → (m : ℕ) → HasFault c (fault.Start m) → m < length c.modules
start_within c range m (inl (is, none)) = slave_low c m is
start_within c range m (inr ((j, start, there, here), none)) = subst (λ (k : ℕ). k < length c.modules) here (start_low c range j start there)

-- where no module has the first fault, the least output with the second has the first one
pub first_clock_out : (c : Circuit) (o : ℕ) → ((m : ℕ) → HasFault c (fault.Clocked m) → ⊥) → HasFault c (fault.ClockOut o) → ((k : ℕ) → k < o → HasFault c (fault.ClockOut k) → ⊥) → IsFirstFault c (fault.ClockOut o)
first_clock_out c o none has least = record { has = has; first = first }
  where
    first : (other : FormFault) → HasFault c other → IsBefore other (fault.ClockOut o) → ⊥
    first (fault.Clocked m) h e = none m h
    first (fault.ClockOut k) h (inl e) = omega arith
    first (fault.ClockOut k) h (inr e) = least k e.1 h
    first (fault.Ring m) h (inl e) = omega arith
    first (fault.Ring m) h (inr e) = let kind = e.0 in omega arith
    first (fault.Start m) h (inl e) = omega arith
    first (fault.Start m) h (inr e) = let kind = e.0 in omega arith
    first fault.Memory h e = h

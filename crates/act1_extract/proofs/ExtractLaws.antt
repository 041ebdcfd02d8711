-- An array is extracted or refused.
use Rattle.std.proofs.Common.{ℕ, ◌≡◌, ◌≢◌, refl, sym, ap, subst, inl, inr}
use Rattle.std.specs.Prelude.{Result, Ok, Err}
use Rattle.act1_array.specs.declared.fault.ArrayFault.{ArrayFault}
use Rattle.act1_array.specs.declared.fault.ArrayFault.TheVariants as array
use Rattle.act1_array.specs.Gives.{Gives}
use Rattle.act1_array.specs.Laws.{OneAnswer}
use Rattle.act1_circuit.specs.declared.circuit.Placed.{Placed}
use Rattle.act1_circuit.specs.declared.pairs.FormFault.{FormFault}
use Rattle.act1_circuit.specs.declared.pairs.FormFault.TheVariants as form
use Rattle.act1_circuit.specs.FormFaults.{IsFirstFault}
use Rattle.act1_circuit.specs.FormFaults as faults
use Rattle.act1_device.specs.declared.device.Device.{Device}
use Rattle.act1_fuses.specs.declared.fuses.FuseFile.{FuseFile}
use Rattle.act1_fuses.specs.Laws.{OneCircuit}
use Rattle.act1_fuses.specs.Rules.{KeepsRules}
use Rattle.act1_meaning.specs.ArrayNames.{IsClash}
use Rattle.act1_extract.specs.declared.fault.ExtractFault.{ExtractFault}
use Rattle.act1_extract.specs.declared.fault.ExtractFault.TheVariants.{Array, Form, ClockOut, Clash, Memory}
use Rattle.act1_extract.specs.Gives.{ExtractGives, IsCircuit, form_fault}
use Rattle.act1_extract.specs.Laws.{FormedAreExtracted, IsFormed, NeverBoth}

module _ (one : OneCircuit) (never : faults.NeverBoth) (once : OneAnswer) (dev : Device) (f : FuseFile) (keeps : KeepsRules dev f) (formed : IsFormed dev f) where
  -- the circuit of the array has no fault of form
  no_fault : (p : Placed) (fault : FormFault) → IsCircuit dev f p → IsFirstFault p.circuit fault → ⊥
  no_fault p fault is first =
      never formed.placed.circuit fault formed.form
      (subst (λ (q : Placed). faults.HasFault q.circuit fault) (one dev f keeps is.sound p formed.placed is.is formed.circuit.is) first.has)

  -- it gives no fault of the array
  no_array_fault : (fault : ArrayFault) → fault ≢ array.Memory → Gives dev f (Err fault) → ⊥
  no_array_fault fault other gives = by (once dev f keeps (Ok formed.placed) (Err fault) (λ e. cc) not_memory (formed.circuit.sound, formed.circuit.is) gives)
    where
      not_memory : (let r : Result Placed ArrayFault = Err fault in r) ≡ Err array.Memory → ⊥
      not_memory e = other cc

      by : (let r : Result Placed ArrayFault = Ok formed.placed in r) ≡ Err fault → ⊥
      by e = cc

  pub never_refused : (why : ExtractFault) → why ≢ Memory → ExtractGives dev f (Err why) → ⊥
  never_refused (Array fault) other gives = no_array_fault fault gives.0 gives.1
  never_refused (Form kind spot) other gives = no_fault gives.placed (form_fault kind gives.at) gives.circuit gives.fault
  never_refused (ClockOut output) other gives = no_fault gives.placed (form.ClockOut output) gives.circuit gives.fault
  never_refused (Clash output) other gives =
      formed.clear output (subst (λ (q : Placed). IsClash q.circuit output) (one dev f keeps gives.circuit.sound gives.placed formed.placed gives.circuit.is formed.circuit.is) gives.clash.clash)
  never_refused Memory other gives = absurd (other refl)

pub never_both : OneCircuit → faults.NeverBoth → OneAnswer → NeverBoth
never_both one never once dev f keeps b why other gives refused =
    never_refused one never once dev f keeps (record { placed = gives.placed; circuit = gives.circuit; form = gives.form; clear = gives.clear }) why other refused

pub formed_are_extracted : OneCircuit → faults.NeverBoth → OneAnswer → FormedAreExtracted
formed_are_extracted one never once dev f keeps formed (Ok b) gives = inl (b, refl)
formed_are_extracted one never once dev f keeps formed (Err (Array fault)) gives = absurd (never_refused one never once dev f keeps formed (Array fault) (λ e. cc) gives)
formed_are_extracted one never once dev f keeps formed (Err (Form kind spot)) gives = absurd (never_refused one never once dev f keeps formed (Form kind spot) (λ e. cc) gives)
formed_are_extracted one never once dev f keeps formed (Err (ClockOut output)) gives = absurd (never_refused one never once dev f keeps formed (ClockOut output) (λ e. cc) gives)
formed_are_extracted one never once dev f keeps formed (Err (Clash output)) gives = absurd (never_refused one never once dev f keeps formed (Clash output) (λ e. cc) gives)
formed_are_extracted one never once dev f keeps formed (Err Memory) gives = inr refl

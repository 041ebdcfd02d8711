-- Each refusal, when the conditions before it hold.
use Rattle.std.proofs.Common.{◌≡◌, List, length, sym, subst}
use Rattle.std.specs.Prelude.{Result, Err}
use Rattle.act1_device.specs.declared.device.Device.{Device}
use Rattle.act1_circuit.specs.declared.circuit.Output.{Output}
use Rattle.act1_circuit.specs.declared.circuit.Placed.{Placed}
use Rattle.act1_circuit.specs.declared.circuit.Source.{Source}
use Rattle.act1_fuses.specs.declared.fuses.FuseFile.{FuseFile}
use Rattle.act1_array.specs.declared.fault.ArrayFault.{ArrayFault}
use Rattle.act1_array.specs.declared.fault.ArrayFault.TheVariants as fault
use Rattle.act1_array.specs.declared.network.Network.{Network}
use Rattle.act1_array.specs.Gives.{Apart, Gives}
use Rattle.act1_array.specs.NetworkSteps.{IsNetworkOf}
use Rattle.act1_array.specs.PartSteps.{AreModules, AreOutputs, GivesModules, GivesOutputs, GivesStarts}
use Rattle.act1_array.proofs.CircuitLemmas.{pins_are_fed, outputs_are_fed}

module _ (dev : Device) (f : FuseFile) (n : Network) (h : IsNetworkOf dev f n) (apart : Apart dev f) where
  modules_fault : (e : ArrayFault) → GivesModules dev f n.spots (Err e) → Gives dev f (Err e)
  modules_fault (fault.Driven first second) k = absurd k
  modules_fault (fault.Floating spot pin) k = (apart, k)
  modules_fault (fault.Unfed output) k = absurd k
  modules_fault (fault.StartUnused spot) k = absurd k
  modules_fault fault.Memory k = tt

  pub modules_refused : (r : Result Placed ArrayFault) (e y : ArrayFault) → GivesModules dev f n.spots (Err e) → r ≡ Err y → y ≡ e → Gives dev f r
  modules_refused r e y k is same = subst (λ (x : Result Placed ArrayFault). Gives dev f x) (sym is) (subst (λ (z : ArrayFault). Gives dev f (Err z)) (sym same) (modules_fault e k))

  module _ (modules : List (List Source)) (pins : AreModules dev f n.spots (length n.spots) modules) where
    outputs_fault : (e : ArrayFault) → GivesOutputs dev f n.spots (Err e) → Gives dev f (Err e)
    outputs_fault (fault.Driven first second) k = absurd k
    outputs_fault (fault.Floating spot pin) k = absurd k
    outputs_fault (fault.Unfed output) k = (apart, pins_are_fed dev f n h modules pins, k)
    outputs_fault (fault.StartUnused spot) k = absurd k
    outputs_fault fault.Memory k = tt

    pub outputs_refused : (r : Result Placed ArrayFault) (e y : ArrayFault) → GivesOutputs dev f n.spots (Err e) → r ≡ Err y → y ≡ e → Gives dev f r
    outputs_refused r e y k is same = subst (λ (x : Result Placed ArrayFault). Gives dev f x) (sym is) (subst (λ (z : ArrayFault). Gives dev f (Err z)) (sym same) (outputs_fault e k))

    module _ (outputs : List Output) (pads : AreOutputs dev f n.spots f.outs outputs) where
      starts_fault : (e : ArrayFault) → GivesStarts f n.spots (Err e) → Gives dev f (Err e)
      starts_fault (fault.Driven first second) k = absurd k
      starts_fault (fault.Floating spot pin) k = absurd k
      starts_fault (fault.Unfed output) k = absurd k
      starts_fault (fault.StartUnused spot) k = (apart, pins_are_fed dev f n h modules pins, outputs_are_fed dev f n h outputs pads, k)
      starts_fault fault.Memory k = tt

      pub starts_refused : (r : Result Placed ArrayFault) (e y : ArrayFault) → GivesStarts f n.spots (Err e) → r ≡ Err y → y ≡ e → Gives dev f r
      starts_refused r e y k is same = subst (λ (x : Result Placed ArrayFault). Gives dev f x) (sym is) (subst (λ (z : ArrayFault). Gives dev f (Err z)) (sym same) (starts_fault e k))

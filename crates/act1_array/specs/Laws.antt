-- An array has at most one answer.
use Rattle.std.specs.Prelude.{Err, Result, ◌≡◌, ◌≢◌}
use Rattle.act1_circuit.specs.declared.circuit.Placed.{Placed}
use Rattle.act1_device.specs.declared.device.Device.{Device}
use Rattle.act1_fuses.specs.declared.fuses.FuseFile.{FuseFile}
use Rattle.act1_fuses.specs.Rules.{KeepsRules}
use Rattle.act1_array.specs.declared.fault.ArrayFault.{ArrayFault}
use Rattle.act1_array.specs.declared.fault.ArrayFault.TheVariants.{Memory}
use Rattle.act1_array.specs.Gives.{Gives}

-- an array gives at most one circuit or one refusal, but for want of memory
abbrev pub OneAnswer : Type 0
OneAnswer = (dev : Device) (f : FuseFile) → KeepsRules dev f → (answer other : Result Placed ArrayFault)
    → answer ≢ Err Memory → other ≢ Err Memory → Gives dev f answer → Gives dev f other → answer ≡ other

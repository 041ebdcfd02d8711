-- An array, a text of vectors and a fill have at most one answer.
use Rattle.std.specs.Prelude.{ℕ, ◌≡◌, ◌≢◌, Bool, List}
use Rattle.act1_device.specs.declared.device.Device.{Device}
use Rattle.act1_fuses.specs.declared.fuses.FuseFile.{FuseFile}
use Rattle.act1_fuses.specs.Rules.{KeepsRules}
use Rattle.act1_sim.specs.declared.fault.SimFault.{SimFault}
use Rattle.act1_sim.specs.declared.fault.SimFault.TheVariants.{Memory}
use Rattle.act1_sim.specs.Simulation.{Simulates, RefusesToSimulate}

-- two texts that are both simulated are the same
abbrev pub OneText : Type 0
OneText = (dev : Device) (f : FuseFile) (bytes : List ℕ) (fill : Bool) → KeepsRules dev f → (text other : List ℕ)
    → Simulates dev f bytes fill text → Simulates dev f bytes fill other → text ≡ other

-- what is simulated isn't refused for a cause
abbrev pub NeverBoth : Type 0
NeverBoth = (dev : Device) (f : FuseFile) (bytes : List ℕ) (fill : Bool) → KeepsRules dev f → (text : List ℕ) (e : SimFault)
    → e ≢ Memory → Simulates dev f bytes fill text → RefusesToSimulate dev f bytes fill e → ⊥

-- two refusals for a cause are the same
abbrev pub OneRefusal : Type 0
OneRefusal = (dev : Device) (f : FuseFile) (bytes : List ℕ) (fill : Bool) → KeepsRules dev f → (e other : SimFault)
    → e ≢ Memory → other ≢ Memory → RefusesToSimulate dev f bytes fill e → RefusesToSimulate dev f bytes fill other → e ≡ other

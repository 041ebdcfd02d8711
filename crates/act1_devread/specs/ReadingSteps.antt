-- What a step of the reader answers.
use Rattle.std.specs.Prelude.{◌≡◌, ◌≢◌, ℕ, Bool, true, false, List, Some, None, Result, OnOk, OnErr, IfOk, IfErr}
use Rattle.act1_devread.specs.declared.fault.DeviceFault.{DeviceFault}
use Rattle.act1_devread.specs.declared.fault.DeviceKind.{DeviceKind}
use Rattle.act1_devread.specs.declared.fault.DeviceKind.TheVariants.{Memory}
use Rattle.act1_devread.specs.declared.values.Values.{Values}
use Rattle.act1_devread.specs.declared.values.Sizes.{Sizes}
use Rattle.act1_devread.specs.Range.{natural, pins_of}
use Rattle.act1_devread.specs.Rules.{Rule, first_fault}

-- the fault of a kind at a key
abbrev pub fault : DeviceKind → ℕ → DeviceFault
fault kind key = record { kind = kind; key = key }

-- the value where the test holds, and else the fault
pub record Asks {A : Type 0} (test : Bool) (value : A) (fault : DeviceFault) (result : Result A DeviceFault) : Type 0 where
  pub passes : OnOk result (test ≡ true)
  pub given : IfOk result (λ x. x ≡ value)
  pub fails : OnErr result (test ≡ false)
  pub named : IfErr result (λ e. e ≡ fault)

-- the same of a step that takes memory: it may also end for want of it
pub record AsksWithMemory {A : Type 0} (test : Bool) (value : A) (fault : DeviceFault) (result : Result A DeviceFault) : Type 0 where
  pub passes : OnOk result (test ≡ true)
  pub given : IfOk result (λ x. x ≡ value)
  pub fails : IfErr result (λ e. e.kind ≢ Memory → test ≡ false)
  pub named : IfErr result (λ e. e.kind ≢ Memory → e ≡ fault)
  pub out_of_memory : IfErr result (λ e. e.kind ≡ Memory → e.key ≡ 0)

-- A stage of the reader, which asks several rules: it gives something of this sort where none of them is broken, and else the first fault.
-- It may also end for want of memory.
pub record Follows {A : Type 0} (rules : List Rule) (Has : A → Type 0) (result : Result A DeviceFault) : Type 0 where
  pub passes : OnOk result (first_fault rules ≡ None)
  pub given : IfOk result Has
  pub refuses : IfErr result (λ e. e.kind ≢ Memory → first_fault rules ≡ Some e)
  pub out_of_memory : IfErr result (λ e. e.kind ≡ Memory → e.key ≡ 0)

-- the sizes are made of these values
pub record HasSizes (v : Values) (sizes : Sizes) : Type 0 where
  pub rows : sizes.rows ≡ natural v.rows
  pub columns : sizes.columns ≡ natural v.columns
  pub pins : sizes.pins ≡ pins_of v.pins
  pub below : sizes.below ≡ natural v.below
  pub above : sizes.above ≡ natural v.above

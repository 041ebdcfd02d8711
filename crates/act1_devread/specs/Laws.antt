-- That device texts are read exactly.
use Rattle.std.specs.Prelude.{◌≡◌, ℕ, List, ◌⊎◌}
use Rattle.act1_device.specs.declared.device.Device.{Device}
use Rattle.act1_devread.specs.declared.fault.DeviceKind.{DeviceKind}
use Rattle.act1_devread.specs.Text.{DeviceText, DeviceBad}

-- the bytes are the text of some device
abbrev pub IsDevices : List ℕ → Type 0
IsDevices bytes = (dev : Device) × DeviceText bytes dev

-- the bytes are refused with some fault
abbrev pub IsRefused : List ℕ → Type 0
IsRefused bytes = (kind : DeviceKind) × (key : ℕ) × DeviceBad bytes kind key

-- each text is a device's or refused
abbrev pub EachText : Type 0
EachText = (bytes : List ℕ) → IsDevices bytes ⊎ IsRefused bytes

-- no text is both a device's and refused
abbrev pub NeverBoth : Type 0
NeverBoth = (bytes : List ℕ) (dev : Device) (kind : DeviceKind) (key : ℕ) → DeviceText bytes dev → DeviceBad bytes kind key → ⊥

-- no text is refused with two faults
abbrev pub OneFault : Type 0
OneFault = (bytes : List ℕ) (kind other : DeviceKind) (key next : ℕ)
    → DeviceBad bytes kind key → DeviceBad bytes other next → (kind ≡ other) × (key ≡ next)

-- no text is of two devices
abbrev pub OneDevice : Type 0
OneDevice = (bytes : List ℕ) (dev other : Device) → DeviceText bytes dev → DeviceText bytes other → dev ≡ other

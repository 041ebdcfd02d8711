-- What the rules of a device leave: how much of each kind it has at most.
use Rattle.std.specs.Prelude.{ℕ, ◌≤◌, length}
use Rattle.act1_device.specs.declared.device.Device.{Device}
use Rattle.act1_device.specs.Sites.{breaks_of}

-- so many rows, columns, breaks of a track and pads at most: a pad has a place of its own, in one of 33 channels and 64 columns
pub record IsSmall (dev : Device) : Type 0 where
  pub rows : dev.rows ≤ 32
  pub columns : dev.columns ≤ 64
  pub breaks : (channel t : ℕ) → length (breaks_of dev channel t) ≤ 63
  pub pads : length dev.pads ≤ 2112

-- this holds of each device
abbrev pub DevicesAreSmall : Type 0
DevicesAreSmall = (dev : Device) → IsSmall dev

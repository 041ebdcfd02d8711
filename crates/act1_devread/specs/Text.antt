-- Which texts are a device's, and with which fault the others are refused.
use Rattle.std.specs.Prelude.{◌≡◌, ℕ, List, map, Some, None}
use Rattle.toml.specs.Data.{Members}
use Rattle.act1_device.specs.declared.device.Device.{Device}
use Rattle.act1_devread.specs.declared.fault.DeviceKind.{DeviceKind}
use Rattle.act1_devread.specs.declared.fault.DeviceKind.TheVariants.{Text}
use Rattle.act1_devread.specs.declared.values.Values.{Values}
use Rattle.act1_devread.specs.Document.{IsDocument, IsNoDocument, values_of}
use Rattle.act1_devread.specs.Range.{natural, naturals, pins_of, long_of, place_of}
use Rattle.act1_devread.specs.Rules.{first_fault, rules_of}

-- the device is made of these values
pub record HasValues (v : Values) (dev : Device) : Type 0 where
  pub name : dev.name ≡ v.name
  pub rows : dev.rows ≡ natural v.rows
  pub columns : dev.columns ≡ natural v.columns
  pub pins : dev.pins ≡ pins_of v.pins
  pub below : dev.below ≡ natural v.below
  pub above : dev.above ≡ natural v.above
  pub tracks : dev.tracks ≡ naturals v.tracks
  pub longs : dev.longs ≡ map long_of v.longs
  pub pads : dev.pads ≡ map place_of v.pads

-- the bytes are the text of the device: a document that breaks no rule, with the device's values
pub record DeviceText (bytes : List ℕ) (dev : Device) : Type 0 where
  pub members : Members
  pub document : IsDocument bytes members
  pub rules : first_fault (rules_of members) ≡ None
  pub values : HasValues (values_of members) dev

-- the bytes are refused with this kind and key: they are no document, or a document whose first broken rule has them
pub data DeviceBad : List ℕ → DeviceKind → ℕ → Type 0 where
  no_document : {bytes : List ℕ} → IsNoDocument bytes → DeviceBad bytes Text 0
  broken : {bytes : List ℕ} {kind : DeviceKind} {key : ℕ} (ms : Members) → IsDocument bytes ms
      → first_fault (rules_of ms) ≡ Some (record { kind = kind; key = key }) → DeviceBad bytes kind key

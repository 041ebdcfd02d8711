-- The channels of a device's pads.
use Rattle.std.proofs.Common.{ℕ, ◌≡◌, ◌<◌, ◌≤◌, true, List, [], ◌∷◌, length, get_or, arith, zero, suc}
use Rattle.std.specs.List.{list_all}
use Rattle.std.proofs.lemmas.Bool.{and_parts}
use Rattle.std.proofs.lemmas.Bool.Decides.{nat_tests}
use Rattle.act1_device.specs.declared.device.Device.{Device}
use Rattle.act1_device.specs.declared.device.PadPlace.{PadPlace}
use Rattle.act1_device.specs.Rules.{is_device, is_place}

rules : (dev : Device) → (list_all (is_place dev.rows dev.columns) dev.pads ≡ true) × (dev.rows ≤ 32)
unfolding is_device
rules dev = let v = dev.valid in grind (arith, nat_tests)

low_by : (rows columns : ℕ) (p : PadPlace) → is_place rows columns p ≡ true → p.channel ≤ rows
low_by rows columns p h = grind (arith, nat_tests)

all_low : (rows columns : ℕ) (ps : List PadPlace) (k : ℕ) (d : PadPlace) → list_all (is_place rows columns) ps ≡ true → k < length ps → (get_or ps k d).channel ≤ rows
all_low rows columns [] k d h low = absurd (omega (arith, low))
all_low rows columns (p ∷ ps) zero d h low = low_by rows columns p (and_parts (is_place rows columns p) (list_all (is_place rows columns) ps) h).0
all_low rows columns (p ∷ ps) (suc k) d h low = all_low rows columns ps k d (and_parts (is_place rows columns p) (list_all (is_place rows columns) ps) h).1 (omega (arith, low))

pub low_channel : (dev : Device) (k : ℕ) (d : PadPlace) → k < length dev.pads → (get_or dev.pads k d).channel ≤ 32
low_channel dev k d low = let r = rules dev in let channel = all_low dev.rows dev.columns dev.pads k d r.0 low in let rows = r.1 in omega (arith, channel, rows)

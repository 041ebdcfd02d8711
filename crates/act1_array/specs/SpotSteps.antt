-- The spots of the used modules.
use Rattle.std.specs.Prelude.{ℕ, Bool, List, Some, length, slice_get, slice_set, true, ◌%◌, ◌*◌, ◌+◌, ◌/◌, ◌<◌, ◌≡◌}
use Rattle.act1_circuit.specs.declared.circuit.Spot.{Spot}
use Rattle.act1_device.specs.declared.device.Site.{Site}
use Rattle.act1_device.specs.declared.device.Site.TheVariants.{Cross}
use Rattle.act1_fuses.specs.Array.{IsUsed}
use Rattle.act1_device.specs.declared.device.Line.TheVariants as line

-- a spot of the largest device
abbrev pub IsNear : Spot → Type 0
IsNear s = (s.row < 32) × (s.column < 64)

-- the output that the site touches, if it does, is that of such a spot
abbrev pub IsInside : Site → Type 0
IsInside (Cross channel t (line.Out row column)) = (row < 32) × (column < 64)
IsInside s = Unit {0}

-- spots are numbered by row and then by column, 64 to a row
abbrev pub place_of : Spot → ℕ
place_of s = s.row * 64 + s.column

abbrev pub spot_of : ℕ → Spot
spot_of place = record { row = place / 64; column = place % 64 }

-- the marks when a site is looked at
abbrev pub with_use : Site → List Bool → List Bool
with_use (Cross channel t (line.Out row column)) marks = slice_set marks (row * 64 + column) true
with_use s marks = marks

-- the marks say of each spot whether its module is used
pub record AreMarks (sites : List Site) (marks : List Bool) : Type 0 where
  pub all : length marks ≡ 2048
  pub marked : (s : Spot) → IsUsed sites s → IsNear s × (slice_get marks (place_of s) ≡ Some true)
  pub only : (place : ℕ) → slice_get marks place ≡ Some true → IsUsed sites (spot_of place)

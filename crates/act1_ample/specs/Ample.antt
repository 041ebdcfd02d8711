-- When a device is ample for a netlist, and when a channel is wide.
use Rattle.std.specs.Prelude.{ℕ, ◌+◌, ◌*◌, ◌≤◌, ◌==◌, ◌&&◌, Bool, true, false, List, [], ◌∷◌, length, count_by}
use Rattle.act1_blif.specs.declared.blif.Blif.{Blif}
use Rattle.act1_blif.specs.Need.{need}
use Rattle.act1_device.specs.declared.device.Device.{Device}
use Rattle.act1_device.specs.declared.device.Long.{Long}
use Rattle.act1_device.specs.Sites.{tracks_of}
use Rattle.act1_channel.specs.declared.problem.Problem.{Problem}

-- the track has no breaks
abbrev pub is_unbroken : List ℕ → Bool
is_unbroken [] = true
is_unbroken (b ∷ breaks) = false

-- how many of the tracks have none
abbrev pub count_unbroken : List (List ℕ) → ℕ
count_unbroken tracks = count_by is_unbroken tracks

-- the long wire spans all channels
abbrev pub spans_all : Device → Long → Bool
spans_all dev long = (long.low == 0) && (long.high == dev.rows)

-- how many long wires of the whole array do so: each column has them all
abbrev pub count_spanning : Device → ℕ
count_spanning dev = dev.columns * count_by (spans_all dev) dev.longs

-- so many long wires that span all channels, and in each channel so many unbroken tracks
pub record IsWideFor (dev : Device) (count : ℕ) : Type 0 where
  pub longs : count ≤ count_spanning dev
  pub tracks : (channel : ℕ) → channel ≤ dev.rows → count ≤ count_unbroken (tracks_of dev channel)

-- a site for each module that the netlist needs, a pad for each input and output, and room for a net of each input and each such module
pub record IsAmple (dev : Device) (net : Blif) : Type 0 where
  pub sites : need net ≤ dev.rows * dev.columns
  pub pads : length net.inputs + length net.outputs ≤ length dev.pads
  pub wide : IsWideFor dev (length net.inputs + need net)

-- a channel is wide: it has an unbroken track for each connection
abbrev pub IsWide : Problem → Type 0
IsWide p = length p.connections ≤ count_unbroken p.tracks

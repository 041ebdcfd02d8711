-- The numbers of an antifuse file, in the fields that hold them.
use Rattle.std.specs.Prelude.{◌<◌, ◌≤◌, ◌++◌, All}
use Rattle.act1_device.specs.declared.device.Track.{Track}
use Rattle.act1_device.specs.declared.device.Track.TheVariants as track
use Rattle.act1_device.specs.declared.device.Line.{Line}
use Rattle.act1_device.specs.declared.device.Line.TheVariants as line
use Rattle.act1_device.specs.declared.device.Site.{Site}
use Rattle.act1_device.specs.declared.device.Site.TheVariants.{Along, Cross}
use Rattle.act1_fuses.specs.declared.fuses.FuseFile.{FuseFile}
use Rattle.act1_fuses.specs.declared.fuses.Port.{Port}

-- a track's number is in its field
abbrev pub TrackFits : Track → Type 0
TrackFits (track.Signal n) = n ≤ 255
TrackFits t = Unit {0}

-- the numbers of a line that crosses channels are in theirs, and there are eight pins
abbrev pub LineFits : Line → Type 0
LineFits (line.Pin row column pin) = (row ≤ 255) × (column ≤ 255) × (pin < 8)
LineFits (line.Out row column) = (row ≤ 255) × (column ≤ 255)
LineFits (line.Long column index) = (column ≤ 255) × (index ≤ 255)
LineFits (line.Pad pad) = pad ≤ 65535

-- the numbers of a site are
abbrev pub SiteFits : Site → Type 0
SiteFits (Along channel t index) = (channel ≤ 255) × (t ≤ 255) × (index ≤ 255)
SiteFits (Cross channel t l) = (channel ≤ 255) × TrackFits t × LineFits l

-- the numbers of pads and of sites are in their fields
pub record FitsFields (f : FuseFile) : Type 0 where
  pub pads : All (λ (port : Port). port.pad ≤ 65535) (f.ins ++ f.outs)
  pub sites : All SiteFits f.sites

-- The order of sites, which is that of their antifuses in an antifuse file.
use Rattle.std.specs.Prelude.{ℕ, List, [], ◌∷◌, IsTrue}
use Rattle.act1_base.specs.Rising.{is_before}
use Rattle.act1_device.specs.declared.device.Track.{Track}
use Rattle.act1_device.specs.declared.device.Track.TheVariants as track
use Rattle.act1_device.specs.declared.device.Line.{Line}
use Rattle.act1_device.specs.declared.device.Line.TheVariants as line
use Rattle.act1_device.specs.declared.device.Site.{Site}
use Rattle.act1_device.specs.declared.device.Site.TheVariants.{Along, Cross}

-- the signal tracks, then ground, power and clock
abbrev pub track_number : Track → ℕ
track_number (track.Signal t) = t
track_number track.Gnd = 64
track_number track.Vcc = 65
track_number track.Clk = 66

-- pins, then outputs, long wires and pads
abbrev pub line_numbers : Line → List ℕ
line_numbers (line.Pin row column pin) = 1 ∷ row ∷ column ∷ pin ∷ []
line_numbers (line.Out row column) = 2 ∷ row ∷ column ∷ []
line_numbers (line.Long column index) = 3 ∷ column ∷ index ∷ []
line_numbers (line.Pad pad) = 4 ∷ pad ∷ []

-- channel, track, form (along a track before all crossings) and place
abbrev pub site_numbers : Site → List ℕ
site_numbers (Along channel t index) = channel ∷ t ∷ 0 ∷ index ∷ []
site_numbers (Cross channel t l) = channel ∷ track_number t ∷ line_numbers l

-- by these numbers, from the first on
abbrev pub SiteIsBefore : Site → Site → Type 0
SiteIsBefore a b = IsTrue (is_before (site_numbers a) (site_numbers b))

-- The wires of a device and the sites of its antifuses.
use Rattle.std.specs.Prelude.{ℕ, ◌≡◌, ◌+◌, ◌<◌, ◌≤◌, ◌==◌, nat_le, if◌then◌else◌, false, List, [], length, slice_index_or, count_by}
use Rattle.act1_device.specs.declared.device.Device.{Device}
use Rattle.act1_device.specs.declared.device.Long.{Long}
use Rattle.act1_device.specs.declared.device.PadPlace.{PadPlace}
use Rattle.act1_device.specs.declared.device.Track.{Track}
use Rattle.act1_device.specs.declared.device.Track.TheVariants as track
use Rattle.act1_device.specs.declared.device.Line.{Line}
use Rattle.act1_device.specs.declared.device.Line.TheVariants as line
use Rattle.act1_device.specs.declared.device.Site.{Site}
use Rattle.act1_device.specs.declared.device.Site.TheVariants.{Along, Cross}
use Rattle.act1_device.specs.declared.device.Wire.{Wire}
use Rattle.act1_device.specs.declared.device.Wire.TheVariants as wire

-- the tracks of a channel: a single entry serves every channel
abbrev pub tracks_of : Device → ℕ → List (List ℕ)
tracks_of dev channel = if length dev.tracks == 1 then slice_index_or dev.tracks 0 [] else slice_index_or dev.tracks channel []

-- where a signal track is cut
abbrev pub breaks_of : Device → ℕ → ℕ → List ℕ
breaks_of dev channel track = slice_index_or (tracks_of dev channel) track []

-- the segment of a column: as many as there are breaks up to it
abbrev pub segment_at : Device → ℕ → ℕ → ℕ → ℕ
segment_at dev channel track column = count_by (λ b. nat_le b column) (breaks_of dev channel track)

-- a long wire, by its number
abbrev pub long_at : Device → ℕ → Long
long_at dev index = slice_index_or dev.longs index (record { low = 0; high = 0 })

-- the place of a pad, by its number
abbrev pub pad_at : Device → ℕ → PadPlace
pad_at dev pad = slice_index_or dev.pads pad (record { channel = 0; column = 0 })

-- row r lies between the channels r and r + 1, and pin j leads up where `pins` says so
abbrev pub pin_channel : Device → ℕ → ℕ → ℕ
pin_channel dev row pin = if slice_index_or dev.pins pin false then row + 1 else row

-- the device has the line
abbrev pub HasLine : Device → Line → Type 0
HasLine dev (line.Pin row column pin) = (row < dev.rows) × (column < dev.columns) × (pin < 8)
HasLine dev (line.Out row column) = (row < dev.rows) × (column < dev.columns)
HasLine dev (line.Long column index) = (column < dev.columns) × (index < length dev.longs)
HasLine dev (line.Pad pad) = pad < length dev.pads

-- the column of a line
abbrev pub column_of : Device → Line → ℕ
column_of dev (line.Pin row column pin) = column
column_of dev (line.Out row column) = column
column_of dev (line.Long column index) = column
column_of dev (line.Pad pad) = (pad_at dev pad).column

-- the channels that a line of the device crosses
abbrev pub Reaches : Device → Line → ℕ → Type 0
Reaches dev (line.Pin row column pin) channel = channel ≡ pin_channel dev row pin
Reaches dev (line.Out row column) channel = (row ≤ channel + dev.below) × (channel ≤ row + 1 + dev.above) × (channel ≤ dev.rows)
Reaches dev (line.Long column index) channel = ((long_at dev index).low ≤ channel) × (channel ≤ (long_at dev index).high)
Reaches dev (line.Pad pad) channel = channel ≡ (pad_at dev pad).channel

-- the device has the line, and it crosses the channel
abbrev pub Crosses : Device → Line → ℕ → Type 0
Crosses dev l channel = HasLine dev l × Reaches dev l channel

-- pins also cross ground, power and clock, and pads ground and power
abbrev pub Meets : Device → ℕ → Track → Line → Type 0
Meets dev channel (track.Signal t) l = t < length (tracks_of dev channel)
Meets dev channel track.Gnd (line.Pin row column pin) = Unit {0}
Meets dev channel track.Gnd (line.Pad pad) = Unit {0}
Meets dev channel track.Vcc (line.Pin row column pin) = Unit {0}
Meets dev channel track.Vcc (line.Pad pad) = Unit {0}
Meets dev channel track.Clk (line.Pin row column pin) = Unit {0}
Meets dev channel t l = ⊥

-- where an antifuse may stand
abbrev pub IsSite : Device → Site → Type 0
IsSite dev (Along channel t index) = (channel ≤ dev.rows) × (t < length (tracks_of dev channel)) × (index < length (breaks_of dev channel t))
IsSite dev (Cross channel t l) = Crosses dev l channel × Meets dev channel t l

-- the wire of a track under a column
abbrev pub track_wire : Device → ℕ → Track → ℕ → Wire
track_wire dev channel (track.Signal t) column = wire.Seg channel t (segment_at dev channel t column)
track_wire dev channel track.Gnd column = wire.Gnd
track_wire dev channel track.Vcc column = wire.Vcc
track_wire dev channel track.Clk column = wire.Clk

-- the two wires that the antifuse of a site joins
abbrev pub ends_of : Device → Site → Wire × Wire
ends_of dev (Along channel t index) = (wire.Seg channel t index, wire.Seg channel t (index + 1))
ends_of dev (Cross channel t l) = (wire.Vertical l, track_wire dev channel t (column_of dev l))

-- The forms of the lines of an antifuse file. The format is this project's own.
use Rattle.std.specs.Prelude.{ℕ, Bool, ◌&&◌, ◌||◌, ◌+◌, nat_le, if◌then◌else◌, List, [], ◌∷◌, Option, Some, None, codes}
use Rattle.std.specs.Str.{bytes_eq}
use Rattle.act1_base.specs.Capped.{is_number, capped}
use Rattle.act1_base.specs.Names.{is_name}
use Rattle.act1_device.specs.declared.device.Track.{Track}
use Rattle.act1_device.specs.declared.device.Track.TheVariants as track
use Rattle.act1_device.specs.declared.device.Line.{Line}
use Rattle.act1_device.specs.declared.device.Line.TheVariants as line
use Rattle.act1_device.specs.declared.device.Site.{Site}
use Rattle.act1_device.specs.declared.device.Site.TheVariants.{Along, Cross}
use Rattle.act1_device.specs.Order.{line_numbers, site_numbers, track_number}
use Rattle.act1_device.specs.Pins.{pin_names}
use Rattle.act1_fuses.specs.declared.form.FuseLine.{FuseLine}
use Rattle.act1_fuses.specs.declared.form.FuseLine.TheVariants as form

-- the number of a word, where all above 65,535 count as 65,536
abbrev pub number : List ℕ → ℕ
number word = capped 65536 word

-- the word of a track: a number, or one of three names
abbrev pub is_track : List ℕ → Bool
is_track word = bytes_eq word (codes "gnd") || bytes_eq word (codes "vcc") || bytes_eq word (codes "clk") || is_number word

-- the number of a track among those of a channel: signal tracks, then ground, power and clock
abbrev pub track_order : List ℕ → ℕ
track_order word = if bytes_eq word (codes "gnd") then track_number track.Gnd else if bytes_eq word (codes "vcc") then track_number track.Vcc else if bytes_eq word (codes "clk") then track_number track.Clk else number word

-- a number that a field of a site holds
abbrev pub is_small : ℕ → Bool
is_small n = nat_le n 255

-- the track, if its number is small
abbrev pub track_of : List ℕ → Option Track
track_of word =
    if bytes_eq word (codes "gnd") then Some track.Gnd
    else if bytes_eq word (codes "vcc") then Some track.Vcc
    else if bytes_eq word (codes "clk") then Some track.Clk
    else if is_small (number word) then Some (track.Signal (number word))
    else None

-- the place of a word among names that are numbered from n on
abbrev pub place_among : List ℕ → ℕ → List (List ℕ) → Option ℕ
place_among word n [] = None
place_among word n (name ∷ names) = if bytes_eq word name then Some n else place_among word (n + 1) names

-- the number of a pin, by its name
abbrev pub pin_number : List ℕ → Option ℕ
pin_number word = place_among word 0 pin_names

-- a pin, if its numbers are small
abbrev pub pin_at : ℕ → ℕ → ℕ → Option Line
pin_at row column pin = if is_small row && is_small column then Some (line.Pin row column pin) else None

-- an output, if its numbers are small
abbrev pub out_at : ℕ → ℕ → Option Line
out_at row column = if is_small row && is_small column then Some (line.Out row column) else None

-- a long wire, if its numbers are small
abbrev pub long_at : ℕ → ℕ → Option Line
long_at column index = if is_small column && is_small index then Some (line.Long column index) else None

-- a pad, if its number is small
abbrev pub pad_at : ℕ → Option Line
pad_at pad = if nat_le pad 65535 then Some (line.Pad pad) else None

-- the site of a crossing
abbrev pub crossing : ℕ → Option Track → Option Line → Option Site
crossing channel (Some t) (Some l) = if is_small channel then Some (Cross channel t l) else None
crossing channel _ _ = None

-- the site along a track, which is a signal track
abbrev pub along : ℕ → Option Track → ℕ → Option Site
along channel (Some (track.Signal t)) index = if is_small channel && is_small index then Some (Along channel t index) else None
along channel _ index = None

-- an antifuse along a track: the numbers of the order of sites, and the site
abbrev pub along_fuse : List ℕ → List ℕ → List ℕ → FuseLine
along_fuse c t index = form.Fuse (site_numbers (Along (number c) (track_order t) (number index))) (along (number c) (track_of t) (number index))

-- an antifuse where a pin crosses a track
abbrev pub pin_fuse : List ℕ → List ℕ → List ℕ → List ℕ → ℕ → FuseLine
pin_fuse c t row column pin = form.Fuse (number c ∷ track_order t ∷ line_numbers (line.Pin (number row) (number column) pin)) (crossing (number c) (track_of t) (pin_at (number row) (number column) pin))

-- an antifuse where an output crosses a track
abbrev pub out_fuse : List ℕ → List ℕ → List ℕ → List ℕ → FuseLine
out_fuse c t row column = form.Fuse (number c ∷ track_order t ∷ line_numbers (line.Out (number row) (number column))) (crossing (number c) (track_of t) (out_at (number row) (number column)))

-- an antifuse where a long wire crosses a track
abbrev pub long_fuse : List ℕ → List ℕ → List ℕ → List ℕ → FuseLine
long_fuse c t column index = form.Fuse (number c ∷ track_order t ∷ line_numbers (line.Long (number column) (number index))) (crossing (number c) (track_of t) (long_at (number column) (number index)))

-- an antifuse where a pad crosses a track
abbrev pub pad_fuse : List ℕ → List ℕ → List ℕ → FuseLine
pad_fuse c t pad = form.Fuse (number c ∷ track_order t ∷ line_numbers (line.Pad (number pad))) (crossing (number c) (track_of t) (pad_at (number pad)))

-- the first of two lines that there is
abbrev pub or_line : Option FuseLine → Option FuseLine → Option FuseLine
or_line (Some l) other = Some l
or_line None other = other

-- `end`
abbrev pub end_of : List ℕ → Option FuseLine
end_of word = if bytes_eq word (codes "end") then Some form.End else None

-- `device NAME`
abbrev pub device_of : List ℕ → List ℕ → Option FuseLine
device_of word name = if bytes_eq word (codes "device") && is_name name then Some (form.Device name) else None

-- `clock NAME`
abbrev pub clock_of : List ℕ → List ℕ → Option FuseLine
clock_of word name = if bytes_eq word (codes "clock") && is_name name then Some (form.Clock name) else None

-- a line of two words
abbrev pub form_of_two : List ℕ → List ℕ → Option FuseLine
form_of_two word name = or_line (device_of word name) (clock_of word name)

-- `act1 fuses 1`
abbrev pub header_of : List ℕ → List ℕ → List ℕ → Option FuseLine
header_of word format version =
    if bytes_eq word (codes "act1") && bytes_eq format (codes "fuses") && bytes_eq version (codes "1") then Some form.Header else None

-- `in PAD NAME`
abbrev pub input_of : List ℕ → List ℕ → List ℕ → Option FuseLine
input_of word pad name = if bytes_eq word (codes "in") && is_number pad && is_name name then Some (form.In (number pad) name) else None

-- `out PAD NAME`
abbrev pub output_of : List ℕ → List ℕ → List ℕ → Option FuseLine
output_of word pad name = if bytes_eq word (codes "out") && is_number pad && is_name name then Some (form.Out (number pad) name) else None

-- an input or an output
abbrev pub port_of : List ℕ → List ℕ → List ℕ → Option FuseLine
port_of word pad name = or_line (input_of word pad name) (output_of word pad name)

-- a line of three words
abbrev pub form_of_three : List ℕ → List ℕ → List ℕ → Option FuseLine
form_of_three first second third = or_line (header_of first second third) (port_of first second third)

-- the words with which each antifuse begins: `fuse`, a channel and a track
abbrev pub is_fuse : List ℕ → List ℕ → List ℕ → Bool
is_fuse word channel track = bytes_eq word (codes "fuse") && is_number channel && is_track track

-- a number up to 3
abbrev pub is_init : List ℕ → Bool
is_init word = is_number word && nat_le (number word) 3

-- `start ROW COLUMN INIT NAME`
abbrev pub start_of : List ℕ → List ℕ → List ℕ → List ℕ → List ℕ → Option FuseLine
start_of word row column init name =
    if bytes_eq word (codes "start") && is_number row && is_number column && is_init init && is_name name then Some (form.Start (number row) (number column) (number init) name)
    else None

-- `fuse CHANNEL TRACK along INDEX`
abbrev pub along_of : List ℕ → List ℕ → List ℕ → List ℕ → List ℕ → Option FuseLine
along_of word channel track kind index = if is_fuse word channel track && bytes_eq kind (codes "along") && is_number index then Some (along_fuse channel track index) else None

-- `fuse CHANNEL TRACK pad PAD`
abbrev pub pad_of : List ℕ → List ℕ → List ℕ → List ℕ → List ℕ → Option FuseLine
pad_of word channel track kind pad = if is_fuse word channel track && bytes_eq kind (codes "pad") && is_number pad then Some (pad_fuse channel track pad) else None

-- an antifuse of one number behind its kind
abbrev pub short_fuse_of : List ℕ → List ℕ → List ℕ → List ℕ → List ℕ → Option FuseLine
short_fuse_of word channel track kind place = or_line (along_of word channel track kind place) (pad_of word channel track kind place)

-- a line of five words
abbrev pub form_of_five : List ℕ → List ℕ → List ℕ → List ℕ → List ℕ → Option FuseLine
form_of_five first second third fourth fifth = or_line (start_of first second third fourth fifth) (short_fuse_of first second third fourth fifth)

-- `fuse CHANNEL TRACK out ROW COLUMN`
abbrev pub out_of : List ℕ → List ℕ → List ℕ → List ℕ → List ℕ → List ℕ → Option FuseLine
out_of word channel track kind row column =
    if is_fuse word channel track && bytes_eq kind (codes "out") && is_number row && is_number column then Some (out_fuse channel track row column) else None

-- `fuse CHANNEL TRACK long COLUMN INDEX`
abbrev pub long_of : List ℕ → List ℕ → List ℕ → List ℕ → List ℕ → List ℕ → Option FuseLine
long_of word channel track kind column index =
    if is_fuse word channel track && bytes_eq kind (codes "long") && is_number column && is_number index then Some (long_fuse channel track column index) else None

-- a line of six words
abbrev pub form_of_six : List ℕ → List ℕ → List ℕ → List ℕ → List ℕ → List ℕ → Option FuseLine
form_of_six word channel track kind first second = or_line (out_of word channel track kind first second) (long_of word channel track kind first second)

-- `fuse CHANNEL TRACK pin ROW COLUMN PIN`, where the last word is the name of this pin, or of none
abbrev pub pin_of : List ℕ → List ℕ → List ℕ → List ℕ → List ℕ → List ℕ → Option ℕ → Option FuseLine
pin_of word channel track kind row column (Some pin) =
    if is_fuse word channel track && bytes_eq kind (codes "pin") && is_number row && is_number column then Some (pin_fuse channel track row column pin) else None
pin_of word channel track kind row column None = None

-- the line of these words, or none where they are of no form
abbrev pub form_of : List (List ℕ) → Option FuseLine
form_of (a ∷ []) = end_of a
form_of (a ∷ b ∷ []) = form_of_two a b
form_of (a ∷ b ∷ c ∷ []) = form_of_three a b c
form_of (a ∷ b ∷ c ∷ d ∷ e ∷ []) = form_of_five a b c d e
form_of (a ∷ b ∷ c ∷ d ∷ e ∷ f ∷ []) = form_of_six a b c d e f
form_of (a ∷ b ∷ c ∷ d ∷ e ∷ f ∷ g ∷ []) = pin_of a b c d e f (pin_number g)
form_of _ = None

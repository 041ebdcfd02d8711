-- The one text of an antifuse file. The format is this project's own.
use Rattle.std.specs.Prelude.{ℕ, List, [], ◌∷◌, ◌++◌, map, Option, Some, None, codes}
use Rattle.std.specs.Fmt.{decimal}
use Rattle.act1_base.specs.Words.{text_of_lines}
use Rattle.act1_device.specs.declared.device.Track.{Track}
use Rattle.act1_device.specs.declared.device.Track.TheVariants as track
use Rattle.act1_device.specs.declared.device.Line.{Line}
use Rattle.act1_device.specs.declared.device.Line.TheVariants as line
use Rattle.act1_device.specs.declared.device.Site.{Site}
use Rattle.act1_device.specs.declared.device.Site.TheVariants.{Along, Cross}
use Rattle.act1_device.specs.Pins.{pin_name}
use Rattle.act1_fuses.specs.declared.fuses.FuseFile.{FuseFile}
use Rattle.act1_fuses.specs.declared.fuses.Port.{Port}
use Rattle.act1_fuses.specs.declared.fuses.StartAt.{StartAt}

-- a signal track is written as its number, and the others by their names
abbrev pub track_word : Track → List ℕ
track_word (track.Signal t) = decimal t
track_word track.Gnd = codes "gnd"
track_word track.Vcc = codes "vcc"
track_word track.Clk = codes "clk"

-- the words of a line that crosses a channel
abbrev pub line_words : Line → List (List ℕ)
line_words (line.Pin row column pin) = codes "pin" ∷ decimal row ∷ decimal column ∷ pin_name pin ∷ []
line_words (line.Out row column) = codes "out" ∷ decimal row ∷ decimal column ∷ []
line_words (line.Long column index) = codes "long" ∷ decimal column ∷ decimal index ∷ []
line_words (line.Pad pad) = codes "pad" ∷ decimal pad ∷ []

-- the words of an antifuse
abbrev pub site_words : Site → List (List ℕ)
site_words (Along channel t index) = codes "fuse" ∷ decimal channel ∷ decimal t ∷ codes "along" ∷ decimal index ∷ []
site_words (Cross channel t l) = codes "fuse" ∷ decimal channel ∷ track_word t ∷ line_words l

-- the words of an input or an output, after the word `in` or `out`
abbrev pub port_words : List ℕ → Port → List (List ℕ)
port_words word port = word ∷ decimal port.pad ∷ port.name ∷ []

-- the words of a start
abbrev pub start_words : StartAt → List (List ℕ)
start_words start = codes "start" ∷ decimal start.spot.row ∷ decimal start.spot.column ∷ decimal start.init ∷ start.name ∷ []

-- the clock's line, if there is a clock
abbrev pub clock_lines : Option (List ℕ) → List (List (List ℕ))
clock_lines None = []
clock_lines (Some name) = (codes "clock" ∷ name ∷ []) ∷ []

-- the words of each line
abbrev pub file_lines : FuseFile → List (List (List ℕ))
file_lines f =
    (codes "act1" ∷ codes "fuses" ∷ codes "1" ∷ []) ∷ (codes "device" ∷ f.device ∷ []) ∷ clock_lines f.clock
    ++ map (port_words (codes "in")) f.ins ++ map (port_words (codes "out")) f.outs ++ map start_words f.starts ++ map site_words f.sites
    ++ (codes "end" ∷ []) ∷ []

-- the one text of an antifuse file
abbrev pub fuse_text : FuseFile → List ℕ
fuse_text f = text_of_lines (file_lines f)

-- Worked examples of devices and of the rules on sites.
use Rattle.std.proofs.Common.{ℕ, ◌≡◌, ◌<◌, ◌≤◌, Bool, true, false, List, [], ◌∷◌, refl, arith}
use Rattle.std.specs.Prelude.{codes, ◌↔◌}
use Rattle.act1_device.specs.declared.device.Device.{Device}
use Rattle.act1_device.specs.declared.device.PadPlace.{PadPlace}
use Rattle.act1_device.specs.declared.device.Track.TheVariants as track
use Rattle.act1_device.specs.declared.device.Line.TheVariants as line
use Rattle.act1_device.specs.declared.device.Site.TheVariants.{Along, Cross}
use Rattle.act1_device.specs.declared.device.Wire.TheVariants as wire
use Rattle.act1_device.specs.Rules.{is_device}
use Rattle.act1_device.specs.Sites.{segment_at, IsSite, ends_of, Crosses}
use Rattle.act1_device.specs.Order.{SiteIsBefore}

-- four pins lead down and four up
abbrev pub four_up : List Bool
four_up = false ∷ false ∷ false ∷ false ∷ true ∷ true ∷ true ∷ true ∷ []

abbrev pub place : ℕ → ℕ → PadPlace
place h c = record { channel = h; column = c }

pub tiny_is_device : is_device (codes "tiny") 1 2 0 0 (([] ∷ []) ∷ []) [] (place 0 0 ∷ place 0 1 ∷ place 1 0 ∷ place 1 1 ∷ []) ≡ true
unfolding is_device
tiny_is_device = refl

-- one row of two modules, with one track a channel and four pads
abbrev pub tiny : Device
tiny = record {
  name = codes "tiny";
  rows = 1;
  columns = 2;
  pins = four_up;
  below = 0;
  above = 0;
  tracks = (([] ∷ []) ∷ []);
  longs = [];
  pads = place 0 0 ∷ place 0 1 ∷ place 1 0 ∷ place 1 1 ∷ [];
  valid = tiny_is_device;
}

pub cut_is_device : is_device (codes "cut") 8 44 2 1 (([] ∷ (22 ∷ []) ∷ (15 ∷ 30 ∷ []) ∷ []) ∷ []) (record { low = 0; high = 8 } ∷ record { low = 3; high = 5 } ∷ []) (place 8 43 ∷ []) ≡ true
unfolding is_device
cut_is_device = refl

-- eight rows of 44 columns; the third track is cut at 15 and at 30
abbrev pub cut : Device
cut = record {
  name = codes "cut";
  rows = 8;
  columns = 44;
  pins = four_up;
  below = 2;
  above = 1;
  tracks = (([] ∷ (22 ∷ []) ∷ (15 ∷ 30 ∷ []) ∷ []) ∷ []);
  longs = record { low = 0; high = 8 } ∷ record { low = 3; high = 5 } ∷ [];
  pads = place 8 43 ∷ [];
  valid = cut_is_device;
}

-- breaks 15 and 30 make the segments of columns 0 to 14, 15 to 29, and 30 on
segments_of_cut : (segment_at cut 4 2 0 ≡ 0) × (segment_at cut 4 2 14 ≡ 0) × (segment_at cut 4 2 15 ≡ 1) × (segment_at cut 4 2 29 ≡ 1) × (segment_at cut 4 2 30 ≡ 2) × (segment_at cut 4 2 43 ≡ 2)
segments_of_cut = (refl, refl, refl, refl, refl, refl)

segments_of_others : (segment_at cut 0 0 43 ≡ 0) × (segment_at cut 8 1 21 ≡ 0) × (segment_at cut 8 1 22 ≡ 1)
segments_of_others = (refl, refl, refl)

-- an output in the fourth row crosses the channels 1 to 5, one in the first row the channels 0 to 2, and one in the last row the channels 5 to 8
output_of_row_three : (h : ℕ) → Crosses cut (line.Out 3 7) h ↔ ((1 ≤ h) × (h ≤ 5))
output_of_row_three h = (λ c. (omega (arith, c.1.0), omega (arith, c.1.1)), λ c. ((omega arith, omega arith), (omega (arith, c.0), omega (arith, c.1), omega (arith, c.1))))

output_of_row_zero : (h : ℕ) → Crosses cut (line.Out 0 43) h ↔ (h ≤ 2)
output_of_row_zero h = (λ c. omega (arith, c.1.1), λ c. ((omega arith, omega arith), (omega (arith, c), omega (arith, c), omega (arith, c))))

output_of_row_seven : (h : ℕ) → Crosses cut (line.Out 7 0) h ↔ ((5 ≤ h) × (h ≤ 8))
output_of_row_seven h = (λ c. (omega (arith, c.1.0), omega (arith, c.1.2)), λ c. ((omega arith, omega arith), (omega (arith, c.0), omega (arith, c.1), omega (arith, c.1))))

-- there is no ninth row
no_output : (h : ℕ) → ¬ Crosses cut (line.Out 8 0) h
no_output h c = absurd (omega (arith, c.0.0))

long_wire : (h : ℕ) → Crosses cut (line.Long 43 1) h ↔ ((3 ≤ h) × (h ≤ 5))
long_wire h = (λ c. c.1, λ c. ((omega arith, omega arith), c))

no_long_wire : (h : ℕ) → ¬ Crosses cut (line.Long 43 2) h
no_long_wire h c = absurd (omega (arith, c.0.1))

pin_down : (h : ℕ) → Crosses tiny (line.Pin 0 1 3) h ↔ (h ≡ 0)
pin_down h = (λ c. c.1, λ c. ((omega arith, omega arith, omega arith), c))

pin_up : (h : ℕ) → Crosses tiny (line.Pin 0 1 4) h ↔ (h ≡ 1)
pin_up h = (λ c. c.1, λ c. ((omega arith, omega arith, omega arith), c))

-- pins cross all tracks, pads no clock, outputs and long wires signal tracks alone
pad_and_clock : ¬ IsSite tiny (Cross 0 track.Clk (line.Pad 0))
pad_and_clock s = s.1

pad_and_power : IsSite tiny (Cross 1 track.Vcc (line.Pad 3))
pad_and_power = ((omega arith, refl), tt)

output_and_ground : ¬ IsSite tiny (Cross 0 track.Gnd (line.Out 0 0))
output_and_ground s = s.1

long_and_power : ¬ IsSite cut (Cross 4 track.Vcc (line.Long 0 1))
long_and_power s = s.1

pin_and_clock : IsSite tiny (Cross 1 track.Clk (line.Pin 0 0 6))
pin_and_clock = (((omega arith, omega arith, omega arith), refl), tt)

no_second_track : ¬ IsSite tiny (Cross 0 (track.Signal 1) (line.Pad 0))
no_second_track s = absurd (omega (arith, s.1))

-- between three segments there are two sites
along_sites : (s : ℕ) → IsSite cut (Along 8 2 s) ↔ (s < 2)
along_sites s = (λ c. c.2, λ c. (omega arith, omega arith, c))

no_along : (s : ℕ) → ¬ IsSite cut (Along 8 0 s)
no_along s c = absurd (omega (arith, c.2))

ends_along : ends_of cut (Along 8 2 1) ≡ (wire.Seg 8 2 1, wire.Seg 8 2 2)
ends_along = refl

ends_cross : ends_of cut (Cross 8 (track.Signal 2) (line.Pad 0)) ≡ (wire.Vertical (line.Pad 0), wire.Seg 8 2 2)
ends_cross = refl

ends_clock : ends_of tiny (Cross 1 track.Clk (line.Pin 0 0 6)) ≡ (wire.Vertical (line.Pin 0 0 6), wire.Clk)
ends_clock = refl

-- signal tracks come before ground, power and clock; a place along a track before all crossings of that track
in_order_1 : SiteIsBefore (Cross 0 (track.Signal 63) (line.Pad 9)) (Cross 0 track.Gnd (line.Pin 0 0 0))
in_order_1 = refl

in_order_2 : SiteIsBefore (Cross 0 track.Gnd (line.Pad 9)) (Cross 0 track.Vcc (line.Pin 0 0 0))
in_order_2 = refl

in_order_3 : SiteIsBefore (Cross 0 track.Vcc (line.Pad 9)) (Cross 0 track.Clk (line.Pin 0 0 0))
in_order_3 = refl

in_order_4 : SiteIsBefore (Along 0 5 63) (Cross 0 (track.Signal 5) (line.Pin 0 0 0))
in_order_4 = refl

in_order_5 : SiteIsBefore (Cross 0 (track.Signal 5) (line.Pin 31 63 7)) (Cross 0 (track.Signal 5) (line.Out 0 0))
in_order_5 = refl

in_order_6 : SiteIsBefore (Cross 0 (track.Signal 5) (line.Out 31 63)) (Cross 0 (track.Signal 5) (line.Long 0 0))
in_order_6 = refl

in_order_7 : SiteIsBefore (Cross 0 (track.Signal 5) (line.Long 63 31)) (Cross 0 (track.Signal 5) (line.Pad 0))
in_order_7 = refl

in_order_8 : SiteIsBefore (Cross 0 (track.Signal 5) (line.Pin 0 63 7)) (Cross 0 (track.Signal 5) (line.Pin 1 0 0))
in_order_8 = refl

in_order_9 : SiteIsBefore (Cross 0 track.Clk (line.Pin 9 9 9)) (Along 1 0 0)
in_order_9 = refl

not_before_itself : ¬ SiteIsBefore (Along 1 2 3) (Along 1 2 3)
not_before_itself h = cc

-- a single rule broken, and the rest kept
no_rows : is_device (codes "d") 0 2 0 0 (([] ∷ []) ∷ []) [] [] ≡ false
unfolding is_device
no_rows = refl

rows_33 : is_device (codes "d") 33 2 0 0 (([] ∷ []) ∷ []) [] [] ≡ false
unfolding is_device
rows_33 = refl

rows_32 : is_device (codes "d-_9Z") 32 64 32 32 (([] ∷ []) ∷ []) [] [] ≡ true
unfolding is_device
rows_32 = refl

columns_1 : is_device (codes "d") 1 1 0 0 (([] ∷ []) ∷ []) [] [] ≡ false
unfolding is_device
columns_1 = refl

columns_65 : is_device (codes "d") 1 65 0 0 (([] ∷ []) ∷ []) [] [] ≡ false
unfolding is_device
columns_65 = refl

below_33 : is_device (codes "d") 1 2 33 0 (([] ∷ []) ∷ []) [] [] ≡ false
unfolding is_device
below_33 = refl

above_33 : is_device (codes "d") 1 2 0 33 (([] ∷ []) ∷ []) [] [] ≡ false
unfolding is_device
above_33 = refl

name_with_dot : is_device (codes "d.d") 1 2 0 0 (([] ∷ []) ∷ []) [] [] ≡ false
unfolding is_device
name_with_dot = refl

no_name : is_device [] 1 2 0 0 (([] ∷ []) ∷ []) [] [] ≡ false
unfolding is_device
no_name = refl

no_channels : is_device (codes "d") 1 2 0 0 [] [] [] ≡ false
unfolding is_device
no_channels = refl

no_tracks : is_device (codes "d") 1 2 0 0 ([] ∷ []) [] [] ≡ false
unfolding is_device
no_tracks = refl

three_channels : is_device (codes "d") 1 2 0 0 (([] ∷ []) ∷ ([] ∷ []) ∷ ([] ∷ []) ∷ []) [] [] ≡ false
unfolding is_device
three_channels = refl

two_channels : is_device (codes "d") 1 2 0 0 (([] ∷ []) ∷ ([] ∷ []) ∷ []) [] [] ≡ true
unfolding is_device
two_channels = refl

break_zero : is_device (codes "d") 1 2 0 0 (((0 ∷ []) ∷ []) ∷ []) [] [] ≡ false
unfolding is_device
break_zero = refl

break_columns : is_device (codes "d") 1 2 0 0 (((2 ∷ []) ∷ []) ∷ []) [] [] ≡ false
unfolding is_device
break_columns = refl

breaks_fall : is_device (codes "d") 1 44 0 0 (((30 ∷ 15 ∷ []) ∷ []) ∷ []) [] [] ≡ false
unfolding is_device
breaks_fall = refl

breaks_equal : is_device (codes "d") 1 44 0 0 (((15 ∷ 15 ∷ []) ∷ []) ∷ []) [] [] ≡ false
unfolding is_device
breaks_equal = refl

long_of_one_channel : is_device (codes "d") 1 2 0 0 (([] ∷ []) ∷ []) (record { low = 1; high = 1 } ∷ []) [] ≡ false
unfolding is_device
long_of_one_channel = refl

long_too_high : is_device (codes "d") 1 2 0 0 (([] ∷ []) ∷ []) (record { low = 0; high = 2 } ∷ []) [] ≡ false
unfolding is_device
long_too_high = refl

pads_equal : is_device (codes "d") 1 2 0 0 (([] ∷ []) ∷ []) [] (place 0 0 ∷ place 1 1 ∷ place 0 0 ∷ []) ≡ false
unfolding is_device
pads_equal = refl

pad_too_high : is_device (codes "d") 1 2 0 0 (([] ∷ []) ∷ []) [] (place 2 0 ∷ []) ≡ false
unfolding is_device
pad_too_high = refl

pad_too_far : is_device (codes "d") 1 2 0 0 (([] ∷ []) ∷ []) [] (place 0 2 ∷ []) ≡ false
unfolding is_device
pad_too_far = refl

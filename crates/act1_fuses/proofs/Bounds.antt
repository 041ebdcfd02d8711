-- The numbers of a device's sites and pads are small, so that their fields hold them.
use Rattle.std.proofs.Common.{ℕ, zero, suc, ◌≡◌, ◌≢◌, ◌+◌, ◌*◌, ◌<◌, ◌≤◌, ◌==◌, nat_le, nat_lt, Bool, true, false, not, ◌&&◌, ◌||◌, cond, IsTrue, List, [], ◌∷◌, length, map, refl, sym, ap, subst, ◌∙◌, arith}
use Rattle.std.specs.Prelude.{if◌then◌else◌, slice_index_or}
use Rattle.std.specs.List.{list_all, list_any, AllByRecursion}
use Rattle.std.proofs.lemmas.Bool.Decides.{nat_tests}
use Rattle.act1_device.specs.declared.device.Device.{Device}
use Rattle.act1_device.specs.declared.device.Long.{Long}
use Rattle.act1_device.specs.declared.device.PadPlace.{PadPlace}
use Rattle.act1_device.specs.declared.device.Track.{Track}
use Rattle.act1_device.specs.declared.device.Track.TheVariants as track
use Rattle.act1_device.specs.declared.device.Line.{Line}
use Rattle.act1_device.specs.declared.device.Line.TheVariants as line
use Rattle.act1_device.specs.declared.device.Site.{Site}
use Rattle.act1_device.specs.declared.device.Site.TheVariants.{Along, Cross}
use Rattle.act1_device.specs.Laws.{DevicesAreSmall}
use Rattle.act1_device.specs.Rules.{is_device, is_device_name, is_within, are_channels, are_in_order, are_inside, are_tracks, is_long, is_place, is_same_place, are_apart}
use Rattle.act1_device.specs.Sites.{IsSite, HasLine, Reaches, Meets, tracks_of, long_at, pad_at}
use Rattle.act1_fuses.specs.declared.fuses.FuseFile.{FuseFile}
use Rattle.act1_fuses.specs.Rules.{KeepsRules}
use Rattle.act1_fuses.proofs.Fields.{TrackFits, LineFits, SiteFits, FitsFields}
use Rattle.act1_fuses.proofs.Pushes.{any_false}
use Rattle.act1_fuses.proofs.ReadLaw.{few_rows, few_columns}
use Rattle.act1_fuses.proofs.ReadStates.{both}

-- different numbers below n are at most n
abbrev Distinct : List ℕ → Type 0
Distinct [] = Unit {0}
Distinct (x ∷ xs) = AllByRecursion (λ y. x ≢ y) xs × Distinct xs

abbrev Below : ℕ → List ℕ → Type 0
Below n xs = AllByRecursion (λ x. x < n) xs

-- without the first that is m
abbrev less : ℕ → List ℕ → List ℕ
less m [] = []
less m (x ∷ xs) = cond (x == m) xs (x ∷ less m xs)

less_all : (P : ℕ → Type 0) (m : ℕ) (xs : List ℕ) → AllByRecursion P xs → AllByRecursion P (less m xs)
less_all P m [] h = tt
less_all P m (x ∷ xs) h = by (x == m) (less_all P m xs h.1)
  where
    by : (b : Bool) → AllByRecursion P (less m xs) → AllByRecursion P (cond b xs (x ∷ less m xs))
    by true r = h.1
    by false r = (h.0, r)

less_distinct : (m : ℕ) (xs : List ℕ) → Distinct xs → Distinct (less m xs)
less_distinct m [] h = tt
less_distinct m (x ∷ xs) h = by (x == m) (less_distinct m xs h.1) (less_all (λ y. x ≢ y) m xs h.0)
  where
    by : (b : Bool) → Distinct (less m xs) → AllByRecursion (λ y. x ≢ y) (less m xs) → Distinct (cond b xs (x ∷ less m xs))
    by true r apart = h.1
    by false r apart = (apart, r)

less_length : (m : ℕ) (xs : List ℕ) → length xs ≤ length (less m xs) + 1
less_length m [] = omega arith
less_length m (x ∷ xs) = by (x == m) (less_length m xs)
  where
    by : (b : Bool) → length xs ≤ length (less m xs) + 1 → length (x ∷ xs) ≤ length (cond b xs (x ∷ less m xs)) + 1
    by true r = omega arith
    by false r = omega arith

others_below : (m x : ℕ) (xs : List ℕ) → x ≡ m → AllByRecursion (λ y. x ≢ y) xs → Below (m + 1) xs → Below m xs
others_below m x [] e apart h = tt
others_below m x (y ∷ xs) e apart h =
    let differs : y ≢ m = λ same. apart.0 (e ∙ sym same) in
    let low = h.0 in
    (lower y m differs low, others_below m x xs e apart.1 h.1)
  where
    lower : (a b : ℕ) → a ≢ b → a < b + 1 → a < b
    lower a b p q = grind (arith, nat_tests)

less_below : (m : ℕ) (xs : List ℕ) → Distinct xs → Below (m + 1) xs → Below m (less m xs)
less_below m [] d h = tt
less_below m (x ∷ xs) d h = by (x == m) refl (less_below m xs d.1 h.1)
  where
    same_if : (a b : ℕ) → (a == b) ≡ true → a ≡ b
    same_if a b e = grind (arith, nat_tests)

    lower_if : (a b : ℕ) → (a == b) ≡ false → a < b + 1 → a < b
    lower_if a b e q = grind (arith, nat_tests)

    by : (b : Bool) → (x == m) ≡ b → Below m (less m xs) → Below m (cond b xs (x ∷ less m xs))
    by true e r = others_below m x xs (same_if x m e) d.0 h.1
    by false e r = (lower_if x m e h.0, r)

few_numbers : (n : ℕ) (xs : List ℕ) → Distinct xs → Below n xs → length xs ≤ n
few_numbers zero [] d h = omega arith
few_numbers zero (x ∷ xs) d h = absurd (none x h.0)
  where
    none : (a : ℕ) → a < 0 → ⊥
    none a p = omega arith
few_numbers (suc m) xs d h =
    let next : suc m ≡ m + 1 = omega arith in
    let rest = few_numbers m (less m xs) (less_distinct m xs d) (less_below m xs d (subst (λ (n : ℕ). Below n xs) next h)) in
    let size = less_length m xs in
    omega (arith, rest, size)

-- the places of pads as numbers
abbrev place_number : PadPlace → ℕ
place_number p = p.channel * 64 + p.column

abbrev IsInside : PadPlace → Type 0
IsInside p = (p.channel ≤ 32) × (p.column < 64)

same_test : (a b c d : ℕ) → a ≡ c → b ≡ d → (a == c && b == d) ≡ true
same_test a b c d e f = grind (arith, nat_tests)

no_both : (b : Bool) → b ≡ true → b ≡ false → ⊥
no_both b h k = cc

other_number : (p q : PadPlace) → IsInside p → IsInside q → is_same_place p q ≡ false → place_number p ≢ place_number q
other_number p q ip iq h e =
    let a = ip.1 in
    let b = iq.1 in
    let channels : p.channel ≡ q.channel = omega (arith, a, b, e) in
    let columns : p.column ≡ q.column = omega (arith, a, b, e) in
    no_both (is_same_place p q) (same_test p.channel p.column q.channel q.column channels columns) h

others_apart : (p : PadPlace) (ps : List PadPlace) → IsInside p → AllByRecursion IsInside ps → AllByRecursion (λ q. is_same_place p q ≡ false) ps → AllByRecursion (λ y. place_number p ≢ y) (map place_number ps)
others_apart p [] ip i h = tt
others_apart p (q ∷ ps) ip i h = (other_number p q ip i.0 h.0, others_apart p ps ip i.1 h.1)

not_is : (b : Bool) → IsTrue (not b) → b ≡ false
not_is true h = cc
not_is false h = refl

numbers_distinct : (ps : List PadPlace) → AllByRecursion IsInside ps → IsTrue (are_apart ps) → Distinct (map place_number ps)
numbers_distinct [] i h = tt
numbers_distinct (p ∷ ps) i h =
    let parts = both (not (list_any (is_same_place p) ps)) (are_apart ps) h in
    (others_apart p ps i.0 i.1 (any_false (is_same_place p) ps (not_is (list_any (is_same_place p) ps) parts.0)), numbers_distinct ps i.1 parts.1)

numbers_below : (ps : List PadPlace) → AllByRecursion IsInside ps → Below 2112 (map place_number ps)
numbers_below [] i = tt
numbers_below (p ∷ ps) i = let a = i.0.0 in let b = i.0.1 in (omega (arith, a, b), numbers_below ps i.1)

length_numbers : (ps : List PadPlace) → length (map place_number ps) ≡ length ps
length_numbers [] = refl
length_numbers (p ∷ ps) = ap suc (length_numbers ps)

last_tests : (a b c d e f g h : Bool) → IsTrue (a && b && c && d && e && f && g && h) → IsTrue f × IsTrue g × IsTrue h
last_tests a b c d e f g h valid =
    let to_h = both (a && b && c && d && e && f && g) h valid in
    let to_g = both (a && b && c && d && e && f) g to_h.0 in
    ((both (a && b && c && d && e) f to_g.0).1, to_g.1, to_h.1)

tests_of : (dev : Device) → IsTrue (are_channels dev.rows dev.columns dev.tracks && are_in_order dev.tracks)
    × IsTrue (nat_le (length dev.longs) 32 && list_all (is_long dev.rows) dev.longs) × IsTrue (list_all (is_place dev.rows dev.columns) dev.pads && are_apart dev.pads)
unfolding is_device
tests_of dev =
    last_tests (is_device_name dev.name) (is_within 1 32 dev.rows) (is_within 2 64 dev.columns) (nat_le dev.below 32) (nat_le dev.above 32)
    (are_channels dev.rows dev.columns dev.tracks && are_in_order dev.tracks) (nat_le (length dev.longs) 32 && list_all (is_long dev.rows) dev.longs)
    (list_all (is_place dev.rows dev.columns) dev.pads && are_apart dev.pads) dev.valid

le_is : (a b : ℕ) → IsTrue (nat_le a b) → a ≤ b
le_is a b h = grind (arith, nat_tests)

lt_is : (a b : ℕ) → IsTrue (nat_lt a b) → a < b
lt_is a b h = grind (arith, nat_tests)

insides : (rows columns : ℕ) (ps : List PadPlace) → rows ≤ 32 → columns ≤ 64 → IsTrue (list_all (is_place rows columns) ps) → AllByRecursion IsInside ps
insides rows columns [] r c h = tt
insides rows columns (p ∷ ps) r c h =
    let parts = both (is_place rows columns p) (list_all (is_place rows columns) ps) h in
    let place = both (nat_le p.channel rows) (nat_lt p.column columns) parts.0 in
    let a = le_is p.channel rows place.0 in
    let b = lt_is p.column columns place.1 in
    ((omega (arith, a, r), omega (arith, b, c)), insides rows columns ps r c parts.1)

-- a device has at most 2,112 pads
few_pads : (dev : Device) → length dev.pads ≤ 2112
few_pads dev =
    let t = both (list_all (is_place dev.rows dev.columns) dev.pads) (are_apart dev.pads) (tests_of dev).2 in
    let inside = insides dev.rows dev.columns dev.pads (few_rows dev) (few_columns dev) t.0 in
    subst (λ (n : ℕ). n ≤ 2112) (length_numbers dev.pads) (few_numbers 2112 (map place_number dev.pads) (numbers_distinct dev.pads inside t.1) (numbers_below dev.pads inside))

at_or : {A : Type 0} (p : A → Bool) (xs : List A) (k : ℕ) (d : A) → IsTrue (p d) → IsTrue (list_all p xs) → IsTrue (p (slice_index_or xs k d))
at_or p [] k d none h = none
at_or p (x ∷ xs) zero d none h = (both (p x) (list_all p xs) h).0
at_or p (x ∷ xs) (suc k) d none h = at_or p xs k d none (both (p x) (list_all p xs) h).1

all_weaker : {A : Type 0} (p q : A → Bool) (xs : List A) → ((x : A) → IsTrue (p x) → IsTrue (q x)) → IsTrue (list_all p xs) → IsTrue (list_all q xs)
all_weaker p q [] f h = refl
all_weaker p q (x ∷ xs) f h = let parts = both (p x) (list_all p xs) h in rw (f x parts.0) (all_weaker p q xs f parts.1)

few_in : (dev : Device) (channel : ℕ) → length (tracks_of dev channel) ≤ 64
few_in dev channel =
    let order = both (are_channels dev.rows dev.columns dev.tracks) (are_in_order dev.tracks) (tests_of dev).0 in
    let tracks = both (length dev.tracks == 1 || length dev.tracks == dev.rows + 1) (list_all (are_tracks dev.columns) dev.tracks) order.0 in
    let short : IsTrue (list_all (λ (c : List (List ℕ)). nat_le (length c) 64) dev.tracks)
    = all_weaker (are_tracks dev.columns) (λ (c : List (List ℕ)). nat_le (length c) 64) dev.tracks
    (λ c h. (both (nat_le 1 (length c)) (nat_le (length c) 64) (both (is_within 1 64 (length c)) (list_all (are_inside dev.columns) c) h).0).1) tracks.1 in
    by (length dev.tracks == 1) (at_or (λ (c : List (List ℕ)). nat_le (length c) 64) dev.tracks 0 [] refl short) (at_or (λ (c : List (List ℕ)). nat_le (length c) 64) dev.tracks channel [] refl short)
  where
    by : (one : Bool) → IsTrue (nat_le (length (slice_index_or dev.tracks 0 [])) 64) → IsTrue (nat_le (length (slice_index_or dev.tracks channel [])) 64)
        → length (if one then slice_index_or dev.tracks 0 [] else slice_index_or dev.tracks channel []) ≤ 64
    by true a b = le_is _ 64 a
    by false a b = le_is _ 64 b

track_low : (dev : Device) (channel : ℕ) (t : Track) (l : Line) → Meets dev channel t l → TrackFits t
track_low dev channel (track.Signal n) l h = let few = few_in dev channel in omega (arith, h, few)
track_low dev channel track.Gnd l h = tt
track_low dev channel track.Vcc l h = tt
track_low dev channel track.Clk l h = tt

long_tests : (dev : Device) → IsTrue (nat_le (length dev.longs) 32) × IsTrue (list_all (is_long dev.rows) dev.longs)
long_tests dev = both (nat_le (length dev.longs) 32) (list_all (is_long dev.rows) dev.longs) (tests_of dev).1

long_high : (dev : Device) (index : ℕ) → (long_at dev index).high ≤ dev.rows
long_high dev index =
    let low : IsTrue (list_all (λ (l : Long). nat_le l.high dev.rows) dev.longs) = all_weaker (is_long dev.rows) (λ (l : Long). nat_le l.high dev.rows) dev.longs (λ l h. (both (nat_lt l.low l.high) (nat_le l.high dev.rows) h).1) (long_tests dev).1 in
    le_is (long_at dev index).high dev.rows (at_or (λ (l : Long). nat_le l.high dev.rows) dev.longs index (record { low = 0; high = 0 }) (zero_le dev.rows) low)
  where
    zero_le : (n : ℕ) → IsTrue (nat_le 0 n)
    zero_le n = grind (arith, nat_tests)

pad_channel : (dev : Device) (pad : ℕ) → (pad_at dev pad).channel ≤ dev.rows
pad_channel dev pad =
    let t = both (list_all (is_place dev.rows dev.columns) dev.pads) (are_apart dev.pads) (tests_of dev).2 in
    let low : IsTrue (list_all (λ (p : PadPlace). nat_le p.channel dev.rows) dev.pads) = all_weaker (is_place dev.rows dev.columns) (λ (p : PadPlace). nat_le p.channel dev.rows) dev.pads (λ p h. (both (nat_le p.channel dev.rows) (nat_lt p.column dev.columns) h).0) t.0 in
    le_is (pad_at dev pad).channel dev.rows (at_or (λ (p : PadPlace). nat_le p.channel dev.rows) dev.pads pad (record { channel = 0; column = 0 }) (zero_le dev.rows) low)
  where
    zero_le : (n : ℕ) → IsTrue (nat_le 0 n)
    zero_le n = grind (arith, nat_tests)

up_or_down : (up : Bool) (row : ℕ) → (if up then row + 1 else row) ≤ row + 1
up_or_down true row = omega arith
up_or_down false row = omega arith

channel_low : (dev : Device) (l : Line) (channel : ℕ) → HasLine dev l → Reaches dev l channel → channel ≤ 255
channel_low dev (line.Pin row column pin) channel h r =
    let rows = few_rows dev in
    let low = h.0 in
    let up = up_or_down (slice_index_or dev.pins pin false) row in
    omega (arith, rows, low, up, r)
channel_low dev (line.Out row column) channel h r = let rows = few_rows dev in let low = r.2 in omega (arith, rows, low)
channel_low dev (line.Long column index) channel h r = let rows = few_rows dev in let low = r.1 in let high = long_high dev index in omega (arith, rows, low, high)
channel_low dev (line.Pad pad) channel h r = let rows = few_rows dev in let high = pad_channel dev pad in omega (arith, rows, high, r)

line_low : (dev : Device) (l : Line) → HasLine dev l → LineFits l
line_low dev (line.Pin row column pin) h = let rows = few_rows dev in let columns = few_columns dev in let a = h.0 in let b = h.1 in (omega (arith, rows, a), omega (arith, columns, b), h.2)
line_low dev (line.Out row column) h = let rows = few_rows dev in let columns = few_columns dev in let a = h.0 in let b = h.1 in (omega (arith, rows, a), omega (arith, columns, b))
line_low dev (line.Long column index) h =
    let columns = few_columns dev in
    let longs = le_is (length dev.longs) 32 (long_tests dev).0 in
    let a = h.0 in
    let b = h.1 in
    (omega (arith, columns, a), omega (arith, longs, b))
line_low dev (line.Pad pad) h = let pads = few_pads dev in omega (arith, pads, h)

site_low : DevicesAreSmall → (dev : Device) (site : Site) → IsSite dev site → SiteFits site
site_low small dev (Along c t i) h =
    let rows = few_rows dev in
    let tracks = few_in dev c in
    let breaks = (small dev).breaks c t in
    let a = h.0 in
    let b = h.1 in
    let d = h.2 in
    (omega (arith, rows, a), omega (arith, tracks, b), omega (arith, breaks, d))
site_low small dev (Cross c t l) h = (channel_low dev l c h.0.0 h.0.1, track_low dev c t l h.1, line_low dev l h.0.0)

-- the numbers of a file that keeps the rules are in their fields
pub fits_of : DevicesAreSmall → (dev : Device) (f : FuseFile) → KeepsRules dev f → FitsFields f
fits_of small dev f keeps = record {
  pads = λ k d low. (let pads = few_pads dev in let has = keeps.pads k d low in omega (arith, pads, has));
  sites = λ k d low. site_low small dev (slice_index_or f.sites k d) (keeps.sites k d low);
}

-- A track has fewer breaks than the device has columns, and so at most 63.
use Rattle.std.proofs.Common.{ℕ, ◌+◌, ◌<◌, ◌≤◌, ◌==◌, ◌&&◌, ◌||◌, Bool, true, false, IsTrue, nat_le, nat_lt, zero, suc, if◌then◌else◌, List, [], ◌∷◌, length, slice_index_or, refl, arith}
use Rattle.std.specs.List.{list_all}
use Rattle.std.proofs.lemmas.Bool.{and_parts, and_from}
use Rattle.std.proofs.lemmas.Bool.Decides.{nat_tests}
use Rattle.act1_base.specs.Rising.{is_rising}
use Rattle.act1_device.specs.declared.device.Device.{Device}
use Rattle.act1_device.specs.Rules.{is_device, is_device_name, is_long, is_place, are_apart, are_inside, are_tracks, are_channels, are_in_order, is_within}
use Rattle.act1_device.specs.Sites.{tracks_of, breaks_of}

below : (n x : ℕ) (rest : Bool) → IsTrue (nat_le 1 x && nat_lt x n && rest) → (1 ≤ x) × (x < n)
below n x rest h =
    let parts = and_parts (nat_le 1 x && nat_lt x n) rest h in
    let two = and_parts (nat_le 1 x) (nat_lt x n) parts.0 in
    (grind (arith, nat_tests), grind (arith, nat_tests))

-- a rising list of numbers below n has no more of them than there is room for
short : (n x : ℕ) (xs : List ℕ) → IsTrue (are_inside n (x ∷ xs)) → IsTrue (is_rising (x ∷ xs)) → x + length (x ∷ xs) ≤ n
short n x [] inside rises = let low = below n x true inside in omega arith
short n x (y ∷ xs) inside rises =
    let rest = and_parts (nat_le 1 x && nat_lt x n) (are_inside n (y ∷ xs)) inside in
    let up = and_parts (nat_lt x y) (is_rising (y ∷ xs)) rises in
    let rises_by : x < y = grind (arith, nat_tests) in
    let more = short n y xs rest.1 up.1 in
    omega arith

-- breaks inside n columns are fewer than these
fewer : (n : ℕ) (xs : List ℕ) → 2 ≤ n → IsTrue (are_inside n xs) → IsTrue (is_rising xs) → length xs < n
fewer n [] some inside rises = omega arith
fewer n (x ∷ xs) some inside rises =
    let s = short n x xs inside rises in
    let low = below n x (are_inside n xs) inside in
    omega arith

-- what holds of each list of a list holds of the one at i, or of the empty one past the end
at : {A : Type 0} (p : List A → Bool) (xs : List (List A)) (i : ℕ) → IsTrue (p []) → IsTrue (list_all p xs) → IsTrue (p (slice_index_or xs i []))
at p [] i none all = none
at p (x ∷ xs) zero none all = (and_parts (p x) (list_all p xs) all).0
at p (x ∷ xs) (suc i) none all = at p xs i none (and_parts (p x) (list_all p xs) all).1

at_channel : (p : List (List ℕ) → Bool) (tracks : List (List (List ℕ))) (channel : ℕ) → IsTrue (p []) → IsTrue (list_all p tracks) → (one : Bool)
    → IsTrue (p (if one then slice_index_or tracks 0 [] else slice_index_or tracks channel []))
at_channel p tracks channel none all true = at p tracks 0 none all
at_channel p tracks channel none all false = at p tracks channel none all

columns_and_tracks : (a b c d e f g h : Bool) → IsTrue (a && b && c && d && e && f && g && h) → IsTrue c × IsTrue f
columns_and_tracks a b c d e f g h valid =
    let to_f = and_parts (a && b && c && d && e) f (and_parts (a && b && c && d && e && f) g (and_parts (a && b && c && d && e && f && g) h valid).0).0 in
    let to_c = and_parts (a && b) c (and_parts (a && b && c) d (and_parts (a && b && c && d) e to_f.0).0).0 in
    (to_c.1, to_f.1)

-- the tests of the columns and of the tracks, among those of a device
tests_of : (dev : Device) → IsTrue (is_within 2 64 dev.columns) × IsTrue (are_channels dev.rows dev.columns dev.tracks && are_in_order dev.tracks)
unfolding is_device
tests_of dev =
    columns_and_tracks (is_device_name dev.name) (is_within 1 32 dev.rows) (is_within 2 64 dev.columns) (nat_le dev.below 32) (nat_le dev.above 32)
    (are_channels dev.rows dev.columns dev.tracks && are_in_order dev.tracks) (nat_le (length dev.longs) 32 && list_all (is_long dev.rows) dev.longs)
    (list_all (is_place dev.rows dev.columns) dev.pads && are_apart dev.pads) dev.valid

-- tracks inside the columns, without the test of how many there are
inside_all : (columns : ℕ) (channels : List (List (List ℕ))) → IsTrue (list_all (are_tracks columns) channels) → IsTrue (list_all (λ c. list_all (are_inside columns) c) channels)
inside_all columns [] h = h
inside_all columns (c ∷ channels) h =
    let parts = and_parts (are_tracks columns c) (list_all (are_tracks columns) channels) h in
    let inside = and_parts (is_within 1 64 (length c)) (list_all (are_inside columns) c) parts.0 in
    and_from (list_all (are_inside columns) c) (list_all (λ d. list_all (are_inside columns) d) channels) inside.1 (inside_all columns channels parts.1)

-- each track has fewer breaks than the device has columns, of which there are at most 64
pub few_breaks : (dev : Device) (channel t : ℕ) → length (breaks_of dev channel t) ≤ 63
few_breaks dev channel t =
    let tests = tests_of dev in
    let tracks = and_parts (are_channels dev.rows dev.columns dev.tracks) (are_in_order dev.tracks) tests.1 in
    let channels = and_parts (length dev.tracks == 1 || length dev.tracks == dev.rows + 1) (list_all (are_tracks dev.columns) dev.tracks) tracks.0 in
    let size = and_parts (nat_le 2 dev.columns) (nat_le dev.columns 64) tests.0 in
    let low : 2 ≤ dev.columns = grind (arith, nat_tests) in
    let high : dev.columns ≤ 64 = grind (arith, nat_tests) in
    let inside = at (are_inside dev.columns) (tracks_of dev channel) t refl
    (at_channel (λ c. list_all (are_inside dev.columns) c) dev.tracks channel refl (inside_all dev.columns dev.tracks channels.1) (length dev.tracks == 1)) in
    let rises = at is_rising (tracks_of dev channel) t refl (at_channel (λ c. list_all is_rising c) dev.tracks channel refl tracks.1 (length dev.tracks == 1)) in
    let few = fewer dev.columns (breaks_of dev channel t) low inside rises in
    omega arith

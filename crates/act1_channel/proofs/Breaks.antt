-- Segments of columns rise, and there are few of them.
use Rattle.std.proofs.Common.{ℕ, zero, suc, ◌≡◌, ◌+◌, ◌-◌, ◌<◌, ◌≤◌, ◌⊎◌, ◌↔◌, ◌&&◌, Bool, true, false, cond, IsTrue, nat_le, nat_lt, List, [], ◌∷◌, length, slice_index_or, count_by, refl, ap, inl, inr, arith}
use Rattle.std.specs.List.{list_all}
use Rattle.std.proofs.lemmas.Bool.{cases_lt}
use Rattle.std.proofs.lemmas.Bool.Decides.{nat_tests}
use Rattle.std.proofs.lemmas.List.Sums.{count_by-le-length, sum_by-cons}
use Rattle.act1_base.specs.Rising.{is_rising}
use Rattle.act1_channel.specs.declared.problem.Problem.{Problem}
use Rattle.act1_channel.specs.declared.problem.Connection.{Connection}
use Rattle.act1_channel.specs.Ranges.{is_within, is_track, is_connection, is_problem}
use Rattle.act1_channel.specs.Assignment.{connection_at, first_segment, last_segment, segment_at, segments, DoClash, Overlaps}
use Rattle.act1_channel.specs.AssignmentSteps.{DoEndsMeet}
use Rattle.act1_channel.specs.Laws.{SegmentsAreThoseBetween}

below : (b x y : ℕ) → x ≤ y → (x < b) ⊎ (b ≤ x) → cond (nat_le b x) 1 0 ≤ cond (nat_le b y) 1 0
below b x y low (inl less) = let h : nat_le b x ≡ false = grind (arith, nat_tests) in rw h (omega arith)
below b x y low (inr le) = let h : nat_le b x ≡ true = grind (arith, nat_tests) in let k : nat_le b y ≡ true = grind (arith, nat_tests) in rw (h, k) (omega arith)

-- more columns, no fewer breaks
counts : (x y : ℕ) (breaks : List ℕ) → x ≤ y → count_by (λ b. nat_le b x) breaks ≤ count_by (λ b. nat_le b y) breaks
counts x y [] low = omega arith
counts x y (b ∷ breaks) low =
    let r = counts x y breaks low in
    let one = sum_by-cons (λ (z : ℕ). cond (nat_le z x) 1 0) b breaks in
    let two = sum_by-cons (λ (z : ℕ). cond (nat_le z y) 1 0) b breaks in
    let step : cond (nat_le b x) 1 0 ≤ cond (nat_le b y) 1 0 = below b x y low (cases_lt x b) in
    omega arith

pub rises : (p : Problem) (t x y : ℕ) → x ≤ y → segment_at p t x ≤ segment_at p t y
rises p t x y low = counts x y (slice_index_or p.tracks t []) low

both : (a b : Bool) → IsTrue (a && b) → IsTrue a × IsTrue b
both true b h = (refl, h)
both false b h = cc

-- what the ranges say
parts : (p : Problem) → IsTrue (is_within 2 64 p.columns) × IsTrue (is_within 1 64 (length p.tracks)) × IsTrue (nat_le (length p.connections) 8192) × IsTrue (list_all (is_track p.columns) p.tracks) × IsTrue (list_all (is_connection p.columns) p.connections)
unfolding is_problem
parts p =
    let five = both (is_within 2 64 p.columns && is_within 1 64 p.k && is_within 1 64 (length p.tracks) && nat_le (length p.connections) 8192 && list_all (is_track p.columns) p.tracks) (list_all (is_connection p.columns) p.connections) p.valid in
    let four = both (is_within 2 64 p.columns && is_within 1 64 p.k && is_within 1 64 (length p.tracks) && nat_le (length p.connections) 8192) (list_all (is_track p.columns) p.tracks) five.0 in
    let three = both (is_within 2 64 p.columns && is_within 1 64 p.k && is_within 1 64 (length p.tracks)) (nat_le (length p.connections) 8192) four.0 in
    let two = both (is_within 2 64 p.columns && is_within 1 64 p.k) (is_within 1 64 (length p.tracks)) three.0 in
    ((both (is_within 2 64 p.columns) (is_within 1 64 p.k) two.0).0, two.1, three.1, four.1, five.1)

connections_in : (columns : ℕ) (xs : List Connection) (c : ℕ) → IsTrue (list_all (is_connection columns) xs) → (slice_index_or xs c (record { left = 0; right = 0 })).left ≤ (slice_index_or xs c (record { left = 0; right = 0 })).right
connections_in columns [] c h = omega arith
connections_in columns (x ∷ xs) zero h = let own = both (is_connection columns x) (list_all (is_connection columns) xs) h in let low = both (nat_le x.left x.right) (nat_lt x.right columns) own.0 in grind (arith, nat_tests)
connections_in columns (x ∷ xs) (suc c) h = connections_in columns xs c (both (is_connection columns x) (list_all (is_connection columns) xs) h).1

pub in_order : (p : Problem) (c : ℕ) → (connection_at p c).left ≤ (connection_at p c).right
in_order p c = connections_in p.columns p.connections c (parts p).4

pub sizes : (p : Problem) → (1 ≤ length p.tracks) × (length p.tracks ≤ 64) × (length p.connections ≤ 8192)
sizes p =
    let own = parts p in
    let t = both (nat_le 1 (length p.tracks)) (nat_le (length p.tracks) 64) own.1 in
    let one : 1 ≤ length p.tracks = grind (arith, nat_tests) in
    let two : length p.tracks ≤ 64 = grind (arith, nat_tests) in
    let h = own.2 in
    let three : length p.connections ≤ 8192 = grind (arith, nat_tests) in
    (one, two, three)

-- a rising list of numbers below n has no more of them than there is room for
short : (n x : ℕ) (xs : List ℕ) → IsTrue (list_all (λ b. nat_le 1 b && nat_lt b n) (x ∷ xs)) → IsTrue (is_rising (x ∷ xs)) → x + length (x ∷ xs) ≤ n
short n x [] inside up = let a = both (nat_le 1 x && nat_lt x n) true inside in let b = both (nat_le 1 x) (nat_lt x n) a.0 in let low : x < n = grind (arith, nat_tests) in omega arith
short n x (y ∷ xs) inside up =
    let rest = both (nat_le 1 x && nat_lt x n) (list_all (λ b. nat_le 1 b && nat_lt b n) (y ∷ xs)) inside in
    let more = both (nat_lt x y) (is_rising (y ∷ xs)) up in
    let step : x < y = grind (arith, nat_tests) in
    let r = short n y xs rest.1 more.1 in
    omega arith

fewer : (n : ℕ) (xs : List ℕ) → IsTrue (is_track n xs) → length xs ≤ n
fewer n [] h = omega arith
fewer n (x ∷ xs) h = let own = both (is_rising (x ∷ xs)) (list_all (λ b. nat_le 1 b && nat_lt b n) (x ∷ xs)) h in let r = short n x xs own.1 own.0 in omega arith

tracks_in : (columns : ℕ) (xs : List (List ℕ)) (t : ℕ) → IsTrue (list_all (is_track columns) xs) → length (slice_index_or xs t []) ≤ columns
tracks_in columns [] t h = omega arith
tracks_in columns (x ∷ xs) zero h = fewer columns x (both (is_track columns x) (list_all (is_track columns) xs) h).0
tracks_in columns (x ∷ xs) (suc t) h = tracks_in columns xs t (both (is_track columns x) (list_all (is_track columns) xs) h).1

pub few_segments : (p : Problem) (t column : ℕ) → segment_at p t column ≤ 64
few_segments p t column =
    let own = parts p in
    let a = both (nat_le 2 p.columns) (nat_le p.columns 64) own.0 in
    let high : p.columns ≤ 64 = grind (arith, nat_tests) in
    let n = tracks_in p.columns p.tracks t own.3 in
    let m = count_by-le-length (λ b. nat_le b column) (slice_index_or p.tracks t []) in
    omega arith

past : (b x : ℕ) → x < b → ◌≡◌ {A = ℕ} (cond (nat_le b x) 1 0) 0
past b x low = let h : nat_le b x ≡ false = grind (arith, nat_tests) in rw h refl

upto : (b x : ℕ) → b ≤ x → ◌≡◌ {A = ℕ} (cond (nat_le b x) 1 0) 1
upto b x low = let h : nat_le b x ≡ true = grind (arith, nat_tests) in rw h refl

-- breaks behind a column don't count
none_up_to : (x b : ℕ) (breaks : List ℕ) → x ≤ b → IsTrue (is_rising (b ∷ breaks)) → count_by (λ z. nat_le z x) breaks ≡ 0
none_up_to x b [] low up = refl
none_up_to x b (y ∷ breaks) low up =
    let own = both (nat_lt b y) (is_rising (y ∷ breaks)) up in
    let less : b < y = grind (arith, nat_tests) in
    let rest = none_up_to x y breaks (omega arith) own.1 in
    let one = sum_by-cons (λ (z : ℕ). cond (nat_le z x) 1 0) y breaks in
    let here = past y x (omega arith) in
    omega (arith, one, rest, here)

rising_rest : (b : ℕ) (breaks : List ℕ) → IsTrue (is_rising (b ∷ breaks)) → IsTrue (is_rising breaks)
rising_rest b [] up = refl
rising_rest b (y ∷ breaks) up = (both (nat_lt b y) (is_rising (y ∷ breaks)) up).1

-- one column more, at most one break more
counts_one : (x y : ℕ) (breaks : List ℕ) → y ≡ x + 1 → IsTrue (is_rising breaks) → count_by (λ b. nat_le b y) breaks ≤ count_by (λ b. nat_le b x) breaks + 1
counts_one x y [] next up = omega arith
counts_one x y (b ∷ breaks) next up = from (counts_one x y breaks next (rising_rest b breaks up)) (cases_lt x b) (cases_lt y b)
  where
    at_x : count_by (λ b. nat_le b x) (b ∷ breaks) ≡ cond (nat_le b x) 1 0 + count_by (λ b. nat_le b x) breaks
    at_x = sum_by-cons (λ (z : ℕ). cond (nat_le z x) 1 0) b breaks

    at_y : count_by (λ b. nat_le b y) (b ∷ breaks) ≡ cond (nat_le b y) 1 0 + count_by (λ b. nat_le b y) breaks
    at_y = sum_by-cons (λ (z : ℕ). cond (nat_le z y) 1 0) b breaks

    from : count_by (λ b. nat_le b y) breaks ≤ count_by (λ b. nat_le b x) breaks + 1 → (x < b) ⊎ (b ≤ x) → (y < b) ⊎ (b ≤ y) → count_by (λ b. nat_le b y) (b ∷ breaks) ≤ count_by (λ b. nat_le b x) (b ∷ breaks) + 1
    from rest (inr le) more = omega (arith, at_x, at_y, rest, upto b x le, upto b y (omega arith))
    from rest (inl less) (inl also) = omega (arith, at_x, at_y, rest, past b x less, past b y also)
    from rest (inl less) (inr le) = omega (arith, at_x, at_y, past b x less, upto b y le, none_up_to y b breaks (omega arith) up)

tracks_rise : (columns : ℕ) (xs : List (List ℕ)) (t : ℕ) → IsTrue (list_all (is_track columns) xs) → IsTrue (is_rising (slice_index_or xs t []))
tracks_rise columns [] t h = refl
tracks_rise columns (x ∷ xs) zero h = (both (is_rising x) (list_all (λ b. nat_le 1 b && nat_lt b columns) x) (both (is_track columns x) (list_all (is_track columns) xs) h).0).0
tracks_rise columns (x ∷ xs) (suc t) h = tracks_rise columns xs t (both (is_track columns x) (list_all (is_track columns) xs) h).1

-- so no segment between those of two columns is left out
reached : (p : Problem) (t n a b s : ℕ) → b ≡ a + n → segment_at p t a ≤ s → s ≤ segment_at p t b → (x : ℕ) × (a ≤ x) × (x ≤ b) × (segment_at p t x ≡ s)
reached p t zero a b s is low high =
    let same : b ≡ a = omega arith in
    let level = ap (λ (x : ℕ). segment_at p t x) same in
    (a, omega arith, omega arith, omega arith)
reached p t (suc n) a b s is low high = from (cases_lt (segment_at p t (a + n)) s) (λ here. reached p t n a (a + n) s refl low here)
  where
    from : (segment_at p t (a + n) < s) ⊎ (s ≤ segment_at p t (a + n)) → (s ≤ segment_at p t (a + n) → (x : ℕ) × (a ≤ x) × (x ≤ a + n) × (segment_at p t x ≡ s)) → (x : ℕ) × (a ≤ x) × (x ≤ b) × (segment_at p t x ≡ s)
    from (inl less) before =
        let step = counts_one (a + n) b (slice_index_or p.tracks t []) (omega arith) (tracks_rise p.columns p.tracks t (parts p).3) in
        (b, omega arith, omega arith, omega arith)
    from (inr le) before =
        let r = before le in
        let low = r.2 in
        (r.0, r.1, omega arith, r.3)

pub those_between : SegmentsAreThoseBetween
those_between p c t s = (on, back)
  where
    on : Overlaps p c t s → (first_segment p c t ≤ s) × (s ≤ last_segment p c t)
    on (x, a, b, e) =
        let one = rises p t (connection_at p c).left x a in
        let two = rises p t x (connection_at p c).right b in
        (omega arith, omega arith)

    back : (first_segment p c t ≤ s) × (s ≤ last_segment p c t) → Overlaps p c t s
    back h =
        let up = in_order p c in
        reached p t ((connection_at p c).right - (connection_at p c).left) (connection_at p c).left (connection_at p c).right s (omega arith) h.0 h.1

-- two connections clash where neither begins in a segment behind that in which the other ends
pub clash_is : (p : Problem) (c d t : ℕ) → DoClash p c d t ↔ DoEndsMeet p c d t
clash_is p c d t = (on, back)
  where
    on : DoClash p c d t → (first_segment p c t ≤ last_segment p d t) × (first_segment p d t ≤ last_segment p c t)
    on (s, one, two) =
        let a = (those_between p c t s).0 one in
        let b = (those_between p d t s).0 two in
        (omega (arith, a.0, b.1), omega (arith, a.1, b.0))

    -- the later of the two first segments is in both
    back : (first_segment p c t ≤ last_segment p d t) × (first_segment p d t ≤ last_segment p c t) → DoClash p c d t
    back h = from (cases_lt (first_segment p d t) (first_segment p c t))
      where
        up_c : first_segment p c t ≤ last_segment p c t
        up_c = rises p t (connection_at p c).left (connection_at p c).right (in_order p c)

        up_d : first_segment p d t ≤ last_segment p d t
        up_d = rises p t (connection_at p d).left (connection_at p d).right (in_order p d)

        from : (first_segment p d t < first_segment p c t) ⊎ (first_segment p c t ≤ first_segment p d t) → DoClash p c d t
        from (inl less) = (first_segment p c t, (those_between p c t (first_segment p c t)).1 (omega arith, up_c), (those_between p d t (first_segment p c t)).1 (omega arith, h.0))
        from (inr le) = (first_segment p d t, (those_between p c t (first_segment p d t)).1 (le, h.1), (those_between p d t (first_segment p d t)).1 (omega arith, up_d))

pub few_segments_of : (p : Problem) (c t : ℕ) → segments p c t ≤ 65
few_segments_of p c t = let few = few_segments p t (connection_at p c).right in omega arith

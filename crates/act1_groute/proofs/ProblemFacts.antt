-- The problems of a plan's channels keep the ranges of channel problems.
use Rattle.std.proofs.Common.{ℕ, zero, suc, ◌≡◌, ◌⊎◌, ◌+◌, ◌*◌, ◌<◌, ◌≤◌, ◌==◌, ◌&&◌, ◌||◌, not, nat_le, nat_lt, Bool, true, false, cond, List, [], ◌∷◌, length, map, Some, refl, sym, ap, subst, ◌∙◌, inl, inr, arith, slice_get, get_or, Contains}
use Rattle.std.specs.Prelude.{filter, Result, Ok, Err}
use Rattle.std.specs.List.{list_all, list_any}
use Rattle.std.proofs.lemmas.Bool.{and_parts, not-true, leb-true, ltb-true, eqb-true, le-leb, lt-ltb, eq-eqb, false≢true}
use Rattle.std.proofs.lemmas.List.{length-map, length-append}
use Rattle.std.proofs.lemmas.List.Sums.{AllPass-from_list_all, length-filter, count_by-le-length}
use Rattle.std.proofs.lemmas.Option.{get_or_from_slice_get}
use Rattle.act1_base.specs.Rising.{Rises, is_rising}
use Rattle.act1_base.proofs.ListGets.{get_within, place_of}
use Rattle.act1_device.specs.declared.device.Device.{Device}
use Rattle.act1_device.specs.declared.device.PadPlace.{PadPlace}
use Rattle.act1_device.specs.declared.device.Line.{Line}
use Rattle.act1_device.specs.Rules.{is_device, is_device_name, is_within, are_channels, are_in_order, are_inside, are_tracks, is_long, is_place, is_same_place, are_apart}
use Rattle.act1_device.specs.Sites.{tracks_of, column_of, pad_at}
use Rattle.act1_circuit.specs.declared.circuit.Source.{Source}
use Rattle.act1_circuit.specs.declared.circuit.Source.TheVariants.{Zero, One, Clock, Input, Module}
use Rattle.act1_circuit.specs.declared.circuit.Spot.{Spot}
use Rattle.act1_circuit.specs.Spots.{SpotIsBefore}
use Rattle.act1_channel.specs.Ranges as channel
use Rattle.act1_channel.specs.Ranges.{is_problem, is_track, is_connection}
use Rattle.act1_plan.specs.declared.plan.Plan.{Plan}
use Rattle.act1_groute.specs.declared.wiring.Wiring.{Wiring}
use Rattle.act1_base.specs.Lists.{numbers, greatest_number}
use Rattle.act1_plan.specs.Legal.{Legal}
use Rattle.act1_groute.specs.Nets.{Sink, sinks, nets, source_line, channels}
use Rattle.act1_groute.specs.Routes.{Demand, Take, demands, and_on, take_all, wirings, interval, lines_in, has_connection, wiring_of}
use Rattle.act1_groute.specs.Problems.{ProblemsFit}
use Rattle.act1_base.proofs.Elements.{here, later, any_of, mapped, least_below}
use Rattle.act1_base.proofs.Distinct.{Differ, fewer_than}
use Rattle.act1_groute.proofs.SinkFacts.{sink_is, IsPin, IsOut, before_itself, rises_later, tail_rises}
use Rattle.act1_groute.proofs.RouteFacts.{IsNet, Routed, all_served, spot_of}
use Rattle.act1_groute.proofs.WiringFacts.{all_wirings, wirings_at, IsNetWiring, wiring_is, IsLineIn, line_is}

-- what a device's own test says
record Sizes (dev : Device) : Type 0 where
  rows : dev.rows ≤ 32
  columns : (2 ≤ dev.columns) × (dev.columns ≤ 64)
  tracks : are_channels dev.rows dev.columns dev.tracks ≡ true
  order : are_in_order dev.tracks ≡ true
  places : list_all (is_place dev.rows dev.columns) dev.pads ≡ true
  apart : are_apart dev.pads ≡ true

sizes_of : (dev : Device) → Sizes dev
unfolding is_device
sizes_of dev =
    let a = is_device_name dev.name in
    let b = is_within 1 32 dev.rows in
    let c = is_within 2 64 dev.columns in
    let d = nat_le dev.below 32 in
    let e = nat_le dev.above 32 in
    let f = are_channels dev.rows dev.columns dev.tracks && are_in_order dev.tracks in
    let g = nat_le (length dev.longs) 32 && list_all (is_long dev.rows) dev.longs in
    let h = list_all (is_place dev.rows dev.columns) dev.pads && are_apart dev.pads in
    let to_g = and_parts (a && b && c && d && e && f && g) h dev.valid in
    let to_f = and_parts (a && b && c && d && e && f) g to_g.0 in
    let to_e = and_parts (a && b && c && d && e) f to_f.0 in
    let to_d = and_parts (a && b && c && d) e to_e.0 in
    let to_c = and_parts (a && b && c) d to_d.0 in
    let to_b = and_parts (a && b) c to_c.0 in
    let rows = and_parts a b to_b.0 in
    let row_parts = and_parts (nat_le 1 dev.rows) (nat_le dev.rows 32) rows.1 in
    let column_parts = and_parts (nat_le 2 dev.columns) (nat_le dev.columns 64) to_b.1 in
    let track_parts = and_parts (are_channels dev.rows dev.columns dev.tracks) (are_in_order dev.tracks) to_e.1 in
    let pad_parts = and_parts (list_all (is_place dev.rows dev.columns) dev.pads) (are_apart dev.pads) to_g.1 in
    record {
      rows = leb-true dev.rows 32 row_parts.1;
      columns = (leb-true 2 dev.columns column_parts.0, leb-true dev.columns 64 column_parts.1);
      tracks = track_parts.0;
      order = track_parts.1;
      places = pad_parts.0;
      apart = pad_parts.1;
    }

count_numbers : (first count : ℕ) → length (numbers first count) ≡ count
count_numbers first zero = refl
count_numbers first (suc count) = ap suc (count_numbers (first + 1) count)

-- at most so many
at_most : {X : Type 0} (f : X → ℕ) (xs : List X) (n : ℕ) → Differ xs → ((x y : X) → Contains xs x → Contains xs y → f x ≡ f y → x ≡ y) → ((x : X) → Contains xs x → f x < n) → length xs ≤ n
at_most f xs n h one below =
    let few = fewer_than f xs (n + 1) n h one (λ x k. let b = below x k in omega arith) (omega arith) (λ x k e. let b = below x k in omega (arith, e)) in
    omega arith

pads_differ : (pads : List PadPlace) → are_apart pads ≡ true → Differ pads
pads_differ [] h = tt
pads_differ (p ∷ ps) h =
    let parts = and_parts (not (list_any (is_same_place p) ps)) (are_apart ps) h in
    (λ k. false≢true (sym (not-true (list_any (is_same_place p) ps) parts.0) ∙ any_of (is_same_place p) ps p k (rw (eq-eqb p.channel p.channel refl, eq-eqb p.column p.column refl) refl)), pads_differ ps parts.1)

pub pad_place_in : (dev : Device) (p : PadPlace) → Contains dev.pads p → (p.channel ≤ dev.rows) × (p.column < dev.columns)
pad_place_in dev p h =
    let s = sizes_of dev in
    let at = place_of dev.pads p h in
    let within = get_within dev.pads at.0 p at.1 in
    let same : get_or dev.pads at.0 p ≡ p = get_or_from_slice_get dev.pads at.0 p p at.1 in
    let test = subst (λ (q : PadPlace). is_place dev.rows dev.columns q ≡ true) same (AllPass-from_list_all (is_place dev.rows dev.columns) dev.pads s.places at.0 p within) in
    let parts = and_parts (nat_le p.channel dev.rows) (nat_lt p.column dev.columns) test in
    (leb-true p.channel dev.rows parts.0, ltb-true p.column dev.columns parts.1)

pub few_pads : (dev : Device) → length dev.pads ≤ 2112
few_pads dev =
    let s = sizes_of dev in
    let rows = s.rows in
    let columns = s.columns.1 in
    at_most (λ (p : PadPlace). p.channel * 64 + p.column) dev.pads 2112 (pads_differ dev.pads s.apart)
    (λ p q h k e. let a = pad_place_in dev p h in let b = pad_place_in dev q k in one p q (let low = a.1 in omega arith) (let low = b.1 in omega arith) e)
    (λ p h. let a = pad_place_in dev p h in let low = a.0 in let left = a.1 in omega arith)
  where
    one : (p q : PadPlace) → p.column < 64 → q.column < 64 → p.channel * 64 + p.column ≡ q.channel * 64 + q.column → p ≡ q
    one p q a b e = let c : p.channel ≡ q.channel = omega (arith, e) in let d : p.column ≡ q.column = omega (arith, e) in λ i. record { channel = c i; column = d i }

spots_differ : (spots : List Spot) → Rises SpotIsBefore spots → Differ spots
spots_differ [] h = tt
spots_differ (s ∷ spots) h = (λ k. let at = place_of spots s k in before_itself s (rises_later spots s s at.0 h at.1), spots_differ spots (tail_rises s spots h))

module _ (dev : Device) (plan : Plan) (legal : Legal dev plan) where
  spot_on : (s : Spot) → Contains plan.placed.spots s → (s.row < dev.rows) × (s.column < dev.columns)
  spot_on s h =
      let at = place_of plan.placed.spots s h in
      let same : get_or plan.placed.spots at.0 s ≡ s = get_or_from_slice_get plan.placed.spots at.0 s s at.1 in
      subst (λ (s : Spot). (s.row < dev.rows) × (s.column < dev.columns)) same (legal.on_device at.0 s (get_within plan.placed.spots at.0 s at.1))

  pub few_modules : length plan.placed.spots ≤ 2048
  few_modules =
      let z = sizes_of dev in
      let rows = z.rows in
      let columns = z.columns.1 in
      at_most (λ (s : Spot). s.row * 64 + s.column) plan.placed.spots 2048 (spots_differ plan.placed.spots legal.rise)
      (λ s t h k e. let a = spot_on s h in let b = spot_on t k in one s t (let low = a.1 in omega arith) (let low = b.1 in omega arith) e)
      (λ s h. let a = spot_on s h in let low = a.0 in let left = a.1 in omega arith)
    where
      one : (s t : Spot) → s.column < 64 → t.column < 64 → s.row * 64 + s.column ≡ t.row * 64 + t.column → s ≡ t
      one s t a b e = let c : s.row ≡ t.row = omega (arith, e) in let d : s.column ≡ t.column = omega (arith, e) in λ i. record { row = c i; column = d i }

  pad_column : (pad : ℕ) → pad < length dev.pads → (pad_at dev pad).column < dev.columns
  pad_column pad low =
      let d : PadPlace = record { channel = 0; column = 0 } in
      let s = sizes_of dev in
      let test = AllPass-from_list_all (is_place dev.rows dev.columns) dev.pads s.places pad d low in
      ltb-true (get_or dev.pads pad d).column dev.columns (and_parts (nat_le (get_or dev.pads pad d).channel dev.rows) (nat_lt (get_or dev.pads pad d).column dev.columns) test).1

  sink_column : (k : Sink) → Contains (sinks dev plan) k → column_of dev k.line < dev.columns
  sink_column k h = from (sink_is dev plan k h)
    where
      from : IsPin dev plan k ⊎ IsOut dev plan k → column_of dev k.line < dev.columns
      from (inl p) =
          let same : get_or plan.placed.spots p.number p.spot ≡ p.spot = get_or_from_slice_get plan.placed.spots p.number p.spot p.spot p.spot_is in
          let on = legal.on_device p.number p.spot (get_within plan.placed.spots p.number p.spot p.spot_is) in
          subst (λ (k : Sink). column_of dev k.line < dev.columns) (sym p.is) (subst (λ (s : Spot). s.column < dev.columns) same on.1)
      from (inr p) =
          let within = get_within plan.placed.circuit.outputs p.number p.output p.output_is in
          let low : length plan.placed.circuit.inputs + p.number < length dev.pads = omega (arith, legal.pads) in
          subst (λ (k : Sink). column_of dev k.line < dev.columns) (sym p.is) (pad_column (length plan.placed.circuit.inputs + p.number) low)

  source_column : (net : Source) → IsNet plan net → column_of dev (source_line plan net) < dev.columns
  source_column Zero n = absurd n
  source_column One n = absurd n
  source_column Clock n = absurd n
  source_column (Input i) n = let low : i < length dev.pads = omega (arith, legal.pads) in pad_column i low
  source_column (Module m) n = let s = spot_of dev plan legal m n in subst (λ (l : Line). column_of dev l < dev.columns) (sym s.2) s.4

  line_column : (takes : List Take) → Routed dev plan takes → (net : Source) (h : ℕ) (l : Line) → IsNet plan net → Contains (lines_in dev plan takes net h) l → column_of dev l < dev.columns
  line_column takes routed net h l n k = from (line_is dev plan takes net h l k)
    where
      from : IsLineIn dev plan takes net h l → column_of dev l < dev.columns
      from (inl s) = subst (λ (l : Line). column_of dev l < dev.columns) s.line (sink_column s.sink s.listed)
      from (inr (inl s)) = subst (λ (l : Line). column_of dev l < dev.columns) (sym s.0) (source_column net n)
      from (inr (inr w)) = subst (λ (l : Line). column_of dev l < dev.columns) w.line (routed.each w.take w.listed).column

  -- the greatest of numbers below n is below n
  greatest_below : (n : ℕ) (ns : List ℕ) → 0 < n → ((m : ℕ) → Contains ns m → m < n) → greatest_number ns < n
  greatest_below n [] some h = some
  greatest_below n (m ∷ ns) some h = let rest = greatest_below n ns some (λ k c. h k (later k m ns c)) in let first = h m (here m m ns refl) in omega arith

  connection_fits : (takes : List Take) → Routed dev plan takes → (h : ℕ) (w : Wiring) → IsNetWiring dev plan takes h w → is_connection dev.columns (interval w) ≡ true
  connection_fits takes routed h w n =
      let z = sizes_of dev in
      let some = z.columns.0 in
      let columns = map (column_of dev) (lines_in dev plan takes n.net h) in
      let wide = least_below columns in
      let low = greatest_below dev.columns columns (omega arith) (λ m k. let r = mapped (column_of dev) (lines_in dev plan takes n.net h) m k in subst (λ (m : ℕ). m < dev.columns) r.2 (line_column takes routed n.net h r.0 n.net_is r.1)) in
      subst (λ (w : Wiring). is_connection dev.columns (interval w) ≡ true) (sym n.is) (rw (le-leb _ _ wide, lt-ltb _ _ low) refl)

  all_fit : (ws : List Wiring) → ((w : Wiring) → Contains ws w → is_connection dev.columns (interval w) ≡ true) → list_all (is_connection dev.columns) (map interval ws) ≡ true
  all_fit [] h = refl
  all_fit (w ∷ ws) h = rw (h w (here w w ws refl), all_fit ws (λ v k. h v (later v w ws k))) refl

  -- the tracks of a channel
  both_tracks : (tracks : List (List ℕ)) → list_all (are_inside dev.columns) tracks ≡ true → list_all is_rising tracks ≡ true → list_all (is_track dev.columns) tracks ≡ true
  both_tracks [] h k = refl
  both_tracks (t ∷ ts) h k =
      let a = and_parts (are_inside dev.columns t) (list_all (are_inside dev.columns) ts) h in
      let b = and_parts (is_rising t) (list_all is_rising ts) k in
      rw (b.0, a.0, both_tracks ts a.1 b.1) refl

  tracks_fit : (h : ℕ) → h ≤ dev.rows → (channel.is_within 1 64 (length (tracks_of dev h)) ≡ true) × (list_all (is_track dev.columns) (tracks_of dev h) ≡ true)
  tracks_fit h low =
      let z = sizes_of dev in
      let parts = and_parts (length dev.tracks == 1 || length dev.tracks == dev.rows + 1) (list_all (are_tracks dev.columns) dev.tracks) z.tracks in
      from (length dev.tracks == 1) refl parts.0 parts.1 z.order
    where
      entry : (i : ℕ) → i < length dev.tracks → list_all (are_tracks dev.columns) dev.tracks ≡ true → are_in_order dev.tracks ≡ true
          → (channel.is_within 1 64 (length (get_or dev.tracks i [])) ≡ true) × (list_all (is_track dev.columns) (get_or dev.tracks i []) ≡ true)
      entry i inside all order =
          let one = AllPass-from_list_all (are_tracks dev.columns) dev.tracks all i [] inside in
          let rising = AllPass-from_list_all (λ c. list_all is_rising c) dev.tracks order i [] inside in
          let parts = and_parts (is_within 1 64 (length (get_or dev.tracks i []))) (list_all (are_inside dev.columns) (get_or dev.tracks i [])) one in
          (parts.0, both_tracks (get_or dev.tracks i []) parts.1 rising)

      from : (b : Bool) → (length dev.tracks == 1) ≡ b → (b || length dev.tracks == dev.rows + 1) ≡ true → list_all (are_tracks dev.columns) dev.tracks ≡ true → are_in_order dev.tracks ≡ true
          → (channel.is_within 1 64 (length (cond b (get_or dev.tracks 0 []) (get_or dev.tracks h []))) ≡ true) × (list_all (is_track dev.columns) (cond b (get_or dev.tracks 0 []) (get_or dev.tracks h [])) ≡ true)
      from true e k all order = let count = eqb-true (length dev.tracks) 1 e in entry 0 (omega (arith, count)) all order
      from false e k all order = let count = eqb-true (length dev.tracks) (dev.rows + 1) k in entry h (omega (arith, count, low)) all order

  problem_fits : (takes : List Take) → Routed dev plan takes → (h k : ℕ) (ws : List Wiring) → slice_get (all_wirings dev plan takes) h ≡ Some ws → 1 ≤ k → k ≤ 64 → is_problem dev.columns k (tracks_of dev h) (map interval ws) ≡ true
  unfolding is_problem
  problem_fits takes routed h k ws e low high =
      let r = wirings_at dev plan takes h ws e in
      let z = sizes_of dev in
      let tracks = tracks_fit h r.0 in
      let listed = filter (λ net. has_connection dev plan takes net h) (nets plan) in
      let few : length (map interval ws) ≤ 8192 =
      omega (
        arith,
        length-map ws interval,
        ap length r.1,
        length-map listed (λ net. wiring_of dev net (lines_in dev plan takes net h)),
        length-filter (λ net. has_connection dev plan takes net h) (nets plan),
        count_by-le-length (λ net. has_connection dev plan takes net h) (nets plan),
        nets_count,
        legal.pads,
        few_pads dev,
        legal.spots,
        few_modules,
      ) in
      let fits = all_fit ws (λ w k. let at = place_of ws w k in connection_fits takes routed h w (wiring_is dev plan takes h at.0 w (ap (λ (vs : List Wiring). slice_get vs at.0) (sym r.1) ∙ at.1))) in
      rw (le-leb 2 dev.columns z.columns.0, le-leb dev.columns 64 z.columns.1, le-leb 1 k low, le-leb k 64 high, tracks.0, le-leb (length (map interval ws)) 8192 few, tracks.1, fits) refl
    where
      nets_count : length (nets plan) ≡ length plan.placed.circuit.inputs + length plan.placed.circuit.modules
      nets_count =
          let inputs = numbers 0 (length plan.placed.circuit.inputs) in
          let modules = numbers 0 (length plan.placed.circuit.modules) in
          omega (arith, length-append (map Input inputs) (map Module modules), length-map inputs Input, length-map modules Module, count_numbers 0 (length plan.placed.circuit.inputs), count_numbers 0 (length plan.placed.circuit.modules))

pub problems_fit : ProblemsFit
problems_fit dev plan chans h k ws legal e at low high = from (take_all dev plan [] (demands dev plan)) refl e
  where
    ok_is : (x y : List (List Wiring)) → (let r : Result (List (List Wiring)) Demand = Ok x in r) ≡ Ok y → x ≡ y
    ok_is x y e = cc

    from : (r : Result (List Take) Demand) → take_all dev plan [] (demands dev plan) ≡ r → and_on r (λ takes. Ok (map (wirings dev plan takes) (channels dev))) ≡ Ok chans → is_problem dev.columns k (tracks_of dev h) (map interval ws) ≡ true
    from (Ok takes) found q =
        let all = all_served dev plan legal takes found in
        problem_fits dev plan legal takes all.routed h k ws (ap (λ (c : List (List Wiring)). slice_get c h) (ok_is (map (wirings dev plan takes) (channels dev)) chans q) ∙ at) low high
    from (Err d) found q = cc

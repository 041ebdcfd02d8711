-- The file of a plan keeps the rules of antifuse files.
use Rattle.std.proofs.Common.{ℕ, suc, ◌≡◌, ◌≢◌, ◌⊎◌, ◌+◌, ◌<◌, ◌≤◌, true, List, [], ◌∷◌, ◌++◌, length, map, Option, Some, refl, sym, ap, subst, ◌∙◌, inl, inr, arith, slice_get, get_or, Contains, All, AllPairs, IsTrue}
use Rattle.std.specs.Prelude.{nat_le}
use Rattle.std.proofs.lemmas.List.{length-map, length-append}
use Rattle.std.proofs.lemmas.List.Sums.{count_by-le-length}
use Rattle.std.proofs.lemmas.List.Elements.{All-same, All-map, Contains-get_or}
use Rattle.std.proofs.lemmas.Option.{slice_get-get_or, get_or_from_slice_get}
use Rattle.act1_base.specs.Names.{is_name}
use Rattle.act1_base.specs.Rising.{Rises}
use Rattle.act1_base.proofs.ListGets.{some_is, get_within}
use Rattle.act1_device.specs.declared.device.Device.{Device}
use Rattle.act1_device.specs.declared.device.Line.{Line}
use Rattle.act1_device.specs.declared.device.Line.TheVariants as line
use Rattle.act1_device.specs.declared.device.Track.{Track}
use Rattle.act1_device.specs.declared.device.Track.TheVariants as track
use Rattle.act1_device.specs.declared.device.Site.{Site}
use Rattle.act1_device.specs.declared.device.Site.TheVariants.{Along, Cross}
use Rattle.act1_device.specs.Sites.{IsSite, Crosses, Meets, segment_at, breaks_of, tracks_of, pin_channel, pad_at}
use Rattle.act1_circuit.specs.declared.circuit.Output.{Output}
use Rattle.act1_circuit.specs.declared.circuit.Start.{Start}
use Rattle.act1_circuit.specs.declared.circuit.Source.{Source}
use Rattle.act1_circuit.specs.declared.circuit.Source.TheVariants.{Zero, One, Clock, Input, Module}
use Rattle.act1_circuit.specs.declared.circuit.Spot.{Spot}
use Rattle.act1_circuit.specs.Spots.{SpotIsBefore}
use Rattle.act1_fuses.specs.declared.fuses.FuseFile.{FuseFile}
use Rattle.act1_fuses.specs.declared.fuses.Port.{Port}
use Rattle.act1_fuses.specs.declared.fuses.StartAt.{StartAt}
use Rattle.act1_fuses.specs.Rules.{port_names, start_names, IsApart, IsStart, KeepsRules}
use Rattle.act1_plan.specs.declared.plan.Plan.{Plan}
use Rattle.act1_groute.specs.declared.wiring.Wiring.{Wiring}
use Rattle.act1_plan.specs.Legal as of
use Rattle.act1_plan.specs.Legal.{Legal, output_names}
use Rattle.act1_groute.specs.declared.net.Sink.{Sink}
use Rattle.act1_groute.specs.Nets.{sinks, source_line, covers}
use Rattle.act1_groute.specs.declared.net.Take.{Take}
use Rattle.act1_groute.specs.Routes.{wire_of, lines_in}
use Rattle.act1_groute.specs.Emitted.{dedicated, IsDedicated, IsOfConnection, IsAt, IsSignal, AreAssigned}
use Rattle.act1_groute.proofs.SinkFacts.{sink_is, IsPin, IsOut, rises_before}
use Rattle.act1_groute.proofs.RouteFacts.{IsNet, Routed, IsTake, spot_of, covers_within}
use Rattle.act1_groute.proofs.WiringFacts.{all_wirings, wirings_at, IsLineIn, line_is}
use Rattle.act1_emit.specs.File.{ports_from, start_at, IsFileOf}
use Rattle.act1_emit.proofs.Arrays.{port_names_are, port_is}
use Rattle.act1_emit.proofs.Owners.{net_of_place}

ports_append : (first : ℕ) (xs ys : List (List ℕ)) → ports_from first (xs ++ ys) ≡ ports_from first xs ++ ports_from (first + length xs) ys
ports_append first [] ys = let number : first ≡ first + 0 = omega arith in ap (λ (n : ℕ). ports_from n ys) number
ports_append first (x ∷ xs) ys =
    let number : first + 1 + length xs ≡ first + suc (length xs) = omega arith in
    let port : Port = record { pad = first; name = x } in
    ap (λ (ps : List Port). port ∷ ps) (ports_append (first + 1) xs ys ∙ ap (λ (n : ℕ). ports_from (first + 1) xs ++ ports_from n ys) number)

length_ports : (first : ℕ) (names : List (List ℕ)) → length (ports_from first names) ≡ length names
length_ports first [] = refl
length_ports first (x ∷ names) = ap suc (length_ports (first + 1) names)

port_pad : (names : List (List ℕ)) (k : ℕ) (d : Port) → k < length (ports_from 0 names) → (get_or (ports_from 0 names) k d).pad ≡ k
port_pad names k d h =
    let p = port_is 0 names k (get_or (ports_from 0 names) k d) (slice_get-get_or (ports_from 0 names) k d h) in
    let number : 0 + k ≡ k = omega arith in
    p.0 ∙ number

pads_below : (names : List (List ℕ)) (pads : ℕ) → length names ≤ pads → All (λ (port : Port). port.pad < pads) (ports_from 0 names)
pads_below names pads enough k d h = let within : k < pads = omega (arith, length_ports 0 names) in rw (port_pad names k d h) within

pads_once : (names : List (List ℕ)) → AllPairs (λ (a b : Port). a.pad ≢ b.pad) (ports_from 0 names)
pads_once names i j d less h = let left : i < length (ports_from 0 names) = omega arith in rw (port_pad names i d left, port_pad names j d h) (λ e. omega arith)

start_names_are : (spots : List Spot) (starts : List Start) → start_names (map (start_at spots) starts) ≡ map (λ (s : Start). s.name) starts
start_names_are spots [] = refl
start_names_are spots (s ∷ starts) = ap (λ (ns : List (List ℕ)). s.name ∷ ns) (start_names_are spots starts)

starts_spots : (spots : List Spot) (starts : List Start) → map (λ (s : StartAt). s.spot) (map (start_at spots) starts) ≡ map (λ (s : Start). (start_at spots s).spot) starts
starts_spots spots [] = refl
starts_spots spots (s ∷ starts) = ap (λ (ns : List Spot). (start_at spots s).spot ∷ ns) (starts_spots spots starts)

spots_up : (spots : List Spot) (starts : List Start) → Rises SpotIsBefore spots → All (λ (s : Start). s.module < length spots) starts → Rises (λ (s t : Start). s.module < t.module) starts
    → Rises SpotIsBefore (map (λ (s : Start). (start_at spots s).spot) starts)
spots_up spots [] rise low up = tt
spots_up spots (s ∷ []) rise low up = tt
spots_up spots (s ∷ t ∷ starts) rise low up =
    let d : Spot = record { row = 0; column = 0 } in
    let first = low 0 s (omega arith) in
    let second = low 1 s (omega arith) in (
      rises_before spots (get_or spots s.module d) (get_or spots t.module d) s.module t.module rise up.0 (slice_get-get_or spots s.module d first) (slice_get-get_or spots t.module d second),
      spots_up spots (t ∷ starts) rise (λ k e within. low (suc k) e (omega arith)) up.1,
    )

module _ (dev : Device) (plan : Plan) (legal : Legal dev plan) (takes : List Take) (routed : Routed dev plan takes) (tracks : List (List ℕ)) (assigned : AreAssigned dev plan.k (all_wirings dev plan takes) tracks) where
  spot_on : (m : ℕ) (s : Spot) → slice_get plan.placed.spots m ≡ Some s → (s.row < dev.rows) × (s.column < dev.columns)
  spot_on m s e =
      let spot : get_or plan.placed.spots m s ≡ s = get_or_from_slice_get plan.placed.spots m s s e in
      subst (λ (s : Spot). (s.row < dev.rows) × (s.column < dev.columns)) spot (legal.on_device m s (get_within plan.placed.spots m s e))

  pin_number : (m k : ℕ) (sources : List Source) (source : Source) → slice_get plan.placed.circuit.modules m ≡ Some sources → slice_get sources k ≡ Some source → k < 8
  pin_number m k sources source e h =
      let same : get_or plan.placed.circuit.modules m sources ≡ sources = get_or_from_slice_get plan.placed.circuit.modules m sources sources e in
      let eight = (legal.range.pins m sources (get_within plan.placed.circuit.modules m sources e)).0 in
      omega (arith, eight, ap length same, get_within sources k source h)

  sink_crosses : (sink : Sink) → Contains (sinks dev plan) sink → Crosses dev sink.line sink.channel
  sink_crosses sink h = from (sink_is dev plan sink h)
    where
      from : IsPin dev plan sink ⊎ IsOut dev plan sink → Crosses dev sink.line sink.channel
      from (inl p) =
          let on = spot_on p.number p.spot p.spot_is in
          let crosses : Crosses dev (line.Pin p.spot.row p.spot.column p.pin) (pin_channel dev p.spot.row p.pin) = ((on.0, on.1, pin_number p.number p.pin p.sources p.source p.module_is p.source_is), refl) in
          subst (λ (k : Sink). Crosses dev k.line k.channel) (sym p.is) crosses
      from (inr p) =
          let within = get_within plan.placed.circuit.outputs p.number p.output p.output_is in
          let low : length plan.placed.circuit.inputs + p.number < length dev.pads = omega (arith, legal.pads) in
          let crosses : Crosses dev (line.Pad (length plan.placed.circuit.inputs + p.number)) (pad_at dev (length plan.placed.circuit.inputs + p.number)).channel = (low, refl) in
          subst (λ (k : Sink). Crosses dev k.line k.channel) (sym p.is) crosses

  source_crosses : (net : Source) (h : ℕ) → IsNet plan net → covers dev (source_line plan net) h ≡ true → Crosses dev (source_line plan net) h
  source_crosses Zero h n c = absurd n
  source_crosses One h n c = absurd n
  source_crosses Clock h n c = absurd n
  source_crosses (Input i) h n c =
      let w = covers_within dev (source_line plan (Input i)) h c in
      let low = w.0 in
      let high = w.1 in
      let within : i < length dev.pads = omega (arith, legal.pads) in
      let same : h ≡ (pad_at dev i).channel = omega arith in
      (within, same)
  source_crosses (Module m) h n c =
      let s = spot_of dev plan legal m n in
      let w = covers_within dev (source_line plan (Module m)) h c in
      let low = w.0 in
      let high = w.1 in
      let spot = get_or plan.placed.spots m (record { row = 0; column = 0 }) in
      let within : m < length plan.placed.spots = omega (arith, legal.spots) in
      let on = legal.on_device m (record { row = 0; column = 0 }) within in
      let a : spot.row ≤ h + dev.below = omega arith in
      let b : h ≤ spot.row + 1 + dev.above = omega arith in
      let d : h ≤ dev.rows = omega arith in
      ((on.0, on.1), (a, b, d))

  wire_crosses : (take : Take) (h : ℕ) → Contains takes take → (covers dev (wire_of take) h ≡ true) ⊎ (take.home ≡ h) → Crosses dev (wire_of take) h
  wire_crosses take h listed k = let is = routed.each take listed in ((is.column, is.index), covers_within dev (wire_of take) h (from is k))
    where
      from : IsTake dev plan take → (covers dev (wire_of take) h ≡ true) ⊎ (take.home ≡ h) → covers dev (wire_of take) h ≡ true
      from is (inl c) = c
      from is (inr e) = subst (λ (h : ℕ). covers dev (wire_of take) h ≡ true) e is.wire

  line_crosses : (net : Source) (h : ℕ) (l : Line) → IsNet plan net → Contains (lines_in dev plan takes net h) l → Crosses dev l h
  line_crosses net h l n k = from (line_is dev plan takes net h l k)
    where
      from : IsLineIn dev plan takes net h l → Crosses dev l h
      from (inl s) = subst (λ (l : Line). Crosses dev l h) s.line (subst (Crosses dev s.sink.line) s.channel (sink_crosses s.sink s.listed))
      from (inr (inl s)) = subst (λ (l : Line). Crosses dev l h) (sym s.0) (source_crosses net h n s.1)
      from (inr (inr w)) = subst (λ (l : Line). Crosses dev l h) w.line (wire_crosses w.take h w.listed w.covers)

  track_in_range : (h place t : ℕ) (w : Wiring) → IsAt (all_wirings dev plan takes) tracks h place w t → t < length (tracks_of dev h)
  track_in_range h place t w a =
      let fits = assigned.each h a.wirings a.assigned a.at a.with_tracks in
      subst (λ (ts : List (List ℕ)). t < length ts) fits.is.tracks (fits.assigns.allowed place t a.track).1

  rail_meets : (sink : Sink) (t : Track) → Contains (sinks dev plan) sink → dedicated sink.source ≡ Some t → Meets dev sink.channel t sink.line
  rail_meets sink t h e = from (sink_is dev plan sink h)
    where
      at_pin : (t : Track) (s : Source) (h row column pin : ℕ) → dedicated s ≡ Some t → Meets dev h t (line.Pin row column pin)
      at_pin (track.Signal u) Zero h row column pin e = cc
      at_pin (track.Signal u) One h row column pin e = cc
      at_pin (track.Signal u) Clock h row column pin e = cc
      at_pin (track.Signal u) (Input i) h row column pin e = cc
      at_pin (track.Signal u) (Module i) h row column pin e = cc
      at_pin track.Gnd s h row column pin e = tt
      at_pin track.Vcc s h row column pin e = tt
      at_pin track.Clk s h row column pin e = tt

      at_pad : (t : Track) (s : Source) (h pad : ℕ) → s ≢ Clock → dedicated s ≡ Some t → Meets dev h t (line.Pad pad)
      at_pad t Zero h pad n e = subst (λ (t : Track). Meets dev h t (line.Pad pad)) (some_is track.Gnd t e) tt
      at_pad t One h pad n e = subst (λ (t : Track). Meets dev h t (line.Pad pad)) (some_is track.Vcc t e) tt
      at_pad t Clock h pad n e = absurd (n refl)
      at_pad t (Input i) h pad n e = cc
      at_pad t (Module i) h pad n e = cc

      from : IsPin dev plan sink ⊎ IsOut dev plan sink → Meets dev sink.channel t sink.line
      from (inl p) =
          subst (λ (k : Sink). Meets dev k.channel t k.line) (sym p.is)
          (at_pin t p.source (pin_channel dev p.spot.row p.pin) p.spot.row p.spot.column p.pin (ap (λ (k : Sink). dedicated k.source) (sym p.is) ∙ e))
      from (inr p) =
          let within = get_within plan.placed.circuit.outputs p.number p.output p.output_is in
          let output : get_or plan.placed.circuit.outputs p.number p.output ≡ p.output = get_or_from_slice_get plan.placed.circuit.outputs p.number p.output p.output p.output_is in
          let no_clock = subst (λ (o : Output). o.source ≢ Clock) output (legal.outputs p.number p.output within) in
          let pad = length plan.placed.circuit.inputs + p.number in
          subst (λ (k : Sink). Meets dev k.channel t k.line) (sym p.is)
          (at_pad t p.output.source (pad_at dev pad).channel pad no_clock (ap (λ (k : Sink). dedicated k.source) (sym p.is) ∙ e))

  -- each emitted site is one of the device
  pub site_is : (site : Site) → IsDedicated dev plan site ⊎ IsSignal dev (all_wirings dev plan takes) tracks site → IsSite dev site
  site_is site (inl k) = subst (IsSite dev) (sym k.is) (sink_crosses k.sink k.has, rail_meets k.sink k.track k.has k.track_is)
  site_is site (inr k) = from site k.is
    where
      low : k.track < length (tracks_of dev k.channel)
      low = track_in_range k.channel k.place k.track k.wiring k.at

      from : (site : Site) → IsOfConnection dev k.channel k.wiring k.track site → IsSite dev site
      from (Cross c (track.Signal s) l) h =
          let n = net_of_place dev plan legal takes routed tracks assigned k.channel k.place k.track k.wiring k.at in
          let listed = subst (λ (v : Wiring). Contains v.lines l) n.is h.2 in
          let crosses = subst (Crosses dev l) (sym h.0) (line_crosses n.net k.channel l n.net_is listed) in
          let within : k.track < length (tracks_of dev k.channel) = low in
          let on = subst (λ (t : ℕ). t < length (tracks_of dev k.channel)) (sym h.1) within in
          (crosses, subst (λ (c : ℕ). s < length (tracks_of dev c)) (sym h.0) on)
      from (Cross c track.Gnd l) h = absurd h
      from (Cross c track.Vcc l) h = absurd h
      from (Cross c track.Clk l) h = absurd h
      from (Along c s index) h =
          let r = wirings_at dev plan takes k.channel k.at.wirings k.at.at in
          let few : segment_at dev k.channel k.track k.wiring.right ≤ length (breaks_of dev k.channel k.track) = count_by-le-length (λ b. nat_le b k.wiring.right) (breaks_of dev k.channel k.track) in
          let high = h.3 in
          let inside : index < length (breaks_of dev k.channel k.track) = omega arith in
          let here : IsSite dev (Along k.channel k.track index) = (r.0, low, inside) in
          subst (λ (c : ℕ). IsSite dev (Along c s index)) (sym h.0) (subst (λ (s : ℕ). IsSite dev (Along k.channel s index)) (sym h.1) here)

  module _ (f : FuseFile) (file : IsFileOf dev plan (all_wirings dev plan takes) tracks f) where
    pub keeps : KeepsRules dev f
    keeps = record {
      device = file.head.device;
      names = subst (λ (ns : List (List ℕ)). All (λ name. IsTrue (is_name name)) ns) (sym all_names) legal.names.each;
      inputs = subst (λ (ns : List (List ℕ)). AllPairs (λ (a b : List ℕ). a ≢ b) ns) (sym (ap (λ (ns : List (List ℕ)). ns ++ start_names f.starts) in_names ∙ ap (λ (ns : List (List ℕ)). plan.placed.circuit.inputs ++ ns) latch_names)) legal.names.inputs;
      outputs = subst (λ (ns : List (List ℕ)). AllPairs (λ (a b : List ℕ). a ≢ b) ns) (sym out_names) legal.names.outputs;
      clock = subst (λ (c : Option (List ℕ)). IsApart c (port_names f.ins ++ port_names f.outs ++ start_names f.starts)) (sym file.head.clock)
          (subst (λ (ns : List (List ℕ)). IsApart plan.placed.circuit.clock ns) (sym all_names) legal.names.clock);
      pads = subst (λ (ps : List Port). All (λ (port : Port). port.pad < length dev.pads) ps) (sym all_ports) (pads_below (plan.placed.circuit.inputs ++ output_names plan.placed.circuit) (length dev.pads) enough);
      once = subst (λ (ps : List Port). AllPairs (λ (a b : Port). a.pad ≢ b.pad) ps) (sym all_ports) (pads_once (plan.placed.circuit.inputs ++ output_names plan.placed.circuit));
      starts = All-same (IsStart dev) f.starts (map (start_at plan.placed.spots) plan.placed.circuit.starts) file.head.starts (All-map (IsStart dev) (start_at plan.placed.spots) plan.placed.circuit.starts starts);
      spots_rise = subst (λ (ss : List StartAt). Rises SpotIsBefore (map (λ (s : StartAt). s.spot) ss)) (sym file.head.starts)
          (subst (λ (ss : List Spot). Rises SpotIsBefore ss) (sym (starts_spots plan.placed.spots plan.placed.circuit.starts)) (spots_up plan.placed.spots plan.placed.circuit.starts legal.rise modules legal.starts_rise));
      sites = λ k d within. site_is (get_or f.sites k d) ((file.sites.each (get_or f.sites k d)).0 (Contains-get_or f.sites k d within));
      sites_rise = file.sites.rise;
    }
      where
        in_names : port_names f.ins ≡ plan.placed.circuit.inputs
        in_names = ap port_names file.head.ins ∙ port_names_are 0 plan.placed.circuit.inputs

        out_names : port_names f.outs ≡ output_names plan.placed.circuit
        out_names = ap port_names file.head.outs ∙ port_names_are (length plan.placed.circuit.inputs) (output_names plan.placed.circuit)

        latch_names : start_names f.starts ≡ of.start_names plan.placed.circuit
        latch_names = ap start_names file.head.starts ∙ start_names_are plan.placed.spots plan.placed.circuit.starts

        all_names : port_names f.ins ++ port_names f.outs ++ start_names f.starts ≡ plan.placed.circuit.inputs ++ output_names plan.placed.circuit ++ of.start_names plan.placed.circuit
        all_names =
            ap (λ (ns : List (List ℕ)). ns ++ port_names f.outs ++ start_names f.starts) in_names
            ∙ ap (λ (ns : List (List ℕ)). plan.placed.circuit.inputs ++ ns ++ start_names f.starts) out_names
            ∙ ap (λ (ns : List (List ℕ)). plan.placed.circuit.inputs ++ output_names plan.placed.circuit ++ ns) latch_names

        all_ports : f.ins ++ f.outs ≡ ports_from 0 (plan.placed.circuit.inputs ++ output_names plan.placed.circuit)
        all_ports =
            let number : length plan.placed.circuit.inputs ≡ 0 + length plan.placed.circuit.inputs = omega arith in
            ap (λ (ps : List Port). ps ++ f.outs) file.head.ins ∙ ap (λ (ps : List Port). ports_from 0 plan.placed.circuit.inputs ++ ps) file.head.outs
            ∙ ap (λ (n : ℕ). ports_from 0 plan.placed.circuit.inputs ++ ports_from n (output_names plan.placed.circuit)) number
            ∙ sym (ports_append 0 plan.placed.circuit.inputs (output_names plan.placed.circuit))

        enough : length (plan.placed.circuit.inputs ++ output_names plan.placed.circuit) ≤ length dev.pads
        enough = omega (arith, length-append plan.placed.circuit.inputs (output_names plan.placed.circuit), length-map plan.placed.circuit.outputs (λ (o : Output). o.name), legal.pads)

        modules : All (λ (s : Start). s.module < length plan.placed.spots) plan.placed.circuit.starts
        modules k d within = let low = legal.range.starts k d within in omega (arith, legal.spots)

        starts : All (λ (s : Start). IsStart dev (start_at plan.placed.spots s)) plan.placed.circuit.starts
        starts k d within =
            let s = get_or plan.placed.circuit.starts k d in
            let low = modules k d within in
            let on = legal.on_device s.module (record { row = 0; column = 0 }) low in
            record { row = on.0; column = on.1; init = legal.inits k d within }

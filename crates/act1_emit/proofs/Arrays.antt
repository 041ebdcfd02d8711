-- The array of an emitted file is sound, and its circuit is the plan's.
use Rattle.std.proofs.Common.{ℕ, zero, suc, ◌≡◌, ◌⊎◌, ◌+◌, ◌<◌, List, [], ◌∷◌, length, map, Option, Some, refl, sym, ap, subst, ◌∙◌, inl, inr, arith, slice_get, get_or, Contains, All}
use Rattle.std.proofs.lemmas.List.Elements.{All-same, All-map}
use Rattle.std.proofs.lemmas.Option.{slice_get-get_or, get_or_from_slice_get}
use Rattle.act1_base.proofs.ListGets.{some_is, get_within, get_in, get_map, get_mapped, contains_at, place_of}
use Rattle.act1_device.specs.declared.device.Device.{Device}
use Rattle.act1_device.specs.declared.device.Line.{Line}
use Rattle.act1_device.specs.declared.device.Line.TheVariants as line
use Rattle.act1_device.specs.declared.device.Track.{Track}
use Rattle.act1_device.specs.declared.device.Track.TheVariants as track
use Rattle.act1_device.specs.declared.device.Site.{Site}
use Rattle.act1_device.specs.declared.device.Site.TheVariants.{Along, Cross}
use Rattle.act1_device.specs.declared.device.Wire.{Wire}
use Rattle.act1_device.specs.declared.device.Wire.TheVariants as wire
use Rattle.act1_device.specs.Sites.{ends_of}
use Rattle.act1_circuit.specs.declared.circuit.Output.{Output}
use Rattle.act1_circuit.specs.declared.circuit.Start.{Start}
use Rattle.act1_circuit.specs.declared.circuit.Source.{Source}
use Rattle.act1_circuit.specs.declared.circuit.Source.TheVariants.{Zero, One, Clock, Input, Module}
use Rattle.act1_circuit.specs.declared.circuit.Spot.{Spot}
use Rattle.act1_circuit.specs.Range.{HasSource}
use Rattle.act1_fuses.specs.declared.fuses.FuseFile.{FuseFile}
use Rattle.act1_fuses.specs.declared.fuses.Port.{Port}
use Rattle.act1_fuses.specs.declared.fuses.StartAt.{StartAt}
use Rattle.act1_fuses.specs.Array.{pad_wire, out_wire, pin_wire, IsUsed, IsSource, IsFed, Sound, IsWireOf, Drives, Beginning, IsCircuitOf}
use Rattle.act1_fuses.specs.Wires.{links_of, Joined}
use Rattle.act1_plan.specs.declared.plan.Plan.{Plan}
use Rattle.act1_groute.specs.declared.wiring.Wiring.{Wiring}
use Rattle.act1_plan.specs.Legal.{Legal, output_names}
use Rattle.act1_groute.specs.declared.net.Sink.{Sink}
use Rattle.act1_groute.specs.Nets.{sinks, source_line, out_line}
use Rattle.act1_groute.specs.declared.net.Take.{Take}
use Rattle.act1_groute.specs.Routes.{Demand, demands}
use Rattle.act1_groute.specs.Emitted.{dedicated, IsDedicated, IsOfConnection, IsAt, IsSignal, AreAssigned}
use Rattle.act1_base.proofs.Elements.{mapped}
use Rattle.act1_groute.proofs.SinkFacts.{pin_sink, output_sink, sink_is, IsPin, IsOut, pin_is_sink, output_is_sink}
use Rattle.act1_groute.proofs.RouteFacts.{IsNet, Routed, IsServed, spot_of}
use Rattle.act1_groute.proofs.WiringFacts.{all_wirings, net_wiring}
use Rattle.act1_emit.specs.Drivers.{AllDrive}
use Rattle.act1_emit.specs.File.{ports_from, start_at, IsFileOf}
use Rattle.act1_emit.proofs.Drivers.{sink_of_module}
use Rattle.act1_emit.proofs.Owners.{OwnsLine, Owns, one_owner, HaveOwner, dedicated_ends, signal_ends, sink_owned, line_of_place, joined_keeps}
use Rattle.act1_emit.proofs.Reached.{Reach, reached, at_rail, crossing}

-- the ports of names
pub port_is : (first : ℕ) (names : List (List ℕ)) (k : ℕ) (port : Port) → slice_get (ports_from first names) k ≡ Some port → (port.pad ≡ first + k) × (slice_get names k ≡ Some port.name)
port_is first [] k port e = cc
port_is first (name ∷ names) zero port e =
    let same = some_is (record { pad = first; name = name }) port e in
    let number : first ≡ first + 0 = omega arith in
    (sym (ap (λ (p : Port). p.pad) same) ∙ number, ap (λ (p : Port). let r : Option (List ℕ) = Some p.name in r) same)
port_is first (name ∷ names) (suc k) port e =
    let r = port_is (first + 1) names k port e in
    let number : first + 1 + k ≡ first + suc k = omega arith in
    (r.0 ∙ number, r.1)

pub has_port : (first : ℕ) (names : List (List ℕ)) (k : ℕ) (name : List ℕ) → slice_get names k ≡ Some name → slice_get (ports_from first names) k ≡ Some (record { pad = first + k; name = name })
has_port first [] k name e = cc
has_port first (x ∷ names) zero name e =
    let number : first ≡ first + 0 = omega arith in
    ap (λ (n : List ℕ). let r : Option Port = Some (record { pad = first; name = n }) in r) (some_is x name e) ∙ ap (λ (p : ℕ). let r : Option Port = Some (record { pad = p; name = name }) in r) number
has_port first (x ∷ names) (suc k) name e =
    let number : first + 1 + k ≡ first + suc k = omega arith in
    has_port (first + 1) names k name e ∙ ap (λ (p : ℕ). let r : Option Port = Some (record { pad = p; name = name }) in r) number

pub port_names_are : (first : ℕ) (names : List (List ℕ)) → map (λ (port : Port). port.name) (ports_from first names) ≡ names
port_names_are first [] = refl
port_names_are first (name ∷ names) = ap (λ (rest : List (List ℕ)). name ∷ rest) (port_names_are (first + 1) names)

module _ (dev : Device) (plan : Plan) (legal : Legal dev plan) (drive : AllDrive plan.placed.circuit) (takes : List Take) (routed : Routed dev plan takes) (served : (d : Demand) → Contains (demands dev plan) d → IsServed dev plan takes d)
    (tracks : List (List ℕ)) (assigned : AreAssigned dev plan.k (all_wirings dev plan takes) tracks) (f : FuseFile) (file : IsFileOf dev plan (all_wirings dev plan takes) tracks f) where
  reach : (sink : Sink) → Contains (sinks dev plan) sink → IsNet plan sink.source → Reach dev plan legal takes routed served tracks assigned f.sites file.sites sink
  reach = reached dev plan legal takes routed served tracks assigned f.sites file.sites

  abbrev HasOwner : Source → Wire → Type 0
  HasOwner s w = Owns dev plan takes tracks s w

  -- each sink's source is one of the circuit
  sink_has_source : (sink : Sink) → Contains (sinks dev plan) sink → HasSource plan.placed.circuit sink.source
  sink_has_source sink h = from (sink_is dev plan sink h)
    where
      from : IsPin dev plan sink ⊎ IsOut dev plan sink → HasSource plan.placed.circuit sink.source
      from (inl p) =
          let within = get_within plan.placed.circuit.modules p.number p.sources p.module_is in
          let sources : get_or plan.placed.circuit.modules p.number p.sources ≡ p.sources = get_or_from_slice_get plan.placed.circuit.modules p.number p.sources p.sources p.module_is in
          let all = (legal.range.pins p.number p.sources within).1 in
          let there = subst (λ (ss : List Source). All (HasSource plan.placed.circuit) ss) sources all in
          let source : get_or p.sources p.pin p.source ≡ p.source = get_or_from_slice_get p.sources p.pin p.source p.source p.source_is in
          let has = subst (HasSource plan.placed.circuit) source (there p.pin p.source (get_within p.sources p.pin p.source p.source_is)) in
          subst (λ (k : Sink). HasSource plan.placed.circuit k.source) (sym p.is) has
      from (inr p) =
          let within = get_within plan.placed.circuit.outputs p.number p.output p.output_is in
          let output : get_or plan.placed.circuit.outputs p.number p.output ≡ p.output = get_or_from_slice_get plan.placed.circuit.outputs p.number p.output p.output p.output_is in
          let has = subst (λ (o : Output). HasSource plan.placed.circuit o.source) output (legal.range.outputs p.number p.output within) in
          subst (λ (k : Sink). HasSource plan.placed.circuit k.source) (sym p.is) has

  -- the modules are the used ones
  used_from : (m : ℕ) (s : Spot) → slice_get plan.placed.spots m ≡ Some s → IsUsed f.sites s
  used_from m s e =
      let within : m < length plan.placed.circuit.modules = omega (arith, get_within plan.placed.spots m s e, legal.spots) in
      let d = sink_of_module dev plan legal m (drive m within) in
      let r = reach d.0 d.1 (subst (IsNet plan) (sym d.2) within) in
      let spot = spot_of dev plan legal m within in
      let same : spot.0 ≡ s = some_is spot.0 s (sym spot.1 ∙ e) in
      let l : source_line plan d.0.source ≡ out_line s = ap (source_line plan) d.2 ∙ spot.2 ∙ ap out_line same in
      let listed = crossing dev plan legal takes routed served tracks assigned f.sites file.sites r.channel r.place r.track (net_wiring dev plan takes d.0.source r.channel) (source_line plan d.0.source) r.at r.has in
      (r.channel, track.Signal r.track, subst (λ (l : Line). Contains f.sites (Cross r.channel (track.Signal r.track) l)) l listed)

  used_is : (s : Spot) → IsUsed f.sites s → (m : ℕ) × (slice_get plan.placed.spots m ≡ Some s)
  used_is s h = from ((file.sites.each (Cross h.0 h.1 (line.Out s.row s.column))).0 h.2)
    where
      owned : (r : Source) → OwnsLine dev plan takes r (line.Out s.row s.column) → (m : ℕ) × (slice_get plan.placed.spots m ≡ Some s)
      owned r o = (o.0, o.2)

      line_of : Site → Line
      line_of (Cross c t l) = l
      line_of (Along c t i) = line.Pad 0

      by_sink : IsDedicated dev plan (Cross h.0 h.1 (line.Out s.row s.column)) → (m : ℕ) × (slice_get plan.placed.spots m ≡ Some s)
      by_sink k =
          let l : line.Out s.row s.column ≡ k.sink.line = ap line_of k.is in
          owned k.sink.source (sink_owned dev plan legal takes routed k.sink.source (line.Out s.row s.column) (record { sink = k.sink; has = k.has; line_is = sym l; source_is = refl }))

      by_track : (channel place t : ℕ) (w : Wiring) → IsAt (all_wirings dev plan takes) tracks channel place w t → (u : Track) → IsOfConnection dev channel w t (Cross h.0 u (line.Out s.row s.column))
          → (m : ℕ) × (slice_get plan.placed.spots m ≡ Some s)
      by_track channel place t w a (track.Signal u) k = owned w.net (line_of_place dev plan legal takes routed tracks assigned channel place t w (line.Out s.row s.column) a k.2).0
      by_track channel place t w a track.Gnd k = absurd k
      by_track channel place t w a track.Vcc k = absurd k
      by_track channel place t w a track.Clk k = absurd k

      from : IsDedicated dev plan (Cross h.0 h.1 (line.Out s.row s.column)) ⊎ IsSignal dev (all_wirings dev plan takes) tracks (Cross h.0 h.1 (line.Out s.row s.column)) → (m : ℕ) × (slice_get plan.placed.spots m ≡ Some s)
      from (inl k) = by_sink k
      from (inr k) = by_track k.channel k.place k.track k.wiring k.at h.1 k.is

  -- the wire of a source drives each of its sinks
  record Fed (sink : Sink) : Type 0 where
    pub from : Wire
    pub source : IsSource f from
    pub is : IsWireOf f plan.placed.spots sink.source from
    pub joined : Joined dev f.sites from (wire.Vertical sink.line)

  fed : (sink : Sink) → Contains (sinks dev plan) sink → Fed sink
  fed sink h = by_source sink.source refl
    where
      by_input : (i : ℕ) → i < length plan.placed.circuit.inputs → sink.source ≡ Input i → Fed sink
      by_input i low e =
          let name = get_in plan.placed.circuit.inputs i low in
          let number : 0 + i ≡ i = omega arith in
          let port : Port = record { pad = i; name = name.0 } in
          let at : slice_get f.ins i ≡ Some port = ap (λ (ps : List Port). slice_get ps i) file.head.ins ∙ has_port 0 plan.placed.circuit.inputs i name.0 name.1 ∙ ap (λ (p : ℕ). let r : Option Port = Some (record { pad = p; name = name.0 }) in r) number in
          let r = reach sink h (subst (IsNet plan) (sym e) low) in
          record {
            from = pad_wire i;
            source = contains_at (map (λ (port : Port). port.pad) f.ins) i i (get_map (λ (port : Port). port.pad) f.ins i port at);
            is = subst (λ (s : Source). IsWireOf f plan.placed.spots s (pad_wire i)) (sym e) (port, at, refl);
            joined = subst (λ (s : Source). Joined dev f.sites (wire.Vertical (source_line plan s)) (wire.Vertical sink.line)) e r.joined;
          }

      by_module : (m : ℕ) → m < length plan.placed.circuit.modules → sink.source ≡ Module m → Fed sink
      by_module m low e =
          let spot = spot_of dev plan legal m low in
          let r = reach sink h (subst (IsNet plan) (sym e) low) in
          let l : source_line plan sink.source ≡ out_line spot.0 = ap (source_line plan) e ∙ spot.2 in
          record {
            from = out_wire spot.0;
            source = used_from m spot.0 spot.1;
            is = subst (λ (s : Source). IsWireOf f plan.placed.spots s (out_wire spot.0)) (sym e) (spot.0, spot.1, refl);
            joined = subst (λ (l : Line). Joined dev f.sites (wire.Vertical l) (wire.Vertical sink.line)) l r.joined;
          }

      rail : (t : Track) → dedicated sink.source ≡ Some t → Joined dev f.sites (ends_of dev (Cross sink.channel t sink.line)).1 (wire.Vertical sink.line)
      rail t e = at_rail dev plan legal takes routed served tracks assigned f.sites file.sites sink t h e

      by_source : (s : Source) → sink.source ≡ s → Fed sink
      by_source Zero e = record { from = wire.Gnd; source = tt; is = subst (λ (s : Source). IsWireOf f plan.placed.spots s wire.Gnd) (sym e) refl; joined = rail track.Gnd (ap dedicated e) }
      by_source One e = record { from = wire.Vcc; source = tt; is = subst (λ (s : Source). IsWireOf f plan.placed.spots s wire.Vcc) (sym e) refl; joined = rail track.Vcc (ap dedicated e) }
      by_source Clock e = record { from = wire.Clk; source = tt; is = subst (λ (s : Source). IsWireOf f plan.placed.spots s wire.Clk) (sym e) refl; joined = rail track.Clk (ap dedicated e) }
      by_source (Input i) e = by_input i (subst (HasSource plan.placed.circuit) e (sink_has_source sink h)) e
      by_source (Module m) e = by_module m (subst (HasSource plan.placed.circuit) e (sink_has_source sink h)) e

  -- the wire of each source has the source as its owner
  abbrev wire_of_source : Source → Wire
  wire_of_source Zero = wire.Gnd
  wire_of_source One = wire.Vcc
  wire_of_source Clock = wire.Clk
  wire_of_source (Input i) = pad_wire i
  wire_of_source (Module m) = wire.Vertical (source_line plan (Module m))

  source_has_owner : (w : Wire) → IsSource f w → (s : Source) × HasOwner s w × (w ≡ wire_of_source s)
  source_has_owner wire.Gnd h = (Zero, refl, refl)
  source_has_owner wire.Vcc h = (One, refl, refl)
  source_has_owner wire.Clk h = (Clock, refl, refl)
  source_has_owner (wire.Seg c t i) h = absurd h
  source_has_owner (wire.Vertical (line.Pin row column pin)) h = absurd h
  source_has_owner (wire.Vertical (line.Long column index)) h = absurd h
  source_has_owner (wire.Vertical (line.Out row column)) h =
      let u = used_is (record { row = row; column = column }) h in
      let same : get_or plan.placed.spots u.0 (record { row = 0; column = 0 }) ≡ record { row = row; column = column } = get_or_from_slice_get plan.placed.spots u.0 (record { row = row; column = column }) (record { row = 0; column = 0 }) u.1 in
      (Module u.0, (u.0, refl, u.1), ap (λ (s : Spot). wire.Vertical (out_line s)) (sym same))
  source_has_owner (wire.Vertical (line.Pad pad)) h =
      let r = mapped (λ (port : Port). port.pad) f.ins pad h in
      let p = place_of f.ins r.0 r.1 in
      let at = ap (λ (ps : List Port). slice_get ps p.0) (sym file.head.ins) ∙ p.1 in
      let port = port_is 0 plan.placed.circuit.inputs p.0 r.0 at in
      let low = get_within plan.placed.circuit.inputs p.0 r.0.name port.1 in
      let in_range : pad < length plan.placed.circuit.inputs = omega (arith, port.0, r.2) in
      (Input pad, inl (refl, in_range), refl)

  -- the two ends of each link have one owner
  link_owner : (a b : Wire) → Contains (links_of dev f.sites) (a, b) → HaveOwner dev plan legal takes routed tracks assigned a b
  link_owner a b h =
      let r = mapped (ends_of dev) f.sites (a, b) h in
      subst (λ (e : Wire × Wire). HaveOwner dev plan legal takes routed tracks assigned e.0 e.1) r.2 (from r.0 ((file.sites.each r.0).0 r.1))
    where
      from : (site : Site) → IsDedicated dev plan site ⊎ IsSignal dev (all_wirings dev plan takes) tracks site → HaveOwner dev plan legal takes routed tracks assigned (ends_of dev site).0 (ends_of dev site).1
      from site (inl k) = dedicated_ends dev plan legal takes routed tracks assigned site k
      from site (inr k) = signal_ends dev plan legal takes routed tracks assigned site k

  owner_on : (s : Source) (a b : Wire) → Contains (links_of dev f.sites) (a, b) → HasOwner s a → HasOwner s b
  owner_on s a b h o =
      let both = link_owner a b h in
      subst (λ (s : Source). HasOwner s b) (one_owner dev plan legal takes routed tracks assigned both.0 s a both.1 o) both.2

  owner_back : (s : Source) (a b : Wire) → Contains (links_of dev f.sites) (a, b) → HasOwner s b → HasOwner s a
  owner_back s a b h o =
      let both = link_owner a b h in
      subst (λ (s : Source). HasOwner s a) (one_owner dev plan legal takes routed tracks assigned both.0 s b both.2 o) both.1

  sources_apart : (a b : Wire) → IsSource f a → IsSource f b → Joined dev f.sites a b → a ≡ b
  sources_apart a b h k j =
      let first = source_has_owner a h in
      let second = source_has_owner b k in
      let on = joined_keeps (λ (w : Wire). HasOwner first.0 w) (links_of dev f.sites) (owner_on first.0) (owner_back first.0) a b j first.1 in
      let same = one_owner dev plan legal takes routed tracks assigned first.0 second.0 b on second.1 in
      first.2 ∙ ap wire_of_source same ∙ sym second.2

  -- pins and outputs as sinks
  pin_at : (m k : ℕ) (s : Spot) (sources : List Source) (source : Source) → slice_get plan.placed.spots m ≡ Some s → slice_get plan.placed.circuit.modules m ≡ Some sources → slice_get sources k ≡ Some source → Fed (pin_sink dev s k source)
  pin_at m k s sources source a b e = fed (pin_sink dev s k source) (pin_is_sink dev plan m k s sources source a b e)

  output_at : (k : ℕ) (output : Output) → slice_get plan.placed.circuit.outputs k ≡ Some output → Fed (output_sink dev (length plan.placed.circuit.inputs + k) output)
  output_at k output e = fed (output_sink dev (length plan.placed.circuit.inputs + k) output) (output_is_sink dev plan k output e)

  pub sound : Sound dev f
  sound = record {
    apart = sources_apart;
    pins = pins;
    outputs = outputs;
    starts = starts;
  }
    where
      fed_is : (sink : Sink) → Fed sink → IsFed dev f (wire.Vertical sink.line)
      fed_is sink h = (h.from, h.source, h.joined)

      pins : (s : Spot) (pin : ℕ) → IsUsed f.sites s → pin < 8 → IsFed dev f (pin_wire s pin)
      pins s pin used low =
          let m = used_is s used in
          let within : m.0 < length plan.placed.circuit.modules = omega (arith, get_within plan.placed.spots m.0 s m.1, legal.spots) in
          let sources = get_in plan.placed.circuit.modules m.0 within in
          let eight = (legal.range.pins m.0 sources.0 within).0 in
          let same : get_or plan.placed.circuit.modules m.0 sources.0 ≡ sources.0 = get_or_from_slice_get plan.placed.circuit.modules m.0 sources.0 sources.0 sources.1 in
          let inside : pin < length sources.0 = omega (arith, eight, ap length same) in
          let source = get_in sources.0 pin inside in
          fed_is (pin_sink dev s pin source.0) (pin_at m.0 pin s sources.0 source.0 m.1 sources.1 source.1)

      outputs : All (λ (port : Port). IsFed dev f (pad_wire port.pad)) f.outs
      outputs k d within =
          let at = slice_get-get_or f.outs k d within in
          let p = port_is (length plan.placed.circuit.inputs) (output_names plan.placed.circuit) k (get_or f.outs k d) (ap (λ (ps : List Port). slice_get ps k) (sym file.head.outs) ∙ at) in
          let o = get_mapped (λ (o : Output). o.name) plan.placed.circuit.outputs k (get_or f.outs k d).name p.1 in
          let h = fed_is (output_sink dev (length plan.placed.circuit.inputs + k) o.0) (output_at k o.0 o.1) in
          subst (λ (pad : ℕ). IsFed dev f (pad_wire pad)) (sym p.0) h

      starts : All (λ (start : StartAt). IsUsed f.sites start.spot) f.starts
      starts = All-same (λ (start : StartAt). IsUsed f.sites start.spot) f.starts (map (start_at plan.placed.spots) plan.placed.circuit.starts) file.head.starts
          (All-map (λ (start : StartAt). IsUsed f.sites start.spot) (start_at plan.placed.spots) plan.placed.circuit.starts at_module)
        where
          at_module : All (λ (s : Start). IsUsed f.sites (start_at plan.placed.spots s).spot) plan.placed.circuit.starts
          at_module k d within =
              let s = get_or plan.placed.circuit.starts k d in
              let low = legal.range.starts k d within in
              let in_range : s.module < length plan.placed.spots = omega (arith, low, legal.spots) in
              used_from s.module (get_or plan.placed.spots s.module (record { row = 0; column = 0 })) (slice_get-get_or plan.placed.spots s.module (record { row = 0; column = 0 }) in_range)

  pub is_circuit : IsCircuitOf plan.placed dev f
  is_circuit = record {
    rise = legal.rise;
    used = λ s. (λ h. let m = used_is s h in contains_at plan.placed.spots m.0 s m.1, λ h. let m = place_of plan.placed.spots s h in used_from m.0 s m.1);
    modules = sym legal.spots;
    eight = λ k d within. (legal.range.pins k d within).0;
    pins = λ m k s sources source a b e. let h = pin_at m k s sources source a b e in (h.from, h.is, h.joined);
    outputs = outputs;
    output_names = sym (ap (map (λ (port : Port). port.name)) file.head.outs ∙ port_names_are (length plan.placed.circuit.inputs) (output_names plan.placed.circuit));
    clock = sym file.head.clock;
    inputs = sym (ap (map (λ (port : Port). port.name)) file.head.ins ∙ port_names_are 0 plan.placed.circuit.inputs);
    starts = beginnings plan.placed.circuit.starts legal.range.starts ∙ sym (ap (map {B = Beginning} (λ (start : StartAt). (start.name, start.init, Some start.spot))) file.head.starts);
  }
    where
      outputs : (k : ℕ) (port : Port) (output : Output) → slice_get f.outs k ≡ Some port → slice_get plan.placed.circuit.outputs k ≡ Some output → Drives dev f plan.placed.spots output.source (pad_wire port.pad)
      outputs k port output at e =
          let p = port_is (length plan.placed.circuit.inputs) (output_names plan.placed.circuit) k port (ap (λ (ps : List Port). slice_get ps k) (sym file.head.outs) ∙ at) in
          let h = output_at k output e in
          subst (λ (pad : ℕ). Drives dev f plan.placed.spots output.source (pad_wire pad)) (sym p.0) (h.from, h.is, h.joined)

      beginnings : (starts : List Start) → All (λ (s : Start). s.module < length plan.placed.circuit.modules) starts
          → map {B = Beginning} (λ (start : Start). (start.name, start.init, slice_get plan.placed.spots start.module)) starts
          ≡ map {B = Beginning} (λ (start : StartAt). (start.name, start.init, Some start.spot)) (map (start_at plan.placed.spots) starts)
      beginnings [] h = refl
      beginnings (s ∷ starts) h =
          let low = h 0 s (omega arith) in
          let in_range : s.module < length plan.placed.spots = omega (arith, low, legal.spots) in
          let spot : slice_get plan.placed.spots s.module ≡ Some (start_at plan.placed.spots s).spot = slice_get-get_or plan.placed.spots s.module (record { row = 0; column = 0 }) in_range in
          let rest = beginnings starts (λ k d within. h (suc k) d (omega arith)) in
          ap (λ (o : Option Spot). let b : Beginning = (s.name, s.init, o) in b ∷ map {B = Beginning} (λ (start : Start). (start.name, start.init, slice_get plan.placed.spots start.module)) starts) spot
          ∙ ap (λ (bs : List Beginning). let b : Beginning = (s.name, s.init, Some (start_at plan.placed.spots s).spot) in b ∷ bs) rest

-- In an emitted array each sink is joined to its source, by written paths.
use Rattle.std.proofs.Common.{ℕ, zero, suc, ◌≡◌, ◌+◌, ◌-◌, ◌<◌, ◌≤◌, Bool, true, false, List, length, Some, refl, sym, ap, subst, ◌∙◌, inl, inr, arith, Contains}
use Rattle.std.proofs.lemmas.Bool.{false≢true}
use Rattle.std.proofs.lemmas.List.{length-map}
use Rattle.act1_base.proofs.ListGets.{get_within, get_in}
use Rattle.act1_base.proofs.Paths.{joined_here, joined_by, joined_on, joined_back}
use Rattle.act1_device.specs.declared.device.Device.{Device}
use Rattle.act1_device.specs.declared.device.Line.{Line}
use Rattle.act1_device.specs.declared.device.Track.{Track}
use Rattle.act1_device.specs.declared.device.Track.TheVariants as track
use Rattle.act1_device.specs.declared.device.Site.{Site}
use Rattle.act1_device.specs.declared.device.Site.TheVariants.{Along, Cross}
use Rattle.act1_device.specs.declared.device.Wire.TheVariants as wire
use Rattle.act1_device.specs.Sites.{column_of, segment_at, ends_of}
use Rattle.act1_circuit.specs.declared.circuit.Source.{Source}
use Rattle.act1_fuses.specs.Wires.{links_of, Joined}
use Rattle.act1_plan.specs.declared.plan.Plan.{Plan}
use Rattle.act1_groute.specs.declared.wiring.Wiring.{Wiring}
use Rattle.act1_plan.specs.Legal.{Legal}
use Rattle.act1_groute.specs.declared.net.Sink.{Sink}
use Rattle.act1_groute.specs.Nets.{sinks, source_line, covers, is_needed, channels}
use Rattle.act1_groute.specs.declared.net.Take.{Take}
use Rattle.act1_groute.specs.Routes.{Demand, wire_of, demands, has_connection, wirings, interval}
use Rattle.act1_groute.specs.Emitted.{dedicated, IsAt, AreAssigned, Emitted}
use Rattle.act1_base.proofs.Elements.{in_map, in_numbers}
use Rattle.act1_groute.proofs.RouteFacts.{IsNet, Routed, IsServed, is_demand}
use Rattle.act1_groute.proofs.InRange.{sink_in_range, source_in_range}
use Rattle.act1_groute.proofs.WiringFacts.{all_wirings, at_wirings, has_wiring, net_wiring, needed_has, home_has, has_sink, sink_needs, has_source, has_home, has_server, column_within, segment_up}

module _ (dev : Device) (plan : Plan) (legal : Legal dev plan) where
  module _ (takes : List Take) (routed : Routed dev plan takes) (served : (d : Demand) → Contains (demands dev plan) d → IsServed dev plan takes d)
      (tracks : List (List ℕ)) (assigned : AreAssigned dev plan.k (all_wirings dev plan takes) tracks) (sites : List Site) (emitted : Emitted dev plan (all_wirings dev plan takes) tracks sites) where
    link : (site : Site) → Contains sites site → Joined dev sites (ends_of dev site).0 (ends_of dev site).1
    link site h = joined_by (links_of dev sites) (ends_of dev site).0 (ends_of dev site).1 (inl (in_map (ends_of dev) sites site h))

    -- a line of a connection meets its track
    abbrev At : ℕ → ℕ → Wiring → ℕ → Type 0
    At h place w t = IsAt (all_wirings dev plan takes) tracks h place w t

    pub crossing : (h place t : ℕ) (w : Wiring) (l : Line) → At h place w t → Contains w.lines l → Contains sites (Cross h (track.Signal t) l)
    crossing h place t w l a k = (emitted.each (Cross h (track.Signal t) l)).1 (inr (record { channel = h; place = place; wiring = w; track = t; at = a; is = (refl, refl, k) }))

    meets : (h place t : ℕ) (w : Wiring) (l : Line) → At h place w t → Contains w.lines l → Joined dev sites (wire.Vertical l) (wire.Seg h t (segment_at dev h t (column_of dev l)))
    meets h place t w l a k = link (Cross h (track.Signal t) l) (crossing h place t w l a k)

    next : (h place t index : ℕ) (w : Wiring) → At h place w t → segment_at dev h t w.left ≤ index → index < segment_at dev h t w.right → Joined dev sites (wire.Seg h t index) (wire.Seg h t (index + 1))
    next h place t index w a low high = link (Along h t index) ((emitted.each (Along h t index)).1 (inr (record { channel = h; place = place; wiring = w; track = t; at = a; is = (refl, refl, low, high) })))

    -- all segments that the interval overlaps are joined
    chain : (h place t n : ℕ) (w : Wiring) → At h place w t → segment_at dev h t w.left + n ≤ segment_at dev h t w.right
        → Joined dev sites (wire.Seg h t (segment_at dev h t w.left)) (wire.Seg h t (segment_at dev h t w.left + n))
    chain h place t zero w a low =
        let number : segment_at dev h t w.left ≡ segment_at dev h t w.left + 0 = omega arith in
        subst (λ (k : ℕ). Joined dev sites (wire.Seg h t (segment_at dev h t w.left)) (wire.Seg h t k)) number (joined_here (links_of dev sites) (wire.Seg h t (segment_at dev h t w.left)))
    chain h place t (suc n) w a low =
        let number : segment_at dev h t w.left + n + 1 ≡ segment_at dev h t w.left + suc n = omega arith in
        let from = segment_at dev h t w.left in
        let first : from ≤ from + n = omega arith in
        let last : from + n < segment_at dev h t w.right = omega arith in
        let before : from + n ≤ segment_at dev h t w.right = omega arith in
        subst (λ (k : ℕ). Joined dev sites (wire.Seg h t (segment_at dev h t w.left)) (wire.Seg h t k)) number
        (joined_on (links_of dev sites) (wire.Seg h t from) (wire.Seg h t (from + n)) (wire.Seg h t (from + n + 1)) (chain h place t n w a before) (next h place t (from + n) w a first last))

    chained : (h place t segment : ℕ) (w : Wiring) → At h place w t → segment_at dev h t w.left ≤ segment → segment ≤ segment_at dev h t w.right
        → Joined dev sites (wire.Seg h t (segment_at dev h t w.left)) (wire.Seg h t segment)
    chained h place t segment w a low high =
        let n = segment - segment_at dev h t w.left in
        let number : segment_at dev h t w.left + n ≡ segment = omega arith in
        let fits : segment_at dev h t w.left + n ≤ segment_at dev h t w.right = omega arith in
        subst (λ (k : ℕ). Joined dev sites (wire.Seg h t (segment_at dev h t w.left)) (wire.Seg h t k)) number (chain h place t n w a fits)

    -- the first segment of a connection is joined to each of its lines
    first_to_line : (net : Source) (h place t : ℕ) (l : Line) → At h place (net_wiring dev plan takes net h) t → Contains (net_wiring dev plan takes net h).lines l
        → Joined dev sites (wire.Seg h t (segment_at dev h t (net_wiring dev plan takes net h).left)) (wire.Vertical l)
    first_to_line net h place t l a k =
        let w = net_wiring dev plan takes net h in
        let c = column_within dev plan takes net h l k in
        let low = segment_up dev h t w.left (column_of dev l) c.0 in
        let high = segment_up dev h t (column_of dev l) w.right c.1 in
        let here = segment_at dev h t (column_of dev l) in
        joined_on (links_of dev sites) (wire.Seg h t (segment_at dev h t w.left)) (wire.Seg h t here) (wire.Vertical l) (chained h place t here w a low high)
        (joined_back (links_of dev sites) (wire.Vertical l) (wire.Seg h t here) (meets h place t w l a k))

    -- the lines of a connection are joined
    lines_joined : (net : Source) (h place t : ℕ) (l m : Line) → At h place (net_wiring dev plan takes net h) t
        → Contains (net_wiring dev plan takes net h).lines l → Contains (net_wiring dev plan takes net h).lines m → Joined dev sites (wire.Vertical l) (wire.Vertical m)
    lines_joined net h place t l m a j k =
        let first = wire.Seg h t (segment_at dev h t (net_wiring dev plan takes net h).left) in
        joined_on (links_of dev sites) (wire.Vertical l) first (wire.Vertical m)
        (joined_back (links_of dev sites) first (wire.Vertical l) (first_to_line net h place t l a j)) (first_to_line net h place t m a k)

    -- a net's connection in a channel, and its track
    record Placed (net : Source) (h : ℕ) : Type 0 where
      pub place : ℕ
      pub track : ℕ
      pub at : At h place (net_wiring dev plan takes net h) track

    placed : (net : Source) (h : ℕ) → IsNet plan net → h ≤ dev.rows → has_connection dev plan takes net h ≡ true → Placed net h
    placed net h n low has =
        let r = has_wiring dev plan takes net h n has in
        let at = at_wirings dev plan takes h low in
        let within = get_within (all_wirings dev plan takes) h (wirings dev plan takes h) at in
        let low_track : h < length tracks = omega (arith, assigned.count) in
        let ts = get_in tracks h low_track in
        let fits = assigned.each h (wirings dev plan takes h) ts.0 at ts.1 in
        let count : length ts.0 ≡ length (wirings dev plan takes h) = fits.assigns.each ∙ ap length fits.is.connections ∙ length-map (wirings dev plan takes h) interval in
        let inside = get_within (wirings dev plan takes h) r.0 (net_wiring dev plan takes net h) r.1 in
        let low_place : r.0 < length ts.0 = omega (arith, count) in
        let t = get_in ts.0 r.0 low_place in
        record { place = r.0; track = t.0; at = record { wirings = wirings dev plan takes h; assigned = ts.0; at = at; with_tracks = ts.1; wiring = r.1; track = t.1 } }

    -- a net's source line is a line of one of its connections, and joined to the sink
    pub record Reach (sink : Sink) : Type 0 where
      pub channel : ℕ
      pub place : ℕ
      pub track : ℕ
      pub at : At channel place (net_wiring dev plan takes sink.source channel) track
      pub has : Contains (net_wiring dev plan takes sink.source channel).lines (source_line plan sink.source)
      pub joined : Joined dev sites (wire.Vertical (source_line plan sink.source)) (wire.Vertical sink.line)

    pub reached : (sink : Sink) → Contains (sinks dev plan) sink → IsNet plan sink.source → Reach sink
    reached sink h n = by_cover (covers dev (source_line plan sink.source) sink.channel) refl
      where
        low : sink.channel ≤ dev.rows
        low = sink_in_range dev plan legal sink h

        needs : is_needed dev plan sink.source sink.channel ≡ true
        needs = sink_needs dev plan takes sink h

        here : Placed sink.source sink.channel
        here = placed sink.source sink.channel n low (needed_has dev plan takes sink.source sink.channel needs)

        by_source : covers dev (source_line plan sink.source) sink.channel ≡ true → Reach sink
        by_source c =
            let source = has_source dev plan takes sink.source sink.channel c in
            record {
              channel = sink.channel;
              place = here.place;
              track = here.track;
              at = here.at;
              has = source;
              joined = lines_joined sink.source sink.channel here.place here.track (source_line plan sink.source) sink.line here.at source (has_sink dev plan takes sink h);
            }

        by_server : (server : Take) × Contains takes server × (server.net ≡ sink.source) × Contains (net_wiring dev plan takes sink.source sink.channel).lines (wire_of server) → Reach sink
        by_server r =
            let take = r.0 in
            let is = routed.each take r.1 in
            let home_low = source_in_range dev plan legal take.net take.home is.net is.source in
            let at_home = placed take.net take.home is.net home_low (home_has dev plan takes take r.1) in
            let source = has_source dev plan takes take.net take.home is.source in
            let wired = has_home dev plan takes take r.1 is.source in
            let first = lines_joined take.net take.home at_home.place at_home.track (source_line plan take.net) (wire_of take) at_home.at source wired in
            let second = lines_joined sink.source sink.channel here.place here.track (wire_of take) sink.line here.at r.3 (has_sink dev plan takes sink h) in
            let on = subst (λ (s : Source). Joined dev sites (wire.Vertical (source_line plan s)) (wire.Vertical (wire_of take))) r.2 first in
            record {
              channel = take.home;
              place = at_home.place;
              track = at_home.track;
              at = subst (λ (s : Source). At take.home at_home.place (net_wiring dev plan takes s take.home) at_home.track) r.2 at_home.at;
              has = subst (λ (s : Source). Contains (net_wiring dev plan takes s take.home).lines (source_line plan s)) r.2 source;
              joined = joined_on (links_of dev sites) (wire.Vertical (source_line plan sink.source)) (wire.Vertical (wire_of take)) (wire.Vertical sink.line) on second;
            }

        by_served : covers dev (source_line plan sink.source) sink.channel ≡ false → IsServed dev plan takes (record { net = sink.source; channel = sink.channel }) → Reach sink
        by_served c (inl k) = absurd (false≢true (sym c ∙ k))
        by_served c (inr k) = by_server (has_server dev plan takes sink.source sink.channel k.0 c k.1 k.2 k.3)

        in_channels : Contains (channels dev) sink.channel
        in_channels = in_numbers 0 (dev.rows + 1) sink.channel (omega arith) (let l = low in omega arith)

        by_cover : (b : Bool) → covers dev (source_line plan sink.source) sink.channel ≡ b → Reach sink
        by_cover true c = by_source c
        by_cover false c = by_served c (served (record { net = sink.source; channel = sink.channel }) (is_demand dev plan sink.source sink.channel n in_channels needs))

    -- a sink of a constant or the clock is joined to its track
    pub at_rail : (sink : Sink) (t : Track) → Contains (sinks dev plan) sink → dedicated sink.source ≡ Some t → Joined dev sites (ends_of dev (Cross sink.channel t sink.line)).1 (wire.Vertical sink.line)
    at_rail sink t h e =
        let listed = (emitted.each (Cross sink.channel t sink.line)).1 (inl (record { sink = sink; track = t; has = h; track_is = e; is = refl })) in
        joined_back (links_of dev sites) (wire.Vertical sink.line) (ends_of dev (Cross sink.channel t sink.line)).1 (link (Cross sink.channel t sink.line) listed)

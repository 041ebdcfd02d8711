-- Each wire that an emitted array joins to something has one owner: the source whose net it belongs to.
use Rattle.std.proofs.Common.{ℕ, ◌≡◌, ◌⊎◌, ◌+◌, ◌<◌, ◌≤◌, nat_le, List, [], ◌∷◌, length, map, Some, refl, sym, ap, subst, ◌∙◌, inl, inr, arith, slice_get, get_or, Contains}
use Rattle.std.proofs.lemmas.Bool.{cases_order, cases_lt}
use Rattle.std.specs.Prelude.{count_by}
use Rattle.std.proofs.lemmas.Option.{get_or_from_slice_get}
use Rattle.act1_base.specs.Joined.{Linked, Leads, Joined}
use Rattle.act1_base.proofs.ListGets.{some_is, get_map}
use Rattle.act1_device.specs.declared.device.Device.{Device}
use Rattle.act1_device.specs.declared.device.Line.{Line}
use Rattle.act1_device.specs.declared.device.Line.TheVariants as line
use Rattle.act1_device.specs.declared.device.Track.{Track}
use Rattle.act1_device.specs.declared.device.Track.TheVariants as track
use Rattle.act1_device.specs.declared.device.Site.{Site}
use Rattle.act1_device.specs.declared.device.Site.TheVariants.{Along, Cross}
use Rattle.act1_device.specs.declared.device.Wire.{Wire}
use Rattle.act1_device.specs.declared.device.Wire.TheVariants as wire
use Rattle.act1_device.specs.Sites.{column_of, segment_at, ends_of, track_wire}
use Rattle.act1_circuit.specs.declared.circuit.Source.{Source}
use Rattle.act1_circuit.specs.declared.circuit.Source.TheVariants.{Zero, One, Clock, Input, Module}
use Rattle.act1_channel.specs.declared.problem.Connection.{Connection}
use Rattle.act1_channel.specs.declared.problem.Problem.{Problem}
use Rattle.act1_channel.specs.Assignment as channel
use Rattle.act1_channel.specs.Assignment.{connection_at, Overlaps, DoClash, Assigns}
use Rattle.act1_plan.specs.declared.plan.Plan.{Plan}
use Rattle.act1_groute.specs.declared.wiring.Wiring.{Wiring}
use Rattle.act1_plan.specs.Legal.{Legal}
use Rattle.act1_groute.specs.declared.net.Sink.{Sink}
use Rattle.act1_groute.specs.Nets.{sinks, source_line, out_line}
use Rattle.act1_groute.specs.declared.net.Take.{Take}
use Rattle.act1_groute.specs.Routes.{lines_in, interval, IsProblemOf}
use Rattle.act1_groute.specs.Emitted.{dedicated, IsDedicated, IsOfConnection, IsAt, IsSignal, AreAssigned}
use Rattle.act1_groute.proofs.SinkFacts.{pin_sink, output_sink, sink_is, sink_once, spot_once, IsPin, IsOut}
use Rattle.act1_groute.proofs.RouteFacts.{IsNet, Routed, spot_of}
use Rattle.act1_groute.proofs.WiringFacts.{all_wirings, wirings_at, IsNetWiring, wiring_is, IsLineIn, line_is, column_within, segment_up, count_up}
use Rattle.act1_base.proofs.Elements.{least_below}

-- what holds of one end of each link and then of the other holds of all that is joined
module _ {V : Type 0} (P : V → Type 0) (links : List (V × V)) (on : (a b : V) → Contains links (a, b) → P a → P b) (back : (a b : V) → Contains links (a, b) → P b → P a) where
  leads_keeps : (a b : V) (path : List V) → Leads links a path b → P a → P b
  leads_keeps a b [] h p = subst P h p
  leads_keeps a b (c ∷ path) h p = leads_keeps c b path h.1 (linked h.0)
    where
      linked : Linked links a c → P c
      linked (inl k) = on a c k p
      linked (inr k) = back c a k p

  pub joined_keeps : (a b : V) → Joined links a b → P a → P b
  joined_keeps a b h p = leads_keeps a b h.path h.leads p

-- two connections whose segments meet clash
module _ (p : Problem) (i j t segment : ℕ) (v w : Connection) (one : connection_at p i ≡ v) (other : connection_at p j ≡ w) (wide : v.left ≤ v.right) (wide' : w.left ≤ w.right)
    (low : channel.segment_at p t v.left ≤ segment) (high : segment ≤ channel.segment_at p t v.right) (low' : channel.segment_at p t w.left ≤ segment) (high' : segment ≤ channel.segment_at p t w.right) where
  overlapping : (k : ℕ) (c : Connection) (column s : ℕ) → connection_at p k ≡ c → c.left ≤ column → column ≤ c.right → channel.segment_at p t column ≡ s → Overlaps p k t s
  overlapping k c column s e a b h = (column, subst (λ (c : Connection). c.left ≤ column) (sym e) a, subst (λ (c : Connection). column ≤ c.right) (sym e) b, h)

  -- the column of the one interval that lies in the segment in which the other begins
  met : (a b : Connection) → a.left ≤ a.right → channel.segment_at p t a.left ≤ channel.segment_at p t b.left → channel.segment_at p t b.left ≤ channel.segment_at p t a.right
      → (column : ℕ) × (a.left ≤ column) × (column ≤ a.right) × (channel.segment_at p t column ≡ channel.segment_at p t b.left)
  met a b wide begins ends = from (cases_lt a.right b.left) (cases_lt b.left a.left)
    where
      from : (a.right < b.left) ⊎ (b.left ≤ a.right) → (b.left < a.left) ⊎ (a.left ≤ b.left) → (column : ℕ) × (a.left ≤ column) × (column ≤ a.right) × (channel.segment_at p t column ≡ channel.segment_at p t b.left)
      from (inl after) k = let up = count_up (get_or p.tracks t []) a.right b.left (omega arith) in let same : channel.segment_at p t a.right ≡ channel.segment_at p t b.left = omega arith in (a.right, wide, omega arith, same)
      from (inr within) (inl before) = let up = count_up (get_or p.tracks t []) b.left a.left (omega arith) in let same : channel.segment_at p t a.left ≡ channel.segment_at p t b.left = omega arith in (a.left, omega arith, wide, same)
      from (inr within) (inr here) = (b.left, here, within, refl)

  pub clash_from : DoClash p i j t
  clash_from = from (cases_lt (channel.segment_at p t v.left) (channel.segment_at p t w.left))
    where
      from : (channel.segment_at p t v.left < channel.segment_at p t w.left) ⊎ (channel.segment_at p t w.left ≤ channel.segment_at p t v.left) → DoClash p i j t
      from (inl less) =
          let m = met v w wide (omega arith) (omega arith) in
          (channel.segment_at p t w.left, overlapping i v m.0 (channel.segment_at p t w.left) one m.1 m.2 m.3, overlapping j w w.left (channel.segment_at p t w.left) other (omega arith) wide' refl)
      from (inr more) =
          let m = met w v wide' more (omega arith) in
          (channel.segment_at p t v.left, overlapping i v v.left (channel.segment_at p t v.left) one (omega arith) wide refl, overlapping j w m.0 (channel.segment_at p t v.left) other m.1 m.2 m.3)

-- the line is that of a sink of this source
pub record IsSinkLine (dev : Device) (plan : Plan) (s : Source) (l : Line) : Type 0 where
  pub sink : Sink
  pub has : Contains (sinks dev plan) sink
  pub line_is : sink.line ≡ l
  pub source_is : sink.source ≡ s

-- the source to whose net a line belongs
abbrev pub OwnsLine : Device → Plan → List Take → Source → Line → Type 0
OwnsLine dev plan takes s (line.Pin row column pin) = IsSinkLine dev plan s (line.Pin row column pin)
OwnsLine dev plan takes s (line.Out row column) = (m : ℕ) × (s ≡ Module m) × (slice_get plan.placed.spots m ≡ Some (record { row = row; column = column }))
OwnsLine dev plan takes s (line.Long column index) = (take : Take) × Contains takes take × (take.wire.column ≡ column) × (take.wire.index ≡ index) × (take.net ≡ s)
OwnsLine dev plan takes s (line.Pad pad) = ((s ≡ Input pad) × (pad < length plan.placed.circuit.inputs)) ⊎ IsSinkLine dev plan s (line.Pad pad)

-- a connection of the source's net overlaps the segment on its track
pub record OwnsSegment (dev : Device) (channels : List (List Wiring)) (tracks : List (List ℕ)) (s : Source) (h t segment : ℕ) : Type 0 where
  pub place : ℕ
  pub wiring : Wiring
  pub at : IsAt channels tracks h place wiring t
  pub low : segment_at dev h t wiring.left ≤ segment
  pub high : segment ≤ segment_at dev h t wiring.right
  pub net_is : wiring.net ≡ s

-- the source to whose net a wire belongs
abbrev pub Owns : Device → Plan → List Take → List (List ℕ) → Source → Wire → Type 0
Owns dev plan takes tracks s wire.Gnd = s ≡ Zero
Owns dev plan takes tracks s wire.Vcc = s ≡ One
Owns dev plan takes tracks s wire.Clk = s ≡ Clock
Owns dev plan takes tracks s (wire.Seg h t segment) = OwnsSegment dev (all_wirings dev plan takes) tracks s h t segment
Owns dev plan takes tracks s (wire.Vertical l) = OwnsLine dev plan takes s l

module _ (dev : Device) (plan : Plan) (legal : Legal dev plan) (takes : List Take) (routed : Routed dev plan takes) where
  -- a sink's line belongs to its source
  pub sink_owned : (s : Source) (l : Line) → IsSinkLine dev plan s l → OwnsLine dev plan takes s l
  sink_owned s (line.Pin row column pin) h = h
  sink_owned s (line.Pad pad) h = inr h
  sink_owned s (line.Out row column) h = from (sink_is dev plan h.sink h.has)
    where
      from : IsPin dev plan h.sink ⊎ IsOut dev plan h.sink → OwnsLine dev plan takes s (line.Out row column)
      from (inl p) = let e : (pin_sink dev p.spot p.pin p.source).line ≡ line.Out row column = ap (λ (k : Sink). k.line) (sym p.is) ∙ h.line_is in cc
      from (inr p) = let e : (output_sink dev (length plan.placed.circuit.inputs + p.number) p.output).line ≡ line.Out row column = ap (λ (k : Sink). k.line) (sym p.is) ∙ h.line_is in cc
  sink_owned s (line.Long column index) h = from (sink_is dev plan h.sink h.has)
    where
      from : IsPin dev plan h.sink ⊎ IsOut dev plan h.sink → OwnsLine dev plan takes s (line.Long column index)
      from (inl p) = let e : (pin_sink dev p.spot p.pin p.source).line ≡ line.Long column index = ap (λ (k : Sink). k.line) (sym p.is) ∙ h.line_is in cc
      from (inr p) = let e : (output_sink dev (length plan.placed.circuit.inputs + p.number) p.output).line ≡ line.Long column index = ap (λ (k : Sink). k.line) (sym p.is) ∙ h.line_is in cc

  -- a net's source line belongs to it
  pub source_owned : (net : Source) → IsNet plan net → OwnsLine dev plan takes net (source_line plan net)
  source_owned Zero h = absurd h
  source_owned One h = absurd h
  source_owned Clock h = absurd h
  source_owned (Input i) h = inl (refl, h)
  source_owned (Module m) h =
      let s = spot_of dev plan legal m h in
      let owned : OwnsLine dev plan takes (Module m) (out_line s.0) = (m, refl, s.1) in
      subst (OwnsLine dev plan takes (Module m)) (sym s.2) owned

  -- each line of a connection belongs to its net
  pub lines_owned : (net : Source) (h : ℕ) (l : Line) → IsNet plan net → Contains (lines_in dev plan takes net h) l → OwnsLine dev plan takes net l
  lines_owned net h l n k = from (line_is dev plan takes net h l k)
    where
      from : IsLineIn dev plan takes net h l → OwnsLine dev plan takes net l
      from (inl s) = sink_owned net l (record { sink = s.sink; has = s.listed; line_is = s.line; source_is = s.source })
      from (inr (inl s)) = subst (OwnsLine dev plan takes net) (sym s.0) (source_owned net n)
      from (inr (inr w)) = subst (OwnsLine dev plan takes net) w.line (w.take, w.listed, refl, refl, w.net_is)

  -- a line belongs to one source
  sink_lines_once : (s r : Source) (l : Line) → IsSinkLine dev plan s l → IsSinkLine dev plan r l → s ≡ r
  sink_lines_once s r l h k = sym h.source_is ∙ sink_once dev plan legal h.sink k.sink h.has k.has (h.line_is ∙ sym k.line_is) ∙ k.source_is

  pad_apart : {A : Type 0} (s : Source) (pad : ℕ) → pad < length plan.placed.circuit.inputs → IsSinkLine dev plan s (line.Pad pad) → A
  pad_apart {A} s pad low h = from (sink_is dev plan h.sink h.has)
    where
      pad_of : Line → ℕ
      pad_of (line.Pad pad) = pad
      pad_of l = 0

      from : IsPin dev plan h.sink ⊎ IsOut dev plan h.sink → A
      from (inl p) = let e : (pin_sink dev p.spot p.pin p.source).line ≡ line.Pad pad = ap (λ (k : Sink). k.line) (sym p.is) ∙ h.line_is in cc
      from (inr p) =
          let e : line.Pad (length plan.placed.circuit.inputs + p.number) ≡ line.Pad pad = ap (λ (k : Sink). k.line) (sym p.is) ∙ h.line_is in
          let number : length plan.placed.circuit.inputs + p.number ≡ pad = cc in
          absurd (omega arith)

  pub one_line_owner : (s r : Source) (l : Line) → OwnsLine dev plan takes s l → OwnsLine dev plan takes r l → s ≡ r
  one_line_owner s r (line.Pin row column pin) h k = sink_lines_once s r (line.Pin row column pin) h k
  one_line_owner s r (line.Out row column) h k = h.1 ∙ ap Module (spot_once plan.placed.spots (record { row = row; column = column }) h.0 k.0 legal.rise h.2 k.2) ∙ sym k.1
  one_line_owner s r (line.Long column index) h k =
      sym h.4 ∙ ap (λ (t : Take). t.net) (routed.once h.0 k.0 h.1 k.1 (h.2 ∙ sym k.2) (h.3 ∙ sym k.3)) ∙ k.4
  one_line_owner s r (line.Pad pad) (inl h) (inl k) = h.0 ∙ sym k.0
  one_line_owner s r (line.Pad pad) (inl h) (inr k) = pad_apart r pad h.1 k
  one_line_owner s r (line.Pad pad) (inr h) (inl k) = pad_apart s pad k.1 h
  one_line_owner s r (line.Pad pad) (inr h) (inr k) = sink_lines_once s r (line.Pad pad) h k

  module _ (tracks : List (List ℕ)) (assigned : AreAssigned dev plan.k (all_wirings dev plan takes) tracks) where
    -- a connection of the problem
    of_problem : (h i : ℕ) (ws : List Wiring) (p : Problem) → IsProblemOf dev plan.k h ws p → (w : Wiring) → slice_get (map interval ws) i ≡ Some (interval w) → connection_at p i ≡ interval w
    of_problem h i ws p is w e = get_or_from_slice_get p.connections i (interval w) (record { left = 0; right = 0 }) (ap (λ (cs : List Connection). slice_get cs i) is.connections ∙ e)

    -- the segments of the problem are those of the device
    move : (h t segment : ℕ) (ws : List Wiring) (p : Problem) → IsProblemOf dev plan.k h ws p → (P : ℕ → Type 0) → (column : ℕ) → P (segment_at dev h t column) → P (channel.segment_at p t column)
    move h t segment ws p is P column k = subst (λ (ts : List (List ℕ)). P (count_by (λ b. nat_le b column) (get_or ts t []))) (sym is.tracks) k

    -- a connection's interval isn't empty
    width : (h place : ℕ) (w : Wiring) (t : ℕ) → IsAt (all_wirings dev plan takes) tracks h place w t → w.left ≤ w.right
    width h place w t a =
        let r = wirings_at dev plan takes h a.wirings a.at in
        let n = wiring_is dev plan takes h place w (ap (λ (ws : List Wiring). slice_get ws place) (sym r.1) ∙ a.wiring) in
        subst (λ (w : Wiring). w.left ≤ w.right) (sym n.is) (least_below (map (column_of dev) (lines_in dev plan takes n.net h)))

    -- no two connections share a segment
    places_apart : {A : Type 0} (h t segment i j : ℕ) (v w : Wiring) → i < j → IsAt (all_wirings dev plan takes) tracks h i v t → IsAt (all_wirings dev plan takes) tracks h j w t
        → segment_at dev h t v.left ≤ segment → segment ≤ segment_at dev h t v.right → segment_at dev h t w.left ≤ segment → segment ≤ segment_at dev h t w.right → A
    places_apart h t segment i j v w less a b low high low' high' =
        let ws : b.wirings ≡ a.wirings = some_is b.wirings a.wirings (sym b.at ∙ a.at) in
        let ts : b.assigned ≡ a.assigned = some_is b.assigned a.assigned (sym b.with_tracks ∙ a.with_tracks) in
        let fits = assigned.each h a.wirings a.assigned a.at a.with_tracks in
        let first = get_map interval a.wirings i v a.wiring in
        let second = get_map interval a.wirings j w (ap (λ (xs : List Wiring). slice_get xs j) (sym ws) ∙ b.wiring) in
        let one = of_problem h i a.wirings fits.problem fits.is v first in
        let other = of_problem h j a.wirings fits.problem fits.is w second in
        absurd (fits.assigns.apart i j t less a.track (ap (λ (xs : List ℕ). slice_get xs j) (sym ts) ∙ b.track)
        (clash_from fits.problem i j t segment (interval v) (interval w) one other (width h i v t a) (width h j w t b)
        (move h t segment a.wirings fits.problem fits.is (λ n. n ≤ segment) v.left low) (move h t segment a.wirings fits.problem fits.is (λ n. segment ≤ n) v.right high)
        (move h t segment a.wirings fits.problem fits.is (λ n. n ≤ segment) w.left low') (move h t segment a.wirings fits.problem fits.is (λ n. segment ≤ n) w.right high')))

    one_segment_owner : (s r : Source) (h t segment : ℕ) → OwnsSegment dev (all_wirings dev plan takes) tracks s h t segment → OwnsSegment dev (all_wirings dev plan takes) tracks r h t segment → s ≡ r
    one_segment_owner s r h t segment a b = from (cases_order a.place b.place)
      where
        same : a.place ≡ b.place → s ≡ r
        same e =
            let ws : a.at.wirings ≡ b.at.wirings = some_is a.at.wirings b.at.wirings (sym a.at.at ∙ b.at.at) in
            let w : a.wiring ≡ b.wiring = some_is a.wiring b.wiring (sym a.at.wiring ∙ ap (λ (xs : List Wiring). slice_get xs a.place) ws ∙ ap (slice_get b.at.wirings) e ∙ b.at.wiring) in
            sym a.net_is ∙ ap (λ (w : Wiring). w.net) w ∙ b.net_is

        from : (a.place ≡ b.place) ⊎ ((a.place < b.place) ⊎ (b.place < a.place)) → s ≡ r
        from (inl e) = same e
        from (inr (inl less)) = places_apart h t segment a.place b.place a.wiring b.wiring less a.at b.at a.low a.high b.low b.high
        from (inr (inr less)) = places_apart h t segment b.place a.place b.wiring a.wiring less b.at a.at b.low b.high a.low a.high

    -- a wire has one owner
    pub one_owner : (s r : Source) (w : Wire) → Owns dev plan takes tracks s w → Owns dev plan takes tracks r w → s ≡ r
    one_owner s r wire.Gnd h k = h ∙ sym k
    one_owner s r wire.Vcc h k = h ∙ sym k
    one_owner s r wire.Clk h k = h ∙ sym k
    one_owner s r (wire.Seg c t segment) h k = one_segment_owner s r c t segment h k
    one_owner s r (wire.Vertical l) h k = one_line_owner s r l h k

    -- both ends of each emitted site have an owner in common
    abbrev pub HaveOwner : Wire → Wire → Type 0
    HaveOwner a b = (s : Source) × Owns dev plan takes tracks s a × Owns dev plan takes tracks s b

    dedicated_owned : (s : Source) (t : Track) (h column : ℕ) → dedicated s ≡ Some t → Owns dev plan takes tracks s (track_wire dev h t column)
    dedicated_owned Zero t h column e = subst (λ (t : Track). Owns dev plan takes tracks Zero (track_wire dev h t column)) (some_is track.Gnd t e) refl
    dedicated_owned One t h column e = subst (λ (t : Track). Owns dev plan takes tracks One (track_wire dev h t column)) (some_is track.Vcc t e) refl
    dedicated_owned Clock t h column e = subst (λ (t : Track). Owns dev plan takes tracks Clock (track_wire dev h t column)) (some_is track.Clk t e) refl
    dedicated_owned (Input i) t h column e = cc
    dedicated_owned (Module m) t h column e = cc

    pub dedicated_ends : (site : Site) → IsDedicated dev plan site → HaveOwner (ends_of dev site).0 (ends_of dev site).1
    dedicated_ends site h =
        subst (λ (site : Site). HaveOwner (ends_of dev site).0 (ends_of dev site).1) (sym h.is)
        (h.sink.source, sink_owned h.sink.source h.sink.line (record { sink = h.sink; has = h.has; line_is = refl; source_is = refl }), dedicated_owned h.sink.source h.track h.sink.channel (column_of dev h.sink.line) h.track_is)

    -- a connection is its net's
    pub net_of_place : (h place t : ℕ) (w : Wiring) → IsAt (all_wirings dev plan takes) tracks h place w t → IsNetWiring dev plan takes h w
    net_of_place h place t w a =
        let r = wirings_at dev plan takes h a.wirings a.at in
        wiring_is dev plan takes h place w (ap (λ (ws : List Wiring). slice_get ws place) (sym r.1) ∙ a.wiring)

    -- the lines of a connection belong to its net, and their columns lie in its interval
    pub line_of_place : (h place t : ℕ) (w : Wiring) (l : Line) → IsAt (all_wirings dev plan takes) tracks h place w t → Contains w.lines l
        → OwnsLine dev plan takes w.net l × (w.left ≤ column_of dev l) × (column_of dev l ≤ w.right)
    line_of_place h place t w l a k =
        let n = net_of_place h place t w a in
        let listed = subst (λ (v : Wiring). Contains v.lines l) n.is k in
        let columns = column_within dev plan takes n.net h l listed in
        subst (λ (v : Wiring). OwnsLine dev plan takes v.net l × (v.left ≤ column_of dev l) × (column_of dev l ≤ v.right)) (sym n.is)
        (lines_owned n.net h l n.net_is listed, columns.0, columns.1)

    pub signal_ends : (site : Site) → IsSignal dev (all_wirings dev plan takes) tracks site → HaveOwner (ends_of dev site).0 (ends_of dev site).1
    signal_ends site h = from site h.is
      where
        from : (site : Site) → IsOfConnection dev h.channel h.wiring h.track site → HaveOwner (ends_of dev site).0 (ends_of dev site).1
        from (Cross c (track.Signal s) l) k =
            let r = line_of_place h.channel h.place h.track h.wiring l h.at k.2 in
            let low = segment_up dev h.channel h.track h.wiring.left (column_of dev l) r.1 in
            let high = segment_up dev h.channel h.track (column_of dev l) h.wiring.right r.2 in
            let owned : Owns dev plan takes tracks h.wiring.net (wire.Seg h.channel h.track (segment_at dev h.channel h.track (column_of dev l))) =
            record { place = h.place; wiring = h.wiring; at = h.at; low = low; high = high; net_is = refl } in
            let there : Owns dev plan takes tracks h.wiring.net (wire.Seg c s (segment_at dev c s (column_of dev l))) =
            subst (λ (c : ℕ). Owns dev plan takes tracks h.wiring.net (wire.Seg c s (segment_at dev c s (column_of dev l)))) (sym k.0)
            (subst (λ (s : ℕ). Owns dev plan takes tracks h.wiring.net (wire.Seg h.channel s (segment_at dev h.channel s (column_of dev l)))) (sym k.1) owned) in
            (h.wiring.net, r.0, there)
        from (Cross c track.Gnd l) k = absurd k
        from (Cross c track.Vcc l) k = absurd k
        from (Cross c track.Clk l) k = absurd k
        from (Along c s index) k =
            let low = k.2 in
            let high = k.3 in
            let first : Owns dev plan takes tracks h.wiring.net (wire.Seg h.channel h.track index) =
            record { place = h.place; wiring = h.wiring; at = h.at; low = low; high = omega arith; net_is = refl } in
            let second : Owns dev plan takes tracks h.wiring.net (wire.Seg h.channel h.track (index + 1)) =
            record { place = h.place; wiring = h.wiring; at = h.at; low = omega arith; high = omega arith; net_is = refl } in
            let move = λ (n : ℕ) (o : Owns dev plan takes tracks h.wiring.net (wire.Seg h.channel h.track n)).
            subst (λ (c : ℕ). Owns dev plan takes tracks h.wiring.net (wire.Seg c s n)) (sym k.0)
            (subst (λ (s : ℕ). Owns dev plan takes tracks h.wiring.net (wire.Seg h.channel s n)) (sym k.1) o) in
            (h.wiring.net, move index first, move (index + 1) second)

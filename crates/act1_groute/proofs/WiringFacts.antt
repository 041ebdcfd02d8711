-- What the connections of a routed plan are.
use Rattle.std.proofs.Common.{ℕ, zero, suc, ◌≡◌, ◌⊎◌, ◌+◌, ◌<◌, ◌≤◌, ◌==◌, ◌||◌, nat_le, Bool, true, false, cond, List, [], ◌∷◌, length, map, Option, Some, None, refl, sym, ap, ◌∙◌, inl, inr, arith, slice_get, Contains}
use Rattle.std.specs.Prelude.{filter, find, option_to_list, count_by}
use Rattle.std.specs.List.{list_any}
use Rattle.std.proofs.lemmas.Bool.{and_parts, eqb-true, eq-eqb, false≢true, leb-true, le-leb}
use Rattle.std.proofs.lemmas.List.Elements.{Contains-append_left, Contains-append_right, Contains-append_cases}
use Rattle.std.proofs.lemmas.List.Sums.{sum_by-cons}
use Rattle.act1_base.proofs.ListGets.{some_is, get_within, get_map, get_mapped, place_of, contains_at}
use Rattle.act1_device.specs.declared.device.Device.{Device}
use Rattle.act1_device.specs.declared.device.Line.{Line}
use Rattle.act1_device.specs.Sites.{column_of, segment_at, breaks_of}
use Rattle.act1_circuit.specs.declared.circuit.Source.{Source}
use Rattle.act1_plan.specs.declared.plan.Plan.{Plan}
use Rattle.act1_groute.specs.declared.wiring.Wiring.{Wiring}
use Rattle.act1_base.specs.Lists.{numbers}
use Rattle.act1_groute.specs.Nets.{is_same_source, Sink, sinks, nets, source_line, covers, is_sink_of, sink_lines, is_needed, channels}
use Rattle.act1_groute.specs.Routes.{Take, wire_of, own, lines_in, has_connection, wiring_of, wirings}
use Rattle.act1_base.proofs.Elements.{in_filter, filtered, any_of, finds, found, in_map, mapped, first_or_later, here, later, not_in_none, numbers_get, least_is, greatest_is}
use Rattle.act1_plan.proofs.SourceFacts.{same_source_is, source_is_itself}
use Rattle.act1_groute.proofs.RouteFacts.{IsNet, net_is, is_net, own_is, is_own}

-- a later column is in no earlier segment
pub count_up : (breaks : List ℕ) (a b : ℕ) → a ≤ b → count_by (λ x. nat_le x a) breaks ≤ count_by (λ x. nat_le x b) breaks
count_up [] a b h = omega arith
count_up (x ∷ breaks) a b h =
    let rest = count_up breaks a b h in
    let left : count_by (λ x. nat_le x a) (x ∷ breaks) ≡ cond (nat_le x a) 1 0 + count_by (λ x. nat_le x a) breaks = sum_by-cons (λ x. cond (nat_le x a) 1 0) x breaks in
    let right : count_by (λ x. nat_le x b) (x ∷ breaks) ≡ cond (nat_le x b) 1 0 + count_by (λ x. nat_le x b) breaks = sum_by-cons (λ x. cond (nat_le x b) 1 0) x breaks in
    let one : cond (nat_le x a) 1 0 ≤ cond (nat_le x b) 1 0 = first (nat_le x a) (nat_le x b) refl refl in
    omega (arith, left, right, one, rest)
  where
    first : (p q : Bool) → nat_le x a ≡ p → nat_le x b ≡ q → cond p 1 0 ≤ cond q 1 0
    first true true e k = omega arith
    first true false e k = let low = leb-true x a e in let high : x ≤ b = omega arith in absurd (false≢true (sym k ∙ le-leb x b high))
    first false true e k = omega arith
    first false false e k = omega arith

pub segment_up : (dev : Device) (h t a b : ℕ) → a ≤ b → segment_at dev h t a ≤ segment_at dev h t b
segment_up dev h t a b low = count_up (breaks_of dev h t) a b low

length_numbers : (first count : ℕ) → length (numbers first count) ≡ count
length_numbers first zero = refl
length_numbers first (suc count) = ap suc (length_numbers (first + 1) count)

-- a net's connection in a channel
abbrev pub net_wiring : Device → Plan → List Take → Source → ℕ → Wiring
net_wiring dev plan takes net h = wiring_of dev net (lines_in dev plan takes net h)

-- the connections of all channels
abbrev pub all_wirings : Device → Plan → List Take → List (List Wiring)
all_wirings dev plan takes = map (wirings dev plan takes) (channels dev)

module _ (dev : Device) (plan : Plan) (takes : List Take) where
  pub wirings_at : (h : ℕ) (ws : List Wiring) → slice_get (all_wirings dev plan takes) h ≡ Some ws → (h ≤ dev.rows) × (ws ≡ wirings dev plan takes h)
  wirings_at h ws e =
      let r = get_mapped (wirings dev plan takes) (channels dev) h ws e in
      let low : h < dev.rows + 1 = omega (arith, get_within (channels dev) h r.0 r.1, length_numbers 0 (dev.rows + 1)) in
      let at : Some r.0 ≡ Some (0 + h) = sym r.1 ∙ numbers_get 0 (dev.rows + 1) h low in
      let number : 0 + h ≡ h = omega arith in
      let below : h ≤ dev.rows = omega arith in
      (below, sym r.2 ∙ ap (wirings dev plan takes) (some_is r.0 (0 + h) at ∙ number))

  pub at_wirings : (h : ℕ) → h ≤ dev.rows → slice_get (all_wirings dev plan takes) h ≡ Some (wirings dev plan takes h)
  at_wirings h low =
      let number : 0 + h ≡ h = omega arith in
      let within : h < dev.rows + 1 = omega arith in
      get_map (wirings dev plan takes) (channels dev) h h (numbers_get 0 (dev.rows + 1) h within ∙ ap (λ (n : ℕ). let r : Option ℕ = Some n in r) number)

  -- the connection at a place is a net's
  pub record IsNetWiring (h : ℕ) (w : Wiring) : Type 0 where
    pub net : Source
    pub net_is : IsNet plan net
    pub has : has_connection dev plan takes net h ≡ true
    pub is : w ≡ net_wiring dev plan takes net h

  pub wiring_is : (h place : ℕ) (w : Wiring) → slice_get (wirings dev plan takes h) place ≡ Some w → IsNetWiring h w
  wiring_is h place w e =
      let r = get_mapped (λ net. wiring_of dev net (lines_in dev plan takes net h)) (filter (λ net. has_connection dev plan takes net h) (nets plan)) place w e in
      let k = filtered (λ net. has_connection dev plan takes net h) (nets plan) r.0 (contains_at (filter (λ net. has_connection dev plan takes net h) (nets plan)) place r.0 r.1) in
      record { net = r.0; net_is = net_is plan r.0 k.0; has = k.1; is = sym r.2 }

  pub has_wiring : (net : Source) (h : ℕ) → IsNet plan net → has_connection dev plan takes net h ≡ true → (place : ℕ) × (slice_get (wirings dev plan takes h) place ≡ Some (net_wiring dev plan takes net h))
  has_wiring net h n e =
      let listed = in_filter (λ net. has_connection dev plan takes net h) (nets plan) net (is_net plan net n) e in
      let r = place_of (filter (λ net. has_connection dev plan takes net h) (nets plan)) net listed in
      (r.0, get_map (λ net. wiring_of dev net (lines_in dev plan takes net h)) (filter (λ net. has_connection dev plan takes net h) (nets plan)) r.0 net r.1)

  or_right : (a b : Bool) → b ≡ true → (a || b) ≡ true
  or_right true b e = refl
  or_right false b e = e

  or_left : (a b : Bool) → a ≡ true → (a || b) ≡ true
  or_left true b e = refl
  or_left false b e = absurd (false≢true e)

  pub needed_has : (net : Source) (h : ℕ) → is_needed dev plan net h ≡ true → has_connection dev plan takes net h ≡ true
  needed_has net h e = or_left (is_needed dev plan net h) (list_any (λ (take : Take). take.home == h) (own net takes)) e

  pub home_has : (take : Take) → Contains takes take → has_connection dev plan takes take.net take.home ≡ true
  home_has take h =
      or_right (is_needed dev plan take.net take.home) (list_any (λ (t : Take). t.home == take.home) (own take.net takes))
      (any_of (λ (t : Take). t.home == take.home) (own take.net takes) take (is_own take.net takes take h refl) (eq-eqb take.home take.home refl))

  -- what lines a connection has
  pub record IsSinkIn (net : Source) (h : ℕ) (l : Line) : Type 0 where
    pub sink : Sink
    pub listed : Contains (sinks dev plan) sink
    pub source : sink.source ≡ net
    pub channel : sink.channel ≡ h
    pub line : sink.line ≡ l

  pub record IsWireIn (net : Source) (h : ℕ) (l : Line) : Type 0 where
    pub take : Take
    pub listed : Contains takes take
    pub net_is : take.net ≡ net
    pub line : wire_of take ≡ l
    pub covers : covers dev (wire_of take) h ≡ true ⊎ (take.home ≡ h)

  sink_in : (net : Source) (h : ℕ) (l : Line) → Contains (sink_lines dev plan net h) l → IsSinkIn net h l
  sink_in net h l k =
      let r = mapped (λ (s : Sink). s.line) (filter (is_sink_of net h) (sinks dev plan)) l k in
      let s = filtered (is_sink_of net h) (sinks dev plan) r.0 r.1 in
      let parts = and_parts (is_same_source r.0.source net) (r.0.channel == h) s.1 in
      record { sink = r.0; listed = s.0; source = same_source_is r.0.source net parts.0; channel = eqb-true r.0.channel h parts.1; line = r.2 }

  -- a line of a connection is a sink's there, the source's, or that of a long wire
  abbrev pub IsLineIn : Source → ℕ → Line → Type 0
  IsLineIn net h l = IsSinkIn net h l ⊎ (((l ≡ source_line plan net) × (covers dev (source_line plan net) h ≡ true)) ⊎ IsWireIn net h l)

  pub line_is : (net : Source) (h : ℕ) (l : Line) → Contains (lines_in dev plan takes net h) l → IsLineIn net h l
  line_is net h l k =
      from (Contains-append_cases (sink_lines dev plan net h)
      (cond (covers dev (source_line plan net) h) (source_line plan net ∷ map wire_of (filter (λ (take : Take). take.home == h) (own net takes))) (option_to_list (find (λ l. covers dev l h) (map wire_of (own net takes))))) l k)
    where
      homes : List Line
      homes = map wire_of (filter (λ (take : Take). take.home == h) (own net takes))

      wired : (take : Take) × Contains (filter (λ (take : Take). take.home == h) (own net takes)) take × (wire_of take ≡ l) → IsWireIn net h l
      wired r =
          let s = filtered (λ (take : Take). take.home == h) (own net takes) r.0 r.1 in
          let o = own_is net takes r.0 s.0 in
          record { take = r.0; listed = o.0; net_is = o.1; line = r.2; covers = inr (eqb-true r.0.home h s.1) }

      at_source : covers dev (source_line plan net) h ≡ true → (source_line plan net ≡ l) ⊎ Contains (map wire_of (filter (λ (take : Take). take.home == h) (own net takes))) l → IsLineIn net h l
      at_source c (inl e) = inr (inl (sym e, c))
      at_source c (inr m) = inr (inr (wired (mapped wire_of (filter (λ (take : Take). take.home == h) (own net takes)) l m)))

      served : (server : Line) → find (λ l. covers dev l h) (map wire_of (own net takes)) ≡ Some server → server ≡ l → IsLineIn net h l
      served server e same =
          let f = found (λ l. covers dev l h) (map wire_of (own net takes)) server e in
          let r = mapped wire_of (own net takes) server f.0 in
          let o = own_is net takes r.0 r.1 in
          inr (inr (record { take = r.0; listed = o.0; net_is = o.1; line = r.2 ∙ same; covers = inl (ap (λ (l : Line). covers dev l h) r.2 ∙ f.1) }))

      by_option : (o : Option Line) → find (λ l. covers dev l h) (map wire_of (own net takes)) ≡ o → Contains (option_to_list o) l → IsLineIn net h l
      by_option None e m = not_in_none l m
      by_option (Some server) e m = by_first (first_or_later l server [] m)
        where
          by_first : (server ≡ l) ⊎ Contains [] l → IsLineIn net h l
          by_first (inl same) = served server e same
          by_first (inr m) = not_in_none l m

      behind : (b : Bool) → covers dev (source_line plan net) h ≡ b
          → Contains (cond b (source_line plan net ∷ map wire_of (filter (λ (take : Take). take.home == h) (own net takes))) (option_to_list (find (λ l. covers dev l h) (map wire_of (own net takes))))) l → IsLineIn net h l
      behind true c m = at_source c (first_or_later l (source_line plan net) (map wire_of (filter (λ (take : Take). take.home == h) (own net takes))) m)
      behind false c m = by_option (find (λ l. covers dev l h) (map wire_of (own net takes))) refl m

      from : Contains (sink_lines dev plan net h) l
          ⊎ Contains (cond (covers dev (source_line plan net) h) (source_line plan net ∷ map wire_of (filter (λ (take : Take). take.home == h) (own net takes))) (option_to_list (find (λ l. covers dev l h) (map wire_of (own net takes))))) l → IsLineIn net h l
      from (inl m) = inl (sink_in net h l m)
      from (inr m) = behind (covers dev (source_line plan net) h) refl m

  -- the lines that a connection has for sure
  pub has_sink : (sink : Sink) → Contains (sinks dev plan) sink → Contains (lines_in dev plan takes sink.source sink.channel) sink.line
  has_sink sink h =
      Contains-append_left (sink_lines dev plan sink.source sink.channel) _ sink.line
      (in_map (λ (s : Sink). s.line) (filter (is_sink_of sink.source sink.channel) (sinks dev plan)) sink
      (in_filter (is_sink_of sink.source sink.channel) (sinks dev plan) sink h (rw (source_is_itself sink.source, eq-eqb sink.channel sink.channel refl) refl)))

  pub sink_needs : (sink : Sink) → Contains (sinks dev plan) sink → is_needed dev plan sink.source sink.channel ≡ true
  sink_needs sink h = any_of (is_sink_of sink.source sink.channel) (sinks dev plan) sink h (rw (source_is_itself sink.source, eq-eqb sink.channel sink.channel refl) refl)

  pub has_source : (net : Source) (h : ℕ) → covers dev (source_line plan net) h ≡ true → Contains (lines_in dev plan takes net h) (source_line plan net)
  has_source net h c =
      Contains-append_right (sink_lines dev plan net h) _ (source_line plan net) (rw c (here (source_line plan net) (source_line plan net) (map wire_of (filter (λ (take : Take). take.home == h) (own net takes))) refl))

  pub has_home : (take : Take) → Contains takes take → covers dev (source_line plan take.net) take.home ≡ true → Contains (lines_in dev plan takes take.net take.home) (wire_of take)
  has_home take h c =
      Contains-append_right (sink_lines dev plan take.net take.home) _ (wire_of take)
      (rw c (later (wire_of take) (source_line plan take.net) (map wire_of (filter (λ (t : Take). t.home == take.home) (own take.net takes)))
      (in_map wire_of (filter (λ (t : Take). t.home == take.home) (own take.net takes)) take
      (in_filter (λ (t : Take). t.home == take.home) (own take.net takes) take (is_own take.net takes take h refl) (eq-eqb take.home take.home refl)))))

  -- where the source doesn't cover a channel that a wire of the net covers, some wire of the net is a line of the connection
  pub has_server : (net : Source) (h : ℕ) (take : Take) → covers dev (source_line plan net) h ≡ false → Contains takes take → take.net ≡ net → covers dev (wire_of take) h ≡ true
      → (server : Take) × Contains takes server × (server.net ≡ net) × Contains (lines_in dev plan takes net h) (wire_of server)
  has_server net h take c listed n covered =
      let any = any_of (λ l. covers dev l h) (map wire_of (own net takes)) (wire_of take) (in_map wire_of (own net takes) take (is_own net takes take listed n)) covered in
      let f = finds (λ l. covers dev l h) (map wire_of (own net takes)) any in
      let g = found (λ l. covers dev l h) (map wire_of (own net takes)) f.0 f.1 in
      let r = mapped wire_of (own net takes) f.0 g.0 in
      let o = own_is net takes r.0 r.1 in
      (r.0, o.0, o.1, Contains-append_right (sink_lines dev plan net h) _ (wire_of r.0) (rw (c, f.1) (here (wire_of r.0) f.0 [] (sym r.2))))

  -- the interval holds the columns of all lines
  pub column_within : (net : Source) (h : ℕ) (l : Line) → Contains (lines_in dev plan takes net h) l → ((net_wiring dev plan takes net h).left ≤ column_of dev l) × (column_of dev l ≤ (net_wiring dev plan takes net h).right)
  column_within net h l k =
      let c = in_map (column_of dev) (lines_in dev plan takes net h) l k in
      (least_is (map (column_of dev) (lines_in dev plan takes net h)) (column_of dev l) c, greatest_is (map (column_of dev) (lines_in dev plan takes net h)) (column_of dev l) c)

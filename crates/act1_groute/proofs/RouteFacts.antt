-- What the rule of routes leaves: each long wire is taken once, and each demand is served.
use Rattle.std.proofs.Common.{ℕ, ◌≡◌, ◌⊎◌, ◌+◌, ◌<◌, ◌≤◌, ◌==◌, ◌&&◌, ◌||◌, not, nat_le, nat_lt, Bool, true, false, cond, List, [], ◌∷◌, ◌++◌, length, map, Option, Some, None, refl, sym, ap, subst, ◌∙◌, inl, inr, arith, slice_get, get_or, Contains}
use Rattle.std.specs.Prelude.{filter, Result, Ok, Err}
use Rattle.std.specs.List.{list_any}
use Rattle.std.proofs.lemmas.Bool.{and_parts, not-true, eq-eqb, false≢true, leb-true, le-leb}
use Rattle.std.proofs.lemmas.List.Elements.{Contains-append_left, Contains-append_right, Contains-append_cases, Contains-push_cases, Contains-push}
use Rattle.std.proofs.lemmas.Option.{slice_get-get_or}
use Rattle.act1_device.specs.declared.device.Device.{Device}
use Rattle.act1_device.specs.declared.device.Line.{Line}
use Rattle.act1_device.specs.Sites.{column_of}
use Rattle.act1_circuit.specs.declared.circuit.Source.{Source}
use Rattle.act1_circuit.specs.declared.circuit.Source.TheVariants.{Zero, One, Clock, Input, Module}
use Rattle.act1_circuit.specs.declared.circuit.Spot.{Spot}
use Rattle.act1_plan.specs.declared.plan.Plan.{Plan}
use Rattle.act1_plan.specs.Legal.{Legal}
use Rattle.act1_base.specs.Lists.{numbers}
use Rattle.act1_groute.specs.Nets.{is_same_source, nets, source_line, out_line, lowest, highest, covers, is_needed, channels}
use Rattle.act1_groute.specs.Routes.{LongWire, long_line, Demand, Take, wire_of, demands, own, nearest, distance, all_longs, is_taken, candidates, home_of, least_candidate, is_served, with_candidate, take_for, and_on, take_all}
use Rattle.act1_base.proofs.Elements.{in_filter, filtered, any_of, some_of, in_map, mapped, in_flat, flattened, in_numbers, number_in, first_or_later, here, later, not_in_none}
use Rattle.act1_groute.proofs.LeastElements.{least_in}
use Rattle.act1_plan.proofs.SourceFacts.{same_source_is, source_is_itself}

-- the line covers what lies between its ends
pub covers_from : (dev : Device) (l : Line) (h : ℕ) → lowest dev l ≤ h → h ≤ highest dev l → covers dev l h ≡ true
covers_from dev l h low high = rw (le-leb (lowest dev l) h low, le-leb h (highest dev l) high) refl

pub covers_within : (dev : Device) (l : Line) (h : ℕ) → covers dev l h ≡ true → (lowest dev l ≤ h) × (h ≤ highest dev l)
covers_within dev l h e = let parts = and_parts (nat_le (lowest dev l) h) (nat_le h (highest dev l)) e in (leb-true (lowest dev l) h parts.0, leb-true h (highest dev l) parts.1)

-- a net is an input or a module of the circuit
abbrev pub IsNet : Plan → Source → Type 0
IsNet plan (Input i) = i < length plan.placed.circuit.inputs
IsNet plan (Module m) = m < length plan.placed.circuit.modules
IsNet plan source = ⊥

pub net_is : (plan : Plan) (net : Source) → Contains (nets plan) net → IsNet plan net
net_is plan net h = from (Contains-append_cases (map Input (numbers 0 (length plan.placed.circuit.inputs))) (map Module (numbers 0 (length plan.placed.circuit.modules))) net h)
  where
    input : (i : ℕ) × Contains (numbers 0 (length plan.placed.circuit.inputs)) i × (Input i ≡ net) → IsNet plan net
    input r = let low = (number_in 0 (length plan.placed.circuit.inputs) r.0 r.1).1 in let in_range : r.0 < length plan.placed.circuit.inputs = omega arith in subst (IsNet plan) r.2 in_range

    gate : (m : ℕ) × Contains (numbers 0 (length plan.placed.circuit.modules)) m × (Module m ≡ net) → IsNet plan net
    gate r = let low = (number_in 0 (length plan.placed.circuit.modules) r.0 r.1).1 in let in_range : r.0 < length plan.placed.circuit.modules = omega arith in subst (IsNet plan) r.2 in_range

    from : Contains (map Input (numbers 0 (length plan.placed.circuit.inputs))) net ⊎ Contains (map Module (numbers 0 (length plan.placed.circuit.modules))) net → IsNet plan net
    from (inl k) = input (mapped Input (numbers 0 (length plan.placed.circuit.inputs)) net k)
    from (inr k) = gate (mapped Module (numbers 0 (length plan.placed.circuit.modules)) net k)

pub is_net : (plan : Plan) (net : Source) → IsNet plan net → Contains (nets plan) net
is_net plan Zero h = absurd h
is_net plan One h = absurd h
is_net plan Clock h = absurd h
is_net plan (Input i) h =
    let low : 0 ≤ i = omega arith in
    let high : i < 0 + length plan.placed.circuit.inputs = omega arith in
    Contains-append_left (map Input (numbers 0 (length plan.placed.circuit.inputs))) (map Module (numbers 0 (length plan.placed.circuit.modules))) (Input i)
    (in_map Input (numbers 0 (length plan.placed.circuit.inputs)) i (in_numbers 0 (length plan.placed.circuit.inputs) i low high))
is_net plan (Module m) h =
    let low : 0 ≤ m = omega arith in
    let high : m < 0 + length plan.placed.circuit.modules = omega arith in
    Contains-append_right (map Input (numbers 0 (length plan.placed.circuit.inputs))) (map Module (numbers 0 (length plan.placed.circuit.modules))) (Module m)
    (in_map Module (numbers 0 (length plan.placed.circuit.modules)) m (in_numbers 0 (length plan.placed.circuit.modules) m low high))

-- a demand is a net's, in a channel that it needs
pub demand_is : (dev : Device) (plan : Plan) (d : Demand) → Contains (demands dev plan) d → IsNet plan d.net × Contains (channels dev) d.channel × (is_needed dev plan d.net d.channel ≡ true)
demand_is dev plan d h =
    let r = flattened (λ net. map (λ h. let d : Demand = record { net = net; channel = h } in d) (filter (is_needed dev plan net) (channels dev))) (nets plan) d h in
    let s = mapped (λ h. let d : Demand = record { net = r.0; channel = h } in d) (filter (is_needed dev plan r.0) (channels dev)) d r.2 in
    let t = filtered (is_needed dev plan r.0) (channels dev) s.0 s.1 in
    let net : r.0 ≡ d.net = ap (λ (d : Demand). d.net) s.2 in
    let channel : s.0 ≡ d.channel = ap (λ (d : Demand). d.channel) s.2 in
    (subst (IsNet plan) net (net_is plan r.0 r.1), subst (Contains (channels dev)) channel t.0, sym (ap (λ (n : Source). is_needed dev plan n d.channel) net) ∙ sym (ap (is_needed dev plan r.0) channel) ∙ t.1)

pub is_demand : (dev : Device) (plan : Plan) (net : Source) (h : ℕ) → IsNet plan net → Contains (channels dev) h → is_needed dev plan net h ≡ true → Contains (demands dev plan) (record { net = net; channel = h })
is_demand dev plan net h n c e =
    in_flat (λ net. map (λ h. let d : Demand = record { net = net; channel = h } in d) (filter (is_needed dev plan net) (channels dev))) (nets plan) net (record { net = net; channel = h }) (is_net plan net n)
    (in_map (λ h. let d : Demand = record { net = net; channel = h } in d) (filter (is_needed dev plan net) (channels dev)) h (in_filter (is_needed dev plan net) (channels dev) h c e))

-- the source covers the channel, or a long wire that the net has taken does
abbrev pub IsServed : Device → Plan → List Take → Demand → Type 0
IsServed dev plan takes d =
    (covers dev (source_line plan d.net) d.channel ≡ true) ⊎ ((take : Take) × Contains takes take × (take.net ≡ d.net) × (covers dev (wire_of take) d.channel ≡ true))

or_split : (a b : Bool) → (a || b) ≡ true → (a ≡ true) ⊎ (b ≡ true)
or_split true b e = inl refl
or_split false b e = inr e

or_right : (a b : Bool) → b ≡ true → (a || b) ≡ true
or_right true b e = refl
or_right false b e = e

pub served_is : (dev : Device) (plan : Plan) (takes : List Take) (d : Demand) → is_served dev plan takes d ≡ true → IsServed dev plan takes d
served_is dev plan takes d e = from (or_split (covers dev (source_line plan d.net) d.channel) (list_any (λ (take : Take). covers dev (wire_of take) d.channel) (own d.net takes)) e)
  where
    by_own : (take : Take) × Contains (own d.net takes) take × (covers dev (wire_of take) d.channel ≡ true) → IsServed dev plan takes d
    by_own r = let k = filtered (λ (take : Take). is_same_source take.net d.net) takes r.0 r.1 in inr (r.0, k.0, same_source_is r.0.net d.net k.1, r.2)

    from : (covers dev (source_line plan d.net) d.channel ≡ true) ⊎ (list_any (λ (take : Take). covers dev (wire_of take) d.channel) (own d.net takes) ≡ true) → IsServed dev plan takes d
    from (inl h) = inl h
    from (inr h) = by_own (some_of (λ (take : Take). covers dev (wire_of take) d.channel) (own d.net takes) h)

-- a taken wire is one of the net's own
pub is_own : (net : Source) (takes : List Take) (take : Take) → Contains takes take → take.net ≡ net → Contains (own net takes) take
is_own net takes take h e = in_filter (λ (take : Take). is_same_source take.net net) takes take h (ap (λ (n : Source). is_same_source n net) e ∙ source_is_itself net)

pub own_is : (net : Source) (takes : List Take) (take : Take) → Contains (own net takes) take → Contains takes take × (take.net ≡ net)
own_is net takes take h = let k = filtered (λ (take : Take). is_same_source take.net net) takes take h in (k.0, same_source_is take.net net k.1)

served_more : (dev : Device) (plan : Plan) (takes more : List Take) (d : Demand) → ((take : Take) → Contains takes take → Contains more take) → IsServed dev plan takes d → IsServed dev plan more d
served_more dev plan takes more d on (inl h) = inl h
served_more dev plan takes more d on (inr h) = inr (h.0, on h.0 h.1, h.2, h.3)

-- a taken wire is of the device, a net's, and joined to its source in its home
pub record IsTake (dev : Device) (plan : Plan) (take : Take) : Type 0 where
  pub net : IsNet plan take.net
  pub source : covers dev (source_line plan take.net) take.home ≡ true
  pub wire : covers dev (wire_of take) take.home ≡ true
  pub column : take.wire.column < dev.columns
  pub index : take.wire.index < length dev.longs

-- each long wire is taken once
pub record Routed (dev : Device) (plan : Plan) (takes : List Take) : Type 0 where
  pub each : (take : Take) → Contains takes take → IsTake dev plan take
  pub once : (a b : Take) → Contains takes a → Contains takes b → a.wire.column ≡ b.wire.column → a.wire.index ≡ b.wire.index → a ≡ b

pub none_routed : (dev : Device) (plan : Plan) → Routed dev plan []
none_routed dev plan = record { each = λ take h. not_in_none take h; once = λ a b h k c i. not_in_none a h }

-- a candidate is a wire of the device that isn't taken
pub record IsCandidate (dev : Device) (takes : List Take) (home channel : ℕ) (w : LongWire) : Type 0 where
  pub column : w.column < dev.columns
  pub index : w.index < length dev.longs
  pub free : is_taken takes w ≡ false
  pub covers_home : covers dev (long_line w) home ≡ true
  pub covers_channel : covers dev (long_line w) channel ≡ true

pub long_is : (dev : Device) (w : LongWire) → Contains (all_longs dev) w → (w.column < dev.columns) × (w.index < length dev.longs)
long_is dev w h =
    let r = flattened (λ column. map (λ index. let w : LongWire = record { column = column; index = index } in w) (numbers 0 (length dev.longs))) (numbers 0 dev.columns) w h in
    let s = mapped (λ index. let w : LongWire = record { column = r.0; index = index } in w) (numbers 0 (length dev.longs)) w r.2 in
    let columns = number_in 0 dev.columns r.0 r.1 in
    let indexes = number_in 0 (length dev.longs) s.0 s.1 in
    let column_in : r.0 < dev.columns = omega (arith, columns.1) in
    let index_in : s.0 < length dev.longs = omega (arith, indexes.1) in
    (subst (λ (c : ℕ). c < dev.columns) (ap (λ (t : LongWire). t.column) s.2) column_in, subst (λ (i : ℕ). i < length dev.longs) (ap (λ (t : LongWire). t.index) s.2) index_in)

candidate_is : (dev : Device) (takes : List Take) (home channel : ℕ) (w : LongWire) → Contains (candidates dev takes home channel) w → IsCandidate dev takes home channel w
candidate_is dev takes home channel w h =
    let k = filtered (λ w. not (is_taken takes w) && covers dev (long_line w) home && covers dev (long_line w) channel) (all_longs dev) w h in
    let two = and_parts (not (is_taken takes w) && covers dev (long_line w) home) (covers dev (long_line w) channel) k.1 in
    let one = and_parts (not (is_taken takes w)) (covers dev (long_line w) home) two.0 in
    let r = long_is dev w k.0 in
    record { column = r.0; index = r.1; free = not-true (is_taken takes w) one.0; covers_home = one.1; covers_channel = two.1 }

module _ (dev : Device) (plan : Plan) (legal : Legal dev plan) where
  pub spot_of : (m : ℕ) → m < length plan.placed.circuit.modules → (s : Spot) × (slice_get plan.placed.spots m ≡ Some s) × (source_line plan (Module m) ≡ out_line s) × (s.row < dev.rows) × (s.column < dev.columns)
  spot_of m h =
      let d : Spot = record { row = 0; column = 0 } in
      let within : m < length plan.placed.spots = omega (arith, legal.spots) in
      let s = get_or plan.placed.spots m d in
      let on = legal.on_device m d within in
      (s, slice_get-get_or plan.placed.spots m d within, refl, on.0, on.1)

  pub source_spans : (net : Source) → IsNet plan net → lowest dev (source_line plan net) ≤ highest dev (source_line plan net)
  source_spans Zero h = absurd h
  source_spans One h = absurd h
  source_spans Clock h = absurd h
  source_spans (Input i) h = omega arith
  source_spans (Module m) h = let s = spot_of m h in let low = s.3 in subst (λ (l : Line). lowest dev l ≤ highest dev l) (sym s.2) (omega arith)

  pub covers_nearest : (net : Source) (h : ℕ) → IsNet plan net → covers dev (source_line plan net) (nearest dev (source_line plan net) h) ≡ true
  covers_nearest net h n = from (nat_lt h (lowest dev (source_line plan net)))
    where
      from : (b : Bool) → covers dev (source_line plan net) (cond b (lowest dev (source_line plan net)) (highest dev (source_line plan net))) ≡ true
      from true = let some = source_spans net n in covers_from dev (source_line plan net) (lowest dev (source_line plan net)) (omega arith) some
      from false = let some = source_spans net n in covers_from dev (source_line plan net) (highest dev (source_line plan net)) some (omega arith)

  -- what one demand leaves
  pub record More (takes more : List Take) (d : Demand) : Type 0 where
    pub routed : Routed dev plan more
    pub served : IsServed dev plan more d
    pub kept : (take : Take) → Contains takes take → Contains more take

  ok_is : {A E : Type 0} (x y : A) → (let r : Result A E = Ok x in r) ≡ Ok y → x ≡ y
  ok_is x y e = cc

  err_is_not_ok : {A E B : Type 0} (x : E) (y : A) → (let r : Result A E = Err x in r) ≡ Ok y → B
  err_is_not_ok x y e = cc

  -- the take of a wire for a demand
  abbrev pub take_of : Demand → LongWire → Take
  take_of d w = record { net = d.net; wire = w; home = home_of dev plan d }

  pub with_wire : (takes : List Take) (d : Demand) (w : LongWire) → IsNet plan d.net → Routed dev plan takes → IsCandidate dev takes (home_of dev plan d) d.channel w → More takes (takes ++ take_of d w ∷ []) d
  with_wire takes d w n routed c = record {
    routed = record { each = λ take h. each take (Contains-push_cases takes wire take h); once = λ a b h k e i. once a b e i (Contains-push_cases takes wire a h) (Contains-push_cases takes wire b k) };
    served = inr (wire, Contains-push takes wire, refl, c.covers_channel);
    kept = λ take h. Contains-append_left takes (wire ∷ []) take h;
  }
    where
      wire : Take
      wire = take_of d w

      is_wire : IsTake dev plan (take_of d w)
      is_wire = record { net = n; source = covers_nearest d.net d.channel n; wire = c.covers_home; column = c.column; index = c.index }

      each : (take : Take) → Contains takes take ⊎ (take_of d w ≡ take) → IsTake dev plan take
      each take (inl h) = routed.each take h
      each take (inr e) = subst (IsTake dev plan) e is_wire

      free : {A : Type 0} (a : Take) → Contains takes a → a.wire.column ≡ w.column → a.wire.index ≡ w.index → A
      free a h e i =
          absurd (false≢true (sym c.free ∙ any_of (λ (take : Take). (take.wire.column == w.column) && (take.wire.index == w.index)) takes a h (rw (eq-eqb a.wire.column w.column e, eq-eqb a.wire.index w.index i) refl)))

      once : (a b : Take) → a.wire.column ≡ b.wire.column → a.wire.index ≡ b.wire.index → Contains takes a ⊎ (take_of d w ≡ a) → Contains takes b ⊎ (take_of d w ≡ b) → a ≡ b
      once a b e i (inl h) (inl k) = routed.once a b h k e i
      once a b e i (inl h) (inr k) = free a h (e ∙ sym (ap (λ (t : Take). t.wire.column) k)) (i ∙ sym (ap (λ (t : Take). t.wire.index) k))
      once a b e i (inr h) (inl k) = free b k (sym e ∙ sym (ap (λ (t : Take). t.wire.column) h)) (sym i ∙ sym (ap (λ (t : Take). t.wire.index) h))
      once a b e i (inr h) (inr k) = sym h ∙ k

  pub take_one : (takes more : List Take) (d : Demand) → IsNet plan d.net → Routed dev plan takes → take_for dev plan takes d ≡ Ok more → More takes more d
  take_one takes more d n routed e = from (is_served dev plan takes d) refl e
    where
      chosen : (o : Option LongWire) → least_candidate dev plan takes d ≡ o → with_candidate dev plan takes d o ≡ Ok more → More takes more d
      chosen None k r = err_is_not_ok d more r
      chosen (Some w) k r =
          let listed = least_in (λ (w : LongWire). distance w.column (column_of dev (source_line plan d.net))) (candidates dev takes (home_of dev plan d) d.channel) w k in
          subst (λ (t : List Take). More takes t d) (ok_is (takes ++ take_of d w ∷ []) more r)
          (with_wire takes d w n routed (candidate_is dev takes (home_of dev plan d) d.channel w listed))

      from : (b : Bool) → is_served dev plan takes d ≡ b → cond b (Ok takes) (with_candidate dev plan takes d (least_candidate dev plan takes d)) ≡ Ok more → More takes more d
      from true k r =
          let same = ok_is takes more r in
          subst (λ (t : List Take). More takes t d) same (record { routed = routed; served = served_is dev plan takes d k; kept = λ take h. h })
      from false k r = chosen (least_candidate dev plan takes d) refl r

  -- what all demands leave
  pub record AllServed (takes more : List Take) (ds : List Demand) : Type 0 where
    pub routed : Routed dev plan more
    pub served : (d : Demand) → Contains ds d → IsServed dev plan more d
    pub kept : (take : Take) → Contains takes take → Contains more take

  take_every : (ds : List Demand) (takes more : List Take) → ((d : Demand) → Contains ds d → IsNet plan d.net) → Routed dev plan takes → take_all dev plan takes ds ≡ Ok more → AllServed takes more ds
  take_every [] takes more n routed e = let same = ok_is takes more e in record {
    routed = subst (Routed dev plan) same routed;
    served = λ d h. not_in_none d h;
    kept = λ take h. subst (λ (t : List Take). Contains t take) same h;
  }
  take_every (d ∷ ds) takes more n routed e =
      from (λ t r k. take_every ds t more (λ c h. n c (later c d ds h)) r k) (take_for dev plan takes d) refl e
    where
      both : (t : List Take) → More takes t d → AllServed t more ds → AllServed takes more (d ∷ ds)
      both t one rest = record {
        routed = rest.routed;
        served = λ c h. each c (first_or_later c d ds h);
        kept = λ take h. rest.kept take (one.kept take h);
      }
        where
          each : (c : Demand) → (d ≡ c) ⊎ Contains ds c → IsServed dev plan more c
          each c (inl same) = subst (IsServed dev plan more) same (served_more dev plan t more d rest.kept one.served)
          each c (inr h) = rest.served c h

      from : ((t : List Take) → Routed dev plan t → take_all dev plan t ds ≡ Ok more → AllServed t more ds) → (r : Result (List Take) Demand) → take_for dev plan takes d ≡ r
          → and_on r (λ t. take_all dev plan t ds) ≡ Ok more → AllServed takes more (d ∷ ds)
      from rec (Err c) k q = err_is_not_ok c more q
      from rec (Ok t) k q = let one = take_one takes t d (n d (here d d ds refl)) routed k in both t one (rec t one.routed q)

  -- what the rule leaves where it doesn't fail
  pub all_served : (takes : List Take) → take_all dev plan [] (demands dev plan) ≡ Ok takes → AllServed [] takes (demands dev plan)
  all_served takes e = take_every (demands dev plan) [] takes (λ d h. (demand_is dev plan d h).0) (none_routed dev plan) e

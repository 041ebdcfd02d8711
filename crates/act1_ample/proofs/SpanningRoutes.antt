-- On a wide device each net takes at most one long wire that spans all channels, and one is left for each net.
use Rattle.std.proofs.Common.{ℕ, ◌≡◌, ◌≢◌, ◌⊎◌, ◌+◌, ◌<◌, ◌≤◌, ◌==◌, ◌&&◌, ◌||◌, not, Bool, true, false, List, [], ◌∷◌, ◌++◌, length, map, Option, Some, None, refl, sym, ap, subst, ◌∙◌, inl, inr, arith, Contains}
use Rattle.std.specs.Prelude.{find, Result, Ok}
use Rattle.std.specs.List.{list_any}
use Rattle.std.proofs.lemmas.Bool.{and_parts, eqb-true, false≢true}
use Rattle.std.proofs.lemmas.List.{length-map, length-append}
use Rattle.std.proofs.lemmas.List.Elements.{Contains-push_cases}
use Rattle.act1_device.specs.declared.device.Device.{Device}
use Rattle.act1_device.specs.Sites.{column_of}
use Rattle.act1_circuit.specs.declared.circuit.Source.{Source}
use Rattle.act1_circuit.specs.declared.circuit.Source.TheVariants.{Zero, One, Clock, Input, Module}
use Rattle.act1_plan.specs.declared.plan.Plan.{Plan}
use Rattle.act1_groute.specs.declared.wiring.Wiring.{Wiring}
use Rattle.act1_base.specs.Lists.{numbers}
use Rattle.act1_groute.specs.Lists.{least_by}
use Rattle.act1_plan.specs.Legal.{Legal}
use Rattle.act1_groute.specs.Nets.{nets, source_line, covers, channels}
use Rattle.act1_groute.specs.declared.net.LongWire.{LongWire}
use Rattle.act1_groute.specs.declared.net.Take.{Take}
use Rattle.act1_groute.specs.Routes.{long_line, Demand, wire_of, demands, own, distance, all_longs, is_taken, candidates, home_of, least_candidate, is_served, take_for, and_on, take_all, wirings, routes}
use Rattle.act1_base.proofs.Elements.{here, later, not_in_none, in_filter, filtered, any_of, finds, found, number_in}
use Rattle.act1_groute.proofs.LeastElements.{least_of_some}
use Rattle.act1_groute.proofs.RouteFacts.{IsNet, Routed, none_routed, is_own, take_of, take_one, demand_is, covers_from, covers_nearest}
use Rattle.act1_groute.proofs.InRange.{source_in_range}
use Rattle.act1_ample.specs.Ample.{IsWideFor}
use Rattle.act1_ample.specs.Laws.{RoutesExist}
use Rattle.act1_ample.proofs.SpanningWires.{spans, spanning, longs_differ, length_numbers, how_many_span, low_end, high_end}
use Rattle.act1_base.proofs.Distinct.{differ_filter, fewer_than}

-- nets by number
abbrev pub net_number : Plan → Source → ℕ
net_number plan (Input i) = i
net_number plan (Module m) = length plan.placed.circuit.inputs + m
net_number plan source = 0

net_number_one : (plan : Plan) (a b : Source) → IsNet plan a → IsNet plan b → net_number plan a ≡ net_number plan b → a ≡ b
net_number_one plan Zero b h k e = absurd h
net_number_one plan One b h k e = absurd h
net_number_one plan Clock b h k e = absurd h
net_number_one plan (Input i) Zero h k e = absurd k
net_number_one plan (Input i) One h k e = absurd k
net_number_one plan (Input i) Clock h k e = absurd k
net_number_one plan (Input i) (Input j) h k e = ap Input e
net_number_one plan (Input i) (Module m) h k e = absurd (omega (arith, e))
net_number_one plan (Module m) Zero h k e = absurd k
net_number_one plan (Module m) One h k e = absurd k
net_number_one plan (Module m) Clock h k e = absurd k
net_number_one plan (Module m) (Input i) h k e = absurd (omega (arith, e))
net_number_one plan (Module m) (Module n) h k e = let same : m ≡ n = omega (arith, e) in ap Module same

pub how_many_nets : (plan : Plan) → length (nets plan) ≡ length plan.placed.circuit.inputs + length plan.placed.circuit.modules
how_many_nets plan =
    let inputs = numbers 0 (length plan.placed.circuit.inputs) in
    let modules = numbers 0 (length plan.placed.circuit.modules) in
    omega (arith, length-append (map Input inputs) (map Module modules), length-map inputs Input, length-map modules Module, length_numbers 0 (length plan.placed.circuit.inputs), length_numbers 0 (length plan.placed.circuit.modules))

net_number_below : (plan : Plan) (net : Source) → IsNet plan net → net_number plan net < length (nets plan)
net_number_below plan Zero h = absurd h
net_number_below plan One h = absurd h
net_number_below plan Clock h = absurd h
net_number_below plan (Input i) h = omega (arith, how_many_nets plan)
net_number_below plan (Module m) h = omega (arith, how_many_nets plan)

module _ (dev : Device) (plan : Plan) (legal : Legal dev plan) (wide : IsWideFor dev (length (nets plan))) where
  -- a wire that spans all channels covers each
  spanning_covers : (w : LongWire) (h : ℕ) → spans dev w ≡ true → h ≤ dev.rows → covers dev (long_line w) h ≡ true
  spanning_covers w h e low =
      let bottom = low_end dev w e in
      let top = high_end dev w e in
      covers_from dev (long_line w) h (omega (arith, bottom)) (omega (arith, top, low))

  -- no net has taken two such wires
  abbrev OneEach : List Take → Type 0
  OneEach takes = (a b : Take) → Contains takes a → Contains takes b → spans dev a.wire ≡ true → spans dev b.wire ≡ true → a.net ≡ b.net → a ≡ b

  -- a net that has such a wire is served
  spanning_serves : {A : Type 0} (takes : List Take) (d : Demand) (a : Take) → d.channel ≤ dev.rows → is_served dev plan takes d ≡ false → Contains takes a → a.net ≡ d.net → spans dev a.wire ≡ true → A
  spanning_serves takes d a low e h n all_spanning =
      absurd (false≢true (sym e ∙ or_right (covers dev (source_line plan d.net) d.channel) (list_any (λ (take : Take). covers dev (wire_of take) d.channel) (own d.net takes))
      (any_of (λ (take : Take). covers dev (wire_of take) d.channel) (own d.net takes) a (is_own d.net takes a h n) (spanning_covers a.wire d.channel all_spanning low))))
    where
      or_right : (a b : Bool) → b ≡ true → (a || b) ≡ true
      or_right true b e = refl
      or_right false b e = e

  one_more : (takes : List Take) (d : Demand) (w : LongWire) → d.channel ≤ dev.rows → is_served dev plan takes d ≡ false → OneEach takes → OneEach (takes ++ take_of dev plan legal d w ∷ [])
  one_more takes d w low e one a b h k f g n = from (Contains-push_cases takes (take_of dev plan legal d w) a h) (Contains-push_cases takes (take_of dev plan legal d w) b k)
    where
      from : Contains takes a ⊎ (take_of dev plan legal d w ≡ a) → Contains takes b ⊎ (take_of dev plan legal d w ≡ b) → a ≡ b
      from (inl x) (inl y) = one a b x y f g n
      from (inl x) (inr y) = spanning_serves takes d a low e x (n ∙ sym (ap (λ (t : Take). t.net) y)) f
      from (inr x) (inl y) = spanning_serves takes d b low e y (sym n ∙ sym (ap (λ (t : Take). t.net) x)) g
      from (inr x) (inr y) = sym x ∙ y

  -- who took a wire
  abbrev number_of : Option Take → ℕ
  number_of None = 0
  number_of (Some take) = net_number plan take.net

  -- where there is no candidate, all such wires are taken, by other nets
  never_none : {A : Type 0} (takes : List Take) (d : Demand) → IsNet plan d.net → d.channel ≤ dev.rows → Routed dev plan takes → OneEach takes → is_served dev plan takes d ≡ false → least_candidate dev plan takes d ≡ None → A
  never_none {A} takes d n low routed one e none =
      absurd (let few = fewer_than number all_spanning (length (nets plan)) (net_number plan d.net) (differ_filter (spans dev) (all_longs dev) (longs_differ dev)) injective below (net_number_below plan d.net n) apart in
      let many = wide.longs in omega (arith, few, many, how_many_span dev))
    where
      all_spanning : List LongWire
      all_spanning = spanning dev

      number : LongWire → ℕ
      number w = number_of (find (λ (take : Take). (take.wire.column == w.column) && (take.wire.index == w.index)) takes)

      empty : candidates dev takes (home_of dev plan d) d.channel ≡ []
      empty = from (candidates dev takes (home_of dev plan d) d.channel) refl
        where
          from : (cs : List LongWire) → candidates dev takes (home_of dev plan d) d.channel ≡ cs → candidates dev takes (home_of dev plan d) d.channel ≡ []
          from [] k = k
          from (c ∷ cs) k =
              let f = λ (w : LongWire). distance w.column (column_of dev (source_line plan d.net)) in
              let some = least_of_some f c cs in
              let same : Some some.0 ≡ None = sym some.1 ∙ ap (least_by f) (sym k) ∙ none in
              cc

      home_low : home_of dev plan d ≤ dev.rows
      home_low = source_in_range dev plan legal d.net (home_of dev plan d) n (covers_nearest dev plan legal d.net d.channel n)

      taken : (w : LongWire) → Contains all_spanning w → is_taken takes w ≡ true
      taken w h = from (is_taken takes w) refl
        where
          from : (b : Bool) → is_taken takes w ≡ b → is_taken takes w ≡ true
          from true k = k
          from false k =
              let f = filtered (spans dev) (all_longs dev) w h in
              let passes : (not (is_taken takes w) && covers dev (long_line w) (home_of dev plan d) && covers dev (long_line w) d.channel) ≡ true =
              rw (k, spanning_covers w (home_of dev plan d) f.1 home_low, spanning_covers w d.channel f.1 low) refl in
              let listed = in_filter (λ w. not (is_taken takes w) && covers dev (long_line w) (home_of dev plan d) && covers dev (long_line w) d.channel) (all_longs dev) w f.0 passes in
              not_in_none w (subst (λ (ws : List LongWire). Contains ws w) empty listed)

      -- the one who took it
      taker : (w : LongWire) → Contains all_spanning w → (take : Take) × Contains takes take × (number w ≡ net_number plan take.net) × (take.wire ≡ w)
      taker w h =
          let test = λ (take : Take). (take.wire.column == w.column) && (take.wire.index == w.index) in
          let f = finds test takes (taken w h) in
          let g = found test takes f.0 f.1 in
          let parts = and_parts (f.0.wire.column == w.column) (f.0.wire.index == w.index) g.1 in
          (f.0, g.0, ap number_of f.1, wires f.0.wire w (eqb-true f.0.wire.column w.column parts.0) (eqb-true f.0.wire.index w.index parts.1))
        where
          wires : (a b : LongWire) → a.column ≡ b.column → a.index ≡ b.index → a ≡ b
          wires a b e i = λ j. record { column = e j; index = i j }

      injective : (v w : LongWire) → Contains all_spanning v → Contains all_spanning w → number v ≡ number w → v ≡ w
      injective v w h k e =
          let a = taker v h in
          let b = taker w k in
          let f = filtered (spans dev) (all_longs dev) v h in
          let g = filtered (spans dev) (all_longs dev) w k in
          let net = net_number_one plan a.0.net b.0.net (routed.each a.0 a.1).net (routed.each b.0 b.1).net (sym a.2 ∙ e ∙ b.2) in
          let same = one a.0 b.0 a.1 b.1 (ap (spans dev) a.3 ∙ f.1) (ap (spans dev) b.3 ∙ g.1) net in
          sym a.3 ∙ ap (λ (t : Take). t.wire) same ∙ b.3

      below : (w : LongWire) → Contains all_spanning w → number w < length (nets plan)
      below w h = let a = taker w h in subst (λ (k : ℕ). k < length (nets plan)) (sym a.2) (net_number_below plan a.0.net (routed.each a.0 a.1).net)

      apart : (w : LongWire) → Contains all_spanning w → number w ≢ net_number plan d.net
      apart w h k =
          let a = taker w h in
          let f = filtered (spans dev) (all_longs dev) w h in
          let net = net_number_one plan a.0.net d.net (routed.each a.0 a.1).net n (sym a.2 ∙ k) in
          spanning_serves takes d a.0 low e a.1 net (ap (spans dev) a.3 ∙ f.1)

  -- so each demand is met
  record Met (takes : List Take) (d : Demand) : Type 0 where
    more : List Take
    is : take_for dev plan takes d ≡ Ok more
    one : OneEach more

  met : (takes : List Take) (d : Demand) → IsNet plan d.net → d.channel ≤ dev.rows → Routed dev plan takes → OneEach takes → Met takes d
  met takes d n low routed one = from (is_served dev plan takes d) refl
    where
      chosen : is_served dev plan takes d ≡ false → (o : Option LongWire) → least_candidate dev plan takes d ≡ o → Met takes d
      chosen e None k = never_none takes d n low routed one e k
      chosen e (Some w) k = record {
        more = takes ++ take_of dev plan legal d w ∷ [];
        is = rw (e, k) refl;
        one = one_more takes d w low e one;
      }

      from : (b : Bool) → is_served dev plan takes d ≡ b → Met takes d
      from true e = record { more = takes; is = rw e refl; one = one }
      from false e = chosen e (least_candidate dev plan takes d) refl

  all_met : (ds : List Demand) (takes : List Take) → ((d : Demand) → Contains ds d → IsNet plan d.net × (d.channel ≤ dev.rows)) → Routed dev plan takes → OneEach takes → (more : List Take) × (take_all dev plan takes ds ≡ Ok more)
  all_met [] takes n routed one = (takes, refl)
  all_met (d ∷ ds) takes n routed one =
      let here_is = n d (here d d ds refl) in
      let m = met takes d here_is.0 here_is.1 routed one in
      let kept = take_one dev plan legal takes m.more d here_is.0 routed m.is in
      let rest = all_met ds m.more (λ c h. n c (later c d ds h)) kept.routed m.one in
      (rest.0, ap (λ (r : Result (List Take) Demand). and_on r (λ t. take_all dev plan t ds)) m.is ∙ rest.1)

  pub wide_routes : (chans : List (List Wiring)) × (routes dev plan ≡ Ok chans)
  wide_routes =
      let r = all_met (demands dev plan) [] (λ d h. let k = demand_is dev plan d h in let c = number_in 0 (dev.rows + 1) d.channel k.1 in let high = c.1 in (k.0, omega arith)) (none_routed dev plan) (λ a b h k f g n. not_in_none a h) in
      (map (wirings dev plan r.0) (channels dev), ap (λ (t : Result (List Take) Demand). and_on t (λ takes. Ok (map (wirings dev plan takes) (channels dev)))) r.1)

pub routes_are_there : RoutesExist
routes_are_there dev plan legal wide = wide_routes dev plan legal wide

-- The plan of a circuit that may be planned is legal.
use Rattle.std.proofs.Common.{ℕ, ◌≡◌, ◌≢◌, ◌⊎◌, ◌<◌, ◌≤◌, List, ◌++◌, length, map, Option, Some, None, sym, ap, subst, ◌∙◌, inl, inr, arith, slice_get, get_or, Contains, All, AllPairs, IsTrue, IfSome}
use Rattle.std.proofs.lemmas.List.{get_or-map, length-map}
use Rattle.std.proofs.lemmas.List.Elements.{All-contains, Contains-append_left, Contains-append_right, Contains-append_cases}
use Rattle.std.proofs.lemmas.Option.{get_or_from_slice_get, slice_get-get_or}
use Rattle.act1_base.specs.Names.{is_name}
use Rattle.act1_base.proofs.ListGets.{get_in, some_is}
use Rattle.act1_device.specs.declared.device.Device.{Device}
use Rattle.act1_circuit.specs.declared.circuit.Circuit.{Circuit}
use Rattle.act1_circuit.specs.declared.circuit.Output.{Output}
use Rattle.act1_circuit.specs.declared.circuit.Source.{Source}
use Rattle.act1_circuit.specs.declared.circuit.Source.TheVariants.{Zero, One, Clock, Input, Module}
use Rattle.act1_circuit.specs.declared.circuit.Spot.{Spot}
use Rattle.act1_circuit.specs.declared.circuit.Start.{Start}
use Rattle.act1_plan.specs.declared.plan.Plan.{Plan}
use Rattle.act1_plan.specs.Legal.{HasNames, IsOnDevice, output_names, start_names}
use Rattle.act1_plan.specs.Order.{named, site_number}
use Rattle.act1_base.proofs.Elements.{in_map, mapped}
use Rattle.act1_planned.specs.Laws.{PlansAreLegal}
use Rattle.act1_planned.specs.Placed.{IsPlacedAt, MayBePlanned}
use Rattle.act1_planned.proofs.Numbered.{IsNumbered, all_outputs, all_starts, in_range, numbered, output_names_kept, outputs_count, pair_starts, rising, start_back}
use Rattle.act1_planned.proofs.Pairs.{all_of, pairs_across, pairs_append, pairs_back, pairs_front, pairs_map}

abbrev name_of_start : Start → List ℕ
name_of_start s = s.name

module _ (number : ℕ → ℕ) (c d : Circuit) (is : IsNumbered number c d) (dev : Device) (spots : List Spot) (k : ℕ) (may : MayBePlanned dev c spots k) where
  abbrev Differ : List ℕ → List ℕ → Type 0
  Differ a b = a ≢ b

  abbrev others : List (List ℕ)
  others = c.inputs ++ output_names c

  -- the names of inputs and outputs are the same
  fronts : d.inputs ++ output_names d ≡ others
  fronts = λ i. is.inputs i ++ output_names_kept number c d may.range is i

  -- the names of the latches are the same, in another order
  latch_back : (name : List ℕ) → Contains (start_names d) name → Contains (start_names c) name
  latch_back name h =
      let s = mapped name_of_start d.starts name h in
      let t = start_back number c d may.range is s.0 s.1 in
      subst (λ (n : List ℕ). Contains (start_names c) n) (ap name_of_start t.2 ∙ s.2) (in_map name_of_start c.starts t.0 t.1)

  -- a name of the one circuit is one of the other
  name_back : (name : List ℕ) → Contains (d.inputs ++ output_names d ++ start_names d) name → Contains (others ++ start_names c) name
  name_back name h = by (Contains-append_cases others (start_names d) name (subst (λ (ns : List (List ℕ)). Contains (ns ++ start_names d) name) fronts h))
    where
      by : Contains others name ⊎ Contains (start_names d) name → Contains (others ++ start_names c) name
      by (inl i) = Contains-append_left others (start_names c) name i
      by (inr i) = Contains-append_right others (start_names c) name (latch_back name i)

  -- what holds of each name
  all_names : (P : List ℕ → Type 0) → All P (others ++ start_names c) → All P (d.inputs ++ output_names d ++ start_names d)
  all_names P h = all_of P (d.inputs ++ output_names d ++ start_names d) (λ name i. All-contains P (others ++ start_names c) name h (name_back name i))

  abbrev OtherName : Start → Start → Type 0
  OtherName s t = s.name ≢ t.name

  latches_differ : AllPairs Differ (start_names d)
  latches_differ =
      pairs_map OtherName Differ name_of_start d.starts (λ s t i j h. h)
      (pair_starts number c d may.range is OtherName OtherName (λ s t h e. h (sym e)) (λ s t low high h. h)
      (pairs_unmap c.starts (pairs_back Differ c.inputs (start_names c) may.named.names.inputs)))
    where
      pairs_unmap : (ss : List Start) → AllPairs Differ (map name_of_start ss) → AllPairs (λ (s t : Start). s.name ≢ t.name) ss
      pairs_unmap ss h i j x less low e = h i j x.name less (omega (arith, low, length-map ss name_of_start)) (get_or-map name_of_start ss i x x.name (omega (arith, less, low)) ∙ e ∙ sym (get_or-map name_of_start ss j x x.name low))

  clock_apart : (clock : Option (List ℕ)) → IfSome clock (λ name. IsTrue (is_name name) × All (λ other. other ≢ name) (others ++ start_names c))
      → IfSome clock (λ name. IsTrue (is_name name) × All (λ other. other ≢ name) (d.inputs ++ output_names d ++ start_names d))
  clock_apart (Some name) h = (h.0, all_names (λ other. other ≢ name) h.1)
  clock_apart None h = h

  has_names : HasNames d
  has_names = record {
    each = all_names (λ name. IsTrue (is_name name)) may.named.names.each;
    inputs = subst (λ (ns : List (List ℕ)). AllPairs Differ (ns ++ start_names d)) (sym is.inputs)
        (pairs_append Differ c.inputs (start_names d) (pairs_front Differ c.inputs (start_names c) may.named.names.inputs) latches_differ
        (λ a b i j. pairs_across Differ c.inputs (start_names c) may.named.names.inputs a b i (latch_back b j)));
    outputs = subst (λ (ns : List (List ℕ)). AllPairs Differ ns) (sym (output_names_kept number c d may.range is)) may.named.names.outputs;
    clock = subst (λ (clock : Option (List ℕ)). IfSome clock (λ name. IsTrue (is_name name) × All (λ other. other ≢ name) (d.inputs ++ output_names d ++ start_names d))) (sym is.clock) (clock_apart c.clock may.named.names.clock);
  }

  no_clock : (s : Source) → s ≢ Clock → named number s ≢ Clock
  no_clock Zero h e = h e
  no_clock One h e = h e
  no_clock Clock h e = h e
  no_clock (Input i) h e = h e
  no_clock (Module m) h e = cc

-- spots of the device stay so
spots_on : (dev : Device) (c : Circuit) (spots : List Spot) (plan : Plan) → All (IsOnDevice dev) spots → IsPlacedAt c spots plan.placed → All (IsOnDevice dev) plan.placed.spots
spots_on dev c spots plan on placed n x low = at (get_or plan.placed.spots n x) (slice_get-get_or plan.placed.spots n x low)
  where
    at : (s : Spot) → slice_get plan.placed.spots n ≡ Some s → IsOnDevice dev s
    at s e =
        let m = (numbered c spots plan.placed placed).each n (omega (arith, low, placed.order.count, placed.each)) in
        let inside : m.0 < length spots = omega (arith, m.1, placed.each) in
        let t = get_in spots m.0 inside in
        let same : t.0 ≡ s = some_is t.0 s (sym (placed.order.spots_are m.0 t.0 t.1) ∙ ap (slice_get plan.placed.spots) m.2 ∙ e) in
        subst (IsOnDevice dev) (get_or_from_slice_get spots m.0 t.0 t.0 t.1 ∙ same) (on m.0 t.0 inside)

pub legal_plans : PlansAreLegal
legal_plans dev c spots k plan may of =
    let placed : IsPlacedAt c spots plan.placed = record { each = may.each; apart = may.sites.apart; order = of.order } in
    let number = site_number spots in
    let d = plan.placed.circuit in
    let is = numbered c spots plan.placed placed in
    record {
      device = of.device;
      low = omega (arith, of.k_is, may.low);
      high = omega (arith, of.k_is, may.high);
      spots = of.order.count ∙ may.each ∙ sym of.order.modules_count;
      on_device = spots_on dev c spots plan may.sites.on_device placed;
      rise = of.order.rise;
      range = in_range number c d may.range is;
      inits = all_starts number c d may.range is (λ (s : Start). s.init ≤ 3) (λ t h. All-contains (λ (s : Start). s.init ≤ 3) c.starts t may.named.inits h);
      starts_rise = rising number c d may.range is may.named.starts;
      outputs = all_outputs number c d may.range is (λ (o : Output). o.source ≢ Clock) (λ i x low. no_clock number c d is dev spots k may (get_or c.outputs i x).source (may.outputs i x low));
      names = has_names number c d is dev spots k may;
      pads = omega (arith, ap length is.inputs, outputs_count number c d may.range is, may.pads);
    }

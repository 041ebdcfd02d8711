-- Another numbering of the modules keeps the sum of half perimeters.
use Rattle.std.proofs.Common.{ℕ, suc, ◌≡◌, ◌⊎◌, ◌+◌, ◌<◌, List, [], ◌∷◌, ◌++◌, length, map, Option, Some, refl, sym, ap, subst, ◌∙◌, inl, inr, arith, slice_get, Contains, All}
use Rattle.std.specs.Prelude.{filter, sum_by}
use Rattle.std.proofs.lemmas.List.{length-map, length-append}
use Rattle.std.proofs.lemmas.List.Sums.{sum_by-cons, sum_by-append}
use Rattle.std.proofs.lemmas.List.Elements.{Contains-append_left, Contains-append_right, Contains-append_cases as append_cases, All-contains, All-tail, All-head}
use Rattle.std.proofs.lemmas.Option.{get_or_from_slice_get}
use Rattle.act1_base.proofs.ListGets.{some_is, get_within, get_in, get_map, get_mapped}
use Rattle.act1_device.specs.declared.device.Device.{Device}
use Rattle.act1_circuit.specs.declared.circuit.Circuit.{Circuit}
use Rattle.act1_circuit.specs.declared.circuit.Output.{Output}
use Rattle.act1_circuit.specs.declared.circuit.Source.{Source}
use Rattle.act1_circuit.specs.declared.circuit.Source.TheVariants.{Zero, One, Clock, Input, Module}
use Rattle.act1_circuit.specs.declared.circuit.Spot.{Spot}
use Rattle.act1_circuit.specs.Range.{HasSource, InRange}
use Rattle.act1_base.specs.Lists.{numbers}
use Rattle.act1_plan.specs.Nets.{is_same_source}
use Rattle.act1_plan.specs.Order.{named, site_number, renumbered_output}
use Rattle.act1_place.specs.declared.net.Place.{Place}
use Rattle.act1_place.specs.Passes.{moved, exchange}
use Rattle.act1_place.specs.Perimeter.{place_of, pad_place, End, pin_ends, output_ends, all_ends, nets_of, own_place, places_of, half_perimeter, total}
use Rattle.act1_base.proofs.Distinct.{Differ, differ_numbers}
use Rattle.act1_base.proofs.Elements.{here, later, first_or_later, not_in_none, in_filter, filtered, in_map, mapped, in_numbers, number_in}
use Rattle.act1_place.proofs.KeptSums.{perimeter_among, sum_agree, sum_map, pin_end_is, is_pin_end}
use Rattle.act1_plan.proofs.SourceFacts.{same_source_is, source_is_itself}
use Rattle.act1_place.proofs.Starts.{placements_settle_law}
use Rattle.act1_planned.specs.Laws.{OrderKeepsSums, PlacedIsStable}
use Rattle.act1_planned.proofs.Numbered.{IsNumbered, fits, numbered}

differ_map : {X Y : Type 0} (f : X → Y) (xs : List X) → ((a b : X) → Contains xs a → Contains xs b → f a ≡ f b → a ≡ b) → Differ xs → Differ (map f xs)
differ_map f [] one h = tt
differ_map {X} f (x ∷ xs) one h =
    (λ k. let r = mapped f xs (f x) k in h.0 (subst (λ (y : X). Contains xs y) (one r.0 x (later r.0 x xs r.1) (here x x xs refl) r.2) r.1), differ_map f xs (λ a b k l e. one a b (later a x xs k) (later b x xs l) e) h.1)

-- a list cut at an element
record IsCut (xs : List ℕ) (x : ℕ) : Type 0 where
  front : List ℕ
  back : List ℕ
  is : xs ≡ front ++ x ∷ back

cut : (xs : List ℕ) (x : ℕ) → Contains xs x → IsCut xs x
cut [] x h = not_in_none x h
cut (y ∷ xs) x h = from (λ k. cut xs x k) (first_or_later x y xs h)
  where
    more : IsCut xs x → IsCut (y ∷ xs) x
    more r = record { front = y ∷ r.front; back = r.back; is = ap (λ (l : List ℕ). y ∷ l) r.is }

    from : (Contains xs x → IsCut xs x) → (y ≡ x) ⊎ Contains xs x → IsCut (y ∷ xs) x
    from rec (inl e) = record { front = []; back = xs; is = ap (λ (z : ℕ). z ∷ xs) e }
    from rec (inr k) = more (rec k)

-- different numbers, as many as another list that has them all: the same sum
same_sum : (f : ℕ → ℕ) (xs ys : List ℕ) → Differ xs → ((x : ℕ) → Contains xs x → Contains ys x) → length xs ≡ length ys → sum_by f xs ≡ sum_by f ys
same_sum f [] [] d h e = refl
same_sum f [] (y ∷ ys) d h e = absurd (omega (arith, e))
same_sum f (x ∷ xs) ys d h e =
    let c = cut ys x (h x (here x x xs refl)) in
    let count : length ys ≡ length c.front + suc (length c.back) = ap length c.is ∙ length-append c.front (x ∷ c.back) in
    let rest_count : length xs ≡ length (c.front ++ c.back) = omega (arith, e, count, length-append c.front c.back) in
    let rest = same_sum f xs (c.front ++ c.back) d.1 (λ y k. there c y k (d.0) (subst (λ (l : List ℕ). Contains l y) c.is (h y (later y x xs k)))) rest_count in
    omega (arith, rest, sum_by-cons f x xs, ap (sum_by f) c.is, sum_by-append f c.front (x ∷ c.back), sum_by-cons f x c.back, sum_by-append f c.front c.back)
  where
    there : (c : IsCut ys x) (y : ℕ) → Contains xs y → (Contains xs x → ⊥) → Contains (c.front ++ x ∷ c.back) y → Contains (c.front ++ c.back) y
    there c y k other m = from (append_cases c.front (x ∷ c.back) y m)
      where
        behind : (x ≡ y) ⊎ Contains c.back y → Contains (c.front ++ c.back) y
        behind (inl same) = absurd (other (subst (λ (z : ℕ). Contains xs z) (sym same) k))
        behind (inr m) = Contains-append_right c.front c.back y m

        from : Contains c.front y ⊎ Contains (x ∷ c.back) y → Contains (c.front ++ c.back) y
        from (inl m) = Contains-append_left c.front c.back y m
        from (inr m) = behind (first_or_later y x c.back m)

-- the second circuit is the first with other numbers of its modules, at the same spots
record AreSameSpots (number : ℕ → ℕ) (c : Circuit) (spots others : List Spot) : Type 0 where
  one_each : length spots ≡ length c.modules
  same_count : length others ≡ length spots
  spots_are : (m : ℕ) (s : Spot) → slice_get spots m ≡ Some s → slice_get others (number m) ≡ Some s

module _ (dev : Device) (number : ℕ → ℕ) (c d : Circuit) (range : InRange c) (is : IsNumbered number c d) (spots others : List Spot) (at : AreSameSpots number c spots others) where
  modules_below : (m : ℕ) → Contains (numbers 0 (length c.modules)) m → m < length c.modules
  modules_below m h = let r = number_in 0 (length c.modules) m h in let high = r.1 in omega arith

  named_once : (a b : Source) → HasSource c a → HasSource c b → named number a ≡ named number b → a ≡ b
  named_once Zero Zero h k e = refl
  named_once One One h k e = refl
  named_once Clock Clock h k e = refl
  named_once (Input i) (Input j) h k e = e
  named_once (Module m) (Module n) h k e = let same : number m ≡ number n = cc in ap Module (is.once m n h k same)
  named_once Zero One h k e = e
  named_once Zero Clock h k e = e
  named_once Zero (Input j) h k e = e
  named_once Zero (Module n) h k e = cc
  named_once One Zero h k e = e
  named_once One Clock h k e = e
  named_once One (Input j) h k e = e
  named_once One (Module n) h k e = cc
  named_once Clock Zero h k e = e
  named_once Clock One h k e = e
  named_once Clock (Input j) h k e = e
  named_once Clock (Module n) h k e = cc
  named_once (Input i) Zero h k e = e
  named_once (Input i) One h k e = e
  named_once (Input i) Clock h k e = e
  named_once (Input i) (Module n) h k e = cc
  named_once (Module m) Zero h k e = cc
  named_once (Module m) One h k e = cc
  named_once (Module m) Clock h k e = cc
  named_once (Module m) (Input j) h k e = cc

  -- sources of the circuit's pins are its own
  pin_source : (m : ℕ) (sources : List Source) (s : Source) → slice_get c.modules m ≡ Some sources → Contains sources s → HasSource c s
  pin_source m sources s e h = All-contains (HasSource c) sources s (fits number c d range is m sources e).1 h

  -- an end of the one circuit is one of the other
  pin_on : (e : End) → Contains (pin_ends spots c.modules) e → Contains (pin_ends others d.modules) (record { source = named number e.source; place = e.place })
  pin_on e h =
      let r = pin_end_is spots c.modules e h in
      subst (λ (p : Place). Contains (pin_ends others d.modules) (record { source = named number e.source; place = p })) (sym r.place)
      (is_pin_end others d.modules (number r.at) r.spot (map (named number) r.sources) (named number e.source) (at.spots_are r.at r.spot r.spot_is) (is.modules r.at r.sources r.is) (in_map (named number) r.sources e.source r.uses))

  -- an end of the other comes from one of this
  record CameFrom (ends : List End) (e : End) : Type 0 where
    source : Source
    has : HasSource c source
    named_is : named number source ≡ e.source
    listed : Contains ends (record { source = source; place = e.place })

  pin_back : (e : End) → Contains (pin_ends others d.modules) e → CameFrom (pin_ends spots c.modules) e
  pin_back e h =
      let r = pin_end_is others d.modules e h in
      let low : r.at < length c.modules = omega (arith, get_within d.modules r.at r.sources r.is, is.count) in
      let n = is.each r.at low in
      let sources = get_in c.modules n.0 n.1 in
      let low_spot : n.0 < length spots = omega (arith, n.1, at.one_each) in
      let spot = get_in spots n.0 low_spot in
      let those : map (named number) sources.0 ≡ r.sources = some_is (map (named number) sources.0) r.sources (sym (is.modules n.0 sources.0 sources.1) ∙ ap (slice_get d.modules) n.2 ∙ r.is) in
      let there : spot.0 ≡ r.spot = some_is spot.0 r.spot (sym (at.spots_are n.0 spot.0 spot.1) ∙ ap (slice_get others) n.2 ∙ r.spot_is) in
      let s = mapped (named number) sources.0 e.source (subst (λ (ss : List Source). Contains ss e.source) (sym those) r.uses) in
      record {
        source = s.0;
        has = pin_source n.0 sources.0 s.0 sources.1 s.1;
        named_is = s.2;
        listed = subst (λ (p : Place). Contains (pin_ends spots c.modules) (record { source = s.0; place = p })) (ap place_of there ∙ sym r.place) (is_pin_end spots c.modules n.0 spot.0 sources.0 s.0 spot.1 sources.1 s.1);
      }

  -- outputs
  outputs_named : (pad : ℕ) (os ps : List Output) → map (λ (o : Output). o.source) ps ≡ map (λ (o : Output). named number o.source) os
      → output_ends dev pad ps ≡ map (λ (e : End). let f : End = record { source = named number e.source; place = e.place } in f) (output_ends dev pad os)
  outputs_named pad [] [] e = refl
  outputs_named pad [] (p ∷ ps) e = cc
  outputs_named pad (o ∷ os) [] e = cc
  outputs_named pad (o ∷ os) (p ∷ ps) e =
      let first : p.source ≡ named number o.source = cc in
      let rest : map (λ (o : Output). o.source) ps ≡ map (λ (o : Output). named number o.source) os = cc in
      ap (λ (s : Source). let f : End = record { source = s; place = pad_place dev pad } in f ∷ output_ends dev (pad + 1) ps) first
      ∙ ap (λ (es : List End). let f : End = record { source = named number o.source; place = pad_place dev pad } in f ∷ es) (outputs_named (pad + 1) os ps rest)

  output_source : (pad : ℕ) (os : List Output) (e : End) → All (λ (o : Output). HasSource c o.source) os → Contains (output_ends dev pad os) e → HasSource c e.source
  output_source pad [] e all h = not_in_none e h
  output_source pad (o ∷ os) e all h = from (λ k. output_source (pad + 1) os e (All-tail (λ (o : Output). HasSource c o.source) o os all) k) (first_or_later e (record { source = o.source; place = pad_place dev pad }) (output_ends dev (pad + 1) os) h)
    where
      from : (Contains (output_ends dev (pad + 1) os) e → HasSource c e.source) → ((let f : End = record { source = o.source; place = pad_place dev pad } in f) ≡ e) ⊎ Contains (output_ends dev (pad + 1) os) e → HasSource c e.source
      from rec (inl same) = subst (HasSource c) (ap (λ (e : End). e.source) same) (All-head (λ (o : Output). HasSource c o.source) o os all)
      from rec (inr k) = rec k

  sources_named : (os : List Output) → map (λ (o : Output). o.source) (map (renumbered_output number) os) ≡ map (λ (o : Output). named number o.source) os
  sources_named [] = refl
  sources_named (o ∷ os) = ap (λ (ss : List Source). named number o.source ∷ ss) (sources_named os)

  same_outputs : output_ends dev (length d.inputs) d.outputs ≡ map (λ (e : End). let f : End = record { source = named number e.source; place = e.place } in f) (output_ends dev (length c.inputs) c.outputs)
  same_outputs = ap (λ (n : ℕ). output_ends dev n d.outputs) (ap length is.inputs) ∙ outputs_named (length c.inputs) c.outputs d.outputs (ap (map (λ (o : Output). o.source)) is.outputs ∙ sources_named c.outputs)

  end_on : (e : End) → Contains (all_ends dev c spots) e → Contains (all_ends dev d others) (record { source = named number e.source; place = e.place })
  end_on e h = from (append_cases (pin_ends spots c.modules) (output_ends dev (length c.inputs) c.outputs) e h)
    where
      from : Contains (pin_ends spots c.modules) e ⊎ Contains (output_ends dev (length c.inputs) c.outputs) e → Contains (all_ends dev d others) (record { source = named number e.source; place = e.place })
      from (inl k) = Contains-append_left (pin_ends others d.modules) (output_ends dev (length d.inputs) d.outputs) (record { source = named number e.source; place = e.place }) (pin_on e k)
      from (inr k) =
          Contains-append_right (pin_ends others d.modules) (output_ends dev (length d.inputs) d.outputs) (record { source = named number e.source; place = e.place })
          (subst (λ (es : List End). Contains es (record { source = named number e.source; place = e.place })) (sym same_outputs)
          (in_map (λ (e : End). let f : End = record { source = named number e.source; place = e.place } in f) (output_ends dev (length c.inputs) c.outputs) e k))

  end_back : (e : End) → Contains (all_ends dev d others) e → CameFrom (all_ends dev c spots) e
  end_back e h = from (append_cases (pin_ends others d.modules) (output_ends dev (length d.inputs) d.outputs) e h)
    where
      pins : CameFrom (pin_ends spots c.modules) e → CameFrom (all_ends dev c spots) e
      pins r = record { source = r.source; has = r.has; named_is = r.named_is; listed = Contains-append_left (pin_ends spots c.modules) (output_ends dev (length c.inputs) c.outputs) (record { source = r.source; place = e.place }) r.listed }

      outs : (x : End) × Contains (output_ends dev (length c.inputs) c.outputs) x × ((let f : End = record { source = named number x.source; place = x.place } in f) ≡ e) → CameFrom (all_ends dev c spots) e
      outs r = record {
        source = r.0.source;
        has = output_source (length c.inputs) c.outputs r.0 range.outputs r.1;
        named_is = ap (λ (e : End). e.source) r.2;
        listed = Contains-append_right (pin_ends spots c.modules) (output_ends dev (length c.inputs) c.outputs) (record { source = r.0.source; place = e.place })
            (subst (λ (p : Place). Contains (output_ends dev (length c.inputs) c.outputs) (record { source = r.0.source; place = p })) (ap (λ (e : End). e.place) r.2) r.1);
      }

      from : Contains (pin_ends others d.modules) e ⊎ Contains (output_ends dev (length d.inputs) d.outputs) e → CameFrom (all_ends dev c spots) e
      from (inl k) = pins (pin_back e k)
      from (inr k) = outs (mapped (λ (e : End). let f : End = record { source = named number e.source; place = e.place } in f) (output_ends dev (length c.inputs) c.outputs) e (subst (λ (es : List End). Contains es e) same_outputs k))

  -- a net has the same places
  same_own : (net : Source) → HasSource c net → own_place dev others (named number net) ≡ own_place dev spots net
  same_own Zero h = refl
  same_own One h = refl
  same_own Clock h = refl
  same_own (Input i) h = refl
  same_own (Module m) h =
      let low : m < length spots = omega (arith, at.one_each) in
      let s = get_in spots m low in
      let origin : Spot = record { row = 0; column = 0 } in
      ap place_of (get_or_from_slice_get others (number m) s.0 origin (at.spots_are m s.0 s.1) ∙ sym (get_or_from_slice_get spots m s.0 origin s.1))

  places_on : (net : Source) → HasSource c net → (p : Place) → Contains (places_of dev c spots net) p → Contains (places_of dev d others (named number net)) p
  places_on net n p h = from (first_or_later p (own_place dev spots net) (map (λ (e : End). e.place) (filter (λ (e : End). is_same_source e.source net) (all_ends dev c spots))) h)
    where
      by_end : (e : End) × Contains (filter (λ (e : End). is_same_source e.source net) (all_ends dev c spots)) e × (e.place ≡ p) → Contains (places_of dev d others (named number net)) p
      by_end r =
          let f = filtered (λ (e : End). is_same_source e.source net) (all_ends dev c spots) r.0 r.1 in
          let source = same_source_is r.0.source net f.1 in
          let e : End = record { source = named number r.0.source; place = r.0.place } in
          later p (own_place dev others (named number net)) (map (λ (e : End). e.place) (filter (λ (e : End). is_same_source e.source (named number net)) (all_ends dev d others)))
          (subst (λ (p : Place). Contains (map (λ (e : End). e.place) (filter (λ (e : End). is_same_source e.source (named number net)) (all_ends dev d others))) p) r.2
          (in_map (λ (e : End). e.place) (filter (λ (e : End). is_same_source e.source (named number net)) (all_ends dev d others)) e
          (in_filter (λ (e : End). is_same_source e.source (named number net)) (all_ends dev d others) e (end_on r.0 f.0) (ap (λ (s : Source). is_same_source (named number s) (named number net)) source ∙ source_is_itself (named number net)))))

      from : (own_place dev spots net ≡ p) ⊎ Contains (map (λ (e : End). e.place) (filter (λ (e : End). is_same_source e.source net) (all_ends dev c spots))) p → Contains (places_of dev d others (named number net)) p
      from (inl e) = here p (own_place dev others (named number net)) (map (λ (e : End). e.place) (filter (λ (e : End). is_same_source e.source (named number net)) (all_ends dev d others))) (same_own net n ∙ e)
      from (inr k) = by_end (mapped (λ (e : End). e.place) (filter (λ (e : End). is_same_source e.source net) (all_ends dev c spots)) p k)

  places_back : (net : Source) → HasSource c net → (p : Place) → Contains (places_of dev d others (named number net)) p → Contains (places_of dev c spots net) p
  places_back net n p h = from (first_or_later p (own_place dev others (named number net)) (map (λ (e : End). e.place) (filter (λ (e : End). is_same_source e.source (named number net)) (all_ends dev d others))) h)
    where
      came : (e : End) → e.source ≡ named number net → e.place ≡ p → CameFrom (all_ends dev c spots) e → Contains (places_of dev c spots net) p
      came e source at r =
          let same = named_once r.source net r.has n (r.named_is ∙ source) in
          let x : End = record { source = r.source; place = e.place } in
          later p (own_place dev spots net) (map (λ (e : End). e.place) (filter (λ (e : End). is_same_source e.source net) (all_ends dev c spots)))
          (subst (λ (p : Place). Contains (map (λ (e : End). e.place) (filter (λ (e : End). is_same_source e.source net) (all_ends dev c spots))) p) at
          (in_map (λ (e : End). e.place) (filter (λ (e : End). is_same_source e.source net) (all_ends dev c spots)) x
          (in_filter (λ (e : End). is_same_source e.source net) (all_ends dev c spots) x r.listed (ap (λ (s : Source). is_same_source s net) same ∙ source_is_itself net))))

      by_end : (e : End) × Contains (filter (λ (e : End). is_same_source e.source (named number net)) (all_ends dev d others)) e × (e.place ≡ p) → Contains (places_of dev c spots net) p
      by_end r =
          let f = filtered (λ (e : End). is_same_source e.source (named number net)) (all_ends dev d others) r.0 r.1 in
          came r.0 (same_source_is r.0.source (named number net) f.1) r.2 (end_back r.0 f.0)

      from : (own_place dev others (named number net) ≡ p) ⊎ Contains (map (λ (e : End). e.place) (filter (λ (e : End). is_same_source e.source (named number net)) (all_ends dev d others))) p → Contains (places_of dev c spots net) p
      from (inl e) = here p (own_place dev spots net) (map (λ (e : End). e.place) (filter (λ (e : End). is_same_source e.source net) (all_ends dev c spots))) (sym (same_own net n) ∙ e)
      from (inr k) = by_end (mapped (λ (e : End). e.place) (filter (λ (e : End). is_same_source e.source (named number net)) (all_ends dev d others)) p k)

  same_perimeter : (net : Source) → HasSource c net → half_perimeter (places_of dev c spots net) ≡ half_perimeter (places_of dev d others (named number net))
  same_perimeter net n = perimeter_among (places_of dev c spots net) (places_of dev d others (named number net)) (places_on net n, places_back net n)

  -- so the sums are the same
  same_total : total dev d others ≡ total dev c spots
  same_total =
      let f = λ (net : Source). half_perimeter (places_of dev c spots net) in
      let g = λ (net : Source). half_perimeter (places_of dev d others net) in
      let inputs = numbers 0 (length c.inputs) in
      let modules = numbers 0 (length c.modules) in
      let listed : nets_of d ≡ nets_of c = ap (λ (n : ℕ). map Input (numbers 0 n) ++ map Module (numbers 0 (length d.modules))) (ap length is.inputs) ∙ ap (λ (n : ℕ). map Input (numbers 0 (length c.inputs)) ++ map Module (numbers 0 n)) is.count in
      let first = sum_agree (λ i. g (Input i)) (λ i. f (Input i)) inputs (λ i h. let r = number_in 0 (length c.inputs) i h in let high = r.1 in sym (same_perimeter (Input i) (omega arith))) in
      let second = sum_agree (λ m. f (Module m)) (λ m. g (Module (number m))) modules (λ m h. same_perimeter (Module m) (modules_below m h)) in
      let third = same_sum (λ k. g (Module k)) (map number modules) modules (differ_map number modules (λ a b h k e. is.once a b (modules_below a h) (modules_below b k) e) (differ_numbers 0 (length c.modules)))
      (λ k h. let r = mapped number modules k h in subst (λ (k : ℕ). Contains modules k) r.2 (in_numbers 0 (length c.modules) (number r.0) (omega arith) (let low = is.below r.0 (modules_below r.0 r.1) in omega arith))) (length-map modules number) in
      omega (
        arith,
        ap (sum_by g) listed,
        sum_by-append g (map Input inputs) (map Module modules),
        sum_by-append f (map Input inputs) (map Module modules),
        sum_map g Input inputs,
        sum_map g Module modules,
        sum_map f Input inputs,
        sum_map f Module modules,
        first,
        second,
        third,
        sum_map (λ k. g (Module k)) number modules,
      )

-- an exchange keeps that the spots are the same
exchanged : (number : ℕ → ℕ) (c : Circuit) (spots others : List Spot) (a b : Spot) → AreSameSpots number c spots others → AreSameSpots number c (exchange a b spots) (exchange a b others)
exchanged number c spots others a b at = record {
  one_each = length-map spots (moved a b) ∙ at.one_each;
  same_count = length-map others (moved a b) ∙ at.same_count ∙ sym (length-map spots (moved a b));
  spots_are = λ m s e. let r = get_mapped (moved a b) spots m s e in get_map (moved a b) others (number m) r.0 (at.spots_are m r.0 r.1) ∙ ap (λ (s : Spot). let o : Option Spot = Some s in o) r.2;
}

pub order_keeps_sums : OrderKeepsSums
order_keeps_sums dev c spots p range placed =
    let number = site_number spots in
    let is = numbered c spots p placed in
    let at : AreSameSpots number c spots p.spots = record { one_each = placed.each; same_count = placed.order.count; spots_are = placed.order.spots_are } in
    let same = same_total dev number c p.circuit range is spots p.spots at in (
      same,
      λ stable a b a_row a_column b_row b_column.
          let other = same_total dev number c p.circuit range is (exchange a b spots) (exchange a b p.spots) (exchanged number c spots p.spots a b at) in
          omega (arith, same, other, stable a b a_row a_column b_row b_column),
    )

pub placed_is_stable : PlacedIsStable
placed_is_stable dev seed p by =
    let settled = placements_settle_law dev by.circuit seed by.spots by.sites by.placement in
    (order_keeps_sums dev by.circuit by.spots p by.range (record { each = settled.one_each; apart = settled.sites.apart; order = by.order })).1 settled.stable

-- Another numbering of a circuit's modules: where sources, pins and starts go, and where they come from.
use Rattle.std.proofs.Common.{ℕ, ◌≡◌, ◌≢◌, ◌<◌, ◌==◌, List, [], ◌∷◌, length, map, Some, refl, sym, ap, subst, ◌∙◌, arith, get_or, slice_get, Contains, All, AllPairs}
use Rattle.std.specs.Prelude.{filter}
use Rattle.std.proofs.lemmas.Bool.{eqb-true, eq-eqb}
use Rattle.std.proofs.lemmas.List.{length-map}
use Rattle.std.proofs.lemmas.List.Elements.{All-contains, All-map, All-same}
use Rattle.std.proofs.lemmas.List.Kept.{AllPairs-filter}
use Rattle.std.proofs.lemmas.Option.{get_or_from_slice_get, slice_get-get_or}
use Rattle.act1_base.specs.Rising.{Rises}
use Rattle.act1_base.proofs.ListGets.{some_is, get_within, get_in, get_mapped}
use Rattle.act1_circuit.specs.declared.circuit.Circuit.{Circuit}
use Rattle.act1_circuit.specs.declared.circuit.Output.{Output}
use Rattle.act1_circuit.specs.declared.circuit.Placed.{Placed}
use Rattle.act1_circuit.specs.declared.circuit.Source.{Source}
use Rattle.act1_circuit.specs.declared.circuit.Source.TheVariants.{Zero, One, Clock, Input, Module}
use Rattle.act1_circuit.specs.declared.circuit.Spot.{Spot}
use Rattle.act1_circuit.specs.declared.circuit.Start.{Start}
use Rattle.act1_circuit.specs.Range.{HasSource, InRange}
use Rattle.act1_base.specs.Lists.{numbers}
use Rattle.act1_plan.specs.Order.{rank, site_number, named, renumbered_output, renumbered_start, starts_from}
use Rattle.act1_plan.specs.Plans.{StartIsBefore}
use Rattle.act1_plan.proofs.RankFacts.{has_rank, one_place, ranks_are}
use Rattle.act1_base.proofs.Elements.{filtered, flattened, in_filter, in_flat, in_map, in_numbers, mapped}
use Rattle.act1_planned.specs.Placed.{IsPlacedAt}
use Rattle.act1_planned.proofs.Pairs.{all_of, pairs_flat, pairs_map, pairs_rise, pairs_two}

-- the second circuit is the first with other numbers of its modules
pub record IsNumbered (number : ℕ → ℕ) (c d : Circuit) : Type 0 where
  pub count : length d.modules ≡ length c.modules
  pub below : (m : ℕ) → m < length c.modules → number m < length c.modules
  pub once : (m k : ℕ) → m < length c.modules → k < length c.modules → number m ≡ number k → m ≡ k
  pub each : (k : ℕ) → k < length c.modules → (m : ℕ) × (m < length c.modules) × (number m ≡ k)
  pub modules : (m : ℕ) (pins : List Source) → slice_get c.modules m ≡ Some pins → slice_get d.modules (number m) ≡ Some (map (named number) pins)
  pub clock : d.clock ≡ c.clock
  pub inputs : d.inputs ≡ c.inputs
  pub outputs : d.outputs ≡ map (renumbered_output number) c.outputs
  pub starts : d.starts ≡ starts_from 0 (length c.modules) (map (renumbered_start number) c.starts)

-- site order is such a numbering
pub numbered : (c : Circuit) (spots : List Spot) (p : Placed) → IsPlacedAt c spots p → IsNumbered (site_number spots) c p.circuit
numbered c spots p is = record {
  count = is.order.modules_count;
  below = below;
  once = once;
  each = each;
  modules = is.order.modules;
  clock = is.order.clock;
  inputs = is.order.inputs;
  outputs = is.order.outputs;
  starts = is.order.starts;
}
  where
    at : (m : ℕ) → m < length c.modules → (s : Spot) × (slice_get spots m ≡ Some s)
    at m low = get_in spots m (omega (arith, low, is.each))

    below : (m : ℕ) → m < length c.modules → site_number spots m < length c.modules
    below m low = let s = at m low in omega (arith, get_within p.spots (site_number spots m) s.0 (is.order.spots_are m s.0 s.1), is.order.count, is.each)

    once : (m k : ℕ) → m < length c.modules → k < length c.modules → site_number spots m ≡ site_number spots k → m ≡ k
    once m k low high e =
        let s = at m low in
        let t = at k high in
        let same : s.0 ≡ t.0 = some_is s.0 t.0 (sym (is.order.spots_are m s.0 s.1) ∙ ap (slice_get p.spots) e ∙ is.order.spots_are k t.0 t.1) in
        one_place spots is.apart m k t.0 (s.1 ∙ ap (λ (u : Spot). Some u) same) t.1

    each : (k : ℕ) → k < length c.modules → (m : ℕ) × (m < length c.modules) × (site_number spots m ≡ k)
    each k low =
        let h = has_rank (map (rank spots) spots) (ranks_are spots is.apart) k (omega (arith, low, is.each, length-map spots (rank spots))) in
        let t = get_mapped (rank spots) spots h.0 k h.1 in
        (h.0, omega (arith, get_within spots h.0 t.0 t.1, is.each), ap (rank spots) (get_or_from_slice_get spots h.0 t.0 (record { row = 0; column = 0 }) t.1) ∙ t.2)

-- starts in the order of their modules

abbrev at_module : List Start → ℕ → List Start
at_module starts m = filter (λ (s : Start). s.module == m) starts

pub at_its_module : (starts : List Start) (m : ℕ) (s : Start) → Contains (at_module starts m) s → Contains starts s × (s.module ≡ m)
at_its_module starts m s h = let r = filtered (λ (t : Start). t.module == m) starts s h in (r.0, eqb-true s.module m r.1)

pub starts_back : (starts : List Start) (count : ℕ) (s : Start) → Contains (starts_from 0 count starts) s → Contains starts s
starts_back starts count s h = let r = flattened (at_module starts) (numbers 0 count) s h in (at_its_module starts r.0 s r.2).0

pub starts_on : (starts : List Start) (count : ℕ) (s : Start) → s.module < count → Contains starts s → Contains (starts_from 0 count starts) s
starts_on starts count s low h =
    in_flat (at_module starts) (numbers 0 count) s.module s (in_numbers 0 count s.module (omega arith) (omega (arith, low)))
    (in_filter (λ (t : Start). t.module == s.module) starts s h (eq-eqb s.module s.module refl))

-- a relation of any two starts that goes both ways
pub starts_pairs : (R : Start → Start → Type 0) → ((s t : Start) → R s t → R t s) → (starts : List Start) (count : ℕ) → AllPairs R starts → AllPairs R (starts_from 0 count starts)
starts_pairs R turned starts count h =
    pairs_flat R (at_module starts) (λ m. AllPairs-filter R (λ (s : Start). s.module == m) starts h)
    (λ m k s t less i j. let a = at_its_module starts m s i in let b = at_its_module starts k t j in
    pairs_two R turned starts h s t a.0 b.0 (λ e. let same = ap (λ (u : Start). u.module) e in absurd (omega (arith, less, same, a.1, b.1)))) 0 count

-- where starts stand at different modules they rise
pub starts_rise : (starts : List Start) (count : ℕ) → AllPairs (λ (s t : Start). s.module ≢ t.module) starts → Rises StartIsBefore (starts_from 0 count starts)
starts_rise starts count h =
    pairs_rise StartIsBefore (starts_from 0 count starts)
    (pairs_flat StartIsBefore (at_module starts) one
    (λ m k s t less i j. let a = at_its_module starts m s i in let b = at_its_module starts k t j in omega (arith, less, a.1, b.1)) 0 count)
  where
    one : (m : ℕ) → AllPairs StartIsBefore (at_module starts m)
    one m i j x less low =
        let ss = at_module starts m in
        let apart = AllPairs-filter (λ (s t : Start). s.module ≢ t.module) (λ (s : Start). s.module == m) starts h i j x less low in
        let all = all_of (λ (s : Start). s.module ≡ m) ss (λ s c. (at_its_module starts m s c).1) in
        absurd (apart (all i x (omega (arith, less, low)) ∙ sym (all j x low)))

module _ (number : ℕ → ℕ) (c d : Circuit) (range : InRange c) (is : IsNumbered number c d) where
  -- the sources of a module's pins
  pub fits : (m : ℕ) (pins : List Source) → slice_get c.modules m ≡ Some pins → (length pins ≡ 8) × All (HasSource c) pins
  fits m pins e = subst (λ (ss : List Source). (length ss ≡ 8) × All (HasSource c) ss) (get_or_from_slice_get c.modules m pins pins e) (range.pins m pins (get_within c.modules m pins e))

  -- sources stay in range
  pub source_there : (s : Source) → HasSource c s → HasSource d (named number s)
  source_there Zero h = h
  source_there One h = h
  source_there Clock h = h
  source_there (Input i) h = omega (arith, ap length is.inputs, h)
  source_there (Module m) h = omega (arith, is.below m h, is.count)

  -- the module that has this number
  pub record Was (k : ℕ) (pins : List Source) : Type 0 where
    pub module_was : ℕ
    pub pins_were : List Source
    pub low : module_was < length c.modules
    pub number_is : number module_was ≡ k
    pub there : slice_get c.modules module_was ≡ Some pins_were
    pub pins_are : map (named number) pins_were ≡ pins

  pub module_back : (k : ℕ) (pins : List Source) → slice_get d.modules k ≡ Some pins → Was k pins
  module_back k pins e =
      let m = is.each k (omega (arith, get_within d.modules k pins e, is.count)) in
      let old = get_in c.modules m.0 m.1 in
      record {
        module_was = m.0;
        pins_were = old.0;
        low = m.1;
        number_is = m.2;
        there = old.1;
        pins_are = some_is (map (named number) old.0) pins (sym (is.modules m.0 old.0 old.1) ∙ ap (slice_get d.modules) m.2 ∙ e);
      }

  -- the starts are those of the circuit
  pub start_back : (s : Start) → Contains d.starts s → (t : Start) × Contains c.starts t × (renumbered_start number t ≡ s)
  start_back s h =
      mapped (renumbered_start number) c.starts s
      (starts_back (map (renumbered_start number) c.starts) (length c.modules) s (subst (λ (ss : List Start). Contains ss s) is.starts h))

  pub start_on : (t : Start) → Contains c.starts t → Contains d.starts (renumbered_start number t)
  start_on t h =
      subst (λ (ss : List Start). Contains ss (renumbered_start number t)) (sym is.starts)
      (starts_on (map (renumbered_start number) c.starts) (length c.modules) (renumbered_start number t)
      (is.below t.module (All-contains (λ (s : Start). s.module < length c.modules) c.starts t range.starts h)) (in_map (renumbered_start number) c.starts t h))

  pub start_low : (t : Start) → Contains c.starts t → t.module < length c.modules
  start_low t h = All-contains (λ (s : Start). s.module < length c.modules) c.starts t range.starts h

  -- what holds of each start
  pub all_starts : (P : Start → Type 0) → ((t : Start) → Contains c.starts t → P (renumbered_start number t)) → All P d.starts
  all_starts P h = all_of P d.starts (λ s k. let r = start_back s k in subst P r.2 (h r.0 r.1))

  -- a relation of any two starts
  pub pair_starts : (S R : Start → Start → Type 0) → ((s t : Start) → R s t → R t s)
      → ((s t : Start) → s.module < length c.modules → t.module < length c.modules → S s t → R (renumbered_start number s) (renumbered_start number t)) → AllPairs S c.starts → AllPairs R d.starts
  pair_starts S R turned on h =
      subst (λ (ss : List Start). AllPairs R ss) (sym is.starts)
      (starts_pairs R turned (map (renumbered_start number) c.starts) (length c.modules)
      (pairs_map S R (renumbered_start number) c.starts (λ a b i j s. on a b (start_low a i) (start_low b j) s) h))

  pub other_modules : (s t : Start) → s.module < length c.modules → t.module < length c.modules → s.module ≢ t.module → number s.module ≢ number t.module
  other_modules s t low high apart e = apart (is.once s.module t.module low high e)

  pub rising : AllPairs (λ (s t : Start). s.module ≢ t.module) c.starts → Rises StartIsBefore d.starts
  rising h =
      subst (λ (ss : List Start). Rises StartIsBefore ss) (sym is.starts)
      (starts_rise (map (renumbered_start number) c.starts) (length c.modules)
      (pairs_map (λ (s t : Start). s.module ≢ t.module) (λ (s t : Start). s.module ≢ t.module) (renumbered_start number) c.starts (λ a b i j s. other_modules a b (start_low a i) (start_low b j) s) h))

  pub outputs_count : length d.outputs ≡ length c.outputs
  outputs_count = ap length is.outputs ∙ length-map c.outputs (renumbered_output number)

  names_kept : (os : List Output) → map (λ (o : Output). o.name) (map (renumbered_output number) os) ≡ map (λ (o : Output). o.name) os
  names_kept [] = refl
  names_kept (o ∷ os) = ap (λ (ns : List (List ℕ)). o.name ∷ ns) (names_kept os)

  -- outputs keep their names
  pub output_names_kept : map (λ (o : Output). o.name) d.outputs ≡ map (λ (o : Output). o.name) c.outputs
  output_names_kept = ap (map (λ (o : Output). o.name)) is.outputs ∙ names_kept c.outputs

  -- what holds of each output
  pub all_outputs : (P : Output → Type 0) → All (λ (o : Output). P (renumbered_output number o)) c.outputs → All P d.outputs
  all_outputs P h = All-same P d.outputs (map (renumbered_output number) c.outputs) is.outputs (All-map P (renumbered_output number) c.outputs h)

  module_fits : (k : ℕ) (pins : List Source) → slice_get d.modules k ≡ Some pins → (length pins ≡ 8) × All (HasSource d) pins
  module_fits k pins e =
      let r = module_back k pins e in
      let were = fits r.module_was r.pins_were r.there in
      subst (λ (ss : List Source). (length ss ≡ 8) × All (HasSource d) ss) r.pins_are
      (length-map r.pins_were (named number) ∙ were.0, All-map (HasSource d) (named number) r.pins_were (λ i x low. source_there (get_or r.pins_were i x) (were.1 i x low)))

  -- the circuit has its sources, and the modules of its starts
  pub in_range : InRange d
  in_range = record {
    pins = λ k x low. module_fits k (get_or d.modules k x) (slice_get-get_or d.modules k x low);
    outputs = all_outputs (λ (o : Output). HasSource d o.source) (λ i x low. source_there (get_or c.outputs i x).source (range.outputs i x low));
    starts = all_starts (λ (s : Start). s.module < length d.modules) (λ t h. omega (arith, is.below t.module (start_low t h), is.count));
    few_inputs = omega (arith, ap length is.inputs, range.few_inputs);
    few_outputs = omega (arith, outputs_count, range.few_outputs);
    few_modules = omega (arith, is.count, range.few_modules);
  }

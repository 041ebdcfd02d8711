-- A circuit in pair form that carries each valuation of a netlist means it.
use Rattle.std.proofs.Common.{ℕ, ◌≡◌, Bool, false, List, [], ◌∷◌, length, Option, refl, sym, ap, subst, ◌∙◌, arith}
use Rattle.std.specs.Prelude.{slice_get}
use Rattle.std.specs.List.{AllByRecursion}
use Rattle.std.specs.Option.{unwrap_or}
use Rattle.std.proofs.lemmas.List.{length-map}
use Rattle.std.proofs.lemmas.List.Elements.{recursion_from_All}
use Rattle.std.proofs.lemmas.Option.{slice_get_within, get_or_from_slice_get, unwrap_or-slice_get}
use Rattle.act1_blif.specs.declared.blif.Blif.{Blif}
use Rattle.act1_blif.specs.declared.blif.Latch.{Latch}
use Rattle.act1_blif.specs.Laws.{EachHasOneValuation}
use Rattle.act1_blif.specs.Run.{Fits, Reading, ShowsBy, own_reading, signal}
use Rattle.act1_circuit.specs.declared.circuit.Circuit.{Circuit}
use Rattle.act1_circuit.specs.declared.circuit.Start.{Start}
use Rattle.act1_circuit.specs.declared.circuit.Source.{Source}
use Rattle.act1_circuit.specs.Cycles.{bit, IsCycle, SameSlaves}
use Rattle.act1_circuit.specs.Firing.{IsWave, Waves, low_bits, high_bits, shown, run, RestsAlong}
use Rattle.act1_circuit.specs.Laws.{EachCycle, SlavesDecide}
use Rattle.act1_circuit.specs.PairForm.{Edge, rising, IsPair, IsPairForm, start_module}
use Rattle.act1_circuit.specs.Range.{InRange}
use Rattle.act1_meaning.specs.Carries.{IsPairOfLatch, Carries, CarriesAll, PortsBy}
use Rattle.act1_meaning.specs.Laws.{CarryingMeans, CarryingShows}
use Rattle.act1_meaning.specs.Meaning.{StartsLatch, AgreesWithState, IsCase}

same_bit : (a b : List Bool) (j k : ℕ) → slice_get a j ≡ slice_get b k → bit a j ≡ signal b k
same_bit a b j k e = sym (unwrap_or-slice_get a j false) ∙ ap (λ (o : Option Bool). unwrap_or o false) e ∙ unwrap_or-slice_get b k false

module _ (cycles : EachCycle) (decide : SlavesDecide) (one : EachHasOneValuation) (c : Circuit) (b : Blif) (range : InRange c) (form : IsPairForm c)
    (reading : Reading) (ports : PortsBy c b) (carries : CarriesAll c b reading) (long_next : (v : List Bool) → length (reading.next v) ≡ length b.latches) where
  -- each pair is that of a latch
  latch_of : (f : Edge) (t : Source) (m s : ℕ) → IsPair c f t m s → (k : ℕ) × (latch : Latch) × IsPairOfLatch c b f t m s k latch
  latch_of f t m s p =
      let h = form.starts (start_module f m s) (record { edge = f; takes = t; «master» = m; «slave» = s; pair = p; here = refl }) in
      let low = slice_get_within c.starts h.0 h.1 h.2 in
      let l = subst (λ (start : Start). (k : ℕ) × (latch : Latch) × StartsLatch b start k latch) (get_or_from_slice_get c.starts h.0 h.1 h.1 h.2) (ports.starts h.0 h.1 low) in
      (l.0, l.1, record { pair = p; place = h.0; start = h.1; there = h.2; here = h.3; starts = l.2 })

  -- each latch's value stands where its start does
  abbrev Holds : List Bool → List Bool → Type 0
  Holds q bits = (f : Edge) (t : Source) (m s k : ℕ) (latch : Latch) → IsPairOfLatch c b f t m s k latch → bit bits (start_module f m s) ≡ signal q k

  first_holds : (q bits : List Bool) → AgreesWithState c b q bits → Holds q bits
  first_holds q bits agrees rising t m s k latch h = same_bit bits q s k (ap (slice_get bits) (sym h.here) ∙ agrees h.start h.place k latch h.there h.starts)

  module _ (q x v start low high : List Bool) (fits : Fits b q x v) (holds : Holds q start) (cycle : IsCycle c x start low high) where
    abbrev carried : List Bool
    carried = (carries q x v fits).0

    abbrev is : Carries c b reading q x v carried
    is = (carries q x v fits).1

    -- after the first half each slave has the value that it carries
    low_slaves : SameSlaves c low carried
    low_slaves f t m s p =
        let l = latch_of f t m s p in
        cycle.held f t m s p ∙ holds f t m s l.0 l.1 l.2 ∙ sym (is.latches f t m s l.0 l.1 l.2)

    -- so the outputs are the netlist's
    outputs : shown c x low ≡ reading.outputs v
    outputs = (decide c range form x low carried cycle.steady is.steady low_slaves).0 ∙ is.outputs

    -- and after the second half each latch's next value stands where its start does
    holds_next : Holds (reading.next v) high
    holds_next rising t m s k latch h =
        cycle.taken rising t m s h.pair
        ∙ (decide c range form x low carried cycle.steady is.steady low_slaves).1 rising t m s h.pair
        ∙ is.taken rising t m s k latch h

  shows_all : (q bits : List Bool) (xs : List (List Bool)) (ws : List Waves) → length q ≡ length b.latches → length bits ≡ length c.modules → Holds q bits
      → AllByRecursion (λ x. length x ≡ length c.inputs) xs → length ws ≡ length xs → AllByRecursion (λ (w : Waves). IsWave (length c.modules) w.low × IsWave (length c.modules) w.high) ws
      → ShowsBy b reading q xs (run c bits xs ws) × RestsAlong c bits xs ws
  shows_all q bits [] ws state long holds vectors count waves = (tt, tt)
  shows_all q bits (x ∷ xs) [] state long holds vectors count waves = absurd (omega arith)
  shows_all q bits (x ∷ xs) (w ∷ ws) state long holds vectors count waves =
      let single = one b q x state (vectors.0 ∙ ap length ports.inputs) in
      let v = single.valuation in
      let cycle = cycles c range form x bits long w waves.0.0 waves.0.1 in
      let next = holds_next q x v bits (low_bits c bits x w) (high_bits c bits x w) single.fits holds cycle in
      let rest = shows_all (reading.next v) (high_bits c bits x w) xs ws (long_next v) cycle.one_each next vectors.1 (let l = count in omega arith) waves.1 in
      ((v, single.fits, outputs q x v bits (low_bits c bits x w) (high_bits c bits x w) single.fits holds cycle, rest.0), (cycle.low_rests, cycle.high_rests, rest.1))

  shows_case : (q bits : List Bool) (xs : List (List Bool)) (ws : List Waves) → IsCase IsWave c b q bits xs ws → ShowsBy b reading q xs (run c bits xs ws) × RestsAlong c bits xs ws
  shows_case q bits xs ws k =
      shows_all q bits xs ws k.state.one_each k.one_each (first_holds q bits k.agrees) (recursion_from_All (λ x. length x ≡ length c.inputs) xs k.vectors) k.waves.count
      (recursion_from_All (λ (w : Waves). IsWave (length c.modules) w.low × IsWave (length c.modules) w.high) ws k.waves.each)

pub carrying_shows : EachCycle → SlavesDecide → EachHasOneValuation → CarryingShows
carrying_shows cycles decide one c b reading range form ports carries long_next = shows_case cycles decide one c b range form reading ports carries long_next

pub carrying_means : CarryingShows → CarryingMeans
carrying_means whole c b range form ports carries = record {
  in_range = range;
  ports = ports;
  shows = λ q bits xs ws k. (each q bits xs ws k).0;
  rests = λ q bits xs ws k. (each q bits xs ws k).1;
}
  where
    each : (q bits : List Bool) (xs : List (List Bool)) (ws : List Waves) → IsCase IsWave c b q bits xs ws → ShowsBy b (own_reading b) q xs (run c bits xs ws) × RestsAlong c bits xs ws
    each = whole c b (own_reading b) range form (record { inputs = ports.inputs; starts = ports.starts }) carries (λ v. length-map b.latches (λ (l : Latch). signal v l.input))

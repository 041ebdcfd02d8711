-- The modules, outputs and starts of an array, as one more is looked at.
use Rattle.std.proofs.Common.{ℕ, suc, zero, ◌≡◌, ◌≢◌, ◌<◌, ◌≤◌, ◌⊎◌, ◌↔◌, ◌+◌, List, [], ◌∷◌, ◌++◌, length, map, get_or, take, Option, Some, refl, sym, ap, subst, ◌∙◌, inl, inr, arith}
use Rattle.std.specs.Prelude.{Contains, slice_get, slice_set, All, Ok, Err}
use Rattle.std.proofs.lemmas.Bool.{cases_eq, cases_lt}
use Rattle.std.proofs.lemmas.List.{length-set, length_push, map-append, take_more, length-map, take_all}
use Rattle.std.proofs.lemmas.List.Elements.{All-contains}
use Rattle.std.proofs.lemmas.Option.{slice_get-get_or}
use Rattle.act1_device.specs.declared.device.Device.{Device}
use Rattle.act1_circuit.specs.declared.circuit.Output.{Output}
use Rattle.act1_base.specs.Rising.{Rises}
use Rattle.act1_circuit.specs.declared.circuit.Placed.{Placed}
use Rattle.act1_circuit.specs.declared.circuit.Source.{Source}
use Rattle.act1_circuit.specs.declared.circuit.Spot.{Spot}
use Rattle.act1_circuit.specs.declared.circuit.Start.{Start}
use Rattle.act1_circuit.specs.Spots.{SpotIsBefore}
use Rattle.act1_fuses.specs.declared.fuses.FuseFile.{FuseFile}
use Rattle.act1_fuses.specs.declared.fuses.Port.{Port}
use Rattle.act1_fuses.specs.declared.fuses.StartAt.{StartAt}
use Rattle.act1_fuses.specs.Array.{IsUsed, IsFed, Sound, IsCircuitOf, Drives, Beginning, pad_wire, pin_wire}
use Rattle.act1_array.specs.declared.network.Network.{Network}
use Rattle.act1_array.specs.Gives.{Apart, AreUsed, IsFirstFloating, IsFirstUnfed, IsFirstUnused, OutputsAreFed, PinIsBefore, PinsAreFed}
use Rattle.act1_array.specs.NetworkSteps.{IsNetworkOf}
use Rattle.act1_array.specs.PartSteps.{AreModules, AreOutputs, AreStarts, GivesPins, start_at_beginning, start_beginning}
use Rattle.act1_base.proofs.ListGets.{some_is, get_within, get_in, get_cases, get_written, get_unwritten, contains_at, place_of}
use Rattle.act1_array.proofs.ClassLemmas.{all_of}
use Rattle.act1_array.proofs.NetworkLemmas.{is_source, places_rise, not_both}

-- what drives a wire feeds it
pub drives_feeds : (dev : Device) (f : FuseFile) (n : Network) → IsNetworkOf dev f n → (source : Source) (w : _) → Drives dev f n.spots source w → IsFed dev f w
drives_feeds dev f n h source w (from, is, j) = (from, is_source dev f n h source from is, j)

-- the pins up to one have their sources
pub record ArePins (dev : Device) (f : FuseFile) (spots : List Spot) (s : Spot) (count : ℕ) (sources : List Source) : Type 0 where
  pub all : length sources ≡ 8
  pub driven : (k : ℕ) → k < count → (source : Source) × (slice_get sources k ≡ Some source) × Drives dev f spots source (pin_wire s k)

module _ (dev : Device) (f : FuseFile) (spots : List Spot) (s : Spot) where
  pub pins_more : (pin : ℕ) (sources : List Source) (source : Source) → pin < 8 → ArePins dev f spots s pin sources → Drives dev f spots source (pin_wire s pin) → ArePins dev f spots s (pin + 1) (slice_set sources pin source)
  pins_more pin sources source low h d = record {
    all = length-set sources pin source ∙ h.all;
    driven = λ k small. by k small (cases_eq k pin);
  }
    where
      by : (k : ℕ) → k < pin + 1 → (k ≡ pin) ⊎ (k ≢ pin) → (x : Source) × (slice_get (slice_set sources pin source) k ≡ Some x) × Drives dev f spots x (pin_wire s k)
      by k small (inl is) =
          let all = h.all in
          (source, ap (λ (j : ℕ). slice_get (slice_set sources pin source) j) is ∙ get_written sources pin source (omega arith), subst (λ (j : ℕ). Drives dev f spots source (pin_wire s j)) (sym is) d)
      by k small (inr apart) = let r = h.driven k (omega arith) in (r.0, get_unwritten sources pin k source apart ∙ r.1, r.2)

  pub pins_end : (pin : ℕ) (sources : List Source) → 8 ≤ pin → ArePins dev f spots s pin sources → GivesPins dev f spots s (Ok sources)
  pins_end pin sources high h = (
    h.all,
    λ k source e.
        let low = get_within sources k source e in
        let all = h.all in
        let r = h.driven k (omega arith) in
        subst (λ (x : Source). Drives dev f spots x (pin_wire s k)) (some_is r.0 source (sym r.1 ∙ e)) r.2,
  )

  pub pins_fed : (n : Network) → IsNetworkOf dev f n → spots ≡ n.spots → (pin : ℕ) (sources : List Source) → ArePins dev f spots s pin sources → (k : ℕ) → k < pin → IsFed dev f (pin_wire s k)
  pins_fed n is same pin sources h k low =
      let r = h.driven k low in
      drives_feeds dev f n is r.0 (pin_wire s k) (subst (λ (xs : List Spot). Drives dev f xs r.0 (pin_wire s k)) same r.2)

module _ (dev : Device) (f : FuseFile) (n : Network) (h : IsNetworkOf dev f n) where
  no_modules : AreModules dev f n.spots 0 []
  no_modules = record { all = refl; pins = λ m s sources at_spot at_module. let low = get_within [] m sources at_module in absurd (omega arith) }

  pub modules_more : (i : ℕ) (s : Spot) (modules : List (List Source)) (sources : List Source) → slice_get n.spots i ≡ Some s → AreModules dev f n.spots i modules → GivesPins dev f n.spots s (Ok sources)
      → AreModules dev f n.spots (i + 1) (modules ++ sources ∷ [])
  modules_more i s modules sources at old new = record {
    all = let all = old.all in omega (arith, length_push modules sources);
    pins = λ m t xs at_spot at_module. by m t xs at_spot (get_cases modules sources xs m at_module);
  }
    where
      by : (m : ℕ) (t : Spot) (xs : List Source) → slice_get n.spots m ≡ Some t → (slice_get modules m ≡ Some xs) ⊎ ((m ≡ length modules) × (sources ≡ xs)) → GivesPins dev f n.spots t (Ok xs)
      by m t xs at_spot (inl k) = old.pins m t xs at_spot k
      by m t xs at_spot (inr k) =
          let place : m ≡ i = k.0 ∙ old.all in
          let same : s ≡ t = some_is s t (sym at ∙ ap (λ (j : ℕ). slice_get n.spots j) (sym place) ∙ at_spot) in
          subst (λ (u : Spot). GivesPins dev f n.spots u (Ok xs)) same (subst (λ (ys : List Source). GivesPins dev f n.spots s (Ok ys)) k.1 new)

  -- the pins of the modules so far are fed
  pub module_fed : (i m : ℕ) (s : Spot) (modules : List (List Source)) → AreModules dev f n.spots i modules → m < i → slice_get n.spots m ≡ Some s → (k : ℕ) → k < 8 → IsFed dev f (pin_wire s k)
  module_fed i m s modules old low at k small =
      let all = old.all in
      let sources = get_in modules m (omega arith) in
      let pins = old.pins m s sources.0 at sources.1 in
      let long = pins.0 in
      let source = get_in sources.0 k (omega arith) in
      drives_feeds dev f n h source.0 (pin_wire s k) (pins.1 k source.0 source.1)

  pub first_floating : (i : ℕ) (s : Spot) (pin : ℕ) (modules : List (List Source)) → slice_get n.spots i ≡ Some s → AreModules dev f n.spots i modules → GivesPins dev f n.spots s (Err pin) → IsFirstFloating dev f s pin
  first_floating i s pin modules at old bad = record {
    used = (h.used.used s).1 (contains_at n.spots i s at);
    low = bad.0;
    floats = bad.1;
    first = λ t k used small before. by t k small before (place_of n.spots t ((h.used.used t).0 used));
  }
    where
      by : (t : Spot) (k : ℕ) → k < 8 → PinIsBefore t k s pin → (m : ℕ) × (slice_get n.spots m ≡ Some t) → IsFed dev f (pin_wire t k)
      by t k small (inl before) m = place (cases_lt m.0 i)
        where
          place : (m.0 < i) ⊎ (i ≤ m.0) → IsFed dev f (pin_wire t k)
          place (inl low) = module_fed i m.0 t modules old low m.1 k small
          place (inr high) = later (cases_eq m.0 i)
            where
              later : (m.0 ≡ i) ⊎ (m.0 ≢ i) → IsFed dev f (pin_wire t k)
              later (inl is) =
                  let same : t ≡ s = some_is t s (sym m.1 ∙ ap (λ (j : ℕ). slice_get n.spots j) is ∙ at) in
                  absurd (not_both s s (subst (λ (u : Spot). SpotIsBefore u s) same before) (subst (λ (u : Spot). SpotIsBefore u s) same before))
              later (inr apart) = absurd (not_both t s before (places_rise n.spots h.used.rise i m.0 s t at m.1 (omega arith)))
      by t k small (inr (same, low)) m = subst (λ (u : Spot). IsFed dev f (pin_wire u k)) (sym same) (bad.2 k low)

  no_outputs : AreOutputs dev f n.spots [] []
  no_outputs = record { names = refl; sources = λ k port output at_port at_output. let low = get_within [] k port at_port in absurd (omega arith) }

  pub outputs_more : (i : ℕ) (port d : Port) (outputs : List Output) (output : Output) → i < length f.outs → port ≡ get_or f.outs i d → output.name ≡ port.name → AreOutputs dev f n.spots (take i f.outs) outputs
      → Drives dev f n.spots output.source (pad_wire port.pad) → AreOutputs dev f n.spots (take (i + 1) f.outs) (outputs ++ output ∷ [])
  outputs_more i port d outputs output low is name old drives =
      let more : take (i + 1) f.outs ≡ take i f.outs ++ port ∷ [] = take_more f.outs i d low ∙ ap (λ (p : Port). take i f.outs ++ p ∷ []) (sym is) in
      let names : map (λ (o : Output). o.name) (outputs ++ output ∷ []) ≡ map (λ (p : Port). p.name) (take i f.outs ++ port ∷ []) =
      map-append (λ (o : Output). o.name) outputs (output ∷ []) ∙ ap (λ (xs : List (List ℕ)). xs ++ output.name ∷ []) old.names ∙ ap (λ (x : List ℕ). map (λ (p : Port). p.name) (take i f.outs) ++ x ∷ []) name
      ∙ sym (map-append (λ (p : Port). p.name) (take i f.outs) (port ∷ [])) in
      let same_length : length outputs ≡ length (take i f.outs) = names_length outputs (take i f.outs) old.names in
      subst (λ (ps : List Port). AreOutputs dev f n.spots ps (outputs ++ output ∷ [])) (sym more)
      (record { names = names; sources = λ k p o at_port at_output. by k p o same_length (get_cases (take i f.outs) port p k at_port) (get_cases outputs output o k at_output) })
    where
      names_length : (os : List Output) (ps : List Port) → map (λ (o : Output). o.name) os ≡ map (λ (p : Port). p.name) ps → length os ≡ length ps
      names_length os ps e = sym (mapped (λ (o : Output). o.name) os) ∙ ap (λ (xs : List (List ℕ)). length xs) e ∙ mapped (λ (p : Port). p.name) ps
        where
          mapped : {X : Type 0} (g : X → List ℕ) (xs : List X) → length (map g xs) ≡ length xs
          mapped g xs = length-map xs g

      by : (k : ℕ) (p : Port) (o : Output) → length outputs ≡ length (take i f.outs) → (slice_get (take i f.outs) k ≡ Some p) ⊎ ((k ≡ length (take i f.outs)) × (port ≡ p)) → (slice_get outputs k ≡ Some o) ⊎ ((k ≡ length outputs) × (output ≡ o)) → Drives dev f n.spots o.source (pad_wire p.pad)
      by k p o len (inl at_port) (inl at_output) = old.sources k p o at_port at_output
      by k p o len (inl at_port) (inr last) = let low = get_within (take i f.outs) k p at_port in absurd (omega (arith, last.0))
      by k p o len (inr last) (inl at_output) = let low = get_within outputs k o at_output in absurd (omega (arith, last.0))
      by k p o len (inr at_port) (inr at_output) =
          subst (λ (q : Port). Drives dev f n.spots o.source (pad_wire q.pad)) at_port.1 (subst (λ (q : Output). Drives dev f n.spots q.source (pad_wire port.pad)) at_output.1 drives)

  outputs_length : (i : ℕ) (outputs : List Output) → AreOutputs dev f n.spots (take i f.outs) outputs → length outputs ≡ length (take i f.outs)
  outputs_length i outputs old = sym (length-map outputs (λ (o : Output). o.name)) ∙ ap (λ (xs : List (List ℕ)). length xs) old.names ∙ length-map (take i f.outs) (λ (p : Port). p.name)

  -- the outputs so far are fed
  pub outputs_fed : (i : ℕ) (outputs : List Output) → AreOutputs dev f n.spots (take i f.outs) outputs → (k : ℕ) (port : Port) → slice_get (take i f.outs) k ≡ Some port → IsFed dev f (pad_wire port.pad)
  outputs_fed i outputs old k port at =
      let len = outputs_length i outputs old in
      let low = get_within (take i f.outs) k port at in
      let output = get_in outputs k (omega arith) in
      drives_feeds dev f n h output.0.source (pad_wire port.pad) (old.sources k port output.0 at output.1)

get_front : {X : Type 0} (xs : List X) (i k : ℕ) (x : X) → k < i → slice_get xs k ≡ Some x → slice_get (take i xs) k ≡ Some x
get_front [] i k x low e = cc
get_front (y ∷ xs) zero k x low e = absurd (omega arith)
get_front (y ∷ xs) (suc i) zero x low e = e
get_front (y ∷ xs) (suc i) (suc k) x low e = get_front xs i k x (omega arith) e

pub first_unfed : (dev : Device) (f : FuseFile) (n : Network) → IsNetworkOf dev f n → (i : ℕ) (port : Port) (outputs : List Output) → slice_get f.outs i ≡ Some port → AreOutputs dev f n.spots (take i f.outs) outputs → ¬ IsFed dev f (pad_wire port.pad) → IsFirstUnfed dev f i
first_unfed dev f n h i port outputs at old unfed = record {
  port = port;
  place = at;
  unfed = unfed;
  first = λ k other low e. outputs_fed dev f n h i outputs old k other (get_front f.outs i k other low e);
}

-- one start more
pub starts_more : (spots : List Spot) (ats : List StartAt) (i : ℕ) (at d : StartAt) (starts : List Start) (start : Start) → i < length ats → at ≡ get_or ats i d → start.name ≡ at.name → start.init ≡ at.init → slice_get spots start.module ≡ Some at.spot
    → AreStarts spots (take i ats) starts → AreStarts spots (take (i + 1) ats) (starts ++ start ∷ [])
starts_more spots ats i at d starts start low is name init place old =
    map-append {B = Beginning} (start_beginning spots) starts (start ∷ [])
    ∙ ap (λ (bs : List Beginning). bs ++ start_beginning spots start ∷ []) old
    ∙ ap (λ (b : Beginning). map {B = Beginning} start_at_beginning (take i ats) ++ b ∷ []) same
    ∙ sym (map-append {B = Beginning} start_at_beginning (take i ats) (at ∷ []))
    ∙ ap (map {B = Beginning} start_at_beginning) (ap (λ (a : StartAt). take i ats ++ a ∷ []) is ∙ sym (take_more ats i d low))
  where
    same : start_beginning spots start ≡ start_at_beginning at
    same = ap (λ (x : List ℕ). let b : Beginning = (x, start.init, slice_get spots start.module) in b) name ∙ ap (λ (x : ℕ). let b : Beginning = (at.name, x, slice_get spots start.module) in b) init ∙ ap (λ (x : Option Spot). let b : Beginning = (at.name, at.init, x) in b) place

pub first_unused : (f : FuseFile) (spots : List Spot) → AreUsed f.sites spots → (i : ℕ) (start : StartAt) → slice_get f.starts i ≡ Some start → All (λ (at : StartAt). IsUsed f.sites at.spot) (take i f.starts) → ¬ Contains spots start.spot → IsFirstUnused f start.spot
first_unused f spots used i start at old out = record {
  number = i;
  start = start;
  place = at;
  spot_is = refl;
  unused = λ u. out ((used.used start.spot).0 u);
  first = λ k other low e.
      let front = get_front f.starts i k other low e in
      all_at k other front;
}
  where
    all_at : (k : ℕ) (other : StartAt) → slice_get (take i f.starts) k ≡ Some other → IsUsed f.sites other.spot
    all_at k other e = All-contains (λ (a : StartAt). IsUsed f.sites a.spot) (take i f.starts) other old (contains_at (take i f.starts) k other e)

-- an element that is read through a list that is the same
pub item_at : {X : Type 0} (read xs : List X) (i : ℕ) (x : X) → read ≡ xs → i < length read → x ≡ get_or read i x → (i < length xs) × (x ≡ get_or xs i x)
item_at {X} read xs i x same low is = (let len = ap (λ (ys : List X). length ys) same in omega arith, is ∙ ap (λ (ys : List X). get_or ys i x) same)

pub of_item : {X : Type 0} (P : X → Type 0) (xs : List X) (i : ℕ) (x : X) → All P xs → i < length xs → x ≡ get_or xs i x → P x
of_item P xs i x h low is = subst P (sym is) (h i x low)

pub taken_all : {X : Type 0} (read xs : List X) (i : ℕ) → read ≡ xs → length read ≤ i → take i xs ≡ xs
taken_all {X} read xs i same high = take_all i xs (let len = ap (λ (ys : List X). length ys) same in omega arith)

module _ (dev : Device) (f : FuseFile) (n : Network) (h : IsNetworkOf dev f n) where
  -- with all modules the pins are fed
  pub pins_are_fed : (modules : List (List Source)) → AreModules dev f n.spots (length n.spots) modules → PinsAreFed dev f
  pins_are_fed modules old = λ s pin used low.
      let m = place_of n.spots s ((h.used.used s).0 used) in
      module_fed dev f n h (length n.spots) m.0 s modules old (get_within n.spots m.0 s m.1) m.1 pin low

  -- with all outputs their pads are fed
  pub outputs_are_fed : (outputs : List Output) → AreOutputs dev f n.spots f.outs outputs → OutputsAreFed dev f
  outputs_are_fed outputs old = λ k d low.
      let len : length outputs ≡ length f.outs = sym (length-map outputs (λ (o : Output). o.name)) ∙ ap (λ (xs : List (List ℕ)). length xs) old.names ∙ length-map f.outs (λ (p : Port). p.name) in
      let output = get_in outputs k (omega arith) in
      drives_feeds dev f n h output.0.source (pad_wire (get_or f.outs k d).pad) (old.sources k (get_or f.outs k d) output.0 (slice_get-get_or f.outs k d low) output.1)

  eight_each : (modules : List (List Source)) → AreModules dev f n.spots (length n.spots) modules → All (λ (sources : List Source). length sources ≡ 8) modules
  eight_each modules old = all_of (λ (sources : List Source). length sources ≡ 8) modules (λ sources k.
      let m = place_of modules sources k in
      let low = get_within modules m.0 sources m.1 in
      let all = old.all in
      let s = get_in n.spots m.0 (omega arith) in
      (old.pins m.0 s.0 sources s.1 m.1).0)

  -- the parts make the circuit
  pub gives_circuit : (p : Placed) → Apart dev f → AreModules dev f n.spots (length n.spots) p.circuit.modules → AreOutputs dev f n.spots f.outs p.circuit.outputs → AreStarts n.spots f.starts p.circuit.starts
      → All (λ (start : StartAt). IsUsed f.sites start.spot) f.starts → p.spots ≡ n.spots → p.circuit.clock ≡ f.clock → p.circuit.inputs ≡ map (λ (port : Port). port.name) f.ins
      → Sound dev f × IsCircuitOf p dev f
  gives_circuit p apart modules outputs starts used spots clock inputs = (
    record { apart = apart; pins = pins_are_fed p.circuit.modules modules; outputs = outputs_are_fed p.circuit.outputs outputs; starts = used },
    record {
      rise = subst (λ (xs : List Spot). Rises SpotIsBefore xs) (sym spots) h.used.rise;
      used = subst (λ (xs : List Spot). (s : Spot) → IsUsed f.sites s ↔ Contains xs s) (sym spots) h.used.used;
      modules = modules.all ∙ sym (ap (λ (xs : List Spot). length xs) spots);
      eight = eight_each p.circuit.modules modules;
      pins = λ m k s sources source at_spot at_module at.
          subst (λ (xs : List Spot). Drives dev f xs source (pin_wire s k)) (sym spots) ((modules.pins m s sources (sym (ap (λ (xs : List Spot). slice_get xs m) spots) ∙ at_spot) at_module).1 k source at);
      outputs = λ k port output at_port at_output. subst (λ (xs : List Spot). Drives dev f xs output.source (pad_wire port.pad)) (sym spots) (outputs.sources k port output at_port at_output);
      output_names = outputs.names;
      clock = clock;
      inputs = inputs;
      starts = subst (λ (xs : List Spot). AreStarts xs f.starts p.circuit.starts) (sym spots) starts;
    },
  )

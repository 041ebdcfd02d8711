-- A circuit that means a net means the netlist that the net was made from.
use Rattle.std.proofs.Common.{ℕ, zero, suc, ◌≡◌, Bool, true, false, List, [], ◌∷◌, length, Some, map, refl, sym, ap, subst, ◌∙◌, arith}
use Rattle.std.specs.Prelude.{slice_get, slice_index_or}
use Rattle.std.proofs.lemmas.List.{length-map}
use Rattle.std.proofs.lemmas.List.Elements.{All-weaker}
use Rattle.std.proofs.lemmas.Option.{slice_get_within, slice_get-get_or, get_or_from_slice_get}
use Rattle.act1_blif.specs.declared.blif.Blif.{Blif}
use Rattle.act1_blif.specs.declared.blif.Latch.{Latch}
use Rattle.act1_blif.specs.Run.{AgreesWithInit}
use Rattle.act1_circuit.specs.declared.circuit.Circuit.{Circuit}
use Rattle.act1_circuit.specs.declared.circuit.Start.{Start}
use Rattle.act1_circuit.specs.Firing.{IsWave, Waves, run}
use Rattle.act1_meaning.specs.Meaning.{Means, Ports, StartsLatch, IsCase}
use Rattle.act1_net.specs.declared.net.Net.{Net}
use Rattle.act1_net.specs.Net.{IsNetOf, chosen, place_in}
use Rattle.act1_map.specs.Laws.{NetHasTerms, NetMeansNetlist}
use Rattle.act1_map.specs.Meaning.{MeansNet}
use Rattle.act1_map.proofs.Gets.{one_at, some_within, mapped_get}

chosen_long : {X Y : Type 0} (ms : List Bool) (xs : List X) (ys : List Y) → length xs ≡ length ys → length (chosen ms xs) ≡ length (chosen ms ys)
chosen_long [] xs ys e = refl
chosen_long (m ∷ ms) [] [] e = refl
chosen_long (m ∷ ms) [] (y ∷ ys) e = absurd (omega arith)
chosen_long (m ∷ ms) (x ∷ xs) [] e = absurd (omega arith)
chosen_long (true ∷ ms) (x ∷ xs) (y ∷ ys) e = ap suc (chosen_long ms xs ys (omega arith))
chosen_long (false ∷ ms) (x ∷ xs) (y ∷ ys) e = chosen_long ms xs ys (omega arith)

-- what is marked is chosen, at its place
chosen_get : {X : Type 0} (ms : List Bool) (xs : List X) (k : ℕ) (x : X) → slice_get ms k ≡ Some true → slice_get xs k ≡ Some x → slice_get (chosen ms xs) (place_in ms k) ≡ Some x
chosen_get [] xs k x m e = cc
chosen_get (m ∷ ms) [] k x h e = cc
chosen_get (true ∷ ms) (y ∷ xs) zero x h e = e
chosen_get (false ∷ ms) (y ∷ xs) zero x h e = cc
chosen_get (true ∷ ms) (y ∷ xs) (suc k) x h e = chosen_get ms xs k x h e
chosen_get (false ∷ ms) (y ∷ xs) (suc k) x h e = chosen_get ms xs k x h e

-- what is chosen was marked
chosen_from : {X : Type 0} (ms : List Bool) (xs : List X) (i : ℕ) (x : X) → slice_get (chosen ms xs) i ≡ Some x → (k : ℕ) × (slice_get ms k ≡ Some true) × (slice_get xs k ≡ Some x) × (place_in ms k ≡ i)
chosen_from [] xs i x e = cc
chosen_from (m ∷ ms) [] i x e = cc
chosen_from (true ∷ ms) (y ∷ xs) zero x e = (0, refl, e, refl)
chosen_from (true ∷ ms) (y ∷ xs) (suc i) x e = let (k, m, at, is) = chosen_from ms xs i x e in (suc k, m, at, ap suc is)
chosen_from (false ∷ ms) (y ∷ xs) i x e = let (k, m, at, is) = chosen_from ms xs i x e in (suc k, m, at, is)

abbrev name_of : Latch → List ℕ
name_of latch = latch.name

abbrev init_of : Latch → ℕ
init_of latch = latch.init

module _ (b : Blif) (kept : List Bool) (net : Net) (c : Circuit) (is_net : IsNetOf b kept net) (means : MeansNet c net) where
  -- the latch of the netlist that a latch of the net is
  record HasOld (j : ℕ) (new : Latch) : Type 0 where
    k : ℕ
    old : Latch
    marked : slice_get kept k ≡ Some true
    place : place_in kept k ≡ j
    is : slice_get b.latches k ≡ Some old
    name : new.name ≡ old.name
    init : new.init ≡ old.init

  has_old : (j : ℕ) (new : Latch) → slice_get net.blif.latches j ≡ Some new → HasOld j new
  has_old j new e =
      let names = ap (λ (ns : List (List ℕ)). slice_get ns j) (sym is_net.latch_names) ∙ mapped_get name_of net.blif.latches j new e in
      let (k, m, at, place) = chosen_from kept (map name_of b.latches) j new.name names in
      let low = slice_get_within kept k true m in
      let old = some_within b.latches k (let l = is_net.each in omega arith) in
      let inits = chosen_get kept (map init_of b.latches) k old.0.init m (mapped_get init_of b.latches k old.0 old.1) in
      let here : slice_get (map init_of net.blif.latches) j ≡ Some old.0.init = ap (λ (ns : List ℕ). slice_get ns j) is_net.latch_inits ∙ ap (λ (i : ℕ). slice_get (chosen kept (map init_of b.latches)) i) (sym place) ∙ inits in
      record {
        k = k;
        old = old.0;
        marked = m;
        place = place;
        is = old.1;
        name = one_at (map name_of b.latches) k new.name old.0.name at (mapped_get name_of b.latches k old.0 old.1);
        init = one_at (map init_of net.blif.latches) j new.init old.0.init (mapped_get init_of net.blif.latches j new e) here;
      }

  old_start : (start : Start) → ((j : ℕ) × (new : Latch) × StartsLatch net.blif start j new) → (k : ℕ) × (latch : Latch) × StartsLatch b start k latch
  old_start start (j, new, h) = let o = has_old j new h.is in (o.k, o.old, record { is = o.is; name = sym o.name ∙ h.name; init = sym o.init ∙ h.init })

  ports : Ports c b
  ports = record {
    clock = means.ports.clock ∙ is_net.clock;
    inputs = means.ports.inputs ∙ is_net.inputs;
    outputs = means.ports.outputs ∙ is_net.names;
    starts = All-weaker (λ (start : Start). (j : ℕ) × (new : Latch) × StartsLatch net.blif start j new) (λ (start : Start). (k : ℕ) × (latch : Latch) × StartsLatch b start k latch) old_start c.starts means.ports.starts;
    apart = means.ports.apart;
  }

  state_long : (q : List Bool) → length q ≡ length b.latches → length (chosen kept q) ≡ length net.blif.latches
  state_long q e =
      let names = length-map b.latches name_of in
      let own = length-map net.blif.latches name_of in
      let same = ap length is_net.latch_names in
      let long = chosen_long kept q (map name_of b.latches) (omega arith) in omega arith

  -- the bit of a kept latch
  state_at : (q : List Bool) → length q ≡ length b.latches → (j : ℕ) (new : Latch) (o : HasOld j new) → slice_get (chosen kept q) j ≡ Some (slice_index_or q o.k false)
  state_at q e j new o =
      let low = slice_get_within b.latches o.k o.old o.is in
      ap (slice_get (chosen kept q)) (sym o.place) ∙ chosen_get kept q o.k (slice_index_or q o.k false) o.marked (slice_get-get_or q o.k false (omega arith))

  as_case : (q bits : List Bool) (xs : List (List Bool)) (ws : List Waves) → IsCase IsWave c b q bits xs ws → IsCase IsWave c net.blif (chosen kept q) bits xs ws
  as_case q bits xs ws k = record {
    state = record {
      one_each = state_long q k.state.one_each;
      agrees = λ j new e.
          let o = has_old j new e in
          subst (λ (v : Bool). AgreesWithInit new.init v) (sym (get_or_from_slice_get (chosen kept q) j (slice_index_or q o.k false) false (state_at q k.state.one_each j new o)))
          (subst (λ (i : ℕ). AgreesWithInit i (slice_index_or q o.k false)) (sym o.init) (k.state.agrees o.k o.old o.is));
    };
    one_each = k.one_each;
    agrees = λ start i j new e h.
        let o = has_old j new h.is in
        let old : StartsLatch b start o.k o.old = record { is = o.is; name = sym o.name ∙ h.name; init = sym o.init ∙ h.init } in
        let low = slice_get_within b.latches o.k o.old o.is in
        let all = k.state.one_each in
        k.agrees start i o.k o.old e old ∙ slice_get-get_or q o.k false (omega arith) ∙ sym (state_at q all j new o);
    vectors = k.vectors;
    waves = k.waves;
  }

  pub it_means : Means c b
  it_means = record {
    in_range = means.in_range;
    ports = ports;
    shows = λ q bits xs ws k. (is_net.shows q xs (run c bits xs ws) k.state.one_each).0 (means.shows (chosen kept q) bits xs ws (as_case q bits xs ws k));
    rests = λ q bits xs ws k. means.rests (chosen kept q) bits xs ws (as_case q bits xs ws k);
  }

pub net_means_netlist : NetMeansNetlist
net_means_netlist b kept net c is_net means = it_means b kept net c is_net means

pub net_has_terms : NetHasTerms
net_has_terms b kept net is_net = record { outputs = is_net.outputs; next = is_net.next; outputs_within = is_net.outputs_within; next_within = is_net.next_within }

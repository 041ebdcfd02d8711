-- Where a circuit isn't extracted: the module or the output is one of the circuit.
use Rattle.std.proofs.Common.{ℕ, suc, zero, ◌≡◌, ◌<◌, ◌≤◌, ◌+◌, ◌⊎◌, ◌&&◌, ◌||◌, not, Bool, true, false, List, [], ◌∷◌, ◌++◌, length, map, get_or, Some, refl, sym, ap, subst, ◌∙◌, inl, inr, arith}
use Rattle.std.specs.Prelude.{Contains, Err, slice_get, slice_index_or}
use Rattle.std.specs.List.{list_any}
use Rattle.std.specs.Str.{bytes_eq}
use Rattle.std.proofs.lemmas.Bool.{cases_lt, false≢true}
use Rattle.std.proofs.lemmas.List.{get_or_past}
use Rattle.std.proofs.lemmas.Slice.Eq.{bytes_eq-Decides}
use Rattle.act1_base.proofs.ListGets.{contains_at, get_map, get_mapped, get_read, get_within, one_at, place_of, some_is}
use Rattle.act1_order.specs.Order.{LeadsTo, OnRing, Reads}
use Rattle.act1_circuit.specs.declared.circuit.Circuit.{Circuit}
use Rattle.act1_circuit.specs.declared.circuit.Output.{Output}
use Rattle.act1_circuit.specs.declared.circuit.Placed.{Placed}
use Rattle.act1_circuit.specs.declared.circuit.Start.{Start as StartAt}
use Rattle.act1_circuit.specs.declared.pairs.FormFault.TheVariants as form
use Rattle.act1_circuit.specs.FormFaults.{FormGives}
use Rattle.act1_circuit.specs.PairForm.{outside_reads}
use Rattle.act1_circuit.proofs.FormLemmas.{start_within}
use Rattle.act1_circuit.proofs.OutsideGraph.{graph_long}
use Rattle.act1_meaning.specs.ArrayNames.{IsClash, is_own_signal}
use Rattle.act1_extract.specs.Gives.{is_clash, is_signal_name}
use Rattle.act1_extract.specs.Net.{IsArrayCircuit}
use Rattle.act1_extract.proofs.Tests.{get_behind, get_front, get_split}

reader_low : (reads : List (List ℕ)) (m k : ℕ) → Reads reads m k → m < length reads
reader_low reads m k h = by (cases_lt m (length reads))
  where
    by : (m < length reads) ⊎ (length reads ≤ m) → m < length reads
    by (inl low) = low
    by (inr high) =
        let g = subst (λ (ks : List ℕ). Contains ks k) (get_or_past reads m [] high) h in
        absurd (omega (arith, g.1))

on_ring_low : (reads : List (List ℕ)) (m : ℕ) → OnRing reads m → m < length reads
on_ring_low reads m ring = by ring.path ring.leads
  where
    by : (path : List ℕ) → LeadsTo reads m path m → m < length reads
    by [] h = reader_low reads m m h
    by (u ∷ path) h = reader_low reads m u h.0

pub ring_low : (p : Placed) (m : ℕ) → IsArrayCircuit p → FormGives p.circuit (Err (form.Ring m)) → m < length p.spots
ring_low p m is h = let low = on_ring_low (outside_reads p.circuit) m h.has in let long = graph_long p.circuit in let same = is.spots in omega arith

pub start_low : (p : Placed) (m : ℕ) → IsArrayCircuit p → FormGives p.circuit (Err (form.Start m)) → m < length p.spots
start_low p m is h = let low = start_within p.circuit is.rules.range m h.has in let same = is.spots in omega arith

pub halves : (a b : Bool) → (a && b) ≡ true → (a ≡ true) × (b ≡ true)
halves true b e = (refl, e)
halves false b e = absurd (false≢true e)

turned : (a : Bool) → not a ≡ true → a ≡ false
turned false e = refl
turned true e = absurd (false≢true e)

module _ (c : Circuit) where
  pub any_at : {X : Type 0} (p : X → Bool) (xs : List X) → list_any p xs ≡ true → (j : ℕ) × (x : X) × (slice_get xs j ≡ Some x) × (p x ≡ true)
  any_at p [] e = absurd (false≢true e)
  any_at {X} p (y ∷ xs) e = by (p y) refl (any_at p xs) e
    where
      by : (b : Bool) → p y ≡ b → (list_any p xs ≡ true → (j : ℕ) × (x : X) × (slice_get xs j ≡ Some x) × (p x ≡ true)) → (b || list_any p xs) ≡ true → (j : ℕ) × (x : X) × (slice_get (y ∷ xs) j ≡ Some x) × (p x ≡ true)
      by true f r h = (0, y, refl, f)
      by false f r h = let s = r h in (suc s.0, s.1, s.2, s.3)

  abbrev signal_names : List (List ℕ)
  signal_names = c.inputs ++ map (λ (s : StartAt). s.name) c.starts

  named : (name : List ℕ) → is_signal_name c name ≡ true → Contains signal_names name
  named name e = by (list_any (λ (input : List ℕ). bytes_eq input name) c.inputs) refl e
    where
      by : (b : Bool) → list_any (λ (input : List ℕ). bytes_eq input name) c.inputs ≡ b → (b || list_any (λ (s : StartAt). bytes_eq s.name name) c.starts) ≡ true → Contains signal_names name
      by true f h =
          let r = any_at (λ (input : List ℕ). bytes_eq input name) c.inputs f in
          let is : r.1 ≡ name = (bytes_eq-Decides r.1 name).0 r.3 in
          contains_at signal_names r.0 name (get_front c.inputs (map (λ (s : StartAt). s.name) c.starts) r.0 name (r.2 ∙ ap (λ (n : List ℕ). Some n) is))
      by false f h =
          let r = any_at (λ (s : StartAt). bytes_eq s.name name) c.starts h in
          let is : r.1.name ≡ name = (bytes_eq-Decides r.1.name name).0 r.3 in
          let at = get_map (λ (s : StartAt). s.name) c.starts r.0 r.1 r.2 in
          contains_at signal_names (length c.inputs + r.0) name (get_behind c.inputs (map (λ (s : StartAt). s.name) c.starts) (length c.inputs + r.0) r.0 name (at ∙ ap (λ (n : List ℕ). Some n) is) refl)

  pub clash_is : (i : ℕ) (o : Output) → i < length c.outputs → o ≡ get_or c.outputs i o → is_clash c o ≡ true → IsClash c i
  clash_is i o low read e =
      let h = halves (not (is_own_signal c o)) (is_signal_name c o.name) e in
      record { output = o; there = get_read c.outputs i o low read; named = named o.name h.1; other = turned (is_own_signal c o) h.0 }

  some_true : {X : Type 0} (p : X → Bool) (xs : List X) (j : ℕ) (x : X) → slice_get xs j ≡ Some x → p x ≡ true → list_any p xs ≡ true
  some_true p [] j x e f = cc
  some_true p (y ∷ xs) zero x e f = ap (λ (b : Bool). b || list_any p xs) (ap p (some_is y x e) ∙ f)
  some_true p (y ∷ xs) (suc j) x e f = right (p y) (list_any p xs) (some_true p xs j x e f)
    where
      right : (a b : Bool) → b ≡ true → (a || b) ≡ true
      right true b e = refl
      right false b e = e

  unnamed : (name : List ℕ) → Contains signal_names name → is_signal_name c name ≡ true
  unnamed name h = let at = place_of signal_names name h in by (get_split c.inputs (map (λ (s : StartAt). s.name) c.starts) at.0 name at.1)
    where
      left : (a b : Bool) → a ≡ true → (a || b) ≡ true
      left true b e = refl
      left false b e = absurd (false≢true e)

      right : (a b : Bool) → b ≡ true → (a || b) ≡ true
      right true b e = refl
      right false b e = e

      by : {k : ℕ} → (slice_get c.inputs k ≡ Some name) ⊎ ((j : ℕ) × (k ≡ length c.inputs + j) × (slice_get (map (λ (s : StartAt). s.name) c.starts) j ≡ Some name)) → is_signal_name c name ≡ true
      by {k} (inl e) = left (list_any (λ (input : List ℕ). bytes_eq input name) c.inputs) (list_any (λ (s : StartAt). bytes_eq s.name name) c.starts) (some_true (λ (input : List ℕ). bytes_eq input name) c.inputs k name e ((bytes_eq-Decides name name).1 refl))
      by (inr (j, at, e)) =
          let r = get_mapped (λ (s : StartAt). s.name) c.starts j name e in
          right (list_any (λ (input : List ℕ). bytes_eq input name) c.inputs) (list_any (λ (s : StartAt). bytes_eq s.name name) c.starts) (some_true (λ (s : StartAt). bytes_eq s.name name) c.starts j r.0 r.1 ((bytes_eq-Decides r.0.name name).1 r.2))

  clash_true : (i : ℕ) (o : Output) → slice_get c.outputs i ≡ Some o → IsClash c i → is_clash c o ≡ true
  clash_true i o there h =
      let is = one_at c.outputs i h.output o h.there there in
      subst (λ (u : Output). is_clash c u ≡ true) is (both (not (is_own_signal c h.output)) (is_signal_name c h.output.name) (ap not h.other) (unnamed h.output.name h.named))
    where
      both : (a b : Bool) → a ≡ true → b ≡ true → (a && b) ≡ true
      both true b e f = f
      both false b e f = absurd (false≢true e)

  -- none of the first outputs clashes, and neither does the next one
  pub clash_step : (i n : ℕ) (o : Output) → n ≡ i + 1 → i < length c.outputs → o ≡ get_or c.outputs i o → is_clash c o ≡ false → ((k : ℕ) → k < i → IsClash c k → ⊥) → (k : ℕ) → k < n → IsClash c k → ⊥
  clash_step i n o next low read e before k small h = by (cases_lt k i)
    where
      by : (k < i) ⊎ (i ≤ k) → ⊥
      by (inl less) = before k less h
      by (inr high) =
          let is : k ≡ i = omega arith in
          false≢true (sym e ∙ clash_true i o (get_read c.outputs i o low read) (subst (λ (j : ℕ). IsClash c j) is h))

  pub clash_none : ((k : ℕ) → k < length c.outputs → IsClash c k → ⊥) → (k : ℕ) → IsClash c k → ⊥
  clash_none none k h = none k (get_within c.outputs k h.output h.there) h

-- An array has at most one answer: each refusal says that a condition of a sound array fails that all later ones need.
use Rattle.std.proofs.Common.{ℕ, zero, suc, ◌≡◌, ◌≢◌, ◌<◌, ◌⊎◌, List, [], ◌∷◌, Result, Ok, Err, All, Contains, inl, inr, refl, sym, ap, subst, ◌∙◌, arith}
use Rattle.std.specs.Prelude.{slice_get}
use Rattle.std.proofs.lemmas.Bool.{cases_order}
use Rattle.std.proofs.lemmas.List.Elements.{All-contains}
use Rattle.act1_base.specs.Rising.{Rises}
use Rattle.act1_base.proofs.ListGets.{some_is, contains_at, place_of}
use Rattle.act1_device.specs.declared.device.Device.{Device}
use Rattle.act1_circuit.specs.declared.circuit.Placed.{Placed}
use Rattle.act1_circuit.specs.declared.circuit.Source.{Source}
use Rattle.act1_circuit.specs.declared.circuit.Spot.{Spot}
use Rattle.act1_circuit.specs.Spots.{SpotIsBefore}
use Rattle.act1_fuses.specs.declared.fuses.FuseFile.{FuseFile}
use Rattle.act1_fuses.specs.declared.fuses.Port.{Port}
use Rattle.act1_fuses.specs.declared.fuses.StartAt.{StartAt}
use Rattle.act1_fuses.specs.Array.{IsFed, IsUsed, Sound, pad_wire}
use Rattle.act1_fuses.specs.Laws.{OneCircuit}
use Rattle.act1_array.specs.declared.fault.ArrayFault.{ArrayFault}
use Rattle.act1_array.specs.declared.fault.ArrayFault.TheVariants.{Driven, Floating, Unfed, StartUnused, Memory}
use Rattle.act1_array.specs.Gives.{AreUsed, Gives, IsDriven, IsFirstFloating, IsFirstUnfed, IsFirstUnused, IsLeastPair, OutputsAreFed, PairIsUpTo, PinIsBefore, PinsAreFed, source_place}
use Rattle.act1_array.specs.Laws.{OneAnswer}
use Rattle.act1_array.proofs.NetworkLemmas.{after_first, not_both}
use Rattle.act1_array.proofs.OwnerLemmas.{one_source}

in_tail : {X : Type 0} (x : X) (xs : List X) (y : X) → Contains (x ∷ xs) y → (x ≡ y) ⊎ Contains xs y
in_tail x xs y (zero, low, e) = inl e
in_tail x xs y (suc k, low, e) = inr (k, omega arith, e)

in_more : {X : Type 0} (x : X) (xs : List X) (y : X) → Contains xs y → Contains (x ∷ xs) y
in_more x xs y (k, low, e) = (suc k, omega arith, e)

-- the first of spots that rise is before all others
first_before : (x : Spot) (xs : List Spot) → Rises SpotIsBefore (x ∷ xs) → (s : Spot) → Contains xs s → SpotIsBefore x s
first_before x xs rise s h = let place = place_of xs s h in after_first x xs rise place.0 s place.1

tail_rises : (x : Spot) (xs : List Spot) → Rises SpotIsBefore (x ∷ xs) → Rises SpotIsBefore xs
tail_rises x [] h = tt
tail_rises x (y ∷ xs) h = h.1

in_rest : (x : Spot) (xs ys : List Spot) → Rises SpotIsBefore (x ∷ xs) → ((s : Spot) → Contains (x ∷ xs) s → Contains (x ∷ ys) s) → (s : Spot) → Contains xs s → Contains ys s
in_rest x xs ys rise into s h = cases (in_tail x ys s (into s (in_more x xs s h)))
  where
    cases : (x ≡ s) ⊎ Contains ys s → Contains ys s
    cases (inl e) = let itself = subst (λ (t : Spot). SpotIsBefore t s) e (first_before x xs rise s h) in absurd (not_both s s itself itself)
    cases (inr k) = k

same_first : (x : Spot) (xs : List Spot) (y : Spot) (ys : List Spot) → Rises SpotIsBefore (x ∷ xs) → Rises SpotIsBefore (y ∷ ys) → (x ≡ y) ⊎ Contains xs y → (y ≡ x) ⊎ Contains ys x → x ≡ y
same_first x xs y ys h k (inl e) f = e
same_first x xs y ys h k (inr e) (inl f) = sym f
same_first x xs y ys h k (inr e) (inr f) = absurd (not_both x y (first_before x xs h y e) (first_before y ys k x f))

-- spots that rise are told by which there are
same_spots : (xs ys : List Spot) → Rises SpotIsBefore xs → Rises SpotIsBefore ys → ((s : Spot) → Contains xs s → Contains ys s) → ((s : Spot) → Contains ys s → Contains xs s) → xs ≡ ys
same_spots [] [] h k f g = refl
same_spots [] (y ∷ ys) h k f g = absurd (omega (arith, (g y (0, omega arith, refl)).1))
same_spots (x ∷ xs) [] h k f g = absurd (omega (arith, (f x (0, omega arith, refl)).1))
same_spots (x ∷ xs) (y ∷ ys) h k f g =
    let e = same_first x xs y ys h k (in_tail x xs y (g y (0, omega arith, refl))) (in_tail y ys x (f x (0, omega arith, refl))) in
    let into = subst (λ (z : Spot). (s : Spot) → Contains (x ∷ xs) s → Contains (z ∷ ys) s) (sym e) f in
    let back = subst (λ (z : Spot). (s : Spot) → Contains (z ∷ ys) s → Contains (x ∷ xs) s) (sym e) g in
    let rise = subst (λ (z : Spot). Rises SpotIsBefore (z ∷ ys)) (sym e) k in
    ap (λ (z : Spot). z ∷ xs) e ∙ ap (λ (zs : List Spot). y ∷ zs) (same_spots xs ys (tail_rises x xs h) (tail_rises y ys k) (in_rest x xs ys h into) (in_rest x ys xs rise back))

-- two spots are one, or one is before the other
spots_order : (s t : Spot) → (s ≡ t) ⊎ (SpotIsBefore s t ⊎ SpotIsBefore t s)
spots_order s t = cases (cases_order s.row t.row) (cases_order s.column t.column)
  where
    spot_at : ℕ → ℕ → Spot
    spot_at r c = record { row = r; column = c }

    cases : (s.row ≡ t.row) ⊎ ((s.row < t.row) ⊎ (t.row < s.row)) → (s.column ≡ t.column) ⊎ ((s.column < t.column) ⊎ (t.column < s.column)) → (s ≡ t) ⊎ (SpotIsBefore s t ⊎ SpotIsBefore t s)
    cases (inl row) (inl column) = inl (ap (λ (r : ℕ). spot_at r s.column) row ∙ ap (spot_at t.row) column)
    cases (inl row) (inr (inl low)) = inr (inl (inr (row, low)))
    cases (inl row) (inr (inr low)) = inr (inr (inr (sym row, low)))
    cases (inr (inl low)) column = inr (inl (inl low))
    cases (inr (inr low)) column = inr (inr (inl low))

module _ (dev : Device) (f : FuseFile) where
  used_once : (xs ys : List Spot) → AreUsed f.sites xs → AreUsed f.sites ys → xs ≡ ys
  used_once xs ys a b = same_spots xs ys a.rise b.rise (λ s h. (b.used s).0 ((a.used s).1 h)) (λ s h. (a.used s).0 ((b.used s).1 h))

  -- pairs that are up to each other
  same_pair : (s t u v : Source) → PairIsUpTo f s t u v → PairIsUpTo f u v s t → (source_place f s ≡ source_place f u) × (source_place f t ≡ source_place f v)
  same_pair s t u v (inl a) (inl b) = absurd (omega (arith, a, b))
  same_pair s t u v (inl a) (inr b) = absurd (omega (arith, a, b.0))
  same_pair s t u v (inr a) (inl b) = absurd (omega (arith, a.0, b))
  same_pair s t u v (inr a) (inr b) = (a.0, omega (arith, a.1, b.1))

  one_least : (spots : List Spot) (s t u v : Source) → IsLeastPair dev f spots s t → IsLeastPair dev f spots u v → (s ≡ u) × (t ≡ v)
  one_least spots s t u v a b =
      let places = same_pair s t u v (a.least u v b.joined) (b.least s t a.joined) in
      (one_source f spots s u a.joined.from b.joined.from a.joined.from_is b.joined.from_is places.0, one_source f spots t v a.joined.to b.joined.to a.joined.to_is b.joined.to_is places.1)

  one_driven : (s t u v : Source) → IsDriven dev f s t → IsDriven dev f u v → Driven s t ≡ Driven u v
  one_driven s t u v a b =
      let same = one_least b.spots s t u v (subst (λ (spots : List Spot). IsLeastPair dev f spots s t) (used_once a.spots b.spots a.used b.used) a.pair) b.pair in
      ap (λ (x : Source). Driven x t) same.0 ∙ ap (λ (y : Source). Driven u y) same.1

  one_floating : (s t : Spot) (j k : ℕ) → IsFirstFloating dev f s j → IsFirstFloating dev f t k → Floating s j ≡ Floating t k
  one_floating s t j k a b = by_spot (spots_order s t) (cases_order j k)
    where
      before : PinIsBefore s j t k → Floating s j ≡ Floating t k
      before low = absurd (a.floats (b.first s j a.used a.low low))

      behind : PinIsBefore t k s j → Floating s j ≡ Floating t k
      behind low = absurd (b.floats (a.first t k b.used b.low low))

      by_spot : (s ≡ t) ⊎ (SpotIsBefore s t ⊎ SpotIsBefore t s) → (j ≡ k) ⊎ ((j < k) ⊎ (k < j)) → Floating s j ≡ Floating t k
      by_spot (inl e) (inl pin) = ap (λ (x : Spot). Floating x j) e ∙ ap (λ (y : ℕ). Floating t y) pin
      by_spot (inl e) (inr (inl low)) = before (inr (e, low))
      by_spot (inl e) (inr (inr low)) = behind (inr (sym e, low))
      by_spot (inr (inl low)) pin = before (inl low)
      by_spot (inr (inr low)) pin = behind (inl low)

  one_unfed : (j k : ℕ) → IsFirstUnfed dev f j → IsFirstUnfed dev f k → Unfed j ≡ Unfed k
  one_unfed j k a b = cases (cases_order j k)
    where
      cases : (j ≡ k) ⊎ ((j < k) ⊎ (k < j)) → Unfed j ≡ Unfed k
      cases (inl e) = ap (λ (x : ℕ). Unfed x) e
      cases (inr (inl low)) = absurd (a.unfed (b.first j a.port low a.place))
      cases (inr (inr low)) = absurd (b.unfed (a.first k b.port low b.place))

  one_unused : (s t : Spot) → IsFirstUnused f s → IsFirstUnused f t → StartUnused s ≡ StartUnused t
  one_unused s t a b = ap (λ (x : Spot). StartUnused x) (sym a.spot_is ∙ ap (λ (x : StartAt). x.spot) (cases (cases_order a.number b.number)) ∙ b.spot_is)
    where
      cases : (a.number ≡ b.number) ⊎ ((a.number < b.number) ⊎ (b.number < a.number)) → a.start ≡ b.start
      cases (inl e) = some_is a.start b.start (sym a.place ∙ ap (slice_get f.starts) e ∙ b.place)
      cases (inr (inl low)) = absurd (a.unused (subst (λ (x : Spot). IsUsed f.sites x) a.spot_is (b.first a.number a.start low a.place)))
      cases (inr (inr low)) = absurd (b.unused (subst (λ (x : Spot). IsUsed f.sites x) b.spot_is (a.first b.number b.start low b.place)))

  -- where all pins, outputs or starts are right, none is the first that isn't
  pins_or_floating : (s : Spot) (pin : ℕ) → PinsAreFed dev f → IsFirstFloating dev f s pin → ⊥
  pins_or_floating s pin fed h = h.floats (fed s pin h.used h.low)

  outputs_or_unfed : (output : ℕ) → OutputsAreFed dev f → IsFirstUnfed dev f output → ⊥
  outputs_or_unfed output fed h = h.unfed (All-contains (λ (port : Port). IsFed dev f (pad_wire port.pad)) f.outs h.port fed (contains_at f.outs output h.port h.place))

  starts_or_unused : (s : Spot) → All (λ (start : StartAt). IsUsed f.sites start.spot) f.starts → IsFirstUnused f s → ⊥
  starts_or_unused s used h =
      h.unused (subst (λ (x : Spot). IsUsed f.sites x) h.spot_is (All-contains (λ (start : StartAt). IsUsed f.sites start.spot) f.starts h.start used (contains_at f.starts h.number h.start h.place)))

  -- a sound array isn't refused
  sound_or_refused : (e : ArrayFault) → e ≢ Memory → Sound dev f → Gives dev f (Err e) → ⊥
  sound_or_refused (Driven first second) cause sound h = h.fails sound.apart
  sound_or_refused (Floating spot pin) cause sound h = pins_or_floating spot pin sound.pins h.1
  sound_or_refused (Unfed output) cause sound h = outputs_or_unfed output sound.outputs h.2
  sound_or_refused (StartUnused spot) cause sound h = starts_or_unused spot sound.starts h.3
  sound_or_refused Memory cause sound h = cause refl

  -- two refusals are one
  one_refusal : (e other : ArrayFault) → e ≢ Memory → other ≢ Memory → Gives dev f (Err e) → Gives dev f (Err other) → e ≡ other
  one_refusal (Driven s t) (Driven u v) cause next a b = one_driven s t u v a b
  one_refusal (Driven s t) (Floating spot pin) cause next a b = absurd (a.fails b.0)
  one_refusal (Driven s t) (Unfed output) cause next a b = absurd (a.fails b.0)
  one_refusal (Driven s t) (StartUnused spot) cause next a b = absurd (a.fails b.0)
  one_refusal (Floating spot pin) (Driven s t) cause next a b = absurd (b.fails a.0)
  one_refusal (Floating spot pin) (Floating other k) cause next a b = one_floating spot other pin k a.1 b.1
  one_refusal (Floating spot pin) (Unfed output) cause next a b = absurd (pins_or_floating spot pin b.1 a.1)
  one_refusal (Floating spot pin) (StartUnused other) cause next a b = absurd (pins_or_floating spot pin b.1 a.1)
  one_refusal (Unfed output) (Driven s t) cause next a b = absurd (b.fails a.0)
  one_refusal (Unfed output) (Floating spot pin) cause next a b = absurd (pins_or_floating spot pin a.1 b.1)
  one_refusal (Unfed output) (Unfed k) cause next a b = one_unfed output k a.2 b.2
  one_refusal (Unfed output) (StartUnused spot) cause next a b = absurd (outputs_or_unfed output b.2 a.2)
  one_refusal (StartUnused spot) (Driven s t) cause next a b = absurd (b.fails a.0)
  one_refusal (StartUnused spot) (Floating other pin) cause next a b = absurd (pins_or_floating other pin a.1 b.1)
  one_refusal (StartUnused spot) (Unfed output) cause next a b = absurd (outputs_or_unfed output a.2 b.2)
  one_refusal (StartUnused spot) (StartUnused other) cause next a b = one_unused spot other a.3 b.3
  one_refusal Memory other cause next a b = absurd (cause refl)
  one_refusal e Memory cause next a b = absurd (next refl)

abbrev circuit : Placed → Result Placed ArrayFault
circuit p = Ok p

abbrev refused : ArrayFault → Result Placed ArrayFault
refused e = Err e

-- what isn't want of memory is a cause
is_cause : (e : ArrayFault) → refused e ≢ Err Memory → e ≢ Memory
is_cause e cause same = cause (ap refused same)

-- an array has one answer, where a sound one has one circuit
pub one_answer : OneCircuit → OneAnswer
one_answer one dev f rules (Ok p) (Ok q) cause next a b = ap circuit (one dev f rules a.0 p q a.1 b.1)
one_answer one dev f rules (Ok p) (Err e) cause next a b = absurd (sound_or_refused dev f e (is_cause e next) a.0 b)
one_answer one dev f rules (Err e) (Ok p) cause next a b = absurd (sound_or_refused dev f e (is_cause e cause) b.0 a)
one_answer one dev f rules (Err e) (Err other) cause next a b = ap refused (one_refusal dev f e other (is_cause e cause) (is_cause other next) a b)

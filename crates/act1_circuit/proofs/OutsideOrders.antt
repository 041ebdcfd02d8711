-- The modules outside pairs in an order of all modules.
use Rattle.std.proofs.Common.{ℕ, zero, suc, ◌≡◌, ◌<◌, Bool, true, false, not, cond, List, [], ◌∷◌, length, Some, refl, sym, ap, subst, ◌∙◌, arith}
use Rattle.std.specs.Prelude.{Contains, filter, slice_get}
use Rattle.act1_base.proofs.ListGets.{some_is, contains_at, place_of}
use Rattle.act1_order.specs.Order.{IsOrder, Reads, StandsBefore}
use Rattle.act1_circuit.specs.declared.circuit.Circuit.{Circuit}
use Rattle.act1_circuit.specs.FormFaults.{IsOutsideOrder}
use Rattle.act1_circuit.specs.PairForm.{has_clock, outside_reads}
use Rattle.act1_circuit.proofs.OutsideGraph.{graph_long, reads_unclocked}

-- how many of the first elements pass a test
passing : {X : Type 0} → (X → Bool) → List X → ℕ → ℕ
passing p [] j = 0
passing p (x ∷ xs) zero = 0
passing p (x ∷ xs) (suc j) = cond (p x) (suc (passing p xs j)) (passing p xs j)

module _ {X : Type 0} (p : X → Bool) where
  -- an element that passes stands after those that pass before it
  kept : (xs : List X) (j : ℕ) (x : X) → slice_get xs j ≡ Some x → p x ≡ true → slice_get (filter p xs) (passing p xs j) ≡ Some x
  unfolding passing
  kept [] j x e is = cc
  kept (y ∷ xs) zero x e is = subst (λ (b : Bool). slice_get (cond b (y ∷ filter p xs) (filter p xs)) 0 ≡ Some x) (sym (ap p (some_is y x e) ∙ is)) e
  kept (y ∷ xs) (suc j) x e is = by (p y) (kept xs j x e is)
    where
      by : (b : Bool) → slice_get (filter p xs) (passing p xs j) ≡ Some x → slice_get (cond b (y ∷ filter p xs) (filter p xs)) (cond b (suc (passing p xs j)) (passing p xs j)) ≡ Some x
      by true f = f
      by false f = f

  -- and only such elements stand there
  kept_from : (xs : List X) (i : ℕ) (x : X) → slice_get (filter p xs) i ≡ Some x → (j : ℕ) × (slice_get xs j ≡ Some x) × (p x ≡ true) × (passing p xs j ≡ i)
  unfolding passing
  kept_from [] i x e = cc
  kept_from (y ∷ xs) i x e = by (kept_from xs) (p y) refl i e
    where
      later : (b : Bool) → p y ≡ b → (k : ℕ) → (j : ℕ) × (slice_get xs j ≡ Some x) × (p x ≡ true) × (passing p xs j ≡ k) → (j : ℕ) × (slice_get (y ∷ xs) j ≡ Some x) × (p x ≡ true) × (passing p (y ∷ xs) j ≡ cond b (suc k) k)
      later b is k (j, f, passes, same) = (suc j, f, passes, ap (λ (t : Bool). cond t (suc (passing p xs j)) (passing p xs j)) is ∙ ap (λ (n : ℕ). cond b (suc n) n) same)

      by : ((k : ℕ) (x : X) → slice_get (filter p xs) k ≡ Some x → (j : ℕ) × (slice_get xs j ≡ Some x) × (p x ≡ true) × (passing p xs j ≡ k)) → (b : Bool) → p y ≡ b → (k : ℕ) → slice_get (cond b (y ∷ filter p xs) (filter p xs)) k ≡ Some x → (j : ℕ) × (slice_get (y ∷ xs) j ≡ Some x) × (p x ≡ true) × (passing p (y ∷ xs) j ≡ k)
      by rest true is zero f = (0, f, sym (ap p (some_is y x f)) ∙ is, refl)
      by rest true is (suc k) f = later true is k (rest k x f)
      by rest false is k f = later false is k (rest k x f)

  -- more pass before a later element
  passing_more : (xs : List X) (i j : ℕ) (x y : X) → slice_get xs i ≡ Some x → p x ≡ true → slice_get xs j ≡ Some y → i < j → passing p xs i < passing p xs j
  unfolding passing
  passing_more [] i j x y e is f low = cc
  passing_more (z ∷ xs) i zero x y e is f low = absurd (omega arith)
  passing_more (z ∷ xs) zero (suc j) x y e is f low = subst (λ (b : Bool). 0 < cond b (suc (passing p xs j)) (passing p xs j)) (sym (ap p (some_is z x e) ∙ is)) (omega arith)
  passing_more (z ∷ xs) (suc i) (suc j) x y e is f low = by (p z) (passing_more xs i j x y e is f (omega arith))
    where
      by : (b : Bool) → passing p xs i < passing p xs j → cond b (suc (passing p xs i)) (passing p xs i) < cond b (suc (passing p xs j)) (passing p xs j)
      by true more = omega arith
      by false more = more

abbrev outside : Circuit → ℕ → Bool
outside c m = not (has_clock c m)

is_outside : (c : Circuit) (m : ℕ) → outside c m ≡ true → has_clock c m ≡ false
is_outside c m = by (has_clock c m)
  where
    by : (b : Bool) → not b ≡ true → b ≡ false
    by true e = cc
    by false e = refl

-- those without the clock, in an order of all
pub outside_order : (c : Circuit) (order : List ℕ) → IsOrder (outside_reads c) order → IsOutsideOrder c (filter (outside c) order)
outside_order c order all = record { outside = outside_at; each = each; once = once; after = after }
  where
    outside_at : (i m : ℕ) → slice_get (filter (outside c) order) i ≡ Some m → (m < length c.modules) × (has_clock c m ≡ false)
    outside_at i m e = let from = kept_from (outside c) order i m e in let low = all.inside from.0 m from.1 in let long = graph_long c in (omega arith, is_outside c m from.2)

    each : (m : ℕ) → m < length c.modules → has_clock c m ≡ false → Contains (filter (outside c) order) m
    each m low none = let long = graph_long c in let at = place_of order m (all.there m (omega arith)) in contains_at (filter (outside c) order) (passing (outside c) order at.0) m (kept (outside c) order at.0 m at.1 (ap not none))

    once : (i j m : ℕ) → slice_get (filter (outside c) order) i ≡ Some m → slice_get (filter (outside c) order) j ≡ Some m → i ≡ j
    once i j m e f =
        let first = kept_from (outside c) order i m e in
        let second = kept_from (outside c) order j m f in
        sym first.3 ∙ ap (passing (outside c) order) (all.once first.0 second.0 m first.1 second.1) ∙ second.3

    after : (i m k : ℕ) → slice_get (filter (outside c) order) i ≡ Some m → Reads (outside_reads c) m k → StandsBefore (filter (outside c) order) i k
    after i m k e reads =
        let from = kept_from (outside c) order i m e in
        let before = all.after from.0 m k from.1 reads in
        let is = ap not (reads_unclocked c m k reads) in
        let more = passing_more (outside c) order before.place from.0 k m before.there is from.1 before.before in
        record { place = passing (outside c) order before.place; before = subst (λ (n : ℕ). passing (outside c) order before.place < n) from.3 more; there = kept (outside c) order before.place k before.there is }

-- How it is seen that each vertex stands after those that it reads.
use Rattle.std.proofs.Common.{ℕ, suc, zero, ◌≡◌, ◌≢◌, ◌<◌, ◌≤◌, ◌+◌, ◌⊎◌, Bool, true, false, List, length, Some, sym, ap, subst, ◌∙◌, inl, inr, arith, replicate}
use Rattle.std.specs.Prelude.{slice_get, slice_set}
use Rattle.std.proofs.lemmas.Bool.{cases_eq}
use Rattle.std.proofs.lemmas.List.{length-set, length-replicate}
use Rattle.act1_order.specs.Order.{Reads, StandsBefore, IsOrder}
use Rattle.act1_order.specs.ClosingSteps.{IsClosingOrder}
use Rattle.act1_order.specs.ReachSteps.{IsMarked}
use Rattle.act1_base.proofs.ListGets.{some_is, get_within, get_written, get_unwritten}

-- the vertices before the place n are marked, and each of them stands after those that it reads
pub record IsSortedTo (reads : List (List ℕ)) (order : List ℕ) (n : ℕ) (placed : List Bool) : Type 0 where
  pub all : length placed ≡ length reads
  pub marked : (w : ℕ) → IsMarked placed w → StandsBefore order n w
  pub standing : (w : ℕ) → StandsBefore order n w → IsMarked placed w
  pub after : (p v w : ℕ) → p < n → slice_get order p ≡ Some v → Reads reads v w → StandsBefore order p w

pub sorted_none : (reads : List (List ℕ)) (order : List ℕ) (placed : List Bool) → placed ≡ replicate (length reads) false → IsSortedTo reads order 0 placed
sorted_none reads order placed is = record {
  all = ap (λ (ms : List Bool). length ms) is ∙ length-replicate (length reads) false;
  marked = λ w m. absurd (bare (length reads) w (subst (λ (ms : List Bool). IsMarked ms w) is m));
  standing = λ w s. let before = s.before in absurd (omega arith);
  after = λ p v w low iv r. absurd (omega arith);
}
  where
    bare : (n w : ℕ) → IsMarked (replicate n false) w → ⊥
    bare zero w m = cc
    bare (suc n) zero m = cc
    bare (suc n) (suc w) m = bare n w m

module _ (reads : List (List ℕ)) (order : List ℕ) (n v : ℕ) (is : slice_get order n ≡ Some v) (placed : List Bool) (h : IsSortedTo reads order n placed) where
  -- one vertex more is placed, where those that it reads are
  pub sorted_more : v < length reads → ((w : ℕ) → Reads reads v w → IsMarked placed w) → IsSortedTo reads order (n + 1) (slice_set placed v true)
  sorted_more inside ready = record {
    all = length-set placed v true ∙ h.all;
    marked = λ w m. marked_by w m (cases_eq w v);
    standing = λ w s. standing_by w s (cases_eq s.place n);
    after = λ p a w low ia r. after_by p a w low ia r (cases_eq p n);
  }
    where
      low : v < length placed
      low = let all = h.all in omega arith

      later : (w : ℕ) → StandsBefore order n w → StandsBefore order (n + 1) w
      later w s = let before = s.before in record { place = s.place; before = omega arith; there = s.there }

      marked_by : (w : ℕ) → IsMarked (slice_set placed v true) w → (w ≡ v) ⊎ (w ≢ v) → StandsBefore order (n + 1) w
      marked_by w m (inl e) = record { place = n; before = omega arith; there = subst (λ (u : ℕ). slice_get order n ≡ Some u) (sym e) is }
      marked_by w m (inr apart) = later w (h.marked w (sym (get_unwritten placed v w true apart) ∙ m))

      this : (w : ℕ) → w ≡ v → IsMarked (slice_set placed v true) w
      this w e = subst (λ (u : ℕ). IsMarked (slice_set placed v true) u) (sym e) (get_written placed v true low)

      kept : (w : ℕ) → IsMarked placed w → (w ≡ v) ⊎ (w ≢ v) → IsMarked (slice_set placed v true) w
      kept w m (inl e) = this w e
      kept w m (inr apart) = get_unwritten placed v w true apart ∙ m

      standing_by : (w : ℕ) → (s : StandsBefore order (n + 1) w) → (s.place ≡ n) ⊎ (s.place ≢ n) → IsMarked (slice_set placed v true) w
      standing_by w s (inl e) = this w (some_is w v (sym s.there ∙ ap (slice_get order) e ∙ is))
      standing_by w s (inr apart) = let before = s.before in kept w (h.standing w (record { place = s.place; before = omega arith; there = s.there })) (cases_eq w v)

      after_by : (p a w : ℕ) → p < n + 1 → slice_get order p ≡ Some a → Reads reads a w → (p ≡ n) ⊎ (p ≢ n) → StandsBefore order p w
      after_by p a w under ia r (inl e) =
          let same = some_is a v (sym ia ∙ ap (slice_get order) e ∙ is) in
          subst (λ (q : ℕ). StandsBefore order q w) (sym e) (h.marked w (ready w (subst (λ (u : ℕ). Reads reads u w) same r)))
      after_by p a w under ia r (inr apart) = h.after p a w (omega arith) ia r

  -- in an order those that it reads are
  pub reads_marked : IsOrder reads order → (w : ℕ) → Reads reads v w → IsMarked placed w
  reads_marked o w r = h.standing w (o.after n v w is r)

pub sorted_all : (reads : List (List ℕ)) (order : List ℕ) → IsClosingOrder reads order → (n : ℕ) (placed : List Bool) → length order ≤ n → IsSortedTo reads order n placed → IsOrder reads order
sorted_all reads order o n placed whole h = record {
  all = o.all;
  inside = o.inside;
  once = o.once;
  there = o.there;
  after = λ p v w is r. let within = get_within order p v is in h.after p v w (omega arith) is r;
}

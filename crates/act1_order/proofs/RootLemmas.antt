-- What some roots lead to is what a search from them marks.
use Rattle.std.proofs.Common.{ℕ, zero, suc, ◌≡◌, ◌<◌, ◌+◌, ◌⊎◌, Bool, false, true, List, [], ◌∷◌, ◌++◌, length, replicate, Some, refl, sym, ap, subst, ◌∙◌, inl, inr, arith}
use Rattle.std.specs.Prelude.{Contains, slice_get, slice_index_or}
use Rattle.std.proofs.lemmas.List.{length-replicate}
use Rattle.act1_order.specs.Order.{Reads, LeadsTo}
use Rattle.act1_order.specs.Reach.{AreReachedFrom, IsReached}
use Rattle.act1_order.specs.ReachSteps.{IsMarked, IsReaching, Marks}
use Rattle.act1_order.specs.declared.reach.Reached.{Reached}
use Rattle.act1_order.proofs.ReachLemmas.{contains_more, contains_last, contains_cases, none_in}
use Rattle.act1_base.proofs.ListGets.{get_within}

none_true : (n u : ℕ) → slice_get (replicate n false) u ≡ Some true → ⊥
none_true zero u e = absurd (cc)
none_true (suc n) zero e = absurd (cc)
none_true (suc n) (suc u) e = none_true n u e

-- a step further along a path
further : (reads : List (List ℕ)) (v : ℕ) (path : List ℕ) (w u : ℕ) → LeadsTo reads v path w → Reads reads w u → (more : List ℕ) × LeadsTo reads v more u
further reads v [] w u l r = (w ∷ [], (l, r))
further reads v (t ∷ path) w u l r = let rest = further reads t path w u l.1 r in (t ∷ rest.0, (l.0, rest.1))

pub reached_next : (reads : List (List ℕ)) (roots : List ℕ) (w u : ℕ) → IsReached reads roots w → Reads reads w u → IsReached reads roots u
reached_next reads roots w u (inl c) r = inr (w, [], c, r)
reached_next reads roots w u (inr (root, path, c, l)) r = let more = further reads root path w u l r in inr (root, more.0, c, more.1)

-- the roots are marked first
pub roots_first : (reads : List (List ℕ)) (roots : List ℕ) (old new : Reached) → old.marks.items ≡ replicate (length reads) false → old.left.items ≡ [] → Marks roots old new → IsReaching reads roots new
roots_first reads roots old new none left m = record {
  all = m.all ∙ ap (λ (ms : List Bool). length ms) none ∙ length-replicate (length reads) false;
  only = λ u is. only_by u (m.only u is);
  roots_marked = λ u c. m.marked u c;
  left_marked = λ u c. left_by u (m.left_marked u c);
  closed = λ u w is r. closed_by u w (m.only u is);
}
  where
    bare : (u : ℕ) → IsMarked old.marks.items u → ⊥
    bare u is = none_true (length reads) u (subst (λ (ms : List Bool). IsMarked ms u) none is)

    only_by : (u : ℕ) → IsMarked old.marks.items u ⊎ (Contains roots u × Contains new.left.items u) → IsReached reads roots u
    only_by u (inl is) = absurd (bare u is)
    only_by u (inr c) = inl c.0

    left_by : (u : ℕ) → Contains old.left.items u ⊎ IsMarked new.marks.items u → IsMarked new.marks.items u
    left_by u (inl c) = absurd (none_in u (subst (λ (us : List ℕ). Contains us u) left c))
    left_by u (inr is) = is

    closed_by : (u w : ℕ) → IsMarked old.marks.items u ⊎ (Contains roots u × Contains new.left.items u) → IsMarked new.marks.items w ⊎ Contains new.left.items u
    closed_by u w (inl is) = absurd (bare u is)
    closed_by u w (inr c) = inr c.1

-- what the last of those that are still to be looked at reads is marked
pub roots_step : (reads : List (List ℕ)) (roots : List ℕ) (next : ℕ) (old mid new : Reached) → IsReaching reads roots old → mid.marks.items ≡ old.marks.items → old.left.items ≡ mid.left.items ++ next ∷ []
    → Marks (slice_index_or reads next []) mid new → IsReaching reads roots new
roots_step reads roots next old mid new h marks left m = record {
  all = m.all ∙ ap (λ (ms : List Bool). length ms) marks ∙ h.all;
  only = λ u is. only_by u (m.only u is);
  roots_marked = λ u c. kept u (h.roots_marked u c);
  left_marked = λ u c. left_by u (m.left_marked u c);
  closed = λ u w is r. closed_by u w r (m.only u is);
}
  where
    kept : (w : ℕ) → IsMarked old.marks.items w → IsMarked new.marks.items w
    kept w is = m.kept w (subst (λ (ms : List Bool). IsMarked ms w) (sym marks) is)

    next_marked : IsMarked old.marks.items next
    next_marked = h.left_marked next (subst (λ (us : List ℕ). Contains us next) (sym left) (contains_last mid.left.items next next refl))

    only_by : (u : ℕ) → IsMarked mid.marks.items u ⊎ (Contains (slice_index_or reads next []) u × Contains new.left.items u) → IsReached reads roots u
    only_by u (inl is) = h.only u (subst (λ (ms : List Bool). IsMarked ms u) marks is)
    only_by u (inr c) = reached_next reads roots next u (h.only next next_marked) c.0

    left_by : (u : ℕ) → Contains mid.left.items u ⊎ IsMarked new.marks.items u → IsMarked new.marks.items u
    left_by u (inl c) = kept u (h.left_marked u (subst (λ (us : List ℕ). Contains us u) (sym left) (contains_more mid.left.items u next c)))
    left_by u (inr is) = is

    next_by : (u w : ℕ) → Reads reads u w → Contains mid.left.items u ⊎ (u ≡ next) → IsMarked new.marks.items w ⊎ Contains new.left.items u
    next_by u w r (inl c) = inr (m.left_kept u c)
    next_by u w r (inr e) = inl (m.marked w (subst (λ (t : ℕ). Reads reads t w) e r))

    old_by : (u w : ℕ) → Reads reads u w → IsMarked old.marks.items w ⊎ Contains old.left.items u → IsMarked new.marks.items w ⊎ Contains new.left.items u
    old_by u w r (inl is) = inl (kept w is)
    old_by u w r (inr c) = next_by u w r (contains_cases mid.left.items u next (subst (λ (us : List ℕ). Contains us u) left c))

    closed_by : (u w : ℕ) → Reads reads u w → IsMarked mid.marks.items u ⊎ (Contains (slice_index_or reads next []) u × Contains new.left.items u) → IsMarked new.marks.items w ⊎ Contains new.left.items u
    closed_by u w r (inl is) = old_by u w r (h.closed u w (subst (λ (ms : List Bool). IsMarked ms u) marks is) r)
    closed_by u w r (inr c) = inr c.1

-- what is still to be looked at is one of the graph
pub root_low : (reads : List (List ℕ)) (roots : List ℕ) (next : ℕ) (s : Reached) (left : List ℕ) → IsReaching reads roots s → s.left.items ≡ left ++ next ∷ [] → next < length reads
root_low reads roots next s left h e =
    let low = get_within s.marks.items next true (h.left_marked next (subst (λ (us : List ℕ). Contains us next) (sym e) (contains_last left next next refl))) in
    let all = h.all in omega arith

no_length : (xs : List ℕ) → length xs ≡ 0 → xs ≡ []
no_length [] e = refl
no_length (x ∷ xs) e = absurd (omega arith)

module _ (reads : List (List ℕ)) (roots : List ℕ) (s : Reached) (h : IsReaching reads roots s) (none : length s.left.items ≡ 0) where
  one : (u w : ℕ) → IsMarked s.marks.items w ⊎ Contains s.left.items u → IsMarked s.marks.items w
  one u w (inl is) = is
  one u w (inr c) = absurd (none_in u (subst (λ (us : List ℕ). Contains us u) (no_length s.left.items none) c))

  follow : (u : ℕ) (path : List ℕ) (w : ℕ) → LeadsTo reads u path w → IsMarked s.marks.items u → IsMarked s.marks.items w
  follow u [] w r is = one u w (h.closed u w is r)
  follow u (t ∷ path) w l is = follow t path w l.1 (one u t (h.closed u t is l.0))

  marked : (w : ℕ) → IsReached reads roots w → IsMarked s.marks.items w
  marked w (inl c) = h.roots_marked w c
  marked w (inr (root, path, c, l)) = follow root path w l (h.roots_marked root c)

  -- it is done where none is left
  pub roots_done : AreReachedFrom reads roots s.marks.items
  roots_done = record { all = h.all; marked = marked; only = h.only }

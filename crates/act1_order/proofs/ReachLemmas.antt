-- What leads to some vertices is what a search back from them marks.
use Rattle.std.proofs.Common.{ℕ, ◌≡◌, ◌≢◌, ◌<◌, ◌≤◌, ◌+◌, ◌⊎◌, Bool, true, false, not, List, [], ◌∷◌, ◌++◌, length, get_or, Some, refl, sym, ap, subst, ◌∙◌, inl, inr, arith, cond, take}
use Rattle.std.specs.Prelude.{Contains, slice_get, slice_set, slice_index_or}
use Rattle.std.proofs.lemmas.Bool.{cases_eq}
use Rattle.std.proofs.lemmas.Option.{get_or_from_slice_get}
use Rattle.std.proofs.lemmas.List.{length-set, length-append, take_more}
use Rattle.std.proofs.lemmas.List.Sums.{sum_by-set}
use Rattle.act1_order.specs.Order.{Reads, LeadsTo, OnRing}
use Rattle.act1_order.specs.ClosingSteps.{DependsOn, IsClosingOrder, LeadsFrom}
use Rattle.act1_order.specs.ReadersSteps.{AreReaders}
use Rattle.act1_order.specs.ReachSteps.{AreMarkedFrom, AreReached, HasMarked, IsMarked, unmarked, Marks}
use Rattle.act1_order.specs.declared.reach.Reached.{Reached}
use Rattle.act1_order.proofs.ClosingLemmas.{leads_before, ring_by, ring_reads}
use Rattle.act1_base.proofs.ListGets.{some_is, get_within, get_more, get_last, get_cases, contains_at, place_of, get_written, get_unwritten}

pub contains_more : (xs : List ℕ) (x y : ℕ) → Contains xs x → Contains (xs ++ y ∷ []) x
contains_more xs x y c = let p = place_of xs x c in contains_at (xs ++ y ∷ []) p.0 x (get_more xs y x p.0 p.1)

pub contains_last : (xs : List ℕ) (x y : ℕ) → x ≡ y → Contains (xs ++ y ∷ []) x
contains_last xs x y e = subst (λ (u : ℕ). Contains (xs ++ y ∷ []) u) (sym e) (contains_at (xs ++ y ∷ []) (length xs) y (get_last xs y (length xs) refl))

pub contains_cases : (xs : List ℕ) (x y : ℕ) → Contains (xs ++ y ∷ []) x → Contains xs x ⊎ (x ≡ y)
contains_cases xs x y c = let p = place_of (xs ++ y ∷ []) x c in by (get_cases xs y x p.0 p.1)
  where
    by : {i : ℕ} → (slice_get xs i ≡ Some x) ⊎ ((i ≡ length xs) × (y ≡ x)) → Contains xs x ⊎ (x ≡ y)
    by {i} (inl h) = inl (contains_at xs i x h)
    by (inr h) = inr (sym h.1)

pub none_in : (x : ℕ) → Contains [] x → ⊥
none_in x c = absurd (omega (arith, c.1))

pub one_in : (x y : ℕ) → Contains (y ∷ []) x → x ≡ y
one_in x y c = by (contains_cases [] x y c)
  where
    by : Contains [] x ⊎ (x ≡ y) → x ≡ y
    by (inl h) = absurd (none_in x h)
    by (inr e) = e

pub this_in : (x y : ℕ) → x ≡ y → Contains (y ∷ []) x
this_in x y e = contains_last [] x y e

unmarked_set : (marks : List Bool) (w : ℕ) → slice_get marks w ≡ Some false → unmarked (slice_set marks w true) + 1 ≡ unmarked marks
unmarked_set marks w h =
    let s = subst (λ (b : Bool). unmarked (slice_set marks w true) + cond (not b) 1 0 ≡ unmarked marks + 0) (get_or_from_slice_get marks w false false h)
    (sum_by-set (λ (b : Bool). cond (not b) 1 0) marks w true false (get_within marks w false h)) in
    omega arith

-- a vertex that is marked already
pub marked_already : (w : ℕ) (s : Reached) → IsMarked s.marks.items w → Marks (w ∷ []) s s
marked_already w s is = record {
  all = refl;
  kept = λ u m. m;
  marked = λ u c. subst (λ (t : ℕ). IsMarked s.marks.items t) (sym (one_in u w c)) is;
  only = λ u m. inl m;
  left_kept = λ u c. c;
  left_marked = λ u c. inl c;
  same = refl;
}

-- a vertex that has no mark gets one
pub marked_now : (w : ℕ) (old new : Reached) → slice_get old.marks.items w ≡ Some false → new.marks.items ≡ slice_set old.marks.items w true → new.left.items ≡ old.left.items ++ w ∷ [] → Marks (w ∷ []) old new
marked_now w old new bare marks left = record {
  all = ap (λ (ms : List Bool). length ms) marks ∙ length-set old.marks.items w true;
  kept = λ u m. on u (kept_by u m (cases_eq u w));
  marked = λ u c. subst (λ (t : ℕ). IsMarked new.marks.items t) (sym (one_in u w c)) (on w (get_written old.marks.items w true low));
  only = λ u m. only_by u (subst (λ (ms : List Bool). IsMarked ms u) marks m) (cases_eq u w);
  left_kept = λ u c. subst (λ (us : List ℕ). Contains us u) (sym left) (contains_more old.left.items u w c);
  left_marked = λ u c. left_by u (contains_cases old.left.items u w (subst (λ (us : List ℕ). Contains us u) left c));
  same = let a = ap unmarked marks in let b = ap (λ (us : List ℕ). length us) left in let e = unmarked_set old.marks.items w bare in omega (arith, length-append old.left.items (w ∷ []));
}
  where
    low : w < length old.marks.items
    low = get_within old.marks.items w false bare

    on : (u : ℕ) → IsMarked (slice_set old.marks.items w true) u → IsMarked new.marks.items u
    on u m = subst (λ (ms : List Bool). IsMarked ms u) (sym marks) m

    kept_by : (u : ℕ) → IsMarked old.marks.items u → (u ≡ w) ⊎ (u ≢ w) → IsMarked (slice_set old.marks.items w true) u
    kept_by u m (inl e) = subst (λ (t : ℕ). IsMarked (slice_set old.marks.items w true) t) (sym e) (get_written old.marks.items w true low)
    kept_by u m (inr apart) = get_unwritten old.marks.items w u true apart ∙ m

    only_by : (u : ℕ) → IsMarked (slice_set old.marks.items w true) u → (u ≡ w) ⊎ (u ≢ w) → IsMarked old.marks.items u ⊎ (Contains (w ∷ []) u × Contains new.left.items u)
    only_by u m (inl e) = inr (this_in u w e, subst (λ (us : List ℕ). Contains us u) (sym left) (contains_last old.left.items u w e))
    only_by u m (inr apart) = inl (sym (get_unwritten old.marks.items w u true apart) ∙ m)

    left_by : (u : ℕ) → Contains old.left.items u ⊎ (u ≡ w) → Contains old.left.items u ⊎ IsMarked new.marks.items u
    left_by u (inl c) = inl c
    left_by u (inr e) = inr (subst (λ (t : ℕ). IsMarked new.marks.items t) (sym e) (on w (get_written old.marks.items w true low)))

pub none_marked : (s : Reached) → Marks [] s s
none_marked s = record {
  all = refl;
  kept = λ u m. m;
  marked = λ u c. absurd (none_in u c);
  only = λ u m. inl m;
  left_kept = λ u c. c;
  left_marked = λ u c. inl c;
  same = refl;
}

-- one vertex more
pub one_marked : (ws : List ℕ) (w : ℕ) (a b d : Reached) → Marks ws a b → Marks (w ∷ []) b d → Marks (ws ++ w ∷ []) a d
one_marked ws w a b d f g = record {
  all = g.all ∙ f.all;
  kept = λ u m. g.kept u (f.kept u m);
  marked = λ u c. marked_by u (contains_cases ws u w c);
  only = λ u m. only_by u (g.only u m);
  left_kept = λ u c. g.left_kept u (f.left_kept u c);
  left_marked = λ u c. left_by u (g.left_marked u c);
  same = g.same ∙ f.same;
}
  where
    marked_by : (u : ℕ) → Contains ws u ⊎ (u ≡ w) → IsMarked d.marks.items u
    marked_by u (inl c) = g.kept u (f.marked u c)
    marked_by u (inr e) = g.marked u (this_in u w e)

    before : (u : ℕ) → IsMarked a.marks.items u ⊎ (Contains ws u × Contains b.left.items u) → IsMarked a.marks.items u ⊎ (Contains (ws ++ w ∷ []) u × Contains d.left.items u)
    before u (inl m) = inl m
    before u (inr p) = inr (contains_more ws u w p.0, g.left_kept u p.1)

    only_by : (u : ℕ) → IsMarked b.marks.items u ⊎ (Contains (w ∷ []) u × Contains d.left.items u) → IsMarked a.marks.items u ⊎ (Contains (ws ++ w ∷ []) u × Contains d.left.items u)
    only_by u (inl m) = before u (f.only u m)
    only_by u (inr p) = inr (contains_last ws u w (one_in u w p.0), p.1)

    left_first : (u : ℕ) → Contains a.left.items u ⊎ IsMarked b.marks.items u → Contains a.left.items u ⊎ IsMarked d.marks.items u
    left_first u (inl c) = inl c
    left_first u (inr m) = inr (g.kept u m)

    left_by : (u : ℕ) → Contains b.left.items u ⊎ IsMarked d.marks.items u → Contains a.left.items u ⊎ IsMarked d.marks.items u
    left_by u (inl c) = left_first u (f.left_marked u c)
    left_by u (inr m) = inr m

pub marks_more : (xs : List ℕ) (i : ℕ) (a b d : Reached) → i < length xs → Marks (take i xs) a b → Marks (get_or xs i 0 ∷ []) b d → Marks (take (i + 1) xs) a d
marks_more xs i a b d low f g = subst (λ (ws : List ℕ). Marks ws a d) (sym (take_more xs i 0 low)) (one_marked (take i xs) (get_or xs i 0) a b d f g)

pub no_length : (xs : List ℕ) → length xs ≡ 0 → xs ≡ []
no_length [] e = refl
no_length (x ∷ xs) e = absurd (omega arith)

-- one vertex earlier, the search back goes on from that one
pub reach_start : (reads : List (List ℕ)) (order : List ℕ) → IsClosingOrder reads order → (p v : ℕ) → slice_get order p ≡ Some v → (old new : Reached) → AreMarkedFrom reads order (p + 1) old → Marks (v ∷ []) old new → AreReached reads order p new
reach_start reads order o p v is old new h m = record {
  all = m.all ∙ h.reached.all;
  leads = λ u mark. leads_by u (m.only u mark);
  late = λ q z later iz. late_by q z later iz (cases_eq q p);
  left_marked = λ u c. left_by u (m.left_marked u c);
  closed = λ u w mark r. closed_by u w r (m.only w mark);
}
  where
    none : (u : ℕ) → Contains old.left.items u → ⊥
    none u c = none_in u (subst (λ (us : List ℕ). Contains us u) h.none_left c)

    before : (u : ℕ) → LeadsFrom reads order (p + 1) u → LeadsFrom reads order p u
    before u l = let late = l.late in record { place = l.place; vertex = l.vertex; late = omega arith; there = l.there; leads = l.leads }

    leads_by : (u : ℕ) → IsMarked old.marks.items u ⊎ (Contains (v ∷ []) u × Contains new.left.items u) → LeadsFrom reads order p u
    leads_by u (inl mark) = before u (h.reached.leads u mark)
    leads_by u (inr c) = record { place = p; vertex = v; late = omega arith; there = is; leads = inl (one_in u v c.0) }

    late_by : (q z : ℕ) → p ≤ q → slice_get order q ≡ Some z → (q ≡ p) ⊎ (q ≢ p) → IsMarked new.marks.items z
    late_by q z later iz (inl e) = m.marked z (this_in z v (some_is z v (sym iz ∙ ap (slice_get order) e ∙ is)))
    late_by q z later iz (inr apart) = m.kept z (h.reached.late q z (omega arith) iz)

    left_by : (u : ℕ) → Contains old.left.items u ⊎ IsMarked new.marks.items u → IsMarked new.marks.items u
    left_by u (inl c) = absurd (none u c)
    left_by u (inr mark) = mark

    old_by : (u w : ℕ) → IsMarked old.marks.items u ⊎ Contains old.left.items w → IsMarked new.marks.items u ⊎ Contains new.left.items w
    old_by u w (inl mark) = inl (m.kept u mark)
    old_by u w (inr c) = absurd (none w c)

    closed_by : (u w : ℕ) → Reads reads u w → IsMarked old.marks.items w ⊎ (Contains (v ∷ []) w × Contains new.left.items w) → IsMarked new.marks.items u ⊎ Contains new.left.items w
    closed_by u w r (inl mark) = old_by u w (h.reached.closed u w mark r)
    closed_by u w r (inr c) = inr c.1

-- it goes on with what reads the last of those that are still to be looked at
pub reach_step : (reads readers : List (List ℕ)) → AreReaders reads readers → (order : List ℕ) (p next : ℕ) (old mid new : Reached) → AreReached reads order p old → mid.marks.items ≡ old.marks.items → old.left.items ≡ mid.left.items ++ next ∷ []
    → Marks (slice_index_or readers next []) mid new → AreReached reads order p new
reach_step reads readers rs order p next old mid new h marks left m = record {
  all = m.all ∙ ap (λ (ms : List Bool). length ms) marks ∙ h.all;
  leads = λ u mark. leads_by u (m.only u mark);
  late = λ q z later iz. kept z (h.late q z later iz);
  left_marked = λ u c. left_by u (m.left_marked u c);
  closed = λ u w mark r. closed_by u w r (m.only w mark);
}
  where
    kept : (w : ℕ) → IsMarked old.marks.items w → IsMarked new.marks.items w
    kept w is = m.kept w (subst (λ (ms : List Bool). IsMarked ms w) (sym marks) is)

    next_marked : IsMarked old.marks.items next
    next_marked = h.left_marked next (subst (λ (us : List ℕ). Contains us next) (sym left) (contains_last mid.left.items next next refl))

    leads_by : (u : ℕ) → IsMarked mid.marks.items u ⊎ (Contains (slice_index_or readers next []) u × Contains new.left.items u) → LeadsFrom reads order p u
    leads_by u (inl is) = h.leads u (subst (λ (ms : List Bool). IsMarked ms u) marks is)
    leads_by u (inr c) = leads_before reads order p u next (rs.from u next c.0) (h.leads next next_marked)

    left_by : (u : ℕ) → Contains mid.left.items u ⊎ IsMarked new.marks.items u → IsMarked new.marks.items u
    left_by u (inl c) = kept u (h.left_marked u (subst (λ (us : List ℕ). Contains us u) (sym left) (contains_more mid.left.items u next c)))
    left_by u (inr is) = is

    next_by : (u w : ℕ) → Reads reads u w → Contains mid.left.items w ⊎ (w ≡ next) → IsMarked new.marks.items u ⊎ Contains new.left.items w
    next_by u w r (inl c) = inr (m.left_kept w c)
    next_by u w r (inr e) = inl (m.marked u (rs.to u next (subst (λ (t : ℕ). Reads reads u t) e r)))

    old_by : (u w : ℕ) → Reads reads u w → IsMarked old.marks.items u ⊎ Contains old.left.items w → IsMarked new.marks.items u ⊎ Contains new.left.items w
    old_by u w r (inl is) = inl (kept u is)
    old_by u w r (inr c) = next_by u w r (contains_cases mid.left.items w next (subst (λ (us : List ℕ). Contains us w) left c))

    closed_by : (u w : ℕ) → Reads reads u w → IsMarked mid.marks.items w ⊎ (Contains (slice_index_or readers next []) w × Contains new.left.items w) → IsMarked new.marks.items u ⊎ Contains new.left.items w
    closed_by u w r (inl is) = old_by u w r (h.closed u w (subst (λ (ms : List Bool). IsMarked ms w) marks is) r)
    closed_by u w r (inr c) = inr c.1

-- it is done where none is left
pub reach_done : (reads : List (List ℕ)) (order : List ℕ) (p : ℕ) (s : Reached) → AreReached reads order p s → length s.left.items ≡ 0 → AreMarkedFrom reads order p s
reach_done reads order p s h none = record { reached = h; none_left = no_length s.left.items none }

module _ (reads : List (List ℕ)) (order : List ℕ) (o : IsClosingOrder reads order) (p v : ℕ) (is : slice_get order p ≡ Some v) (s : Reached) (h : AreMarkedFrom reads order p s) where
  one : (u w : ℕ) → IsMarked s.marks.items u ⊎ Contains s.left.items w → IsMarked s.marks.items u
  one u w (inl m) = m
  one u w (inr c) = absurd (none_in w (subst (λ (us : List ℕ). Contains us w) h.none_left c))

  follow : (u : ℕ) (path : List ℕ) (w : ℕ) → LeadsTo reads u path w → IsMarked s.marks.items w → IsMarked s.marks.items u
  follow u [] w r m = one u w (h.reached.closed u w m r)
  follow u (t ∷ path) w r m = one u t (h.reached.closed u t (follow t path w r.1 m) r.0)

  leading_marked : (u : ℕ) → LeadsFrom reads order p u → IsMarked s.marks.items u
  leading_marked u l = by l.leads
    where
      there : IsMarked s.marks.items l.vertex
      there = h.reached.late l.place l.vertex l.late l.there

      by : (u ≡ l.vertex) ⊎ DependsOn reads u l.vertex → IsMarked s.marks.items u
      by (inl e) = subst (λ (t : ℕ). IsMarked s.marks.items t) (sym e) there
      by (inr d) = follow u d.path l.vertex d.leads there

  -- a read of the vertex is marked exactly where the vertex lies on a ring
  pub ring_marks : OnRing reads v → HasMarked s.marks.items (slice_index_or reads v [])
  ring_marks on = let r = ring_reads reads order o p v is on in record { vertex = r.0; there = r.1; marked = leading_marked r.0 r.2 }

  pub marks_ring : HasMarked s.marks.items (slice_index_or reads v []) → OnRing reads v
  marks_ring m = ring_by reads order o p v is m.vertex m.there (h.reached.leads m.vertex m.marked)

-- what is still to be looked at is one of the graph
pub left_low : (reads : List (List ℕ)) (order : List ℕ) (p next : ℕ) (s : Reached) (left : List ℕ) → AreReached reads order p s → s.left.items ≡ left ++ next ∷ [] → next < length reads
left_low reads order p next s left h e =
    let low = get_within s.marks.items next true (h.left_marked next (subst (λ (us : List ℕ). Contains us next) (sym e) (contains_last left next next refl))) in
    let all = h.all in omega arith

-- How the search for an order goes on, and what it ends with.
use Rattle.std.proofs.Common.{ℕ, suc, zero, ◌≡◌, ◌≢◌, ◌<◌, ◌≤◌, ◌+◌, ◌-◌, ◌⊎◌, List, [], ◌∷◌, ◌++◌, length, get_or, Option, Some, None, refl, sym, ap, subst, ◌∙◌, inl, inr, arith, cond, replicate, take}
use Rattle.std.specs.Prelude.{Contains, slice_get, slice_set, slice_index_or}
use Rattle.std.proofs.lemmas.Bool.{cases_eq}
use Rattle.std.proofs.lemmas.Option.{get_or_from_slice_get}
use Rattle.std.proofs.lemmas.List.{length-set, length-append, length-replicate}
use Rattle.std.proofs.lemmas.List.Folds.{sum_by-replicate}
use Rattle.std.proofs.lemmas.List.Sums.{sum_by-set, sum_by-le}
use Rattle.act1_order.specs.Order.{Reads, AreReads, StandsBefore}
use Rattle.act1_order.specs.ClosingSteps.{DependsOn, IsClosingOrder}
use Rattle.act1_order.specs.SearchSteps.{is_new, news, HasState, IsNextRead, IsSearched, IsSearch, IsLater, IsStep, IsVisit}
use Rattle.act1_order.specs.declared.search.Search.{Search}
use Rattle.act1_order.specs.declared.search.State.{State}
use Rattle.act1_order.specs.declared.search.State.TheVariants.{New, Open, Placed}
use Rattle.act1_base.proofs.ListGets.{some_is, get_within, get_in, get_more, get_last, get_cases, contains_at, place_of, get_written, get_unwritten, get_read}

two_states : (states : List State) (v : ℕ) (s t : State) → HasState states v s → HasState states v t → s ≡ t
two_states states v s t h k = some_is s t (sym h ∙ k)

contains_more : (xs : List ℕ) (x y : ℕ) → Contains xs x → Contains (xs ++ y ∷ []) x
contains_more xs x y c = let p = place_of xs x c in contains_at (xs ++ y ∷ []) p.0 x (get_more xs y x p.0 p.1)

contains_last : (xs : List ℕ) (x y : ℕ) → x ≡ y → Contains (xs ++ y ∷ []) x
contains_last xs x y e = subst (λ (u : ℕ). Contains (xs ++ y ∷ []) u) (sym e) (contains_at (xs ++ y ∷ []) (length xs) y (get_last xs y (length xs) refl))

-- what a write of a state leaves
was : (states : List State) (v w : ℕ) (new s : State) → v < length states → HasState (slice_set states v new) w s → ((w ≡ v) × (new ≡ s)) ⊎ ((w ≢ v) × HasState states w s)
was states v w new s low h = by (cases_eq w v)
  where
    by : (w ≡ v) ⊎ (w ≢ v) → ((w ≡ v) × (new ≡ s)) ⊎ ((w ≢ v) × HasState states w s)
    by (inl e) = inl (e, some_is new s (sym (get_written states v new low) ∙ subst (λ (u : ℕ). HasState (slice_set states v new) u s) e h))
    by (inr apart) = inr (apart, sym (get_unwritten states v w new apart) ∙ h)

kept : (states : List State) (v w : ℕ) (a b new : State) → HasState states v a → HasState states w b → (a ≡ b → ⊥) → HasState (slice_set states v new) w b
kept states v w a b new hv hw apart = get_unwritten states v w new (λ e. apart (two_states states v a b hv (subst (λ (u : ℕ). HasState states u b) e hw))) ∙ hw

news_written : (states : List State) (v : ℕ) (old new : State) → HasState states v old → news (slice_set states v new) + cond (is_new old) 1 0 ≡ news states + cond (is_new new) 1 0
news_written states v old new h =
    subst (λ (s : State). news (slice_set states v new) + cond (is_new s) 1 0 ≡ news states + cond (is_new new) 1 0) (get_or_from_slice_get states v old old h)
    (sum_by-set (λ (s : State). cond (is_new s) 1 0) states v new old (get_within states v old h))

-- what was come to before a write of a state still is
still_met : (states : List State) (v w : ℕ) (new : State) → v < length states → (new ≡ New → ⊥) → (HasState states w New → ⊥) → HasState (slice_set states v new) w New → ⊥
still_met states v w new low come met h = by (was states v w new New low h)
  where
    by : ((w ≡ v) × (new ≡ New)) ⊎ ((w ≢ v) × HasState states w New) → ⊥
    by (inl x) = come x.1
    by (inr y) = met y.1

-- the path leads from each of its vertices to what its last one reads
leads_on : (reads : List (List ℕ)) (path : List ℕ) (read : (i v w : ℕ) → slice_get path i ≡ Some v → slice_get path (i + 1) ≡ Some w → Reads reads v w) (v w : ℕ) → Reads reads v w
    → (d i u : ℕ) → slice_get path i ≡ Some u → slice_get path (i + d) ≡ Some v → DependsOn reads u w
leads_on reads path read v w r zero i u iu iv =
    let same : i + 0 ≡ i = omega arith in
    let e : u ≡ v = some_is u v (sym iu ∙ ap (slice_get path) (sym same) ∙ iv) in
    record { path = []; leads = subst (λ (t : ℕ). Reads reads t w) (sym e) r }
leads_on reads path read v w r (suc d) i u iu iv =
    let within = get_within path (i + suc d) v iv in
    let next = get_in path (i + 1) (omega arith) in
    let same : i + suc d ≡ i + 1 + d = omega arith in
    let rest = leads_on reads path read v w r d (i + 1) next.0 next.1 (ap (slice_get path) (sym same) ∙ iv) in
    record { path = next.0 ∷ rest.path; leads = (read i u next.0 iu next.1, rest.leads) }

module _ (reads : List (List ℕ)) (states : List State) (passed path order : List ℕ) (h : IsSearched reads states passed path order) where
  reached_open : (v : ℕ) → HasState states v New → (i a : ℕ) → slice_get path i ≡ Some a → v ≡ a → ⊥
  reached_open v fresh i a x same = let e = two_states states v New Open fresh (subst (λ (u : ℕ). HasState states u Open) (sym same) (h.path_open i a x)) in cc

  -- the path goes on to a new vertex that its last one reads
  pub opened : (v : ℕ) → HasState states v New → ((i u : ℕ) → slice_get path i ≡ Some u → i + 1 ≡ length path → Reads reads u v) → IsSearched reads (slice_set states v Open) passed (path ++ v ∷ []) order
  opened v fresh last = record {
    all = length-set states v Open ∙ h.all;
    passed_all = h.passed_all;
    passed_met = λ u k w under is. still_met states v w Open low (λ e. cc) (h.passed_met u k w under is);
    path_reads = λ i a b ia ib. reads_by i a b (get_cases path v a i ia) (get_cases path v b (i + 1) ib);
    path_open = λ i a ia. open_by a (get_cases path v a i ia);
    open_path = λ a st. path_by a (was states v a Open Open low st);
    path_once = λ i j a ia ja. once_by a (get_cases path v a i ia) (get_cases path v a j ja);
    order_placed = λ p a is. kept states v a New Placed Open fresh (h.order_placed p a is) (λ e. cc);
    placed_order = λ a st. order_by a (was states v a Open Placed low st);
    order_once = h.order_once;
    met = λ p a w is r. still_met states v w Open low (λ e. cc) (h.met p a w is r);
    back = h.back;
    one_each = let one = h.one_each in let more = news_written states v New Open fresh in omega (arith, length-append path (v ∷ []));
  }
    where
      low : v < length states
      low = get_within states v New fresh

      reads_by : (i a b : ℕ) → (slice_get path i ≡ Some a) ⊎ ((i ≡ length path) × (v ≡ a)) → (slice_get path (i + 1) ≡ Some b) ⊎ ((i + 1 ≡ length path) × (v ≡ b)) → Reads reads a b
      reads_by i a b (inl x) (inl y) = h.path_reads i a b x y
      reads_by i a b (inl x) (inr y) = subst (λ (u : ℕ). Reads reads a u) y.1 (last i a x y.0)
      reads_by i a b (inr x) (inl y) = let within = get_within path (i + 1) b y in absurd (omega (arith, x.0))
      reads_by i a b (inr x) (inr y) = absurd (omega (arith, x.0, y.0))

      open_by : {i : ℕ} (a : ℕ) → (slice_get path i ≡ Some a) ⊎ ((i ≡ length path) × (v ≡ a)) → HasState (slice_set states v Open) a Open
      open_by {i} a (inl x) = kept states v a New Open Open fresh (h.path_open i a x) (λ e. cc)
      open_by a (inr y) = subst (λ (u : ℕ). HasState (slice_set states v Open) u Open) y.1 (get_written states v Open low)

      path_by : (a : ℕ) → ((a ≡ v) × (Open ≡ Open)) ⊎ ((a ≢ v) × HasState states a Open) → Contains (path ++ v ∷ []) a
      path_by a (inl y) = contains_last path a v y.0
      path_by a (inr y) = contains_more path a v (h.open_path a y.1)

      once_by : {i j : ℕ} (a : ℕ) → (slice_get path i ≡ Some a) ⊎ ((i ≡ length path) × (v ≡ a)) → (slice_get path j ≡ Some a) ⊎ ((j ≡ length path) × (v ≡ a)) → i ≡ j
      once_by {i} {j} a (inl x) (inl y) = h.path_once i j a x y
      once_by {i} a (inl x) (inr y) = absurd (reached_open v fresh i a x y.1)
      once_by {i} {j} a (inr x) (inl y) = absurd (reached_open v fresh j a y x.1)
      once_by a (inr x) (inr y) = x.0 ∙ sym y.0

      order_by : (a : ℕ) → ((a ≡ v) × (Open ≡ Placed)) ⊎ ((a ≢ v) × HasState states a Placed) → Contains order a
      order_by a (inl y) = let e = y.1 in cc
      order_by a (inr y) = h.placed_order a y.1

  -- where all are placed, the order is whole
  pub ordered : path ≡ [] → ((v : ℕ) → v < length reads → HasState states v Placed) → IsClosingOrder reads order
  ordered empty placed = record {
    all = let one = h.one_each in let none = no_news in omega (arith, ap (λ (vs : List ℕ). length vs) empty);
    inside = λ p v is. let low = get_within states v Placed (h.order_placed p v is) in let all = h.all in omega arith;
    once = h.order_once;
    there = λ v low. h.placed_order v (placed v low);
    back = h.back;
  }
    where
      no_news : news states ≡ 0
      no_news =
          let all = h.all in
          let least = sum_by-le (λ (s : State). cond (is_new s) 1 0) 0 states
          (λ k d low. let e = get_or_from_slice_get states k Placed d (placed k (omega arith)) in subst (λ (s : State). cond (is_new s) 1 0 ≤ 0) (sym e) (omega arith)) in
          omega arith

-- the last vertex of the path is placed, where none that it reads is new
pub closed : (reads : List (List ℕ)) (states : List State) (passed front order : List ℕ) (v : ℕ) → AreReads reads → IsSearched reads states passed (front ++ v ∷ []) order
    → ((w : ℕ) → Reads reads v w → HasState states w New → ⊥) → IsSearched reads (slice_set states v Placed) passed front (order ++ v ∷ [])
closed reads states passed front order v inside h ready = record {
  all = length-set states v Placed ∙ h.all;
  passed_all = h.passed_all;
  passed_met = λ u k w under is. still w (h.passed_met u k w under is);
  path_reads = λ i a b ia ib. h.path_reads i a b (get_more front v a i ia) (get_more front v b (i + 1) ib);
  path_open = λ i a ia. get_unwritten states v a Placed (apart i a ia) ∙ h.path_open i a (get_more front v a i ia);
  open_path = λ a st. path_by a (was states v a Placed Open low st);
  path_once = λ i j a ia ja. h.path_once i j a (get_more front v a i ia) (get_more front v a j ja);
  order_placed = λ p a is. placed_by a (get_cases order v a p is);
  placed_order = λ a st. order_by a (was states v a Placed Placed low st);
  order_once = λ p q a pa qa. once_by a (get_cases order v a p pa) (get_cases order v a q qa);
  met = λ p a w is r. still w (met_by p a w (get_cases order v a p is) r);
  back = λ p q a w x is r later ix. back_by p q a w x (get_cases order v a p is) r later (get_cases order v x q ix);
  one_each = let one = h.one_each in let same = news_written states v Open Placed is_open in omega (arith, length-append front (v ∷ []), length-append order (v ∷ []));
}
  where
    top : slice_get (front ++ v ∷ []) (length front) ≡ Some v
    top = get_last front v (length front) refl

    is_open : HasState states v Open
    is_open = h.path_open (length front) v top

    low : v < length states
    low = get_within states v Open is_open

    keep : (w : ℕ) → HasState states w Placed → HasState (slice_set states v Placed) w Placed
    keep w st = kept states v w Open Placed Placed is_open st (λ e. cc)

    apart : (i a : ℕ) → slice_get front i ≡ Some a → a ≢ v
    apart i a ia e =
        let within = get_within front i a ia in
        let same = h.path_once i (length front) v (subst (λ (u : ℕ). slice_get (front ++ v ∷ []) i ≡ Some u) e (get_more front v a i ia)) top in
        absurd (omega arith)

    path_by : (a : ℕ) → ((a ≡ v) × (Placed ≡ Open)) ⊎ ((a ≢ v) × HasState states a Open) → Contains front a
    path_by a (inl y) = let e = y.1 in cc
    path_by a (inr y) = let p = place_of (front ++ v ∷ []) a (h.open_path a y.1) in there (get_cases front v a p.0 p.1)
      where
        there : {i : ℕ} → (slice_get front i ≡ Some a) ⊎ ((i ≡ length front) × (v ≡ a)) → Contains front a
        there {i} (inl x) = contains_at front i a x
        there (inr x) = absurd (y.0 (sym x.1))

    placed_by : {p : ℕ} (a : ℕ) → (slice_get order p ≡ Some a) ⊎ ((p ≡ length order) × (v ≡ a)) → HasState (slice_set states v Placed) a Placed
    placed_by {p} a (inl x) = keep a (h.order_placed p a x)
    placed_by a (inr y) = subst (λ (u : ℕ). HasState (slice_set states v Placed) u Placed) y.1 (get_written states v Placed low)

    order_by : (a : ℕ) → ((a ≡ v) × (Placed ≡ Placed)) ⊎ ((a ≢ v) × HasState states a Placed) → Contains (order ++ v ∷ []) a
    order_by a (inl y) = contains_last order a v y.0
    order_by a (inr y) = contains_more order a v (h.placed_order a y.1)

    unplaced : (p a : ℕ) → slice_get order p ≡ Some a → v ≡ a → ⊥
    unplaced p a x same = let e = two_states states v Open Placed is_open (subst (λ (u : ℕ). HasState states u Placed) (sym same) (h.order_placed p a x)) in cc

    once_by : {p q : ℕ} (a : ℕ) → (slice_get order p ≡ Some a) ⊎ ((p ≡ length order) × (v ≡ a)) → (slice_get order q ≡ Some a) ⊎ ((q ≡ length order) × (v ≡ a)) → p ≡ q
    once_by {p} {q} a (inl x) (inl y) = h.order_once p q a x y
    once_by {p} a (inl x) (inr y) = absurd (unplaced p a x y.1)
    once_by {p} {q} a (inr x) (inl y) = absurd (unplaced q a y x.1)
    once_by a (inr x) (inr y) = x.0 ∙ sym y.0

    still : (w : ℕ) → (HasState states w New → ⊥) → HasState (slice_set states v Placed) w New → ⊥
    still w met = still_met states v w Placed low (λ e. cc) met

    met_by : (p a w : ℕ) → (slice_get order p ≡ Some a) ⊎ ((p ≡ length order) × (v ≡ a)) → Reads reads a w → HasState states w New → ⊥
    met_by p a w (inl x) r = h.met p a w x r
    met_by p a w (inr y) r = ready w (subst (λ (u : ℕ). Reads reads u w) (sym y.1) r)

    -- each vertex of the path leads to the last one
    leads_to_last : (i u : ℕ) → slice_get front i ≡ Some u → DependsOn reads u v
    leads_to_last i u iu =
        let within = get_within front i u iu in
        let t = get_in front (length front - 1) (omega arith) in
        let next : length front ≡ length front - 1 + 1 = omega arith in
        let same : length front - 1 ≡ i + (length front - 1 - i) = omega arith in
        let tv = get_more front v t.0 (length front - 1) t.1 in
        let r = h.path_reads (length front - 1) t.0 v tv (ap (slice_get (front ++ v ∷ [])) (sym next) ∙ top) in
        leads_on reads (front ++ v ∷ []) h.path_reads t.0 v r (length front - 1 - i) i u (get_more front v u i iu) (ap (slice_get (front ++ v ∷ [])) (sym same) ∙ tv)

    last_place : (w : ℕ) → v ≡ w → StandsBefore (order ++ v ∷ []) (length order + 1) w
    last_place w e = record { place = length order; before = omega arith; there = subst (λ (u : ℕ). slice_get (order ++ v ∷ []) (length order) ≡ Some u) e (get_last order v (length order) refl) }

    path_back : {i : ℕ} (w : ℕ) → (slice_get front i ≡ Some w) ⊎ ((i ≡ length front) × (v ≡ w)) → StandsBefore (order ++ v ∷ []) (length order + 1) w ⊎ DependsOn reads w v
    path_back {i} w (inl x) = inr (leads_to_last i w x)
    path_back w (inr y) = inl (last_place w y.1)

    state_back : (w : ℕ) → (HasState states w New → ⊥) → (s : State) → HasState states w s → StandsBefore (order ++ v ∷ []) (length order + 1) w ⊎ DependsOn reads w v
    state_back w met New st = absurd (met st)
    state_back w met Open st = let p = place_of (front ++ v ∷ []) w (h.open_path w st) in path_back w (get_cases front v w p.0 p.1)
    state_back w met Placed st =
        let q = place_of order w (h.placed_order w st) in
        let within = get_within order q.0 w q.1 in
        inl (record { place = q.0; before = omega arith; there = get_more order v w q.0 q.1 })

    -- what was come to stands before the last vertex, is it, or leads to it
    last_back : (w : ℕ) → w < length reads → (HasState states w New → ⊥) → StandsBefore (order ++ v ∷ []) (length order + 1) w ⊎ DependsOn reads w v
    last_back w inside_w met = let all = h.all in let s = get_in states w (omega arith) in state_back w met s.0 s.1

    old_back : (q w x : ℕ) → StandsBefore order (q + 1) w ⊎ DependsOn reads w x → StandsBefore (order ++ v ∷ []) (q + 1) w ⊎ DependsOn reads w x
    old_back q w x (inl s) = inl (record { place = s.place; before = s.before; there = get_more order v w s.place s.there })
    old_back q w x (inr d) = inr d

    back_by : (p q a w x : ℕ) → (slice_get order p ≡ Some a) ⊎ ((p ≡ length order) × (v ≡ a)) → Reads reads a w → p ≤ q → (slice_get order q ≡ Some x) ⊎ ((q ≡ length order) × (v ≡ x))
        → StandsBefore (order ++ v ∷ []) (q + 1) w ⊎ DependsOn reads w x
    back_by p q a w x (inl ia) r later (inl ix) = old_back q w x (h.back p q a w x ia r later ix)
    back_by p q a w x (inr ya) r later (inl ix) = let within = get_within order q x ix in absurd (omega (arith, ya.0))
    back_by p q a w x is r later (inr yx) =
        subst (λ (u : ℕ). StandsBefore (order ++ v ∷ []) (q + 1) w ⊎ DependsOn reads w u) yx.1
        (subst (λ (n : ℕ). StandsBefore (order ++ v ∷ []) (n + 1) w ⊎ DependsOn reads w v) (sym yx.0)
        (last_back w (inside a w r) (met_by p a w is r)))

abbrev none_passed : ℕ → List ℕ
none_passed n = replicate n 0

-- a search starts with new vertices alone
pub nothing_searched : (reads : List (List ℕ)) (n : ℕ) → n ≡ length reads → IsSearched reads (replicate n New) (none_passed n) [] []
nothing_searched reads n e = record {
  all = length-replicate n New ∙ e;
  passed_all = length-replicate n 0 ∙ e;
  passed_met = λ v k w under is. never n v k under;
  path_reads = λ i v w iv iw. cc;
  path_open = λ i v iv. cc;
  open_path = λ v st. absurd (all_new n v Open st (λ same. cc));
  path_once = λ i j v iv jv. cc;
  order_placed = λ p v is. cc;
  placed_order = λ v st. absurd (all_new n v Placed st (λ same. cc));
  order_once = λ p q v pv qv. cc;
  met = λ p v w is r. cc;
  back = λ p q v w x is r later ix. cc;
  one_each = let all = sum_by-replicate (λ (s : State). cond (is_new s) 1 0) n New in omega (arith, all, e);
}
  where
    none_at : (v : ℕ) → let none : List ℕ = [] in slice_index_or none v 0 ≡ 0
    none_at zero = refl
    none_at (suc v) = refl

    zeros : (n v : ℕ) → slice_index_or (none_passed n) v 0 ≡ 0
    zeros zero v = none_at v
    zeros (suc n) zero = refl
    zeros (suc n) (suc v) = zeros n v

    never : (n v k : ℕ) {R : Type 0} → k < slice_index_or (none_passed n) v 0 → R
    never n v k under = let none = zeros n v in absurd (omega arith)

    all_new : (n v : ℕ) (s : State) → HasState (replicate n New) v s → (New ≡ s → ⊥) → ⊥
    all_new zero v s st apart = cc
    all_new (suc n) zero s st apart = apart (some_is New s st)
    all_new (suc n) (suc v) s st apart = all_new n v s st apart

-- where the reads up to a place aren't new, and the one there is, that one is next
pub next_is : (reads : List (List ℕ)) (states : List State) (v at : ℕ) → ((k w : ℕ) → k < at → slice_get (slice_index_or reads v []) k ≡ Some w → HasState states w New → ⊥)
    → ((w : ℕ) → slice_get (slice_index_or reads v []) at ≡ Some w → HasState states w New) → (next : Option ℕ) → next ≡ slice_get (slice_index_or reads v []) at → IsNextRead reads states v next
next_is reads states v at met fresh (Some w) e = (contains_at (slice_index_or reads v []) at w (sym e), fresh w (sym e))
next_is reads states v at met fresh None e = λ w r.
    let p = place_of (slice_index_or reads v []) w r in
    let past = none_within (slice_index_or reads v []) at (sym e) in
    let within = get_within (slice_index_or reads v []) p.0 w p.1 in
    met p.0 w (omega arith) p.1
  where
    none_within : (xs : List ℕ) (i : ℕ) → slice_get xs i ≡ None → length xs ≤ i
    none_within [] i h = omega arith
    none_within (x ∷ xs) zero h = cc
    none_within (x ∷ xs) (suc i) h = let low = none_within xs i h in omega arith

pub passed_read : (passed : List ℕ) (v i x k : ℕ) → i ≡ v → v < length passed → x ≡ get_or passed i x → k < x → k < slice_index_or passed v 0
passed_read passed v i x k e low is under =
    let same = get_or_from_slice_get passed v x 0 (get_read passed v x low (is ∙ ap (λ (j : ℕ). get_or passed j x) e)) in omega arith

-- a vertex of the path is one of the graph
pub path_low : (reads : List (List ℕ)) (s : Search) → IsSearch reads s → (i v : ℕ) → slice_get s.path.items i ≡ Some v → v < length reads
path_low reads s h i v is = let low = get_within s.states.items v Open (h.path_open i v is) in let all = h.all in omega arith

last_split : (path : List ℕ) (i v : ℕ) → i + 1 ≡ length path → slice_get path i ≡ Some v → path ≡ take i path ++ v ∷ []
last_split [] i v e is = cc
last_split (x ∷ []) zero v e is = ap (λ (u : ℕ). u ∷ []) (some_is x v is)
last_split (x ∷ y ∷ path) zero v e is = absurd (omega (arith, e))
last_split (x ∷ path) (suc i) v e is = ap (λ (us : List ℕ). x ∷ us) (last_split path i v (omega (arith, e)) is)

short : (path : List ℕ) (i : ℕ) → i + 1 ≡ length path → length (take i path) + 1 ≡ length path
short [] i e = absurd (omega (arith, e))
short (x ∷ path) zero e = e
short (x ∷ path) (suc i) e = let rest = short path i (omega (arith, e)) in omega arith

same_search : (reads : List (List ℕ)) (states states2 : List State) (passed passed2 path path2 order order2 : List ℕ) → states2 ≡ states → passed2 ≡ passed → path2 ≡ path → order2 ≡ order
    → IsSearched reads states passed path order → IsSearched reads states2 passed2 path2 order2
same_search reads states states2 passed passed2 path path2 order order2 a b c d h =
    subst (λ (x : List State). IsSearched reads x passed2 path2 order2) (sym a)
    (subst (λ (x : List ℕ). IsSearched reads states x path2 order2) (sym b)
    (subst (λ (x : List ℕ). IsSearched reads states passed x order2) (sym c)
    (subst (λ (x : List ℕ). IsSearched reads states passed path x) (sym d) h)))

some_place : (path : List ℕ) (v : ℕ) → slice_get path (length path - 1) ≡ Some v → length path - 1 + 1 ≡ length path
some_place [] v is = cc
some_place (x ∷ path) v is = omega arith

later_set : (states : List State) (v : ℕ) (old new : State) → HasState states v old → (old ≡ Placed → ⊥) → (new ≡ New → ⊥) → IsLater states (slice_set states v new)
later_set states v old new st unplaced come = record {
  placed = λ w is. kept states v w old Placed new st is unplaced;
  come_to = λ w is. by w (was states v w new New (get_within states v old st) is);
}
  where
    by : (w : ℕ) → ((w ≡ v) × (new ≡ New)) ⊎ ((w ≢ v) × HasState states w New) → HasState states w New
    by w (inl x) = absurd (come x.1)
    by w (inr y) = y.1

-- the last vertex of the path is placed
pub placed_step : (reads : List (List ℕ)) (old mid new : Search) (v : ℕ) → AreReads reads → IsSearch reads mid → mid.states.items ≡ old.states.items → mid.path.items ≡ old.path.items
    → slice_get old.path.items (length old.path.items - 1) ≡ Some v → ((w : ℕ) → Reads reads v w → HasState old.states.items w New → ⊥)
    → new.states.items ≡ slice_set mid.states.items v Placed → new.passed.items ≡ mid.passed.items → new.path.items ≡ take (length mid.path.items - 1) mid.path.items → new.order.items ≡ mid.order.items ++ v ∷ []
    → IsStep reads old new
placed_step reads old mid new v inside h same_states same_path last ready states passed path order =
    let top : slice_get mid.path.items (length mid.path.items - 1) ≡ Some v = subst (λ (us : List ℕ). slice_get us (length us - 1) ≡ Some v) (sym same_path) last in
    let place = some_place mid.path.items v top in
    let split = last_split mid.path.items (length mid.path.items - 1) v place top in
    let less = short mid.path.items (length mid.path.items - 1) place in
    let is_open = h.path_open (length mid.path.items - 1) v top in
    let next = closed reads mid.states.items mid.passed.items (take (length mid.path.items - 1) mid.path.items) mid.order.items v inside
    (subst (λ (us : List ℕ). IsSearched reads mid.states.items mid.passed.items us mid.order.items) split h)
    (λ w r st. ready w r (subst (λ (ss : List State). HasState ss w New) same_states st)) in
    let few = news_written mid.states.items v Open Placed is_open in
    record {
      search = same_search reads _ new.states.items _ new.passed.items _ new.path.items _ new.order.items states passed path order next;
      later = subst (λ (ss : List State). IsLater ss new.states.items) same_states (subst (λ (ss : List State). IsLater mid.states.items ss) (sym states) (later_set mid.states.items v Open Placed is_open (λ e. cc) (λ e. cc)));
      nearer = let a = ap news states in let b = ap news same_states in let d = ap (λ (us : List ℕ). length us) path in let e = ap (λ (us : List ℕ). length us) same_path in omega arith;
    }

-- a vertex that is neither placed nor open is new
new_left : (states : List State) (v : ℕ) → v < length states → (HasState states v Placed → ⊥) → (HasState states v Open → ⊥) → HasState states v New
new_left states v low unplaced unopened = let s = get_in states v low in by s.0 s.1
  where
    by : (s : State) → HasState states v s → HasState states v New
    by New st = st
    by Open st = absurd (unopened st)
    by Placed st = absurd (unplaced st)

-- the path goes on to a read of its last vertex
pub opened_step : (reads : List (List ℕ)) (old mid new : Search) (v w : ℕ) → IsSearch reads mid → mid.states.items ≡ old.states.items → mid.path.items ≡ old.path.items
    → slice_get old.path.items (length old.path.items - 1) ≡ Some v → Reads reads v w → HasState old.states.items w New
    → new.states.items ≡ slice_set mid.states.items w Open → new.passed.items ≡ mid.passed.items → new.path.items ≡ mid.path.items ++ w ∷ [] → new.order.items ≡ mid.order.items
    → IsStep reads old new
opened_step reads old mid new v w h same_states same_path last r is_new_w states passed path order =
    let top : slice_get mid.path.items (length mid.path.items - 1) ≡ Some v = subst (λ (us : List ℕ). slice_get us (length us - 1) ≡ Some v) (sym same_path) last in
    let place = some_place mid.path.items v top in
    let fresh = subst (λ (ss : List State). HasState ss w New) (sym same_states) is_new_w in
    let next = opened reads mid.states.items mid.passed.items mid.path.items mid.order.items h w fresh
    (λ i u iu e. let same : i ≡ length mid.path.items - 1 = omega arith in
    subst (λ (t : ℕ). Reads reads t w) (some_is v u (sym top ∙ sym (ap (slice_get mid.path.items) same) ∙ iu)) r) in
    let few = news_written mid.states.items w New Open fresh in
    record {
      search = same_search reads _ new.states.items _ new.passed.items _ new.path.items _ new.order.items states passed path order next;
      later = subst (λ (ss : List State). IsLater ss new.states.items) same_states (subst (λ (ss : List State). IsLater mid.states.items ss) (sym states) (later_set mid.states.items w New Open fresh (λ e. cc) (λ e. cc)));
      nearer = let a = ap news states in let b = ap news same_states in let d = ap (λ (us : List ℕ). length us) path in let e = ap (λ (us : List ℕ). length us) same_path in omega (arith, length-append mid.path.items (w ∷ []));
    }

none_open : (reads : List (List ℕ)) (s : Search) → IsSearch reads s → s.path.items ≡ [] → (v : ℕ) → HasState s.states.items v Open → ⊥
none_open reads s h empty v st = let on = subst (λ (us : List ℕ). Contains us v) empty (h.open_path v st) in absurd (omega (arith, on.1))

-- what holds when the search starts from a vertex
pub record IsRooted (reads : List (List ℕ)) (root : ℕ) (old new : Search) : Type 0 where
  pub search : IsSearch reads new
  pub later : IsLater old.states.items new.states.items
  pub come_to : HasState new.states.items root New → ⊥

pub rooted : (reads : List (List ℕ)) (root : ℕ) (old new : Search) → root < length reads → IsSearch reads old → old.path.items ≡ [] → (HasState old.states.items root Placed → ⊥)
    → new.states.items ≡ slice_set old.states.items root Open → new.passed.items ≡ old.passed.items → new.path.items ≡ old.path.items ++ root ∷ [] → new.order.items ≡ old.order.items
    → IsRooted reads root old new
rooted reads root old new low h empty unplaced states passed path order =
    let all = h.all in
    let fresh = new_left old.states.items root (omega arith) unplaced (none_open reads old h empty root) in
    let next = opened reads old.states.items old.passed.items old.path.items old.order.items h root fresh
    (λ i u iu e. let none = ap (λ (us : List ℕ). length us) empty in absurd (omega arith)) in
    record {
      search = same_search reads _ new.states.items _ new.passed.items _ new.path.items _ new.order.items states passed path order next;
      later = subst (λ (ss : List State). IsLater old.states.items ss) (sym states) (later_set old.states.items root New Open fresh (λ e. cc) (λ e. cc));
      come_to = λ st. let e = two_states new.states.items root New Open st (subst (λ (ss : List State). HasState ss root Open) (sym states) (get_written old.states.items root Open (omega arith))) in cc;
    }

last_none : (path : List ℕ) → slice_get path (length path - 1) ≡ None → path ≡ []
last_none [] e = refl
last_none (x ∷ path) e = let p = get_in (x ∷ path) (length (x ∷ path) - 1) (omega arith) in let is = p.1 in cc

same_later : (states : List State) → IsLater states states
same_later states = record { placed = λ v st. st; come_to = λ v st. st }

-- the search from a vertex is done where the path is empty
pub visited : (reads : List (List ℕ)) (root : ℕ) (old new : Search) → root < length reads → IsRooted reads root old new → slice_get new.path.items (length new.path.items - 1) ≡ None → IsVisit reads root old new
visited reads root old new low h none =
    let empty = last_none new.path.items none in
    let s = h.search in
    let all = s.all in
    let p = get_in new.states.items root (omega arith) in
    record { search = s; later = h.later; none_open = empty; root_placed = by p.0 p.1 }
  where
    by : (s : State) → HasState new.states.items root s → HasState new.states.items root Placed
    by New st = absurd (h.come_to st)
    by Open st = absurd (none_open reads new h.search (last_none new.path.items none) root st)
    by Placed st = st

-- a vertex that is placed already
pub visited_before : (reads : List (List ℕ)) (root : ℕ) (old : Search) → IsSearch reads old → old.path.items ≡ [] → HasState old.states.items root Placed → IsVisit reads root old old
visited_before reads root old h empty st = record { search = h; later = same_later old.states.items; none_open = empty; root_placed = st }

later_on : (a b d : List State) → IsLater a b → IsLater b d → IsLater a d
later_on a b d f g = record { placed = λ v st. g.placed v (f.placed v st); come_to = λ v st. f.come_to v (g.come_to v st) }

-- a step more
pub rooted_on : (reads : List (List ℕ)) (root : ℕ) (old mid new : Search) → IsRooted reads root old mid → IsStep reads mid new → IsRooted reads root old new
rooted_on reads root old mid new h s = record {
  search = s.search;
  later = later_on old.states.items mid.states.items new.states.items h.later s.later;
  come_to = λ st. h.come_to (s.later.come_to root st);
}

-- the first so many vertices are placed, and no vertex is open
pub record ArePlaced (reads : List (List ℕ)) (n : ℕ) (s : Search) : Type 0 where
  pub search : IsSearch reads s
  pub none_open : s.path.items ≡ []
  pub placed : (v : ℕ) → v < n → HasState s.states.items v Placed

pub one_placed : (reads : List (List ℕ)) (n : ℕ) (old new : Search) → ArePlaced reads n old → IsVisit reads n old new → ArePlaced reads (n + 1) new
one_placed reads n old new h s = record { search = s.search; none_open = s.none_open; placed = λ v low. by v low (cases_eq v n) }
  where
    by : (v : ℕ) → v < n + 1 → (v ≡ n) ⊎ (v ≢ n) → HasState new.states.items v Placed
    by v low (inl e) = subst (λ (u : ℕ). HasState new.states.items u Placed) (sym e) s.root_placed
    by v low (inr apart) = s.later.placed v (h.placed v (omega arith))

pub none_placed : (reads : List (List ℕ)) (s : Search) (n : ℕ) → n ≡ length reads → s.states.items ≡ replicate n New → s.passed.items ≡ replicate n 0 → s.path.items ≡ [] → s.order.items ≡ [] → ArePlaced reads 0 s
none_placed reads s n e states passed path order = record {
  search = same_search reads _ s.states.items _ s.passed.items _ s.path.items _ s.order.items states passed path order (nothing_searched reads n e);
  none_open = path;
  placed = λ v low. absurd (omega arith);
}

pub all_placed : (reads : List (List ℕ)) (n : ℕ) (s : Search) → n ≡ length reads → ArePlaced reads n s → IsClosingOrder reads s.order.items
all_placed reads n s e h = ordered reads s.states.items s.passed.items s.path.items s.order.items h.search h.none_open (λ v low. h.placed v (omega arith))

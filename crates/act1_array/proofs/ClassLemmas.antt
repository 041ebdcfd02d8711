-- Classes when a wire is new, and when a link joins two wires.
use Rattle.std.proofs.Common.{ℕ, suc, zero, ◌≡◌, ◌≢◌, ◌<◌, ◌≤◌, ◌⊎◌, ◌+◌, rules, cond, nat_lt, take, Bool, true, false, not, ◌||◌, List, [], ◌∷◌, ◌++◌, length, map, Option, Some, None, get_or, refl, sym, ap, subst, ◌∙◌, inl, inr, arith}
use Rattle.std.specs.Prelude.{if◌then◌else◌, Contains, slice_get, slice_index_or, slice_set, All}
use Rattle.std.proofs.lemmas.List.Elements.{All-push, All-weaker, All-contains, All-map, Contains-push_cases, Contains-append_left}
use Rattle.std.proofs.lemmas.List.{length_push, length-map, length-set, take_more, map-append, get_or-set_same, get_or-set_other, get_or_default}
use Rattle.std.proofs.lemmas.Bool.{cases_eq, false≢true}
use Rattle.std.proofs.lemmas.Bool.Decides.{nat_tests}
use Rattle.std.proofs.lemmas.Option.{slice_get-get_or}
use Rattle.std.proofs.lemmas.Map.Views.{list_any-from_Contains}
use Rattle.std.specs.Cmp.{IsEquivalence}
use Rattle.std.specs.List.{list_any, position, position_or_len}
use Rattle.std.proofs.lemmas.List.Sums.{passes_at_first}
use Rattle.act1_device.specs.declared.device.Device.{Device}
use Rattle.act1_device.specs.declared.device.Site.{Site}
use Rattle.act1_device.specs.declared.device.Wire.{Wire}
use Rattle.act1_device.specs.contracts.device.WirePartialEq.TheImpl.{eq-value}
use Rattle.act1_device.specs.Sites.{ends_of}
use Rattle.act1_fuses.specs.Wires.{links_of}
use Rattle.act1_base.specs.Joined.{Leads, Joined}
use Rattle.act1_base.proofs.Paths.{joined_here, joined_back, joined_on}
use Rattle.act1_base.proofs.LinkAdded.{with_link, joined_more, link_joins, Through, joined_through}
use Rattle.act1_array.specs.ClassSteps.{AreClasses, AreMembers, HasClass, IsMerged, marked, renamed}
use Rattle.act1_base.proofs.ListGets.{some_is, get_within, get_in, get_more, get_last, get_cases, contains_at, place_of, get_written, get_unwritten, get_map, get_mapped, same_gets}

module _ {V : Type 0} where
  no_links : AreClasses {V = V} [] [] []
  no_links = record {
    one_each = refl;
    ends = λ a b h. absurd (omega (arith, h.1));
    joined = λ a b class h k. absurd (omega (arith, get_within [] h.0 a h.1));
    apart = λ a b c d h k j. absurd (omega (arith, get_within [] h.0 a h.1));
  }

  module _ (links : List (V × V)) (wires : List V) (classes : List ℕ) (h : AreClasses links wires classes) where
    leads_alone : (a b : V) (path : List V) → ¬ Contains wires a → Leads links a path b → a ≡ b
    leads_alone a b [] out e = e
    leads_alone a b (c ∷ path) out (inl k, rest) = absurd (out (h.ends a c k).0)
    leads_alone a b (c ∷ path) out (inr k, rest) = absurd (out (h.ends c a k).1)

    -- a wire that no link touches is joined to itself alone
    pub alone : (a b : V) → ¬ Contains wires a → Joined links a b → a ≡ b
    alone a b out k = leads_alone a b k.path out k.leads

    -- each numbered wire has a class
    pub has_class : (a : V) → Contains wires a → (class : ℕ) × HasClass wires classes a class
    has_class a k =
        let p = place_of wires a k in
        let low = get_within wires p.0 a p.1 in
        let e = h.one_each in
        let c = get_in classes p.0 (omega arith) in
        (c.0, (p.0, p.1, c.1))

    module _ (w : V) (members : List (List ℕ)) (n : ℕ) (is_n : n ≡ length wires) (m : AreMembers classes members) (fresh : ¬ Contains wires w) where
      old_low : (a : V) (c : ℕ) → HasClass wires classes a c → c < n
      old_low a c k =
          let low : c < length members = All-contains (λ (x : ℕ). x < length members) classes c m.low (contains_at classes k.0 c k.2) in
          let e = m.as_many in let f = h.one_each in omega arith

      old_or_new : (a : V) (c : ℕ) → HasClass (wires ++ w ∷ []) (classes ++ n ∷ []) a c → HasClass wires classes a c ⊎ ((w ≡ a) × (n ≡ c))
      old_or_new a c (i, at_wire, at_class) = go (get_cases wires w a i at_wire) (get_cases classes n c i at_class)
        where
          go : (slice_get wires i ≡ Some a) ⊎ ((i ≡ length wires) × (w ≡ a)) → (slice_get classes i ≡ Some c) ⊎ ((i ≡ length classes) × (n ≡ c)) → HasClass wires classes a c ⊎ ((w ≡ a) × (n ≡ c))
          go (inl p) (inl q) = inl (i, p, q)
          go (inl p) (inr q) = let low = get_within wires i a p in let e = h.one_each in absurd (omega (arith, q.0))
          go (inr p) (inl q) = let low = get_within classes i c q in let e = h.one_each in absurd (omega (arith, p.0))
          go (inr p) (inr q) = inr (p.1, q.1)

      not_new : (a : V) (c : ℕ) → HasClass wires classes a c → w ≢ a
      not_new a c k e = fresh (subst (λ (v : V). Contains wires v) (sym e) (contains_at wires k.0 a k.1))

      joined_then : (a b : V) (c : ℕ) → HasClass wires classes a c ⊎ ((w ≡ a) × (n ≡ c)) → HasClass wires classes b c ⊎ ((w ≡ b) × (n ≡ c)) → Joined links a b
      joined_then a b c (inl p) (inl q) = h.joined a b c p q
      joined_then a b c (inl p) (inr q) = let low = old_low a c p in absurd (omega (arith, q.1))
      joined_then a b c (inr p) (inl q) = let low = old_low b c q in absurd (omega (arith, p.1))
      joined_then a b c (inr p) (inr q) = subst (λ (v : V). Joined links a v) (sym p.0 ∙ q.0) (joined_here links a)

      apart_then : (a b : V) (c d : ℕ) → HasClass wires classes a c ⊎ ((w ≡ a) × (n ≡ c)) → HasClass wires classes b d ⊎ ((w ≡ b) × (n ≡ d)) → Joined links a b → c ≡ d
      apart_then a b c d (inl p) (inl q) j = h.apart a b c d p q j
      apart_then a b c d (inl p) (inr q) j =
          let back : Joined links w a = joined_back links a w (subst (λ (v : V). Joined links a v) (sym q.0) j) in absurd (not_new a c p (alone w a fresh back))
      apart_then a b c d (inr p) (inl q) j =
          let forth : Joined links w b = subst (λ (v : V). Joined links v b) (sym p.0) j in absurd (not_new b d q (alone w b fresh forth))
      apart_then a b c d (inr p) (inr q) j = sym p.1 ∙ q.1

      -- a wire that is new has a class of its own
      pub classes_more : AreClasses links (wires ++ w ∷ []) (classes ++ n ∷ [])
      classes_more = record {
        one_each = let e = h.one_each in omega (arith, length_push wires w, length_push classes n);
        ends = λ a b k. (Contains-append_left wires (w ∷ []) a (h.ends a b k).0, Contains-append_left wires (w ∷ []) b (h.ends a b k).1);
        joined = λ a b c p q. joined_then a b c (old_or_new a c p) (old_or_new b c q);
        apart = λ a b c d p q j. apart_then a b c d (old_or_new a c p) (old_or_new b d q) j;
      }

members_at_old : (members : List (List ℕ)) (own : List ℕ) (c : ℕ) → c < length members → slice_index_or (members ++ own ∷ []) c [] ≡ slice_index_or members c []
members_at_old [] own c low = absurd (omega arith)
members_at_old (x ∷ members) own zero low = refl
members_at_old (x ∷ members) own (suc c) low = members_at_old members own c (omega arith)

members_at_end : (members : List (List ℕ)) (own : List ℕ) (c : ℕ) → c ≡ length members → slice_index_or (members ++ own ∷ []) c [] ≡ own
members_at_end [] own c e = rw e refl
members_at_end (x ∷ members) own zero e = absurd (omega (arith, e))
members_at_end (x ∷ members) own (suc c) e = members_at_end members own c (omega (arith, e))

members_past : (members : List (List ℕ)) (c : ℕ) → length members ≤ c → slice_index_or members c [] ≡ []
members_past [] c low = refl
members_past (x ∷ members) zero low = absurd (omega arith)
members_past (x ∷ members) (suc c) low = members_past members c (omega arith)

module _ (classes : List ℕ) (members : List (List ℕ)) (n : ℕ) (is_n : n ≡ length classes) (m : AreMembers classes members) where
  own_members : List (List ℕ)
  own_members = members ++ (n ∷ []) ∷ []

  each_then : (i c : ℕ) → (slice_get classes i ≡ Some c) ⊎ ((i ≡ length classes) × (n ≡ c)) → Contains (slice_index_or (members ++ (n ∷ []) ∷ []) c []) i
  each_then i c (inl p) =
      let low : c < length members = All-contains (λ (x : ℕ). x < length members) classes c m.low (contains_at classes i c p) in
      subst (λ (xs : List ℕ). Contains xs i) (sym (members_at_old members (n ∷ []) c low)) (m.each i c p)
  each_then i c (inr p) =
      let e = m.as_many in
      subst (λ (xs : List ℕ). Contains xs i) (sym (members_at_end members (n ∷ []) c (omega (arith, p.1)))) (0, omega arith, omega (arith, p.0))

  only_then : (i c : ℕ) → (c < length members) ⊎ ((c ≡ length members) ⊎ (length members < c)) → Contains (slice_index_or (members ++ (n ∷ []) ∷ []) c []) i → slice_get (classes ++ n ∷ []) i ≡ Some c
  only_then i c (inl low) k = get_more classes n c i (m.only i c (subst (λ (xs : List ℕ). Contains xs i) (members_at_old members (n ∷ []) c low) k))
  only_then i c (inr (inl is)) k =
      let e = m.as_many in
      let at : Contains (n ∷ []) i = subst (λ (xs : List ℕ). Contains xs i) (members_at_end members (n ∷ []) c is) k in
      let same : i ≡ length classes = omega (arith, All-contains (λ (x : ℕ). x ≡ n) (n ∷ []) i (all_one n) at) in
      get_last classes n i same ∙ ap (λ (x : ℕ). Some x) (omega arith)
    where
      all_one : (x : ℕ) → All (λ (y : ℕ). y ≡ x) (x ∷ [])
      all_one x = λ k d low. one k d low
        where
          one : (k d : ℕ) → k < length (x ∷ []) → slice_index_or (x ∷ []) k d ≡ x
          one zero d low = refl
          one (suc k) d low = absurd (omega arith)
  only_then i c (inr (inr high)) k =
      let none : slice_index_or (members ++ (n ∷ []) ∷ []) c [] ≡ [] = members_past (members ++ (n ∷ []) ∷ []) c (omega (arith, length_push members (n ∷ []))) in
      let at : Contains [] i = subst (λ (xs : List ℕ). Contains xs i) none k in
      absurd (omega (arith, at.1))

  trichotomy : (a b : ℕ) → (a < b) ⊎ ((a ≡ b) ⊎ (b < a))
  trichotomy zero zero = inr (inl refl)
  trichotomy zero (suc b) = inl (omega arith)
  trichotomy (suc a) zero = inr (inr (omega arith))
  trichotomy (suc a) (suc b) = on (trichotomy a b)
    where
      on : (a < b) ⊎ ((a ≡ b) ⊎ (b < a)) → (suc a < suc b) ⊎ ((suc a ≡ suc b) ⊎ (suc b < suc a))
      on (inl h) = inl (omega arith)
      on (inr (inl h)) = inr (inl (ap suc h))
      on (inr (inr h)) = inr (inr (omega arith))

  -- the class of the new wire has it alone
  pub members_more : AreMembers (classes ++ n ∷ []) (members ++ (n ∷ []) ∷ [])
  members_more = record {
    as_many = let e = m.as_many in omega (arith, length_push members (n ∷ []), length_push classes n);
    low = All-push (λ (x : ℕ). x < length (members ++ (n ∷ []) ∷ [])) classes n
        (All-weaker (λ (x : ℕ). x < length members) (λ (x : ℕ). x < length (members ++ (n ∷ []) ∷ [])) (λ x low. omega (arith, length_push members (n ∷ []))) classes m.low)
        (let e = m.as_many in omega (arith, length_push members (n ∷ [])));
    each = λ i c k. each_then i c (get_cases classes n c i k);
    only = λ i c k. only_then i c (trichotomy c (length members)) k;
  }

-- the places that are marked, and the others
marked_keeps : (class : ℕ) (ws classes : List ℕ) (i : ℕ) → slice_get classes i ≡ Some class → slice_get (marked class ws classes) i ≡ Some class
marked_keeps class [] classes i e = e
marked_keeps class (w ∷ ws) classes i e = marked_keeps class ws (slice_set classes w class) i (kept (cases_eq i w))
  where
    kept : (i ≡ w) ⊎ (i ≢ w) → slice_get (slice_set classes w class) i ≡ Some class
    kept (inl is) = subst (λ (k : ℕ). slice_get (slice_set classes k class) i ≡ Some class) is (get_written classes i class (get_within classes i class e))
    kept (inr apart) = get_unwritten classes w i class apart ∙ e

marked_in : (class : ℕ) (ws classes : List ℕ) (i : ℕ) → i < length classes → Contains ws i → slice_get (marked class ws classes) i ≡ Some class
marked_in class [] classes i low k = absurd (omega (arith, k.1))
marked_in class (w ∷ ws) classes i low (zero, within, e) =
    marked_keeps class ws (slice_set classes w class) i (subst (λ (k : ℕ). slice_get (slice_set classes k class) i ≡ Some class) (sym e) (get_written classes i class low))
marked_in class (w ∷ ws) classes i low (suc k, within, e) = marked_in class ws (slice_set classes w class) i (omega (arith, length-set {A = ℕ})) (k, omega arith, e)

marked_out : (class : ℕ) (ws classes : List ℕ) (i : ℕ) → ¬ Contains ws i → slice_get (marked class ws classes) i ≡ slice_get classes i
marked_out class [] classes i out = refl
marked_out class (w ∷ ws) classes i out =
    marked_out class ws (slice_set classes w class) i (λ k. let low = k.1 in out (suc k.0, omega arith, k.2))
    ∙ get_unwritten classes w i class (λ e. out (0, omega arith, sym e))

renamed_same : (from to class : ℕ) → class ≡ from → renamed from to class ≡ to
renamed_same from to class e = grind (arith, nat_tests)

renamed_other : (from to class : ℕ) → class ≢ from → renamed from to class ≡ class
renamed_other from to class e = grind (arith, nat_tests)

none_past : (xs : List ℕ) (i : ℕ) → slice_get xs i ≡ None → length xs ≤ i
none_past [] i e = omega arith
none_past (x ∷ xs) zero e = cc
none_past (x ∷ xs) (suc i) e = let low = none_past xs i e in omega arith

map_none : (f : ℕ → ℕ) (xs : List ℕ) (i : ℕ) → slice_get xs i ≡ None → slice_get (map f xs) i ≡ None
map_none f [] i e = refl
map_none f (x ∷ xs) zero e = cc
map_none f (x ∷ xs) (suc i) e = map_none f xs i e

in_append : (xs ys : List ℕ) (i : ℕ) → Contains (xs ++ ys) i → Contains xs i ⊎ Contains ys i
in_append [] ys i k = inr k
in_append (x ∷ xs) ys i (zero, low, e) = inl (0, omega arith, e)
in_append (x ∷ xs) ys i (suc k, low, e) = more (in_append xs ys i (k, omega arith, e))
  where
    more : Contains xs i ⊎ Contains ys i → Contains (x ∷ xs) i ⊎ Contains ys i
    more (inl h) = let low = h.1 in inl (suc h.0, omega arith, h.2)
    more (inr h) = inr h

in_right : (xs ys : List ℕ) (i : ℕ) → Contains ys i → Contains (xs ++ ys) i
in_right [] ys i k = k
in_right (x ∷ xs) ys i k = let r = in_right xs ys i k in let low = r.1 in (suc r.0, omega arith, r.2)

pub all_of : {X : Type 0} (P : X → Type 0) (xs : List X) → ((x : X) → Contains xs x → P x) → All P xs
all_of P xs h = λ k d low. h (get_or xs k d) (k, low, get_or_default xs k (get_or xs k d) d low)

-- the members of a class are numbers of wires
pub members_low : (classes : List ℕ) (members : List (List ℕ)) → AreMembers classes members → (class : ℕ) → All (λ wire. wire < length classes) (slice_index_or members class [])
members_low classes members m class = all_of (λ wire. wire < length classes) (slice_index_or members class []) (λ wire k. get_within classes wire class (m.only wire class k))

abbrev pub merged_members : List (List ℕ) → ℕ → ℕ → List (List ℕ)
merged_members members from to =
    slice_set (slice_set (slice_set members from []) to []) to (slice_index_or (slice_set members from []) to [] ++ slice_index_or members from [])

pub is_merged_members : (members : List (List ℕ)) (from to : ℕ) (without neither all : List (List ℕ)) (kept moved both : List ℕ)
    → without ≡ slice_set members from [] → neither ≡ slice_set without to [] → kept ≡ slice_index_or without to [] → moved ≡ slice_index_or members from [] → both ≡ kept ++ moved → all ≡ slice_set neither to both
    → all ≡ merged_members members from to
is_merged_members members from to without neither all kept moved both a b c d e f = rw (f, e, d, c, b, a) refl

module _ (classes : List ℕ) (members : List (List ℕ)) (m : AreMembers classes members) (from to : ℕ) (apart : from ≢ to) (from_low : from < length members) (to_low : to < length members) where
  marked_at : (i : ℕ) (o : Option ℕ) → slice_get classes i ≡ o → slice_get (marked to (slice_index_or members from []) classes) i ≡ slice_get (map (renamed from to) classes) i
  marked_at i None e =
      marked_out to (slice_index_or members from []) classes i (λ k. let low = get_within classes i from (m.only i from k) in let past = none_past classes i e in absurd (omega arith))
      ∙ e ∙ sym (map_none (renamed from to) classes i e)
  marked_at i (Some c) e = by (cases_eq c from)
    where
      by : (c ≡ from) ⊎ (c ≢ from) → slice_get (marked to (slice_index_or members from []) classes) i ≡ slice_get (map (renamed from to) classes) i
      by (inl is) =
          marked_in to (slice_index_or members from []) classes i (get_within classes i c e) (m.each i from (e ∙ ap (λ (x : ℕ). Some x) is))
          ∙ sym (get_map (renamed from to) classes i c e ∙ ap (λ (x : ℕ). Some x) (renamed_same from to c is))
      by (inr other) =
          marked_out to (slice_index_or members from []) classes i (λ k. other (some_is c from (sym e ∙ m.only i from k)))
          ∙ e ∙ sym (get_map (renamed from to) classes i c e ∙ ap (λ (x : ℕ). Some x) (renamed_other from to c other))

  -- when the members of a class are marked, the class has the other name
  pub marked_is : marked to (slice_index_or members from []) classes ≡ map (renamed from to) classes
  marked_is = same_gets (marked to (slice_index_or members from []) classes) (map (renamed from to) classes) (λ i. marked_at i (slice_get classes i) refl)

  abbrev merged : List (List ℕ)
  merged = merged_members members from to

  at_to : slice_index_or merged to [] ≡ slice_index_or members to [] ++ slice_index_or members from []
  at_to =
      get_or-set_same (slice_set (slice_set members from []) to []) to (slice_index_or (slice_set members from []) to [] ++ slice_index_or members from []) [] (omega (arith, length-set {A = List ℕ}))
      ∙ ap (λ (xs : List ℕ). xs ++ slice_index_or members from []) (get_or-set_other members from to [] [] (λ e. apart (sym e)))

  at_other : (c : ℕ) → c ≢ to → slice_index_or merged c [] ≡ slice_index_or (slice_set members from []) c []
  at_other c other =
      get_or-set_other (slice_set (slice_set members from []) to []) to c (slice_index_or (slice_set members from []) to [] ++ slice_index_or members from []) [] other
      ∙ get_or-set_other (slice_set members from []) to c [] [] other

  at_from : slice_index_or merged from [] ≡ []
  at_from = at_other from apart ∙ get_or-set_same members from [] [] from_low

  at_third : (c : ℕ) → c ≢ to → c ≢ from → slice_index_or merged c [] ≡ slice_index_or members c []
  at_third c not_to not_from = at_other c not_to ∙ get_or-set_other members from c [] [] not_from

  each_merged : (i c d : ℕ) → slice_get classes i ≡ Some c → renamed from to c ≡ d → (c ≡ from) ⊎ (c ≢ from) → (c ≡ to) ⊎ (c ≢ to) → Contains (slice_index_or merged d []) i
  each_merged i c d e r (inl is) t =
      let d_is : d ≡ to = sym r ∙ renamed_same from to c is in
      subst (λ (x : ℕ). Contains (slice_index_or merged x []) i) (sym d_is)
      (subst (λ (xs : List ℕ). Contains xs i) (sym at_to) (in_right (slice_index_or members to []) (slice_index_or members from []) i (m.each i from (e ∙ ap (λ (x : ℕ). Some x) is))))
  each_merged i c d e r (inr other) (inl is) =
      let d_is : d ≡ to = sym r ∙ renamed_other from to c other ∙ is in
      subst (λ (x : ℕ). Contains (slice_index_or merged x []) i) (sym d_is)
      (subst (λ (xs : List ℕ). Contains xs i) (sym at_to) (Contains-append_left (slice_index_or members to []) (slice_index_or members from []) i (m.each i to (e ∙ ap (λ (x : ℕ). Some x) is))))
  each_merged i c d e r (inr other) (inr third) =
      let d_is : d ≡ c = sym r ∙ renamed_other from to c other in
      subst (λ (x : ℕ). Contains (slice_index_or merged x []) i) (sym d_is)
      (subst (λ (xs : List ℕ). Contains xs i) (sym (at_third c third other)) (m.each i c e))

  only_merged : (i d : ℕ) → Contains (slice_index_or merged d []) i → (d ≡ from) ⊎ (d ≢ from) → (d ≡ to) ⊎ (d ≢ to) → slice_get (map (renamed from to) classes) i ≡ Some d
  only_merged i d k (inl is) t =
      let none : Contains [] i = subst (λ (xs : List ℕ). Contains xs i) (ap (λ (x : ℕ). slice_index_or merged x []) is ∙ at_from) k in absurd (omega (arith, none.1))
  only_merged i d k (inr other) (inl is) =
      by (in_append (slice_index_or members to []) (slice_index_or members from []) i (subst (λ (xs : List ℕ). Contains xs i) (ap (λ (x : ℕ). slice_index_or merged x []) is ∙ at_to) k))
    where
      by : Contains (slice_index_or members to []) i ⊎ Contains (slice_index_or members from []) i → slice_get (map (renamed from to) classes) i ≡ Some d
      by (inl h) = get_map (renamed from to) classes i to (m.only i to h) ∙ ap (λ (x : ℕ). Some x) (renamed_other from to to (λ e. apart (sym e)) ∙ sym is)
      by (inr h) = get_map (renamed from to) classes i from (m.only i from h) ∙ ap (λ (x : ℕ). Some x) (renamed_same from to from refl ∙ sym is)
  only_merged i d k (inr other) (inr third) =
      get_map (renamed from to) classes i d (m.only i d (subst (λ (xs : List ℕ). Contains xs i) (at_third d third other) k)) ∙ ap (λ (x : ℕ). Some x) (renamed_other from to d other)

  renamed_low : (c : ℕ) → c < length members → (c ≡ from) ⊎ (c ≢ from) → renamed from to c < length merged
  renamed_low c low (inl is) = rw (renamed_same from to c is) (omega (arith, length-set {A = List ℕ}))
  renamed_low c low (inr other) = rw (renamed_other from to c other) (omega (arith, length-set {A = List ℕ}))

  -- the members when one class goes over to the other
  pub members_merged : AreMembers (map (renamed from to) classes) merged
  members_merged = record {
    as_many = let e = m.as_many in omega (arith, length-set {A = List ℕ}, length-map classes (renamed from to));
    low = All-map (λ (x : ℕ). x < length merged) (renamed from to) classes
        (All-weaker (λ (x : ℕ). x < length members) (λ (x : ℕ). renamed from to x < length merged) (λ x low. renamed_low x low (cases_eq x from)) classes m.low);
    each = λ i d k. let p = get_mapped (renamed from to) classes i d k in each_merged i p.0 d p.1 p.2 (cases_eq p.0 from) (cases_eq p.0 to);
    only = λ i d k. only_merged i d k (cases_eq d from) (cases_eq d to);
  }

-- a link between two wires makes their two classes one
module _ {V : Type 0} (links : List (V × V)) (a b : V) (wires : List V) (classes : List ℕ) (h : AreClasses links wires classes) where
  abbrev Now : V → V → Type 0
  Now x y = Joined (with_link links a b) x y

  module _ (p q : V) (from to : ℕ) (p_is : HasClass wires classes p from) (q_is : HasClass wires classes q to) (pq : Now p q)
      (through : (x y : V) → Now x y → Joined links x y ⊎ ((Joined links x p × Joined links q y) ⊎ (Joined links x q × Joined links p y))) where
    abbrev Was : V → ℕ → Type 0
    Was x d = (c : ℕ) × HasClass wires classes x c × (renamed from to c ≡ d)

    was : (x : V) (d : ℕ) → HasClass wires (map (renamed from to) classes) x d → Was x d
    was x d (i, at_wire, at_class) = let r = get_mapped (renamed from to) classes i d at_class in (r.0, (i, at_wire, r.1), r.2)

    more : (x y : V) → Joined links x y → Now x y
    more x y j = joined_more links a b x y j

    across : (x y : V) → Joined links x p → Joined links q y → Now x y
    across x y j k = joined_on (with_link links a b) x p y (more x p j) (joined_on (with_link links a b) p q y pq (more q y k))

    class_is : (x : V) (c d : ℕ) → HasClass wires classes x c → c ≡ d → HasClass wires classes x d
    class_is x c d k e = subst (λ (n : ℕ). HasClass wires classes x n) e k

    joined_now : (x y : V) (d : ℕ) (u : Was x d) (v : Was y d) → (u.0 ≡ from) ⊎ (u.0 ≢ from) → (v.0 ≡ from) ⊎ (v.0 ≢ from) → Now x y
    joined_now x y d u v (inl e) (inl f) = more x y (h.joined x y from (class_is x u.0 from u.1 e) (class_is y v.0 from v.1 f))
    joined_now x y d u v (inl e) (inr f) =
        let to_is : v.0 ≡ to = sym (renamed_other from to v.0 f) ∙ v.2 ∙ sym u.2 ∙ renamed_same from to u.0 e in
        across x y (h.joined x p from (class_is x u.0 from u.1 e) p_is) (h.joined q y to q_is (class_is y v.0 to v.1 to_is))
    joined_now x y d u v (inr e) (inl f) =
        let to_is : u.0 ≡ to = sym (renamed_other from to u.0 e) ∙ u.2 ∙ sym v.2 ∙ renamed_same from to v.0 f in
        joined_back (with_link links a b) y x (across y x (h.joined y p from (class_is y v.0 from v.1 f) p_is) (h.joined q x to q_is (class_is x u.0 to u.1 to_is)))
    joined_now x y d u v (inr e) (inr f) =
        let same : u.0 ≡ v.0 = sym (renamed_other from to u.0 e) ∙ u.2 ∙ sym v.2 ∙ renamed_other from to v.0 f in
        more x y (h.joined x y v.0 (class_is x u.0 v.0 u.1 same) v.1)

    to_stays : (c : ℕ) → c ≡ to → (c ≡ from) ⊎ (c ≢ from) → renamed from to c ≡ to
    to_stays c e (inl f) = renamed_same from to c f
    to_stays c e (inr f) = renamed_other from to c f ∙ e

    apart_now : (x y : V) (c d : ℕ) (u : Was x c) (v : Was y d) → Joined links x y ⊎ ((Joined links x p × Joined links q y) ⊎ (Joined links x q × Joined links p y)) → c ≡ d
    apart_now x y c d u v (inl j) = sym u.2 ∙ ap (renamed from to) (h.apart x y u.0 v.0 u.1 v.1 j) ∙ v.2
    apart_now x y c d u v (inr (inl j)) =
        sym u.2 ∙ renamed_same from to u.0 (h.apart x p u.0 from u.1 p_is j.0) ∙ sym (to_stays v.0 (sym (h.apart q y to v.0 q_is v.1 j.1)) (cases_eq v.0 from)) ∙ v.2
    apart_now x y c d u v (inr (inr j)) =
        sym u.2 ∙ to_stays u.0 (h.apart x q u.0 to u.1 q_is j.0) (cases_eq u.0 from) ∙ sym (renamed_same from to v.0 (sym (h.apart p y from v.0 p_is v.1 j.1))) ∙ v.2

    ends_now : (x y : V) → Contains wires a → Contains wires b → Contains links (x, y) ⊎ ◌≡◌ {A = V × V} (a, b) (x, y) → Contains wires x × Contains wires y
    ends_now x y a_in b_in (inl k) = h.ends x y k
    ends_now x y a_in b_in (inr e) = (subst (λ (v : V). Contains wires v) (ap (λ (l : V × V). l.0) e) a_in, subst (λ (v : V). Contains wires v) (ap (λ (l : V × V). l.1) e) b_in)

    pub renamed_joins : Contains wires a → Contains wires b → AreClasses (with_link links a b) wires (map (renamed from to) classes)
    renamed_joins a_in b_in = record {
      one_each = length-map classes (renamed from to) ∙ h.one_each;
      ends = λ x y k. ends_now x y a_in b_in (Contains-push_cases links (a, b) (x, y) k);
      joined = λ x y d k l. let u = was x d k in let v = was y d l in joined_now x y d u v (cases_eq u.0 from) (cases_eq v.0 from);
      apart = λ x y c d k l j. apart_now x y c d (was x c k) (was y d l) (through x y j);
    }

  other_way : (x y : V) → Through links a b x y → Joined links x y ⊎ ((Joined links x b × Joined links a y) ⊎ (Joined links x a × Joined links b y))
  other_way x y (inl j) = inl j
  other_way x y (inr (inl j)) = inr (inr j)
  other_way x y (inr (inr j)) = inr (inl j)

  class_at : (x : V) (i : ℕ) → slice_get wires i ≡ Some x → HasClass wires classes x (slice_index_or classes i 0)
  class_at x i at =
      let low = get_within wires i x at in
      let e = h.one_each in
      (i, at, slice_get-get_or classes i 0 (omega arith))

  -- the classes when a link is added
  pub linked_classes : (i j : ℕ) (new : List ℕ) → slice_get wires i ≡ Some a → slice_get wires j ≡ Some b → IsMerged i j classes new → AreClasses (with_link links a b) wires new
  linked_classes i j new at_a at_b (inl e) =
      subst (λ (cs : List ℕ). AreClasses (with_link links a b) wires cs) (sym e)
      (renamed_joins a b (slice_index_or classes i 0) (slice_index_or classes j 0) (class_at a i at_a) (class_at b j at_b) (link_joins links a b) (λ x y k. joined_through links a b x y k)
      (contains_at wires i a at_a) (contains_at wires j b at_b))
  linked_classes i j new at_a at_b (inr e) =
      subst (λ (cs : List ℕ). AreClasses (with_link links a b) wires cs) (sym e)
      (renamed_joins b a (slice_index_or classes j 0) (slice_index_or classes i 0) (class_at b j at_b) (class_at a i at_a) (joined_back (with_link links a b) a b (link_joins links a b))
      (λ x y k. other_way x y (joined_through links a b x y k))
      (contains_at wires i a at_a) (contains_at wires j b at_b))

pub linked_in : {V : Type 0} (links : List (V × V)) (a b : V) (wires new_wires : List V) (classes new : List ℕ) (i j : ℕ) → new_wires ≡ wires → AreClasses links wires classes
    → slice_get wires i ≡ Some a → slice_get wires j ≡ Some b → IsMerged i j classes new → AreClasses (with_link links a b) new_wires new
linked_in {V} links a b wires new_wires classes new i j same h at_a at_b merged =
    subst (λ (ws : List V). AreClasses (with_link links a b) ws new) (sym same) (linked_classes links a b wires classes h i j new at_a at_b merged)

-- a wire that no equal wire is in the list with
module _ {V : Type 0} (eq : V → V → Bool) where
  no_place : (w : V) (ws : List V) → list_any (eq w) ws ≡ false → position_or_len (eq w) ws ≡ length ws
  no_place w [] e = refl
  no_place w (x ∷ ws) e = by (eq w x) refl e (no_place w ws)
    where
      by : (t : Bool) → eq w x ≡ t → (eq w x || list_any (eq w) ws) ≡ false → (list_any (eq w) ws ≡ false → position_or_len (eq w) ws ≡ length ws) → position_or_len (eq w) (x ∷ ws) ≡ length (x ∷ ws)
      by true is f on = absurd (false≢true (sym f ∙ ap (λ (t : Bool). t || list_any (eq w) ws) is))
      by false is f on =
          let rest = on (sym (ap (λ (t : Bool). t || list_any (eq w) ws) is) ∙ f) in
          rw is (rw rest (omega arith))

  not_there : IsEquivalence eq → (w : V) (ws : List V) → list_any (eq w) ws ≡ false → ¬ Contains ws w
  not_there same w ws e k = false≢true (sym e ∙ list_any-from_Contains same w ws k)

  pub new_key : (w : V) (ws : List V) (is_new : Bool) → is_new ≡ not (list_any (eq w) ws) → is_new ≡ true → list_any (eq w) ws ≡ false
  new_key w ws is_new e f = by (list_any (eq w) ws) (sym f ∙ e)
    where
      by : (t : Bool) → true ≡ not t → t ≡ false
      by true h = absurd (false≢true (sym h))
      by false h = refl

  -- the table when a wire is new
  pub made_classes : IsEquivalence eq → (links : List (V × V)) (w : V) (ws new_ws : List V) (n : ℕ) (classes new_classes : List ℕ) (members : List (List ℕ))
      → list_any (eq w) ws ≡ false → new_ws ≡ (if list_any (eq w) ws then ws else ws ++ w ∷ []) → n ≡ position_or_len (eq w) ws → new_classes ≡ classes ++ n ∷ []
      → AreMembers classes members → AreClasses links ws classes → AreClasses links new_ws new_classes
  made_classes same links w ws new_ws n classes new_classes members none keys at made m h =
      let keys_are : new_ws ≡ ws ++ w ∷ [] = keys ∙ ap (λ (t : Bool). if t then ws else ws ++ w ∷ []) none in
      rw (keys_are, made) (classes_more links ws classes h w members n (at ∙ no_place w ws none) m (not_there same w ws none))

  pub no_more : (w : V) (ws new_ws : List V) (n : ℕ) (classes new_classes : List ℕ)
      → list_any (eq w) ws ≡ false → new_ws ≡ (if list_any (eq w) ws then ws else ws ++ w ∷ []) → new_classes ≡ classes ++ n ∷ [] → length classes ≡ length ws → length new_classes ≡ length new_ws
  no_more w ws new_ws n classes new_classes none keys made one_each =
      let keys_are : new_ws ≡ ws ++ w ∷ [] = keys ∙ ap (λ (t : Bool). if t then ws else ws ++ w ∷ []) none in
      rw (keys_are, made) (omega (arith, length_push ws w, length_push classes n))

  -- no wire has two numbers when one is new
  pub still_once : IsEquivalence eq → (w : V) (ws new_ws : List V) → list_any (eq w) ws ≡ false → new_ws ≡ (if list_any (eq w) ws then ws else ws ++ w ∷ [])
      → ((i j : ℕ) (x : V) → slice_get ws i ≡ Some x → slice_get ws j ≡ Some x → i ≡ j) → (i j : ℕ) (x : V) → slice_get new_ws i ≡ Some x → slice_get new_ws j ≡ Some x → i ≡ j
  still_once same w ws new_ws none keys once i j x at_i at_j =
      let keys_are : new_ws ≡ ws ++ w ∷ [] = keys ∙ ap (λ (t : Bool). if t then ws else ws ++ w ∷ []) none in
      by (get_cases ws w x i (sym (ap (λ (xs : List V). slice_get xs i) keys_are) ∙ at_i)) (get_cases ws w x j (sym (ap (λ (xs : List V). slice_get xs j) keys_are) ∙ at_j))
    where
      by : (slice_get ws i ≡ Some x) ⊎ ((i ≡ length ws) × (w ≡ x)) → (slice_get ws j ≡ Some x) ⊎ ((j ≡ length ws) × (w ≡ x)) → i ≡ j
      by (inl p) (inl q) = once i j x p q
      by (inl p) (inr q) = absurd (not_there same w ws none (contains_at ws i w (p ∙ ap (λ (v : V). let r : Option V = Some v in r) (sym q.1))))
      by (inr p) (inl q) = absurd (not_there same w ws none (contains_at ws j w (q ∙ ap (λ (v : V). let r : Option V = Some v in r) (sym p.1))))
      by (inr p) (inr q) = p.0 ∙ sym q.0

  pub made_members : (w : V) (ws : List V) (n : ℕ) (classes new_classes own : List ℕ) (members new_members : List (List ℕ))
      → list_any (eq w) ws ≡ false → n ≡ position_or_len (eq w) ws → length classes ≡ length ws → new_classes ≡ classes ++ n ∷ [] → own ≡ [] ++ n ∷ [] → new_members ≡ members ++ own ∷ []
      → AreMembers classes members → AreMembers new_classes new_members
  made_members w ws n classes new_classes own members new_members none at one_each made own_is made_own m =
      rw (made, made_own, own_is) (members_more classes members n (at ∙ no_place w ws none ∙ sym one_each) m)

  pub kept_keys : (w : V) (ws new_ws : List V) → new_ws ≡ (if list_any (eq w) ws then ws else ws ++ w ∷ []) → (k : ℕ) (x : V) → slice_get ws k ≡ Some x → slice_get new_ws k ≡ Some x
  kept_keys w ws new_ws keys k x at = by (list_any (eq w) ws) refl
    where
      by : (t : Bool) → list_any (eq w) ws ≡ t → slice_get new_ws k ≡ Some x
      by true e = ap (λ (xs : List V). slice_get xs k) (keys ∙ ap (λ (t : Bool). if t then ws else ws ++ w ∷ []) e) ∙ at
      by false e = ap (λ (xs : List V). slice_get xs k) (keys ∙ ap (λ (t : Bool). if t then ws else ws ++ w ∷ []) e) ∙ get_more ws w x k at

  found_from : (w : V) (ws : List V) (i : ℕ) (low : Bool) → nat_lt (position_or_len (eq w) ws) (length ws) ≡ low → Some i ≡ cond low (Some (position_or_len (eq w) ws)) None → (i ≡ position_or_len (eq w) ws) × (i < length ws)
  found_from w ws i true e h = let is : i ≡ position_or_len (eq w) ws = cc in let low : position_or_len (eq w) ws < length ws = grind (arith, nat_tests) in (is, omega arith)
  found_from w ws i false e h = cc

  -- a found wire is at the place that was found
  pub found_at : ((x y : V) → eq x y ≡ true → x ≡ y) → (w : V) (ws : List V) (i : ℕ) → Some i ≡ position (eq w) ws → slice_get ws i ≡ Some w
  found_at same w ws i h =
      let r = found_from w ws i (nat_lt (position_or_len (eq w) ws) (length ws)) refl h in
      let low : i < length ws = r.1 in
      let first : position_or_len (eq w) ws < length ws = omega (arith, r.0, r.1) in
      let passes = passes_at_first (eq w) ws w first in
      let is = same w (get_or ws (position_or_len (eq w) ws) w) passes in
      slice_get-get_or ws i w low ∙ ap (λ (x : V). Some x) (ap (λ (k : ℕ). get_or ws k w) r.0 ∙ sym is)

same_wires : (x y : Wire) → eq-value.it x y ≡ true → x ≡ y
same_wires x y h = search rules

pub found_wire : (w : Wire) (ws : List Wire) (i : ℕ) → Some i ≡ position (eq-value.it w) ws → slice_get ws i ≡ Some w
found_wire w ws i h = found_at eq-value.it same_wires w ws i h

-- one site more
pub links_more : (dev : Device) (sites : List Site) (k : ℕ) (d : Site) → k < length sites → links_of dev (take (k + 1) sites) ≡ with_link (links_of dev (take k sites)) (ends_of dev (get_or sites k d)).0 (ends_of dev (get_or sites k d)).1
links_more dev sites k d low = ap (links_of dev) (take_more sites k d low) ∙ map-append (ends_of dev) (take k sites) (get_or sites k d ∷ [])

-- the classes are below the number of wires
pub class_low : (wires : List Wire) (classes : List ℕ) (members : List (List ℕ)) → length classes ≡ length wires → AreMembers classes members → (w : Wire) (class : ℕ) → HasClass wires classes w class → class < length wires
class_low wires classes members one_each m w class k =
    let low : class < length members = All-contains (λ (x : ℕ). x < length members) classes class m.low (contains_at classes k.0 class k.2) in
    let e = m.as_many in omega arith

pub once_moved : (old new : List Wire) → new ≡ old → ((i j : ℕ) (w : Wire) → slice_get old i ≡ Some w → slice_get old j ≡ Some w → i ≡ j) → (i j : ℕ) (w : Wire) → slice_get new i ≡ Some w → slice_get new j ≡ Some w → i ≡ j
once_moved old new e once = subst (λ (ws : List Wire). (i j : ℕ) (w : Wire) → slice_get ws i ≡ Some w → slice_get ws j ≡ Some w → i ≡ j) (sym e) once

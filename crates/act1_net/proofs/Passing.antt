-- How the terms of the first signals of an order become those of one signal more.
use Rattle.std.proofs.Common.{ℕ, suc, zero, ◌≡◌, ◌≢◌, ◌<◌, ◌≤◌, ◌+◌, ◌-◌, ◌⊎◌, Bool, false, List, [], ◌∷◌, ◌++◌, length, map, refl, arith, inl, inr, ap, sym, subst, ◌∙◌, Option, Some, None, get_or-set_same, get_or-set_other}
use Rattle.std.specs.Prelude.{Contains, MatchOption, slice_get, slice_set, slice_index_or}
use Rattle.std.specs.List.{cons_option, filter_map}
use Rattle.std.proofs.lemmas.Bool.{cases_eq, cases_lt}
use Rattle.std.proofs.lemmas.List.{length-set}
use Rattle.act1_base.proofs.ListGets.{some_is, get_in, get_within, contains_at, place_of}
use Rattle.act1_order.specs.Order.{IsOrder, StandsBefore}
use Rattle.act1_blif.specs.declared.blif.Blif.{Blif}
use Rattle.act1_blif.specs.declared.blif.Node.{Node}
use Rattle.act1_blif.specs.Graph.{first_node, reads_of, signal_count}
use Rattle.act1_blif.specs.Laws.{IsWhole}
use Rattle.act1_blif.specs.Run.{Fits, node_value, signal, signals}
use Rattle.act1_logic.specs.Cover.{value_of}
use Rattle.act1_net.specs.declared.gate.Gate.{Gate}
use Rattle.act1_net.specs.declared.net.NetTerm.{NetTerm}
use Rattle.act1_net.specs.declared.net.NetTerm.TheVariants as term
use Rattle.act1_net.specs.Net.{term_value}
use Rattle.act1_net.specs.Gates.{gate_left, gate_value, gate_with, key_of, settled, signal_of, term_of}
use Rattle.act1_net.specs.TableSteps.{Has, HasNone}
use Rattle.act1_net.specs.PassSteps.{AreMeant, ArePassed, ArePassing, IsJoined, IsPassed, IsTabled, IsTermOf}
use Rattle.act1_net.proofs.FitLists.{fits_at, length_map, long, map_map, map_same}
use Rattle.act1_net.proofs.GateValues.{gate_same, settled_signal, settled_value}
use Rattle.act1_net.proofs.Keys.{one_key}
use Rattle.act1_net.proofs.Tables.{has_cases, has_last, has_more}

-- a signal among those of the terms of some signals is that of one of these
pub in_left : (terms : List NetTerm) (ss : List ℕ) (u : ℕ) → Contains (filter_map signal_of (map (term_of terms) ss)) u → (w : ℕ) × Contains ss w × (term_of terms w ≡ term.Signal u)
in_left terms [] u c = absurd (omega (arith, c.1))
in_left terms (s ∷ ss) u c = by (term_of terms s) refl c (λ d. in_left terms ss u d)
  where
    later : (w : ℕ) × Contains ss w × (term_of terms w ≡ term.Signal u) → (w : ℕ) × Contains (s ∷ ss) w × (term_of terms w ≡ term.Signal u)
    later (w, d, e) = (w, (suc d.0, let low = d.1 in omega arith, d.2), e)

    by : (t : NetTerm) → term_of terms s ≡ t → Contains (cons_option (signal_of t) (filter_map signal_of (map (term_of terms) ss))) u
        → (Contains (filter_map signal_of (map (term_of terms) ss)) u → (w : ℕ) × Contains ss w × (term_of terms w ≡ term.Signal u)) → (w : ℕ) × Contains (s ∷ ss) w × (term_of terms w ≡ term.Signal u)
    by term.Zero is d rest = later (rest d)
    by term.One is d rest = later (rest d)
    by (term.Signal x) is (zero, low, e) rest = (s, (0, omega arith, refl), is ∙ ap term.Signal e)
    by (term.Signal x) is (suc k, low, e) rest = later (rest (k, omega arith, e))

-- the signal of the term of one of these is among them
pub left_in : (terms : List NetTerm) (ss : List ℕ) (w u : ℕ) → Contains ss w → term_of terms w ≡ term.Signal u → Contains (filter_map signal_of (map (term_of terms) ss)) u
left_in terms [] w u c is = absurd (omega (arith, c.1))
left_in terms (s ∷ ss) w u (zero, low, e) is = by (term_of terms s) (ap (term_of terms) e ∙ is)
  where
    by : (t : NetTerm) → t ≡ term.Signal u → Contains (cons_option (signal_of t) (filter_map signal_of (map (term_of terms) ss))) u
    by term.Zero f = cc
    by term.One f = cc
    by (term.Signal x) f = (0, omega arith, (let same : x ≡ u = cc in same))
left_in terms (s ∷ ss) w u (suc k, low, e) is = by (term_of terms s) (left_in terms ss w u (k, omega arith, e) is)
  where
    by : (t : NetTerm) → Contains (filter_map signal_of (map (term_of terms) ss)) u → Contains (cons_option (signal_of t) (filter_map signal_of (map (term_of terms) ss))) u
    by term.Zero d = d
    by term.One d = d
    by (term.Signal x) d = (suc d.0, let l = d.1 in omega arith, d.2)

-- a node has the value of what is left of it
pub left_value : (b : Blif) (terms : List NetTerm) → AreMeant b terms → (q x v : List Bool) → Fits b q x v → (j : ℕ) (node : Node) → slice_get b.nodes j ≡ Some node → signal v (first_node b + j) ≡ gate_value v (gate_with terms node)
left_value b terms meant q x v fits j node is =
    fits_at b q x v fits j node is
    ∙ ap (value_of node.cover) (map_same (signal v) (λ s. term_value v (term_of terms s)) node.inputs (λ s c. meant q x v fits s) ∙ sym (map_map (term_value v) (term_of terms) node.inputs))
    ∙ gate_same v (map (term_of terms) node.inputs) node

module _ (b : Blif) (whole : IsWhole b) (order : List ℕ) (o : IsOrder (reads_of b) order) where
  pub low_at : (k s : ℕ) → slice_get order k ≡ Some s → s < signal_count b
  low_at k s is = let low = o.inside k s is in let all = whole.all in omega arith

  pub input_before : (k j w : ℕ) (node : Node) → slice_get order k ≡ Some (first_node b + j) → slice_get b.nodes j ≡ Some node → Contains node.inputs w → StandsBefore order k w
  input_before k j w node is there c = o.after k (first_node b + j) w is (subst (λ (ws : List ℕ). Contains ws w) (sym (whole.reads j node there)) c)

  not_before : (p k s u : ℕ) → slice_get order p ≡ Some s → k ≤ p → StandsBefore order k u → u ≢ s
  not_before p k s u is low stand e = let at = o.once stand.place p s (stand.there ∙ ap (λ (t : ℕ). let r : Option ℕ = Some t in r) e) is in let early = stand.before in absurd (omega arith)

  module _ (p s j : ℕ) (node : Node) (terms : List NetTerm) (table : List (List ℕ × ℕ)) (new_terms : List NetTerm) (new_table : List (List ℕ × ℕ))
      (is_s : slice_get order p ≡ Some s) (s_is : s ≡ first_node b + j) (there : slice_get b.nodes j ≡ Some node)
      (h : ArePassing b order p terms table) (step : IsPassed node s terms table new_terms new_table) where
    t : NetTerm
    t = step.found

    abbrev gate : Gate
    gate = gate_with terms node

    within : s < length terms
    within = let low = low_at p s is_s in let all = h.all in omega arith

    at_s : term_of new_terms s ≡ t
    unfolding t
    at_s = ap (λ (ts : List NetTerm). term_of ts s) step.written ∙ get_or-set_same terms s step.found term.Zero within

    at_other : (r : ℕ) → r ≢ s → term_of new_terms r ≡ term_of terms r
    at_other r apart = ap (λ (ts : List NetTerm). term_of ts r) step.written ∙ get_or-set_other terms s r step.found term.Zero apart

    -- the rows settle it, or a node like it is kept, or it is kept
    data Way : Type 0 where
      settles : settled gate ≡ Some t → new_table ≡ table → Way
      joins : (u : ℕ) → Has table (key_of gate) u → t ≡ term.Signal u → new_table ≡ table → Way
      keeps : HasNone table (key_of gate) → t ≡ term.Signal s → new_table ≡ table ++ (key_of gate, s) ∷ [] → settled gate ≡ None → Way

    way : Way
    unfolding t
    way = by (settled gate) refl step.is
      where
        none : settled gate ≡ None → IsJoined (key_of gate) s table step.found new_table → Way
        none e (inl (u, has, is, same)) = joins u has is same
        none e (inr (bare, is, more)) = keeps bare is more e

        by : (found : Option NetTerm) → settled gate ≡ found → MatchOption found (IsJoined (key_of gate) s table step.found new_table) (λ u. (step.found ≡ u) × (new_table ≡ table)) → Way
        by (Some u) e (is, same) = settles (e ∙ ap (λ (x : NetTerm). let r : Option NetTerm = Some x in r) (sym is)) same
        by None e joined = none e joined

    -- the signal that the rows settle stands before, and is itself
    settled_before : (u : ℕ) → settled gate ≡ Some (term.Signal u) → StandsBefore order p u × (term_of terms u ≡ term.Signal u)
    settled_before u e = from (in_left terms node.inputs u (contains_at gate.inputs 0 u (settled_signal gate u e)))
      where
        from : (w : ℕ) × Contains node.inputs w × (term_of terms w ≡ term.Signal u) → StandsBefore order p u × (term_of terms u ≡ term.Signal u)
        from (w, c, is) =
            let first = input_before p j w node (is_s ∙ ap (λ (x : ℕ). let r : Option ℕ = Some x in r) s_is) there c in
            let second = h.early first.place w u first.there is in
            let a = first.before in let d = second.before in
            (record { place = second.place; before = omega arith; there = second.there }, h.kept w u (low_at first.place w first.there) is)

    old_signal : (u : ℕ) → t ≡ term.Signal u → (u ≡ s) ⊎ (StandsBefore order p u × (term_of terms u ≡ term.Signal u))
    old_signal u is = by way
      where
        by : Way → (u ≡ s) ⊎ (StandsBefore order p u × (term_of terms u ≡ term.Signal u))
        by (settles e same) = inr (settled_before u (e ∙ ap (λ (x : NetTerm). let r : Option NetTerm = Some x in r) is))
        by (joins w has e same) =
            let one : w ≡ u = cc in
            let k = h.entries (key_of gate) u (subst (λ (x : ℕ). Has table (key_of gate) x) one has) in
            inr (record { place = k.place; before = k.before; there = k.there }, k.own)
        by (keeps bare e more f) = inl (cc)

    -- where the signal is its own term it is kept
    own_way : t ≡ term.Signal s → HasNone table (key_of gate) × (new_table ≡ table ++ (key_of gate, s) ∷ []) × (settled gate ≡ None)
    own_way is = by way
      where
        by : Way → HasNone table (key_of gate) × (new_table ≡ table ++ (key_of gate, s) ∷ []) × (settled gate ≡ None)
        by (settles e same) = absurd (not_before p p s s is_s (omega arith) (settled_before s (e ∙ ap (λ (x : NetTerm). let r : Option NetTerm = Some x in r) is)).0 refl)
        by (joins w has e same) =
            let one : w ≡ s = cc in
            let k = h.entries (key_of gate) s (subst (λ (x : ℕ). Has table (key_of gate) x) one has) in
            let at = o.once k.place p s k.there is_s in let early = k.before in absurd (omega arith)
        by (keeps bare e more f) = (bare, more, f)

    -- what is left of a node that stands no later is as it was
    left_kept : (k i : ℕ) (m : Node) → k ≤ p → slice_get order k ≡ Some (first_node b + i) → slice_get b.nodes i ≡ Some m → gate_with new_terms m ≡ gate_with terms m
    left_kept k i m low is at = ap (λ (ts : List NetTerm). gate_left ts m) (map_same (term_of new_terms) (term_of terms) m.inputs (λ w c. at_other w (not_before p k s w is_s low (input_before k i w m is at c))))

    term_meant : (q x v : List Bool) → Fits b q x v → signal v s ≡ term_value v t
    term_meant q x v fits = by way
      where
        own : signal v s ≡ gate_value v gate
        own = ap (signal v) s_is ∙ left_value b terms h.meant q x v fits j node there

        by : Way → signal v s ≡ term_value v t
        by (settles e same) = own ∙ sym (settled_value v gate t e)
        by (joins u has e same) =
            let k = h.entries (key_of gate) u has in
            own ∙ ap (gate_value v) (one_key gate (gate_with terms k.node) k.key_is)
            ∙ sym (ap (signal v) k.signal_is ∙ left_value b terms h.meant q x v fits k.number k.node k.node_is)
            ∙ ap (term_value v) (sym e)
        by (keeps bare e more f) = ap (term_value v) (sym e)

    meant : AreMeant b new_terms
    meant q x v fits r = by (cases_eq r s)
      where
        by : (r ≡ s) ⊎ (r ≢ s) → signal v r ≡ term_value v (term_of new_terms r)
        by (inl e) = ap (signal v) e ∙ term_meant q x v fits ∙ ap (term_value v) (sym (ap (term_of new_terms) e ∙ at_s))
        by (inr apart) = h.meant q x v fits r ∙ ap (term_value v) (sym (at_other r apart))

    given : (r : ℕ) → r < first_node b → term_of new_terms r ≡ term.Signal r
    given r low = at_other r (λ e. absurd (omega arith)) ∙ h.given r low

    waiting : (k r : ℕ) → p + 1 ≤ k → slice_get order k ≡ Some r → term_of new_terms r ≡ term.Signal r
    waiting k r low is = at_other r (λ e. let at = o.once k p s (is ∙ ap (λ (x : ℕ). let y : Option ℕ = Some x in y) e) is_s in absurd (omega arith)) ∙ h.waiting k r (omega arith) is

    -- no other signal has the term of the signal
    none_of : (r : ℕ) → r < signal_count b → r ≢ s → term_of terms r ≡ term.Signal s → ⊥
    none_of r low apart e = from (place_of order r (o.there r (let all = whole.all in omega arith)))
      where
        from : (k : ℕ) × (slice_get order k ≡ Some r) → ⊥
        from (k, is) = by (cases_lt k p)
          where
            by : (k < p) ⊎ (p ≤ k) → ⊥
            by (inl early) = not_before p (k + 1) s s is_s (omega arith) (h.early k r s is e) refl
            by (inr late) = let own = h.waiting k r late is in let same : r ≡ s = cc in apart same

    kept : (r u : ℕ) → r < signal_count b → term_of new_terms r ≡ term.Signal u → term_of new_terms u ≡ term.Signal u
    kept r u low e = by (cases_eq r s)
      where
        old : (u ≡ s) ⊎ (StandsBefore order p u × (term_of terms u ≡ term.Signal u)) → t ≡ term.Signal u → term_of new_terms u ≡ term.Signal u
        old (inl same) is = ap (term_of new_terms) same ∙ at_s ∙ is
        old (inr (stand, own)) is = at_other u (not_before p p s u is_s (omega arith) stand) ∙ own

        other : r ≢ s → term_of terms r ≡ term.Signal u → (u ≡ s) ⊎ (u ≢ s) → term_of new_terms u ≡ term.Signal u
        other apart f (inl same) = absurd (none_of r low apart (f ∙ ap term.Signal same))
        other apart f (inr differ) = at_other u differ ∙ h.kept r u low f

        by : (r ≡ s) ⊎ (r ≢ s) → term_of new_terms u ≡ term.Signal u
        by (inl same) = let is : t ≡ term.Signal u = sym (ap (term_of new_terms) same ∙ at_s) ∙ e in old (old_signal u is) is
        by (inr apart) = other apart (sym (at_other r apart) ∙ e) (cases_eq u s)

    early : (k r u : ℕ) → slice_get order k ≡ Some r → term_of new_terms r ≡ term.Signal u → StandsBefore order (k + 1) u
    early k r u is e = by (cases_eq r s)
      where
        old : k ≡ p → (u ≡ s) ⊎ (StandsBefore order p u × (term_of terms u ≡ term.Signal u)) → StandsBefore order (k + 1) u
        old at (inl same) = record { place = p; before = omega arith; there = is_s ∙ ap (λ (x : ℕ). let y : Option ℕ = Some x in y) (sym same) }
        old at (inr (stand, own)) = let low = stand.before in record { place = stand.place; before = omega arith; there = stand.there }

        by : (r ≡ s) ⊎ (r ≢ s) → StandsBefore order (k + 1) u
        by (inl same) =
            old (o.once k p s (is ∙ ap (λ (x : ℕ). let y : Option ℕ = Some x in y) same) is_s) (old_signal u (sym (ap (term_of new_terms) same ∙ at_s) ∙ e))
        by (inr apart) = h.early k r u is (sym (at_other r apart) ∙ e)

    -- a node that is kept: the one that was passed, or an earlier one
    node_cases : (k i : ℕ) (m : Node) → k < p + 1 → slice_get order k ≡ Some (first_node b + i) → slice_get b.nodes i ≡ Some m → term_of new_terms (first_node b + i) ≡ term.Signal (first_node b + i)
        → ((first_node b + i ≡ s) × (m ≡ node) × (t ≡ term.Signal s)) ⊎ ((k < p) × (term_of terms (first_node b + i) ≡ term.Signal (first_node b + i)))
    node_cases k i m low is at own = by (cases_eq k p)
      where
        by : (k ≡ p) ⊎ (k ≢ p) → ((first_node b + i ≡ s) × (m ≡ node) × (t ≡ term.Signal s)) ⊎ ((k < p) × (term_of terms (first_node b + i) ≡ term.Signal (first_node b + i)))
        by (inl here) =
            let same : first_node b + i ≡ s = some_is (first_node b + i) s (sym is ∙ ap (slice_get order) here ∙ is_s) in
            let number : i ≡ j = omega arith in
            inl (same, some_is m node (sym at ∙ ap (slice_get b.nodes) number ∙ there), sym (ap (term_of new_terms) same ∙ at_s) ∙ own ∙ ap term.Signal same)
        by (inr apart) = inr (omega arith, sym (at_other (first_node b + i) (λ e. apart (o.once k p s (is ∙ ap (λ (x : ℕ). let y : Option ℕ = Some x in y) e) is_s))) ∙ own)

    lean : (k i : ℕ) (m : Node) → k < p + 1 → slice_get order k ≡ Some (first_node b + i) → slice_get b.nodes i ≡ Some m → term_of new_terms (first_node b + i) ≡ term.Signal (first_node b + i)
        → settled (gate_with new_terms m) ≡ None
    lean k i m low is at own = ap settled (left_kept k i m (omega arith) is at) ∙ by (node_cases k i m low is at own)
      where
        by : ((first_node b + i ≡ s) × (m ≡ node) × (t ≡ term.Signal s)) ⊎ ((k < p) × (term_of terms (first_node b + i) ≡ term.Signal (first_node b + i))) → settled (gate_with terms m) ≡ None
        by (inl (same, one, itself)) = ap (λ (n : Node). settled (gate_with terms n)) one ∙ (own_way itself).2
        by (inr (before, old)) = h.lean k i m before is at old

    in_new : (key : List ℕ) (u : ℕ) → Has table key u → Has new_table key u
    in_new key u has = by way
      where
        by : Way → Has new_table key u
        by (settles e same) = subst (λ (es : List (List ℕ × ℕ)). Has es key u) (sym same) has
        by (joins w found e same) = subst (λ (es : List (List ℕ × ℕ)). Has es key u) (sym same) has
        by (keeps bare e more f) = subst (λ (es : List (List ℕ × ℕ)). Has es key u) (sym more) (has_more table key (key_of gate) u s has)

    tabled : (k i : ℕ) (m : Node) → k < p + 1 → slice_get order k ≡ Some (first_node b + i) → slice_get b.nodes i ≡ Some m → term_of new_terms (first_node b + i) ≡ term.Signal (first_node b + i)
        → Has new_table (key_of (gate_with new_terms m)) (first_node b + i)
    tabled k i m low is at own = subst (λ (g : Gate). Has new_table (key_of g) (first_node b + i)) (sym (left_kept k i m (omega arith) is at)) (by (node_cases k i m low is at own))
      where
        here : t ≡ term.Signal s → Has new_table (key_of gate) s
        here itself = subst (λ (es : List (List ℕ × ℕ)). Has es (key_of gate) s) (sym (own_way itself).1) (has_last table (key_of gate) s)

        by : ((first_node b + i ≡ s) × (m ≡ node) × (t ≡ term.Signal s)) ⊎ ((k < p) × (term_of terms (first_node b + i) ≡ term.Signal (first_node b + i))) → Has new_table (key_of (gate_with terms m)) (first_node b + i)
        by (inl (same, one, itself)) =
            subst (λ (n : Node). Has new_table (key_of (gate_with terms n)) (first_node b + i)) (sym one)
            (subst (λ (x : ℕ). Has new_table (key_of gate) x) (sym same) (here itself))
        by (inr (before, old)) = in_new (key_of (gate_with terms m)) (first_node b + i) (h.tabled k i m before is at old)

    -- an entry of the new table is an old one, or the signal's
    new_cases : (key : List ℕ) (u : ℕ) → Has new_table key u → Has table key u ⊎ ((key_of gate ≡ key) × (s ≡ u) × HasNone table (key_of gate) × (t ≡ term.Signal s))
    new_cases key u has = by way
      where
        from : HasNone table (key_of gate) → t ≡ term.Signal s → Has table key u ⊎ ((key_of gate ≡ key) × (s ≡ u)) → Has table key u ⊎ ((key_of gate ≡ key) × (s ≡ u) × HasNone table (key_of gate) × (t ≡ term.Signal s))
        from bare is (inl old) = inl old
        from bare is (inr (e, f)) = inr (e, f, bare, is)

        by : Way → Has table key u ⊎ ((key_of gate ≡ key) × (s ≡ u) × HasNone table (key_of gate) × (t ≡ term.Signal s))
        by (settles e same) = inl (subst (λ (es : List (List ℕ × ℕ)). Has es key u) same has)
        by (joins w found e same) = inl (subst (λ (es : List (List ℕ × ℕ)). Has es key u) same has)
        by (keeps bare e more f) = from bare e (has_cases table key (key_of gate) u s (subst (λ (es : List (List ℕ × ℕ)). Has es key u) more has))

    entries : (key : List ℕ) (u : ℕ) → Has new_table key u → IsTabled b order (p + 1) new_terms key u
    entries key u has = by (new_cases key u has)
      where
        by : Has table key u ⊎ ((key_of gate ≡ key) × (s ≡ u) × HasNone table (key_of gate) × (t ≡ term.Signal s)) → IsTabled b order (p + 1) new_terms key u
        by (inl old) =
            let k = h.entries key u old in
            let low = k.before in
            record {
              place = k.place;
              number = k.number;
              node = k.node;
              before = omega arith;
              there = k.there;
              signal_is = k.signal_is;
              node_is = k.node_is;
              own = at_other u (not_before p p s u is_s (omega arith) (record { place = k.place; before = k.before; there = k.there })) ∙ k.own;
              key_is = k.key_is ∙ ap key_of (sym (left_kept k.place k.number k.node (omega arith) (k.there ∙ ap (λ (x : ℕ). let y : Option ℕ = Some x in y) k.signal_is) k.node_is));
            }
        by (inr (e, same, bare, is)) = record {
          place = p;
          number = j;
          node = node;
          before = omega arith;
          there = is_s ∙ ap (λ (x : ℕ). let y : Option ℕ = Some x in y) same;
          signal_is = sym same ∙ s_is;
          node_is = there;
          own = ap (term_of new_terms) (sym same) ∙ at_s ∙ is ∙ ap term.Signal same;
          key_is = sym e ∙ ap key_of (sym (left_kept p j node (omega arith) (is_s ∙ ap (λ (x : ℕ). let y : Option ℕ = Some x in y) s_is) there));
        }

    once : (key : List ℕ) (u w : ℕ) → Has new_table key u → Has new_table key w → u ≡ w
    once key u w f g = by (new_cases key u f) (new_cases key w g)
      where
        by : Has table key u ⊎ ((key_of gate ≡ key) × (s ≡ u) × HasNone table (key_of gate) × (t ≡ term.Signal s)) → Has table key w ⊎ ((key_of gate ≡ key) × (s ≡ w) × HasNone table (key_of gate) × (t ≡ term.Signal s)) → u ≡ w
        by (inl a) (inl d) = h.once key u w a d
        by (inr a) (inr d) = sym a.1 ∙ d.1
        by (inl a) (inr d) = absurd (d.2 u (subst (λ (ks : List ℕ). Has table ks u) (sym d.0) a))
        by (inr a) (inl d) = absurd (a.2 w (subst (λ (ks : List ℕ). Has table ks w) (sym a.0) d))

    pub node_passed : ArePassing b order (p + 1) new_terms new_table
    node_passed = record {
      all = ap (λ (ts : List NetTerm). length ts) step.written ∙ length-set terms s step.found ∙ h.all;
      meant = meant;
      given = given;
      waiting = waiting;
      kept = kept;
      early = early;
      lean = lean;
      tabled = tabled;
      entries = entries;
      once = once;
    }

  -- an input or a latch is next in the order
  pub given_passed : (p s : ℕ) (terms : List NetTerm) (table : List (List ℕ × ℕ)) → slice_get order p ≡ Some s → s < first_node b → ArePassing b order p terms table → ArePassing b order (p + 1) terms table
  given_passed p s terms table is_s low h = record {
    all = h.all;
    meant = h.meant;
    given = h.given;
    kept = h.kept;
    early = h.early;
    once = h.once;
    waiting = λ k r late is. h.waiting k r (omega arith) is;
    lean = λ k j node before is there own. h.lean k j node (earlier k j before is) is there own;
    tabled = λ k j node before is there own. h.tabled k j node (earlier k j before is) is there own;
    entries = λ key r has. let k = h.entries key r has in let e = k.before in record { place = k.place; number = k.number; node = k.node; before = omega arith; there = k.there; signal_is = k.signal_is; node_is = k.node_is; own = k.own; key_is = k.key_is };
  }
    where
      earlier : (k j : ℕ) → k < p + 1 → slice_get order k ≡ Some (first_node b + j) → k < p
      earlier k j before is = by (cases_eq k p)
        where
          by : (k ≡ p) ⊎ (k ≢ p) → k < p
          by (inl here) = let same = some_is (first_node b + j) s (sym is ∙ ap (slice_get order) here ∙ is_s) in absurd (omega arith)
          by (inr apart) = omega arith

  -- the next signal of the order
  pub signal_passed : (p s : ℕ) (terms : List NetTerm) (table : List (List ℕ × ℕ)) (new_terms : List NetTerm) (new_table : List (List ℕ × ℕ)) → slice_get order p ≡ Some s → ArePassing b order p terms table
      → (s < first_node b → (new_terms ≡ terms) × (new_table ≡ table))
      → ((j : ℕ) (node : Node) → s ≡ first_node b + j → slice_get b.nodes j ≡ Some node → IsPassed node s terms table new_terms new_table) → ArePassing b order (p + 1) new_terms new_table
  signal_passed p s terms table new_terms new_table is_s h same step = by (cases_lt s (first_node b))
    where
      by : (s < first_node b) ⊎ (first_node b ≤ s) → ArePassing b order (p + 1) new_terms new_table
      by (inl low) =
          subst (λ (ts : List NetTerm). ArePassing b order (p + 1) ts new_table) (sym (same low).0)
          (subst (λ (es : List (List ℕ × ℕ)). ArePassing b order (p + 1) terms es) (sym (same low).1) (given_passed p s terms table is_s low h))
      by (inr behind) =
          let j : ℕ = s - first_node b in
          let place : s ≡ first_node b + j = omega arith in
          let low = low_at p s is_s in
          let node = get_in b.nodes j (omega arith) in
          node_passed p s j node.0 terms table new_terms new_table is_s place node.1 h (step j node.0 place node.1)

  -- before the first signal each is its own term
  pub none_passed : (terms : List NetTerm) → length terms ≡ signal_count b → ((s : ℕ) → s < signal_count b → term_of terms s ≡ term.Signal s) → ArePassing b order 0 terms []
  none_passed terms all own = record {
    all = all;
    meant = λ q x v fits s. by q x v fits s (cases_lt s (signal_count b));
    given = λ s low. own s (omega arith);
    waiting = λ k s low is. own s (low_at k s is);
    kept = λ s u low is. let mine = own s low in let same : s ≡ u = cc in subst (λ (x : ℕ). term_of terms x ≡ term.Signal x) same mine;
    early = λ k s u is e. let mine = own s (low_at k s is) in let same : s ≡ u = cc in record { place = k; before = omega arith; there = is ∙ ap (λ (x : ℕ). let y : Option ℕ = Some x in y) same };
    lean = λ k j node before is there mine. absurd (omega arith);
    tabled = λ k j node before is there mine. absurd (omega arith);
    entries = λ key s has. absurd has;
    once = λ key s u has other. absurd has;
  }
    where
      past : {X : Type 0} (xs : List X) (k : ℕ) (d : X) → length xs ≤ k → slice_index_or xs k d ≡ d
      past [] k d high = refl
      past (x ∷ xs) zero d high = absurd (omega arith)
      past (x ∷ xs) (suc k) d high = past xs k d (omega arith)

      by : (q x v : List Bool) → Fits b q x v → (s : ℕ) → (s < signal_count b) ⊎ (signal_count b ≤ s) → signal v s ≡ term_value v (term_of terms s)
      by q x v fits s (inl low) = ap (term_value v) (sym (own s low))
      by q x v fits s (inr high) =
          let a = fits.inputs in let d = fits.latches in
          let l : length v ≡ signal_count b = ap (λ (ys : List Bool). length ys) fits.values ∙ long (x ++ q) (map (node_value v) b.nodes) ∙ (let m = long x q in let n = length_map (node_value v) b.nodes in omega arith) in
          past v s false (omega arith) ∙ ap (term_value v) (sym (past terms s term.Zero (omega arith)))

  -- after the last signal
  pub all_passed : (terms : List NetTerm) (table : List (List ℕ × ℕ)) → ArePassing b order (length order) terms table → ArePassed b order terms
  all_passed terms table h = record {
    all = h.all;
    meant = h.meant;
    given = h.given;
    kept = h.kept;
    early = h.early;
    lean = λ j node is own. let k = at j node is in h.lean k.0 j node (get_within order k.0 (first_node b + j) k.1) k.1 is own;
    apart = λ i j a c is_a is_c own_a own_c same.
        let k = at i a is_a in let l = at j c is_c in
        let first = h.tabled k.0 i a (get_within order k.0 (first_node b + i) k.1) k.1 is_a own_a in
        let second = h.tabled l.0 j c (get_within order l.0 (first_node b + j) l.1) l.1 is_c own_c in
        let e = h.once (key_of (gate_with terms c)) (first_node b + i) (first_node b + j) (subst (λ (g : Gate). Has table (key_of g) (first_node b + i)) same first) second in
        omega arith;
  }
    where
      at : (j : ℕ) (node : Node) → slice_get b.nodes j ≡ Some node → (k : ℕ) × (slice_get order k ≡ Some (first_node b + j))
      at j node is = place_of order (first_node b + j) (o.there (first_node b + j) (let low = get_within b.nodes j node is in let all = whole.all in omega arith))

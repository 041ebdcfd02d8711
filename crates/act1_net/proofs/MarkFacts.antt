-- What the marks of kept signals keep: the kept signals are the inputs, what outputs are, and what kept signals read.
use Rattle.std.proofs.Common.{ℕ, suc, zero, ◌≡◌, ◌<◌, ◌≤◌, ◌+◌, ◌-◌, ◌⊎◌, Bool, true, List, [], ◌∷◌, ◌++◌, length, map, replicate, refl, sym, ap, subst, ◌∙◌, inl, inr, Option, Some, None, append_assoc, arith}
use Rattle.std.specs.Prelude.{Contains, slice_get, slice_index_or}
use Rattle.std.proofs.lemmas.Bool.{cases_lt}
use Rattle.std.proofs.lemmas.List.{length-append, length-replicate}
use Rattle.act1_base.proofs.ListGets.{contains_at, get_within, place_of}
use Rattle.act1_order.specs.Order.{AreReads, IsOrder, LeadsTo, Reads}
use Rattle.act1_order.specs.Reach.{AreReachedFrom, IsReached}
use Rattle.act1_blif.specs.declared.blif.Blif.{Blif}
use Rattle.act1_blif.specs.declared.blif.Latch.{Latch}
use Rattle.act1_blif.specs.declared.blif.Node.{Node}
use Rattle.act1_blif.specs.Graph.{first_node, reads_of, signal_count}
use Rattle.act1_blif.specs.Laws.{IsWhole}
use Rattle.act1_net.specs.declared.net.NetTerm.{NetTerm}
use Rattle.act1_net.specs.declared.net.NetTerm.TheVariants as term
use Rattle.act1_net.specs.Gates.{term_of}
use Rattle.act1_net.specs.MarkSteps.{AreTermsWithin, reads_left, roots_of, signals_left, upto}
use Rattle.act1_net.specs.PassSteps.{ArePassed}
use Rattle.act1_net.specs.KeptSteps.{AreMarks, IsFit, IsReadLeft}
use Rattle.act1_net.proofs.Passing.{in_left, left_in}
use Rattle.act1_net.proofs.FitLists.{length_map}

next_is : (i : ℕ) → suc i ≡ i + 1
next_is i = omega arith

pub upto_more : (xs : List ℕ) (i : ℕ) → (xs ++ upto i) ++ i ∷ [] ≡ xs ++ upto (i + 1)
upto_more xs i = append_assoc xs (upto i) (i ∷ []) ∙ ap (λ (k : ℕ). xs ++ upto k) (next_is i)

-- members of lists that are put together
pub in_first : {X : Type 0} (xs ys : List X) (x : X) → Contains xs x → Contains (xs ++ ys) x
in_first [] ys x c = absurd (omega (arith, c.1))
in_first (y ∷ xs) ys x (zero, low, e) = (0, omega arith, e)
in_first (y ∷ xs) ys x (suc k, low, e) = let r = in_first xs ys x (k, omega arith, e) in (suc r.0, let l = r.1 in omega arith, r.2)

pub in_second : {X : Type 0} (xs ys : List X) (x : X) → Contains ys x → Contains (xs ++ ys) x
in_second [] ys x c = c
in_second (y ∷ xs) ys x c = let r = in_second xs ys x c in (suc r.0, let l = r.1 in omega arith, r.2)

in_either : {X : Type 0} (xs ys : List X) (x : X) → Contains (xs ++ ys) x → Contains xs x ⊎ Contains ys x
in_either [] ys x c = inr c
in_either (y ∷ xs) ys x (zero, low, e) = inl (0, omega arith, e)
in_either (y ∷ xs) ys x (suc k, low, e) = later (in_either xs ys x (k, omega arith, e))
  where
    later : Contains xs x ⊎ Contains ys x → Contains (y ∷ xs) x ⊎ Contains ys x
    later (inl r) = inl (suc r.0, let l = r.1 in omega arith, r.2)
    later (inr r) = inr r

-- what stands at a place
pub contains_here : (xs : List ℕ) (k d : ℕ) → k < length xs → Contains xs (slice_index_or xs k d)
contains_here [] k d low = absurd (omega arith)
contains_here (x ∷ xs) zero d low = (0, omega arith, refl)
contains_here (x ∷ xs) (suc k) d low = let r = contains_here xs k d (omega arith) in (suc r.0, let l = r.1 in omega arith, r.2)

in_upto : (n u : ℕ) → u < n → Contains (upto n) u
in_upto zero u low = absurd (omega arith)
in_upto (suc n) u low = by (cases_lt u n) (λ l. in_upto n u l)
  where
    by : (u < n) ⊎ (n ≤ u) → (u < n → Contains (upto n) u) → Contains (upto n ++ n ∷ []) u
    by (inl l) rest = in_first (upto n) (n ∷ []) u (rest l)
    by (inr h) rest = in_second (upto n) (n ∷ []) u (0, omega arith, (let e : n ≡ u = omega arith in e))

upto_in : (n u : ℕ) → Contains (upto n) u → u < n
upto_in zero u c = absurd (omega (arith, c.1))
upto_in (suc n) u c = by (in_either (upto n) (n ∷ []) u c) (λ d. upto_in n u d)
  where
    by : Contains (upto n) u ⊎ Contains (n ∷ []) u → (Contains (upto n) u → u < n) → u < suc n
    by (inl d) rest = let r = rest d in omega arith
    by (inr (zero, low, e)) rest = omega arith
    by (inr (suc k, low, e)) rest = absurd (omega arith)

-- what is read by a signal of the graph
rows_split : (xs ys : List (List ℕ)) (v w : ℕ) → Contains (slice_index_or (xs ++ ys) v []) w → Contains (slice_index_or xs v []) w ⊎ ((k : ℕ) × (v ≡ length xs + k) × Contains (slice_index_or ys k []) w)
rows_split [] ys v w c = inr (v, omega arith, c)
rows_split (x ∷ xs) ys zero w c = inl c
rows_split (x ∷ xs) ys (suc v) w c = later (rows_split xs ys v w c)
  where
    later : Contains (slice_index_or xs v []) w ⊎ ((k : ℕ) × (v ≡ length xs + k) × Contains (slice_index_or ys k []) w) → Contains (slice_index_or xs v []) w ⊎ ((k : ℕ) × (suc v ≡ length (x ∷ xs) + k) × Contains (slice_index_or ys k []) w)
    later (inl d) = inl d
    later (inr (k, e, d)) = inr (k, omega arith, d)

none_read : (n v w : ℕ) → Contains (slice_index_or (replicate n (let none : List ℕ = [] in none)) v []) w → ⊥
none_read zero v w c = absurd (omega (arith, c.1))
none_read (suc n) zero w c = absurd (omega (arith, c.1))
none_read (suc n) (suc v) w c = none_read n v w c

row_from : {X : Type 0} (f : X → List ℕ) (xs : List X) (k w : ℕ) → Contains (slice_index_or (map f xs) k []) w → (x : X) × (slice_get xs k ≡ Some x) × Contains (f x) w
row_from f [] k w c = absurd (omega (arith, c.1))
row_from f (x ∷ xs) zero w c = (x, refl, c)
row_from f (x ∷ xs) (suc k) w c = row_from f xs k w c

row_behind : (xs ys : List (List ℕ)) (k i : ℕ) → i ≡ length xs + k → slice_index_or (xs ++ ys) i [] ≡ slice_index_or ys k []
row_behind [] ys k i e = let f : i ≡ k = omega arith in ap (λ (j : ℕ). slice_index_or ys j []) f
row_behind (x ∷ xs) ys k zero e = absurd (omega arith)
row_behind (x ∷ xs) ys k (suc i) e = row_behind xs ys k i (omega arith)

row_before : (xs ys : List (List ℕ)) (k : ℕ) → k < length xs → slice_index_or (xs ++ ys) k [] ≡ slice_index_or xs k []
row_before [] ys k low = absurd (omega arith)
row_before (x ∷ xs) ys zero low = refl
row_before (x ∷ xs) ys (suc k) low = row_before xs ys k (omega arith)

row_at : {X : Type 0} (f : X → List ℕ) (xs : List X) (k : ℕ) (x : X) → slice_get xs k ≡ Some x → slice_index_or (map f xs) k [] ≡ f x
row_at f [] k x e = cc
row_at f (y ∷ xs) zero x e = let same : y ≡ x = cc in ap f same
row_at f (y ∷ xs) (suc k) x e = row_at f xs k x e

module _ (b : Blif) (terms : List NetTerm) where
  abbrev latch_reads : Latch → List ℕ
  latch_reads latch = signals_left terms (latch.input ∷ [])

  abbrev node_reads : Node → List ℕ
  node_reads node = signals_left terms node.inputs

  abbrev fronts : List (List ℕ)
  fronts = replicate (length b.inputs) []

  front_long : length (replicate (length b.inputs) (let none : List ℕ = [] in none)) ≡ length b.inputs
  front_long = length-replicate (length b.inputs) []

  two_long : length (replicate (length b.inputs) (let none : List ℕ = [] in none) ++ map latch_reads b.latches) ≡ first_node b
  two_long = omega (arith, length-append (replicate (length b.inputs) (let none : List ℕ = [] in none)) (map latch_reads b.latches), front_long, length_map latch_reads b.latches)

  pub reads_long : length (reads_left b terms) ≡ signal_count b
  reads_long = omega (arith, length-append (replicate (length b.inputs) (let none : List ℕ = [] in none) ++ map latch_reads b.latches) (map node_reads b.nodes), two_long, length_map node_reads b.nodes)

  -- a signal that reads one is a latch's or a node's
  pub reader_left : (v w : ℕ) → Reads (reads_left b terms) v w
      → ((k : ℕ) × (latch : Latch) × (v ≡ length b.inputs + k) × (slice_get b.latches k ≡ Some latch) × Contains (latch_reads latch) w)
      ⊎ ((j : ℕ) × (node : Node) × (v ≡ first_node b + j) × (slice_get b.nodes j ≡ Some node) × Contains (node_reads node) w)
  reader_left v w c = by (rows_split (fronts ++ map latch_reads b.latches) (map node_reads b.nodes) v w c)
    where
      latch_by : Contains (slice_index_or fronts v []) w ⊎ ((k : ℕ) × (v ≡ length fronts + k) × Contains (slice_index_or (map latch_reads b.latches) k []) w)
          → ((k : ℕ) × (latch : Latch) × (v ≡ length b.inputs + k) × (slice_get b.latches k ≡ Some latch) × Contains (latch_reads latch) w)
          ⊎ ((j : ℕ) × (node : Node) × (v ≡ first_node b + j) × (slice_get b.nodes j ≡ Some node) × Contains (node_reads node) w)
      latch_by (inl d) = absurd (none_read (length b.inputs) v w d)
      latch_by (inr (k, e, d)) = let (latch, is, r) = row_from latch_reads b.latches k w d in inl (k, latch, (let f = front_long in omega arith), is, r)

      by : Contains (slice_index_or (fronts ++ map latch_reads b.latches) v []) w ⊎ ((k : ℕ) × (v ≡ length (fronts ++ map latch_reads b.latches) + k) × Contains (slice_index_or (map node_reads b.nodes) k []) w)
          → ((k : ℕ) × (latch : Latch) × (v ≡ length b.inputs + k) × (slice_get b.latches k ≡ Some latch) × Contains (latch_reads latch) w)
          ⊎ ((j : ℕ) × (node : Node) × (v ≡ first_node b + j) × (slice_get b.nodes j ≡ Some node) × Contains (node_reads node) w)
      by (inl d) = latch_by (rows_split fronts (map latch_reads b.latches) v w d)
      by (inr (j, e, d)) = let (node, is, r) = row_from node_reads b.nodes j w d in inr (j, node, (let f = two_long in omega arith), is, r)

  latch_row : (k : ℕ) (latch : Latch) → slice_get b.latches k ≡ Some latch → slice_index_or (reads_left b terms) (length b.inputs + k) [] ≡ latch_reads latch
  latch_row k latch is =
      let low = get_within b.latches k latch is in
      row_before (fronts ++ map latch_reads b.latches) (map node_reads b.nodes) (length b.inputs + k) (let f = two_long in omega arith)
      ∙ row_behind fronts (map latch_reads b.latches) k (length b.inputs + k) (let f = front_long in omega arith) ∙ row_at latch_reads b.latches k latch is

  node_row : (j : ℕ) (node : Node) → slice_get b.nodes j ≡ Some node → slice_index_or (reads_left b terms) (first_node b + j) [] ≡ node_reads node
  node_row j node is =
      row_behind (fronts ++ map latch_reads b.latches) (map node_reads b.nodes) j (first_node b + j) (let f = two_long in omega arith) ∙ row_at node_reads b.nodes j node is

  module _ (whole : IsWhole b) (within : AreTermsWithin (signal_count b) terms) where
    -- what is left of signals are signals
    pub left_low : (ss : List ℕ) → ((s : ℕ) → Contains ss s → s < signal_count b) → (u : ℕ) → Contains (signals_left terms ss) u → u < signal_count b
    left_low ss low u c = let (w, d, e) = in_left terms ss u c in within w u (low w d) e

    output_low : (s : ℕ) → Contains b.outputs s → s < signal_count b
    output_low s c = let p = place_of b.outputs s c in whole.outputs p.0 s p.1

    latch_low : (k : ℕ) (latch : Latch) → slice_get b.latches k ≡ Some latch → (s : ℕ) → Contains (latch.input ∷ []) s → s < signal_count b
    latch_low k latch is s (zero, low, e) = let l = whole.latches k latch is in omega arith
    latch_low k latch is s (suc i, low, e) = absurd (omega arith)

    pub left_reads : AreReads (reads_left b terms)
    left_reads v w c = let l = reads_long in by (reader_left v w c)
      where
        by : ((k : ℕ) × (latch : Latch) × (v ≡ length b.inputs + k) × (slice_get b.latches k ≡ Some latch) × Contains (latch_reads latch) w)
            ⊎ ((j : ℕ) × (node : Node) × (v ≡ first_node b + j) × (slice_get b.nodes j ≡ Some node) × Contains (node_reads node) w) → w < length (reads_left b terms)
        by (inl (k, latch, e, is, d)) = let l = reads_long in let r = left_low (latch.input ∷ []) (latch_low k latch is) w d in omega arith
        by (inr (j, node, e, is, d)) = let l = reads_long in let r = left_low node.inputs (λ s f. whole.nodes j s node is f) w d in omega arith

    root_low : (u : ℕ) → Contains (roots_of b terms) u → u < length (reads_left b terms)
    root_low u c = by (in_either (signals_left terms b.outputs) (upto (length b.inputs)) u c)
      where
        by : Contains (signals_left terms b.outputs) u ⊎ Contains (upto (length b.inputs)) u → u < length (reads_left b terms)
        by (inl d) = let l = reads_long in let r = left_low b.outputs output_low u d in omega arith
        by (inr d) = let l = reads_long in let r = upto_in (length b.inputs) u d in omega arith

    pub left_roots : (k d : ℕ) → k < length (roots_of b terms) → slice_index_or (roots_of b terms) k d < length (reads_left b terms)
    left_roots k d low = root_low (slice_index_or (roots_of b terms) k d) (contains_here (roots_of b terms) k d low)

-- a step further along a path, and the last step of one
further : (reads : List (List ℕ)) (v : ℕ) (path : List ℕ) (w u : ℕ) → LeadsTo reads v path w → Reads reads w u → (more : List ℕ) × LeadsTo reads v more u
further reads v [] w u l r = (w ∷ [], (l, r))
further reads v (t ∷ path) w u l r = let rest = further reads t path w u l.1 r in (t ∷ rest.0, (l.0, rest.1))

reached_next : (reads : List (List ℕ)) (roots : List ℕ) (w u : ℕ) → IsReached reads roots w → Reads reads w u → IsReached reads roots u
reached_next reads roots w u (inl c) r = inr (w, [], c, r)
reached_next reads roots w u (inr (root, path, c, l)) r = let more = further reads root path w u l r in inr (root, more.0, c, more.1)

last_step : (reads : List (List ℕ)) (roots : List ℕ) (v : ℕ) (path : List ℕ) (w : ℕ) → IsReached reads roots v → LeadsTo reads v path w → (u : ℕ) × IsReached reads roots u × Reads reads u w
last_step reads roots v [] w from l = (v, from, l)
last_step reads roots v (t ∷ path) w from l = last_step reads roots t path w (reached_next reads roots v t from l.0) l.1

reached_by : (reads : List (List ℕ)) (roots : List ℕ) (w : ℕ) → IsReached reads roots w → Contains roots w ⊎ ((u : ℕ) × IsReached reads roots u × Reads reads u w)
reached_by reads roots w (inl c) = inl c
reached_by reads roots w (inr (root, path, c, l)) = inr (last_step reads roots root path w (inl c) l)

module _ (b : Blif) (whole : IsWhole b) (order : List ℕ) (o : IsOrder (reads_of b) order) (terms : List NetTerm) (passed : ArePassed b order terms) where
  -- a term's signal is one of the netlist
  pub terms_within : AreTermsWithin (signal_count b) terms
  terms_within s u low e =
      let p = place_of order s (o.there s (let all = whole.all in omega arith)) in
      let stand = passed.early p.0 s u p.1 e in
      let l = o.inside stand.place u stand.there in let all = whole.all in omega arith

  module _ (marks : List Bool) (reached : AreReachedFrom (reads_left b terms) (roots_of b terms) marks) where
    from_left : (ss : List ℕ) → ((s : ℕ) → Contains ss s → s < signal_count b) → (u : ℕ) → Contains (signals_left terms ss) u → term_of terms u ≡ term.Signal u
    from_left ss low u c = let (w, d, e) = in_left terms ss u c in passed.kept w u (low w d) e

    own : (s : ℕ) → slice_get marks s ≡ Some true → term_of terms s ≡ term.Signal s
    own s m = by (reached_by (reads_left b terms) (roots_of b terms) s (reached.only s m))
      where
        root : Contains (signals_left terms b.outputs) s ⊎ Contains (upto (length b.inputs)) s → term_of terms s ≡ term.Signal s
        root (inl c) = from_left b.outputs (output_low b terms whole terms_within) s c
        root (inr c) = passed.given s (let l = upto_in (length b.inputs) s c in omega arith)

        reader : (v : ℕ) → ((k : ℕ) × (latch : Latch) × (v ≡ length b.inputs + k) × (slice_get b.latches k ≡ Some latch) × Contains (signals_left terms (latch.input ∷ [])) s)
            ⊎ ((j : ℕ) × (node : Node) × (v ≡ first_node b + j) × (slice_get b.nodes j ≡ Some node) × Contains (signals_left terms node.inputs) s) → term_of terms s ≡ term.Signal s
        reader v (inl (k, latch, e, is, c)) = from_left (latch.input ∷ []) (latch_low b terms whole terms_within k latch is) s c
        reader v (inr (j, node, e, is, c)) = from_left node.inputs (λ t d. whole.nodes j t node is d) s c

        by : Contains (roots_of b terms) s ⊎ ((u : ℕ) × IsReached (reads_left b terms) (roots_of b terms) u × Reads (reads_left b terms) u s) → term_of terms s ≡ term.Signal s
        by (inl c) = root (in_either (signals_left terms b.outputs) (upto (length b.inputs)) s c)
        by (inr (v, from, r)) = reader v (reader_left b terms v s r)

    read : (s : ℕ) → slice_get marks s ≡ Some true → length b.inputs ≤ s → IsReadLeft b terms marks s
    read s m high = by (reached_by (reads_left b terms) (roots_of b terms) s (reached.only s m))
      where
        root : Contains (signals_left terms b.outputs) s ⊎ Contains (upto (length b.inputs)) s → IsReadLeft b terms marks s
        root (inl c) = inl c
        root (inr c) = let l = upto_in (length b.inputs) s c in absurd (omega arith)

        reader : (v : ℕ) → slice_get marks v ≡ Some true
            → ((k : ℕ) × (latch : Latch) × (v ≡ length b.inputs + k) × (slice_get b.latches k ≡ Some latch) × Contains (signals_left terms (latch.input ∷ [])) s)
            ⊎ ((j : ℕ) × (node : Node) × (v ≡ first_node b + j) × (slice_get b.nodes j ≡ Some node) × Contains (signals_left terms node.inputs) s) → IsReadLeft b terms marks s
        reader v mark (inl (k, latch, e, is, c)) = inr (inl (k, latch, is, ap (slice_get marks) (sym e) ∙ mark, c))
        reader v mark (inr (j, node, e, is, c)) = inr (inr (j, node, is, ap (slice_get marks) (sym e) ∙ mark, c))

        by : Contains (roots_of b terms) s ⊎ ((u : ℕ) × IsReached (reads_left b terms) (roots_of b terms) u × Reads (reads_left b terms) u s) → IsReadLeft b terms marks s
        by (inl c) = root (in_either (signals_left terms b.outputs) (upto (length b.inputs)) s c)
        by (inr (v, from, r)) = reader v (reached.marked v from) (reader_left b terms v s r)

    -- the marks of what is reached
    pub are_marks : AreMarks b terms marks
    are_marks = record {
      all = reached.all ∙ reads_long b terms;
      inputs = λ s low. reached.marked s (inl (in_second (signals_left terms b.outputs) (upto (length b.inputs)) s (in_upto (length b.inputs) s low)));
      outputs = λ k s u is e. reached.marked u (inl (in_first (signals_left terms b.outputs) (upto (length b.inputs)) u (left_in terms b.outputs s u (contains_at b.outputs k s is) e)));
      latches = λ k u latch is m e. reached.marked u (reached_next (reads_left b terms) (roots_of b terms) (length b.inputs + k) u (reached.only (length b.inputs + k) m)
          (subst (λ (ws : List ℕ). Contains ws u) (sym (latch_row b terms k latch is)) (left_in terms (latch.input ∷ []) latch.input u (0, omega arith, refl) e)));
      nodes = λ j u node is m c. reached.marked u (reached_next (reads_left b terms) (roots_of b terms) (first_node b + j) u (reached.only (first_node b + j) m)
          (subst (λ (ws : List ℕ). Contains ws u) (sym (node_row b terms j node is)) c));
      own = own;
      read = read;
    }

    -- what the cleaned net is made from
    pub fit_of : IsFit b terms marks
    fit_of = record { order = order; is_order = o; passed = passed; marked = are_marks }

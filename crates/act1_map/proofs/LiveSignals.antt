-- Which signals are read, by the pins of tiles and by roots that are inputs.
use Rattle.std.proofs.Common.{ℕ, suc, zero, ◌≡◌, ◌<◌, ◌≤◌, ◌+◌, ◌-◌, ◌⊎◌, Bool, true, false, List, [], ◌∷◌, length, replicate, refl, sym, ap, subst, ◌∙◌, inl, inr, Option, Some, None, arith}
use Rattle.std.specs.Prelude.{Contains, slice_get, slice_index_or}
use Rattle.std.specs.List.{cons_option, filter_map, flat_map}
use Rattle.std.specs.Option.{option_to_list}
use Rattle.std.proofs.lemmas.Bool.{cases_lt, false≢true}
use Rattle.std.proofs.lemmas.List.{get_or-replicate, get_or_past, length-append, length-replicate}
use Rattle.std.proofs.lemmas.List.Elements.{Contains-append_cases, Contains-append_left, Contains-append_right}
use Rattle.std.proofs.lemmas.Option.{get_or_from_slice_get, slice_get-get_or, slice_get_within}
use Rattle.act1_order.specs.Order.{AreReads, LeadsTo, Reads}
use Rattle.act1_order.specs.Reach.{AreReachedFrom, IsReached}
use Rattle.act1_blif.specs.declared.blif.Blif.{Blif}
use Rattle.act1_blif.specs.declared.blif.Node.{Node}
use Rattle.act1_blif.specs.Graph.{first_node, signal_count}
use Rattle.act1_blif.specs.Laws.{IsWhole}
use Rattle.act1_cover.specs.declared.forest.Term.{Term}
use Rattle.act1_cover.specs.declared.forest.Term.TheVariants as term
use Rattle.act1_cover.specs.declared.tile.Tile.{Tile}
use Rattle.act1_cover.specs.Pins.{pins_of}
use Rattle.act1_net.specs.declared.net.Net.{Net}
use Rattle.act1_net.specs.declared.net.NetTerm.{NetTerm}
use Rattle.act1_net.specs.declared.net.NetTerm.TheVariants as net
use Rattle.act1_net.specs.Gates.{signal_of}
use Rattle.act1_net.specs.Net.{AreWithin}
use Rattle.act1_map.specs.declared.covers.Covered.{Covered}
use Rattle.act1_map.specs.CoverSteps.{AreCovered, input_signal, reads_of_cover, reads_of_tile}
use Rattle.act1_map.specs.MapSteps.{net_reads, net_roots, reads_of_covers}
use Rattle.act1_map.specs.Meaning.{IsNet}
use Rattle.act1_map.proofs.CoverInputs.{cover_asks, pin_asks}
use Rattle.act1_map.proofs.Gets.{contained_at, got, some_within}
use Rattle.act1_map.proofs.Passes.{or_left, or_right}

-- members of lists that are made of others
in_filter : {X Y : Type 0} (f : X → Option Y) (xs : List X) (y : Y) → Contains (filter_map f xs) y → (x : X) × Contains xs x × (f x ≡ Some y)
in_filter f [] y c = absurd (omega (arith, c.1))
in_filter {X} {Y} f (x ∷ xs) y c = by (f x) refl c (λ d. in_filter f xs y d)
  where
    by : (o : Option Y) → f x ≡ o → Contains (cons_option o (filter_map f xs)) y → (Contains (filter_map f xs) y → (z : X) × Contains xs z × (f z ≡ Some y)) → (z : X) × Contains (x ∷ xs) z × (f z ≡ Some y)
    by None e d rest = let (z, (k, low, at), is) = rest d in (z, (suc k, omega arith, at), is)
    by (Some v) e (zero, low, at) rest = (x, (0, omega arith, refl), e ∙ ap (λ (w : Y). Some w) at)
    by (Some v) e (suc k, low, at) rest = let (z, (j, less, there), is) = rest (k, omega arith, at) in (z, (suc j, omega arith, there), is)

filter_in : {X Y : Type 0} (f : X → Option Y) (xs : List X) (x : X) (y : Y) → Contains xs x → f x ≡ Some y → Contains (filter_map f xs) y
filter_in f [] x y c e = absurd (omega (arith, c.1))
filter_in {X} {Y} f (z ∷ xs) x y (zero, low, at) e = by (f z) (ap f at ∙ e)
  where
    by : (o : Option Y) → o ≡ Some y → Contains (cons_option o (filter_map f xs)) y
    by None h = cc
    by (Some v) h = (0, omega arith, (let s : v ≡ y = cc in s))
filter_in {X} {Y} f (z ∷ xs) x y (suc k, low, at) e = by (f z) (filter_in f xs x y (k, omega arith, at) e)
  where
    by : (o : Option Y) → Contains (filter_map f xs) y → Contains (cons_option o (filter_map f xs)) y
    by None d = d
    by (Some v) (j, less, there) = (suc j, omega arith, there)

in_flat : {X Y : Type 0} (f : X → List Y) (xs : List X) (y : Y) → Contains (flat_map f xs) y → (j : ℕ) × (x : X) × (slice_get xs j ≡ Some x) × Contains (f x) y
in_flat f [] y c = absurd (omega (arith, c.1))
in_flat {X} {Y} f (x ∷ xs) y c = by (Contains-append_cases (f x) (flat_map f xs) y c) (λ d. in_flat f xs y d)
  where
    by : Contains (f x) y ⊎ Contains (flat_map f xs) y → (Contains (flat_map f xs) y → (j : ℕ) × (z : X) × (slice_get xs j ≡ Some z) × Contains (f z) y) → (j : ℕ) × (z : X) × (slice_get (x ∷ xs) j ≡ Some z) × Contains (f z) y
    by (inl d) rest = (0, x, refl, d)
    by (inr d) rest = let (j, z, at, is) = rest d in (suc j, z, at, is)

flat_in : {X Y : Type 0} (f : X → List Y) (xs : List X) (j : ℕ) (x : X) (y : Y) → slice_get xs j ≡ Some x → Contains (f x) y → Contains (flat_map f xs) y
flat_in f [] j x y e c = cc
flat_in f (z ∷ xs) zero x y e c = Contains-append_left (f z) (flat_map f xs) y (subst (λ (w : _). Contains (f w) y) (sym (let s : z ≡ x = cc in s)) c)
flat_in f (z ∷ xs) (suc j) x y e c = Contains-append_right (f z) (flat_map f xs) y (flat_in f xs j x y e c)

-- the signal of a term that has one
signal_is : (e : NetTerm) (s : ℕ) → signal_of e ≡ Some s → e ≡ net.Signal s
signal_is net.Zero s h = cc
signal_is net.One s h = cc
signal_is (net.Signal u) s h = let same : u ≡ s = cc in ap net.Signal same

input_is : (inputs : List ℕ) (e : Term) (s : ℕ) → input_signal inputs e ≡ Some s → (v : ℕ) × (e ≡ term.Var v) × (slice_index_or inputs v 0 ≡ s)
input_is inputs term.Zero s h = cc
input_is inputs term.One s h = cc
input_is inputs (term.Var v) s h = (v, refl, (let same : slice_index_or inputs v 0 ≡ s = cc in same))
input_is inputs (term.Fork j) s h = cc

in_option : (o : Option ℕ) (s : ℕ) → Contains (option_to_list o) s → o ≡ Some s
in_option None s c = absurd (omega (arith, c.1))
in_option (Some u) s (zero, low, e) = ap (λ (x : ℕ). Some x) e
in_option (Some u) s (suc k, low, e) = absurd (omega arith)

option_in : (o : Option ℕ) (s : ℕ) → o ≡ Some s → Contains (option_to_list o) s
option_in None s e = cc
option_in (Some u) s e = (0, omega arith, (let same : u ≡ s = cc in same))

-- what a node reads: the input that its root is, or those at the pins of its tiles
abbrev pub IsReadAt : List ℕ → Covered → ℕ → Type 0
IsReadAt inputs c s =
    ((v : ℕ) × (c.forest.root ≡ term.Var v) × (slice_index_or inputs v 0 ≡ s))
    ⊎ ((j : ℕ) × (u : Tile) × (slice_get c.cover.tiles j ≡ Some u) × (v : ℕ) × Contains (pins_of c.forest u) (term.Var v) × (slice_index_or inputs v 0 ≡ s))

pub read_at : (inputs : List ℕ) (c : Covered) (s : ℕ) → Contains (reads_of_cover inputs c) s → IsReadAt inputs c s
read_at inputs c s h = by (Contains-append_cases (option_to_list (input_signal inputs c.forest.root)) (flat_map (reads_of_tile inputs c.forest) c.cover.tiles) s h)
  where
    by : Contains (option_to_list (input_signal inputs c.forest.root)) s ⊎ Contains (flat_map (reads_of_tile inputs c.forest) c.cover.tiles) s → IsReadAt inputs c s
    by (inl d) = inl (input_is inputs c.forest.root s (in_option (input_signal inputs c.forest.root) s d))
    by (inr d) =
        let (j, u, at, own) = in_flat (reads_of_tile inputs c.forest) c.cover.tiles s d in
        let (e, pin, is) = in_filter (input_signal inputs) (pins_of c.forest u) s own in
        let (v, var, same) = input_is inputs e s is in
        inr (j, u, at, v, subst (λ (x : Term). Contains (pins_of c.forest u) x) var pin, same)

pub root_read : (inputs : List ℕ) (c : Covered) (v : ℕ) → c.forest.root ≡ term.Var v → Contains (reads_of_cover inputs c) (slice_index_or inputs v 0)
root_read inputs c v e =
    Contains-append_left (option_to_list (input_signal inputs c.forest.root)) (flat_map (reads_of_tile inputs c.forest) c.cover.tiles) (slice_index_or inputs v 0)
    (option_in (input_signal inputs c.forest.root) (slice_index_or inputs v 0) (ap (input_signal inputs) e))

pub pin_read : (inputs : List ℕ) (c : Covered) (j : ℕ) (u : Tile) (v : ℕ) → slice_get c.cover.tiles j ≡ Some u → Contains (pins_of c.forest u) (term.Var v) → Contains (reads_of_cover inputs c) (slice_index_or inputs v 0)
pin_read inputs c j u v at pin =
    Contains-append_right (option_to_list (input_signal inputs c.forest.root)) (flat_map (reads_of_tile inputs c.forest) c.cover.tiles) (slice_index_or inputs v 0)
    (flat_in (reads_of_tile inputs c.forest) c.cover.tiles j u (slice_index_or inputs v 0) at (filter_in (input_signal inputs) (pins_of c.forest u) (term.Var v) (slice_index_or inputs v 0) pin refl))

-- the reads of a node
rows_long : (nodes : List Node) (cs : List Covered) → length cs ≡ length nodes → length (reads_of_covers nodes cs) ≡ length nodes
rows_long [] cs e = refl
rows_long (node ∷ nodes) [] e = absurd (omega arith)
rows_long (node ∷ nodes) (c ∷ cs) e = ap suc (rows_long nodes cs (omega arith))

row_is : (nodes : List Node) (cs : List Covered) (i : ℕ) (node : Node) (c : Covered) → slice_get nodes i ≡ Some node → slice_get cs i ≡ Some c → slice_index_or (reads_of_covers nodes cs) i [] ≡ reads_of_cover node.inputs c
row_is [] cs i node c e f = cc
row_is (d ∷ nodes) [] i node c e f = cc
row_is (d ∷ nodes) (x ∷ cs) zero node c e f = let n : d ≡ node = cc in let o : x ≡ c = cc in ap (λ (u : Node). reads_of_cover u.inputs x) n ∙ ap (reads_of_cover node.inputs) o
row_is (d ∷ nodes) (x ∷ cs) (suc i) node c e f = row_is nodes cs i node c e f

-- a reached vertex is a root, or a reached one reads it
further : (reads : List (List ℕ)) (v : ℕ) (path : List ℕ) (w u : ℕ) → LeadsTo reads v path w → Reads reads w u → (more : List ℕ) × LeadsTo reads v more u
further reads v [] w u l r = (w ∷ [], (l, r))
further reads v (t ∷ path) w u l r = let rest = further reads t path w u l.1 r in (t ∷ rest.0, (l.0, rest.1))

pub reached_next : (reads : List (List ℕ)) (roots : List ℕ) (w u : ℕ) → IsReached reads roots w → Reads reads w u → IsReached reads roots u
reached_next reads roots w u (inl c) r = inr (w, [], c, r)
reached_next reads roots w u (inr (root, path, c, l)) r = let more = further reads root path w u l r in inr (root, more.0, c, more.1)

last_step : (reads : List (List ℕ)) (roots : List ℕ) (v : ℕ) (path : List ℕ) (w : ℕ) → IsReached reads roots v → LeadsTo reads v path w → (u : ℕ) × IsReached reads roots u × Reads reads u w
last_step reads roots v [] w from l = (v, from, l)
last_step reads roots v (t ∷ path) w from l = last_step reads roots t path w (reached_next reads roots v t from l.0) l.1

reached_by : (reads : List (List ℕ)) (roots : List ℕ) (w : ℕ) → IsReached reads roots w → Contains roots w ⊎ ((u : ℕ) × IsReached reads roots u × Reads reads u w)
reached_by reads roots w (inl c) = inl c
reached_by reads roots w (inr (root, path, c, l)) = inr (last_step reads roots root path w (inl c) l)

module _ (n : Net) (covers : List Covered) (whole : IsWhole n.blif) (covered : AreCovered n.blif.nodes (length n.blif.nodes) covers) where
  abbrev b : Blif
  b = n.blif

  pub reads_long : length (net_reads n covers) ≡ signal_count b
  reads_long =
      let f = length-replicate (first_node b) (let none : List ℕ = [] in none) in
      let r = rows_long b.nodes covers covered.count in
      let a = length-append (replicate (first_node b) (let none : List ℕ = [] in none)) (reads_of_covers b.nodes covers) in omega arith

  pub node_row : (i : ℕ) (node : Node) (c : Covered) → slice_get b.nodes i ≡ Some node → slice_get covers i ≡ Some c → slice_index_or (net_reads n covers) (first_node b + i) [] ≡ reads_of_cover node.inputs c
  node_row i node c e f =
      let l = length-replicate (first_node b) (let none : List ℕ = [] in none) in
      or_right (replicate (first_node b) []) (reads_of_covers b.nodes covers) (first_node b + i) i [] (omega arith) ∙ row_is b.nodes covers i node c e f

  -- what reads a signal is a node
  pub record IsReader (v w : ℕ) : Type 0 where
    pub i : ℕ
    pub node : Node
    pub c : Covered
    pub is : v ≡ first_node b + i
    pub there : slice_get b.nodes i ≡ Some node
    pub here : slice_get covers i ≡ Some c
    pub reads : Contains (reads_of_cover node.inputs c) w

  pub reader_is : (v w : ℕ) → Reads (net_reads n covers) v w → IsReader v w
  reader_is v w r = by (cases_lt v (first_node b)) (cases_lt v (signal_count b))
    where
      front_long : length (replicate (first_node b) (let none : List ℕ = [] in none)) ≡ first_node b
      front_long = length-replicate (first_node b) (let none : List ℕ = [] in none)

      nothing : Contains [] w → IsReader v w
      nothing c = absurd (omega (arith, c.1))

      before : v < first_node b → slice_index_or (net_reads n covers) v [] ≡ []
      before low = or_left (replicate (first_node b) []) (reads_of_covers b.nodes covers) v [] (let l = front_long in omega arith) ∙ get_or-replicate (first_node b) v [] [] low

      by : (v < first_node b) ⊎ (first_node b ≤ v) → (v < signal_count b) ⊎ (signal_count b ≤ v) → IsReader v w
      by (inl low) o = nothing (subst (λ (row : List ℕ). Contains row w) (before low) r)
      by (inr high) (inr past) = nothing (subst (λ (row : List ℕ). Contains row w) (get_or_past (net_reads n covers) v [] (let l = reads_long in omega arith)) r)
      by (inr high) (inl within) =
          let i : ℕ = v - first_node b in
          let place : v ≡ first_node b + i = omega arith in
          let node = some_within b.nodes i (omega arith) in
          let count = covered.count in
          let c = some_within covers i (omega arith) in
          record {
            i = i;
            node = node.0;
            c = c.0;
            is = place;
            there = node.1;
            here = c.1;
            reads = subst (λ (row : List ℕ). Contains row w) (ap (λ (k : ℕ). slice_index_or (net_reads n covers) k []) place ∙ node_row i node.0 c.0 node.1 c.1) r;
          }

  -- the inputs that are read are the node's
  pub read_input : (i : ℕ) (node : Node) (c : Covered) → slice_get b.nodes i ≡ Some node → slice_get covers i ≡ Some c → (s : ℕ) → Contains (reads_of_cover node.inputs c) s → Contains node.inputs s
  read_input i node c there here s h = by (read_at node.inputs c s h)
    where
      wide : node.cover.width ≡ length node.inputs
      wide = whole.widths i node there

      by : IsReadAt node.inputs c s → Contains node.inputs s
      by (inl (v, root, is)) =
          let own = covered.each i node c there here in
          let low = (cover_asks node.cover c.forest own.forest).root v root in
          let w = wide in
          subst (λ (x : ℕ). Contains node.inputs x) is (contained_at node.inputs v 0 (omega arith))
      by (inr (j, u, at, v, pin, is)) =
          let own = covered.each i node c there here in
          let low = pin_asks c.forest own.is_forest node.cover.width (cover_asks node.cover c.forest own.forest) u (own.least.tiling.stand j u at) (term.Var v) pin v refl in
          let w = wide in
          subst (λ (x : ℕ). Contains node.inputs x) is (contained_at node.inputs v 0 (omega arith))

  pub are_reads : AreReads (net_reads n covers)
  are_reads v w r =
      let h = reader_is v w r in
      let l = reads_long in
      let low = whole.nodes h.i w h.node h.there (read_input h.i h.node h.c h.there h.here w h.reads) in omega arith

  pub root_from : (s : ℕ) → Contains (net_roots n) s → Contains n.outputs (net.Signal s) ⊎ Contains n.next (net.Signal s)
  root_from s c = by (Contains-append_cases (filter_map signal_of n.outputs) (filter_map signal_of n.next) s c)
    where
      own : (terms : List NetTerm) → Contains (filter_map signal_of terms) s → Contains terms (net.Signal s)
      own terms d = let (e, at, is) = in_filter signal_of terms s d in subst (λ (x : NetTerm). Contains terms x) (signal_is e s is) at

      by : Contains (filter_map signal_of n.outputs) s ⊎ Contains (filter_map signal_of n.next) s → Contains n.outputs (net.Signal s) ⊎ Contains n.next (net.Signal s)
      by (inl d) = inl (own n.outputs d)
      by (inr d) = inr (own n.next d)

  pub root_within : IsNet n → (s : ℕ) → Contains (net_roots n) s → s < signal_count b
  root_within is_net s c = by (root_from s c)
    where
      low : (terms : List NetTerm) → AreWithin (signal_count b) terms → Contains terms (net.Signal s) → s < signal_count b
      low terms within d = let (k, at) = got terms (net.Signal s) d in within k s at

      by : Contains n.outputs (net.Signal s) ⊎ Contains n.next (net.Signal s) → s < signal_count b
      by (inl d) = low n.outputs is_net.outputs_within d
      by (inr d) = low n.next is_net.next_within d

  pub roots_within : IsNet n → (k d : ℕ) → k < length (net_roots n) → slice_index_or (net_roots n) k d < length (net_reads n covers)
  roots_within is_net k d low = let l = reads_long in let r = root_within is_net (slice_index_or (net_roots n) k d) (contained_at (net_roots n) k d low) in omega arith

  module _ (marks : List Bool) (reached : AreReachedFrom (net_reads n covers) (net_roots n) marks) where
    -- a signal with a source is marked
    pub live_marked : (s : ℕ) → slice_index_or marks s false ≡ true → slice_get marks s ≡ Some true
    live_marked s live = by (cases_lt s (length marks))
      where
        by : (s < length marks) ⊎ (length marks ≤ s) → slice_get marks s ≡ Some true
        by (inl low) = slice_get-get_or marks s false low ∙ ap (λ (x : Bool). Some x) live
        by (inr past) = absurd (false≢true (sym (get_or_past marks s false past) ∙ live))

    pub marked_live : (s : ℕ) → IsReached (net_reads n covers) (net_roots n) s → slice_index_or marks s false ≡ true
    marked_live s h = get_or_from_slice_get marks s true false (reached.marked s h)

    -- what outputs are, what latches take, and what a node that is read reads, is read
    pub output_live : (k s : ℕ) → slice_get n.outputs k ≡ Some (net.Signal s) → slice_index_or marks s false ≡ true
    output_live k s e = marked_live s (inl (Contains-append_left (filter_map signal_of n.outputs) (filter_map signal_of n.next) s (filter_in signal_of n.outputs (net.Signal s) s (here n.outputs k s e) refl)))
      where
        here : (terms : List NetTerm) (k s : ℕ) → slice_get terms k ≡ Some (net.Signal s) → Contains terms (net.Signal s)
        here terms k s e = (k, slice_get_within terms k (net.Signal s) e, get_or_from_slice_get terms k (net.Signal s) (net.Signal s) e)

    pub next_live : (k s : ℕ) → slice_get n.next k ≡ Some (net.Signal s) → slice_index_or marks s false ≡ true
    next_live k s e =
        marked_live s (inl (Contains-append_right (filter_map signal_of n.outputs) (filter_map signal_of n.next) s
        (filter_in signal_of n.next (net.Signal s) s (k, slice_get_within n.next k (net.Signal s) e, get_or_from_slice_get n.next k (net.Signal s) (net.Signal s) e) refl)))

    pub node_live : (i : ℕ) (node : Node) (c : Covered) (s : ℕ) → slice_get b.nodes i ≡ Some node → slice_get covers i ≡ Some c → slice_index_or marks (first_node b + i) false ≡ true → Contains (reads_of_cover node.inputs c) s → slice_index_or marks s false ≡ true
    node_live i node c s there here live reads =
        marked_live s (reached_next (net_reads n covers) (net_roots n) (first_node b + i) s (reached.only (first_node b + i) (live_marked (first_node b + i) live))
        (subst (λ (row : List ℕ). Contains row s) (sym (node_row i node c there here)) reads))

    -- a signal that is read is an output, or what a latch takes, or a node that is read reads it
    pub record IsReadLive (s : ℕ) : Type 0 where
      pub v : ℕ
      pub live : slice_index_or marks v false ≡ true
      pub reader : IsReader v s

    pub live_from : (s : ℕ) → slice_index_or marks s false ≡ true → (Contains n.outputs (net.Signal s) ⊎ Contains n.next (net.Signal s)) ⊎ IsReadLive s
    live_from s live = by (reached_by (net_reads n covers) (net_roots n) s (reached.only s (live_marked s live)))
      where
        by : Contains (net_roots n) s ⊎ ((u : ℕ) × IsReached (net_reads n covers) (net_roots n) u × Reads (net_reads n covers) u s) → (Contains n.outputs (net.Signal s) ⊎ Contains n.next (net.Signal s)) ⊎ IsReadLive s
        by (inl c) = inl (root_from s c)
        by (inr (u, from, r)) = inr (record { v = u; live = marked_live u from; reader = reader_is u s r })

    -- each signal has a mark
    pub marks_long : length marks ≡ signal_count b
    marks_long = reached.all ∙ reads_long

-- The tiles of the nodes that are read, by their nodes.
use Rattle.std.proofs.Common.{ℕ, zero, suc, ◌≡◌, ◌⊎◌, ◌+◌, ◌<◌, ◌≤◌, Bool, true, false, List, [], ◌∷◌, ◌++◌, length, Some, refl, sym, ap, subst, ◌∙◌, inl, inr, arith}
use Rattle.std.specs.Prelude.{AllPairs, slice_get, slice_index_or}
use Rattle.std.proofs.lemmas.Bool.{cases_lt}
use Rattle.std.proofs.lemmas.List.{length-append, length-map}
use Rattle.std.proofs.lemmas.Option.{slice_get_within, get_or_from_slice_get}
use Rattle.act1_base.proofs.ListGets.{get_mapped}
use Rattle.act1_cover.specs.declared.tile.Tile.{Tile}
use Rattle.act1_cover.specs.Tilings.{total}
use Rattle.act1_map.specs.declared.covers.Covered.{Covered}
use Rattle.act1_map.specs.declared.tiles.NodeTile.{NodeTile}
use Rattle.act1_map.specs.MapSteps.{at_node, tiles_from, tiles_if}
use Rattle.act1_map.proofs.Gets.{one_at, mapped_get}
use Rattle.act1_map.proofs.Passes.{get_either, get_left, get_right, made_more}

-- tiles that rise by their forks have one for each fork
pub one_fork : (tiles : List Tile) → AllPairs (λ (s t : Tile). s.fork < t.fork) tiles → (j k : ℕ) (s t : Tile) → slice_get tiles j ≡ Some s → slice_get tiles k ≡ Some t → s.fork ≡ t.fork → j ≡ k
one_fork tiles rising j k s t e f same = by (cases_lt j k) (cases_lt k j)
  where
    low : (i l : ℕ) (u w : Tile) → slice_get tiles i ≡ Some u → slice_get tiles l ≡ Some w → i < l → u.fork < w.fork
    low i l u w g h less =
        subst (λ (x : Tile). x.fork < w.fork) (get_or_from_slice_get tiles i u w g)
        (subst (λ (x : Tile). (slice_index_or tiles i w).fork < x.fork) (get_or_from_slice_get tiles l w w h) (rising i l w less (slice_get_within tiles l w h)))

    by : (j < k) ⊎ (k ≤ j) → (k < j) ⊎ (j ≤ k) → j ≡ k
    by (inl less) o = let l = low j k s t e f less in absurd (omega arith)
    by (inr more) (inl less) = let l = low k j t s f e less in absurd (omega arith)
    by (inr more) (inr less) = omega arith

module _ (marks : List Bool) (first : ℕ) where
  abbrev is_read : ℕ → Bool
  is_read i = slice_index_or marks (first + i) false

  -- how many modules stand before those of the k-th of some nodes
  pub before : ℕ → List Covered → ℕ → ℕ
  before i cs zero = 0
  before i [] (suc k) = 0
  before i (c ∷ cs) (suc k) = length (tiles_if (is_read i) i c) + before (suc i) cs k

  -- where a module comes from
  pub record IsFrom (i : ℕ) (cs : List Covered) (m : ℕ) (t : NodeTile) : Type 0 where
    pub k : ℕ
    pub c : Covered
    pub j : ℕ
    pub node : t.node ≡ i + k
    pub is : slice_get cs k ≡ Some c
    pub read : slice_index_or marks (first + (i + k)) false ≡ true
    pub at : slice_get c.cover.tiles j ≡ Some t.tile
    pub place : m ≡ before i cs k + j

  in_node : (b : Bool) (i : ℕ) (c : Covered) (m : ℕ) (t : NodeTile) → slice_get (tiles_if b i c) m ≡ Some t → (b ≡ true) × (t.node ≡ i) × (slice_get c.cover.tiles m ≡ Some t.tile)
  in_node false i c m t e = cc
  in_node true i c m t e =
      let (u, is, same) = get_mapped (at_node i) c.cover.tiles m t e in
      (refl, sym (ap (λ (x : NodeTile). x.node) same), is ∙ ap (λ (x : NodeTile). Some x.tile) same)

  pub from : (i : ℕ) (cs : List Covered) (m : ℕ) (t : NodeTile) → slice_get (tiles_from marks first i cs) m ≡ Some t → IsFrom i cs m t
  unfolding before
  from i [] m t e = cc
  from i (c ∷ cs) m t e = by (get_either (tiles_if (is_read i) i c) (tiles_from marks first (suc i) cs) m t e) (λ k f. from (suc i) cs k t f)
    where
      by : (slice_get (tiles_if (is_read i) i c) m ≡ Some t) ⊎ ((k : ℕ) × (m ≡ length (tiles_if (is_read i) i c) + k) × (slice_get (tiles_from marks first (suc i) cs) k ≡ Some t))
          → ((k : ℕ) → slice_get (tiles_from marks first (suc i) cs) k ≡ Some t → IsFrom (suc i) cs k t) → IsFrom i (c ∷ cs) m t
      by (inl f) rest =
          let (read, node, at) = in_node (is_read i) i c m t f in
          let here : i ≡ i + 0 = omega arith in
          record { k = 0; c = c; j = m; node = node ∙ here; is = refl; read = subst (λ (n : ℕ). slice_index_or marks (first + n) false ≡ true) here read; at = at; place = omega arith }
      by (inr (k, s, f)) rest =
          let r = rest k f in
          let here : suc i + r.k ≡ i + suc r.k = omega arith in
          let p = r.place in
          record { k = suc r.k; c = r.c; j = r.j; node = r.node ∙ here; is = r.is; read = subst (λ (n : ℕ). slice_index_or marks (first + n) false ≡ true) here r.read; at = r.at; place = omega arith }

  pub to : (i : ℕ) (cs : List Covered) (k j n : ℕ) (c : Covered) (u : Tile) → n ≡ i + k → slice_get cs k ≡ Some c → slice_index_or marks (first + n) false ≡ true → slice_get c.cover.tiles j ≡ Some u
      → slice_get (tiles_from marks first i cs) (before i cs k + j) ≡ Some (at_node n u)
  unfolding before
  to i [] k j n c u s e read at = cc
  to i (d ∷ cs) zero j n c u s e read at =
      ap (slice_get (tiles_from marks first i (d ∷ cs))) (let h : 0 + j ≡ j = omega arith in h)
      ∙ get_left (tiles_if (is_read i) i d) (tiles_from marks first (suc i) cs) j (at_node n u) (own (is_read i) (ap (λ (l : ℕ). slice_index_or marks (first + l) false) here ∙ read))
    where
      here : i ≡ n
      here = omega arith

      same : d ≡ c
      same = cc

      own : (b : Bool) → b ≡ true → slice_get (tiles_if b i d) j ≡ Some (at_node n u)
      own false h = cc
      own true h = mapped_get (at_node i) d.cover.tiles j u (ap (λ (x : Covered). slice_get x.cover.tiles j) same ∙ at) ∙ ap (λ (l : ℕ). Some (at_node l u)) here
  to i (d ∷ cs) (suc k) j n c u s e read at =
      get_right (tiles_if (is_read i) i d) (tiles_from marks first (suc i) cs) (before i (d ∷ cs) (suc k) + j) (before (suc i) cs k + j) (at_node n u) (omega arith)
      (to (suc i) cs k j n c u (omega arith) e read at)

  -- no fork of a node has two modules
  pub once : (cs : List Covered) → ((i : ℕ) (c : Covered) → slice_get cs i ≡ Some c → AllPairs (λ (s t : Tile). s.fork < t.fork) c.cover.tiles) → (m k : ℕ) (t u : NodeTile) → slice_get (tiles_from marks first 0 cs) m ≡ Some t → slice_get (tiles_from marks first 0 cs) k ≡ Some u
      → t.node ≡ u.node → t.tile.fork ≡ u.tile.fork → m ≡ k
  once cs rising m k t u e f same_node same_fork =
      let a = from 0 cs m t e in
      let b = from 0 cs k u f in
      let an = a.node in
      let bn = b.node in
      let node : b.k ≡ a.k = omega arith in
      let cover : b.c ≡ a.c = one_at cs a.k b.c a.c (ap (slice_get cs) (sym node) ∙ b.is) a.is in
      let tile : a.j ≡ b.j = one_fork a.c.cover.tiles (rising a.k a.c a.is) a.j b.j t.tile u.tile a.at (ap (λ (x : Covered). slice_get x.cover.tiles b.j) (sym cover) ∙ b.at) same_fork in
      a.place ∙ ap (λ (j : ℕ). before 0 cs a.k + j) tile ∙ ap (λ (l : ℕ). before 0 cs l + b.j) (sym node) ∙ sym b.place

  -- there are at most as many as all tiles
  pub few_tiles : (i : ℕ) (cs : List Covered) → length (tiles_from marks first i cs) ≤ total (λ (c : Covered). length c.cover.tiles) cs
  few_tiles i [] = omega arith
  few_tiles i (c ∷ cs) =
      let a = length-append (tiles_if (is_read i) i c) (tiles_from marks first (suc i) cs) in
      let r = few_tiles (suc i) cs in
      let o = own (is_read i) in omega arith
    where
      own : (b : Bool) → length (tiles_if b i c) ≤ length c.cover.tiles
      own false = omega arith
      own true = let l = length-map c.cover.tiles (at_node i) in omega arith

-- the tiles of one node more
pub node_more : (marks : List Bool) (first i : ℕ) (cs more_cs : List Covered) (c : Covered) (b : Bool) (now new all : List NodeTile) → cs ≡ c ∷ more_cs → b ≡ slice_index_or marks (first + i) false → new ≡ now ++ tiles_if b i c
    → now ++ tiles_from marks first i cs ≡ all → new ++ tiles_from marks first (suc i) more_cs ≡ all
node_more marks first i cs more_cs c b now new all is read made prior =
    made_more now new (tiles_if b i c) (tiles_from marks first i cs) (tiles_from marks first (suc i) more_cs) all made
    (ap (tiles_from marks first i) is ∙ ap (λ (x : Bool). tiles_if x i c ++ tiles_from marks first (suc i) more_cs) (sym read)) prior

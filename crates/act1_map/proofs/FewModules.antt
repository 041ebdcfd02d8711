-- A mapped circuit has at most the least count of modules.
use Rattle.std.proofs.Common.{ℕ, zero, suc, ◌≡◌, ◌⊎◌, ◌+◌, ◌*◌, ◌<◌, ◌≤◌, List, [], ◌∷◌, ◌++◌, length, Some, map, refl, sym, ap, ◌∙◌, inl, inr, arith}
use Rattle.std.specs.Prelude.{slice_get}
use Rattle.std.specs.List.{AllZip}
use Rattle.std.proofs.lemmas.Bool.{cases_lt}
use Rattle.std.proofs.lemmas.List.{length-append, length-map}
use Rattle.std.proofs.lemmas.Option.{slice_get_within}
use Rattle.act1_base.proofs.Pigeonhole.{pigeonhole, distinct, below}
use Rattle.act1_blif.specs.declared.blif.Node.{Node}
use Rattle.act1_circuit.specs.declared.circuit.Circuit.{Circuit}
use Rattle.act1_cover.specs.declared.tile.Tile.{Tile}
use Rattle.act1_cover.specs.Tilings.{total}
use Rattle.act1_net.specs.declared.net.Net.{Net}
use Rattle.act1_map.specs.Laws.{MappedIsFew}
use Rattle.act1_map.specs.Least.{IsLeast, IsLeastOfNode}
use Rattle.act1_map.specs.Mapped.{Role, tile, «master» as master_of, «slave» as slave_of, Tables, IsMapped}
use Rattle.act1_map.specs.Meaning.{IsNet}
use Rattle.act1_map.specs.Read.{IsFull}
use Rattle.act1_map.proofs.Gets.{one_at, mapped_get}
use Rattle.act1_map.proofs.LeastOne.{least_is_one}

-- the role stands in the list
abbrev Has : List Role → Role → Type 0
Has rs r = (p : ℕ) × (slice_get rs p ≡ Some r)

has_left : (rs qs : List Role) (r : Role) → Has rs r → Has (rs ++ qs) r
has_left [] qs r (p, e) = cc
has_left (x ∷ rs) qs r (zero, e) = (0, e)
has_left (x ∷ rs) qs r (suc p, e) = let h = has_left rs qs r (p, e) in (suc h.0, h.1)

has_right : (rs qs : List Role) (r : Role) → Has qs r → Has (rs ++ qs) r
has_right [] qs r h = h
has_right (x ∷ rs) qs r h = let g = has_right rs qs r h in (suc g.0, g.1)

-- all tiles of nodes from the i-th on, and the two modules of each latch
tile_roles : ℕ → List (List Tile) → List Role
tile_roles i [] = []
tile_roles i (us ∷ uss) = map (tile i) us ++ tile_roles (suc i) uss

latch_roles : ℕ → List Role
latch_roles zero = []
latch_roles (suc j) = master_of j ∷ slave_of j ∷ latch_roles j

tile_count : (i : ℕ) (uss : List (List Tile)) → length (tile_roles i uss) ≡ total (λ (count : ℕ). count) (map length uss)
unfolding tile_roles
tile_count i [] = refl
tile_count i (us ∷ uss) =
    let a = length-append (map (tile i) us) (tile_roles (suc i) uss) in
    let b = length-map us (tile i) in
    let c = tile_count (suc i) uss in omega arith

latch_count : (j : ℕ) → length (latch_roles j) ≡ 2 * j
unfolding latch_roles
latch_count zero = refl
latch_count (suc j) = let r = latch_count j in omega arith

has_tile : (i k e : ℕ) (uss : List (List Tile)) (us : List Tile) (j : ℕ) (u : Tile) → slice_get uss k ≡ Some us → slice_get us j ≡ Some u → e ≡ i + k → Has (tile_roles i uss) (tile e u)
unfolding tile_roles
has_tile i k e [] us j u h g s = cc
has_tile i zero e (vs ∷ uss) us j u h g s =
    let same : vs ≡ us = cc in
    let at : e ≡ i = omega arith in
    has_left (map (tile i) vs) (tile_roles (suc i) uss) (tile e u)
    (j, mapped_get (tile i) vs j u (ap (λ (ws : List Tile). slice_get ws j) same ∙ g) ∙ ap (λ (d : ℕ). Some (tile d u)) (sym at))
has_tile i (suc k) e (vs ∷ uss) us j u h g s = has_right (map (tile i) vs) (tile_roles (suc i) uss) (tile e u) (has_tile (suc i) k e uss us j u h g (omega arith))

has_latch : (n j : ℕ) → j < n → Has (latch_roles n) (master_of j) × Has (latch_roles n) (slave_of j)
unfolding latch_roles
has_latch zero j low = absurd (omega arith)
has_latch (suc n) j low = by (cases_lt j n) (has_latch n j)
  where
    later : (r : Role) → Has (latch_roles n) r → Has (master_of n ∷ slave_of n ∷ latch_roles n) r
    later r (p, e) = (suc (suc p), e)

    by : (j < n) ⊎ (n ≤ j) → (j < n → Has (latch_roles n) (master_of j) × Has (latch_roles n) (slave_of j)) → Has (latch_roles (suc n)) (master_of j) × Has (latch_roles (suc n)) (slave_of j)
    by (inl less) h = let g = h less in (later (master_of j) g.0, later (slave_of j) g.1)
    by (inr more) h = let e : n ≡ j = omega arith in ((0, ap (λ (d : ℕ). Some (master_of d)) e), (1, ap (λ (d : ℕ). Some (slave_of d)) e))

-- the place of each role in a list of all
record Placed (all rs : List Role) : Type 0 where
  places : List ℕ
  count : length places ≡ length rs
  at : (m p : ℕ) → slice_get places m ≡ Some p → (r : Role) × (slice_get rs m ≡ Some r) × (slice_get all p ≡ Some r)

placed : (all rs : List Role) → ((m : ℕ) (r : Role) → slice_get rs m ≡ Some r → Has all r) → Placed all rs
placed all [] h = record { places = []; count = refl; at = λ m p e. cc }
placed all (r ∷ rs) h =
    let rest = placed all rs (λ m q e. h (suc m) q e) in
    let own = h 0 r refl in
    record { places = own.0 ∷ rest.places; count = ap suc rest.count; at = at own rest }
  where
    at : (own : Has all r) (rest : Placed all rs) (m p : ℕ) → slice_get (own.0 ∷ rest.places) m ≡ Some p → (q : Role) × (slice_get (r ∷ rs) m ≡ Some q) × (slice_get all p ≡ Some q)
    at own rest zero p e = let same : own.0 ≡ p = cc in (r, refl, ap (slice_get all) (sym same) ∙ own.1)
    at own rest (suc m) p e = rest.at m p e

-- roles that differ and stand in a list are at most as many as it has
few : (all rs : List Role) → ((m k : ℕ) (r : Role) → slice_get rs m ≡ Some r → slice_get rs k ≡ Some r → m ≡ k) → ((m : ℕ) (r : Role) → slice_get rs m ≡ Some r → Has all r) → length rs ≤ length all
few all rs once h =
    let ps = placed all rs h in
    let low = pigeonhole (length all) ps.places
    (distinct ps.places (λ m k p e f. (let a = ps.at m p e in let b = ps.at k p f in
    once m k a.0 a.1 (b.1 ∙ ap Some (one_at all p b.0 a.0 b.2 a.2)))))
    (below (length all) ps.places (λ m p e. (let a = ps.at m p e in slice_get_within all p a.0 a.2))) in
    let c = ps.count in omega arith

zipped : (nodes : List Node) (uss : List (List Tile)) → length uss ≡ length nodes → ((i : ℕ) (node : Node) (us : List Tile) → slice_get nodes i ≡ Some node → slice_get uss i ≡ Some us → IsLeastOfNode node (length us))
    → AllZip IsLeastOfNode nodes (map length uss)
zipped [] [] l h = tt
zipped [] (us ∷ uss) l h = absurd (omega arith)
zipped (node ∷ nodes) [] l h = absurd (omega arith)
zipped (node ∷ nodes) (us ∷ uss) l h = (h 0 node us refl refl, zipped nodes uss (omega arith) (λ i d ws e f. h (suc i) d ws e f))

module _ (n : Net) (c : Circuit) (t : Tables) (is_net : IsNet n) (mapped : IsMapped n c t) (full : IsFull n t) where
  least : IsLeast n.blif (total (λ (count : ℕ). count) (map length t.tiles) + 2 * length n.blif.latches)
  least = record { counts = map length t.tiles; each = zipped n.blif.nodes t.tiles full.count one; is = refl }
    where
      one : (i : ℕ) (node : Node) (us : List Tile) → slice_get n.blif.nodes i ≡ Some node → slice_get t.tiles i ≡ Some us → IsLeastOfNode node (length us)
      one i node us e f =
          let forest = mapped.forests i node e in
          let own = full.tiled i forest.0 forest.1 (slice_get_within n.blif.nodes i node e) in
          record { forest = forest.0; tiles = own.tiles; forest_is = forest.2; least = own.least; count_is = ap length (one_at t.tiles i us own.tiles f own.there) }

  all : List Role
  all = tile_roles 0 t.tiles ++ latch_roles (length n.blif.latches)

  has_role : (m : ℕ) (r : Role) → slice_get t.roles m ≡ Some r → Has all r
  unfolding all
  has_role m (tile i u) e =
      let o = (full.only m i u e).0 in
      has_left (tile_roles 0 t.tiles) (latch_roles (length n.blif.latches)) (tile i u) (has_tile 0 i i t.tiles o.0 o.1 u o.2 o.3 (omega arith))
  has_role m (master_of j) e =
      let h = mapped.masters m j e in
      let low = slice_get_within n.next j h.takes h.takes_is in
      has_right (tile_roles 0 t.tiles) (latch_roles (length n.blif.latches)) (master_of j) (has_latch (length n.blif.latches) j (let l = is_net.next in omega arith)).0
  has_role m (slave_of j) e =
      let s = mapped.slaves m j e in
      let h = mapped.masters s.of j s.of_is in
      let low = slice_get_within n.next j h.takes h.takes_is in
      has_right (tile_roles 0 t.tiles) (latch_roles (length n.blif.latches)) (slave_of j) (has_latch (length n.blif.latches) j (let l = is_net.next in omega arith)).1

  at_most : length c.modules ≤ total (λ (count : ℕ). count) (map length t.tiles) + 2 * length n.blif.latches
  unfolding all
  at_most =
      let low = few all t.roles mapped.once has_role in
      let a = length-append (tile_roles 0 t.tiles) (latch_roles (length n.blif.latches)) in
      let d = tile_count 0 t.tiles in
      let e = latch_count (length n.blif.latches) in
      let s = mapped.count in omega arith

pub mapped_is_few : MappedIsFew
mapped_is_few n c t is_net mapped full k is =
    let low = at_most n c t is_net mapped full in
    let same = least_is_one n.blif k (total (λ (count : ℕ). count) (map length t.tiles) + 2 * length n.blif.latches) is (least n c t is_net mapped full) in omega arith

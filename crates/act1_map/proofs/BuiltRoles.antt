-- The tables of a circuit that the passes made, and what each of its modules is.
use Rattle.std.proofs.Common.{ℕ, ◌≡◌, ◌⊎◌, ◌+◌, ◌*◌, ◌<◌, Bool, List, ◌++◌, length, map, Some, refl, sym, ap, ◌∙◌, inl, inr, arith}
use Rattle.std.specs.Prelude.{slice_get}
use Rattle.std.proofs.lemmas.List.{length-append, length-map}
use Rattle.act1_base.proofs.ListGets.{get_mapped}
use Rattle.act1_blif.specs.Graph.{first_node}
use Rattle.act1_blif.specs.Laws.{IsWhole}
use Rattle.act1_circuit.specs.declared.circuit.Circuit.{Circuit}
use Rattle.act1_circuit.specs.declared.circuit.Source.{Source}
use Rattle.act1_cover.specs.declared.forest.Forest.{Forest}
use Rattle.act1_cover.specs.declared.tile.Tile.{Tile}
use Rattle.act1_net.specs.declared.net.Net.{Net}
use Rattle.act1_order.specs.Reach.{AreReachedFrom}
use Rattle.act1_map.specs.declared.covers.Covered.{Covered}
use Rattle.act1_map.specs.declared.tiles.NodeTile.{NodeTile}
use Rattle.act1_map.specs.CoverSteps.{AreCovered}
use Rattle.act1_map.specs.Mapped.{Role, tile, «master» as master_of, «slave» as slave_of, Tables}
use Rattle.act1_map.specs.MapSteps.{ArePlaced, AreSourcedAll, IsCircuitOf, at_node, net_reads, net_roots, place_of, slave_at, tiles_from}
use Rattle.act1_map.specs.Meaning.{IsNet}
use Rattle.act1_map.proofs.Gets.{mapped_get}
use Rattle.act1_map.proofs.LatchPairs.{IsLatchRole, latch_roles, master_role, role_from, roles_count, slave_role}
use Rattle.act1_map.proofs.LeastOfCovers.{are_node_tiles}
use Rattle.act1_map.proofs.Passes.{get_either, get_left, get_right}

-- the passes found these, and made the circuit of them
pub record IsBuilt (n : Net) (covers : List Covered) (marks : List Bool) (tiles : List NodeTile) (places : List (List ℕ)) (sources : List Source) (c : Circuit) : Type 0 where
  pub is_net : IsNet n
  pub whole : IsWhole n.blif
  pub covered : AreCovered n.blif.nodes (length n.blif.nodes) covers
  pub reached : AreReachedFrom (net_reads n covers) (net_roots n) marks
  pub tiles_are : tiles ≡ tiles_from marks (first_node n.blif) 0 covers
  pub placed : ArePlaced covers tiles (length tiles) places
  pub sourced : AreSourcedAll n.blif covers places (length tiles) sources
  pub made : IsCircuitOf n covers tiles places sources c

abbrev pub role_of : NodeTile → Role
role_of t = tile t.node t.tile

abbrev pub forest_in : Covered → Forest
forest_in c = c.forest

abbrev pub tiles_of : Covered → List Tile
tiles_of c = c.cover.tiles

same_tile : (i j : ℕ) (u v : Tile) → tile i u ≡ tile j v → (i ≡ j) × (u ≡ v)
same_tile i j u v e = let a : i ≡ j = cc in let d : u ≡ v = cc in (a, d)

no_master : (i j : ℕ) (u : Tile) → tile i u ≡ master_of j → ⊥
no_master i j u e = cc

no_slave : (i j : ℕ) (u : Tile) → tile i u ≡ slave_of j → ⊥
no_slave i j u e = cc

apart : (i j : ℕ) → master_of i ≡ slave_of j → ⊥
apart i j e = cc

same_master : (i j : ℕ) → master_of i ≡ master_of j → i ≡ j
same_master i j e = cc

same_slave : (i j : ℕ) → slave_of i ≡ slave_of j → i ≡ j
same_slave i j e = cc

-- the roles of the modules: the tiles, and after them the pairs of the latches
abbrev pub roles_of : List NodeTile → ℕ → List Role
roles_of tiles latches = map role_of tiles ++ latch_roles 0 latches

module _ (tiles : List NodeTile) (latches : ℕ) where
  tiles_long : length (map role_of tiles) ≡ length tiles
  tiles_long = length-map tiles role_of

  pub all_roles : length (roles_of tiles latches) ≡ length tiles + 2 * latches
  all_roles = let a = length-append (map role_of tiles) (latch_roles 0 latches) in let l = tiles_long in let r = roles_count 0 latches in omega arith

  pub tile_role : (m : ℕ) (t : NodeTile) → slice_get tiles m ≡ Some t → slice_get (roles_of tiles latches) m ≡ Some (role_of t)
  tile_role m t e = get_left (map role_of tiles) (latch_roles 0 latches) m (role_of t) (mapped_get role_of tiles m t e)

  pub master_at : (j : ℕ) → j < latches → slice_get (roles_of tiles latches) (length tiles + 2 * j) ≡ Some (master_of j)
  master_at j low =
      let l = tiles_long in
      get_right (map role_of tiles) (latch_roles 0 latches) (length tiles + 2 * j) (2 * j) (master_of j) (omega arith) (master_role 0 latches j j (2 * j) low (omega arith) refl)

  pub slave_there : (j : ℕ) → j < latches → slice_get (roles_of tiles latches) (slave_at (length tiles) j) ≡ Some (slave_of j)
  slave_there j low =
      let l = tiles_long in
      get_right (map role_of tiles) (latch_roles 0 latches) (slave_at (length tiles) j) (2 * j + 1) (slave_of j) (omega arith) (slave_role 0 latches j j (2 * j + 1) low (omega arith) refl)

  pub tile_from : (m i : ℕ) (u : Tile) → slice_get (roles_of tiles latches) m ≡ Some (tile i u) → slice_get tiles m ≡ Some (at_node i u)
  tile_from m i u e = by (get_either (map role_of tiles) (latch_roles 0 latches) m (tile i u) e)
    where
      pair : (k : ℕ) → IsLatchRole 0 latches k (tile i u) → slice_get tiles m ≡ Some (at_node i u)
      pair k (inl (j, low, s, is)) = absurd (no_master i (0 + j) u is)
      pair k (inr (j, low, s, is)) = absurd (no_slave i (0 + j) u is)

      by : (slice_get (map role_of tiles) m ≡ Some (tile i u)) ⊎ ((k : ℕ) × (m ≡ length (map role_of tiles) + k) × (slice_get (latch_roles 0 latches) k ≡ Some (tile i u))) → slice_get tiles m ≡ Some (at_node i u)
      by (inl f) =
          let (t, at, same) = get_mapped role_of tiles m (tile i u) f in
          let parts = same_tile t.node i t.tile u same in
          at ∙ ap (λ (x : ℕ). Some (at_node x t.tile)) parts.0 ∙ ap (λ (x : Tile). Some (at_node i x)) parts.1
      by (inr (k, s, f)) = pair k (role_from 0 latches k (tile i u) f)

  pub master_from : (m j : ℕ) → slice_get (roles_of tiles latches) m ≡ Some (master_of j) → (m ≡ length tiles + 2 * j) × (j < latches)
  master_from m j e = by (get_either (map role_of tiles) (latch_roles 0 latches) m (master_of j) e)
    where
      pair : (k : ℕ) → m ≡ length (map role_of tiles) + k → IsLatchRole 0 latches k (master_of j) → (m ≡ length tiles + 2 * j) × (j < latches)
      pair k place (inl (i, low, s, is)) = let same = same_master j (0 + i) is in let l = tiles_long in (omega arith, omega arith)
      pair k place (inr (i, low, s, is)) = absurd (apart j (0 + i) is)

      by : (slice_get (map role_of tiles) m ≡ Some (master_of j)) ⊎ ((k : ℕ) × (m ≡ length (map role_of tiles) + k) × (slice_get (latch_roles 0 latches) k ≡ Some (master_of j))) → (m ≡ length tiles + 2 * j) × (j < latches)
      by (inl f) = let (t, at, same) = get_mapped role_of tiles m (master_of j) f in absurd (no_master t.node j t.tile same)
      by (inr (k, s, f)) = pair k s (role_from 0 latches k (master_of j) f)

  pub slave_from : (m j : ℕ) → slice_get (roles_of tiles latches) m ≡ Some (slave_of j) → (m ≡ slave_at (length tiles) j) × (j < latches)
  slave_from m j e = by (get_either (map role_of tiles) (latch_roles 0 latches) m (slave_of j) e)
    where
      pair : (k : ℕ) → m ≡ length (map role_of tiles) + k → IsLatchRole 0 latches k (slave_of j) → (m ≡ slave_at (length tiles) j) × (j < latches)
      pair k place (inl (i, low, s, is)) = absurd (apart (0 + i) j (sym is))
      pair k place (inr (i, low, s, is)) = let same = same_slave j (0 + i) is in let l = tiles_long in (omega arith, omega arith)

      by : (slice_get (map role_of tiles) m ≡ Some (slave_of j)) ⊎ ((k : ℕ) × (m ≡ length (map role_of tiles) + k) × (slice_get (latch_roles 0 latches) k ≡ Some (slave_of j))) → (m ≡ slave_at (length tiles) j) × (j < latches)
      by (inl f) = let (t, at, same) = get_mapped role_of tiles m (slave_of j) f in absurd (no_slave t.node j t.tile same)
      by (inr (k, s, f)) = pair k s (role_from 0 latches k (slave_of j) f)

module _ (n : Net) (covers : List Covered) (marks : List Bool) (tiles : List NodeTile) (places : List (List ℕ)) (sources : List Source) where
  -- the tables
  abbrev pub tables : Tables
  tables = record {
    sources = sources;
    live = marks;
    roles = roles_of tiles (length n.blif.latches);
    forests = map forest_in covers;
    tiles = map tiles_of covers;
    place = place_of places;
  }

  module _ (c : Circuit) (h : IsBuilt n covers marks tiles places sources c) where
    -- no two modules are the same
    pub roles_once : (m k : ℕ) (r : Role) → slice_get (roles_of tiles (length n.blif.latches)) m ≡ Some r → slice_get (roles_of tiles (length n.blif.latches)) k ≡ Some r → m ≡ k
    roles_once m k (tile i u) e f =
        (are_node_tiles n.blif covers h.covered marks tiles h.tiles_are).once m k (at_node i u) (at_node i u) (tile_from tiles (length n.blif.latches) m i u e) (tile_from tiles (length n.blif.latches) k i u f) refl refl
    roles_once m k (master_of j) e f = (master_from tiles (length n.blif.latches) m j e).0 ∙ sym (master_from tiles (length n.blif.latches) k j f).0
    roles_once m k (slave_of j) e f = (slave_from tiles (length n.blif.latches) m j e).0 ∙ sym (slave_from tiles (length n.blif.latches) k j f).0

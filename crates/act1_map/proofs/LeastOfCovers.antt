-- The tiles of a mapping are few, and each may stand where it does.
use Rattle.std.proofs.Common.{ℕ, suc, ◌≡◌, ◌+◌, ◌*◌, ◌≤◌, Bool, List, [], ◌∷◌, length, map, Some, refl, sym, ap, subst, ◌∙◌, arith}
use Rattle.std.specs.Prelude.{slice_get}
use Rattle.std.specs.List.{AllZip}
use Rattle.std.proofs.lemmas.Option.{slice_get_within}
use Rattle.act1_blif.specs.declared.blif.Blif.{Blif}
use Rattle.act1_blif.specs.declared.blif.Node.{Node}
use Rattle.act1_blif.specs.Graph.{first_node}
use Rattle.act1_cover.specs.Tilings.{total}
use Rattle.act1_map.specs.declared.covers.Covered.{Covered}
use Rattle.act1_map.specs.declared.tiles.NodeTile.{NodeTile}
use Rattle.act1_map.specs.CoverSteps.{AreCovered, IsCovered}
use Rattle.act1_map.specs.Least.{IsLeast, IsLeastOfNode, LeastIsOne}
use Rattle.act1_map.specs.Map.{HasLeastWithin}
use Rattle.act1_map.specs.MapSteps.{AreNodeTiles, tiles_from}
use Rattle.act1_map.proofs.Gets.{some_within}
use Rattle.act1_map.proofs.NodeTiles.{few_tiles, from, once}

abbrev tiles_in : Covered → ℕ
tiles_in c = length c.cover.tiles

zip_counts : (nodes : List Node) (cs : List Covered) → length cs ≡ length nodes → ((i : ℕ) (node : Node) (c : Covered) → slice_get nodes i ≡ Some node → slice_get cs i ≡ Some c → IsCovered node c) → AllZip IsLeastOfNode nodes (map tiles_in cs)
zip_counts [] [] l h = tt
zip_counts [] (c ∷ cs) l h = absurd (omega arith)
zip_counts (node ∷ nodes) [] l h = absurd (omega arith)
zip_counts (node ∷ nodes) (c ∷ cs) l h =
    let own = h 0 node c refl refl in
    (record { forest = c.forest; tiles = c.cover.tiles; forest_is = own.forest; least = own.least; count_is = refl }, zip_counts nodes cs (omega arith) (λ i d x e f. h (suc i) d x e f))

total_map : (cs : List Covered) → total (λ (k : ℕ). k) (map tiles_in cs) ≡ total tiles_in cs
total_map [] = refl
total_map (c ∷ cs) = let r = total_map cs in omega arith

module _ (b : Blif) (covers : List Covered) (covered : AreCovered b.nodes (length b.nodes) covers) where
  -- the count of the tiles of all nodes is the least
  pub least_is : IsLeast b (total tiles_in covers + 2 * length b.latches)
  least_is = record { counts = map tiles_in covers; each = zip_counts b.nodes covers covered.count covered.each; is = (let t = total_map covers in omega arith) }

  module _ (marks : List Bool) (tiles : List NodeTile) (are : tiles ≡ tiles_from marks (first_node b) 0 covers) where
    -- so there are few modules
    pub few_modules : LeastIsOne → HasLeastWithin b 65535 → length tiles + 2 * length b.latches ≤ 65535
    few_modules one (k, is, low) =
        let same = one b k (total tiles_in covers + 2 * length b.latches) is least_is in
        let few = few_tiles marks (first_node b) 0 covers in
        let long = ap (λ (ts : List NodeTile). length ts) are in omega arith

    pub are_node_tiles : AreNodeTiles covers tiles
    are_node_tiles = subst (λ (ts : List NodeTile). AreNodeTiles covers ts) (sym are) (record {
      stand = λ m t e. (let f = from marks (first_node b) 0 covers m t e in
          let number : f.k ≡ t.node = (let n = f.node in omega arith) in
          let count = covered.count in
          let low = slice_get_within covers f.k f.c f.is in
          let node = some_within b.nodes f.k (omega arith) in
          (f.c, ap (slice_get covers) (sym number) ∙ f.is, (covered.each f.k node.0 f.c node.1 f.is).least.tiling.stand f.j t.tile f.at));
      once = once marks (first_node b) covers (λ i c e. (let count = covered.count in let low = slice_get_within covers i c e in let node = some_within b.nodes i (omega arith) in (covered.each i node.0 c node.1 e).least.rising));
    })

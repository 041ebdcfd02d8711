-- What the functions on one node and its tiles need.
use Rattle.std.proofs.Common.{ℕ, ◌≡◌, ◌⊎◌, ◌+◌, ◌<◌, ◌≤◌, List, [], ◌∷◌, ◌++◌, length, Some, refl, sym, ap, subst, ◌∙◌, inl, inr, arith}
use Rattle.std.specs.Prelude.{Contains, slice_get, slice_index_or}
use Rattle.std.proofs.lemmas.Bool.{cases_lt}
use Rattle.std.proofs.lemmas.List.{length-append}
use Rattle.std.proofs.lemmas.Option.{get_or_from_slice_get}
use Rattle.act1_base.proofs.ListGets.{get_last, get_more}
use Rattle.act1_blif.specs.declared.blif.Node.{Node}
use Rattle.act1_circuit.specs.declared.circuit.Source.{Source}
use Rattle.act1_cover.specs.declared.forest.Forest.{Forest}
use Rattle.act1_cover.specs.declared.forest.Term.{Term}
use Rattle.act1_cover.specs.declared.forest.Term.TheVariants as term
use Rattle.act1_cover.specs.declared.tile.Tile.{Tile}
use Rattle.act1_cover.specs.Least.{IsForest}
use Rattle.act1_cover.specs.Pins.{pins_of}
use Rattle.act1_cover.specs.Tilings.{MayStand, ends}
use Rattle.act1_cover.proofs.TileBelow.{end_below}
use Rattle.act1_map.specs.declared.covers.Covered.{Covered}
use Rattle.act1_map.specs.declared.tiles.NodeTile.{NodeTile}
use Rattle.act1_map.specs.CoverSteps.{AsksWithin, IsCovered}
use Rattle.act1_map.specs.MapSteps.{AreTables, AreTileModules, HasEntry, node_source, part_source, tile_pins_by, tile_sources}
use Rattle.act1_map.proofs.CoverReads.{tile_asks}
use Rattle.act1_map.proofs.Gets.{contained_at, got, one_at}
use Rattle.act1_map.proofs.TilePins.{eight_pins, pin_cases}

-- an entry for each fork that is there
entry_of : (n : ℕ) (e : Term) → ((j : ℕ) → e ≡ term.Fork j → j < n) → HasEntry n e
entry_of n (term.Fork j) h = h j refl
entry_of n term.Zero h = tt
entry_of n term.One h = tt
entry_of n (term.Var v) h = tt

-- each fork at a pin has an entry
pub pin_entry : (forest : Forest) → IsForest forest → (n : ℕ) → n ≡ length forest.forks → (u : Tile) → MayStand forest u.fork u.shape → (e : Term) → Contains (pins_of forest u) e → HasEntry n e
pin_entry forest is n long u stands = pin_cases forest (HasEntry n) u tt (λ v. tt) at_end
  where
    at_end : (e : Term) → Contains (ends forest u.fork u.shape) e → HasEntry n e
    at_end e h = entry_of n e (λ j same. (let at = got (ends forest u.fork u.shape) e h in let low = (end_below forest is u.fork u.shape stands at.0 e at.1 j same).0 in omega arith))

-- what the k-th pin of a tile is
module _ (node : Node) (c : Covered) (is : IsCovered node c) (inputs places : List ℕ) (same : inputs ≡ node.inputs) (wide : node.cover.width ≡ length node.inputs) (table : length places ≡ length c.forest.forks)
    (u : Tile) (stands : MayStand c.forest u.fork u.shape) (pins : List Term) (is_pins : pins ≡ pins_of c.forest u) where
  pin_in : (k : ℕ) (d : Term) → k < 8 → Contains pins (slice_index_or pins k d)
  pin_in k d low = let eight = ap (λ (ps : List Term). length ps) is_pins ∙ eight_pins c.forest u in contained_at pins k d (omega arith)

  pub pin_asks_at : (k : ℕ) (d : Term) → k < 8 → AsksWithin (length inputs) (slice_index_or pins k d)
  pin_asks_at k d low = tile_asks node c is inputs same wide u pins stands is_pins (slice_index_or pins k d) (pin_in k d low)

  pub pin_entry_at : (k : ℕ) (d : Term) → k < 8 → HasEntry (length places) (slice_index_or pins k d)
  pin_entry_at k d low = pin_entry c.forest is.is_forest (length places) table u stands (slice_index_or pins k d) (subst (λ (ps : List Term). Contains ps (slice_index_or pins k d)) is_pins (pin_in k d low))

-- the table of a node, as it was read
pub table_long : (covers : List Covered) (places : List (List ℕ)) → AreTables covers places → (i : ℕ) (c : Covered) (own table : List ℕ) → slice_get covers i ≡ Some c → slice_get places i ≡ Some table → own ≡ table → length own ≡ length c.forest.forks
table_long covers places tables i c own table here at same = ap (λ (t : List ℕ). length t) (same ∙ sym (get_or_from_slice_get places i table [] at)) ∙ tables.each i c here

-- what was read of the netlist, the forests and the tables at one place is of one node
module _ (nodes : List Node) (covers : List Covered) (sources : List Source) (places : List (List ℕ)) (i : ℕ) (own node : Node) (cover c : Covered) (read table : List ℕ)
    (own_at : slice_get nodes i ≡ Some own) (there : slice_get nodes i ≡ Some node) (cover_at : slice_get covers i ≡ Some cover) (here : slice_get covers i ≡ Some c) (table_at : slice_get places i ≡ Some table) (same : read ≡ table) where
  table_is : read ≡ slice_index_or places i []
  table_is = same ∙ sym (get_or_from_slice_get places i table [] table_at)

  pub source_read : part_source sources own.inputs read cover.forest.root ≡ node_source sources places i node c
  source_read =
      ap (λ (t : List ℕ). part_source sources own.inputs t cover.forest.root) table_is
      ∙ ap (λ (n : Node). part_source sources n.inputs (slice_index_or places i []) cover.forest.root) (one_at nodes i own node own_at there)
      ∙ ap (λ (d : Covered). part_source sources node.inputs (slice_index_or places i []) d.forest.root) (one_at covers i cover c cover_at here)

  pub pins_read : (t : NodeTile) → t.node ≡ i → tile_pins_by sources own.inputs read cover.forest t.tile ≡ tile_sources sources places t node c
  pins_read t number =
      ap (λ (x : List ℕ). tile_pins_by sources own.inputs x cover.forest t.tile) table_is
      ∙ ap (λ (n : Node). tile_pins_by sources n.inputs (slice_index_or places i []) cover.forest t.tile) (one_at nodes i own node own_at there)
      ∙ ap (λ (d : Covered). tile_pins_by sources node.inputs (slice_index_or places i []) d.forest t.tile) (one_at covers i cover c cover_at here)
      ∙ ap (λ (l : ℕ). tile_pins_by sources node.inputs (slice_index_or places l []) c.forest t.tile) (sym number)

-- one module more
pub module_more : (nodes : List Node) (covers : List Covered) (places : List (List ℕ)) (sources : List Source) (tiles : List NodeTile) (n : ℕ) (t : NodeTile) (pins : List Source) (now new : List (List Source)) → slice_get tiles n ≡ Some t
    → ((node : Node) (c : Covered) → slice_get nodes t.node ≡ Some node → slice_get covers t.node ≡ Some c → pins ≡ tile_sources sources places t node c)
    → AreTileModules nodes covers places sources tiles n now → new ≡ now ++ pins ∷ [] → AreTileModules nodes covers places sources tiles (n + 1) new
module_more nodes covers places sources tiles n t pins now new at own are is = record {
  count = (let l = ap (λ (ms : List (List Source)). length ms) is in let a = length-append now (pins ∷ []) in let c = are.count in omega arith);
  each = λ m u node c under e there here. by m u node c under e there here (cases m under);
}
  where
    cases : (m : ℕ) → m < n + 1 → (m < n) ⊎ (m ≡ n)
    cases m under = part (cases_lt m n)
      where
        part : (m < n) ⊎ (n ≤ m) → (m < n) ⊎ (m ≡ n)
        part (inl l) = inl l
        part (inr h) = inr (omega arith)

    by : (m : ℕ) (u : NodeTile) (node : Node) (c : Covered) → m < n + 1 → slice_get tiles m ≡ Some u → slice_get nodes u.node ≡ Some node → slice_get covers u.node ≡ Some c → (m < n) ⊎ (m ≡ n) → slice_get new m ≡ Some (tile_sources sources places u node c)
    by m u node c under e there here (inl low) = ap (λ (ms : List (List Source)). slice_get ms m) is ∙ get_more now pins (tile_sources sources places u node c) m (are.each m u node c low e there here)
    by m u node c under e there here (inr same) =
        let tile : t ≡ u = one_at tiles n t u at (ap (slice_get tiles) (sym same) ∙ e) in
        let count = are.count in
        ap (λ (ms : List (List Source)). slice_get ms m) is ∙ get_last now pins m (omega arith)
        ∙ ap (λ (ps : List Source). Some ps) (own node c (ap (λ (x : NodeTile). slice_get nodes x.node) tile ∙ there) (ap (λ (x : NodeTile). slice_get covers x.node) tile ∙ here)
        ∙ ap (λ (x : NodeTile). tile_sources sources places x node c) tile)

-- The modules of the forks of nodes, as they are written into tables.
use Rattle.std.proofs.Common.{ℕ, ◌≡◌, ◌≢◌, ◌<◌, ◌+◌, ◌⊎◌, List, [], length, arith, inl, inr, ap, sym, subst, ◌∙◌, Some, get_or-set_same, get_or-set_other}
use Rattle.std.specs.Prelude.{slice_get, slice_index_or, slice_set}
use Rattle.std.proofs.lemmas.Bool.{cases_eq}
use Rattle.std.proofs.lemmas.List.{length-set}
use Rattle.std.proofs.lemmas.Option.{slice_get_within}
use Rattle.act1_map.specs.declared.covers.Covered.{Covered}
use Rattle.act1_map.specs.declared.tiles.NodeTile.{NodeTile}
use Rattle.act1_map.specs.MapSteps.{AreNodeTiles, ArePlaced, AreTables, place_of}
use Rattle.act1_map.proofs.Gets.{one_at}

-- a write in one table, and what stands in the tables then
abbrev pub written : List (List ℕ) → ℕ → ℕ → ℕ → List (List ℕ)
written places i k m = slice_set places i (slice_set (slice_index_or places i []) k m)

same_entry : (places : List (List ℕ)) (i k m : ℕ) → i < length places → k < length (slice_index_or places i []) → place_of (written places i k m) i k ≡ m
same_entry places i k m low fork =
    ap (λ (table : List ℕ). slice_index_or table k 0) (get_or-set_same places i (slice_set (slice_index_or places i []) k m) [] low) ∙ get_or-set_same (slice_index_or places i []) k m 0 fork

other_node : (places : List (List ℕ)) (i k m j : ℕ) → j ≢ i → slice_index_or (written places i k m) j [] ≡ slice_index_or places j []
other_node places i k m j apart = get_or-set_other places i j (slice_set (slice_index_or places i []) k m) [] apart

other_fork : (places : List (List ℕ)) (i k m l : ℕ) → i < length places → l ≢ k → place_of (written places i k m) i l ≡ place_of places i l
other_fork places i k m l low apart =
    ap (λ (table : List ℕ). slice_index_or table l 0) (get_or-set_same places i (slice_set (slice_index_or places i []) k m) [] low) ∙ get_or-set_other (slice_index_or places i []) k l m 0 apart

-- the entry of another fork, or of another node, is as it was
other_entry : (places : List (List ℕ)) (i k m j l : ℕ) → i < length places → (j ≡ i → l ≡ k → ⊥) → place_of (written places i k m) j l ≡ place_of places j l
other_entry places i k m j l low apart = by (cases_eq j i) (cases_eq l k)
  where
    by : (j ≡ i) ⊎ (j ≢ i) → (l ≡ k) ⊎ (l ≢ k) → place_of (written places i k m) j l ≡ place_of places j l
    by (inr node) f = ap (λ (table : List ℕ). slice_index_or table l 0) (other_node places i k m j node)
    by (inl node) (inl fork) = absurd (apart node fork)
    by (inl node) (inr fork) = ap (λ (n : ℕ). place_of (written places i k m) n l) node ∙ other_fork places i k m l low fork ∙ ap (λ (n : ℕ). place_of places n l) (sym node)

same_length : (places : List (List ℕ)) (i k m j : ℕ) → i < length places → length (slice_index_or (written places i k m) j []) ≡ length (slice_index_or places j [])
same_length places i k m j low = by (cases_eq j i)
  where
    by : (j ≡ i) ⊎ (j ≢ i) → length (slice_index_or (written places i k m) j []) ≡ length (slice_index_or places j [])
    by (inr node) = ap (λ (table : List ℕ). length table) (other_node places i k m j node)
    by (inl node) =
        ap (λ (n : ℕ). length (slice_index_or (written places i k m) n [])) node
        ∙ ap (λ (table : List ℕ). length table) (get_or-set_same places i (slice_set (slice_index_or places i []) k m) [] low)
        ∙ length-set (slice_index_or places i []) k m
        ∙ ap (λ (n : ℕ). length (slice_index_or places n [])) (sym node)

module _ (covers : List Covered) (tiles : List NodeTile) (are : AreNodeTiles covers tiles) where
  -- one tile more has its module
  pub place_written : (n : ℕ) (t : NodeTile) (places new : List (List ℕ)) → slice_get tiles n ≡ Some t → ArePlaced covers tiles n places → new ≡ written places t.node t.tile.fork n → ArePlaced covers tiles (n + 1) new
  place_written n t places new at placed is = subst (λ (ps : List (List ℕ)). ArePlaced covers tiles (n + 1) ps) (sym is) (record {
    tables = record {
      count = length-set places t.node (slice_set (slice_index_or places t.node []) t.tile.fork n) ∙ placed.tables.count;
      each = λ i c e. same_length places t.node t.tile.fork n i node_low ∙ placed.tables.each i c e;
    };
    at = λ m u under e. by m u under e (cases_eq m n);
  })
    where
      here : (c : Covered) × (slice_get covers t.node ≡ Some c) × (t.tile.fork < length c.forest.forks)
      here = let (c, e, stands) = are.stand n t at in (c, e, stands.within)

      node_low : t.node < length places
      node_low = let count = placed.tables.count in let low = slice_get_within covers t.node here.0 here.1 in omega arith

      fork_low : t.tile.fork < length (slice_index_or places t.node [])
      fork_low = let long = placed.tables.each t.node here.0 here.1 in let low = here.2 in omega arith

      by : (m : ℕ) (u : NodeTile) → m < n + 1 → slice_get tiles m ≡ Some u → (m ≡ n) ⊎ (m ≢ n) → place_of (written places t.node t.tile.fork n) u.node u.tile.fork ≡ m
      by m u under e (inl same) =
          let own : u ≡ t = one_at tiles n u t (ap (slice_get tiles) (sym same) ∙ e) at in
          ap (λ (v : NodeTile). place_of (written places t.node t.tile.fork n) v.node v.tile.fork) own ∙ same_entry places t.node t.tile.fork n node_low fork_low ∙ sym same
      by m u under e (inr apart) =
          other_entry places t.node t.tile.fork n u.node u.tile.fork node_low (λ node fork. apart (are.once m n u t e at node fork)) ∙ placed.at m u (omega arith) e

  pub tables_wide : (places : List (List ℕ)) → AreTables covers places → (n : ℕ) (t : NodeTile) → slice_get tiles n ≡ Some t → (t.node < length places) × (t.tile.fork < length (slice_index_or places t.node []))
  tables_wide places tables n t at =
      let (c, e, stands) = are.stand n t at in
      let count = tables.count in
      let low = slice_get_within covers t.node c e in
      let long = tables.each t.node c e in
      let fork = stands.within in (omega arith, omega arith)

-- Rows, sites and nets, as they grow.
use Rattle.std.proofs.Common.{ℕ, ◌≡◌, ◌+◌, List, [], ◌∷◌, ◌++◌, map, sym, ap, ◌∙◌, append_assoc}
use Rattle.std.specs.Prelude.{flat_map}
use Rattle.std.proofs.lemmas.List.{map_push, flat_map_more}
use Rattle.act1_device.specs.declared.device.Device.{Device}
use Rattle.act1_circuit.specs.declared.circuit.Circuit.{Circuit}
use Rattle.act1_circuit.specs.declared.circuit.Source.{Source}
use Rattle.act1_circuit.specs.declared.circuit.Source.TheVariants.{Input, Module}
use Rattle.act1_circuit.specs.declared.circuit.Spot.{Spot}
use Rattle.act1_base.specs.Lists.{numbers}
use Rattle.act1_plan.proofs.OrderLoops.{numbers_more}
use Rattle.act1_place.specs.declared.net.Joins.{Joins}
use Rattle.act1_place.specs.Kept.{joins_of}
use Rattle.act1_place.specs.Passes.{row_of, sites_of}

pub row_next : (before all more : List Spot) (columns row : ℕ) → all ≡ before ++ row_of columns row → (s : Spot) → s ≡ record { row = row; column = columns } → more ≡ all ++ s ∷ [] → more ≡ before ++ row_of (columns + 1) row
row_next before all more columns row e s is grown =
    let f : ℕ → Spot = λ column. let s : Spot = record { row = row; column = column } in s in
    grown ∙ (λ i. e i ++ is i ∷ []) ∙ append_assoc before (row_of columns row) (f columns ∷ [])
    ∙ ap (λ (xs : List Spot). before ++ xs) (sym (ap (map f) (numbers_more columns) ∙ map_push f (numbers 0 columns) columns))

pub sites_next : (rows columns : ℕ) (all more : List Spot) → all ≡ sites_of rows columns → more ≡ all ++ row_of columns rows → more ≡ sites_of (rows + 1) columns
sites_next rows columns all more e grown =
    grown ∙ ap (λ (xs : List Spot). xs ++ row_of columns rows) e
    ∙ flat_map_more (row_of columns) [] (numbers 0 rows) rows ∙ ap (flat_map (row_of columns)) (sym (numbers_more rows))

-- one net more
module _ (dev : Device) (c : Circuit) where
  pub input_next : (n : ℕ) (nets more : List Joins) (net : Joins) → nets ≡ map (joins_of dev c) (map Input (numbers 0 n)) → net ≡ joins_of dev c (Input n) → more ≡ nets ++ net ∷ [] → more ≡ map (joins_of dev c) (map Input (numbers 0 (n + 1)))
  input_next n nets more net e is grown =
      grown ∙ (λ i. e i ++ is i ∷ [])
      ∙ sym (ap (λ (ns : List ℕ). map (joins_of dev c) (map Input ns)) (numbers_more n) ∙ ap (map (joins_of dev c)) (map_push Input (numbers 0 n) n) ∙ map_push (joins_of dev c) (map Input (numbers 0 n)) (Input n))

  pub module_next : (ins : List Source) (n : ℕ) (nets more : List Joins) (net : Joins) → nets ≡ map (joins_of dev c) (ins ++ map Module (numbers 0 n)) → net ≡ joins_of dev c (Module n) → more ≡ nets ++ net ∷ [] → more ≡ map (joins_of dev c) (ins ++ map Module (numbers 0 (n + 1)))
  module_next ins n nets more net e is grown =
      grown ∙ (λ i. e i ++ is i ∷ [])
      ∙ sym (ap (λ (ns : List ℕ). map (joins_of dev c) (ins ++ map Module ns)) (numbers_more n)
      ∙ ap (λ (ss : List Source). map (joins_of dev c) (ins ++ ss)) (map_push Module (numbers 0 n) n)
      ∙ ap (map (joins_of dev c)) (sym (append_assoc ins (map Module (numbers 0 n)) (Module n ∷ [])))
      ∙ map_push (joins_of dev c) (ins ++ map Module (numbers 0 n)) (Module n))

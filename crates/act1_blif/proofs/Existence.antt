-- A netlist has a valuation at each of its states and each of its inputs: the values of all nodes at once, again and again, until no node changes.
use Rattle.std.proofs.Common.{ℕ, suc, zero, ◌≡◌, ◌<◌, ◌≤◌, ◌+◌, ◌-◌, ◌⊎◌, Bool, List, [], ◌∷◌, ◌++◌, length, map, arith, inl, inr, ap, sym, subst, ◌∙◌, Some}
use Rattle.std.specs.Prelude.{Contains, slice_get, slice_index_or}
use Rattle.std.proofs.Math.Logic.{∥∥₁_elim}
use Rattle.std.proofs.Math.Nat.{ℕ_set}
use base.Stored.{Coded-set, coded_bool}
use Rattle.std.specs.Coded.{coded_list}
use mathlib.Core.HLevel.{is_prop→PathP}
use Rattle.act1_logic.specs.Cover.{value_of}
use Rattle.act1_blif.specs.declared.blif.Blif.{Blif}
use Rattle.act1_blif.specs.declared.blif.Node.{Node}
use Rattle.act1_blif.specs.Run.{Fits, node_value, signal}
use Rattle.act1_blif.specs.Rules.{HasLevels}
use Rattle.act1_blif.specs.Laws.{HasOneValuation, EachHasOneValuation}
use Rattle.act1_blif.specs.Graph.{signal_count}
use Rattle.act1_blif.proofs.NetFacts.{node_is, node_inputs}
use Rattle.act1_blif.proofs.OneValuation.{front, back, long, at_node, has_node, map_same, map_nodes, cases, one_valuation}

abbrev total : List ℕ → ℕ
total [] = 0
total (l ∷ ls) = l + total ls

total_above : (ls : List ℕ) (i : ℕ) → slice_index_or ls i 0 ≤ total ls
total_above [] zero = omega arith
total_above [] (suc i) = omega arith
total_above (l ∷ ls) zero = omega arith
total_above (l ∷ ls) (suc i) = let rest = total_above ls i in omega arith

module _ (net : Blif) (q x : List Bool) (state : length q ≡ length net.latches) (given : length x ≡ length net.inputs) (levels : HasLevels net.inputs net.latches net.nodes) where
  abbrev round : ℕ → List Bool
  round zero = x ++ q
  round (suc n) = x ++ q ++ map (node_value (round n)) net.nodes

  given_same : (n m s : ℕ) → s < length net.inputs + length net.latches → signal (round (suc n)) s ≡ signal (round (suc m)) s
  given_same n m s low =
      let whole = long x q in let short : s < length (x ++ q) = omega arith in
      front (x ++ q) (map (node_value (round n)) net.nodes) s short ∙ sym (front (x ++ q) (map (node_value (round m)) net.nodes) s short)

  node_at : (n s j : ℕ) (node : Node) → s ≡ length net.inputs + length net.latches + j → slice_get net.nodes j ≡ Some node → signal (round (suc n)) s ≡ node_value (round n) node
  node_at n s j node e is =
      let whole = long x q in let place : s ≡ length (x ++ q) + j = omega arith in
      back (x ++ q) (map (node_value (round n)) net.nodes) s j place ∙ at_node (node_value (round n)) net.nodes j node is

  same_input : (n i : ℕ) (node : Node) → slice_get net.nodes i ≡ Some node
      → ((j : ℕ) (m : Node) → slice_get net.nodes j ≡ Some m → slice_index_or levels.levels j 0 < slice_index_or levels.levels i 0 → node_value (round n) m ≡ node_value (round (suc n)) m)
      → (s : ℕ) → Contains node.inputs s → (s < length net.inputs + length net.latches) ⊎ (length net.inputs + length net.latches ≤ s) → signal (round (suc n)) s ≡ signal (round (suc (suc n))) s
  same_input n i node is lower s c (inl low) = given_same n (suc n) s low
  same_input n i node is lower s c (inr behind) =
      let j : ℕ = s - (length net.inputs + length net.latches) in
      let e : s ≡ length net.inputs + length net.latches + j = omega arith in
      let within = node_inputs (signal_count net) node (node_is net i node is) s c in
      let there = has_node net.nodes j (omega arith) in
      node_at n s j there.0 e there.1 ∙ lower j there.0 there.1 (levels.above i j node is (subst (λ (t : ℕ). Contains node.inputs t) e c)) ∙ sym (node_at (suc n) s j there.0 e there.1)

  -- after so many rounds the nodes of lower levels no longer change
  stable : (n i : ℕ) (node : Node) → slice_get net.nodes i ≡ Some node → slice_index_or levels.levels i 0 < n → node_value (round n) node ≡ node_value (round (suc n)) node
  stable zero i node is low = absurd (omega arith)
  stable (suc n) i node is low =
      ap (value_of node.cover) (map_same (signal (round (suc n))) (signal (round (suc (suc n)))) node.inputs
      (λ s c. same_input n i node is (λ j m at lower. stable n j m at (omega arith)) s c (cases s (length net.inputs + length net.latches))))

  abbrev last : ℕ
  last = suc (total levels.levels)

  round_fits : Fits net q x (round (suc last))
  round_fits = record {
    inputs = given;
    latches = state;
    values = ap (λ (ys : List Bool). x ++ q ++ ys) (map_nodes (node_value (round last)) (node_value (round (suc last))) net.nodes
        (λ i node is. let low = total_above levels.levels i in stable last i node is (omega arith)));
  }

  pub has_one : HasOneValuation net q x
  has_one = record {
    valuation = round (suc last);
    fits = round_fits;
    only = λ v h. one_valuation net q x v (round (suc last)) h round_fits levels (λ i node is. node_inputs (signal_count net) node (node_is net i node is));
  }

bools_set : IsSet (List Bool)
bools_set = Coded-set (coded_list coded_bool)

one_at_most : (net : Blif) (q x : List Bool) → IsProp (HasOneValuation net q x)
one_at_most net q x a b = λ i. record {
  valuation = same i;
  fits = is_prop→PathP (λ j. Fits net q x (same j)) (λ j. fits_prop (same j)) a.fits b.fits i;
  only = is_prop→PathP (λ j. (w : List Bool) → Fits net q x w → w ≡ same j) (λ j. only_prop (same j)) a.only b.only i;
}
  where
    same : a.valuation ≡ b.valuation
    same = b.only a.valuation a.fits

    fits_prop : (v : List Bool) → IsProp (Fits net q x v)
    fits_prop v = hlevel (ℕ_set, bools_set)

    only_prop : (v : List Bool) → IsProp ((w : List Bool) → Fits net q x w → w ≡ v)
    only_prop v = hlevel (ℕ_set, bools_set)

pub each_has_one : EachHasOneValuation
each_has_one net q x state given = ∥∥₁_elim net.acyclic (one_at_most net q x) (λ levels. has_one net q x state given levels)

-- What the invariant of a netlist says of its parts.
use Rattle.std.proofs.Common.{ℕ, suc, zero, ◌≡◌, ◌<◌, ◌≤◌, ◌&&◌, eqb, Bool, true, false, List, [], ◌∷◌, ◌++◌, length, map, Option, Some, None, get_or, refl, sym, ap, subst, ◌∙◌, arith}
use Rattle.std.specs.Prelude.{Contains, slice_get, nat_lt, nat_le}
use Rattle.std.specs.List.{list_all}
use Rattle.std.proofs.lemmas.Bool.{false≢true}
use Rattle.std.proofs.lemmas.Bool.Decides.{nat_tests}
use Rattle.std.proofs.lemmas.List.{length-append, length-map}
use Rattle.act1_base.specs.Names.{is_name, are_different, are_different_numbers}
use Rattle.act1_base.proofs.ListGets.{get_read}
use Rattle.act1_blif.specs.declared.blif.Blif.{Blif}
use Rattle.act1_blif.specs.declared.blif.Latch.{Latch}
use Rattle.act1_blif.specs.declared.blif.Node.{Node}
use Rattle.act1_blif.specs.Graph.{signal_count}
use Rattle.act1_blif.specs.Rules.{is_latch, is_node, are_names, names_of, with_clock}

pub both : (a b : Bool) → (a && b) ≡ true → (a ≡ true) × (b ≡ true)
both true true e = (refl, refl)
both true false e = absurd (false≢true e)
both false b e = absurd (false≢true e)

pub all_at : {X : Type 0} (p : X → Bool) (xs : List X) (i : ℕ) (x : X) → list_all p xs ≡ true → slice_get xs i ≡ Some x → p x ≡ true
all_at p [] i x h is = cc
all_at p (y ∷ xs) zero x h is = let e : y ≡ x = cc in ap p (sym e) ∙ (both (p y) (list_all p xs) h).0
all_at p (y ∷ xs) (suc i) x h is = all_at p xs i x (both (p y) (list_all p xs) h).1 is

module _ (net : Blif) where
  first_two : (is_name net.model && are_names (with_clock net.clock (names_of net.inputs net.latches net.nodes))
      && list_all (is_latch (signal_count net)) net.latches && list_all (is_node (signal_count net)) net.nodes ≡ true)
  first_two = (both _ (list_all (λ s. nat_lt s (signal_count net)) net.outputs && are_different_numbers net.outputs) net.valid).0

  nodes_are : list_all (is_node (signal_count net)) net.nodes ≡ true
  nodes_are = (both _ (list_all (is_node (signal_count net)) net.nodes) first_two).1

  pub names_are : are_names (with_clock net.clock (names_of net.inputs net.latches net.nodes)) ≡ true
  names_are = (both (is_name net.model) _ (both _ (list_all (is_latch (signal_count net)) net.latches) (both _ (list_all (is_node (signal_count net)) net.nodes) first_two).0).0).1

  latches_are : list_all (is_latch (signal_count net)) net.latches ≡ true
  latches_are = (both _ (list_all (is_latch (signal_count net)) net.latches) (both _ (list_all (is_node (signal_count net)) net.nodes) first_two).0).1

  pub model_is : is_name net.model ≡ true
  model_is = (both (is_name net.model) _ (both _ (list_all (is_latch (signal_count net)) net.latches) (both _ (list_all (is_node (signal_count net)) net.nodes) first_two).0).0).0

  -- the outputs are signals, and differ
  pub outputs_are : (list_all (λ s. nat_lt s (signal_count net)) net.outputs ≡ true) × (are_different_numbers net.outputs ≡ true)
  outputs_are = both (list_all (λ s. nat_lt s (signal_count net)) net.outputs) (are_different_numbers net.outputs) (both _ (list_all (λ s. nat_lt s (signal_count net)) net.outputs && are_different_numbers net.outputs) net.valid).1

  pub latch_is : (k : ℕ) (latch : Latch) → slice_get net.latches k ≡ Some latch → is_latch (signal_count net) latch ≡ true
  latch_is k latch is = all_at (is_latch (signal_count net)) net.latches k latch latches_are is

  pub output_is : (k s : ℕ) → slice_get net.outputs k ≡ Some s → nat_lt s (signal_count net) ≡ true
  output_is k s is = all_at (λ t. nat_lt t (signal_count net)) net.outputs k s outputs_are.0 is

  pub node_is : (j : ℕ) (node : Node) → slice_get net.nodes j ≡ Some node → is_node (signal_count net) node ≡ true
  node_is j node is = all_at (is_node (signal_count net)) net.nodes j node nodes_are is

few_names : (names : List (List ℕ)) → are_names names ≡ true → length names ≤ 65535
few_names names h = let low = (both (list_all is_name names && are_different names) (nat_le (length names) 65535) h).1 in grind (arith, nat_tests)

fewer : (clock : Option (List ℕ)) (names : List (List ℕ)) → length (with_clock clock names) ≤ 65535 → length names ≤ 65535
fewer None names h = h
fewer (Some clock) names h = omega arith

-- there are at most 65,535 signals
pub few_signals : (net : Blif) → signal_count net ≤ 65535
few_signals net =
    let few = fewer net.clock (names_of net.inputs net.latches net.nodes) (few_names _ (names_are net)) in
    omega (arith, length-append (net.inputs ++ map (λ (latch : Latch). latch.name) net.latches) (map (λ (node : Node). node.name) net.nodes), length-append net.inputs (map (λ (latch : Latch). latch.name) net.latches), length-map net.latches (λ (latch : Latch). latch.name), length-map net.nodes (λ (node : Node). node.name))

-- a node's cover has one input for each of its inputs
pub node_width : (n : ℕ) (node : Node) → is_node n node ≡ true → node.cover.width ≡ length node.inputs
node_width n node h = let same = (both (eqb node.cover.width (length node.inputs)) (list_all (λ s. nat_lt s n) node.inputs) h).0 in grind (arith, nat_tests)

pub inside : (n : ℕ) (xs : List ℕ) → list_all (λ s. nat_lt s n) xs ≡ true → (s : ℕ) → Contains xs s → s < n
inside n [] h s c = absurd (omega (arith, c.1))
inside n (x ∷ xs) h s (zero, low, e) = let first : nat_lt x n ≡ true = (both (nat_lt x n) (list_all (λ s. nat_lt s n) xs) h).0 in grind (arith, nat_tests)
inside n (x ∷ xs) h s (suc k, low, e) = inside n xs (both (nat_lt x n) (list_all (λ s. nat_lt s n) xs) h).1 s (k, omega arith, e)

-- its inputs are among the signals
pub node_inputs : (n : ℕ) (node : Node) → is_node n node ≡ true → (s : ℕ) → Contains node.inputs s → s < n
node_inputs n node h = inside n node.inputs (both (eqb node.cover.width (length node.inputs)) (list_all (λ s. nat_lt s n) node.inputs) h).1

-- the node that was read
pub read_node : (net : Blif) (nodes : List Node) (i j : ℕ) (node : Node) → nodes ≡ net.nodes → i ≡ j → i < length nodes → node ≡ get_or nodes i node → slice_get net.nodes j ≡ Some node
read_node net nodes i j node same e low is =
    subst (λ (ns : List Node). slice_get ns j ≡ Some node) same
    (subst (λ (k : ℕ). slice_get nodes k ≡ Some node) e (get_read nodes i node low is))

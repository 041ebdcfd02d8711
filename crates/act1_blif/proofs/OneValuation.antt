-- A netlist without a ring has at most one valuation at each state and each input.
use Rattle.std.proofs.Common.{ℕ, suc, zero, ◌≡◌, ◌<◌, ◌≤◌, ◌+◌, ◌-◌, Bool, false, List, [], ◌∷◌, ◌++◌, length, map, refl, arith, inl, inr, ap, sym, subst, ◌∙◌, Some}
use Rattle.std.specs.Prelude.{Contains, slice_get, slice_index_or, ◌⊎◌}
use Rattle.act1_logic.specs.Cover.{value_of}
use Rattle.act1_blif.specs.declared.blif.Blif.{Blif}
use Rattle.act1_blif.specs.declared.blif.Node.{Node}
use Rattle.act1_blif.specs.Run.{Fits, node_value, signal}
use Rattle.act1_blif.specs.Rules.{HasLevels}

pub front : (a b : List Bool) (s : ℕ) → s < length a → slice_index_or (a ++ b) s false ≡ slice_index_or a s false
front [] b s low = absurd (omega arith)
front (c ∷ a) b zero low = refl
front (c ∷ a) b (suc s) low = front a b s (omega arith)

pub back : (a b : List Bool) (s j : ℕ) → s ≡ length a + j → slice_index_or (a ++ b) s false ≡ slice_index_or b j false
back [] b s j e = let same : s ≡ j = omega arith in ap (λ (k : ℕ). slice_index_or b k false) same
back (c ∷ a) b zero j e = absurd (omega arith)
back (c ∷ a) b (suc s) j e = back a b s j (omega arith)

pub long : (a b : List Bool) → length (a ++ b) ≡ length a + length b
long [] b = omega arith
long (c ∷ a) b = let r = long a b in omega arith

pub at_node : (f : Node → Bool) (nodes : List Node) (j : ℕ) (node : Node) → slice_get nodes j ≡ Some node → slice_index_or (map f nodes) j false ≡ f node
at_node f [] j node e = cc
at_node f (n ∷ nodes) zero node e = cc
at_node f (n ∷ nodes) (suc j) node e = at_node f nodes j node e

pub has_node : (nodes : List Node) (j : ℕ) → j < length nodes → (node : Node) × (slice_get nodes j ≡ Some node)
has_node [] j low = absurd (omega arith)
has_node (n ∷ nodes) zero low = (n, refl)
has_node (n ∷ nodes) (suc j) low = has_node nodes j (omega arith)

pub map_same : (f g : ℕ → Bool) (xs : List ℕ) → ((s : ℕ) → Contains xs s → f s ≡ g s) → map f xs ≡ map g xs
map_same f g [] h = refl
map_same f g (x ∷ xs) h = ap (λ (y : Bool). y ∷ map f xs) (h x (0, omega arith, refl)) ∙ ap (λ (ys : List Bool). g x ∷ ys) (map_same f g xs (λ s c. h s (suc c.0, let low = c.1 in omega arith, c.2)))

pub map_nodes : (f g : Node → Bool) (nodes : List Node) → ((k : ℕ) (node : Node) → slice_get nodes k ≡ Some node → f node ≡ g node) → map f nodes ≡ map g nodes
map_nodes f g [] h = refl
map_nodes f g (n ∷ nodes) h = ap (λ (y : Bool). y ∷ map f nodes) (h 0 n refl) ∙ ap (λ (ys : List Bool). g n ∷ ys) (map_nodes f g nodes (λ k. h (suc k)))

pub cases : (s n : ℕ) → (s < n) ⊎ (n ≤ s)
cases s zero = inr (omega arith)
cases zero (suc n) = inl (omega arith)
cases (suc s) (suc n) = next (cases s n)
  where
    next : (s < n) ⊎ (n ≤ s) → (suc s < suc n) ⊎ (suc n ≤ suc s)
    next (inl h) = inl (omega arith)
    next (inr h) = inr (omega arith)

module _ (net : Blif) (q x v w : List Bool) (h : Fits net q x v) (k : Fits net q x w) (levels : HasLevels net.inputs net.latches net.nodes)
    (in_range : (i : ℕ) (node : Node) → slice_get net.nodes i ≡ Some node → (s : ℕ) → Contains node.inputs s → s < length net.inputs + length net.latches + length net.nodes) where
  same_front : (s : ℕ) → s < length net.inputs + length net.latches → signal v s ≡ signal w s
  same_front s low =
      let whole = long x q in let a = h.inputs in let b = h.latches in let short : s < length (x ++ q) = omega arith in
      ap (λ (u : List Bool). slice_index_or u s false) h.values ∙ front (x ++ q) (map (node_value v) net.nodes) s short
      ∙ sym (ap (λ (u : List Bool). slice_index_or u s false) k.values ∙ front (x ++ q) (map (node_value w) net.nodes) s short)

  at_signal : (u : List Bool) → Fits net q x u → (s j : ℕ) → s ≡ length net.inputs + length net.latches + j → (node : Node) → slice_get net.nodes j ≡ Some node → signal u s ≡ node_value u node
  at_signal u f s j e node is =
      let whole = long x q in let a = f.inputs in let b = f.latches in let place : s ≡ length (x ++ q) + j = omega arith in
      ap (λ (t : List Bool). slice_index_or t s false) f.values ∙ back (x ++ q) (map (node_value u) net.nodes) s j place ∙ at_node (node_value u) net.nodes j node is

  same_input : (i : ℕ) (node : Node) → slice_get net.nodes i ≡ Some node
      → ((j : ℕ) (m : Node) → slice_get net.nodes j ≡ Some m → slice_index_or levels.levels j 0 < slice_index_or levels.levels i 0 → node_value v m ≡ node_value w m)
      → (s : ℕ) → Contains node.inputs s → (s < length net.inputs + length net.latches) ⊎ (length net.inputs + length net.latches ≤ s) → signal v s ≡ signal w s
  same_input i node is lower s c (inl low) = same_front s low
  same_input i node is lower s c (inr behind) =
      let j : ℕ = s - (length net.inputs + length net.latches) in
      let e : s ≡ length net.inputs + length net.latches + j = omega arith in
      let within = in_range i node is s c in
      let there = has_node net.nodes j (omega arith) in
      at_signal v h s j e there.0 there.1 ∙ lower j there.0 there.1 (levels.above i j node is (subst (λ (t : ℕ). Contains node.inputs t) e c)) ∙ sym (at_signal w k s j e there.0 there.1)

  same_node : (n i : ℕ) (node : Node) → slice_get net.nodes i ≡ Some node → slice_index_or levels.levels i 0 < n → node_value v node ≡ node_value w node
  same_node zero i node is low = absurd (omega arith)
  same_node (suc n) i node is low =
      ap (value_of node.cover) (map_same (signal v) (signal w) node.inputs
      (λ s c. same_input i node is (λ j m at lower. same_node n j m at (omega arith)) s c (cases s (length net.inputs + length net.latches))))

  pub one_valuation : v ≡ w
  one_valuation = h.values ∙ ap (λ (ys : List Bool). x ++ q ++ ys) (map_nodes (node_value v) (node_value w) net.nodes (λ i node is. same_node (suc (slice_index_or levels.levels i 0)) i node is (omega arith))) ∙ sym k.values

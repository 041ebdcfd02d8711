-- What a valuation that fits has at each signal.
use Rattle.std.proofs.Common.{ℕ, suc, zero, ◌≡◌, ◌<◌, ◌≤◌, ◌+◌, Bool, false, List, [], ◌∷◌, ◌++◌, length, map, refl, sym, ap, ◌∙◌, Some, arith}
use Rattle.std.specs.Prelude.{Contains, slice_get, slice_index_or}
use Rattle.act1_blif.specs.declared.blif.Blif.{Blif}
use Rattle.act1_blif.specs.declared.blif.Node.{Node}
use Rattle.act1_blif.specs.Graph.{first_node}
use Rattle.act1_blif.specs.Run.{Fits, node_value, signal}

pub long : (a b : List Bool) → length (a ++ b) ≡ length a + length b
long [] b = omega arith
long (c ∷ a) b = let r = long a b in omega arith

pub back : (a b : List Bool) (s j : ℕ) → s ≡ length a + j → slice_index_or (a ++ b) s false ≡ slice_index_or b j false
back [] b s j e = let same : s ≡ j = omega arith in ap (λ (k : ℕ). slice_index_or b k false) same
back (c ∷ a) b zero j e = absurd (omega arith)
back (c ∷ a) b (suc s) j e = back a b s j (omega arith)

pub at_node : (f : Node → Bool) (nodes : List Node) (j : ℕ) (node : Node) → slice_get nodes j ≡ Some node → slice_index_or (map f nodes) j false ≡ f node
at_node f [] j node e = cc
at_node f (n ∷ nodes) zero node e = cc
at_node f (n ∷ nodes) (suc j) node e = at_node f nodes j node e

-- a node's signal has the node's value
pub fits_at : (b : Blif) (q x v : List Bool) → Fits b q x v → (j : ℕ) (node : Node) → slice_get b.nodes j ≡ Some node → signal v (first_node b + j) ≡ node_value v node
fits_at b q x v fits j node is =
    let l = fits.inputs in let m = fits.latches in let k = long x q in
    ap (λ (ys : List Bool). signal ys (first_node b + j)) fits.values ∙ back (x ++ q) (map (node_value v) b.nodes) (first_node b + j) j (omega arith) ∙ at_node (node_value v) b.nodes j node is

pub length_map : {X Y : Type 0} (f : X → Y) (xs : List X) → length (map f xs) ≡ length xs
length_map f [] = refl
length_map f (x ∷ xs) = ap suc (length_map f xs)

pub map_same : {Y : Type 0} (f g : ℕ → Y) (xs : List ℕ) → ((s : ℕ) → Contains xs s → f s ≡ g s) → map f xs ≡ map g xs
map_same f g [] h = refl
map_same {Y} f g (x ∷ xs) h = ap (λ (y : Y). y ∷ map f xs) (h x (0, omega arith, refl)) ∙ ap (λ (ys : List Y). g x ∷ ys) (map_same f g xs (λ s c. h s (suc c.0, let low = c.1 in omega arith, c.2)))

pub map_map : {Y Z : Type 0} (f : Y → Z) (g : ℕ → Y) (xs : List ℕ) → map f (map g xs) ≡ map (λ x. f (g x)) xs
map_map f g [] = refl
map_map {Y} {Z} f g (x ∷ xs) = ap (λ (zs : List Z). f (g x) ∷ zs) (map_map f g xs)

-- A netlist has one least count: a cover has one forest.
use Rattle.std.proofs.Common.{ℕ, ◌≡◌, ◌<◌, List, [], ◌∷◌, length, Some, refl, sym, ap, subst, ◌∙◌, inl, inr, arith}
use Rattle.std.specs.Prelude.{slice_get, slice_index_or}
use Rattle.std.specs.List.{AllZip}
use Rattle.std.proofs.lemmas.List.{same_lists}
use Rattle.std.proofs.lemmas.Option.{slice_get_within, get_or_from_slice_get}
use Rattle.act1_blif.specs.declared.blif.Node.{Node}
use Rattle.act1_logic.specs.declared.cover.Cover.{Cover}
use Rattle.act1_cover.specs.declared.forest.Forest.{Forest}
use Rattle.act1_cover.specs.declared.forest.Fork.{Fork}
use Rattle.act1_cover.specs.declared.forest.Term.{Term}
use Rattle.act1_cover.specs.declared.forest.Term.TheVariants as term
use Rattle.act1_cover.specs.Denotes.{IsForestOfCover, chain_of, diagram_of}
use Rattle.act1_cover.specs.Forests.{Tree, never, always, input, fork, forks_in, first_ones, Stands, IsForestOf}
use Rattle.act1_cover.specs.Least.{IsLeastTiling}
use Rattle.act1_cover.specs.Tilings.{total}
use Rattle.act1_cover.proofs.Denoting.{stands_one}
use Rattle.act1_cover.proofs.TreeLists.{one_place, ones_differ}
use Rattle.act1_map.specs.Least.{IsLeastOfNode, LeastIsOne}
use Rattle.act1_map.proofs.Gets.{some_within}

fork_number : (k j : ℕ) → term.Fork k ≡ term.Fork j → k ≡ j
fork_number k j e = cc

-- the fork that stands for a tree has the tree's place among the trees of the forks
placed : (tree : Tree) (forest : Forest) → IsForestOf tree forest → (t : Tree) (k : ℕ) → k < length forest.forks → Stands forest (term.Fork k) t → slice_get (first_ones (forks_in tree)) k ≡ Some t
placed tree forest of t k low st =
    let own = some_within (first_ones (forks_in tree)) k (let c = of.count in omega arith) in
    own.1 ∙ ap Some (stands_one forest (term.Fork k) own.0 t (of.forks k own.0 own.1) st)

module _ (tree : Tree) (f g : Forest) (one : IsForestOf tree f) (other : IsForestOf tree g) where
  abbrev ones : List Tree
  ones = first_ones (forks_in tree)

  -- the same term stands for a tree in both
  same_term : (t : Tree) (e d : Term) → Stands f e t → Stands g d t → e ≡ d
  same_term never e d h k = h ∙ sym k
  same_term always e d h k = h ∙ sym k
  same_term (input v) e d h k = h ∙ sym k
  same_term (fork v a b) e d (k, x, is, at, var, low, high) (j, y, is2, at2, var2, low2, high2) =
      let left = placed tree f one (fork v a b) k (slice_get_within f.forks k x at) (k, x, refl, at, var, low, high) in
      let right = placed tree g other (fork v a b) j (slice_get_within g.forks j y at2) (j, y, refl, at2, var2, low2, high2) in
      is ∙ ap term.Fork (one_place ones (fork v a b) k j (ones_differ (forks_in tree)) left right) ∙ sym is2

  same_parts : (x y : Fork) → x.var ≡ y.var → x.low ≡ y.low → x.high ≡ y.high → x ≡ y
  same_parts x y v l h = λ i. record { var = v i; low = l i; high = h i }

  same_fork : (k : ℕ) (t : Tree) (d : Fork) → Stands f (term.Fork k) t → Stands g (term.Fork k) t → slice_index_or f.forks k d ≡ slice_index_or g.forks k d
  same_fork k never d h m = cc
  same_fork k always d h m = cc
  same_fork k (input v) d h m = cc
  same_fork k (fork v a b) d (i, x, is, at, var, low, high) (j, y, is2, at2, var2, low2, high2) =
      let here = fork_number k i is in
      let there = fork_number k j is2 in
      ap (λ (n : ℕ). slice_index_or f.forks n d) here ∙ get_or_from_slice_get f.forks i x d at
      ∙ same_parts x y (var ∙ sym var2) (same_term a x.low y.low low low2) (same_term b x.high y.high high high2)
      ∙ sym (ap (λ (n : ℕ). slice_index_or g.forks n d) there ∙ get_or_from_slice_get g.forks j y d at2)

  same_forks : f.forks ≡ g.forks
  same_forks = same_lists f.forks g.forks (one.count ∙ sym other.count) (λ k d low.
      let own = some_within ones k (let c = one.count in omega arith) in
      same_fork k own.0 d (one.forks k own.0 own.1) (other.forks k own.0 own.1))

  pub same_forest : f ≡ g
  same_forest =
      let forks = same_forks in
      let root = same_term tree f.root g.root one.root other.root in
      λ i. record { forks = forks i; root = root i }

forest_of_cover : (cover : Cover) (f g : Forest) → IsForestOfCover cover f → IsForestOfCover cover g → f ≡ g
forest_of_cover cover f g (inl (few, is)) (inl (few2, is2)) = same_forest (diagram_of cover) f g is is2
forest_of_cover cover f g (inl (few, is)) (inr (k, low, over, is2)) = absurd (few k low over)
forest_of_cover cover f g (inr (k, low, over, is)) (inl (few, is2)) = absurd (few k low over)
forest_of_cover cover f g (inr (k, low, over, is)) (inr (j, low2, over2, is2)) = same_forest (chain_of cover) f g is is2

node_count : (node : Node) (j k : ℕ) → IsLeastOfNode node j → IsLeastOfNode node k → j ≡ k
node_count node j k h g =
    let same = forest_of_cover node.cover h.forest g.forest h.forest_is g.forest_is in
    let here : IsLeastTiling g.forest h.tiles = subst (λ (f : Forest). IsLeastTiling f h.tiles) same h.least in
    let one = here.least g.tiles g.least.tiling in
    let other = g.least.least h.tiles here.tiling in
    let e = h.count_is in let d = g.count_is in omega arith

counts_same : (nodes : List Node) (js ks : List ℕ) → AllZip IsLeastOfNode nodes js → AllZip IsLeastOfNode nodes ks → total (λ (count : ℕ). count) js ≡ total (λ (count : ℕ). count) ks
counts_same [] [] [] h g = refl
counts_same [] [] (k ∷ ks) h g = absurd g
counts_same [] (j ∷ js) ks h g = absurd h
counts_same (node ∷ nodes) [] ks h g = absurd h
counts_same (node ∷ nodes) (j ∷ js) [] h g = absurd g
counts_same (node ∷ nodes) (j ∷ js) (k ∷ ks) h g = let first = node_count node j k h.0 g.0 in let rest = counts_same nodes js ks h.1 g.1 in omega arith

pub least_is_one : LeastIsOne
least_is_one b j k h g = let same = counts_same b.nodes h.counts g.counts h.each g.each in let e = h.is in let d = g.is in omega arith

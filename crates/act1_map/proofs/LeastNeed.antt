-- The least count is at most the need.
use Rattle.std.proofs.Common.{ℕ, ◌⊎◌, ◌<◌, ◌≤◌, List, [], ◌∷◌, length, ap, inl, inr, arith}
use Rattle.std.specs.Prelude.{sum_by}
use Rattle.std.specs.List.{AllZip}
use Rattle.std.proofs.Math.Seq.{take-length}
use Rattle.std.proofs.lemmas.Bool.{cases_lt}
use Rattle.std.proofs.lemmas.List.Sums.{sum_by-cons}
use Rattle.act1_blif.specs.declared.blif.Node.{Node}
use Rattle.act1_logic.specs.declared.cover.Cover.{Cover}
use Rattle.act1_logic.specs.declared.cover.Row.{Row}
use Rattle.act1_logic.specs.Cover.{value_of}
use Rattle.act1_logic.specs.Rows.{literals_of}
use Rattle.act1_dd.specs.Limit.{first_rows, rows_function}
use Rattle.act1_cover.specs.declared.forest.Forest.{Forest}
use Rattle.act1_cover.specs.Denotes.{ChainsAreFew, ForestsDenote, IsForestOfCover, IsOver, diagram_of}
use Rattle.act1_cover.specs.Forests.{IsForestOf}
use Rattle.act1_cover.specs.Least.{LeastIsFew}
use Rattle.act1_cover.specs.Tilings.{total}
use Rattle.act1_map.specs.Least.{IsLeastOfNode, LeastIsAtMostNeed}
use Rattle.act1_map.proofs.DiagramForks.{more_forks}

-- a diagram that is within the limit has no more forks than the cover has literals
diagram_is_few : (cover : Cover) (forest : Forest) → (IsOver cover (length cover.rows) → ⊥) → IsForestOf (diagram_of cover) forest → length forest.forks ≤ literals_of cover.rows
diagram_is_few cover forest few is = by (cases_lt (literals_of cover.rows) (length forest.forks))
  where
    by : (literals_of cover.rows < length forest.forks) ⊎ (length forest.forks ≤ literals_of cover.rows) → length forest.forks ≤ literals_of cover.rows
    by (inr low) = low
    by (inl high) =
        let count = is.count in
        absurd (few (more_forks cover.width (value_of cover) (first_rows cover (length cover.rows))
        (λ y. ap (λ (rows : List Row). rows_function cover.width cover.output rows y) (take-length cover.rows))
        (literals_of cover.rows) (omega arith)))

forest_is_few : ChainsAreFew → (cover : Cover) (forest : Forest) → IsForestOfCover cover forest → length forest.forks ≤ literals_of cover.rows
forest_is_few chains cover forest (inl (few, is)) = diagram_is_few cover forest (few (length cover.rows) (omega arith)) is
forest_is_few chains cover forest (inr (k, low, over, is)) = chains cover forest is

node_is_few : ForestsDenote → LeastIsFew → ChainsAreFew → (node : Node) (count : ℕ) → IsLeastOfNode node count → count ≤ literals_of node.cover.rows
node_is_few denote few chains node count h =
    let is = (denote node.cover h.forest h.forest_is).0 in
    let a = few h.forest is h.tiles h.least in
    let b = forest_is_few chains node.cover h.forest h.forest_is in
    let e = h.count_is in omega arith

nodes_are_few : ForestsDenote → LeastIsFew → ChainsAreFew → (nodes : List Node) (counts : List ℕ) → AllZip IsLeastOfNode nodes counts
    → total (λ (count : ℕ). count) counts ≤ sum_by (λ (node : Node). literals_of node.cover.rows) nodes
nodes_are_few denote few chains [] [] h = omega arith
nodes_are_few denote few chains [] (k ∷ ks) h = absurd h
nodes_are_few denote few chains (node ∷ nodes) [] h = absurd h
nodes_are_few denote few chains (node ∷ nodes) (k ∷ ks) h =
    let first = node_is_few denote few chains node k h.0 in
    let rest = nodes_are_few denote few chains nodes ks h.1 in
    let s = sum_by-cons (λ (n : Node). literals_of n.cover.rows) node nodes in omega arith

pub least_is_at_most_need : ForestsDenote → LeastIsFew → ChainsAreFew → LeastIsAtMostNeed
least_is_at_most_need denote few chains b k h = let n = nodes_are_few denote few chains b.nodes h.counts h.each in let e = h.is in omega arith

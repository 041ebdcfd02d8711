-- Which forest a cover has, and that it has the cover's value.
use Rattle.std.specs.Prelude.{ℕ, ◌≤◌, ◌≡◌, ◌⊎◌, Bool, List, length}
use Rattle.act1_logic.specs.declared.cover.Cover.{Cover}
use Rattle.act1_logic.specs.Cover.{value_of}
use Rattle.act1_logic.specs.Rows.{literals_of}
use Rattle.act1_dd.specs.Forks.{HasMoreForks}
use Rattle.act1_dd.specs.Limit.{first_rows}
use Rattle.act1_cover.specs.declared.forest.Forest.{Forest}
use Rattle.act1_cover.specs.declared.forest.Term.{Term}
use Rattle.act1_cover.specs.Forests.{Tree, diagram, chain, IsForestOf}
use Rattle.act1_cover.specs.Values.{AreValues}
use Rattle.act1_cover.specs.Least.{IsForest}

-- the reduced ordered diagram of the cover, and the chain of its literals
abbrev pub diagram_of : Cover → Tree
diagram_of cover = diagram cover.width 0 (value_of cover)

abbrev pub chain_of : Cover → Tree
chain_of cover = chain cover.output cover.rows

-- the diagram of the first k rows has more forks than the whole cover has literals; forks of single inputs count
abbrev pub IsOver : Cover → ℕ → Type 0
IsOver cover k = HasMoreForks (first_rows cover k) (literals_of cover.rows)

-- the forest of a cover: that of its diagram, where no number of first rows has too many forks, and else that of its chain
abbrev pub IsForestOfCover : Cover → Forest → Type 0
IsForestOfCover cover forest =
    (((k : ℕ) → k ≤ length cover.rows → ¬ IsOver cover k) × IsForestOf (diagram_of cover) forest)
    ⊎ ((k : ℕ) × (k ≤ length cover.rows) × IsOver cover k × IsForestOf (chain_of cover) forest)

-- at all inputs the value of its root is the cover's
abbrev pub HasValueOf : Cover → Forest → Type 0
HasValueOf cover forest = (ys : List Bool) (value : Term → Bool) → length ys ≡ cover.width → AreValues forest ys value → value forest.root ≡ value_of cover ys

-- the forest of a cover is one whose forks depend on lower ones, and its value is the cover's
abbrev pub ForestsDenote : Type 0
ForestsDenote = (cover : Cover) (forest : Forest) → IsForestOfCover cover forest → IsForest forest × HasValueOf cover forest

-- a chain has at most as many forks as its cover has literals
abbrev pub ChainsAreFew : Type 0
ChainsAreFew = (cover : Cover) (forest : Forest) → IsForestOf (chain_of cover) forest → length forest.forks ≤ literals_of cover.rows

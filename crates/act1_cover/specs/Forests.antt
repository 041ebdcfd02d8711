-- The forest of a cover: its reduced ordered diagram, or the chain of its literals.
use Rattle.std.specs.Prelude.{ℕ, zero, suc, ◌≡◌, ◌==◌, ◌&&◌, not, Bool, true, false, if◌then◌else◌, List, [], ◌∷◌, ◌++◌, length, filter, Some, slice_get, slice_index_or}
use Rattle.act1_logic.specs.declared.cover.Mark.{Mark}
use Rattle.act1_logic.specs.declared.cover.Mark.TheVariants as mark
use Rattle.act1_logic.specs.declared.cover.Row.{Row}
use Rattle.act1_cover.specs.declared.forest.Forest.{Forest}
use Rattle.act1_cover.specs.declared.forest.Fork.{Fork}
use Rattle.act1_cover.specs.declared.forest.Term.{Term}
use Rattle.act1_cover.specs.declared.forest.Term.TheVariants as term

-- a term written out: a constant, an input, or a fork with both parts
pub data Tree : Type 0 where
  never : Tree
  always : Tree
  input : ℕ → Tree
  fork : ℕ → Tree → Tree → Tree

-- two trees are the same
abbrev pub is_same_tree : Tree → Tree → Bool
is_same_tree never never = true
is_same_tree never always = false
is_same_tree never (input j) = false
is_same_tree never (fork w c d) = false
is_same_tree always never = false
is_same_tree always always = true
is_same_tree always (input j) = false
is_same_tree always (fork w c d) = false
is_same_tree (input k) never = false
is_same_tree (input k) always = false
is_same_tree (input k) (input j) = k == j
is_same_tree (input k) (fork w c d) = false
is_same_tree (fork v a b) never = false
is_same_tree (fork v a b) always = false
is_same_tree (fork v a b) (input j) = false
is_same_tree (fork v a b) (fork w c d) = (v == w) && is_same_tree a c && is_same_tree b d

-- the constant
abbrev pub constant : Bool → Tree
constant true = always
constant false = never

-- a fork whose parts are the same is that part, and one of 0 and 1 is the input itself
abbrev pub fork_of : ℕ → Tree → Tree → Tree
fork_of v low high = if is_same_tree low high then low else (if is_same_tree low never && is_same_tree high always then input v else fork v low high)

-- the value of a tree
abbrev pub tree_value : List Bool → Tree → Bool
tree_value xs never = false
tree_value xs always = true
tree_value xs (input v) = slice_index_or xs v false
tree_value xs (fork v low high) = if slice_index_or xs v false then tree_value xs high else tree_value xs low

-- the reduced ordered diagram of a function of n inputs, the first of which is numbered v
abbrev pub diagram : ℕ → ℕ → (List Bool → Bool) → Tree
diagram zero v f = constant (f [])
diagram (suc n) v f = fork_of v (diagram n (suc v) (λ ys. f (false ∷ ys))) (diagram n (suc v) (λ ys. f (true ∷ ys)))

-- at a literal of the input v, a match goes to the rest of the row, and a mismatch to another tree
abbrev pub with_mark : ℕ → Mark → Tree → Tree → Tree
with_mark v mark.Dash rest next = rest
with_mark v mark.One rest next = fork_of v next rest
with_mark v mark.Zero rest next = fork_of v rest next

-- the literals of a row, the first mark of which is of the input v
abbrev pub row_chain : Tree → Tree → ℕ → List Mark → Tree
row_chain matched next v [] = matched
row_chain matched next v (m ∷ marks) = with_mark v m (row_chain matched next (suc v) marks) next

-- the chain of the literals of all rows
abbrev pub chain : Bool → List Row → Tree
chain output [] = constant (not output)
chain output (row ∷ rows) = row_chain (constant output) (chain output rows) 0 row.marks

-- the forks of a tree in the order of a visit: a fork, those of its low part, those of its high part
abbrev pub forks_in : Tree → List Tree
forks_in never = []
forks_in always = []
forks_in (input v) = []
forks_in (fork v low high) = fork v low high ∷ forks_in low ++ forks_in high

-- each of the trees once, in the order in which they first stand there
abbrev pub first_ones : List Tree → List Tree
first_ones [] = []
first_ones (t ∷ ts) = t ∷ filter (λ u. not (is_same_tree t u)) (first_ones ts)

-- the term of a forest stands for the tree
abbrev pub Stands : Forest → Term → Tree → Type 0
Stands forest t never = t ≡ term.Zero
Stands forest t always = t ≡ term.One
Stands forest t (input v) = t ≡ term.Var v
Stands forest t (fork v a b) = (k : ℕ) × (f : Fork) × (t ≡ term.Fork k) × (slice_get forest.forks k ≡ Some f) × (f.var ≡ v) × Stands forest f.low a × Stands forest f.high b

-- the forks of the forest are the different forks of the tree, numbered in the order of the first visit
pub record IsForestOf (tree : Tree) (forest : Forest) : Type 0 where
  pub root : Stands forest forest.root tree
  pub count : length forest.forks ≡ length (first_ones (forks_in tree))
  pub forks : (k : ℕ) (t : Tree) → slice_get (first_ones (forks_in tree)) k ≡ Some t → Stands forest (term.Fork k) t

-- A store of forks, each with older parts, and the tree that a ref of it is. Decision diagrams are such a store, and so are the forks of a literal chain.
use Rattle.std.specs.Prelude.{ℕ, ◌≡◌, ◌≢◌, ◌≤◌, Bool, true, false, List, [], ◌∷◌, ◌++◌, Some, slice_get, slice_index_or}
use Rattle.act1_dd.specs.declared.refs.Ref.{Ref}
use Rattle.act1_dd.specs.declared.refs.Ref.TheVariants.{Zero, One, Node}
use Rattle.act1_dd.specs.declared.refs.Branch.{Branch}
use Rattle.act1_dd.specs.Diagram.{IsRef, size_of}
use Rattle.act1_cover.specs.Forests.{Tree, never, always, fork_of}

-- the tree of a ref, where those of the forks are known
abbrev pub tree_by : List Tree → Ref → Tree
tree_by known Zero = never
tree_by known One = always
tree_by known (Node k) = slice_index_or known k never

abbrev pub tree_of_branch : List Tree → Branch → Tree
tree_of_branch known b = fork_of b.var (tree_by known b.low) (tree_by known b.high)

-- the trees of all forks, each from those of the forks before it
abbrev pub trees_after : List Tree → List Branch → List Tree
trees_after known [] = known
trees_after known (b ∷ bs) = trees_after (known ++ tree_of_branch known b ∷ []) bs

-- the tree of a ref
unfoldable pub tree_of : List Branch → Ref → Tree
tree_of store r = tree_by (trees_after [] store) r

-- the parts of a fork are older than it and differ, and no two forks are alike
pub record IsStore (store : List Branch) : Type 0 where
  pub older : (k : ℕ) (b : Branch) → slice_get store k ≡ Some b → (size_of b.low ≤ k) × (size_of b.high ≤ k)
  pub differ : (k : ℕ) (b : Branch) → slice_get store k ≡ Some b → b.low ≢ b.high
  pub once : (j k : ℕ) (b : Branch) → slice_get store j ≡ Some b → slice_get store k ≡ Some b → j ≡ k

-- refs stay refs and keep their trees
pub record KeepsTrees (old new : List Branch) : Type 0 where
  pub refs : (r : Ref) → IsRef old r → IsRef new r
  pub trees : (r : Ref) → IsRef old r → tree_of new r ≡ tree_of old r

-- the ref has this tree in a store that keeps what the old one had
pub record Draws (old new : List Branch) (r : Ref) (tree : Tree) : Type 0 where
  pub store : IsStore new
  pub keeps : KeepsTrees old new
  pub ref : IsRef new r
  pub drawn : tree_of new r ≡ tree

-- the fork is a single input
abbrev pub are_input : Ref → Ref → Bool
are_input Zero Zero = false
are_input Zero One = true
are_input Zero (Node k) = false
are_input One high = false
are_input (Node j) high = false

abbrev pub is_input : Branch → Bool
is_input b = are_input b.low b.high

-- the fork of a number
abbrev pub no_branch : Branch
no_branch = record { var = 0; low = Zero; high = Zero }

abbrev pub branch_at : List Branch → ℕ → Branch
branch_at store k = slice_index_or store k no_branch

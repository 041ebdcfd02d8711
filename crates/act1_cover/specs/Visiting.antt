-- The walk over a store in the order of the first visit: the forks that were found, by their numbers, and the refs that are still to be visited, of which the last one is next.
use Rattle.std.specs.Prelude.{ℕ, ◌≡◌, Bool, true, false, List, [], ◌∷◌, ◌++◌, map, Some, Contains, slice_get, nat_eq}
use Rattle.std.specs.List.{list_any}
use Rattle.act1_dd.specs.declared.refs.Ref.{Ref}
use Rattle.act1_dd.specs.declared.refs.Ref.TheVariants.{Zero, One, Node}
use Rattle.act1_dd.specs.declared.refs.Branch.{Branch}
use Rattle.act1_cover.specs.declared.forest.Fork.{Fork}
use Rattle.act1_cover.specs.declared.forest.Term.{Term}
use Rattle.act1_cover.specs.declared.forest.Term.TheVariants as term
use Rattle.act1_cover.specs.Forests.{forks_in, first_ones}
use Rattle.act1_cover.specs.Stores.{tree_of, is_input, branch_at}

abbrev pub is_found : List ℕ → ℕ → Bool
is_found found k = list_any (nat_eq k) found

-- a new fork that is no single input goes last among those found, and its parts are visited next, the low one first
abbrev pub found_by : Bool → Bool → ℕ → List ℕ → List ℕ
found_by true old k found = found
found_by false true k found = found
found_by false false k found = found ++ k ∷ []

abbrev pub stack_by : Bool → Bool → Branch → List Ref → List Ref
stack_by true old b stack = stack
stack_by false true b stack = stack
stack_by false false b stack = stack ++ b.high ∷ b.low ∷ []

-- what a visit of a ref leaves
abbrev pub found_after : List Branch → Ref → List ℕ → List ℕ
found_after store Zero found = found
found_after store One found = found
found_after store (Node k) found = found_by (is_input (branch_at store k)) (is_found found k) k found

abbrev pub stack_after : List Branch → Ref → List ℕ → List Ref → List Ref
stack_after store Zero found stack = stack
stack_after store One found stack = stack
stack_after store (Node k) found stack = stack_by (is_input (branch_at store k)) (is_found found k) (branch_at store k) stack

-- a constant, a single input, or one of the forks that were found
abbrev pub IsFound : List Branch → List ℕ → Ref → Type 0
IsFound store found Zero = Unit {0}
IsFound store found One = Unit {0}
IsFound store found (Node k) = is_input (branch_at store k) ≡ false → Contains found k

-- the forks under the root are found, in the order of the first visit
pub record AreVisited (store : List Branch) (root : Ref) (found : List ℕ) : Type 0 where
  pub trees : map (λ k. tree_of store (Node k)) found ≡ first_ones (forks_in (tree_of store root))
  pub forks : (i k : ℕ) → slice_get found i ≡ Some k → (b : Branch) × (slice_get store k ≡ Some b) × (is_input b ≡ false)
  pub root_found : IsFound store found root
  pub parts_found : (i k : ℕ) (b : Branch) → slice_get found i ≡ Some k → slice_get store k ≡ Some b → IsFound store found b.low × IsFound store found b.high

-- the term of a fork: its input, where it is a single one, and else its place among those found
abbrev pub IsTermBy : Bool → ℕ → List ℕ → ℕ → Term → Type 0
IsTermBy true v found k t = t ≡ term.Var v
IsTermBy false v found k t = (i : ℕ) × (slice_get found i ≡ Some k) × (t ≡ term.Fork i)

-- the term of a ref
abbrev pub IsTermOf : List Branch → List ℕ → Ref → Term → Type 0
IsTermOf store found Zero t = t ≡ term.Zero
IsTermOf store found One t = t ≡ term.One
IsTermOf store found (Node k) t = IsTermBy (is_input (branch_at store k)) (branch_at store k).var found k t

-- the fork of a forest that stands for a fork of the store
pub record IsForkFor (store : List Branch) (found : List ℕ) (k : ℕ) (fork : Fork) : Type 0 where
  pub var : fork.var ≡ (branch_at store k).var
  pub low : IsTermOf store found (branch_at store k).low fork.low
  pub high : IsTermOf store found (branch_at store k).high fork.high

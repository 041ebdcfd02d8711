-- What a list of forks means, the oldest first: the value of a ref at inputs, and the rules of reduced ordered diagrams.
use Rattle.std.specs.Prelude.{ℕ, ◌≡◌, ◌≢◌, ◌<◌, ◌≤◌, ◌+◌, Bool, true, false, if◌then◌else◌, List, [], ◌∷◌, ◌++◌, length, slice_get, slice_index_or, Some}
use Rattle.act1_dd.specs.declared.refs.Ref.{Ref}
use Rattle.act1_dd.specs.declared.refs.Ref.TheVariants.{Zero, One, Node}
use Rattle.act1_dd.specs.declared.refs.Branch.{Branch}
use Rattle.act1_dd.specs.Inputs.{Inputs, Function, with_input}

-- the value of a ref, where the values of the forks are known
abbrev pub value_by : List Bool → Ref → Bool
value_by known Zero = false
value_by known One = true
value_by known (Node k) = slice_index_or known k false

-- the value of a fork: that of its high part where its variable is 1, and that of its low part where it is 0
abbrev pub value_of_branch : Inputs → List Bool → Branch → Bool
value_of_branch x known b = if x b.var then value_by known b.high else value_by known b.low

-- the values of all forks, each from the values of those before it
abbrev pub values_after : Inputs → List Bool → List Branch → List Bool
values_after x known [] = known
values_after x known (b ∷ bs) = values_after x (known ++ value_of_branch x known b ∷ []) bs

-- the value of a ref at inputs
unfoldable pub value_at : List Branch → Ref → Function
value_at forks r x = value_by (values_after x [] forks) r

-- a constant, or the number of a fork
abbrev pub IsRef : List Branch → Ref → Type 0
IsRef forks Zero = Unit {0}
IsRef forks One = Unit {0}
IsRef forks (Node k) = k < length forks

-- the number of a fork plus one, and 0 for a constant; it falls from a fork to its parts
abbrev pub size_of : Ref → ℕ
size_of Zero = 0
size_of One = 0
size_of (Node k) = k + 1

-- a constant, or a fork whose variable is v or a later one
abbrev pub IsFrom : List Branch → ℕ → Ref → Type 0
IsFrom forks v Zero = Unit {0}
IsFrom forks v One = Unit {0}
IsFrom forks v (Node k) = (b : Branch) → slice_get forks k ≡ Some b → v ≤ b.var

-- reduced ordered diagrams: parts are older than their fork, variables rise from a fork to its parts, the parts of a fork differ, and no two forks are alike
pub record IsReduced (forks : List Branch) : Type 0 where
  pub older : (k : ℕ) (b : Branch) → slice_get forks k ≡ Some b → (size_of b.low ≤ k) × (size_of b.high ≤ k)
  pub rise : (k : ℕ) (b : Branch) → slice_get forks k ≡ Some b → IsFrom forks (b.var + 1) b.low × IsFrom forks (b.var + 1) b.high
  pub differ : (k : ℕ) (b : Branch) → slice_get forks k ≡ Some b → b.low ≢ b.high
  pub once : (j k : ℕ) (b : Branch) → slice_get forks j ≡ Some b → slice_get forks k ≡ Some b → j ≡ k

-- the ref itself, and the parts of each fork that is under it
pub data IsUnder (forks : List Branch) (f : Ref) : Ref → Type 0 where
  itself : (r : Ref) → f ≡ r → IsUnder forks f r
  low_of : (k : ℕ) (b : Branch) (r : Ref) → slice_get forks k ≡ Some b → b.low ≡ r → IsUnder forks f (Node k) → IsUnder forks f r
  high_of : (k : ℕ) (b : Branch) (r : Ref) → slice_get forks k ≡ Some b → b.high ≡ r → IsUnder forks f (Node k) → IsUnder forks f r

-- refs stay refs and keep their value, and forks keep their parts
pub record Keeps (old new : List Branch) : Type 0 where
  pub refs : (r : Ref) → IsRef old r → IsRef new r
  pub values : (r : Ref) → IsRef old r → (x : Inputs) → value_at new r x ≡ value_at old r x
  pub branches : (k : ℕ) (b : Branch) → slice_get old k ≡ Some b → slice_get new k ≡ Some b

-- the value is that of the second where the first is 1, and that of the third where it is 0
abbrev pub IsChoice : List Branch → Ref → Ref → Ref → Ref → Type 0
IsChoice forks f g h r = (x : Inputs) → value_at forks r x ≡ (if value_at forks f x then value_at forks g x else value_at forks h x)

-- the value is that of f with this value for the variable
abbrev pub IsRestriction : List Branch → Ref → ℕ → Bool → Ref → Type 0
IsRestriction forks f v b r = (x : Inputs) → value_at forks r x ≡ value_at forks f (with_input x v b)

-- the value is that of the variable
abbrev pub IsVariable : List Branch → ℕ → Ref → Type 0
IsVariable forks v r = (x : Inputs) → value_at forks r x ≡ x v

-- the value is that of the high part where the variable is 1, and that of the low part where it is 0
abbrev pub IsForkInto : List Branch → ℕ → Ref → Ref → Ref → Type 0
IsForkInto forks v low high r = (x : Inputs) → value_at forks r x ≡ (if x v then value_at forks high x else value_at forks low x)

-- the value is the same at inputs that agree on the first n variables
abbrev pub IsWithin : List Branch → Ref → ℕ → Type 0
IsWithin forks f n = (x y : Inputs) → ((k : ℕ) → k < n → x k ≡ y k) → value_at forks f x ≡ value_at forks f y

-- what a fork is: its parts are refs and differ, are older, have later variables, and give its value
pub record IsBranchOf (forks : List Branch) (k : ℕ) (b : Branch) : Type 0 where
  pub place : slice_get forks k ≡ Some b
  pub low : IsRef forks b.low
  pub high : IsRef forks b.high
  pub older : (size_of b.low ≤ k) × (size_of b.high ≤ k)
  pub rise : IsFrom forks (b.var + 1) b.low × IsFrom forks (b.var + 1) b.high
  pub differ : b.low ≢ b.high
  pub value : IsForkInto forks b.var b.low b.high (Node k)

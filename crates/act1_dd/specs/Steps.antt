-- What the steps of building leave.
use Rattle.std.specs.Prelude.{ℕ, ◌≡◌, ◌≤◌, ◌<◌, ◌+◌, ◌⊎◌, Bool, true, false, not, ◌&&◌, List, [], ◌∷◌, ◌++◌, length, slice_get, Some, Contains, Option, None, if◌then◌else◌, nat_eq}
use Rattle.std.specs.List.{list_any}
use Rattle.act1_logic.specs.declared.cover.Mark.{Mark}
use Rattle.act1_logic.specs.declared.cover.Mark.TheVariants as mark
use Rattle.act1_logic.specs.Rows.{agrees}
use Rattle.act1_dd.specs.declared.refs.Ref.{Ref}
use Rattle.act1_dd.specs.declared.refs.Ref.TheVariants.{Zero, One, Node}
use Rattle.act1_dd.specs.declared.refs.Branch.{Branch}
use Rattle.act1_dd.specs.declared.refs.Choice.{Choice}
use Rattle.act1_dd.specs.declared.refs.Split.{Split}
use Rattle.act1_dd.specs.Inputs.{Inputs, Function, inputs_from, inputs_of}
use Rattle.act1_dd.specs.Forks.{HasMoreForks}
use Rattle.act1_dd.specs.Diagram.{IsRef, IsFrom, IsChoice, IsWithin, size_of, value_at}

-- the fork is the one of this number, and was there or is the only new one
pub record IsNumbered (old : List Branch) (b : Branch) (new : List Branch) (k : ℕ) : Type 0 where
  pub place : slice_get new k ≡ Some b
  pub others : (new ≡ old) ⊎ ((Contains old b → ⊥) × (new ≡ old ++ b ∷ []))

-- a fork of this variable
abbrev pub HasVariable : List Branch → ℕ → Ref → Type 0
HasVariable forks v Zero = ⊥
HasVariable forks v One = ⊥
HasVariable forks v (Node k) = (b : Branch) × (slice_get forks k ≡ Some b) × (b.var ≡ v)

-- a part of a fork, by the values of the variables
pub record IsNext (forks : List Branch) (k : ℕ) (values : List Bool) (r : Ref) : Type 0 where
  pub ref : IsRef forks r
  pub smaller : size_of r ≤ k
  pub within : IsWithin forks r (length values)
  pub value : value_at forks (Node k) (inputs_of values) ≡ value_at forks r (inputs_of values)

-- a ref whose value is that of r where the variable has the value
pub record IsPart (forks : List Branch) (v : ℕ) (side : Bool) (r part : Ref) : Type 0 where
  pub ref : IsRef forks part
  pub later : IsFrom forks (v + 1) part
  pub small : size_of part ≤ size_of r
  pub smaller : HasVariable forks v r → size_of part < size_of r
  pub value : (x : Inputs) → x v ≡ side → value_at forks r x ≡ value_at forks part x

-- the sizes of the three; the sum falls from a choice to its sides
abbrev pub size_of_choice : Choice → ℕ
size_of_choice c = size_of c.test + size_of c.yes + size_of c.no

-- all three are refs
abbrev pub AreRefs : List Branch → Choice → Type 0
AreRefs forks c = IsRef forks c.test × IsRef forks c.yes × IsRef forks c.no

-- the parts of a choice on one side
pub record IsSide (forks : List Branch) (v : ℕ) (side : Bool) (c part : Choice) : Type 0 where
  pub test : IsPart forks v side c.test part.test
  pub yes : IsPart forks v side c.yes part.yes
  pub no : IsPart forks v side c.no part.no
  pub smaller : size_of_choice part < size_of_choice c

-- the two sides of a choice by a variable that comes before all its others
pub record IsSplit (forks : List Branch) (c : Choice) (split : Split) : Type 0 where
  pub low : IsSide forks split.var false c split.low
  pub high : IsSide forks split.var true c split.high

-- the variable of the first fork among those of the choice
pub record IsFirst (forks : List Branch) (c : Choice) (v : ℕ) : Type 0 where
  pub test : IsFrom forks v c.test
  pub yes : IsFrom forks v c.yes
  pub no : IsFrom forks v c.no
  pub one : HasVariable forks v c.test ⊎ (HasVariable forks v c.yes ⊎ HasVariable forks v c.no)

-- it is a fork and no constant
abbrev pub IsNode : Ref → Type 0
IsNode Zero = ⊥
IsNode One = ⊥
IsNode (Node k) = Unit {0}

-- an answer that needs no fork, on any forks; without one the test is a fork
abbrev pub IsPlain : Choice → Option Ref → Type 0
IsPlain c (Some r) = (forks : List Branch) → AreRefs forks c → IsRef forks r × IsChoice forks c.test c.yes c.no r
IsPlain c None = IsNode c.test

-- the numbers with that of a fork, which goes last where it is new; a constant is none
abbrev pub with_found : List ℕ → Ref → List ℕ
with_found found Zero = found
with_found found One = found
with_found found (Node k) = if list_any (nat_eq k) found then found else found ++ k ∷ []

-- a constant, or one of the listed forks
abbrev pub IsListed : List ℕ → Ref → Type 0
IsListed found Zero = Unit {0}
IsListed found One = Unit {0}
IsListed found (Node k) = Contains found k

-- forks that were seen: each is there, and with it its parts were seen
pub record AreSeen (forks : List Branch) (found : List ℕ) : Type 0 where
  pub within : (k : ℕ) → Contains found k → k < length forks
  pub closed : (k : ℕ) (b : Branch) → Contains found k → slice_get forks k ≡ Some b → IsListed found b.low × IsListed found b.high

-- whether the forks of the diagram were seen and are within the limit; else nothing is said
abbrev pub SeesFew : List Branch → Ref → ℕ → List ℕ → Bool → Type 0
SeesFew forks f limit found true = AreSeen forks found × ¬ HasMoreForks (value_at forks f) limit
SeesFew forks f limit found false = Unit {0}

-- whether more than n forks come from the function
abbrev pub IsMore : Function → ℕ → Bool → Type 0
IsMore f n true = HasMoreForks f n
IsMore f n false = ¬ HasMoreForks f n

-- the ref is the constant
abbrev pub IsConstant : Bool → Ref → Type 0
IsConstant value r = (forks : List Branch) → IsRef forks r × ((x : Inputs) → value_at forks r x ≡ value)

-- the value is 1 where the mark agrees with the variable and the rest is 1
abbrev pub IsMarked : List Branch → ℕ → Mark → Ref → Ref → Type 0
IsMarked forks v (mark.Zero) rest r = (x : Inputs) → value_at forks r x ≡ (not (x v) && value_at forks rest x)
IsMarked forks v (mark.One) rest r = (x : Inputs) → value_at forks r x ≡ (x v && value_at forks rest x)
IsMarked forks v (mark.Dash) rest r = (x : Inputs) → value_at forks r x ≡ value_at forks rest x

-- the value is 1 where the marks agree with the first variables
abbrev pub AreMarks : List Branch → List Mark → Ref → Type 0
AreMarks forks marks r = (x : Inputs) → value_at forks r x ≡ agrees marks (inputs_from x 0 (length marks))

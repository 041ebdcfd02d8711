-- The faults of a whole text, over its statements. The kinds and their order are this project's.
use Rattle.std.specs.Prelude.{ℕ, ◌≡◌, ◌+◌, ◌<◌, ◌&&◌, ◌||◌, ◌==◌, Bool, true, false, not, IsTrue, List, [], ◌∷◌, length, take, Option, Some, None, All, IsSomeAnd, slice_get, option_map}
use Rattle.std.specs.List.{filter_map, list_any, position}
use Rattle.act1_base.specs.Names.{are_different_numbers}
use Rattle.act1_bliftext.specs.declared.fault.BlifKind.{BlifKind}
use Rattle.act1_bliftext.specs.declared.fault.BlifKind.TheVariants.{Twice, Clocks, Undriven, ClockUsed, Loop}
use Rattle.act1_bliftext.specs.declared.statement.NumberedStatement.{NumberedStatement}
use Rattle.act1_bliftext.specs.declared.statement.Statement.{Statement}
use Rattle.act1_bliftext.specs.declared.statement.Statement.TheVariants.{Inputs, Outputs, Clock, Names, Latch}
use Rattle.act1_bliftext.specs.declared.statements.Statements.{Statements}
use Rattle.act1_order.specs.Order.{OnRing}
use Rattle.act1_blifread.specs.Parts.{all_of, clock_of, is_clock, given_names, output_names, clock_names, node_names, used_names, data_names}

-- a name is given a second time, or stands in `.outputs` a second time
abbrev pub is_twice : List NumberedStatement → Bool
is_twice ss = not (are_different_numbers (all_of given_names ss) && are_different_numbers (all_of output_names ss))

-- the statement brings a clock name other than the first
abbrev pub is_second_clock : Option ℕ → Statement → Bool
is_second_clock clock statement = list_any (λ n. not (is_clock clock n)) (clock_names statement)

-- the name is one of these
abbrev pub is_among : List ℕ → ℕ → Bool
is_among names n = list_any (λ m. m == n) names

-- the statement uses a name that is neither given nor the clock's
abbrev pub is_undriven : List NumberedStatement → Statement → Bool
is_undriven ss statement = list_any (λ n. not (is_among (all_of given_names ss) n || is_clock (clock_of ss) n)) (used_names statement)

-- the statement has the clock where no clock may stand
abbrev pub is_clock_used : Option ℕ → Statement → Bool
is_clock_used clock statement = list_any (is_clock clock) (data_names statement)

-- the `.names` of the text, numbered in their order: the numbers of those whose outputs this one has as inputs
abbrev pub node_reads : List ℕ → Statement → Option (List ℕ)
node_reads outputs (Inputs names) = None
node_reads outputs (Outputs names) = None
node_reads outputs (Clock names) = None
node_reads outputs (Names inputs output cover) = Some (filter_map (λ n. position (λ m. m == n) outputs) inputs)
node_reads outputs (Latch input output control init) = None

-- the graph of the `.names`: for each, in their order, those that it reads
abbrev pub node_graph : List NumberedStatement → List (List ℕ)
node_graph ss = filter_map (λ (numbered : NumberedStatement). node_reads (all_of node_names ss) numbered.statement) ss

-- a `.names`
abbrev pub is_node : Statement → Bool
is_node (Inputs names) = false
is_node (Outputs names) = false
is_node (Clock names) = false
is_node (Names inputs output cover) = true
is_node (Latch input output control init) = false

-- the statement of this number passes the test
abbrev pub Passes : (Statement → Bool) → List NumberedStatement → ℕ → Type 0
Passes test ss k = IsSomeAnd (slice_get ss k) (λ numbered. IsTrue (test numbered.statement))

-- the statement of this number has a fault of this kind. That a name comes twice is said of the statements up to this one
abbrev pub HasFault : List NumberedStatement → BlifKind → ℕ → Type 0
HasFault ss Twice k = IsTrue (is_twice (take (k + 1) ss))
HasFault ss Clocks k = Passes (is_second_clock (clock_of ss)) ss k
HasFault ss Undriven k = Passes (is_undriven ss) ss k
HasFault ss ClockUsed k = Passes (is_clock_used (clock_of ss)) ss k
HasFault ss Loop k = Passes is_node ss k × OnRing (node_graph ss) (length (all_of node_names (take k ss)))
HasFault ss _ k = ⊥

-- no statement has a fault of this kind
abbrev pub IsFree : List NumberedStatement → BlifKind → Type 0
IsFree ss kind = (k : ℕ) → k < length ss → ¬ HasFault ss kind k

-- the statement of this line is the first that has a fault of this kind
pub record IsFirstAt (ss : List NumberedStatement) (kind : BlifKind) (line : ℕ) : Type 0 where
  pub place : ℕ
  pub there : option_map (λ (numbered : NumberedStatement). numbered.line) (slice_get ss place) ≡ Some line
  pub has : HasFault ss kind place
  pub first : (j : ℕ) → j < place → ¬ HasFault ss kind j

-- the kinds of faults of the whole, in their order
abbrev pub whole_kinds : List BlifKind
whole_kinds = Twice ∷ Clocks ∷ Undriven ∷ ClockUsed ∷ Loop ∷ []

-- no statement has any of these faults
abbrev pub IsWhole : List NumberedStatement → Type 0
IsWhole ss = All (IsFree ss) whole_kinds

-- the fault of the whole: the first kind of which there is a fault, at the first statement that has one
pub record WholeBad (s : Statements) (line : ℕ) (kind : BlifKind) : Type 0 where
  pub rank : ℕ
  pub kind_is : slice_get whole_kinds rank ≡ Some kind
  pub sooner : All (IsFree s.statements) (take rank whole_kinds)
  pub at : IsFirstAt s.statements kind line

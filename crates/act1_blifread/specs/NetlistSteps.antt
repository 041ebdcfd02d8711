-- What the steps from statements to a netlist keep.
use Rattle.std.specs.Prelude.{ℕ, ◌≡◌, ◌≤◌, ◌<◌, ◌==◌, ◌&&◌, ⊤, Result, Ok, Err, Bool, true, false, not, is_some, List, length, map, take, Option, Some, None, find, slice_get, slice_index_or, option_map, unwrap_or}
use Rattle.std.specs.List.{filter_map, list_all, position}
use Rattle.act1_base.specs.Names.{are_different_numbers}
use Rattle.act1_base.specs.declared.texts.Stop.{Stop}
use Rattle.act1_base.specs.declared.texts.Stop.TheVariants as stop
use Rattle.act1_bliftext.specs.Rules.{is_statement}
use Rattle.act1_bliftext.specs.declared.fault.BlifFault.{BlifFault}
use Rattle.act1_bliftext.specs.declared.fault.BlifKind.{BlifKind}
use Rattle.act1_bliftext.specs.declared.statement.NumberedStatement.{NumberedStatement}
use Rattle.act1_bliftext.specs.declared.statement.Statement.{Statement}
use Rattle.act1_bliftext.specs.declared.statement.Statement.TheVariants as said
use Rattle.act1_bliftext.specs.declared.statements.Statements.{Statements}
use Rattle.act1_blif.specs.declared.blif.Latch.{Latch}
use Rattle.act1_blif.specs.declared.blif.Node.{Node}
use Rattle.act1_blifread.specs.Netlist.{name_at}
use Rattle.act1_blifread.specs.Parts.{all_of, clock_of, is_clock, node_names, signals_of}
use Rattle.act1_blifread.specs.Faults.{IsFree, IsFirstAt, Passes, WholeBad, is_among, is_node}

-- the numbers of each statement are those of so many names
abbrev pub are_within : ℕ → List NumberedStatement → Bool
are_within count ss = list_all (λ (numbered : NumberedStatement). is_statement count numbered.statement) ss

-- the names differ, and the marks are theirs: there is a mark for each of so many names
pub record AreMarks (count : ℕ) (names : List ℕ) (marks : List Bool) : Type 0 where
  pub apart : are_different_numbers names ≡ true
  pub all : length marks ≡ count
  pub each : (n : ℕ) → n < count → slice_index_or marks n false ≡ is_among names n

-- the place of each of so many names among these names, if it is one of them
pub record ArePlaces (count : ℕ) (names : List ℕ) (places : List (Option ℕ)) : Type 0 where
  pub all : length places ≡ count
  pub each : (n : ℕ) → n < count → slice_index_or places n None ≡ position (λ m. m == n) names

-- the place of a name, if it has one
abbrev pub place_at : List (Option ℕ) → ℕ → Option ℕ
place_at places n = slice_index_or places n None

-- the places of those inputs of a `.names` that have one
abbrev pub reads_in : List (Option ℕ) → Statement → Option (List ℕ)
reads_in places (said.Inputs names) = None
reads_in places (said.Outputs names) = None
reads_in places (said.Clock names) = None
reads_in places (said.Names inputs output cover) = Some (filter_map (place_at places) inputs)
reads_in places (said.Latch input output control init) = None

-- the number that stands for a name
abbrev pub number_at : List (Option ℕ) → ℕ → ℕ
number_at places n = unwrap_or (place_at places n) 0

-- the latch of a `.latch`, and the node of a `.names`, by these places
abbrev pub latch_at : List (List ℕ) → List (Option ℕ) → Statement → Option Latch
latch_at names places (said.Inputs inputs) = None
latch_at names places (said.Outputs outputs) = None
latch_at names places (said.Clock clocks) = None
latch_at names places (said.Names inputs output cover) = None
latch_at names places (said.Latch input output control init) = Some (record { name = name_at names output; input = number_at places input; init = init })

abbrev pub node_at : List (List ℕ) → List (Option ℕ) → Statement → Option Node
node_at names places (said.Inputs inputs) = None
node_at names places (said.Outputs outputs) = None
node_at names places (said.Clock clocks) = None
node_at names places (said.Names inputs output cover) = Some (record { name = name_at names output; inputs = map (number_at places) inputs; cover = cover })
node_at names places (said.Latch input output control init) = None

-- those of all statements, in their order
abbrev pub latches_at : List (List ℕ) → List (Option ℕ) → List NumberedStatement → List Latch
latches_at names places ss = filter_map (λ (numbered : NumberedStatement). latch_at names places numbered.statement) ss

abbrev pub nodes_at : List (List ℕ) → List (Option ℕ) → List NumberedStatement → List Node
nodes_at names places ss = filter_map (λ (numbered : NumberedStatement). node_at names places numbered.statement) ss

-- the name has no place and isn't the clock's
abbrev pub is_without_place : Option ℕ → List (Option ℕ) → ℕ → Bool
is_without_place clock places n = not (is_some (place_at places n)) && not (is_clock clock n)

-- the line of the first statement that passes the test
abbrev pub first_line : (Statement → Bool) → List NumberedStatement → Option ℕ
first_line test ss = option_map (λ (numbered : NumberedStatement). numbered.line) (find (λ (numbered : NumberedStatement). test numbered.statement) ss)

-- the line of the first statement with a fault of this kind, if there is one
abbrev pub IsFirstLine : List NumberedStatement → BlifKind → Option ℕ → Type 0
IsFirstLine ss kind None = IsFree ss kind
IsFirstLine ss kind (Some line) = IsFirstAt ss kind line

-- the statement of this line is the `.names` of a number
pub record IsNodeAt (ss : List NumberedStatement) (node line : ℕ) : Type 0 where
  pub place : ℕ
  pub there : option_map (λ (numbered : NumberedStatement). numbered.line) (slice_get ss place) ≡ Some line
  pub is : Passes is_node ss place
  pub before : length (all_of node_names (take place ss)) ≡ node

-- the line of the `.names` of a number, if there is one
abbrev pub IsNodeLine : List NumberedStatement → ℕ → Option ℕ → Type 0
IsNodeLine ss node None = length (all_of node_names ss) ≤ node
IsNodeLine ss node (Some line) = IsNodeAt ss node line

-- it stopped at the fault of the whole, or found no memory
abbrev pub StopsAt : Statements → Stop BlifFault → Type 0
StopsAt s (stop.Fault fault) = WholeBad s fault.line fault.kind
StopsAt s stop.Memory = Unit {0}

-- it goes on where there is no line, and else stops there with a fault of this kind
abbrev pub Refuses : Option ℕ → BlifKind → Result ⊤ (Stop BlifFault) → Type 0
Refuses line kind (Ok u) = line ≡ None
Refuses line kind (Err (stop.Fault fault)) = (line ≡ Some fault.line) × (fault.kind ≡ kind)
Refuses line kind (Err stop.Memory) = ⊥

-- the clock, and the places of the signals
pub record AreSignals (s : Statements) (clock : Option ℕ) (places : List (Option ℕ)) : Type 0 where
  pub clock_is : clock ≡ clock_of s.statements
  pub places_are : ArePlaces (length s.names) (signals_of s.statements) places

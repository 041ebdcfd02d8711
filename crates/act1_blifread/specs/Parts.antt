-- The names that the statements of a text bring, by their numbers, and the signals of its netlist.
use Rattle.std.specs.Prelude.{ℕ, ◌==◌, Bool, false, not, List, [], ◌∷◌, ◌++◌, Option, Some, None, filter, slice_get}
use Rattle.std.specs.List.{flat_map}
use Rattle.act1_bliftext.specs.declared.statement.NumberedStatement.{NumberedStatement}
use Rattle.act1_bliftext.specs.declared.statement.Statement.{Statement}
use Rattle.act1_bliftext.specs.declared.statement.Statement.TheVariants.{Inputs, Outputs, Clock, Names, Latch}

-- what `.inputs` names
abbrev pub input_names : Statement → List ℕ
input_names (Inputs names) = names
input_names (Outputs names) = []
input_names (Clock names) = []
input_names (Names inputs output cover) = []
input_names (Latch input output control init) = []

-- what `.outputs` names
abbrev pub output_names : Statement → List ℕ
output_names (Inputs names) = []
output_names (Outputs names) = names
output_names (Clock names) = []
output_names (Names inputs output cover) = []
output_names (Latch input output control init) = []

-- what `.clock` names, and the control of a latch
abbrev pub clock_names : Statement → List ℕ
clock_names (Inputs names) = []
clock_names (Outputs names) = []
clock_names (Clock names) = names
clock_names (Names inputs output cover) = []
clock_names (Latch input output (Some control) init) = control ∷ []
clock_names (Latch input output None init) = []

-- the output of a latch
abbrev pub latch_names : Statement → List ℕ
latch_names (Inputs names) = []
latch_names (Outputs names) = []
latch_names (Clock names) = []
latch_names (Names inputs output cover) = []
latch_names (Latch input output control init) = output ∷ []

-- the output of a `.names`
abbrev pub node_names : Statement → List ℕ
node_names (Inputs names) = []
node_names (Outputs names) = []
node_names (Clock names) = []
node_names (Names inputs output cover) = output ∷ []
node_names (Latch input output control init) = []

-- the names that a statement gives: as inputs, as the output of a latch, or as that of a `.names`
abbrev pub given_names : Statement → List ℕ
given_names (Inputs names) = names
given_names (Outputs names) = []
given_names (Clock names) = []
given_names (Names inputs output cover) = output ∷ []
given_names (Latch input output control init) = output ∷ []

-- the names that a statement uses: as inputs of a `.names`, as the input of a latch, or in `.outputs`
abbrev pub used_names : Statement → List ℕ
used_names (Inputs names) = []
used_names (Outputs names) = names
used_names (Clock names) = []
used_names (Names inputs output cover) = inputs
used_names (Latch input output control init) = input ∷ []

-- the names that a statement has where no clock may stand: in `.outputs`, in `.names`, and as the input or output of a latch
abbrev pub data_names : Statement → List ℕ
data_names (Inputs names) = []
data_names (Outputs names) = names
data_names (Clock names) = []
data_names (Names inputs output cover) = output ∷ inputs
data_names (Latch input output control init) = input ∷ output ∷ []

-- all that the statements have of one sort, in their order
abbrev pub all_of : (Statement → List ℕ) → List NumberedStatement → List ℕ
all_of names ss = flat_map (λ (numbered : NumberedStatement). names numbered.statement) ss

-- the clock: the first clock name, if there is one
abbrev pub clock_of : List NumberedStatement → Option ℕ
clock_of ss = slice_get (all_of clock_names ss) 0

-- whether the name is the clock's
abbrev pub is_clock : Option ℕ → ℕ → Bool
is_clock None n = false
is_clock (Some clock) n = clock == n

-- the inputs but for the clock
abbrev pub data_inputs : List NumberedStatement → List ℕ
data_inputs ss = filter (λ n. not (is_clock (clock_of ss) n)) (all_of input_names ss)

-- the names of the signals in the order of their numbers: inputs, latches, nodes
abbrev pub signals_of : List NumberedStatement → List ℕ
signals_of ss = data_inputs ss ++ all_of latch_names ss ++ all_of node_names ss

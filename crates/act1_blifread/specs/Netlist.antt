-- The netlist that statements say.
use Rattle.std.specs.Prelude.{ℕ, ◌≡◌, ◌==◌, List, [], map, Option, Some, None, codes, option_map, slice_index_or, unwrap_or, Result, Ok, Err, ◌≢◌}
use Rattle.std.specs.List.{filter_map, position}
use Rattle.act1_bliftext.specs.declared.fault.BlifFault.{BlifFault}
use Rattle.act1_bliftext.specs.declared.fault.BlifKind.{BlifKind}
use Rattle.act1_bliftext.specs.declared.fault.BlifKind.TheVariants.{Memory}
use Rattle.act1_bliftext.specs.declared.statement.NumberedStatement.{NumberedStatement}
use Rattle.act1_bliftext.specs.declared.statement.Statement.{Statement}
use Rattle.act1_bliftext.specs.declared.statement.Statement.TheVariants as said
use Rattle.act1_bliftext.specs.declared.statements.Statements.{Statements}
use Rattle.act1_blif.specs.declared.blif.Blif.{Blif}
use Rattle.act1_blif.specs.declared.blif.Latch.{Latch}
use Rattle.act1_blif.specs.declared.blif.Node.{Node}
use Rattle.act1_blifread.specs.Parts.{all_of, clock_of, data_inputs, output_names, signals_of}
use Rattle.act1_blifread.specs.Faults.{IsWhole}

-- the name of a number
abbrev pub name_at : List (List ℕ) → ℕ → List ℕ
name_at names n = slice_index_or names n []

-- the number of a signal: its place among all. Each name that a whole text uses has one
abbrev pub signal_at : List ℕ → ℕ → ℕ
signal_at signals n = unwrap_or (position (λ m. m == n) signals) 0

-- the latch of a `.latch`
abbrev pub latch_of : List (List ℕ) → List ℕ → Statement → Option Latch
latch_of names signals (said.Inputs inputs) = None
latch_of names signals (said.Outputs outputs) = None
latch_of names signals (said.Clock clocks) = None
latch_of names signals (said.Names inputs output cover) = None
latch_of names signals (said.Latch input output control init) = Some (record { name = name_at names output; input = signal_at signals input; init = init })

-- the node of a `.names`
abbrev pub node_of : List (List ℕ) → List ℕ → Statement → Option Node
node_of names signals (said.Inputs inputs) = None
node_of names signals (said.Outputs outputs) = None
node_of names signals (said.Clock clocks) = None
node_of names signals (said.Names inputs output cover) = Some (record { name = name_at names output; inputs = map (signal_at signals) inputs; cover = cover })
node_of names signals (said.Latch input output control init) = None

-- the latches and the nodes of the statements, in their order
abbrev pub latches_of : List (List ℕ) → List ℕ → List NumberedStatement → List Latch
latches_of names signals ss = filter_map (λ (numbered : NumberedStatement). latch_of names signals numbered.statement) ss

abbrev pub nodes_of : List (List ℕ) → List ℕ → List NumberedStatement → List Node
nodes_of names signals ss = filter_map (λ (numbered : NumberedStatement). node_of names signals numbered.statement) ss

-- the statements are whole, and the netlist has what they say: the model's name, or `top`; the clock's name; the inputs but for the clock; the latches, the nodes and the outputs, in their order
pub record IsNetlistOf (s : Statements) (net : Blif) : Type 0 where
  pub whole : IsWhole s.statements
  pub model : net.model ≡ unwrap_or s.model (codes "top")
  pub clock : net.clock ≡ option_map (name_at s.names) (clock_of s.statements)
  pub inputs : net.inputs ≡ map (name_at s.names) (data_inputs s.statements)
  pub latches : net.latches ≡ latches_of s.names (signals_of s.statements) s.statements
  pub nodes : net.nodes ≡ nodes_of s.names (signals_of s.statements) s.statements
  pub outputs : net.outputs ≡ map (signal_at (signals_of s.statements)) (all_of output_names s.statements)

-- what a call answers: what is right, or the fault. Want of memory is free
abbrev pub Answers : (Blif → Type 0) → (ℕ → BlifKind → Type 0) → Result Blif BlifFault → Type 0
Answers Is Bad (Ok net) = Is net
Answers Is Bad (Err fault) = fault.kind ≢ Memory → Bad fault.line fault.kind

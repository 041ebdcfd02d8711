-- The parts of the cleaned net, with the kept signals numbered anew.
use Rattle.std.specs.Prelude.{ℕ, ◌≡◌, Bool, true, false, if◌then◌else◌, List, [], ◌∷◌, ◌++◌, length, map, slice_range, drop}
use Rattle.act1_blif.specs.declared.blif.Blif.{Blif}
use Rattle.act1_blif.specs.declared.blif.Latch.{Latch}
use Rattle.act1_blif.specs.declared.blif.Node.{Node}
use Rattle.act1_blif.specs.Graph.{first_node}
use Rattle.act1_blif.specs.Names.{signal_name}
use Rattle.act1_net.specs.declared.gate.Gate.{Gate}
use Rattle.act1_net.specs.declared.net.Net.{Net}
use Rattle.act1_net.specs.declared.net.NetTerm.{NetTerm}
use Rattle.act1_net.specs.declared.net.NetTerm.TheVariants as term
use Rattle.act1_net.specs.Net.{chosen, place_in}
use Rattle.act1_net.specs.Gates.{gate_with, term_of}

-- a list of one, or none
abbrev pub if_kept : {X : Type 0} → Bool → X → List X
if_kept true x = x ∷ []
if_kept false x = []

-- a latch, whose input isn't read
abbrev pub kept_latch : Latch → Latch
kept_latch latch = record { name = latch.name; input = 0; init = latch.init }

-- the marks of the latches, and of the nodes
abbrev pub latch_marks : Blif → List Bool → List Bool
latch_marks b marks = slice_range marks (length b.inputs) (first_node b)

abbrev pub node_marks : Blif → List Bool → List Bool
node_marks b marks = drop (first_node b) marks

-- a term, with its signal numbered anew
abbrev pub moved_term : List Bool → NetTerm → NetTerm
moved_term marks term.Zero = term.Zero
moved_term marks term.One = term.One
moved_term marks (term.Signal s) = term.Signal (place_in marks s)

-- a function of signals, with these numbered anew
abbrev pub moved_gate : List Bool → Gate → Gate
moved_gate marks gate = record { inputs = map (place_in marks) gate.inputs; output = gate.output; rows = gate.rows }

-- a node's function of its inputs
abbrev pub gate_of : Node → Gate
gate_of node = record { inputs = node.inputs; output = node.cover.output; rows = node.cover.rows }

-- a node's name
abbrev pub name_of : Node → List ℕ
name_of node = node.name

-- how many inputs its cover has
abbrev pub width_of : Node → ℕ
width_of node = node.cover.width

-- what is left of a node, with its signals numbered anew
abbrev pub moved_left : List NetTerm → List Bool → Node → Gate
moved_left terms marks node = moved_gate marks (gate_with terms node)

-- how many signals are left of a node's inputs
abbrev pub width_left : List NetTerm → Node → ℕ
width_left terms node = length (gate_with terms node).inputs

-- the kept nodes, with what is left of them
pub record AreKeptNodes (terms : List NetTerm) (marks kept : List Bool) (old new : List Node) : Type 0 where
  pub names : map name_of new ≡ chosen kept (map name_of old)
  pub gates : map gate_of new ≡ chosen kept (map (moved_left terms marks) old)
  pub widths : map width_of new ≡ chosen kept (map (width_left terms) old)

-- a node goes last where it is kept
pub record AddsNode (terms : List NetTerm) (marks : List Bool) (kept : Bool) (node : Node) (old new : List Node) : Type 0 where
  pub names : map name_of new ≡ map name_of old ++ if_kept kept node.name
  pub gates : map gate_of new ≡ map gate_of old ++ if_kept kept (moved_left terms marks node)
  pub widths : map width_of new ≡ map width_of old ++ if_kept kept (width_left terms node)

-- the node has this name and this function
pub record IsNodeOf (name : List ℕ) (gate : Gate) (node : Node) : Type 0 where
  pub name_is : node.name ≡ name
  pub gate_is : gate_of node ≡ gate
  pub width_is : node.cover.width ≡ length gate.inputs

-- what a latch takes, with its signal numbered anew
abbrev pub next_term : List NetTerm → List Bool → Latch → NetTerm
next_term terms marks latch = moved_term marks (term_of terms latch.input)

-- the netlist of the kept signals
pub record IsKeptPart (b : Blif) (terms : List NetTerm) (marks : List Bool) (new : Blif) : Type 0 where
  pub clock : new.clock ≡ b.clock
  pub inputs : new.inputs ≡ b.inputs
  pub latches : new.latches ≡ chosen (latch_marks b marks) (map kept_latch b.latches)
  pub nodes : AreKeptNodes terms marks (node_marks b marks) b.nodes new.nodes

-- the net of the kept signals
pub record IsKeptNet (b : Blif) (terms : List NetTerm) (marks : List Bool) (net : Net) : Type 0 where
  pub part : IsKeptPart b terms marks net.blif
  pub names : net.names ≡ map (signal_name b) b.outputs
  pub outputs : net.outputs ≡ map (moved_term marks) (map (term_of terms) b.outputs)
  pub next : net.next ≡ chosen (latch_marks b marks) (map (next_term terms marks) b.latches)

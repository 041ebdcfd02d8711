-- The graph of the signals of a netlist.
use Rattle.std.specs.Prelude.{ℕ, ◌+◌, List, [], ◌++◌, length, map, replicate}
use Rattle.act1_blif.specs.declared.blif.Blif.{Blif}
use Rattle.act1_blif.specs.declared.blif.Node.{Node}

-- the number of signals before the first node
abbrev pub first_node : Blif → ℕ
first_node net = length net.inputs + length net.latches

-- the number of signals
abbrev pub signal_count : Blif → ℕ
signal_count net = length net.inputs + length net.latches + length net.nodes

-- the signals that each signal reads at once: inputs and latches read none
abbrev pub reads_of : Blif → List (List ℕ)
reads_of net = replicate (first_node net) [] ++ map (λ (node : Node). node.inputs) net.nodes

-- How many modules a netlist needs at most.
use Rattle.std.specs.Prelude.{ℕ, ◌+◌, ◌*◌, length, sum_by}
use Rattle.act1_blif.specs.declared.blif.Blif.{Blif}
use Rattle.act1_blif.specs.declared.blif.Node.{Node}
use Rattle.act1_logic.specs.Rows.{literals_of}

-- the literals of all covers, and two for each latch
abbrev pub need : Blif → ℕ
need net = sum_by (λ (node : Node). literals_of node.cover.rows) net.nodes + 2 * length net.latches

-- The names of the signals of a netlist.
use Rattle.std.specs.Prelude.{ℕ, List, [], slice_index_or}
use Rattle.act1_blif.specs.declared.blif.Blif.{Blif}
use Rattle.act1_blif.specs.Rules.{names_of}

-- inputs, then latches, then nodes
abbrev pub signal_names : Blif → List (List ℕ)
signal_names net = names_of net.inputs net.latches net.nodes

-- the name of a signal, by its number
abbrev pub signal_name : Blif → ℕ → List ℕ
signal_name net s = slice_index_or (signal_names net) s []

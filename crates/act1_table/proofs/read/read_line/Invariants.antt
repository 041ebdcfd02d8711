use Rattle.std.proofs.Common.{◌≡◌, drop}
use Rattle.act1_base.specs.Words.{words_of}
use Rattle.act1_table.specs.Reads.{read_forms}
use Rattle.act1_table.specs.Table.{table_of}
use Rattle.act1_table.proofs.read.read_line.Given as goal

-- what is to come decides
abbrev pub invariant-loop-number : goal.invariant-loop-number
invariant-loop-number l = read_forms 0 (table_of l.table) (words_of l.line) ≡ read_forms l.number (table_of (drop l.number l.table)) (words_of l.line)

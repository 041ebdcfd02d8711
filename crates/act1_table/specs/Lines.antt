-- The lines of a table, as bytes: words parted by one space.
use Rattle.std.specs.Prelude.{ℕ, List, Option}
use Rattle.std.specs.List.{join_with_byte}
use Rattle.act1_base.specs.Words.{words_of}
use Rattle.act1_table.specs.Table.{Form}
use Rattle.act1_table.specs.declared.forms.LineGiven.{LineGiven}
use Rattle.act1_table.specs.Forms.{line_words}
use Rattle.act1_table.specs.Reads.{read_forms}

-- the line that says this, without its line feed
abbrev pub line_text : List Form → LineGiven → List ℕ
line_text table line = join_with_byte 32 (line_words table line)

-- what is read of a line, which comes without its line feed
abbrev pub read_line : List Form → List ℕ → Option LineGiven
read_line table bytes = read_forms 0 table (words_of bytes)

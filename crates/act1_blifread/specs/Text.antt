-- BLIF texts: which netlist a text has, and which fault.
use Rattle.std.specs.Prelude.{ℕ, ◌⊎◌, List}
use Rattle.act1_bliftext.specs.Faults.{LineBad}
use Rattle.act1_bliftext.specs.Statements.{StatementsOf}
use Rattle.act1_bliftext.specs.declared.fault.BlifKind.{BlifKind}
use Rattle.act1_bliftext.specs.declared.statements.Statements.{Statements}
use Rattle.act1_blif.specs.declared.blif.Blif.{Blif}
use Rattle.act1_blifread.specs.Faults.{WholeBad}
use Rattle.act1_blifread.specs.Netlist.{IsNetlistOf}

-- no line of the text has a fault, and this is the netlist of what the lines say
pub record BlifText (bytes : List ℕ) (net : Blif) : Type 0 where
  pub statements : Statements
  pub said : StatementsOf bytes statements
  pub netlist : IsNetlistOf statements net

-- no line of the text has a fault, and what the lines say has this fault of the whole
pub record WholeTextBad (bytes : List ℕ) (line : ℕ) (kind : BlifKind) : Type 0 where
  pub statements : Statements
  pub said : StatementsOf bytes statements
  pub fault : WholeBad statements line kind

-- the first fault of the text: that of its first faulty line, and where no line has one that of the whole
abbrev pub BlifBad : List ℕ → ℕ → BlifKind → Type 0
BlifBad bytes line kind = LineBad bytes (record { line = line; kind = kind }) ⊎ WholeTextBad bytes line kind

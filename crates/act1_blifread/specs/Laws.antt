-- Laws of statements and of BLIF texts: each have one netlist or one fault, and never both, and a netlist's canonical text is read back.
use Rattle.std.specs.Prelude.{ℕ, ◌≡◌, ◌≤◌, ◌⊎◌, List, length}
use Rattle.act1_bliftext.specs.declared.fault.BlifKind.{BlifKind}
use Rattle.act1_bliftext.specs.declared.statements.Statements.{Statements}
use Rattle.act1_blif.specs.declared.blif.Blif.{Blif}
use Rattle.act1_blif.specs.Text.{blif_text}
use Rattle.act1_blifread.specs.Faults.{WholeBad}
use Rattle.act1_blifread.specs.Netlist.{IsNetlistOf}
use Rattle.act1_blifread.specs.Text.{BlifBad, BlifText}

-- the statements have a netlist
pub record HasNetlist (s : Statements) : Type 0 where
  pub net : Blif
  pub is : IsNetlistOf s net

-- the statements have a fault of the whole
pub record HasWholeFault (s : Statements) : Type 0 where
  pub line : ℕ
  pub kind : BlifKind
  pub is : WholeBad s line kind

-- one at least
abbrev pub NetlistOrFault : Type 0
NetlistOrFault = (s : Statements) → HasNetlist s ⊎ HasWholeFault s

-- never both
abbrev pub NetlistWithoutFault : Type 0
NetlistWithoutFault = (s : Statements) (net : Blif) (line : ℕ) (kind : BlifKind) → IsNetlistOf s net → WholeBad s line kind → ⊥

-- one netlist
abbrev pub NetlistIsOne : Type 0
NetlistIsOne = (s : Statements) (net other : Blif) → IsNetlistOf s net → IsNetlistOf s other → net ≡ other

-- one fault
abbrev pub WholeFaultIsOne : Type 0
WholeFaultIsOne = (s : Statements) (line other_line : ℕ) (kind other_kind : BlifKind) → WholeBad s line kind → WholeBad s other_line other_kind → (line ≡ other_line) × (kind ≡ other_kind)

-- the text has a netlist
pub record HasTextNetlist (bytes : List ℕ) : Type 0 where
  pub net : Blif
  pub is : BlifText bytes net

-- the text has a fault
pub record HasTextFault (bytes : List ℕ) : Type 0 where
  pub line : ℕ
  pub kind : BlifKind
  pub is : BlifBad bytes line kind

-- one at least, where the text isn't too long
abbrev pub TextNetlistOrFault : Type 0
TextNetlistOrFault = (bytes : List ℕ) → length bytes ≤ 4000000000 → HasTextNetlist bytes ⊎ HasTextFault bytes

-- never both
abbrev pub TextNetlistWithoutFault : Type 0
TextNetlistWithoutFault = (bytes : List ℕ) (net : Blif) (line : ℕ) (kind : BlifKind) → BlifText bytes net → BlifBad bytes line kind → ⊥

-- one netlist
abbrev pub TextNetlistIsOne : Type 0
TextNetlistIsOne = (bytes : List ℕ) (net other : Blif) → BlifText bytes net → BlifText bytes other → net ≡ other

-- one fault
abbrev pub TextFaultIsOne : Type 0
TextFaultIsOne = (bytes : List ℕ) (line other_line : ℕ) (kind other_kind : BlifKind) → BlifBad bytes line kind → BlifBad bytes other_line other_kind → (line ≡ other_line) × (kind ≡ other_kind)

-- a netlist is the netlist of its canonical text
abbrev pub CanonicalIsBlif : Type 0
CanonicalIsBlif = (net : Blif) → BlifText (blif_text net) net

-- The command `blif`.
use Rattle.std.specs.Prelude.{ℕ, ◌≡◌, List, [], ◌∷◌}
use Rattle.act1_outside.specs.Outside.{Shelf}
use Rattle.act1_blif.specs.declared.blif.Blif.{Blif}
use Rattle.act1_blif.specs.Text.{blif_text}
use Rattle.act1_blifread.specs.Text.{BlifText}
use Rattle.act1_frame.specs.declared.ending.Ending.{Ending}
use Rattle.act1_frame.specs.Endings.{printed}
use Rattle.act1_frame.specs.Leaving.{PrintsAll}
use Rattle.act1_frame.specs.Reading.{Wanted, Holds}
use Rattle.act1_frame.specs.Stages.{Reads}
use Rattle.act1_frame.specs.World.{World}
use Rattle.act1_words.specs.declared.command.BlifWords.{BlifWords}
use Rattle.act1_top.specs.Files.{file_of, NetlistRefused}

-- the file that it reads; it writes none
abbrev pub blif_reads : BlifWords → List Wanted
blif_reads words = file_of words.blif ∷ []

-- what the canonical text of a netlist ends with
abbrev pub BlifEnds : Blif → Ending → Type 0
BlifEnds net e = e ≡ printed (blif_text net)

-- its endings, by the stage that they come from
abbrev pub BlifMayEnd : BlifWords → Shelf → Shelf → Ending → Type 0
BlifMayEnd words before after e = Reads BlifText NetlistRefused before after (file_of words.blif) BlifEnds e

-- A canonical text that is done. The bytes under BLIF are a netlist's text, and what is printed is the canonical text of that netlist.
pub record BlifIsDone (words : BlifWords) (before after : World) : Type 0 where
  pub bytes : List ℕ
  pub net : Blif
  pub held : Holds before.shelf words.blif bytes
  pub text : BlifText bytes net
  pub printed : PrintsAll (blif_text net) before.paper after.paper

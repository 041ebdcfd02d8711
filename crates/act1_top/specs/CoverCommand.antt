-- The command `cover`.
use Rattle.std.specs.Prelude.{ℕ, ◌≡◌, List, [], ◌∷◌}
use Rattle.act1_outside.specs.Outside.{Shelf}
use Rattle.act1_blif.specs.declared.blif.Blif.{Blif}
use Rattle.act1_blifread.specs.Text.{BlifText}
use Rattle.act1_cover.specs.Text.{IsCoverText}
use Rattle.act1_frame.specs.declared.ending.Ending.{Ending}
use Rattle.act1_frame.specs.Endings.{printed}
use Rattle.act1_frame.specs.Leaving.{PrintsAll}
use Rattle.act1_frame.specs.Reading.{Wanted, Holds}
use Rattle.act1_frame.specs.Stages.{Reads}
use Rattle.act1_frame.specs.World.{World}
use Rattle.act1_words.specs.declared.command.CoverWords.{CoverWords}
use Rattle.act1_top.specs.Files.{file_of, NetlistRefused}

-- the file that it reads; it writes none
abbrev pub cover_reads : CoverWords → List Wanted
cover_reads words = file_of words.blif ∷ []

-- what the least covers of a netlist end with
abbrev pub CoverEnds : Blif → Ending → Type 0
CoverEnds net e = (text : List ℕ) × IsCoverText net text × (e ≡ printed text)

-- its endings, by the stage that they come from
abbrev pub CoverMayEnd : CoverWords → Shelf → Shelf → Ending → Type 0
CoverMayEnd words before after e = Reads BlifText NetlistRefused before after (file_of words.blif) CoverEnds e

-- Least covers that are done. The bytes under BLIF are a netlist's text, and what is printed has, for each node of that netlist, the forest of its cover and a tiling of that forest, and no tiling of it has fewer tiles.
pub record CoverIsDone (words : CoverWords) (before after : World) : Type 0 where
  pub bytes : List ℕ
  pub net : Blif
  pub held : Holds before.shelf words.blif bytes
  pub text : BlifText bytes net
  pub covers : List ℕ
  pub are : IsCoverText net covers
  pub printed : PrintsAll covers before.paper after.paper

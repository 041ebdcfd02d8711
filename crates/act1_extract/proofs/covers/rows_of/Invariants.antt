use Rattle.std.proofs.Common.{◌≡◌, map, take}
use Rattle.std.specs.Prelude.{filter}
use Rattle.act1_logic.specs.OnSets.{mark_of}
use Rattle.act1_meaning.specs.Extracted.{module_in}
use Rattle.act1_extract.specs.Parts.{marks_in}
use Rattle.act1_extract.proofs.covers.rows_of.Given as goal

abbrev pub invariant-loop-bits : goal.invariant-loop-bits
invariant-loop-bits l = marks_in l.rows ≡ map (map mark_of) (filter (module_in l.pins) (take l.bits-index l.all))

use Rattle.std.proofs.Common.{◌≡◌, ◌++◌, map, take}
use Rattle.act1_base.specs.Words.{text_of_lines}
use Rattle.act1_fuses.specs.Text.{site_words}
use Rattle.act1_fuses.proofs.write.write_sites.Given as goal

-- the lines of the first sites are written
abbrev pub invariant-loop-site : goal.invariant-loop-site
invariant-loop-site l = l.text.items ≡ l.initial.text.items ++ text_of_lines (map site_words (take l.site-index l.sites))

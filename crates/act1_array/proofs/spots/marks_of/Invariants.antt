use Rattle.std.proofs.Common.{◌≡◌, false, drop, length, replicate}
use Rattle.act1_array.proofs.SpotLemmas.{with_uses}
use Rattle.act1_array.proofs.spots.marks_of.Given as goal

-- what is to come decides
abbrev pub invariant-loop-site : goal.invariant-loop-site
invariant-loop-site l = (with_uses (drop l.site-index l.sites) l.marks.items ≡ with_uses l.sites (replicate 2048 false)) × (length l.marks.items ≡ 2048)

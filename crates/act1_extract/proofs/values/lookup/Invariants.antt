use Rattle.std.proofs.Common.{◌≡◌, drop, length}
use Rattle.act1_meaning.specs.Extracted.{lookup}
use Rattle.act1_extract.proofs.values.lookup.Given as goal

-- what is to come decides
abbrev pub invariant-loop-other : goal.invariant-loop-other
invariant-loop-other l = lookup (drop (length l.yielded) l.sources) (drop (length l.yielded) l.values) l.source ≡ lookup l.sources l.values l.source

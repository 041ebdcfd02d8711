use Rattle.std.proofs.Common.{◌≡◌, map, take}
use Rattle.act1_emit.specs.File.{start_at}
use Rattle.act1_emit.proofs.file.starts_at.Given as goal

-- the starts so far
abbrev pub invariant-loop-start : goal.invariant-loop-start
invariant-loop-start l = l.made.items ≡ map (start_at l.spots) (take l.start-index l.starts)

use Rattle.std.proofs.Common.{◌≡◌}
use Rattle.act1_place.specs.Passes.{sites_of}
use Rattle.act1_place.proofs.start.sites_of.Given as goal

-- the rows so far
abbrev pub invariant-loop-row : goal.invariant-loop-row
invariant-loop-row l = l.all.items ≡ sites_of l.row l.columns

use Rattle.std.proofs.Common.{◌≡◌, ◌++◌, drop}
use Rattle.act1_emit.specs.SiteSteps.{line_sites}
use Rattle.act1_emit.proofs.signals.add_lines.Given as goal

-- the sites so far, and those of the lines to come
abbrev pub invariant-loop-line : goal.invariant-loop-line
invariant-loop-line l = l.sites.items ++ line_sites l.channel l.track (drop l.line-index l.lines) ≡ l.initial.sites.items ++ line_sites l.channel l.track l.lines

use Rattle.std.proofs.Common.{◌≡◌, map}
use Rattle.act1_search.specs.declared.verdict.Verdict.TheVariants.{Assigned}
use Rattle.act1_flow.proofs.assigning.tracks_in.Given as goal

-- the verdicts so far are assignments by these tracks
abbrev pub invariant-loop-verdict : goal.invariant-loop-verdict
invariant-loop-verdict l = map Assigned l.tracks ≡ l.yielded

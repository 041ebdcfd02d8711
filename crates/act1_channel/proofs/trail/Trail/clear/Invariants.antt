use Rattle.std.proofs.Common.{◌≡◌, length}
use Rattle.act1_channel.proofs.trail.Trail.clear.Given as goal

-- nothing but the facts changes
abbrev pub invariant-loop-self : goal.invariant-loop-self
invariant-loop-self l = (l.self.places ≡ l.initial.self.places) × (l.self.tracks ≡ l.initial.self.tracks)

abbrev pub decreases-loop-self : goal.decreases-loop-self
decreases-loop-self l = length l.self.entries

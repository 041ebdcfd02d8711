use Rattle.std.proofs.Common.{ℕ, ◌≡◌, ◌<◌, length, Some}
use Rattle.std.specs.Prelude.{slice_get}
use Rattle.act1_net.specs.declared.net.NetTerm.TheVariants as term
use Rattle.act1_net.proofs.pass.own_terms.Given as goal

-- the terms of the first signals
abbrev pub invariant-loop-signal : goal.invariant-loop-signal
invariant-loop-signal l = (length l.terms.items ≡ l.signal) × ((s : ℕ) → s < l.signal → slice_get l.terms.items s ≡ Some (term.Signal s))

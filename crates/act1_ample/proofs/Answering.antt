-- What the search may answer of a wide channel, and under a budget that is large enough.
use Rattle.std.proofs.Common.{ℕ, ◌+◌, ◌<◌, ◌≤◌, ◌^◌, length, refl, inl, inr, arith}
use Rattle.std.specs.Prelude.{Ok, Err}
use Rattle.act1_channel.specs.Acceptance.{choices_of}
use Rattle.act1_search.specs.declared.verdict.Verdict.TheVariants.{Assigned, Refuted}
use Rattle.act1_search.specs.declared.verdict.SearchStop.TheVariants as stop
use Rattle.act1_ample.specs.Laws.{WideIsAnswered, EnoughIsNotSpent}
use Rattle.act1_ample.proofs.CalmSearch.{wide_is_assigned}

pub wide_is_answered : WideIsAnswered
wide_is_answered p budget (Ok (Assigned tracks)) wide h = inl (tracks, refl)
wide_is_answered p budget (Ok (Refuted log)) wide h = absurd ((wide_is_assigned p wide).0 (choices_of log.steps) h.0)
wide_is_answered p budget (Err (stop.Spent conflicts)) wide h = absurd ((wide_is_assigned p wide).1 budget h.2.0 h.2.1)
wide_is_answered p budget (Err stop.Memory) wide h = inr refl

pub enough_is_not_spent : EnoughIsNotSpent
enough_is_not_spent p budget conflicts enough h = short budget ((1 + length p.tracks) ^ length p.connections) h.1 enough
  where
    short : (a b : ℕ) → a < b → b ≤ a → ⊥
    short a b h k = omega arith

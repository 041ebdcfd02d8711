-- Logs with the same steps are the same, and so are answers.
use Rattle.std.proofs.Common.{ℕ, ◌≡◌, ◌<◌, ◌^◌, List, length, ap}
use Rattle.act1_channel.specs.declared.problem.Log.{Log}
use Rattle.act1_channel.specs.declared.problem.Step.{Step}
use Rattle.act1_logtext.specs.Answers.{draft_of}
use Rattle.act1_logtext.specs.declared.answer.Answer.{Answer}
use Rattle.act1_logtext.specs.declared.answer.Answer.TheVariants as answer
use Rattle.act1_logtext.specs.declared.draft.Draft.TheVariants as draft
use mathlib.Core.HLevel.{is_prop→PathP}
use native.Mathlib.Bridge.{le_prop}

pub same_log : (a b : Log) → a.steps ≡ b.steps → a ≡ b
same_log a b same = λ i. record { steps = same i; few = is_prop→PathP (λ j. length (same j) < 2 ^ 32) (λ j. le_prop) a.few b.few i }

same_tracks : (a b : List ℕ) → draft.Assigned a ≡ draft.Assigned b → a ≡ b
same_tracks a b h = cc

same_steps : (a b : List Step) → draft.Refuted a ≡ draft.Refuted b → a ≡ b
same_steps a b h = cc

same_count : (a b : ℕ) → draft.Spent a ≡ draft.Spent b → a ≡ b
same_count a b h = cc

pub same_answer : (a b : Answer) → draft_of a ≡ draft_of b → a ≡ b
same_answer (answer.Assigned a) (answer.Assigned b) h = ap (λ (tracks : List ℕ). answer.Assigned tracks) (same_tracks a b h)
same_answer (answer.Assigned a) (answer.Refuted b) h = cc
same_answer (answer.Assigned a) (answer.Spent b) h = cc
same_answer (answer.Refuted a) (answer.Refuted b) h = ap (λ (log : Log). answer.Refuted log) (same_log a b (same_steps a.steps b.steps h))
same_answer (answer.Refuted a) (answer.Assigned b) h = cc
same_answer (answer.Refuted a) (answer.Spent b) h = cc
same_answer (answer.Spent a) (answer.Spent b) h = ap (λ (n : ℕ). answer.Spent n) (same_count a b h)
same_answer (answer.Spent a) (answer.Assigned b) h = cc
same_answer (answer.Spent a) (answer.Refuted b) h = cc

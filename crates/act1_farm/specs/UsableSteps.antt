-- What is taken of an answer that was read.
use Rattle.std.specs.Prelude.{◌≡◌, Option, MatchOption}
use Rattle.act1_channel.specs.declared.problem.Problem.{Problem}
use Rattle.act1_logtext.specs.declared.answer.Answer.{Answer}
use Rattle.act1_search.specs.declared.verdict.Verdict.{Verdict}
use Rattle.act1_farm.specs.Usable.{answer_of, Decides}

-- the answer is a verdict that decides the problem, or is none that does
abbrev pub IsTaken : Problem → Answer → Option Verdict → Type 0
IsTaken p a taken = MatchOption taken ((v : Verdict) → a ≡ answer_of v → Decides p v → ⊥) (λ v. (a ≡ answer_of v) × Decides p v)

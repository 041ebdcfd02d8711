-- Which answers of helpers are taken.
use Rattle.std.specs.Prelude.{ℕ, List}
use Rattle.act1_channel.specs.declared.problem.Problem.{Problem}
use Rattle.act1_channel.specs.Acceptance.{IsAccepted}
use Rattle.act1_channel.specs.Assignment.{Assigns}
use Rattle.act1_logtext.specs.declared.answer.Answer.{Answer}
use Rattle.act1_logtext.specs.declared.answer.Answer.TheVariants as answer
use Rattle.act1_logtext.specs.Reads.{IsTextOfAnswer}
use Rattle.act1_search.specs.declared.verdict.Verdict.{Verdict}
use Rattle.act1_search.specs.declared.verdict.Verdict.TheVariants as verdict

-- the verdict as an answer that has a text
abbrev pub answer_of : Verdict → Answer
answer_of (verdict.Assigned tracks) = answer.Assigned tracks
answer_of (verdict.Refuted log) = answer.Refuted log

-- the verdict is an assignment of the problem, or a log that is accepted for it
abbrev pub Decides : Problem → Verdict → Type 0
Decides p (verdict.Assigned tracks) = Assigns p tracks
Decides p (verdict.Refuted log) = IsAccepted p log.steps

-- the bytes are the text of that verdict, and it decides the problem
abbrev pub Brings : Problem → List ℕ → Verdict → Type 0
Brings p bytes v = Decides p v × IsTextOfAnswer bytes (answer_of v)

-- the bytes are usable for the problem
abbrev pub IsUsable : Problem → List ℕ → Type 0
IsUsable p bytes = (v : Verdict) × Brings p bytes v

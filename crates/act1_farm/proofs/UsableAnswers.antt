-- Which answers bring a verdict.
use Rattle.std.proofs.Common.{ℕ, ◌≡◌, List, Option, Some, None, Result, Ok, Err, subst}
use Rattle.std.specs.Prelude.{IfOk, MatchOption}
use Rattle.act1_base.specs.declared.memory.Memory.{Memory}
use Rattle.act1_channel.specs.declared.problem.Problem.{Problem}
use Rattle.act1_logtext.specs.Reads.{AnswerReads, IsTextOfAnswer, ReadsAnswerAgain}
use Rattle.act1_logtext.specs.declared.answer.Answer.{Answer}
use Rattle.act1_logtext.specs.declared.fault.LogFault.TheVariants as log_fault
use Rattle.act1_search.proofs.Exact.{fit}
use Rattle.act1_search.specs.Answers.{IsAnswer}
use Rattle.act1_search.specs.declared.verdict.SearchStop.{SearchStop}
use Rattle.act1_search.specs.declared.verdict.Verdict.{Verdict}
use Rattle.act1_search.specs.declared.verdict.Verdict.TheVariants as verdict
use Rattle.act1_farm.specs.Usable.{Brings, Decides, IsUsable, answer_of}
use Rattle.act1_farm.specs.UsableSteps.{IsTaken}

brought : (p : Problem) (bytes : List ℕ) (a : Answer) → IsTextOfAnswer bytes a → ((b : Answer) → IsTextOfAnswer bytes b → a ≡ b) → (o : Option Verdict) → IsTaken p a o → MatchOption o (IsUsable p bytes → ⊥) (Brings p bytes)
brought p bytes a text one None h = λ u. h u.0 (one (answer_of u.0) u.1.1) u.1.0
brought p bytes a text one (Some v) h = (h.1, subst (λ (b : Answer). IsTextOfAnswer bytes b) h.0 text)

-- an answer that was read
pub read_brings : (p : Problem) (bytes : List ℕ) (a : Answer) → AnswerReads bytes (Ok a) → ReadsAnswerAgain bytes (Ok a) → (r : Result (Option Verdict) Memory) → IfOk r (IsTaken p a)
    → IfOk r (λ (v : Option Verdict). MatchOption v (IsUsable p bytes → ⊥) (Brings p bytes))
read_brings p bytes a text again (Err e) h = tt
read_brings p bytes a text again (Ok o) h = brought p bytes a text again o h

-- bytes that are no text of an answer
pub unread_useless : (p : Problem) (bytes : List ℕ) (n : ℕ) → ReadsAnswerAgain bytes (Err (log_fault.Line n)) → IsUsable p bytes → ⊥
unread_useless p bytes n again u = differs (again (answer_of u.0) u.1.1)
  where
    differs : log_fault.Line n ≡ log_fault.Memory → ⊥
    differs e = cc

-- a verdict of the search decides
pub answer_decides : (p : Problem) (budget : ℕ) (r : Result Verdict SearchStop) → IsAnswer p budget r → IfOk r (Decides p)
answer_decides p budget (Ok (verdict.Assigned tracks)) h = fit p h.0 tracks h.1
answer_decides p budget (Ok (verdict.Refuted log)) h = h.2
answer_decides p budget (Err why) h = tt

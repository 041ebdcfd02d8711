-- What the readers of logs and of answers answer.
use Rattle.std.specs.Prelude.{ℕ, ◌≡◌, List, Result, Ok, Err}
use Rattle.act1_base.specs.FirstFault.{IsFirstFaultyLine}
use Rattle.act1_channel.specs.declared.problem.Log.{Log}
use Rattle.act1_logtext.specs.Answers.{answer_text, IsAnswer}
use Rattle.act1_logtext.specs.Logs.{log_text, AreSteps}
use Rattle.act1_logtext.specs.declared.answer.Answer.{Answer}
use Rattle.act1_logtext.specs.declared.fault.LogFault.{LogFault}
use Rattle.act1_logtext.specs.declared.fault.LogFault.TheVariants.{Line, Memory}

-- what is read is of the bytes, or this is their first faulty line; want of memory alone is free
abbrev pub IsReading : {X : Type 0} → (List ℕ → Type 0) → (X → Type 0) → List ℕ → Result X LogFault → Type 0
IsReading IsText IsOf bytes (Ok x) = IsOf x
IsReading IsText IsOf bytes (Err (Line number)) = IsFirstFaultyLine IsText bytes number
IsReading IsText IsOf bytes (Err Memory) = Unit {0}

-- this is read, unless memory is short
abbrev pub IsReadAs : {X : Type 0} → X → Result X LogFault → Type 0
IsReadAs x (Ok read) = read ≡ x
IsReadAs x (Err fault) = fault ≡ Memory

-- the bytes are the text of this log
abbrev pub IsTextOfLog : List ℕ → Log → Type 0
IsTextOfLog bytes log = AreSteps log.steps × (bytes ≡ log_text log.steps)

-- .. of some log
abbrev pub IsLogText : List ℕ → Type 0
IsLogText bytes = (log : Log) × IsTextOfLog bytes log

-- the log whose text the bytes are, or their first faulty line
abbrev pub LogReads : List ℕ → Result Log LogFault → Type 0
LogReads bytes result = IsReading IsLogText (IsTextOfLog bytes) bytes result

-- the text of a log is read as that log
abbrev pub ReadsLogAgain : List ℕ → Result Log LogFault → Type 0
ReadsLogAgain bytes result = (log : Log) → IsTextOfLog bytes log → IsReadAs log result

-- the bytes are the text of this answer
abbrev pub IsTextOfAnswer : List ℕ → Answer → Type 0
IsTextOfAnswer bytes a = IsAnswer a × (bytes ≡ answer_text a)

-- .. of some answer
abbrev pub IsAnswerText : List ℕ → Type 0
IsAnswerText bytes = (a : Answer) × IsTextOfAnswer bytes a

-- the answer whose text the bytes are, or their first faulty line
abbrev pub AnswerReads : List ℕ → Result Answer LogFault → Type 0
AnswerReads bytes result = IsReading IsAnswerText (IsTextOfAnswer bytes) bytes result

-- the text of an answer is read as that answer
abbrev pub ReadsAnswerAgain : List ℕ → Result Answer LogFault → Type 0
ReadsAnswerAgain bytes result = (a : Answer) → IsTextOfAnswer bytes a → IsReadAs a result

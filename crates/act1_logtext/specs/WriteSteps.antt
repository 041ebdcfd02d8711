-- What the writers of logs and of answers add, line by line.
use Rattle.std.specs.Prelude.{ℕ, List, [], ◌∷◌, ◌++◌, map}
use Rattle.act1_channel.specs.declared.problem.Step.{Step}
use Rattle.act1_table.specs.Forms.{line_words}
use Rattle.act1_table.specs.Table.{Form}
use Rattle.act1_table.specs.declared.forms.Given.{Given}
use Rattle.act1_table.specs.declared.forms.LineGiven.{LineGiven}
use Rattle.act1_logtext.specs.Answers.{answer_table, given_of}
use Rattle.act1_logtext.specs.StepLines.{step_line}
use Rattle.act1_logtext.specs.declared.answer.Answer.{Answer}
use Rattle.act1_logtext.specs.declared.answer.Answer.TheVariants as answer
use Rattle.act1_logtext.specs.declared.draft.AnswerLine.TheVariants as line

-- the words of a step, in a table in which its form has this number
abbrev pub step_line_words : List Form → ℕ → Step → List (List ℕ)
step_line_words table form s = line_words table (step_line form s)

-- the words of a track of an answer
abbrev pub take_words : ℕ → List (List ℕ)
take_words track = line_words answer_table (given_of (line.Take track))

-- the words of each line of an answer between the first and the last
abbrev pub body_words : Answer → List (List (List ℕ))
body_words (answer.Assigned tracks) = line_words answer_table (given_of line.Assigned) ∷ map take_words tracks
body_words (answer.Refuted log) = line_words answer_table (given_of line.Refuted) ∷ map (step_line_words answer_table 4) log.steps
body_words (answer.Spent conflicts) = line_words answer_table (given_of (line.Spent conflicts)) ∷ []

-- a line with these words more
abbrev pub with_words : LineGiven → List Given → LineGiven
with_words line words = record line { words = line.words ++ words }

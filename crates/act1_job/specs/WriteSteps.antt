-- What the writer of jobs adds, piece by piece.
use Rattle.std.specs.Prelude.{ℕ, List, [], ◌∷◌}
use Rattle.act1_channel.specs.declared.problem.Connection.{Connection}
use Rattle.act1_table.specs.Forms.{line_words}
use Rattle.act1_job.specs.Lines.{job_table, numbers_line, given_of}
use Rattle.act1_job.specs.declared.line.JobLine.TheVariants as line

-- the words of a track, and of a connection
abbrev pub track_words : List ℕ → List (List ℕ)
track_words breaks = line_words job_table (numbers_line 4 breaks)

abbrev pub connection_words : Connection → List (List ℕ)
connection_words connection = line_words job_table (numbers_line 5 (connection.left ∷ connection.right ∷ []))

-- the words of each line up to the budget
abbrev pub head_words : ℕ → ℕ → ℕ → List (List (List ℕ))
head_words columns k budget =
    line_words job_table (given_of line.Header) ∷ line_words job_table (numbers_line 1 (columns ∷ [])) ∷ line_words job_table (numbers_line 2 (k ∷ []))
    ∷ line_words job_table (given_of (line.Budget budget)) ∷ []

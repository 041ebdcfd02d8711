-- The lines of the text of a job, as a table, and the text of a job. The format is this project's own.
use Rattle.std.specs.Prelude.{ℕ, ◌==◌, if◌then◌else◌, List, [], ◌∷◌, ◌++◌, map, Option, Some, None, codes}
use Rattle.act1_base.specs.Capped.{at_most}
use Rattle.act1_channel.specs.declared.problem.Connection.{Connection}
use Rattle.act1_table.specs.Formats.{LineFormat, text_of}
use Rattle.act1_table.specs.Table.{Form, word, up_to, nothing}
use Rattle.act1_table.specs.Values.{fixed, number, number_at, number_up_to}
use Rattle.act1_table.specs.declared.forms.Given.{Given}
use Rattle.act1_table.specs.declared.forms.LineGiven.{LineGiven}
use Rattle.act1_job.specs.declared.draft.Draft.{Draft}
use Rattle.act1_job.specs.declared.job.Job.{Job}
use Rattle.act1_job.specs.declared.line.JobLine.{JobLine}
use Rattle.act1_job.specs.declared.line.JobLine.TheVariants as line

-- `act1 job 1`
abbrev pub header_form : Form
header_form = record { fields = word (codes "act1") ∷ word (codes "job") ∷ word (codes "1") ∷ []; rest = nothing }

-- `columns COLUMNS`
abbrev pub columns_form : Form
columns_form = record { fields = word (codes "columns") ∷ up_to 64 ∷ []; rest = nothing }

-- `k K`
abbrev pub k_form : Form
k_form = record { fields = word (codes "k") ∷ up_to 64 ∷ []; rest = nothing }

-- `budget BUDGET`
abbrev pub budget_form : Form
budget_form = record { fields = word (codes "budget") ∷ up_to 1000000000000 ∷ []; rest = nothing }

-- `track` and the breaks
abbrev pub track_form : Form
track_form = record { fields = word (codes "track") ∷ []; rest = up_to 64 }

-- `connection LEFT RIGHT`
abbrev pub connection_form : Form
connection_form = record { fields = word (codes "connection") ∷ up_to 64 ∷ up_to 64 ∷ []; rest = nothing }

-- `end`
abbrev pub end_form : Form
end_form = record { fields = word (codes "end") ∷ []; rest = nothing }

abbrev pub job_table : List Form
job_table = header_form ∷ columns_form ∷ k_form ∷ budget_form ∷ track_form ∷ connection_form ∷ end_form ∷ []

-- a fixed word and these numbers
abbrev pub numbers_line : ℕ → List ℕ → LineGiven
numbers_line form numbers = record { form = form; words = fixed ∷ map number numbers }

-- the line of the table that says it
abbrev pub given_of : JobLine → LineGiven
given_of line.Header = record { form = 0; words = fixed ∷ fixed ∷ fixed ∷ [] }
given_of (line.Columns columns) = numbers_line 1 (columns ∷ [])
given_of (line.K k) = numbers_line 2 (k ∷ [])
given_of (line.Budget budget) = numbers_line 3 (budget ∷ [])
given_of (line.Track breaks) = numbers_line 4 breaks
given_of (line.Connection connection) = numbers_line 5 (connection.left ∷ connection.right ∷ [])
given_of line.End = numbers_line 6 []

-- the track of the words behind the first
abbrev pub track_of : List Given → Option JobLine
track_of [] = None
track_of (first ∷ words) = Some (line.Track (map (number_up_to 64) words))

-- the number of the word at a place
abbrev pub small_at : List Given → ℕ → ℕ
small_at words i = at_most 64 (number_at words i)

-- the connection of the words
abbrev pub connection_of : List Given → Connection
connection_of words = record { left = small_at words 1; right = small_at words 2 }

-- what a line of the table says
abbrev pub line_of : LineGiven → Option JobLine
line_of given =
    if given.form == 0 then Some line.Header
    else if given.form == 1 then Some (line.Columns (small_at given.words 1))
    else if given.form == 2 then Some (line.K (small_at given.words 1))
    else if given.form == 3 then Some (line.Budget (at_most 1000000000000 (number_at given.words 1)))
    else if given.form == 4 then track_of given.words
    else if given.form == 5 then Some (line.Connection (connection_of given.words))
    else if given.form == 6 then Some line.End
    else None

abbrev pub job_format : LineFormat JobLine
job_format = record { table = job_table; given_of = given_of; line_of = line_of }

-- the lines of a draft up to its connections
abbrev pub body_lines : Draft → List JobLine
body_lines d =
    line.Header ∷ line.Columns d.columns ∷ line.K d.k ∷ line.Budget d.budget
    ∷ (map (λ (breaks : List ℕ). line.Track breaks) d.tracks ++ map (λ (connection : Connection). line.Connection connection) d.connections)

-- all its lines
abbrev pub draft_lines : Draft → List JobLine
draft_lines d = body_lines d ++ line.End ∷ []

-- its one text
unfoldable pub draft_text : Draft → List ℕ
draft_text d = text_of job_format (draft_lines d)

-- what the lines of a job say
abbrev pub draft_of : Job → Draft
draft_of job =
    record { columns = job.problem.columns; k = job.problem.k; budget = job.budget; tracks = job.problem.tracks; connections = job.problem.connections }

-- the one text of a job
abbrev pub job_text : Job → List ℕ
job_text job = draft_text (draft_of job)

-- Worked examples of jobs and their texts.
use Rattle.std.proofs.Common.{ℕ, ◌≡◌, true, List, [], ◌∷◌, refl}
use Rattle.std.specs.Prelude.{codes, Result, Ok, Err}
use Rattle.std.specs.Fmt.{digits}
use Rattle.act1_base.specs.Texts.{reading}
use Rattle.act1_base.specs.declared.texts.TextFault.{TextFault}
use Rattle.act1_channel.specs.declared.problem.Connection.{Connection}
use Rattle.act1_job.specs.Jobs.{is_job}
use Rattle.act1_job.specs.Lines.{draft_of, draft_text, job_text}
use Rattle.act1_job.specs.Steps.{Fault, job_rules}
use Rattle.act1_job.specs.declared.draft.Draft.{Draft}
use Rattle.act1_job.specs.declared.job.Job.{Job}
use Rattle.act1_job.specs.declared.line.JobState.{JobState}
use Rattle.act1_job.specs.declared.line.JobState.TheVariants.{End}
use Rattle.act1_samples.proofs.Channels.{cut}

abbrev says : ℕ → ℕ → ℕ → List (List ℕ) → List Connection → Draft
says columns k budget tracks connections = record { columns = columns; k = k; budget = budget; tracks = tracks; connections = connections }

abbrev from : ℕ → ℕ → Connection
from left right = record { left = left; right = right }

-- what is read of a text: a job, or the number of the first faulty line
abbrev read : List ℕ → Result JobState (TextFault Fault)
read bytes = reading job_rules bytes

abbrev Reads : List ℕ → Draft → Type 0
Reads bytes said = read bytes ≡ Ok (End said)

abbrev FaultsAt : List ℕ → ℕ → Type 0
FaultsAt bytes n = read bytes ≡ Err (record { line = n; kind = tt })

-- one track of three segments, and a connection that overlaps all of them
abbrev pub at_the_bound : Job
at_the_bound = record { problem = cut; budget = 10 }

bound_fits : is_job at_the_bound ≡ true
bound_fits = refl

bound_text : job_text at_the_bound ≡ codes "act1 job 1\ncolumns 9\nk 3\nbudget 10\ntrack 3 6\nconnection 2 6\nend\n"
unfolding draft_text digits
bound_text = refl

bound_read : Reads (codes "act1 job 1\ncolumns 9\nk 3\nbudget 10\ntrack 3 6\nconnection 2 6\nend\n") (draft_of at_the_bound)
bound_read = refl

-- two tracks, one of which has no break, and three connections
two_tracks : Reads (codes "act1 job 1\ncolumns 6\nk 3\nbudget 1\ntrack\ntrack 2\nconnection 0 3\nconnection 1 4\nconnection 2 5\nend\n") (says 6 3 1 ([] ∷ (2 ∷ []) ∷ []) (from 0 3 ∷ from 1 4 ∷ from 2 5 ∷ []))
two_tracks = refl

-- no connections
no_connections : Reads (codes "act1 job 1\ncolumns 64\nk 64\nbudget 1000000000000\ntrack 1 63\nend\n") (says 64 64 1000000000000 ((1 ∷ 63 ∷ []) ∷ []) [])
no_connections = refl

-- texts that are cut, or go on
cut_off : FaultsAt (codes "act1 job 1\ncolumns 9\nk 3\nbudget 10\ntrack 3 6\nconnection 2 6\n") 7
cut_off = refl

empty : FaultsAt [] 1
empty = refl

without_line_feed : FaultsAt (codes "act1 job 1\ncolumns 9\nk 3\nbudget 10\ntrack 3 6\nend") 6
without_line_feed = refl

goes_on : FaultsAt (codes "act1 job 1\ncolumns 9\nk 3\nbudget 10\ntrack\nend\nend\n") 7
goes_on = refl

-- another header
other_header : FaultsAt (codes "act1 fuses 1\n") 1
other_header = refl

-- numbers out of their range, or spelled otherwise
few_columns : FaultsAt (codes "act1 job 1\ncolumns 1\n") 2
few_columns = refl

many_columns : FaultsAt (codes "act1 job 1\ncolumns 65\n") 2
many_columns = refl

leading_zero : FaultsAt (codes "act1 job 1\ncolumns 09\n") 2
leading_zero = refl

no_segments : FaultsAt (codes "act1 job 1\ncolumns 9\nk 0\n") 3
no_segments = refl

no_budget : FaultsAt (codes "act1 job 1\ncolumns 9\nk 3\nbudget 0\n") 4
no_budget = refl

large_budget : FaultsAt (codes "act1 job 1\ncolumns 9\nk 3\nbudget 1000000000001\n") 4
large_budget = refl

-- words that are parted by two spaces, and a space at the end
two_spaces : FaultsAt (codes "act1 job 1\ncolumns  9\n") 2
two_spaces = refl

space_at_end : FaultsAt (codes "act1 job 1\ncolumns 9 \n") 2
space_at_end = refl

-- breaks that don't rise, at no column, and at the columns
breaks_equal : FaultsAt (codes "act1 job 1\ncolumns 9\nk 3\nbudget 10\ntrack 3 3\n") 5
breaks_equal = refl

break_at_zero : FaultsAt (codes "act1 job 1\ncolumns 9\nk 3\nbudget 10\ntrack 0\n") 5
break_at_zero = refl

break_at_columns : FaultsAt (codes "act1 job 1\ncolumns 9\nk 3\nbudget 10\ntrack 9\n") 5
break_at_columns = refl

-- connections before the tracks, tracks behind them, and connections that lie outside
no_track : FaultsAt (codes "act1 job 1\ncolumns 9\nk 3\nbudget 10\nconnection 0 1\n") 5
no_track = refl

track_behind : FaultsAt (codes "act1 job 1\ncolumns 9\nk 3\nbudget 10\ntrack\nconnection 0 1\ntrack\n") 7
track_behind = refl

turned : FaultsAt (codes "act1 job 1\ncolumns 9\nk 3\nbudget 10\ntrack\nconnection 2 1\n") 6
turned = refl

outside : FaultsAt (codes "act1 job 1\ncolumns 9\nk 3\nbudget 10\ntrack\nconnection 2 9\n") 6
outside = refl

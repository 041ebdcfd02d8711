-- What a call asks helpers for, and in which order it starts and finishes them.
use Rattle.std.specs.Prelude.{ℕ, ◌≡◌, Bool, true, false, ◌&&◌, IsTrue, IsFalse, nat_lt, List, [], ◌∷◌, ◌++◌, length, filter, map, slice_get, Option, Some, None, Contains}
use Rattle.act1_outside.specs.Outside.{without}
use Rattle.act1_outside.specs.declared.helpers.Entry.{Entry}
use Rattle.act1_outside.specs.declared.helpers.Entry.TheVariants as entry
use Rattle.act1_channel.specs.declared.problem.Problem.{Problem}
use Rattle.act1_job.specs.Lines.{job_text}
use Rattle.act1_farm.specs.Usable.{IsUsable}

-- the text of the job of a problem with this budget
abbrev pub job_bytes : ℕ → Problem → List ℕ
job_bytes budget p = job_text (record { problem = p; budget = budget })

abbrev pub jobs_of : ℕ → List Problem → List (List ℕ)
jobs_of budget problems = map (job_bytes budget) problems

-- the problem is one for helpers
abbrev pub has_connections : Problem → Bool
has_connections p = nat_lt 0 (length p.connections)

-- the problems that are asked for
abbrev pub asked_for : List Problem → List Problem
asked_for problems = filter has_connections problems

-- the tickets that are unfinished after these entries, the oldest first, where some were unfinished before them
abbrev pub unfinished_from : List ℕ → List Entry → List ℕ
unfinished_from tickets [] = tickets
unfinished_from tickets (entry.Started program job t ∷ s) = unfinished_from (tickets ++ t ∷ []) s
unfinished_from tickets (entry.Refused program job ∷ s) = unfinished_from tickets s
unfinished_from tickets (entry.Answered t bytes ∷ s) = unfinished_from (without t tickets) s
unfinished_from tickets (entry.Lost t ∷ s) = unfinished_from (without t tickets) s

abbrev pub unfinished : List Entry → List ℕ
unfinished s = unfinished_from [] s

-- what was asked for: of each entry that is `Started` or `Refused` the ticket, if it has one, in order
abbrev pub asks : List Entry → List (Option ℕ)
asks [] = []
asks (entry.Started program job t ∷ s) = Some t ∷ asks s
asks (entry.Refused program job ∷ s) = None ∷ asks s
asks (entry.Answered t bytes ∷ s) = asks s
asks (entry.Lost t ∷ s) = asks s

-- the entry asks this program for this job
abbrev pub Asks : List ℕ → List ℕ → Entry → Type 0
Asks program job (entry.Started p j t) = (p ≡ program) × (j ≡ job)
Asks program job (entry.Refused p j) = (p ≡ program) × (j ≡ job)
Asks program job (entry.Answered t bytes) = ⊥
Asks program job (entry.Lost t) = ⊥

-- the entry finishes this ticket
abbrev pub Ends : ℕ → Entry → Type 0
Ends ticket (entry.Started p j t) = ⊥
Ends ticket (entry.Refused p j) = ⊥
Ends ticket (entry.Answered t bytes) = t ≡ ticket
Ends ticket (entry.Lost t) = t ≡ ticket

-- fewer than `most` tickets are unfinished, and a job is left to ask for
abbrev pub may_ask : List (List ℕ) → ℕ → List Entry → Bool
may_ask jobs most before = nat_lt (length (unfinished before)) most && nat_lt (length (asks before)) (length jobs)

-- the entry asks for the next job where that may be, and else finishes the oldest unfinished ticket
pub record MayFollow (program : List ℕ) (jobs : List (List ℕ)) (most : ℕ) (before : List Entry) (e : Entry) : Type 0 where
  pub asking : IsTrue (may_ask jobs most before) → (job : List ℕ) × (slice_get jobs (length (asks before)) ≡ Some job) × Asks program job e
  pub finishing : IsFalse (may_ask jobs most before) → (ticket : ℕ) × (slice_get (unfinished before) 0 ≡ Some ticket) × Ends ticket e

-- each entry may follow those before it
abbrev pub AreInOrder : List ℕ → List (List ℕ) → ℕ → List Entry → List Entry → Type 0
AreInOrder program jobs most before [] = Unit {0}
AreInOrder program jobs most before (e ∷ later) = MayFollow program jobs most before e × AreInOrder program jobs most (before ++ e ∷ []) later

-- the story of these jobs: in order, with all jobs asked for and no ticket unfinished
pub record IsStory (program : List ℕ) (jobs : List (List ℕ)) (most : ℕ) (s : List Entry) : Type 0 where
  pub order : AreInOrder program jobs most [] s
  pub all : length (asks s) ≡ length jobs
  pub finished : unfinished s ≡ []

-- the story of these problems: helpers are asked for the jobs of those with connections
abbrev pub Story : List Problem → ℕ → ℕ → List ℕ → List Entry → Type 0
Story problems budget most program s = IsStory program (jobs_of budget (asked_for problems)) most s

-- the entry, after those before it, belongs to the problem that was asked for as this one
abbrev pub Belongs : List Entry → Entry → ℕ → Type 0
Belongs before (entry.Started p j t) i = i ≡ length (asks before)
Belongs before (entry.Refused p j) i = i ≡ length (asks before)
Belongs before (entry.Answered t bytes) i = slice_get (asks before) i ≡ Some (Some t)
Belongs before (entry.Lost t) i = slice_get (asks before) i ≡ Some (Some t)

-- what was asked for has tickets of its own
abbrev pub HaveOwnTickets : List Entry → Type 0
HaveOwnTickets s = (i j t : ℕ) → slice_get (asks s) i ≡ Some (Some t) → slice_get (asks s) j ≡ Some (Some t) → i ≡ j

-- these bytes were answered for what was asked for as this one
abbrev pub IsAnswered : List Entry → ℕ → List ℕ → Type 0
IsAnswered s i bytes = (t : ℕ) × (slice_get (asks s) i ≡ Some (Some t)) × Contains s (entry.Answered t bytes)

-- a usable answer came for it
abbrev pub HasUsable : List Problem → List Entry → ℕ → Type 0
HasUsable wanted s i = (p : Problem) × (bytes : List ℕ) × (slice_get wanted i ≡ Some p) × IsAnswered s i bytes × IsUsable p bytes

-- the entry is one of a failed start or finish
abbrev pub is_fault : Entry → Bool
is_fault (entry.Started p j t) = false
is_fault (entry.Refused p j) = true
is_fault (entry.Answered t bytes) = false
is_fault (entry.Lost t) = true

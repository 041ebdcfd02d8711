-- What a job is: a channel problem, and a budget within its range.
use Rattle.std.specs.Prelude.{ℕ, Bool, true, ◌&&◌, nat_lt, List, [], ◌∷◌}
use Rattle.act1_channel.specs.Ranges.{is_within, is_problem}
use Rattle.act1_job.specs.declared.draft.Draft.{Draft}
use Rattle.act1_job.specs.declared.job.Job.{Job}

-- each break is above the one before, the first above this number, and all are below the columns
abbrev pub breaks_rise : ℕ → ℕ → List ℕ → Bool
breaks_rise columns before [] = true
breaks_rise columns before (b ∷ breaks) = nat_lt before b && nat_lt b columns && breaks_rise columns b breaks

-- the breaks of a track rise, from 1 on and below the columns
abbrev pub are_breaks : ℕ → List ℕ → Bool
are_breaks columns breaks = breaks_rise columns 0 breaks

-- the range of a budget
abbrev pub is_budget : ℕ → Bool
is_budget budget = is_within 1 1000000000000 budget

-- a job, whose problem keeps its own ranges
abbrev pub is_job : Job → Bool
is_job job = is_budget job.budget

-- a draft that is a job
abbrev pub is_draft : Draft → Bool
is_draft d = is_problem d.columns d.k d.tracks d.connections && is_budget d.budget

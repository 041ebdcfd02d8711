-- A story of three jobs for two helpers at a time, of which the first can't be started; what is none; and a farm's events.
use Rattle.std.proofs.Common.{ℕ, ◌≡◌, nat_eq, Bool, true, false, List, [], ◌∷◌, replicate, refl, sym, ap}
use Rattle.std.proofs.lemmas.Bool.{true≢false}
use Rattle.act1_base.proofs.ListGets.{some_is}
use Rattle.act1_outside.specs.declared.helpers.Entry.{Entry}
use Rattle.act1_outside.specs.declared.helpers.Entry.TheVariants as entry
use Rattle.act1_farm.specs.declared.event.Event.{Event}
use Rattle.act1_farm.specs.declared.event.Event.TheVariants as event
use Rattle.act1_farm.specs.declared.event.JobState.TheVariants as state
use Rattle.act1_farm.specs.Story.{IsStory, MayFollow}
use Rattle.act1_farm.specs.Farm.{after_all, states_after}

abbrev program : List ℕ
program = 120 ∷ []

abbrev jobs : List (List ℕ)
jobs = (1 ∷ []) ∷ (2 ∷ []) ∷ (3 ∷ []) ∷ []

abbrev refused : Entry
refused = entry.Refused (120 ∷ []) (1 ∷ [])

abbrev second : Entry
second = entry.Started (120 ∷ []) (2 ∷ []) 0

abbrev third : Entry
third = entry.Started (120 ∷ []) (3 ∷ []) 1

abbrev answered : Entry
answered = entry.Answered 0 (7 ∷ [])

abbrev lost : Entry
lost = entry.Lost 1

-- the first is refused, two are started, and then the older one is finished before the newer one
pub is_story : IsStory program jobs 2 (refused ∷ second ∷ third ∷ answered ∷ lost ∷ [])
is_story = record {
  order = (
    record { asking = λ goes. (1 ∷ [], refl, (refl, refl)); finishing = λ stop. absurd (true≢false stop) },
    (
      record { asking = λ goes. (2 ∷ [], refl, (refl, refl)); finishing = λ stop. absurd (true≢false stop) },
      (
        record { asking = λ goes. (3 ∷ [], refl, (refl, refl)); finishing = λ stop. absurd (true≢false stop) },
        (
          record { asking = λ goes. absurd (true≢false (sym goes)); finishing = λ stop. (0, refl, refl) },
          (
            record { asking = λ goes. absurd (true≢false (sym goes)); finishing = λ stop. (1, refl, refl) },
            tt,
          ),
        ),
      ),
    ),
  );
  all = refl;
  finished = refl;
}

-- the newer one isn't finished first
pub newest_first : MayFollow program jobs 2 (refused ∷ second ∷ third ∷ []) lost → ⊥
newest_first m = let f = m.finishing refl in let oldest = some_is 0 f.0 f.1 in let newest = f.2 in cc

-- with one helper at a time, the next isn't started while one runs
pub started_too_early : MayFollow program jobs 1 (refused ∷ second ∷ []) third → ⊥
started_too_early m = (m.finishing refl).2

-- and with two, the older isn't finished while the next may be started
pub finished_too_early : MayFollow program jobs 2 (refused ∷ second ∷ []) answered → ⊥
finished_too_early m = (m.asking refl).2

abbrev begins_so : List ℕ → Bool
begins_so [] = false
begins_so (n ∷ ns) = nat_eq n 121

-- another program isn't asked
pub other_is_asked : MayFollow program jobs 2 [] (entry.Refused (121 ∷ []) (1 ∷ [])) → ⊥
other_is_asked m = true≢false (ap begins_so (m.asking refl).2.0)

-- a story has all jobs, and leaves no helper unfinished
pub job_left_out : IsStory program jobs 2 (refused ∷ second ∷ answered ∷ []) → ⊥
job_left_out s = let all = s.all in cc

pub helper_left : IsStory program jobs 2 (refused ∷ second ∷ third ∷ answered ∷ []) → ⊥
helper_left s = let finished = s.finished in cc

-- a job that no helper has is own, one whose answer is usable is taken, and an event that doesn't fit changes nothing
pub states : after_all (replicate 3 state.Waiting) (event.Failed 0 ∷ event.Started 1 ∷ event.Started 2 ∷ event.Answered 1 true ∷ event.Answered 2 false ∷ []) ≡ state.Own ∷ state.Taken ∷ state.Own ∷ []
states = refl

pub unfit : states_after (state.Taken ∷ state.Running ∷ []) (event.Failed 0) ≡ state.Taken ∷ state.Running ∷ []
unfit = refl

pub unfit_start : states_after (state.Taken ∷ state.Running ∷ []) (event.Started 1) ≡ state.Taken ∷ state.Running ∷ []
unfit_start = refl

pub no_such_job : states_after (state.Waiting ∷ []) (event.Started 1) ≡ state.Waiting ∷ []
no_such_job = refl

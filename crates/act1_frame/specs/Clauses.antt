-- What a run of a command says, whatever the command is: of the files that it reads and writes, and of the endings that the words and files allow.
use Rattle.std.specs.Prelude.{ℕ, ◌≡◌, ◌≢◌, ◌⊎◌, IsTrue, List, Contains}
use Rattle.act1_outside.specs.Faults.{Rose}
use Rattle.act1_outside.specs.Outside.{Shelf}
use Rattle.act1_frame.specs.declared.ending.Ending.{Ending}
use Rattle.act1_frame.specs.Leaving.{WriteFailed, Leaves, LeavesNothing}
use Rattle.act1_frame.specs.Reading.{Wanted, ReadFailed, IsTooLong}
use Rattle.act1_frame.specs.World.{World}

-- the command ends as one that may end so, or finds no memory while it is decided; what it then leaves is that ending's
abbrev pub RunEnds : (Shelf → Shelf → Ending → Type 0) → World → ℕ → World → Type 0
RunEnds May before result after =
    ((e : Ending) × May before.shelf after.shelf e × Leaves e before.shelf before.paper result after.shelf after.paper)
    ⊎ LeavesNothing before.shelf before.paper result after.shelf after.paper

-- a read of one of the files failed in this call
abbrev pub HasReadFault : List Wanted → Shelf → Shelf → Type 0
HasReadFault reads before after = (wanted : Wanted) × Contains reads wanted × ReadFailed before after wanted.name

-- one of the files holds more than is read
abbrev pub HasLongFile : List Wanted → Shelf → Type 0
HasLongFile reads before = (wanted : Wanted) × Contains reads wanted × IsTooLong before wanted

-- a put, or a write of one of the files, failed in this call
abbrev pub HasWriteFault : List (List ℕ) → World → World → Type 0
HasWriteFault writes before after =
    Rose before.paper.faults after.paper.faults ⊎ ((name : List ℕ) × Contains writes name × WriteFailed name before.shelf after.shelf)

-- this status comes, but for a fault of writing, which makes it 3, and want of memory, which makes it 15
abbrev pub Answers : ℕ → List (List ℕ) → World → ℕ → World → Type 0
Answers status writes before result after = (result ≡ status) ⊎ (((result ≡ 3) × HasWriteFault writes before after) ⊎ (result ≡ 15))

-- one of the endings between which the command may choose is answered
abbrev pub AnswersChosen : (Ending → Type 0) → (Shelf → Shelf → Ending → Type 0) → List (List ℕ) → World → ℕ → World → Type 0
AnswersChosen Chosen May writes before result after = (e : Ending) × May before.shelf after.shelf e × Chosen e × Answers e.status writes before result after

-- Where the object tells its content and no read failed: a cause that stands is answered. There is one status that the words and files allow, whatever the program does; but where the ending is one of those between which the command may choose, one of these is answered.
abbrev pub CausesAreAnswered : (Ending → Type 0) → (Shelf → Shelf → Ending → Type 0) → List Wanted → List (List ℕ) → World → ℕ → World → Type 0
CausesAreAnswered Chosen May reads writes before result after =
    IsTrue before.shelf.tells → (HasReadFault reads before.shelf after.shelf → ⊥) → (e : Ending) → May before.shelf after.shelf e
    → Answers e.status writes before result after ⊎ (Chosen e × AnswersChosen Chosen May writes before result after)

-- where no fault of writing was counted and no cause of another status stands, the status is 0 or 15
abbrev pub IsComplete : (Shelf → Shelf → Ending → Type 0) → List (List ℕ) → World → ℕ → World → Type 0
IsComplete May writes before result after =
    (HasWriteFault writes before after → ⊥) → ((e : Ending) → May before.shelf after.shelf e → e.status ≡ 0) → (result ≡ 0) ⊎ (result ≡ 15)

-- every name but these holds what it held
abbrev pub KeepsAllBut : List (List ℕ) → World → World → Type 0
KeepsAllBut names before after = IsTrue before.shelf.tells → (n : List ℕ) → (Contains names n → ⊥) → after.shelf.held n ≡ before.shelf.held n

-- at every status but 3 and 15 every name holds what it held, but for those that are written at that status
abbrev pub KeepsWhatIsNotWritten : (ℕ → List (List ℕ)) → World → ℕ → World → Type 0
KeepsWhatIsNotWritten writes_at before result after = result ≢ 3 → result ≢ 15 → KeepsAllBut (writes_at result) before after

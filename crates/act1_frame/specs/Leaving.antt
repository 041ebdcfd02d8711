-- What an ending leaves: what is written and printed, and the status.
use Rattle.std.specs.Prelude.{ℕ, ◌≡◌, ◌⊎◌, IsTrue, List, [], ◌∷◌, ◌++◌, codes, Option, Some, None, IfSome}
use Rattle.act1_base.specs.Words.{text_line}
use Rattle.act1_outside.specs.Faults.{Rose}
use Rattle.act1_outside.specs.Outside.{Shelf, Paper, SameHeld, OthersHeld, AddsFront}
use Rattle.act1_frame.specs.declared.ending.Ending.{Ending}
use Rattle.act1_frame.specs.declared.ending.FileText.{FileText}

-- the whole text was printed, where the object tells it
abbrev pub PrintsAll : List ℕ → Paper → Paper → Type 0
PrintsAll text before after = IfSome before.printed (λ old. after.printed ≡ Some (old ++ text))

-- the first few bytes of the text were printed, where the object tells it
abbrev pub PrintsFront : List ℕ → Paper → Paper → Type 0
PrintsFront text before after = IfSome before.printed (λ old. IfSome after.printed (AddsFront text old))

-- the text is printed and the status answered; or the put failed, which makes it 3, or found no memory, which makes it 15, each only where it was counted, and nothing more is printed
abbrev pub Says : List ℕ → ℕ → Paper → ℕ → Paper → Type 0
Says text status before result after =
    ((result ≡ status) × PrintsAll text before after)
    ⊎ (((result ≡ 3) × Rose before.faults after.faults × PrintsFront text before after)
    ⊎ ((result ≡ 15) × Rose before.unprinted after.unprinted × PrintsFront text before after))

-- what is printed where there was no memory
abbrev pub memory_text : List ℕ
memory_text = codes "memory\n"

-- what is printed where a file couldn't be written
abbrev pub write_fault_text : List ℕ → List ℕ
write_fault_text name = text_line (codes "write fault" ∷ name ∷ [])

-- the name holds these bytes, where the object tells its content
abbrev pub NowHolds : List ℕ → List ℕ → Shelf → Shelf → Type 0
NowHolds name bytes before after = IsTrue before.tells → after.held name ≡ Some bytes

-- a write of the name failed
abbrev pub WriteFailed : List ℕ → Shelf → Shelf → Type 0
WriteFailed name before after = Rose (before.write_faults name) (after.write_faults name)

-- a write found no memory
abbrev pub WriteFoundNoMemory : Shelf → Shelf → Type 0
WriteFoundNoMemory before after = Rose before.unwritten after.unwritten

-- nothing was written, for want of memory
abbrev pub LeavesNothing : Shelf → Paper → ℕ → Shelf → Paper → Type 0
LeavesNothing before blank result after paper = SameHeld before after × Says memory_text 15 blank result paper

-- every other name holds what it held. The file is written whole and the text printed; or its write failed, which is what is then printed, or its write found no memory, each only where it was counted
abbrev pub LeavesFile : List ℕ → List ℕ → List ℕ → ℕ → Shelf → Paper → ℕ → Shelf → Paper → Type 0
LeavesFile name bytes text status before blank result after paper =
    OthersHeld name before after
    × ((NowHolds name bytes before after × Says text status blank result paper)
    ⊎ ((WriteFailed name before after × Says (write_fault_text name) 3 blank result paper)
    ⊎ (WriteFoundNoMemory before after × Says memory_text 15 blank result paper)))

-- with no file the text is printed, and every name holds what it held
abbrev pub LeavesWith : Option FileText → List ℕ → ℕ → Shelf → Paper → ℕ → Shelf → Paper → Type 0
LeavesWith None text status before blank result after paper = SameHeld before after × Says text status blank result paper
LeavesWith (Some file) text status before blank result after paper = LeavesFile file.name file.bytes text status before blank result after paper

-- what a decided ending leaves
abbrev pub Leaves : Ending → Shelf → Paper → ℕ → Shelf → Paper → Type 0
Leaves e before blank result after paper = LeavesWith e.file e.text e.status before blank result after paper ⊎ LeavesNothing before blank result after paper

-- What is seen of files, of a place to print and of helpers, and what a call may do to it.
use Rattle.std.specs.Prelude.{ℕ, ◌≡◌, ◌≢◌, ◌-◌, ◌^◌, ◌<◌, ◌≤◌, nat_eq, Bool, not, IsTrue, List, [], ◌∷◌, ◌++◌, length, take, filter, Option, Some, IfSome, is_some, Result, IfOk, OnOk, OnErr, IsErr, IsErrOf, Vec}
use Rattle.std.specs.Option.{option_map}
use Rattle.std.specs.declared.alloc.Global.{Global}
use Rattle.act1_outside.specs.Faults.{Rose, OnlyAt, count_after, lacks_memory, put_lacks_memory}
use Rattle.act1_outside.specs.declared.files.FileFault.{FileFault}
use Rattle.act1_outside.specs.declared.files.FileFault.TheVariants as file_fault
use Rattle.act1_outside.specs.declared.sink.SinkFault.{SinkFault}
use Rattle.act1_outside.specs.declared.sink.SinkFault.TheVariants as sink_fault
use Rattle.act1_outside.specs.declared.helpers.HelperFault.{HelperFault}
use Rattle.act1_outside.specs.declared.helpers.HelperFault.TheVariants as helper_fault
use Rattle.act1_outside.specs.declared.helpers.Entry.{Entry}
use Rattle.act1_outside.specs.declared.helpers.Entry.TheVariants as entry

-- files: whether the object tells what its names hold, what they hold, how often reads and writes of a name have failed, and how often a write found no memory
pub record Shelf : Type 0 where
  pub tells : Bool
  pub held : List ℕ → Option (List ℕ)
  pub read_faults : List ℕ → ℕ
  pub write_faults : List ℕ → ℕ
  pub unwritten : ℕ

-- every name holds what it held, where that is told
abbrev pub SameHeld : Shelf → Shelf → Type 0
SameHeld before after = IsTrue before.tells → (n : List ℕ) → after.held n ≡ before.held n

-- every other name holds what it held, where that is told
abbrev pub OthersHeld : List ℕ → Shelf → Shelf → Type 0
OthersHeld name before after = IsTrue before.tells → (n : List ℕ) → n ≢ name → after.held n ≡ before.held n

-- no count has changed
pub record SameFaults (before after : Shelf) : Type 0 where
  pub reads : (n : List ℕ) → after.read_faults n ≡ before.read_faults n
  pub writes : (n : List ℕ) → after.write_faults n ≡ before.write_faults n
  pub memory : after.unwritten ≡ before.unwritten

-- what a read may answer and leave: the content of the name, and no more bytes than were asked for
pub record Reads (name : List ℕ) (most : ℕ) (before : Shelf) (result : Result (Vec ℕ Global) FileFault) (after : Shelf) : Type 0 where
  pub bytes : IsTrue before.tells → IfOk result (λ (bytes : Vec ℕ Global). before.held name ≡ Some bytes.items)
  pub bound : IfOk result (λ (bytes : Vec ℕ Global). length bytes.items ≤ most)
  pub too_long : IsTrue before.tells → IsErrOf result file_fault.TooLong → (bytes : List ℕ) × (before.held name ≡ Some bytes) × (most < length bytes)
  pub failed : IsErrOf result file_fault.Failed → Rose (before.read_faults name) (after.read_faults name)
  pub tells : after.tells ≡ before.tells
  pub held : SameHeld before after
  pub reads : OnlyAt name before.read_faults after.read_faults
  pub writes : (n : List ℕ) → after.write_faults n ≡ before.write_faults n
  pub memory : after.unwritten ≡ before.unwritten

-- what a write may answer and leave: these bytes under the name, or at an error anything; and it is counted where it found no memory
pub record Writes (name bytes : List ℕ) (before : Shelf) (result : Result (Unit {0}) FileFault) (after : Shelf) : Type 0 where
  pub holds : IsTrue before.tells → OnOk result (after.held name ≡ Some bytes)
  pub never_long : IsErrOf result file_fault.TooLong → ⊥
  pub failed : IsErrOf result file_fault.Failed → Rose (before.write_faults name) (after.write_faults name)
  pub tells : after.tells ≡ before.tells
  pub others : OthersHeld name before after
  pub reads : (n : List ℕ) → after.read_faults n ≡ before.read_faults n
  pub writes : OnlyAt name before.write_faults after.write_faults
  pub memory : after.unwritten ≡ count_after (lacks_memory result) before.unwritten

-- a place to print: the bytes so far, where the object tells them, how often a put has failed, and how often one found no memory
pub record Paper : Type 0 where
  pub printed : Option (List ℕ)
  pub faults : ℕ
  pub unprinted : ℕ

-- the first few of the bytes were added
abbrev pub AddsFront : List ℕ → List ℕ → List ℕ → Type 0
AddsFront bytes before now = (n : ℕ) × (now ≡ before ++ take n bytes)

-- what a put may answer and leave: all its bytes, or at an error the first few of them; and it is counted where it found no memory
pub record Puts (bytes : List ℕ) (before : Paper) (result : Result (Unit {0}) SinkFault) (after : Paper) : Type 0 where
  pub ok : OnOk result (IfSome before.printed (λ text. after.printed ≡ Some (text ++ bytes)))
  pub err : OnErr result (IfSome before.printed (λ text. IfSome after.printed (AddsFront bytes text)))
  pub tells : is_some after.printed ≡ is_some before.printed
  pub failed : IsErrOf result sink_fault.Failed → Rose before.faults after.faults
  pub later : before.faults ≤ after.faults
  pub memory : after.unprinted ≡ count_after (put_lacks_memory result) before.unprinted

-- helpers: the open tickets, the next ticket, how often a start or a finish has failed, and the story, where the object tells it
pub record Bench : Type 0 where
  pub open_tickets : List ℕ
  pub next : ℕ
  pub faults : ℕ
  pub story : Option (List Entry)

-- the story with one more entry, where it is told
abbrev pub with_entry : Entry → Option (List Entry) → Option (List Entry)
with_entry added story = option_map (λ entries. entries ++ added ∷ []) story

-- the tickets without this one
abbrev pub without : ℕ → List ℕ → List ℕ
without ticket tickets = filter (λ t. not (nat_eq t ticket)) tickets

-- the open tickets and the next one are as before
pub record SameTickets (before after : Bench) : Type 0 where
  pub open_tickets : after.open_tickets ≡ before.open_tickets
  pub next : after.next ≡ before.next

-- what a start may answer and leave: the next ticket, open, or at an error the tickets as before
pub record Starts (program job : List ℕ) (before : Bench) (result : Result ℕ HelperFault) (after : Bench) : Type 0 where
  pub ticket : IfOk result (λ t. t ≡ before.next)
  pub opens : OnOk result (after.open_tickets ≡ before.open_tickets ++ before.next ∷ [])
  pub raises : OnOk result (before.next < after.next)
  pub err : OnErr result (SameTickets before after)
  pub last : 2 ^ 64 - 1 ≤ before.next → IsErr result
  pub started : IfOk result (λ t. after.story ≡ with_entry (entry.Started program job t) before.story)
  pub refused : IsErrOf result helper_fault.Failed → after.story ≡ with_entry (entry.Refused program job) before.story
  pub silent : IsErrOf result helper_fault.Memory → after.story ≡ before.story
  pub failed : IsErrOf result helper_fault.Failed → Rose before.faults after.faults
  pub later : before.faults ≤ after.faults

-- what a finish may answer and leave: an answer of at most 268,435,456 bytes or an error, and the ticket closed
pub record Finishes (ticket : ℕ) (before : Bench) (result : Result (Vec ℕ Global) HelperFault) (after : Bench) : Type 0 where
  pub bound : IfOk result (λ (bytes : Vec ℕ Global). length bytes.items ≤ 268435456)
  pub closes : after.open_tickets ≡ without ticket before.open_tickets
  pub next : after.next ≡ before.next
  pub answered : IfOk result (λ (bytes : Vec ℕ Global). after.story ≡ with_entry (entry.Answered ticket bytes.items) before.story)
  pub lost : IsErrOf result helper_fault.Failed → after.story ≡ with_entry (entry.Lost ticket) before.story
  pub silent : IsErrOf result helper_fault.Memory → after.story ≡ before.story
  pub failed : IsErrOf result helper_fault.Failed → Rose before.faults after.faults
  pub later : before.faults ≤ after.faults

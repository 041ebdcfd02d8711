-- Counts of faults.
use Rattle.std.specs.Prelude.{ℕ, ◌≡◌, ◌≢◌, ◌+◌, ◌-◌, ◌^◌, ◌≤◌, ◌⊎◌, min, Bool, true, false, if◌then◌else◌, List, Result, Ok, Err, IsErrOf}
use Rattle.act1_outside.specs.declared.files.FileFault.{FileFault}
use Rattle.act1_outside.specs.declared.files.FileFault.TheVariants as file_fault
use Rattle.act1_outside.specs.declared.sink.SinkFault.{SinkFault}
use Rattle.act1_outside.specs.declared.sink.SinkFault.TheVariants as sink_fault

-- the count after one more; it stops at the greatest value of a `u64`
abbrev pub next_count : ℕ → ℕ
next_count before = min (before + 1) (2 ^ 64 - 1)

-- the count rose, or stands at the greatest value of a `u64`
abbrev pub Rose : ℕ → ℕ → Type 0
Rose before now = next_count before ≤ now

-- the count of this name has not fallen, and that of no other name has changed
pub record OnlyAt (name : List ℕ) (before now : List ℕ → ℕ) : Type 0 where
  pub later : before name ≤ now name
  pub others : (n : List ℕ) → n ≢ name → now n ≡ before n

-- the count of calls that ended so, after a call that did or didn't
abbrev pub count_after : Bool → ℕ → ℕ
count_after ended before = if ended then next_count before else before

-- the fault of a call of files is want of memory
abbrev pub is_memory : FileFault → Bool
is_memory file_fault.Failed = false
is_memory file_fault.TooLong = false
is_memory file_fault.Memory = true

-- a call of files found no memory
abbrev pub lacks_memory : {T : Type 0} → Result T FileFault → Bool
lacks_memory (Ok x) = false
lacks_memory (Err fault) = is_memory fault

-- a put found no memory
abbrev pub put_lacks_memory : {T : Type 0} → Result T SinkFault → Bool
put_lacks_memory (Err sink_fault.Memory) = true
put_lacks_memory _ = false

-- the call of files failed, or found no memory
abbrev pub Fails : {T : Type 0} → Result T FileFault → Type 0
Fails result = IsErrOf result file_fault.Failed ⊎ IsErrOf result file_fault.Memory

-- how many faults an answer counts for
abbrev pub file_faults : {T : Type 0} → Result T FileFault → ℕ
file_faults (Err file_fault.Failed) = 1
file_faults _ = 0

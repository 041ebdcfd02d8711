-- What files in memory show.
use Rattle.std.specs.Prelude.{ℕ, true, if◌then◌else◌, List, Option, None, String, Vec}
use Rattle.std.specs.Option.{option_map}
use Rattle.std.specs.BTreeMap.{BTreeMap, get_by_text}
use Rattle.std.specs.declared.alloc.Global.{Global}
use Rattle.act1_outside.specs.Calls.{next_fails}
use Rattle.act1_outside.specs.Failures.{failures_of}
use Rattle.act1_outside.specs.Faults.{next_count}
use Rattle.act1_outside.specs.Outside.{Shelf}
use Rattle.act1_outside.specs.declared.calls.Calls.{Calls}
use Rattle.act1_outside.specs.Tears.{left_by}
use Rattle.act1_outside.specs.declared.memory_files.MemoryFiles.{MemoryFiles}
use Rattle.act1_outside.specs.declared.tear.Tear.{Tear}

-- what a name holds
abbrev pub content_of : BTreeMap (String Global) (Vec ℕ Global) → List ℕ → Option (List ℕ)
content_of files name = option_map (λ bytes. bytes.items) (get_by_text files name)

-- what is seen of the files: all that they hold, and how often reads and writes of each name failed, and the count of writes that found no memory
abbrev pub shelf_of : MemoryFiles → Shelf
shelf_of files = record {
  tells = true;
  held = content_of files.files;
  read_faults = failures_of files.failed_reads;
  write_faults = failures_of files.failed_writes;
  unwritten = files.unwritten;
}

-- the calls of `read` and `write`
abbrev pub calls_of : MemoryFiles → Calls
calls_of files = files.calls

-- the calls that are to be torn
abbrev pub tears_of : MemoryFiles → List Tear
tears_of files = files.tears.items

-- how many bytes the next call leaves, where it is to fail and to be torn
abbrev pub left_next : MemoryFiles → Option ℕ
left_next files = if next_fails files.calls then left_by files.tears.items (next_count files.calls.made) else None

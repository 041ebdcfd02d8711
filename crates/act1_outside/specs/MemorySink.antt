-- What a place to print in memory shows.
use Rattle.std.specs.Prelude.{Some}
use Rattle.act1_outside.specs.Outside.{Paper}
use Rattle.act1_outside.specs.declared.calls.Calls.{Calls}
use Rattle.act1_outside.specs.declared.memory_sink.MemorySink.{MemorySink}

-- what is seen of the print: all its bytes, and its counts of faults and of puts that found no memory
abbrev pub paper_of : MemorySink → Paper
paper_of sink = record { printed = Some sink.bytes.items; faults = sink.faults; unprinted = sink.unprinted }

-- the calls of `put`
abbrev pub calls_of : MemorySink → Calls
calls_of sink = sink.calls

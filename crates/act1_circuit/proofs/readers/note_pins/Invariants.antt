use Rattle.std.proofs.Common.{◌≡◌, []}
use Rattle.std.specs.Prelude.{slice_index_or}
use Rattle.act1_circuit.specs.PairFormSteps.{noted_sources}
use Rattle.act1_circuit.proofs.readers.note_pins.Given as goal

-- the first pins are noted
abbrev pub invariant-loop-pin : goal.invariant-loop-pin
invariant-loop-pin l = l.readers.items ≡ noted_sources l.module (slice_index_or l.circuit.modules l.module []) l.pin l.initial.readers.items

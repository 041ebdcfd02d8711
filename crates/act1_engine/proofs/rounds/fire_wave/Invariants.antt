use Rattle.std.proofs.Common.{◌≡◌}
use Rattle.act1_circuit.specs.Firing.{site_rounds}
use Rattle.act1_engine.specs.Marking.{AreMarksAt, IsQuiet}
use Rattle.act1_engine.specs.Rounds.{IsTable}
use Rattle.act1_engine.specs.Turns.{turn_all}
use Rattle.act1_engine.proofs.rounds.fire_wave.Given as goal

-- so many rounds have fired
abbrev pub invariant-loop-round : goal.invariant-loop-round
invariant-loop-round l = record {
  fires : l.values.items ≡ turn_all l.wiring.slots.items l.fn.values.items (site_rounds l.modules l._round);
  table : IsTable l.modules l.wiring l.values.items;
  marked : AreMarksAt l.modules l.modules l.marks;
  quiet : IsQuiet l.wiring.slots.items l.values.items l.marks.words.items l.modules;
}

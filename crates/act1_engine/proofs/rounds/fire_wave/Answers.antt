use Rattle.std.proofs.Common.{Bool, List, ap, sym, ◌∙◌, subst, arith}
use Rattle.std.specs.Prelude.{IfNone}
use Rattle.act1_circuit.specs.Firing.{site_order}
use Rattle.act1_engine.specs.Marking.{IsQuiet}
use Rattle.act1_engine.specs.Turns.{IsStill, turn_all}
use Rattle.act1_engine.proofs.RoundSteps.{none_marked}
use Rattle.act1_engine.proofs.TurnSteps.{next_round, wave_still}
use Rattle.act1_engine.proofs.rounds.fire_wave.Goals as goal

pub returns-then-marks-clause-wave : goal.returns-then-marks-clause-wave
returns-then-marks-clause-wave c =
    let invariant = c.loop-round.invariant in
    let up = c.loop-round.auto._round-end in
    let empty = c.if-marks.true in
    wave_still c.args.wiring.now.slots.items c.args.values.now.items c.loop-round.values.items c.args.modules c.loop-round._round (omega arith)
    (λ m low. invariant.quiet m low (none_marked c.args.modules c.loop-round.marks invariant.marked empty m)) invariant.fires

pub returns-then-marks-clause-none : goal.returns-then-marks-clause-none
returns-then-marks-clause-none c =
    let invariant = c.loop-round.invariant in
    λ m low. invariant.quiet m low (none_marked c.args.modules c.loop-round.marks invariant.marked c.if-marks.true m)

pub loop-round-preserved : goal.loop-round-preserved
loop-round-preserved c =
    let slots = c.args.wiring.now.slots.items in
    let after = c.fire_round.ensures in
    record {
      fires = after.fires ∙ ap (λ (v : List Bool). turn_all slots v (site_order c.args.modules)) c.loop-round.invariant.fires ∙ sym (next_round slots c.args.values.now.items c.args.modules c.loop-round._round);
      table = after.table;
      marked = after.marks;
      quiet = after.quiet;
    }

pub unrest-requires-clause-quiet : goal.unrest-requires-clause-quiet
unrest-requires-clause-quiet c =
    subst (λ (v : List Bool). IsQuiet c.args.wiring.now.slots.items v c.loop-round.marks.words.items c.args.modules) (sym c.deref.ensures.value) c.loop-round.invariant.quiet

pub returns-clause-none : goal.returns-clause-none
returns-clause-none c =
    subst (λ (v : List Bool). IfNone c.unrest.result (IsStill c.args.wiring.now.slots.items v c.args.modules)) c.deref.ensures.value c.unrest.ensures.none

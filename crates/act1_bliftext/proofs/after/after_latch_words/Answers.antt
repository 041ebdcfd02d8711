use Rattle.std.proofs.Common.{List, ℕ, map, Bor}
use Rattle.act1_bliftext.specs.ReadingSteps.{left}
use Rattle.act1_bliftext.proofs.LatchForms.{latch_gives, latch_stops}
use Rattle.act1_bliftext.proofs.after.after_latch_words.Goals as goal

pub returns-in-Ok : goal.returns-in-Ok
returns-in-Ok c =
    latch_gives c.args.number c.args.input.now c.args.output.now (map (λ (w : Bor (List ℕ)). w.now) c.args.more.now) c.args.reading.now c.in-Ok.control c.in-Ok.init (left c.with_latch.new.reading c.with_latch.result) c.in-Ok.ensures c.with_latch.ensures

pub returns-in-Err : goal.returns-in-Err
returns-in-Err c = latch_stops c.args.number c.args.input.now c.args.output.now (map (λ (w : Bor (List ℕ)). w.now) c.args.more.now) c.args.reading.now c.in-Err.kind c.in-Err.ensures

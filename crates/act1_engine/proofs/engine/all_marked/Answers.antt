use Rattle.std.proofs.Common.{below_more}
use Rattle.act1_engine.proofs.engine.all_marked.Goals as goal

pub loop-module-preserved : goal.loop-module-preserved
loop-module-preserved c =
    let low = c.loop-module-test.true in
    let end = c.loop-module.auto.module-end in
    let adds = c.note.ensures.adds c.args.modules low in
    record {
      marked = adds.goes c.loop-module.invariant.marked;
      all = below_more _ _ (λ k below. adds.keeps k (c.loop-module.invariant.all k below)) c.note.ensures.here;
    }

use Rattle.act1_bliftext.proofs.Backslashes.{front_at, front_shown, front_blank}
use Rattle.act1_bliftext.proofs.words.before_backslash.Goals as goal

pub returns-then-last-eq92 : goal.returns-then-last-eq92
returns-then-last-eq92 c = front_at c.loop-last.front.now c.in-Some.before.now c.in-Some.last.now _ c.in-Some.ensures.cases.0 c.if-last-eq92.true c.loop-last.invariant

pub returns-then-not-is_blank : goal.returns-then-not-is_blank
returns-then-not-is_blank c = front_shown c.loop-last.front.now c.in-Some.before.now c.in-Some.last.now _ c.is_blank.result c.in-Some.ensures.cases.0 c.if-last-eq92.false c.is_blank.ensures c.if-not-is_blank.true c.loop-last.invariant

pub loop-last-preserved : goal.loop-last-preserved
loop-last-preserved c = front_blank c.loop-last.front.now c.in-Some.before.now c.in-Some.last.now _ c.is_blank.result c.in-Some.ensures.cases.0 c.if-last-eq92.false c.is_blank.ensures c.if-not-is_blank.false c.loop-last.invariant

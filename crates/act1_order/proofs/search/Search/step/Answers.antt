use Rattle.std.proofs.Common.{◌-◌, length, arith}
use Rattle.act1_order.proofs.SearchLemmas.{path_low, placed_step, opened_step}
use Rattle.act1_order.proofs.search.Search.step.Goals as goal

pub next_read-requires-clause-low : goal.next_read-requires-clause-low
next_read-requires-clause-low c = path_low c.args.reads.now c.args.self.now c.requires.search (length c.args.self.now.path.items - 1) c.args.vertex c.requires.last

pub place-requires : goal.place-requires
place-requires c =
    let low = path_low c.args.reads.now c.args.self.now c.requires.search (length c.args.self.now.path.items - 1) c.args.vertex c.requires.last in
    let all = c.in-None.ensures.search.all in
    omega arith

pub open-requires : goal.open-requires
open-requires c =
    let low = c.requires.inside c.args.vertex c.in-Some.next c.in-Some.ensures.next.0 in
    let all = c.in-Some.ensures.search.all in
    omega arith

pub returns-in_ok-place-in-None : goal.returns-in_ok-place-in-None
returns-in_ok-place-in-None c =
    placed_step c.args.reads.now c.args.self.now c.next_read.new.self c.place.new.self c.args.vertex c.requires.inside c.in-None.ensures.search c.in-None.ensures.states c.in-None.ensures.path c.requires.last c.in-None.ensures.next
    c.in_ok-place-in-None.ensures.states c.in_ok-place-in-None.ensures.passed c.in_ok-place-in-None.ensures.path c.in_ok-place-in-None.ensures.order

pub returns-in_ok-open-in-Some : goal.returns-in_ok-open-in-Some
returns-in_ok-open-in-Some c =
    opened_step c.args.reads.now c.args.self.now c.next_read.new.self c.open.new.self c.args.vertex c.in-Some.next c.in-Some.ensures.search c.in-Some.ensures.states c.in-Some.ensures.path c.requires.last
    c.in-Some.ensures.next.0 c.in-Some.ensures.next.1
    c.in_ok-open-in-Some.ensures.states c.in_ok-open-in-Some.ensures.passed c.in_ok-open-in-Some.ensures.path c.in_ok-open-in-Some.ensures.order

use Rattle.std.proofs.Common.{length, take, arith}
use Rattle.std.proofs.lemmas.List.{take_more_set}
use Rattle.act1_search.proofs.Levels.{free_choice}
use Rattle.act1_search.proofs.Logged.{logged_over}
use Rattle.act1_search.proofs.Watches.{calm_watch, room_left, assume_keeps}
use Rattle.act1_channel.specs.Acceptance.{choices_of}
use Rattle.act1_search.proofs.watch.Watch.assume.Goals as goal

pub take_on-self-inside-requires-clause-settled : goal.take_on-self-inside-requires-clause-settled
take_on-self-inside-requires-clause-settled c =
    let w = c.self.inside in
    let still = rw (← c.self.view_is) at c.requires.calm in
    (calm_watch w.problem.now (choices_of w.steps.items) (take w.depth w.chosen.items) w.trail (take w.depth w.marks.items) w.broken c.self.invariant.0 still).answer

pub take_on-self-inside-requires-clause-free : goal.take_on-self-inside-requires-clause-free
take_on-self-inside-requires-clause-free c =
    let w = c.self.inside in
    let none = rw (← c.self.view_is) at c.requires.free in
    free_choice w.problem.now (choices_of w.steps.items) (take w.depth w.chosen.items) w.trail.entries c.args.choice c.self.invariant.0.level.trail none

pub index_mut-requires : goal.index_mut-requires
index_mut-requires c =
    let w = c.self.inside in
    let left = room_left w.problem.now (choices_of w.steps.items) (take w.depth w.chosen.items) w.trail w.marks.items w.broken (length w.chosen.items) w.depth c.self.invariant.0 c.self.invariant.1 c.take_on-self-inside.ensures.room in
    let is = c.self.invariant.1.chosen_room in
    let long = w.chosen.ok.0 in
    omega arith

pub index_mut-requires-2 : goal.index_mut-requires-2
index_mut-requires-2 c =
    let w = c.self.inside in
    let left = room_left w.problem.now (choices_of w.steps.items) (take w.depth w.chosen.items) w.trail w.marks.items w.broken (length w.chosen.items) w.depth c.self.invariant.0 c.self.invariant.1 c.take_on-self-inside.ensures.room in
    let is = c.self.invariant.1.marks_room in
    let long = w.marks.ok.0 in
    omega arith

pub invariant_of-self : goal.invariant_of-self
invariant_of-self c =
    let w = c.self.inside in
    let still = rw (← c.self.view_is) at c.requires.calm in
    let none = rw (← c.self.view_is) at c.requires.free in
    let fits = rw (← c.self.view_is) at c.requires.inside in
    let e = c.take_on-self-inside.ensures in
    let kept = assume_keeps w.problem.now (choices_of w.steps.items) w.chosen.items w.trail c.take_on-self-inside.new.trail w.marks.items w.broken c.take_on-self-inside.result w.depth c.len-from.result c.args.choice
    c.self.invariant.0 c.self.invariant.1 still fits none c.len-from.ensures.len e.room e.size e.grows e.answer in
    (kept.0, kept.1, logged_over w.problem.now w.steps.items w.trail c.take_on-self-inside.new.trail w.wanted.items c.self.invariant.0.size e.size c.self.invariant.2)

pub returns : goal.returns
returns c =
    let w = c.self.inside in
    let left = room_left w.problem.now (choices_of w.steps.items) (take w.depth w.chosen.items) w.trail w.marks.items w.broken (length w.chosen.items) w.depth c.self.invariant.0 c.self.invariant.1 c.take_on-self-inside.ensures.room in
    let is = c.self.invariant.1.chosen_room in
    let one = take_more_set w.chosen.items w.depth c.args.choice (omega arith) in
    rw (← c.self.view_is) (λ i. record { problem = w.problem.now; steps = (choices_of w.steps.items); chosen = one i })

use Rattle.std.proofs.Common.{◌≡◌, ◌<◌, List, length, refl, ap, subst, arith}
use Rattle.std.proofs.lemmas.List.{length-map}
use Rattle.act1_channel.specs.declared.problem.Step.{Step}
use Rattle.act1_channel.specs.declared.problem.Choice.{Choice}
use Rattle.act1_search.proofs.Deciding.{start_of, calm_of, still_of, conflict_of, assigned_of, refuted_as, learned_more, spent_of}
use Rattle.act1_search.proofs.Lighter.{short}
use Rattle.act1_search.proofs.Logged.{accepted_log, none_of}
use Rattle.act1_channel.specs.declared.problem.Problem.{Problem}
use Rattle.act1_channel.specs.Acceptance.{choices_of}
use Rattle.act1_search.specs.Explaining.{AreShown}
use Rattle.act1_search.proofs.course.search.Goals as goal

pub loop-count-init : goal.loop-count-init
loop-count-init c = start_of c.args.problem.now c.in_ok-watch.watch c.in_ok-watch.ensures

pub tracks_of-requires-clause-calm : goal.tracks_of-requires-clause-calm
tracks_of-requires-clause-calm c =
    let p = c.args.problem.now in
    let w = c.descend.new.watch in
    calm_of p w.steps w.chosen c.descend.ensures.visited (still_of w.problem p w.steps w.chosen c.conflict.result c.descend.ensures.same c.conflict.ensures.1 c.if-not-conflict.true)

pub returns-then-not-conflict : goal.returns-then-not-conflict
returns-then-not-conflict c =
    let p = c.args.problem.now in
    let w = c.descend.new.watch in
    let still = still_of w.problem p w.steps w.chosen c.conflict.result c.descend.ensures.same c.conflict.ensures.1 c.if-not-conflict.true in
    let l = ap (λ (s : List (List Choice)). length s) c.descend.ensures.steps in
    let long = c.loop-count.invariant.1 in
    let low = c.loop-count-test.true in
    (w.steps, assigned_of p w.steps w.chosen c.in_ok-tracks.tracks c.descend.ensures.visited still c.in_ok-tracks.ensures.0 c.in_ok-tracks.ensures.1, omega arith)

pub refutation-requires-clause-conflict : goal.refutation-requires-clause-conflict
refutation-requires-clause-conflict c = c.conflict.ensures.0 c.if-not-conflict.false

pub refutation-requires-clause-none : goal.refutation-requires-clause-none
refutation-requires-clause-none c =
    let zero_is = c.if-depth-eq0.true in
    let depth = c.depth.ensures in
    none_of c.descend.new.watch.chosen (omega arith)

pub returns-then-depth-eq0 : goal.returns-then-depth-eq0
returns-then-depth-eq0 c =
    let p = c.args.problem.now in
    let w = c.descend.new.watch in
    let log = c.in_ok-refutation.field-0.steps in
    let is = c.in_ok-refutation.ensures in
    let conflict = conflict_of w.problem p w.steps w.chosen c.conflict.result c.descend.ensures.same c.conflict.ensures.0 c.if-not-conflict.false in
    let zero_is = c.if-depth-eq0.true in
    let depth = c.depth.ensures in
    let none : length w.chosen ≡ 0 = omega arith in
    let r = refuted_as p w.steps (choices_of log) w.chosen is.choices c.descend.ensures.visited conflict none in
    let n = r.1 in
    let size = length-map log (λ (s : Step). s.choices) in
    let l = ap (λ (s : List (List Choice)). length s) c.descend.ensures.steps in
    let long = c.loop-count.invariant.1 in
    let low = c.loop-count-test.true in
    (r.0, omega arith, accepted_log p log r.0 (subst (λ (q : Problem). AreShown q log) c.descend.ensures.same is.shown))

pub loop-count-preserved : goal.loop-count-preserved
loop-count-preserved c =
    let p = c.args.problem.now in
    let w = c.descend.new.watch in
    let conflict = conflict_of w.problem p w.steps w.chosen c.conflict.result c.descend.ensures.same c.conflict.ensures.0 c.if-not-conflict.false in
    let not_zero = c.if-depth-eq0.false in
    let depth = c.depth.ensures in
    let some : 0 < length w.chosen = omega arith in
    let r = learned_more p w c.learn.new.self c.descend.ensures.same c.descend.ensures.visited conflict some c.in_ok-learn.ensures.ok in
    let n = r.1 in
    let l = ap (λ (s : List (List Choice)). length s) c.descend.ensures.steps in
    let long = c.loop-count.invariant.1 in
    (r.0, omega arith, r.2)

pub returns : goal.returns
returns c =
    let w = c.loop-count.watch in
    let past = c.loop-count-test.false in
    let within = c.loop-count.auto._count-end in
    let long = c.loop-count.invariant.1 in
    let all : length w.steps ≡ c.args.budget = omega arith in
    let spent = spent_of c.args.problem.now w.steps w.chosen c.args.budget c.loop-count.invariant.2 all c.requires in
    (refl, short c.args.problem.now c.args.budget spent.0 spent.1 spent.2, spent)

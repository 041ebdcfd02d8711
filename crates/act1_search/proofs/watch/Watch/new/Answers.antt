use Rattle.std.proofs.Common.{◌≡◌, ◌*◌, List, length, ap, arith}
use Rattle.act1_channel.proofs.Breaks.{sizes}
use Rattle.act1_channel.specs.Found.{Found}
use Rattle.act1_channel.specs.declared.problem.Step.{Step}
use Rattle.act1_channel.specs.Acceptance.{choices_of}
use Rattle.act1_search.proofs.Logged.{logged_new}
use Rattle.act1_search.proofs.Watches.{new_keeps}
use Rattle.act1_search.proofs.watch.Watch.new.Goals as goal

pub new-requires-clause-connections : goal.new-requires-clause-connections
new-requires-clause-connections c = let s = sizes c.args.problem.now in let is = c.len-connections.ensures in omega arith

pub new-requires-clause-tracks : goal.new-requires-clause-tracks
new-requires-clause-tracks c = let s = sizes c.args.problem.now in let is = c.len-tracks.ensures in omega arith

pub invariant_of-result : goal.invariant_of-result
invariant_of-result c =
    let long = c.in_ok-chosen.chosen.ok.0 in
    let count = c.in_ok-chosen.ensures.len in
    let one : length c.in_ok-chosen.chosen.items ≡ c.len-connections.result * c.len-tracks.result = omega arith in
    let long_too = c.in_ok-marks.marks.ok.0 in
    let count_too = c.in_ok-marks.ensures.len in
    let two : length c.in_ok-marks.marks.items ≡ c.len-connections.result * c.len-tracks.result = omega arith in
    let long_more = c.in_ok-wanted.wanted.ok.0 in
    let count_more = c.in_ok-wanted.ensures.len in
    let three : length c.in_ok-wanted.wanted.items ≡ c.len-connections.result * c.len-tracks.result = omega arith in
    let e = c.begin-broken.ensures in
    let kept = new_keeps c.args.problem.now (choices_of c.new-2.result.items) c.in_ok-trail.trail.entries c.begin-broken.new.trail c.begin-broken.result (length c.in_ok-chosen.chosen.items) (length c.in_ok-marks.marks.items) c.len-connections.result c.len-tracks.result
    (ap (λ (l : List Step). choices_of l) c.new-2.ensures.items) (ap (λ (f : Found). f.entries) c.in_ok-trail.ensures) e.size e.grows e.answer c.len-connections.ensures c.len-tracks.ensures one two in
    (kept.0, kept.1, logged_new c.args.problem.now c.new-2.result.items c.begin-broken.new.trail c.in_ok-wanted.wanted.items c.len-connections.result c.len-tracks.result c.new-2.ensures.items e.size c.len-connections.ensures c.len-tracks.ensures three)

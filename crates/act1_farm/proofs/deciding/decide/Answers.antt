use Rattle.std.proofs.Common.{List, Option, ◌+◌, sym, subst, ◌∙◌, arith}
use Rattle.act1_base.proofs.ListGets.{get_read}
use Rattle.act1_search.specs.declared.verdict.Verdict.{Verdict}
use Rattle.act1_farm.specs.declared.outcome.FarmStop.{FarmStop}
use Rattle.act1_farm.specs.Verdicts.{AreVerdicts}
use Rattle.act1_farm.specs.Deciding.{AreDecided, IsDecided, IsFrom, IsStopFor, StopsAt}
use Rattle.act1_farm.proofs.ChannelVerdicts.{decided_all, decided_more, refuted_last, stops_here}
use Rattle.act1_farm.proofs.DecideLoop.{number_rises, own_decides, same_own, within_left}
use Rattle.act1_farm.specs.Story.{has_connections}
use Rattle.act1_farm.proofs.deciding.decide.Goals as goal

pub found_for-own-requires : goal.found_for-own-requires
found_for-own-requires c =
    let p = c.index-problems-channel.result in
    let l = c.loop-channel in
    let there = get_read c.args.problems.now l.channel p c.loop-channel-test.true c.index-problems-channel.is in
    record { within = within_left c.args.problems.now c.args.budget c.args.found l.left.items l.channel l.number l.verdicts l.invariant.0 p there l.invariant.2 c.requires.each }

pub verdict_for-requires-clause-found : goal.verdict_for-requires-clause-found
verdict_for-requires-clause-found c =
    let p = c.index-problems-channel.result in
    let l = c.loop-channel in
    let there = get_read c.args.problems.now l.channel p c.loop-channel-test.true c.index-problems-channel.is in
    let own = c.found_for-own.ensures.value ∙ same_own p l.left.items c.args.found l.number (l.invariant.1 l.number (omega arith)) in
    λ w h. own_decides c.args.problems.now c.args.budget c.args.found l.left.items l.channel l.number l.verdicts l.invariant.0 p there c.requires.decides w (sym own ∙ h)

pub returns-in-Err-clause-err : goal.returns-in-Err-clause-err
returns-in-Err-clause-err c =
    let p = c.index-problems-channel.result in
    let l = c.loop-channel in
    let there = get_read c.args.problems.now l.channel p c.loop-channel-test.true c.index-problems-channel.is in
    let own = c.found_for-own.ensures.value ∙ same_own p l.left.items c.args.found l.number (l.invariant.1 l.number (omega arith)) in
    subst (λ (why : FarmStop). StopsAt c.args.problems.now c.args.budget c.args.found c.args.tally why) (sym c.stop_at.ensures)
    (stops_here c.args.problems.now c.args.budget c.args.found l.channel l.number l.verdicts l.invariant.0 p there c.args.tally c.in-Err.stop
    (subst (λ (o : Option Verdict). IsStopFor p c.args.budget o c.in-Err.stop) own c.in-Err.ensures.stop))

pub returns-then-refuted-clause-ok : goal.returns-then-refuted-clause-ok
returns-then-refuted-clause-ok c =
    let p = c.index-problems-channel.result in
    let l = c.loop-channel in
    let v = c.in-Ok.verdict in
    let there = get_read c.args.problems.now l.channel p c.loop-channel-test.true c.index-problems-channel.is in
    let own = c.found_for-own.ensures.value ∙ same_own p l.left.items c.args.found l.number (l.invariant.1 l.number (omega arith)) in
    let from = subst (λ (o : Option Verdict). IsFrom p c.args.budget o v) own c.in-Ok.ensures.from in
    subst (λ (vs : List Verdict). AreVerdicts c.args.problems.now (IsDecided c.args.problems.now c.args.budget c.args.found) vs) (sym c.in_ok-push.ensures.ok)
    (refuted_last c.args.problems.now c.args.budget c.args.found l.channel l.number l.verdicts l.invariant.0 p there v from c.in-Ok.ensures.decides (c.is_refuted-refuted.ensures.refuted.0 c.if-refuted.true))

pub loop-channel-preserved : goal.loop-channel-preserved
loop-channel-preserved c =
    let p = c.index-problems-channel.result in
    let l = c.loop-channel in
    let v = c.in-Ok.verdict in
    let next = c.found_for-own.new.number in
    let there = get_read c.args.problems.now l.channel p c.loop-channel-test.true c.index-problems-channel.is in
    let own = c.found_for-own.ensures.value ∙ same_own p l.left.items c.args.found l.number (l.invariant.1 l.number (omega arith)) in
    let from = subst (λ (o : Option Verdict). IsFrom p c.args.budget o v) own c.in-Ok.ensures.from in
    let rises = number_rises (has_connections p) l.number next c.found_for-own.ensures.next c.found_for-own.ensures.same in (
      subst (λ (vs : List Verdict). AreDecided c.args.problems.now c.args.budget c.args.found (l.channel + 1) next vs) (sym c.in_ok-push.ensures.ok)
          (decided_more c.args.problems.now c.args.budget c.args.found l.channel l.number l.verdicts l.invariant.0 p there v from c.in-Ok.ensures.decides next
          c.found_for-own.ensures.next c.found_for-own.ensures.same (c.is_refuted-refuted.ensures.assigned.0 c.if-refuted.false)),
      λ j low. c.found_for-own.ensures.later j low ∙ l.invariant.1 j (omega arith),
      c.found_for-own.ensures.long ∙ l.invariant.2,
    )

pub returns-clause-ok : goal.returns-clause-ok
returns-clause-ok c =
    let l = c.loop-channel in
    let ended = c.loop-channel-test.false in
    let within = l.auto.channel-end in
    decided_all c.args.problems.now c.args.budget c.args.found l.channel l.number l.verdicts l.invariant.0 (omega arith)

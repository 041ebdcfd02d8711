use Rattle.std.proofs.Common.{[], false, sym, subst}
use Rattle.act1_channel.specs.Assignment.{choice_at}
use Rattle.act1_channel.specs.Clauses.{IsClause}
use Rattle.act1_channel.specs.Found.{facts_of}
use Rattle.act1_channel.specs.declared.problem.Hint.TheVariants as hint
use Rattle.act1_refute.specs.HintSteps.{IsEither}
use Rattle.act1_refute.specs.StatusSteps.{with_part, IsStatus}
use Rattle.act1_refute.specs.declared.status.Status.{Status}
use Rattle.act1_refute.proofs.HintLemmas.{clash_status}
use Rattle.act1_refute.proofs.hints.status_of_clash.Goals as goal

pub returns : goal.returns
returns c =
    let facts = facts_of c.args.trail.now.entries in
    let there = c.is_clash.ensures.0 c.if-not-is_clash.false in
    let is = clash_status facts (IsClause c.args.problem.now [] (hint.Clash c.args.first c.args.second c.args.track)) c.args.first c.args.second c.args.track c.known.result c.known-2.result there there.0 c.known.ensures c.known-2.ensures in
    let first = subst (λ (s : Status). IsStatus facts (IsClause c.args.problem.now [] (hint.Clash c.args.first c.args.second c.args.track)) false (IsEither c.args.first c.args.second c.args.track) (with_part s (choice_at c.args.second c.args.track) false c.known-2.result)) (sym c.with_part-status.ensures) is in
    subst (λ (s : Status). IsStatus facts (IsClause c.args.problem.now [] (hint.Clash c.args.first c.args.second c.args.track)) false (IsEither c.args.first c.args.second c.args.track) s) (sym c.with_part.ensures) first

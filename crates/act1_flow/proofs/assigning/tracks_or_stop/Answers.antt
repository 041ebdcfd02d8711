use Rattle.std.proofs.Common.{◌≡◌, ◌<◌, Some, refl, subst, sym, ◌∙◌, arith, slice_get, length}
use Rattle.act1_base.proofs.ListGets.{get_read}
use Rattle.act1_channel.proofs.Breaks.{sizes}
use Rattle.act1_flow.specs.declared.assigning.Ending.{Ending}
use Rattle.act1_flow.specs.Steps.{EndsIn}
use Rattle.act1_flow.proofs.Verdicts.{ends_within}
use Rattle.act1_flow.proofs.assigning.tracks_or_stop.Goals as goal

pub overflow_cast-result-in-Err-Refuted : goal.overflow_cast-result-in-Err-Refuted
overflow_cast-result-in-Err-Refuted c = omega (arith, (sizes c.index-problems-channel.result).2, c.len.ensures)

pub returns-in-Err-Refuted-clause-err : goal.returns-in-Err-Refuted-clause-err
returns-in-Err-Refuted-clause-err c =
    let problems = c.args.problems.now in
    let problem = c.index-problems-channel.result in
    let ends = subst (λ (ending : Ending). EndsIn c.args.outcome.answers ending) c.in-Err-Refuted.field-0-is c.in-Err-Refuted.ensures.err in
    let low = ends_within c.args.outcome.answers c.in-Err-Refuted.channel c.in-Err-Refuted.log ends in
    let within : c.in-Err-Refuted.channel < length problems = omega (arith, low, c.requires.each) in
    (ends, (problem, get_read problems c.in-Err-Refuted.channel problem within c.index-problems-channel.is, c.len.ensures), refl)

use Rattle.std.proofs.Common.{◌≡◌, ◌<◌, Some, refl, subst, arith, slice_get, length}
use Rattle.act1_base.proofs.ListGets.{get_read}
use Rattle.act1_channel.specs.declared.problem.Problem.{Problem}
use Rattle.act1_channel.proofs.Breaks.{sizes}
use Rattle.act1_farm.specs.declared.outcome.FarmStop.{FarmStop}
use Rattle.act1_flow.specs.Steps.{IsStopOf}
use Rattle.act1_flow.proofs.assigning.spent.Goals as goal

pub overflow_cast-result-in-Spent : goal.overflow_cast-result-in-Spent
overflow_cast-result-in-Spent c = omega (arith, (sizes c.index-problems-from.result).1)

pub overflow_cast-result-in-Spent-2 : goal.overflow_cast-result-in-Spent-2
overflow_cast-result-in-Spent-2 c = omega (arith, (sizes c.index-problems-from.result).2)

pub returns-in-Spent : goal.returns-in-Spent
returns-in-Spent c =
    let problems = c.args.problems.now in
    let problem = c.index-problems-from.result in
    let within : c.in-Spent.channel < length problems = subst (λ (stop : FarmStop). IsStopOf problems stop) c.in-Spent.is c.requires.within in
    let at = get_read problems c.from.result problem (omega (arith, within, c.from.ensures)) c.index-problems-from.is in
    rw c.in-Spent.is (refl, refl, refl, problem, subst (λ n. slice_get problems n ≡ Some problem) c.from.ensures at, c.len.ensures, c.len-in-Spent.ensures)

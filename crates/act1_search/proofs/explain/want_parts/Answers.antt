use Rattle.std.proofs.Common.{◌≡◌, List, Contains, get_or, subst, sym, true}
use Rattle.std.specs.Prelude.{All}
use Rattle.std.proofs.lemmas.Option.{slice_get-get_or}
use Rattle.act1_channel.specs.declared.problem.Choice.{Choice}
use Rattle.act1_channel.specs.declared.problem.Hint.{Hint}
use Rattle.act1_channel.specs.Acceptance.{IsInRange, choices_of}
use Rattle.act1_search.specs.Explaining.{is_wanted, MarksParts}
use Rattle.act1_search.proofs.Marks.{step_inside, step_low, step_marked}
use Rattle.act1_search.proofs.explain.want_parts.Goals as goal

pub want_all-requires-clause-there : goal.want_all-requires-clause-there
want_all-requires-clause-there c =
    let p = c.args.problem.now in
    let steps = c.args.steps.now in
    let step = get_or steps c.in-Step.number c.index-steps-number.result in
    let there = slice_get-get_or steps c.in-Step.number c.index-steps-number.result (step_low p steps c.in-Step.number c.args.hint c.requires.clause c.in-Step.is) in
    subst (λ (cs : List Choice). All (IsInRange p) cs) (sym c.as_slice.ensures) (step_inside p steps c.in-Step.number step c.requires.steps there)

pub returns-in-Step : goal.returns-in-Step
returns-in-Step c =
    let p = c.args.problem.now in
    let steps = c.args.steps.now in
    let step = get_or steps c.in-Step.number c.index-steps-number.result in
    let there = slice_get-get_or steps c.in-Step.number c.index-steps-number.result (step_low p steps c.in-Step.number c.args.hint c.requires.clause c.in-Step.is) in
    let all = subst (λ (cs : List Choice). (d : Choice) → Contains cs d → is_wanted p c.want_all.new.wanted d ≡ true) c.as_slice.ensures c.want_all.ensures.all in
    subst (λ (h : Hint). MarksParts p (choices_of steps) h c.args.wanted.now c.want_all.new.wanted) (sym c.in-Step.is) (step_marked p steps c.in-Step.number step c.args.wanted.now c.want_all.new.wanted there c.want_all.ensures.keeps all)

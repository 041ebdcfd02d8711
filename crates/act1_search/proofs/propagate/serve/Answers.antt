use Rattle.std.proofs.Common.{sym, ◌∙◌}
use Rattle.act1_search.proofs.Truths.{none_of, some_of}
use Rattle.act1_search.proofs.Growing.{forced_one, served_one, served_some}
use Rattle.act1_search.proofs.propagate.serve.Goals as goal

pub force-requires-clause-forced : goal.force-requires-clause-forced
force-requires-clause-forced c =
    let free = sym c.known.ensures ∙ none_of c.known.result (sym c.is_some.ensures ∙ c.if-is_some.false) in
    forced_one c.args.problem.now c.args.trail.now.entries c.args.connection c.args.track c.requires.connection c.requires.left free

pub returns-then-is_some-clause-served : goal.returns-then-is_some-clause-served
returns-then-is_some-clause-served c =
    let own = some_of c.known.result (sym c.is_some.ensures ∙ c.if-is_some.true) in
    served_some c.args.problem.now c.args.trail.now.entries c.args.connection c.args.track own.0 c.requires.left (sym c.known.ensures ∙ own.1)

pub returns-clause-served : goal.returns-clause-served
returns-clause-served c =
    let free = sym c.known.ensures ∙ none_of c.known.result (sym c.is_some.ensures ∙ c.if-is_some.false) in
    rw c.force.ensures.entries (served_one c.args.problem.now c.args.trail.now.entries c.args.connection c.args.track _ c.requires.left free)

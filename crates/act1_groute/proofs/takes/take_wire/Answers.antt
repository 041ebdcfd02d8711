use Rattle.std.proofs.Common.{rules}
use Rattle.std.proofs.lemmas.Fn.{filter_same}
use Rattle.act1_groute.specs.RouteSteps.{is_other}
use Rattle.act1_groute.proofs.takes.take_wire.Goals as goal

pub returns-clause-free : goal.returns-clause-free
returns-clause-free c = filter_same _ (is_other c.args.take.wire) _ (λ x b f' k. search rules) _ _ c.retain.ensures.filtered

use Rattle.std.proofs.Common.{ℕ, nat_eq, rules}
use Rattle.std.specs.Prelude.{not}
use Rattle.std.proofs.lemmas.Fn.{filter_same}
use Rattle.act1_outside.proofs.tickets.Tickets.close.Goals as goal

pub returns-clause-closes : goal.returns-clause-closes
returns-clause-closes c = filter_same _ (λ (ticket : ℕ). not (nat_eq ticket c.args.ticket)) _ (λ x b f' k. search rules) _ _ c.retain.ensures.filtered

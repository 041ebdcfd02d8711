use Rattle.act1_search.proofs.Exact.{exact, fit}
use Rattle.act1_search.proofs.laws.answers_are_exact.Goals as goal

pub returns : goal.returns
returns c = record { spent = exact; «fit» = fit }

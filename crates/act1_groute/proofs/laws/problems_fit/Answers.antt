use Rattle.act1_groute.proofs.ProblemFacts as laws
use Rattle.act1_groute.proofs.laws.problems_fit.Goals as goal

pub returns : goal.returns
returns c = laws.problems_fit

use Rattle.act1_dd.proofs.Parts.{plain_no, plain_yes, plain_test}
use Rattle.act1_dd.proofs.number.plain_choice.Goals as goal

pub returns-in-Zero : goal.returns-in-Zero
returns-in-Zero c = λ forks refs. (refs.2, plain_no forks c.args.choice.test c.args.choice.yes c.args.choice.no c.in-Zero.is)

pub returns-in-One : goal.returns-in-One
returns-in-One c = λ forks refs. (refs.1, plain_yes forks c.args.choice.test c.args.choice.yes c.args.choice.no c.in-One.is)

pub returns-in-One-Zero : goal.returns-in-One-Zero
returns-in-One-Zero c = λ forks refs. (refs.0, plain_test forks c.args.choice.test c.args.choice.yes c.args.choice.no c.in-One-Zero.is-0 c.in-One-Zero.is-1)

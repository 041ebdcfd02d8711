use Rattle.std.specs.Prelude.{Result, Ok, Err, IfOk}
use Rattle.std.proofs.Common.{List, ℕ}
use Rattle.act1_base.specs.declared.memory.Memory.{Memory}
use Rattle.act1_dd.specs.declared.refs.Branch.{Branch}
use Rattle.act1_dd.specs.declared.refs.Ref.{Ref}
use Rattle.act1_dd.specs.declared.refs.Ref.TheVariants.{Zero, One}
use Rattle.act1_dd.specs.Diagram.{IsForkInto, IsVariable}
use Rattle.act1_dd.proofs.Parts.{of_variable}
use Rattle.act1_dd.proofs.diagrams.Diagrams.variable.Goals as goal

if_variable : (forks : List Branch) (v : ℕ) (r : Result Ref Memory) → IfOk r (IsForkInto forks v Zero One) → IfOk r (IsVariable forks v)
if_variable forks v (Ok r) h = of_variable forks v r h
if_variable forks v (Err e) h = tt

pub returns-clause-value : goal.returns-clause-value
returns-clause-value c = if_variable c.fork.new.self c.args.var c.fork.result c.fork.ensures.value

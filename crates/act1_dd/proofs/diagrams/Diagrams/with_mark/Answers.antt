use Rattle.std.proofs.Common.{List, ℕ, sym, subst}
use Rattle.std.specs.Prelude.{Result, Ok, Err, IfOk}
use Rattle.act1_base.specs.declared.memory.Memory.{Memory}
use Rattle.act1_logic.specs.declared.cover.Mark.{Mark}
use Rattle.act1_logic.specs.declared.cover.Mark.TheVariants as mark
use Rattle.act1_dd.specs.declared.refs.Branch.{Branch}
use Rattle.act1_dd.specs.declared.refs.Ref.{Ref}
use Rattle.act1_dd.specs.declared.refs.Ref.TheVariants.{Zero}
use Rattle.act1_dd.specs.Diagram.{IsForkInto}
use Rattle.act1_dd.specs.Steps.{IsMarked}
use Rattle.act1_dd.proofs.Rows.{zero_marked, one_marked}
use Rattle.act1_dd.proofs.diagrams.Diagrams.with_mark.Goals as goal

if_zero : (forks : List Branch) (v : ℕ) (rest : Ref) (r : Result Ref Memory) → IfOk r (IsForkInto forks v rest Zero) → IfOk r (IsMarked forks v mark.Zero rest)
if_zero forks v rest (Ok r) h = zero_marked forks v rest r h
if_zero forks v rest (Err e) h = tt

if_one : (forks : List Branch) (v : ℕ) (rest : Ref) (r : Result Ref Memory) → IfOk r (IsForkInto forks v Zero rest) → IfOk r (IsMarked forks v mark.One rest)
if_one forks v rest (Ok r) h = one_marked forks v rest r h
if_one forks v rest (Err e) h = tt

pub returns-in-Zero-clause-value : goal.returns-in-Zero-clause-value
returns-in-Zero-clause-value c =
    subst (λ (m : Mark). IfOk c.fork.result (IsMarked c.fork.new.self c.args.var m c.args.rest)) (sym c.in-Zero.is) (if_zero c.fork.new.self c.args.var c.args.rest c.fork.result c.fork.ensures.value)

pub returns-in-One-clause-value : goal.returns-in-One-clause-value
returns-in-One-clause-value c =
    subst (λ (m : Mark). IfOk c.fork-in-One.result (IsMarked c.fork-in-One.new.self c.args.var m c.args.rest)) (sym c.in-One.is) (if_one c.fork-in-One.new.self c.args.var c.args.rest c.fork-in-One.result c.fork-in-One.ensures.value)

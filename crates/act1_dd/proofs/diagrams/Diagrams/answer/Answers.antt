use Rattle.std.proofs.Common.{List, sym, subst, ◌∙◌}
use Rattle.std.specs.Prelude.{IfSome, Option}
use Rattle.act1_dd.specs.declared.refs.Branch.{Branch}
use Rattle.act1_dd.specs.declared.refs.Ref.{Ref}
use Rattle.act1_dd.specs.MemoSteps.{IsAnswer}
use Rattle.act1_dd.proofs.Memo.{answer_found}
use Rattle.act1_dd.proofs.diagrams.Diagrams.answer.Goals as goal

pub returns : goal.returns
returns c =
    let found = answer_found c.self.inside.forks.keys c.args.question c.self.inside.memo.entries c.self.invariant.1 in
    let is = c.copied.ensures ∙ c.get.ensures.value in
    subst (λ (forks : List Branch). IfSome c.copied.result (IsAnswer forks c.args.question)) c.self.view_is
    (subst (λ (o : Option Ref). IfSome o (IsAnswer c.self.inside.forks.keys c.args.question)) (sym is) found)

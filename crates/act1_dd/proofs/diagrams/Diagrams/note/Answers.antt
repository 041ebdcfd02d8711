use Rattle.std.proofs.Common.{List, sym, subst}
use Rattle.act1_dd.specs.declared.refs.Branch.{Branch}
use Rattle.act1_dd.specs.MemoSteps.{IsAnswer}
use Rattle.act1_dd.proofs.Memo.{answers_with}
use Rattle.act1_dd.proofs.diagrams.Diagrams.note.Goals as goal

pub invariant_of-self-2 : goal.invariant_of-self-2
invariant_of-self-2 c =
    let asked = subst (λ (forks : List Branch). IsAnswer forks c.args.question c.args.answer) (sym c.self.view_is) c.requires in
    (c.self.invariant.0, rw c.in_ok-insert.ensures.entries (answers_with c.self.inside.forks.keys c.args.question c.args.answer c.self.inside.memo.entries c.self.invariant.1 asked))

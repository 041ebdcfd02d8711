use Rattle.std.proofs.Common.{List, ◌≢◌, ◌+◌, sym, subst, rules}
use Rattle.act1_dd.specs.declared.refs.Branch.{Branch}
use Rattle.act1_dd.specs.Diagram.{IsReduced, IsRef, IsFrom, Keeps}
use Rattle.act1_base.proofs.ListGets.{get_within}
use Rattle.act1_dd.proofs.Canonical.{from_own}
use Rattle.act1_dd.proofs.Memo.{answers_kept}
use Rattle.act1_dd.proofs.Growing.{branch_of, numbered}
use Rattle.act1_dd.proofs.diagrams.Diagrams.fork.Goals as goal

-- the forks with the new one
grown : (c : goal.In_ok-number) → IsReduced c.number_of.new.forks.keys × Keeps c.self.inside.forks.keys c.number_of.new.forks.keys
grown c =
    let differ : c.args.low ≢ c.args.high = search rules in
    let back = sym c.self.view_is in
    let var = c.args.var in
    let low = c.args.low in
    let high = c.args.high in
    numbered c.self.inside.forks.keys c.number_of.new.forks.keys _ c.in_ok-number.number c.in_ok-number.ensures.ok c.self.invariant.0
    (subst (λ (forks : List Branch). IsRef forks low) back c.requires.low) (subst (λ (forks : List Branch). IsRef forks high) back c.requires.high)
    (subst (λ (forks : List Branch). IsFrom forks (var + 1) low) back c.requires.low_later) (subst (λ (forks : List Branch). IsFrom forks (var + 1) high) back c.requires.high_later) differ

pub invariant_of-self-2 : goal.invariant_of-self-2
invariant_of-self-2 c = let h = grown c in (h.0, answers_kept c.self.inside.forks.keys c.number_of.new.forks.keys h.1 c.self.inside.memo.entries c.self.invariant.1)

pub returns-clause-keeps : goal.returns-clause-keeps
returns-clause-keeps c = subst (λ (forks : List Branch). Keeps forks c.number_of.new.forks.keys) c.self.view_is (grown c).1

pub returns-clause-is_ref : goal.returns-clause-is_ref
returns-clause-is_ref c = get_within c.number_of.new.forks.keys c.in_ok-number.number _ c.in_ok-number.ensures.ok.place

pub returns-clause-value : goal.returns-clause-value
returns-clause-value c = (branch_of c.number_of.new.forks.keys c.in_ok-number.number _ (grown c).0 c.in_ok-number.ensures.ok.place).value

pub returns-clause-later : goal.returns-clause-later
returns-clause-later c = from_own c.number_of.new.forks.keys c.in_ok-number.number _ c.in_ok-number.ensures.ok.place

use Rattle.std.proofs.Common.{ℕ, List, ap, subst, ◌∙◌}
use Rattle.std.specs.Prelude.{slice_set}
use Rattle.act1_net.specs.declared.gate.Gate.{Gate}
use Rattle.act1_net.specs.declared.net.NetTerm.{NetTerm}
use Rattle.act1_net.specs.Gates.{gate_with}
use Rattle.act1_net.specs.PassSteps.{IsTermOf}
use Rattle.act1_net.proofs.pass.pass_node.Goals as goal

pub returns : goal.returns
returns c = record {
  found = c.in_ok-term.term;
  is = subst (λ (gate : Gate). IsTermOf gate c.args.signal c.args.table.now c.in_ok-term.term c.term_for.new.table) (c.in_ok-gate.ensures ∙ ap (λ (terms : List NetTerm). gate_with terms c.args.node.now) c.deref.ensures.value) c.in_ok-term.ensures;
  written = ap (λ (s : ℕ). slice_set c.args.terms.now.items s c.in_ok-term.term) c.from.ensures;
}

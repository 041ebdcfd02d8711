use Rattle.std.proofs.Common.{◌+◌, ◌<◌, length, refl, subst, ℕ}
use Rattle.act1_extract.proofs.Steps.{has_name_left, module_added}
use Rattle.act1_extract.proofs.nodes.module_nodes.Goals as goal

pub add_module-requires-clause-named : goal.add_module-requires-clause-named
add_module-requires-clause-named c = λ none.
    has_name_left c.args.circuit.now c.args.signals.now c.args.names.now c.loop-module.module (length c.args.circuit.now.modules) c.loop-module.nodes c.loop-module.invariant
    (subst (λ (n : ℕ). c.loop-module.module < n) c.len-module-end.ensures c.loop-module-test.true) c.requires.named none

pub loop-module-preserved : goal.loop-module-preserved
loop-module-preserved c =
    module_added c.args.circuit.now c.args.signals.now c.args.names.now c.loop-module.module (c.loop-module.module + 1) c.loop-module.nodes c.add_module.new.nodes refl c.loop-module.invariant c.in_ok-add_module.ensures

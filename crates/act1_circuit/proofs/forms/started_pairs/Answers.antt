use Rattle.std.proofs.Common.{ℕ, Option, subst}
use Rattle.act1_circuit.specs.declared.pairs.FormFault.TheVariants as fault
use Rattle.act1_circuit.specs.FormFaults.{HasFault}
use Rattle.act1_circuit.specs.PairFormSteps.{IsLeastWith}
use Rattle.act1_circuit.proofs.FormFound.{starts_stand}
use Rattle.act1_circuit.proofs.forms.started_pairs.Goals as goal

pub returns : goal.returns
returns c =
    let circuit = c.args.circuit.now in
    let none = subst (λ (o : Option ℕ). IsLeastWith (λ m. HasFault circuit (fault.Start m)) o) c.in-None.is c.least_start.ensures in
    starts_stand circuit c.in_ok-pairs_of-in-None.field-0 c.in_ok-pairs_of-in-None.ensures c.in_ok-started.started.items c.in_ok-started.ensures none

use Rattle.std.proofs.Common.{rules, ◌≡◌, Decides}
use Rattle.std.proofs.lemmas.Slice.Eq.{slice_eq-Decides}
use Rattle.act1_circuit.specs.declared.circuit.Source.{Source}
use Rattle.act1_circuit.specs.contracts.circuit.SourcePartialEq.TheImpl.{eq-value}
use Rattle.act1_circuit.proofs.PairDecisions.{pins_told}
use Rattle.act1_circuit.proofs.masters.has_pins.Goals as goal

same_told : (a b : Source) → Decides (eq-value.it a b) (a ≡ b)
same_told a b = (search rules, search rules)

pub returns : goal.returns
returns c = pins_told c.args.circuit.now.modules c.args.module c.pins_of.result c.args.pins c.eq.result c.pins_of.ensures (slice_eq-Decides {E = eq-value.it} same_told c.pins_of.result c.args.pins c.eq.result c.eq.ensures)

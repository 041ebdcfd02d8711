use Rattle.std.proofs.Common.{subst}
use Rattle.std.specs.Prelude.{Err}
use Rattle.act1_circuit.specs.FormFaults.{FormGives}
use Rattle.act1_circuit.specs.declared.pairs.FormFault.{FormFault}
use Rattle.act1_extract.proofs.Stops.{ring_low, start_low}
use Rattle.act1_extract.proofs.extraction.form_stop.Goals as goal

pub form_at-requires-in-Ring-clause-low : goal.form_at-requires-in-Ring-clause-low
form_at-requires-in-Ring-clause-low c = ring_low c.args.placed.now c.in-Ring.module c.requires.circuit (subst (λ (f : FormFault). FormGives c.args.placed.now.circuit (Err f)) c.in-Ring.is c.requires.fails)

pub form_at-requires-in-Start-clause-low : goal.form_at-requires-in-Start-clause-low
form_at-requires-in-Start-clause-low c = start_low c.args.placed.now c.in-Start.module c.requires.circuit (subst (λ (f : FormFault). FormGives c.args.placed.now.circuit (Err f)) c.in-Start.is c.requires.fails)

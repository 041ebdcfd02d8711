use Rattle.std.proofs.Common.{◌∙◌}
use Rattle.act1_fuses.proofs.Bounds.{fits_of}
use Rattle.act1_fuses.proofs.ReadLaw.{read_is_text}
use Rattle.act1_fuses.proofs.ReadBack.{read_as, not_refused}
use Rattle.act1_fuses.proofs.read.read_fuses.Goals as goal

pub returns-in-Ok-clause-first : goal.returns-in-Ok-clause-first
returns-in-Ok-clause-first c = rw c.into_file.ensures (read_is_text c.args.device.now c.args.bytes.now c.in-Ok.reader c.in-Ok.ensures.reads)

pub returns-in-Ok-clause-again : goal.returns-in-Ok-clause-again
returns-in-Ok-clause-again c = λ f keeps is. c.into_file.ensures ∙ read_as c.args.device.now f keeps (fits_of c.devices_are_small.ensures c.args.device.now f keeps) c.args.bytes.now c.in-Ok.reader is c.in-Ok.ensures.reads

pub returns-in-Err-Fault-clause-again : goal.returns-in-Err-Fault-clause-again
returns-in-Err-Fault-clause-again c = λ f keeps is. absurd (not_refused c.args.device.now f keeps (fits_of c.devices_are_small.ensures c.args.device.now f keeps) c.args.bytes.now c.in-Err-Fault.field-0-0 is (rw c.in-Err-Fault.field-0-is at c.in-Err-Fault.ensures.reads))

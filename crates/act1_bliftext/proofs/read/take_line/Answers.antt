use Rattle.act1_bliftext.specs.PlaceSteps.{bytes_of}
use Rattle.act1_bliftext.proofs.WholeLines.{line_ok, line_err, stop_is}
use Rattle.act1_bliftext.proofs.read.take_line.Goals as goal

pub returns-in-Ok-clause-takes : goal.returns-in-Ok-clause-takes
returns-in-Ok-clause-takes c = λ above r.
    line_ok above (record { number = c.args.number; first = c.args.first.now; rest = bytes_of c.args.rest.now }) c.after_line.new.reading (c.in-Ok.ensures.takes above r)

pub returns-in-Err-Fault-clause-takes : goal.returns-in-Err-Fault-clause-takes
returns-in-Err-Fault-clause-takes c = λ above r.
    line_err above (record { number = c.args.number; first = c.args.first.now; rest = bytes_of c.args.rest.now }) c.in-Err-Fault.kind (stop_is above _ c.in-Err-Fault.field-0 c.in-Err-Fault.kind c.in-Err-Fault.field-0-is (c.in-Err-Fault.ensures.takes above r))

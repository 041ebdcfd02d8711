use Rattle.act1_blifread.proofs.TextLaws.{text_read, text_refused}
use Rattle.act1_blifread.proofs.text.read_blif.Goals as goal

pub returns-in-Ok-clause-read : goal.returns-in-Ok-clause-read
returns-in-Ok-clause-read c = text_read c.args.bytes.now c.in-Ok.statements c.netlist_of.result c.in-Ok.ensures.read c.netlist_of.ensures

pub returns-in-Ok-clause-refused : goal.returns-in-Ok-clause-refused
returns-in-Ok-clause-refused c = text_refused c.args.bytes.now c.in-Ok.statements c.netlist_of.result c.in-Ok.ensures.read c.netlist_of.ensures

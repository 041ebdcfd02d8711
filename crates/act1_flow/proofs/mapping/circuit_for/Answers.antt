use Rattle.act1_flow.proofs.Circuits.{circuit_is}
use Rattle.act1_flow.proofs.Counts.{too_many}
use Rattle.act1_flow.proofs.mapping.circuit_for.Goals as goal

pub returns-clause-ok : goal.returns-clause-ok
returns-clause-ok c = circuit_is c.net_means_netlist.ensures.means c.args.blif.now c.in_ok-counted.counted c.in_ok-circuit.circuit c.in_ok-counted.ensures c.in_ok-circuit.ensures

pub returns-then-counted-gt65535-clause-err : goal.returns-then-counted-gt65535-clause-err
returns-then-counted-gt65535-clause-err c =
    rw (c.in_32_bits.ensures, c.from.ensures, c.from-then-counted-gt65535.ensures)
    (too_many c.args.device.now c.args.blif.now c.in_ok-counted.counted (c.devices_are_small.ensures c.args.device.now) c.in_ok-counted.ensures c.if-counted-gt65535.true)

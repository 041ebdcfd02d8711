use Rattle.std.proofs.Common.{◌≡◌, length, ap, arith}
use Rattle.act1_emit.proofs.LegalPlans.{few_ports}
use Rattle.act1_emit.proofs.file.file_with.Goals as goal

pub out_ports-requires : goal.out_ports-requires
out_ports-requires c =
    let inputs : c.len.result ≡ length c.args.plan.now.placed.circuit.inputs = c.len.ensures in
    let outputs : length c.as_slice-outputs.result.now ≡ length c.args.plan.now.placed.circuit.outputs = ap length c.as_slice-outputs.ensures in
    omega (arith, few_ports c.args.device.now c.args.plan.now c.requires)

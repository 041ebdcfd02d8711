use Rattle.act1_plan.proofs.PlanWrites.{plan_written}
use Rattle.act1_plan.proofs.write.plan_text.Goals as goal

pub returns : goal.returns
returns c =
    plan_written c.args.plan.now c.new-text.result.items _ _ _ _ _ _ _ c.new-text.ensures.items c.as_bytes.ensures.value c.in_ok-write_named.ensures c.in_ok-write_k.ensures c.in_ok-write_ports.ensures
    c.as_slice-spots.ensures c.as_slice.ensures c.in_ok-write_modules.ensures

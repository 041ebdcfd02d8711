use Rattle.act1_devread.specs.Text.{no_document}
use Rattle.act1_devread.proofs.DeviceLaws.{bad_members}
use Rattle.act1_devread.proofs.read.read_device.Goals as goal

pub returns-in-Ok-clause-refused : goal.returns-in-Ok-clause-refused
returns-in-Ok-clause-refused c = bad_members _ _ c.in-Ok.ensures.ok c.device_in.result c.device_in.ensures.refuses

pub returns-else-is_memory-clause-refused : goal.returns-else-is_memory-clause-refused
returns-else-is_memory-clause-refused c =
    rw c.new-else-is_memory.ensures (λ _. no_document (c.in-Err.ensures.refused (λ m. let t = c.is_memory.ensures.1 m in cc)))

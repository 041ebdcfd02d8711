use Rattle.std.proofs.Common.{map, refl, rules}
use Rattle.std.specs.Str.Lines.{lines}
use Rattle.act1_engine.specs.Engines.{engine_bits}
use Rattle.act1_sim.specs.Vectors.{bits_of}
use Rattle.act1_sim.proofs.SimulationLaws.{simulated}
use Rattle.act1_sim.proofs.simulation.simulate.Goals as goal

pub returns-clause-ok : goal.returns-clause-ok
returns-clause-ok c =
    simulated c.args.device.now c.args.file.now c.args.vectors.now c.args.fill c.in_ok-placed.placed c.in_ok-placed.ensures.ok (map bits_of (lines c.args.vectors.now)) (engine_bits c.in-Ok.engine)
    (record { each = search rules; are = refl }) c.in-Ok.ensures.begins c.run_lines.result c.run_lines.ensures.rests c.run_lines.ensures.text

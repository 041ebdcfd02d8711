use Rattle.std.proofs.Common.{ℕ, take, ap, sym, ◌∙◌}
use Rattle.act1_circuit.specs.Firing.{fire_all, site_wave}
use Rattle.act1_circuit.proofs.EveryOrder.{settles}
use Rattle.act1_engine.proofs.EngineSteps.{bits_long, ready_after, rests_at, unrests_at, wave_of}
use Rattle.act1_engine.proofs.engine.Engine.settle.Goals as goal

pub returns-clause-is : goal.returns-clause-is
returns-clause-is c =
    let n = c.requires.modules in
    let wiring = c.args.self.now.wiring in
    let ready = c.set_sources.ensures.ready in
    let after = c.fire_wave.new.values.items in
    let wave = wave_of c.args.circuit.now wiring c.args.clock c.args.inputs.now c.args.self.now.values.items c.set_sources.new.values.items after c.args.self.now.modules c.requires.range c.requires.wiring n ready.constants c.set_sources.ensures.set c.set_sources.ensures.same c.fire_wave.ensures.wave in
    record {
      range = c.requires.range;
      modules = n;
      wiring = c.requires.wiring;
      ready = ready_after c.args.circuit.now wiring after c.fire_wave.new.marks c.args.self.now.modules n wave.1 c.fire_wave.ensures.marks c.fire_wave.ensures.quiet;
    }

pub returns-clause-wave : goal.returns-clause-wave
returns-clause-wave c =
    let n = c.requires.modules in
    let wiring = c.args.self.now.wiring in
    let ready = c.set_sources.ensures.ready in
    let after = c.fire_wave.new.values.items in
    let wave = wave_of c.args.circuit.now wiring c.args.clock c.args.inputs.now c.args.self.now.values.items c.set_sources.new.values.items after c.args.self.now.modules c.requires.range c.requires.wiring n ready.constants c.set_sources.ensures.set c.set_sources.ensures.same c.fire_wave.ensures.wave in
    wave.0

pub returns-clause-none : goal.returns-clause-none
returns-clause-none c =
    let n = c.requires.modules in
    let wiring = c.args.self.now.wiring in
    let ready = c.set_sources.ensures.ready in
    let after = c.fire_wave.new.values.items in
    let wave = wave_of c.args.circuit.now wiring c.args.clock c.args.inputs.now c.args.self.now.values.items c.set_sources.new.values.items after c.args.self.now.modules c.requires.range c.requires.wiring n ready.constants c.set_sources.ensures.set c.set_sources.ensures.same c.fire_wave.ensures.wave in
    rests_at c.args.circuit.now wiring c.args.clock c.args.inputs.now after c.args.self.now.modules c.fire_wave.result c.requires.range c.requires.wiring wave.1 wave.2 n c.fire_wave.ensures.none

pub returns-clause-some : goal.returns-clause-some
returns-clause-some c =
    let n = c.requires.modules in
    let wiring = c.args.self.now.wiring in
    let ready = c.set_sources.ensures.ready in
    let after = c.fire_wave.new.values.items in
    let wave = wave_of c.args.circuit.now wiring c.args.clock c.args.inputs.now c.args.self.now.values.items c.set_sources.new.values.items after c.args.self.now.modules c.requires.range c.requires.wiring n ready.constants c.set_sources.ensures.set c.set_sources.ensures.same c.fire_wave.ensures.wave in
    unrests_at c.args.circuit.now wiring c.args.clock c.args.inputs.now after c.args.self.now.modules c.fire_wave.result c.requires.range c.requires.wiring wave.1 wave.2 n c.fire_wave.ensures.some

pub returns-clause-pair_form : goal.returns-clause-pair_form
returns-clause-pair_form c =
    let n = c.requires.modules in
    let wiring = c.args.self.now.wiring in
    let ready = c.set_sources.ensures.ready in
    let after = c.fire_wave.new.values.items in
    let wave = wave_of c.args.circuit.now wiring c.args.clock c.args.inputs.now c.args.self.now.values.items c.set_sources.new.values.items after c.args.self.now.modules c.requires.range c.requires.wiring n ready.constants c.set_sources.ensures.set c.set_sources.ensures.same c.fire_wave.ensures.wave in
    let start = take c.args.self.now.modules c.args.self.now.values.items in
    let long = bits_long c.args.circuit.now c.args.self.now.values.items c.args.self.now.modules n c.requires.ready.constants in
    let some = unrests_at c.args.circuit.now wiring c.args.clock c.args.inputs.now after c.args.self.now.modules c.fire_wave.result c.requires.range c.requires.wiring wave.1 wave.2 n c.fire_wave.ensures.some in
    settles c.every_order.ensures.any_order c.args.circuit.now c.args.clock c.args.inputs.now start (take c.args.self.now.modules after) c.fire_wave.result long
    (wave.0 ∙ ap (λ (k : ℕ). fire_all c.args.circuit.now c.args.clock c.args.inputs.now start (site_wave k)) (sym long)) some c.requires.range

use Rattle.std.proofs.Common.{◌≡◌, ◌+◌, List, ℕ, length, subst, sym, ap, ◌∙◌}
use Rattle.act1_blif.specs.declared.blif.Node.{Node}
use Rattle.act1_circuit.specs.declared.circuit.Output.{Output}
use Rattle.act1_extract.specs.Net.{AreNodes}
use Rattle.act1_extract.specs.Picked.{output_signals}
use Rattle.act1_extract.proofs.net.net_of.Goals as goal
use Rattle.act1_extract.proofs.ArrayNames.{array_names}
use Rattle.act1_extract.proofs.Assembly.{ArePartsOf}
use Rattle.act1_extract.proofs.NetFine.{valid_by}
use Rattle.act1_extract.proofs.NetLevels.{net_levels}
use Rattle.act1_extract.proofs.NetNames.{names_differ, names_fine}
use Rattle.act1_extract.proofs.NetNumbers.{names_long, outputs_low, outside_few, starts_few}
use Rattle.act1_extract.proofs.OutputNames.{array_net}
use Rattle.act1_extract.proofs.SignalNames.{outputs_differ}

pub name_limit-requires-clause-starts : goal.name_limit-requires-clause-starts
name_limit-requires-clause-starts c = starts_few c.args.circuit.now c.requires

pub name_limit-requires-clause-outside : goal.name_limit-requires-clause-outside
name_limit-requires-clause-outside c = outside_few c.args.circuit.now c.requires c.in_ok-layout.layout c.in_ok-layout.ensures

pub nodes_of-requires-clause-named : goal.nodes_of-requires-clause-named
nodes_of-requires-clause-named c =
    names_long c.args.circuit.now c.requires c.in_ok-layout.layout c.in_ok-layout.ensures c.as_slice.result.now c.name_limit.result c.name_limit.ensures (c.as_slice.ensures.value ∙ c.in_ok-names.ensures)

pub output_signals-requires : goal.output_signals-requires
output_signals-requires c = outputs_low c.args.circuit.now c.requires c.in_ok-layout.layout c.in_ok-layout.ensures

pub assembled-requires-clause-valid : goal.assembled-requires-clause-valid
assembled-requires-clause-valid c =
    let circuit = c.args.circuit.now in
    let layout = c.in_ok-layout.layout in
    let laid = c.in_ok-layout.ensures in
    let names = c.as_slice.result.now in
    let inputs = c.in_ok-inputs.inputs in
    let latches = c.in_ok-latches.latches in
    let nodes = c.in_ok-nodes.nodes in
    let inputs_are = c.in_ok-inputs.ensures ∙ c.as_slice-3.ensures in
    let latches_are = c.in_ok-latches.ensures in
    let nodes_are = c.in_ok-nodes.ensures in
    let outputs_are = c.in_ok-outputs.ensures ∙ ap (λ (signals : List ℕ). output_signals circuit signals layout.outputs_at circuit.outputs) c.as_slice-2.ensures in
    let limit = c.name_limit.result in
    let found = c.as_slice.ensures.value ∙ c.in_ok-names.ensures in
    let enough = names_long circuit c.requires layout laid names limit c.name_limit.ensures found in
    valid_by circuit c.requires layout laid names inputs latches nodes inputs_are latches_are nodes_are c.in_ok-model.model c.in_ok-clock.clock c.in_ok-outputs.outputs c.in_ok-model.ensures outputs_are
    (names_fine circuit c.requires layout laid names inputs latches nodes inputs_are latches_are nodes_are limit c.name_limit.ensures found enough c.in_ok-clock.clock c.in_ok-clock.ensures)
    (names_differ circuit c.requires layout laid names inputs latches nodes inputs_are latches_are nodes_are limit c.name_limit.ensures found enough c.in_ok-clock.clock c.in_ok-clock.ensures)
    (outputs_differ circuit c.requires layout laid names inputs latches nodes inputs_are latches_are nodes_are c.in_ok-outputs.outputs outputs_are)

pub assembled-requires-clause-acyclic : goal.assembled-requires-clause-acyclic
assembled-requires-clause-acyclic c = ∣
    net_levels c.args.circuit.now c.requires c.in_ok-layout.layout c.in_ok-layout.ensures c.as_slice.result.now c.in_ok-nodes.nodes c.in_ok-nodes.ensures c.rings_and_levels.ensures.levels c.in_ok-inputs.inputs
    c.in_ok-latches.latches (c.in_ok-inputs.ensures ∙ c.as_slice-3.ensures) c.in_ok-latches.ensures ∣₁

pub returns : goal.returns
returns c =
    let circuit = c.args.circuit.now in
    let layout = c.in_ok-layout.layout in
    let names = c.as_slice.result.now in
    let net = c.assembled.result in
    let parts : ArePartsOf circuit layout names net = record {
      ok = c.requires;
      layout = c.in_ok-layout.ensures;
      nodes = subst (λ (nodes : List Node). AreNodes circuit layout names nodes) (sym c.assembled.ensures.nodes) c.in_ok-nodes.ensures;
      clock = c.assembled.ensures.clock ∙ c.in_ok-clock.ensures;
      inputs = c.assembled.ensures.inputs ∙ c.in_ok-inputs.ensures ∙ c.as_slice-3.ensures;
      latches = c.assembled.ensures.latches ∙ c.in_ok-latches.ensures;
    } in
    let outputs = c.assembled.ensures.outputs ∙ c.in_ok-outputs.ensures ∙ ap (λ (signals : List ℕ). output_signals circuit signals layout.outputs_at circuit.outputs) c.as_slice-2.ensures in
    let enough = names_long circuit c.requires layout c.in_ok-layout.ensures names c.name_limit.result c.name_limit.ensures (c.as_slice.ensures.value ∙ c.in_ok-names.ensures) in
    (array_net circuit layout names net parts outputs, array_names circuit layout names net parts c.name_limit.result (c.as_slice.ensures.value ∙ c.in_ok-names.ensures) enough (c.assembled.ensures.model ∙ c.in_ok-model.ensures))

use Rattle.std.proofs.Common.{ℕ, ◌≡◌, ◌<◌, List, Option, not, length, true, sym, ap, subst, ◌∙◌}
use Rattle.std.specs.Prelude.{filter}
use Rattle.act1_bliftext.specs.Rules.{are_below}
use Rattle.act1_bliftext.specs.declared.statement.NumberedStatement.{NumberedStatement}
use Rattle.act1_blifread.specs.Parts.{all_of, data_inputs, input_names, is_clock}
use Rattle.act1_blifread.proofs.BuiltNetlists.{clock_low}
use Rattle.act1_blifread.proofs.NetlistParts.{AreParts, are_built, parts_fit, parts_levels}
use Rattle.act1_blifread.proofs.SignalLists.{data_below}
use Rattle.act1_blifread.proofs.StatementRules.{kept}
use Rattle.act1_blifread.proofs.netlist.build_netlist.Goals as goal

pub names_at-requires : goal.names_at-requires
names_at-requires c =
    let s = c.args.statements in
    let names : c.as_slice-names.result.now ≡ s.names = c.as_slice-names.ensures in
    let inputs : c.as_slice-2.result.now ≡ data_inputs s.statements =
    c.as_slice-2.ensures.value ∙ c.in_ok-data.ensures ∙ ap (λ (ss : List NumberedStatement). filter (λ n. not (is_clock c.args.signals.now.clock n)) (all_of input_names ss)) c.as_slice.ensures
    ∙ ap (λ (clock : Option ℕ). filter (λ n. not (is_clock clock n)) (all_of input_names s.statements)) c.requires.signals.clock_is in
    subst (λ (k : List (List ℕ)). are_below (length k) c.as_slice-2.result.now ≡ true) (sym names)
    (subst (λ (ns : List ℕ). are_below (length s.names) ns ≡ true) (sym inputs) (data_below (length s.names) s.statements (kept s).within))

pub clock_name-requires : goal.clock_name-requires
clock_name-requires c x is =
    let s = c.args.statements in
    subst (λ (names : List (List ℕ)). x < length names) (sym c.as_slice-names.ensures) (clock_low s x (sym c.requires.signals.clock_is ∙ is))

parts : (c : goal.In_ok-clock_name) → AreParts c.args.statements c.in_ok-model_name.field-0 c.in_ok-clock_name.field-0 c.in_ok-inputs.inputs c.in_ok-latches.latches c.in_ok-nodes.nodes c.in_ok-outputs.outputs
parts c =
    are_built c.args.statements c.args.signals.now.clock c.args.signals.now.places.items c.as_slice-places.result.now c.as_slice-names.result.now c.as_slice-2.result.now c.as_slice.result.now c.as_slice-3.result.now c.as_slice-4.result.now
    c.in_ok-model_name.field-0 c.in_ok-clock_name.field-0 c.in_ok-inputs.inputs c.in_ok-latches.latches c.in_ok-nodes.nodes c.in_ok-outputs.outputs
    c.requires.signals c.as_slice-names.ensures c.as_slice-places.ensures.value c.as_slice.ensures c.as_slice-3.ensures c.as_slice-4.ensures (c.as_slice-2.ensures.value ∙ c.in_ok-data.ensures)
    c.in_ok-model_name.ensures c.in_ok-clock_name.ensures c.in_ok-inputs.ensures c.in_ok-latches.ensures c.in_ok-nodes.ensures c.in_ok-outputs.ensures

pub invariant_of-result : goal.invariant_of-result
invariant_of-result c = record {
  valid = parts_fit c.args.statements c.requires.whole c.in_ok-model_name.field-0 c.in_ok-clock_name.field-0 c.in_ok-inputs.inputs c.in_ok-latches.latches c.in_ok-nodes.nodes c.in_ok-outputs.outputs (parts c);
  acyclic = ∣ parts_levels c.args.statements c.requires.whole c.in_ok-model_name.field-0 c.in_ok-clock_name.field-0 c.in_ok-inputs.inputs c.in_ok-latches.latches c.in_ok-nodes.nodes c.in_ok-outputs.outputs (parts c) c.rings_and_levels.ensures.levels ∣₁;
}

pub returns : goal.returns
returns c =
    let p =
    are_built c.args.statements c.args.signals.now.clock c.args.signals.now.places.items c.as_slice-places.result.now c.as_slice-names.result.now c.as_slice-2.result.now c.as_slice.result.now c.as_slice-3.result.now c.as_slice-4.result.now
    c.in_ok-model_name.field-0 c.in_ok-clock_name.field-0 c.in_ok-inputs.inputs c.in_ok-latches.latches c.in_ok-nodes.nodes c.in_ok-outputs.outputs
    c.requires.signals c.as_slice-names.ensures c.as_slice-places.ensures.value c.as_slice.ensures c.as_slice-3.ensures c.as_slice-4.ensures (c.as_slice-2.ensures.value ∙ c.in_ok-data.ensures)
    c.in_ok-model_name.ensures c.in_ok-clock_name.ensures c.in_ok-inputs.ensures c.in_ok-latches.ensures c.in_ok-nodes.ensures c.in_ok-outputs.ensures in
    record { whole = c.requires.whole; model = p.model_is; clock = p.clock_is; inputs = p.inputs_are; latches = p.latches_are; nodes = p.nodes_are; outputs = p.outputs_are }

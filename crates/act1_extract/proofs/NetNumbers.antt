-- How many starts, modules outside pairs, names and signals there are at most.
use Rattle.std.proofs.Common.{ℕ, suc, zero, ◌≡◌, ◌<◌, ◌≤◌, ◌+◌, ◌^◌, ◌⊎◌, Bool, true, false, List, [], ◌∷◌, ◌++◌, length, map, Option, Some, None, refl, sym, ap, ◌∙◌, inl, inr, arith}
use Rattle.std.specs.Prelude.{option_to_list, if◌then◌else◌}
use Rattle.std.proofs.lemmas.List.{length-append, length-map}
use Rattle.act1_circuit.specs.declared.circuit.Circuit.{Circuit}
use Rattle.act1_circuit.specs.declared.circuit.Output.{Output}
use Rattle.act1_circuit.specs.declared.circuit.Start.{Start}
use Rattle.act1_meaning.specs.Extracted.{count_below, first_node, is_outside, is_slave}
use Rattle.act1_meaning.specs.ArrayNames.{is_free, outside_count, taken_names}
use Rattle.act1_extract.specs.declared.plan.Layout.{Layout}
use Rattle.act1_extract.specs.Layout.{IsLayout}
use Rattle.act1_extract.specs.Net.{IsExtractable}
use Rattle.act1_extract.specs.Parts.{free_names}
use Rattle.act1_extract.proofs.FreeNames.{free_picked, names_enough}
use Rattle.act1_extract.proofs.Picks.{below_most}
use Rattle.act1_extract.proofs.Slaves.{start_count}

bit : (b : Bool) → (if b then 1 else 0) ≤ 1
bit true = omega arith
bit false = omega arith

clock_short : (clock : Option (List ℕ)) → length (option_to_list clock) ≤ 1
clock_short None = omega arith
clock_short (Some name) = omega arith

pub taken_long : (c : Circuit) → length (taken_names c) ≤ 1 + length c.inputs + length c.outputs + length c.starts
taken_long c =
    let a = clock_short c.clock in
    let o = length-map c.outputs (λ (u : Output). u.name) in
    let s = length-map c.starts (λ (u : Start). u.name) in
    let x = length-append (option_to_list c.clock ++ c.inputs ++ map (λ (u : Output). u.name) c.outputs) (map (λ (u : Start). u.name) c.starts) in
    let y = length-append (option_to_list c.clock ++ c.inputs) (map (λ (u : Output). u.name) c.outputs) in
    let z = length-append (option_to_list c.clock) c.inputs in
    omega arith

module _ (c : Circuit) (ok : IsExtractable c) where
  pub starts_few : length c.starts ≤ 2048
  starts_few =
      let is = start_count c ok.rules.range ok.form ok.rules.rise in
      let most = below_most (is_slave c) (length c.modules) in
      let few = ok.rules.modules in
      omega arith

  module _ (l : Layout) (layout : IsLayout c l) where
    pub outside_few : l.outside ≤ 2048
    outside_few =
        let is = layout.outside in
        let most = below_most (is_outside c) (length c.modules) in
        let few = ok.rules.modules in
        omega arith

    pub outputs_low : l.outputs_at + length c.outputs ≤ 65535
    outputs_low =
        let a = layout.zero_at in
        let b = layout.one_at in
        let d = layout.outputs_at in
        let x = bit l.has_zero in
        let y = bit l.has_one in
        let slaves = below_most (is_slave c) (length c.modules) in
        let others = below_most (is_outside c) (length c.modules) in
        let few = ok.rules.modules in
        let ports = ok.rules.ports in
        omega arith

    pub names_long : (names : List (List ℕ)) (limit : ℕ) → limit ≡ length c.inputs + length c.outputs + length c.starts + l.outside + 3 → names ≡ free_names c limit → l.outside + 2 ≤ length names
    names_long names limit at is =
        let few = starts_few in
        let others = outside_few in
        let ports = ok.rules.ports in
        let small : limit < 2 ^ 64 = omega arith in
        let enough = names_enough c limit small in
        let count = (free_picked c limit).count in
        let long = ap length is in
        let taken = taken_long c in
        omega arith

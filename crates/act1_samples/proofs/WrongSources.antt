-- A circuit whose output has a source that isn't there means no netlist, though what is missing counts as 0.
use Rattle.std.proofs.Common.{ℕ, suc, zero, ◌≡◌, ◌<◌, ◌+◌, true, List, [], ◌∷◌, length, arith, refl, ap, ◌∙◌, Some, None}
use Rattle.std.specs.Prelude.{codes, Contains, slice_get, slice_index_or}
use Rattle.act1_blif.specs.declared.blif.Blif.{Blif}
use Rattle.act1_blif.specs.declared.blif.Node.{Node}
use Rattle.act1_logic.specs.declared.cover.Cover.{Cover}
use Rattle.act1_circuit.specs.declared.circuit.Circuit.{Circuit}
use Rattle.act1_circuit.specs.declared.circuit.Source.TheVariants.{Module}
use Rattle.act1_meaning.specs.Meaning.{Means, MeansInOrder}

-- the constant 0
abbrev pub zero_cover : Cover
zero_cover = record { width = 0; output = true; rows = []; valid = refl }

abbrev pub zero_node : Node
zero_node = record { name = codes "y"; inputs = []; cover = zero_cover }

reads_nothing : (x y : Node) {j : ℕ} → Some x ≡ Some y → x.inputs ≡ [] → ¬ Contains y.inputs j
reads_nothing x y is none h =
    let same : y.inputs ≡ x.inputs = cc in
    let low = h.1 in
    let long = ap (λ (ns : List ℕ). length ns) (same ∙ none) in
    absurd (omega (arith, low, long))

pub no_ring : (k j : ℕ) (node : Node) → slice_get (zero_node ∷ []) k ≡ Some node → Contains node.inputs (0 + j) → slice_index_or [] j 0 < slice_index_or [] k 0
no_ring zero j node is h = absurd (reads_nothing zero_node node is refl h)
no_ring (suc k) j node is h = cc

-- `.outputs y` and `.names y`
abbrev pub zero_net : Blif
zero_net = record {
  model = codes "top";
  clock = None;
  inputs = [];
  latches = [];
  nodes = zero_node ∷ [];
  outputs = 0 ∷ [];
  valid = refl;
  acyclic = ∣ record { levels = []; above = no_ring } ∣₁;
}

-- no modules, and the output is that of module 7
abbrev pub of_no_module : Circuit
of_no_module = record { clock = None; inputs = []; modules = []; outputs = record { name = codes "y"; source = Module 7 } ∷ []; starts = [] }

of_no_module_means_not : ¬ Means of_no_module zero_net
of_no_module_means_not m = absurd (omega (arith, m.in_range.outputs 0 (record { name = codes "y"; source = Module 7 }) (omega arith)))

nor_in_order : ¬ MeansInOrder of_no_module zero_net
nor_in_order m = absurd (omega (arith, m.in_range.outputs 0 (record { name = codes "y"; source = Module 7 }) (omega arith)))

-- A netlist is the netlist of its canonical text.
use Rattle.std.proofs.Common.{ℕ, ◌≡◌, ◌+◌, true, ◌&&◌, List, [], ◌∷◌, ◌++◌, length, map, Option, Some, None, codes, refl, sym, ap, subst, ◌∙◌}
use Rattle.std.specs.Prelude.{option_map}
use Rattle.std.specs.Fmt.{decimal}
use Rattle.std.specs.List.{flat_map, list_all, AllByRecursion}
use Rattle.std.proofs.lemmas.Bool.{and_parts, and_from}
use Rattle.std.proofs.lemmas.List.Folds.{list_all-append}
use Rattle.act1_blif.specs.declared.blif.Blif.{Blif}
use Rattle.act1_blif.specs.declared.blif.Latch.{Latch}
use Rattle.act1_blif.specs.declared.blif.Node.{Node}
use Rattle.act1_blif.specs.Names.{signal_name, signal_names}
use Rattle.act1_blif.specs.Rules.{with_clock}
use Rattle.act1_blif.specs.Text.{clock_lines, control_words, latch_words, node_lines, blif_lines}
use Rattle.act1_bliftext.specs.Forms.{form_of, latch_control}
use Rattle.act1_blifread.specs.Laws.{CanonicalIsBlif}
use Rattle.act1_blifread.specs.Parts.{all_of, output_names}
use Rattle.act1_blifread.specs.Netlist.{IsNetlistOf, latches_of, name_at, nodes_of, signal_at}
use Rattle.act1_blifread.proofs.FirstLines.{is_whole}
use Rattle.act1_blifread.proofs.CanonicalNames.{is_in, all_passes}
use Rattle.act1_blifread.proofs.CanonicalNet.{all_names, keeps, inputs_in}
use Rattle.act1_bliftext.specs.Laws.{WrittenLinesAreRead}
use Rattle.act1_bliftext.specs.Lines.{lines_from}
use Rattle.act1_blifread.proofs.CanonicalSaid.{HasNames, place_in}
use Rattle.act1_blifread.proofs.CanonicalLines.{lines_both, all_both}
use Rattle.act1_blifread.proofs.CanonicalReads.{blif_said}
use Rattle.act1_blifread.proofs.CanonicalPlaces.{name_back, names_back}
use Rattle.act1_blifread.proofs.CanonicalParts.{latch_outputs, node_outputs, clock_is, data_are, signals_are, latches_back, nodes_back, outputs_are, numbers_back}
use Rattle.act1_blifread.proofs.CanonicalWhole.{one_clock, none_undriven, clock_unused, none_twice}
use Rattle.act1_blifread.proofs.CanonicalRings.{none_loop}
use Rattle.act1_blifread.proofs.CanonicalStatements.{used_first, names_there, statements_of, are_statements}

module _ (net : Blif) (names : List (List ℕ)) where
  -- the lines name the outputs of latches and nodes
  latches_named : (number : ℕ) (latches : List Latch) → AllByRecursion (HasNames names) (lines_from number (map (latch_words net) latches)) → list_all (is_in names) (latch_outputs latches) ≡ true
  unfolding form_of
  latches_named number [] h = refl
  latches_named number (latch ∷ latches) h =
      let controls = latch_control (control_words net.clock ++ decimal latch.init ∷ []) in
      let line = and_parts (is_in names (signal_name net latch.input)) (is_in names latch.name && list_all (is_in names) controls) h.0 in
      and_from (is_in names latch.name) (list_all (is_in names) (latch_outputs latches)) (and_parts (is_in names latch.name) (list_all (is_in names) controls) line.1).0 (latches_named (number + 1) latches h.1)

  nodes_named : (number : ℕ) (nodes : List Node) → AllByRecursion (HasNames names) (lines_from number (flat_map (node_lines net) nodes)) → list_all (is_in names) (node_outputs nodes) ≡ true
  unfolding form_of
  nodes_named number [] h = refl
  nodes_named number (node ∷ nodes) h =
      let more = lines_from (number + length (node_lines net node)) (flat_map (node_lines net) nodes) in
      let parts = all_both (HasNames names) (lines_from number (node_lines net node)) more (subst (AllByRecursion (HasNames names)) (lines_both number (node_lines net node) (flat_map (node_lines net) nodes)) h) in
      let inputs = map (signal_name net) node.inputs in
      let line : (list_all (is_in names) inputs && (is_in names node.name && true)) ≡ true = sym (list_all-append (is_in names) inputs (node.name ∷ [])) ∙ parts.0.0 in
      and_from (is_in names node.name) (list_all (is_in names) (node_outputs nodes)) (and_parts (is_in names node.name) true (and_parts (list_all (is_in names) inputs) (is_in names node.name && true) line).1).0
      (nodes_named (number + length (node_lines net node)) nodes parts.1)

  clock_named : (clock : Option (List ℕ)) (signals : List (List ℕ)) → AllByRecursion (HasNames names) (lines_from 4 (clock_lines clock)) → list_all (is_in names) signals ≡ true → list_all (is_in names) (with_clock clock signals) ≡ true
  unfolding form_of
  clock_named None signals h k = k
  clock_named (Some clock) signals h k = and_from (is_in names clock) (list_all (is_in names) signals) (and_parts (is_in names clock) true h.0).0 k

  all_named : AllByRecursion (HasNames names) (lines_from 1 (blif_lines net)) → list_all (is_in names) (all_names net) ≡ true
  unfolding form_of
  all_named h =
      let head : List (List (List ℕ)) = (codes ".model" ∷ net.model ∷ []) ∷ (codes ".inputs" ∷ net.inputs) ∷ (codes ".outputs" ∷ map (signal_name net) net.outputs) ∷ clock_lines net.clock in
      let latches = map (latch_words net) net.latches in
      let nodes = flat_map (node_lines net) net.nodes in
      let last : List (List (List ℕ)) = (codes ".end" ∷ []) ∷ [] in
      let a = all_both (HasNames names) (lines_from 1 (head ++ latches ++ nodes)) (lines_from (1 + length (head ++ latches ++ nodes)) last) (subst (AllByRecursion (HasNames names)) (lines_both 1 (head ++ latches ++ nodes) last) h) in
      let b = all_both (HasNames names) (lines_from 1 (head ++ latches)) (lines_from (1 + length (head ++ latches)) nodes) (subst (AllByRecursion (HasNames names)) (lines_both 1 (head ++ latches) nodes) a.0) in
      let d = all_both (HasNames names) (lines_from 1 head) (lines_from (1 + length head) latches) (subst (AllByRecursion (HasNames names)) (lines_both 1 head latches) b.0) in
      let inputs : list_all (is_in names) net.inputs ≡ true = d.0.1.0 in
      let of_latches = latches_named (1 + length head) net.latches d.1 in
      let of_nodes = nodes_named (1 + length (head ++ latches)) net.nodes b.1 in
      clock_named net.clock (signal_names net) d.0.1.1.1
      (list_all-append (is_in names) (net.inputs ++ latch_outputs net.latches) (node_outputs net.nodes)
      ∙ and_from (list_all (is_in names) (net.inputs ++ latch_outputs net.latches)) (list_all (is_in names) (node_outputs net.nodes))
      (list_all-append (is_in names) net.inputs (latch_outputs net.latches) ∙ and_from (list_all (is_in names) net.inputs) (list_all (is_in names) (latch_outputs net.latches)) inputs of_latches) of_nodes)

module _ (net : Blif) where
  known : list_all (is_in (used_first net)) (all_names net) ≡ true
  known = all_named net (used_first net) (names_there net)

  clock_back : (clock : Option (List ℕ)) → list_all (is_in (used_first net)) (with_clock clock (signal_names net)) ≡ true → option_map (name_at (used_first net)) (option_map (place_in (used_first net)) clock) ≡ clock
  clock_back None h = refl
  clock_back (Some clock) h = ap (λ (w : List ℕ). Some w) (name_back (used_first net) clock (and_parts (is_in (used_first net) clock) (list_all (is_in (used_first net)) (signal_names net)) h).0)

  -- the netlist is that of the statements
  is_netlist : (law : WrittenLinesAreRead) → IsNetlistOf (statements_of net law) net
  is_netlist law =
      let names = used_first net in
      let ss = blif_said net names in
      let signals = map (place_in names) (signal_names net) in
      record {
        whole = is_whole ss (none_twice net names known) (one_clock net names known) (none_undriven net names known) (clock_unused net names known) (none_loop net names known);
        model = refl;
        clock = sym (ap (option_map (name_at names)) (clock_is net names) ∙ clock_back net.clock known);
        inputs = sym (ap (map (name_at names)) (data_are net names known) ∙ names_back names net.inputs (all_passes (is_in names) (all_names net) net.inputs known (inputs_in net)));
        latches = sym (ap (λ (ns : List ℕ). latches_of names ns ss) (signals_are net names known) ∙ latches_back net names known);
        nodes = sym (ap (λ (ns : List ℕ). nodes_of names ns ss) (signals_are net names known) ∙ nodes_back net names known);
        outputs = sym (ap (λ (ns : List ℕ). map (signal_at ns) (all_of output_names ss)) (signals_are net names known) ∙ ap (map (signal_at signals)) (outputs_are net names) ∙ numbers_back net names known net.outputs (keeps net).outputs);
      }

pub canonical_is_blif : WrittenLinesAreRead → CanonicalIsBlif
canonical_is_blif law net = record { statements = statements_of net law; said = are_statements net law; netlist = is_netlist net law }

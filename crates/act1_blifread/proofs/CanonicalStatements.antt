-- The statements of a netlist's canonical text.
use Rattle.std.proofs.Common.{ℕ, ◌≡◌, eqb, Bool, true, List, [], ◌∷◌, ◌++◌, length, map, Option, Some, None, codes, refl, sym, ap, subst, ◌∙◌}
use Rattle.std.specs.Prelude.{nat_lt, nat_le}
use Rattle.std.specs.Fmt.{decimal}
use Rattle.std.specs.List.{list_all, flat_map, AllByRecursion}
use Rattle.std.proofs.lemmas.List.Folds.{list_all-append}
use Rattle.std.proofs.lemmas.Bool.{and_parts, and_from}
use Rattle.act1_base.specs.Names.{is_name}
use Rattle.act1_logic.specs.declared.cover.Mark.{Mark}
use Rattle.act1_logic.specs.declared.cover.Row.{Row}
use Rattle.act1_bliftext.specs.Lines.{Line, lines_from, text_lines, over}
use Rattle.act1_bliftext.specs.Forms.{form_of}
use Rattle.act1_bliftext.specs.Faults.{first_fault, is_fine_word, names_above}
use Rattle.act1_bliftext.specs.Statements.{Say, StatementsOf, model_of}
use Rattle.act1_bliftext.specs.declared.statements.Statements.{Statements}
use Rattle.act1_bliftext.specs.Laws.{WrittenLinesAreRead, are_fine}
use Rattle.act1_blif.specs.declared.blif.Blif.{Blif}
use Rattle.act1_blif.specs.declared.blif.Latch.{Latch}
use Rattle.act1_blif.specs.declared.blif.Node.{Node}
use Rattle.act1_blif.specs.Names.{signal_name}
use Rattle.act1_blif.specs.Rules.{is_latch, is_node}
use Rattle.act1_blif.specs.Text.{mark_byte, output_word, row_words, node_lines, latch_words, control_words, clock_lines, blif_lines, blif_text}
use Rattle.act1_blifread.proofs.CanonicalNames.{is_in, all_passes}
use Rattle.act1_blifread.proofs.CanonicalNet.{all_names, count_of, keeps, named_in, all_named_in, inputs_in, latches_in, nodes_in, clock_in}
use Rattle.act1_blifread.proofs.CanonicalFaults.{names_fine, init_word, marks_fine, output_fine}
use Rattle.act1_blifread.proofs.CanonicalSaid.{HasNames, has_names}
use Rattle.act1_blifread.proofs.CanonicalReads.{blif_said, no_fault, all_said}

both_fine : (words more : List (List ℕ)) → list_all is_fine_word words ≡ true → list_all is_fine_word more ≡ true → list_all is_fine_word (words ++ more) ≡ true
both_fine words more h k = list_all-append is_fine_word words more ∙ and_from (list_all is_fine_word words) (list_all is_fine_word more) h k

lines_fine : (lines more : List (List (List ℕ))) → are_fine lines ≡ true → are_fine more ≡ true → are_fine (lines ++ more) ≡ true
lines_fine lines more h k = list_all-append (λ words. list_all is_fine_word words) lines more ∙ and_from (are_fine lines) (are_fine more) h k

line_fine : (words : List (List ℕ)) (more : List (List (List ℕ))) → list_all is_fine_word words ≡ true → are_fine more ≡ true → are_fine (words ∷ more) ≡ true
line_fine words more h k = and_from (list_all is_fine_word words) (are_fine more) h k

word_fine : (word : List ℕ) (more : List (List ℕ)) → is_fine_word word ≡ true → list_all is_fine_word more ≡ true → list_all is_fine_word (word ∷ more) ≡ true
word_fine word more h k = and_from (is_fine_word word) (list_all is_fine_word more) h k

module _ (net : Blif) where
  named_fine : (words : List (List ℕ)) → list_all (is_in (all_names net)) words ≡ true → list_all is_fine_word words ≡ true
  named_fine words h = names_fine words (all_passes is_name (all_names net) words (keeps net).fit h)

  one_fine : (word : List ℕ) → is_in (all_names net) word ≡ true → is_fine_word word ≡ true
  one_fine word h = (and_parts (is_fine_word word) true (named_fine (word ∷ []) (and_from (is_in (all_names net) word) true h refl))).0

  control_fine : (clock : Option (List ℕ)) → net.clock ≡ clock → list_all is_fine_word (control_words clock) ≡ true
  control_fine None is = refl
  control_fine (Some clock) is = word_fine (codes "re") (clock ∷ []) refl (word_fine clock [] (one_fine clock (clock_in net clock is)) refl)

  latches_fine : (latches : List Latch) → list_all (is_latch (count_of net)) latches ≡ true → list_all (is_in (all_names net)) (map (λ (latch : Latch). latch.name) latches) ≡ true → are_fine (map (latch_words net) latches) ≡ true
  latches_fine [] fine named = refl
  latches_fine (latch ∷ latches) fine named =
      let parts = and_parts (is_latch (count_of net) latch) (list_all (is_latch (count_of net)) latches) fine in
      let both = and_parts (is_in (all_names net) latch.name) (list_all (is_in (all_names net)) (map (λ (l : Latch). l.name) latches)) named in
      let own = and_parts (nat_lt latch.input (count_of net)) (nat_le latch.init 3) parts.0 in
      let control = control_words net.clock in
      let behind = both_fine control (decimal latch.init ∷ []) (control_fine net.clock refl) (word_fine (decimal latch.init) [] (init_word latch.init own.1).fine refl) in
      line_fine (latch_words net latch) (map (latch_words net) latches)
      (word_fine (codes ".latch") (signal_name net latch.input ∷ latch.name ∷ control ++ decimal latch.init ∷ []) refl
      (word_fine (signal_name net latch.input) (latch.name ∷ control ++ decimal latch.init ∷ []) (one_fine (signal_name net latch.input) (named_in net latch.input own.0))
      (word_fine latch.name (control ++ decimal latch.init ∷ []) (one_fine latch.name both.0) behind)))
      (latches_fine latches parts.1 both.1)

  row_fine : (output : Bool) (marks : List Mark) → list_all is_fine_word (row_words output marks) ≡ true
  row_fine output [] = word_fine (output_word output) [] (output_fine output) refl
  row_fine output (mark ∷ marks) = word_fine (map mark_byte (mark ∷ marks)) (output_word output ∷ []) (marks_fine mark marks) (word_fine (output_word output) [] (output_fine output) refl)

  rows_fine : (output : Bool) (rows : List Row) → are_fine (map (λ (row : Row). row_words output row.marks) rows) ≡ true
  rows_fine output [] = refl
  rows_fine output (row ∷ rows) = line_fine (row_words output row.marks) (map (λ (r : Row). row_words output r.marks) rows) (row_fine output row.marks) (rows_fine output rows)

  nodes_fine : (nodes : List Node) → list_all (is_node (count_of net)) nodes ≡ true → list_all (is_in (all_names net)) (map (λ (node : Node). node.name) nodes) ≡ true → are_fine (flat_map (node_lines net) nodes) ≡ true
  nodes_fine [] fine named = refl
  nodes_fine (node ∷ nodes) fine named =
      let parts = and_parts (is_node (count_of net) node) (list_all (is_node (count_of net)) nodes) fine in
      let both = and_parts (is_in (all_names net) node.name) (list_all (is_in (all_names net)) (map (λ (n : Node). n.name) nodes)) named in
      let own = and_parts (eqb node.cover.width (length node.inputs)) (list_all (λ s. nat_lt s (count_of net)) node.inputs) parts.0 in
      let inputs = map (signal_name net) node.inputs in
      lines_fine (node_lines net node) (flat_map (node_lines net) nodes)
      (line_fine (codes ".names" ∷ inputs ++ node.name ∷ []) (map (λ (row : Row). row_words node.cover.output row.marks) node.cover.rows)
      (word_fine (codes ".names") (inputs ++ node.name ∷ []) refl (both_fine inputs (node.name ∷ []) (named_fine inputs (all_named_in net node.inputs own.1)) (word_fine node.name [] (one_fine node.name both.0) refl)))
      (rows_fine node.cover.output node.cover.rows))
      (nodes_fine nodes parts.1 both.1)

  clock_fine : (clock : Option (List ℕ)) → net.clock ≡ clock → are_fine (clock_lines clock) ≡ true
  clock_fine None is = refl
  clock_fine (Some clock) is = line_fine (codes ".clock" ∷ clock ∷ []) [] (word_fine (codes ".clock") (clock ∷ []) refl (word_fine clock [] (one_fine clock (clock_in net clock is)) refl)) refl

  all_fine : are_fine (blif_lines net) ≡ true
  all_fine =
      let k = keeps net in
      let outputs = map (signal_name net) net.outputs in
      let after_outputs : List (List (List ℕ)) = (codes ".outputs" ∷ outputs) ∷ clock_lines net.clock in
      let after_inputs : List (List (List ℕ)) = (codes ".inputs" ∷ net.inputs) ∷ after_outputs in
      let head : List (List (List ℕ)) = (codes ".model" ∷ net.model ∷ []) ∷ after_inputs in
      let model = names_fine (net.model ∷ []) (and_from (is_name net.model) true k.model refl) in
      lines_fine (head ++ map (latch_words net) net.latches ++ flat_map (node_lines net) net.nodes) ((codes ".end" ∷ []) ∷ [])
      (lines_fine (head ++ map (latch_words net) net.latches) (flat_map (node_lines net) net.nodes)
      (lines_fine head (map (latch_words net) net.latches)
      (line_fine (codes ".model" ∷ net.model ∷ []) after_inputs (word_fine (codes ".model") (net.model ∷ []) refl model)
      (line_fine (codes ".inputs" ∷ net.inputs) after_outputs (word_fine (codes ".inputs") net.inputs refl (named_fine net.inputs (inputs_in net)))
      (line_fine (codes ".outputs" ∷ outputs) (clock_lines net.clock) (word_fine (codes ".outputs") outputs refl (named_fine outputs (all_named_in net net.outputs k.outputs))) (clock_fine net.clock refl))))
      (latches_fine net.latches k.latches (latches_in net)))
      (nodes_fine net.nodes k.nodes (nodes_in net)))
      refl

  -- the lines of the canonical text are those of its words
  text_is : (law : WrittenLinesAreRead) → text_lines (blif_text net) ≡ lines_from 1 (blif_lines net)
  text_is law = law.words (blif_lines net) all_fine

  -- its names in the order of their first use
  abbrev pub used_first : List (List ℕ)
  used_first = names_above (over (lines_from 1 (blif_lines net)) [])

  pub names_there : AllByRecursion (HasNames used_first) (lines_from 1 (blif_lines net))
  names_there = has_names used_first (lines_from 1 (blif_lines net)) [] (λ w h. h)

  pub faultless : (law : WrittenLinesAreRead) → first_fault [] (lines_from 1 (blif_lines net)) ≡ None
  faultless law = no_fault net used_first law

  later_model : (lines : List Line) (line : Line) (above : List Line) → model_of (over lines (line ∷ above)) ≡ model_of (line ∷ above)
  later_model [] line above = refl
  later_model (next ∷ lines) line above = later_model lines next (line ∷ above)

  model_first : Some net.model ≡ model_of (over (lines_from 1 (blif_lines net)) [])
  unfolding form_of
  model_first = sym (later_model (lines_from 2 (let rest : List (List (List ℕ)) = (codes ".inputs" ∷ net.inputs) ∷ (codes ".outputs" ∷ map (signal_name net) net.outputs) ∷ clock_lines net.clock ++ map (latch_words net) net.latches ++ flat_map (node_lines net) net.nodes ++ (codes ".end" ∷ []) ∷ [] in rest))
      (record { number = 1; first = codes ".model"; rest = net.model ∷ [] }) [])

  pub say : (law : WrittenLinesAreRead) → Say (over (lines_from 1 (blif_lines net)) []) (Some net.model) used_first (blif_said net used_first)
  say law = record { model = model_first; names = refl; statements = all_said net used_first law names_there }

  -- the statements of the canonical text
  abbrev pub statements_of : WrittenLinesAreRead → Statements
  statements_of law = record {
    model = Some net.model;
    names = used_first;
    statements = blif_said net used_first;
    valid = law.rules (lines_from 1 (blif_lines net)) (Some net.model) used_first (blif_said net used_first) (faultless law) (say law);
  }

  pub are_statements : (law : WrittenLinesAreRead) → StatementsOf (blif_text net) (statements_of law)
  are_statements law =
      law.read (blif_text net) (statements_of law) (ap (first_fault []) (text_is law) ∙ faultless law)
      (subst (λ (lines : List Line). Say (over lines []) (Some net.model) used_first (blif_said net used_first)) (sym (text_is law)) (say law))

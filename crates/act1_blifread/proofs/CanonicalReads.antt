-- All lines of a netlist's canonical text: they have no fault, and say its statements.
use Rattle.std.proofs.Common.{ℕ, ◌≡◌, ◌+◌, ◌≤◌, eqb, Bool, true, false, ◌&&◌, ◌||◌, List, [], ◌∷◌, ◌++◌, length, map, Option, Some, None, codes, refl, sym, ap, subst, ◌∙◌, arith, length-append}
use Rattle.std.specs.Prelude.{nat_lt, nat_le}
use Rattle.std.specs.Option.{option_or}
use Rattle.std.specs.List.{list_all, flat_map, AllByRecursion}
use Rattle.std.proofs.lemmas.Bool.{and_parts, and_from, or_from, leb-true}
use Rattle.std.proofs.lemmas.Bool.Decides.{nat_tests}
use Rattle.std.proofs.lemmas.List.{append-nil, map-append, length-map}
use Rattle.std.proofs.lemmas.List.Folds.{list_all-append}
use Rattle.act1_logic.specs.declared.cover.Cover.{Cover}
use Rattle.act1_logic.specs.declared.cover.Mark.{Mark}
use Rattle.act1_logic.specs.declared.cover.Row.{Row}
use Rattle.act1_bliftext.specs.Lines.{Line, line_of, lines_from, over}
use Rattle.act1_bliftext.specs.Forms.{form_of}
use Rattle.act1_bliftext.specs.Faults.{first_fault, fault_of, fault_at, is_bad_word, is_long}
use Rattle.act1_bliftext.specs.Statements.{Says, AreSaid, block_with, blocks_above, is_said}
use Rattle.act1_bliftext.specs.Tables.{AreNumbersOf}
use Rattle.act1_bliftext.specs.declared.fault.BlifKind.{BlifKind}
use Rattle.act1_bliftext.specs.declared.form.Form.TheVariants as form
use Rattle.act1_bliftext.specs.declared.statement.NumberedStatement.{NumberedStatement}
use Rattle.act1_bliftext.specs.declared.statement.Statement.TheVariants as said
use Rattle.act1_bliftext.specs.Laws.{WrittenLinesAreRead}
use Rattle.act1_blif.specs.declared.blif.Blif.{Blif}
use Rattle.act1_blif.specs.declared.blif.Node.{Node}
use Rattle.act1_blif.specs.Names.{signal_name}
use Rattle.act1_blif.specs.Rules.{is_node}
use Rattle.act1_blif.specs.Text.{row_words, node_lines, latch_words, clock_lines, blif_lines}
use Rattle.act1_blifread.proofs.CanonicalNames.{is_in}
use Rattle.act1_blifread.proofs.CanonicalNet.{all_names, count_of, keeps, all_named_in, inputs_in, latches_in, nodes_in, clock_in}
use Rattle.act1_blifread.proofs.CanonicalFaults.{IsAbove, pass_none, pass_more, name_fine, inputs_pass, outputs_pass, clock_passes, names_pass, line_free, row_line, row_lines, IsUnder, rows_pass}
use Rattle.act1_blifread.proofs.CanonicalSaid.{place_in, numbers_there, HasNames, Adds, adds_both, adds_block, adds_nothing, rows_back, output_back, rows_are}
use Rattle.act1_blifread.proofs.CanonicalLines.{lines_both, all_both, Reads, reads_none, reads_both, latches_said, node_said, nodes_said, reads_latches}

-- the words of rows make the lines of rows
row_of_words : (number : ℕ) (output : Bool) (marks : List Mark) (rest : List Line) → line_of number (row_words output marks) ++ rest ≡ row_line number output marks ∷ rest
row_of_words number output [] rest = refl
row_of_words number output (mark ∷ marks) rest = refl

rows_of_words : (number : ℕ) (output : Bool) (rows : List Row) → lines_from number (map (λ (row : Row). row_words output row.marks) rows) ≡ row_lines number output rows
rows_of_words number output [] = refl
rows_of_words number output (row ∷ rows) =
    row_of_words number output row.marks (lines_from (number + 1) (map (λ (r : Row). row_words output r.marks) rows))
    ∙ ap (λ (rest : List Line). row_line number output row.marks ∷ rest) (rows_of_words (number + 1) output rows)

same_number : (n m : ℕ) → eqb n m ≡ true → n ≡ m
same_number n m h = grind (arith, nat_tests)

-- what a cover keeps
record KeepsCover (cover : Cover) : Type 0 where
  few : cover.width ≤ 64
  rows : list_all (λ (row : Row). eqb (length row.marks) cover.width) cover.rows ≡ true
  output : cover.rows ≡ [] → cover.output ≡ true

keeps_cover : (cover : Cover) → KeepsCover cover
keeps_cover cover =
    let few = nat_le cover.width 64 in
    let rows = list_all (λ (row : Row). eqb (length row.marks) cover.width) cover.rows in
    let outs = cover.output || nat_lt 0 (length cover.rows) in
    let a = and_parts _ outs cover.valid in
    let b = and_parts (few && rows) _ a.0 in
    let d = and_parts few rows b.0 in
    record { few = leb-true cover.width 64 d.0; rows = d.1; output = λ none. by cover.output cover.rows none a.1 }
  where
    by : (output : Bool) (rows : List Row) → rows ≡ [] → (output || nat_lt 0 (length rows)) ≡ true → output ≡ true
    by true rows none h = refl
    by false [] none h = h
    by false (row ∷ rows) none h = cc

module _ (net : Blif) (names : List (List ℕ)) where
  -- the line of a node
  abbrev node_line : ℕ → Node → Line
  node_line number node = record { number = number; first = codes ".names"; rest = map (signal_name net) node.inputs ++ node.name ∷ [] }

  node_is : (number : ℕ) (node : Node) → form_of (node_line number node).first ≡ form.Names
  unfolding form_of
  node_is number node = refl

  node_under : (above : List Line) (number : ℕ) (node : Node) → node.cover.width ≡ length node.inputs → IsUnder node.cover.width node.cover.output (node_line number node ∷ above)
  unfolding form_of
  node_under above number node wide =
      let size = length-append (map (signal_name net) node.inputs) (node.name ∷ []) in
      let inputs = length-map node.inputs (signal_name net) in
      record { head = node_line number node; is_head = refl; form_is = refl; wide = omega (arith, size, inputs, wide); same = refl }

  node_words_are : (number : ℕ) (node : Node) → lines_from number (node_lines net node) ≡ node_line number node ∷ row_lines (number + 1) node.cover.output node.cover.rows
  node_words_are number node = ap (λ (rest : List Line). node_line number node ∷ rest) (rows_of_words (number + 1) node.cover.output node.cover.rows)

  node_says : (number : ℕ) (node : Node) → node.cover.width ≡ length node.inputs → HasNames names (node_line number node)
      → Says names (block_with (node_line number node) (row_lines (number + 1) node.cover.output node.cover.rows)) (node_said net names number node)
  unfolding form_of
  node_says number node wide h =
      let inputs = map (signal_name net) node.inputs in
      record {
        line = refl;
        form = refl;
        numbers = subst (λ (ns : List ℕ). AreNumbersOf names ns (inputs ++ node.name ∷ [])) (map-append (place_in names) inputs (node.name ∷ [])) (numbers_there names (inputs ++ node.name ∷ []) h);
        beside = (
          wide ∙ sym (length-map inputs (place_in names) ∙ length-map node.inputs (signal_name net)),
          output_back (number + 1) node.cover.output node.cover.rows (keeps_cover node.cover).output,
          rows_back (number + 1) node.cover.output node.cover.rows,
        );
      }

  reads_node : (law : WrittenLinesAreRead) (above : List Line) (number : ℕ) (node : Node) → is_node (count_of net) node ≡ true → is_in (all_names net) node.name ≡ true → IsAbove (all_names net) above
      → Reads (all_names net) names above (lines_from number (node_lines net node)) (node_said net names number node ∷ [])
  reads_node law above number node fine named a =
      let parts = and_parts (eqb node.cover.width (length node.inputs)) (list_all (λ s. nat_lt s (count_of net)) node.inputs) fine in
      let wide = same_number node.cover.width (length node.inputs) parts.0 in
      let cover = keeps_cover node.cover in
      let few = cover.few in
      let k = keeps net in
      let all = all_names net in
      let inputs = map (signal_name net) node.inputs in
      let line = node_line number node in
      let rows = row_lines (number + 1) node.cover.output node.cover.rows in
      let among : list_all (is_in all) (inputs ++ node.name ∷ []) ≡ true = list_all-append (is_in all) inputs (node.name ∷ []) ∙ and_from (list_all (is_in all) inputs) (is_in all node.name && true) (all_named_in net node.inputs parts.1) (and_from (is_in all node.name) true named refl) in
      let p = names_pass all k.fit k.few above number inputs node.name (omega (arith, length-map node.inputs (signal_name net), wide, few)) among a in
      let q = rows_pass all node.cover.width node.cover.output (line ∷ above) (number + 1) node.cover.rows cover.rows (node_under above number node wide) p.next in
      subst (λ (ls : List Line). Reads all names above ls (node_said net names number node ∷ [])) (sym (node_words_are number node))
      (record {
        pass = pass_more all above line rows p.faultless q;
        adds = λ h. adds_block law names above line rows (node_said net names number node) (ap is_said (node_is number node)) (rows_are (number + 1) node.cover.output node.cover.rows) (node_says number node wide h.0);
      })

  -- lines after lines
  reads_more : (above : List Line) (number : ℕ) (lines more : List (List (List ℕ))) (new next : List NumberedStatement) → Reads (all_names net) names above (lines_from number lines) new
      → (IsAbove (all_names net) (over (lines_from number lines) above) → Reads (all_names net) names (over (lines_from number lines) above) (lines_from (number + length lines) more) next)
      → Reads (all_names net) names above (lines_from number (lines ++ more)) (new ++ next)
  reads_more above number lines more new next p q =
      subst (λ (ls : List Line). Reads (all_names net) names above ls (new ++ next)) (sym (lines_both number lines more))
      (reads_both (all_names net) names above (lines_from number lines) (lines_from (number + length lines) more) new next p q)

  -- the nodes
  reads_nodes : (law : WrittenLinesAreRead) (above : List Line) (number : ℕ) (nodes : List Node) → list_all (is_node (count_of net)) nodes ≡ true → list_all (is_in (all_names net)) (map (λ (node : Node). node.name) nodes) ≡ true → IsAbove (all_names net) above
      → Reads (all_names net) names above (lines_from number (flat_map (node_lines net) nodes)) (nodes_said net names number nodes)
  reads_nodes law above number [] fine named a = reads_none (all_names net) names above a
  reads_nodes law above number (node ∷ nodes) fine named a =
      let parts = and_parts (is_node (count_of net) node) (list_all (is_node (count_of net)) nodes) fine in
      let both = and_parts (is_in (all_names net) node.name) (list_all (is_in (all_names net)) (map (λ (n : Node). n.name) nodes)) named in
      reads_more above number (node_lines net node) (flat_map (node_lines net) nodes) (node_said net names number node ∷ []) (nodes_said net names (number + length (node_lines net node)) nodes)
      (reads_node law above number node parts.0 both.0 a)
      (reads_nodes law (over (lines_from number (node_lines net node)) above) (number + length (node_lines net node)) nodes parts.1 both.1)

  -- the first lines
  abbrev model_line : Line
  model_line = record { number = 1; first = codes ".model"; rest = net.model ∷ [] }

  abbrev inputs_line : Line
  inputs_line = record { number = 2; first = codes ".inputs"; rest = net.inputs }

  abbrev outputs_line : Line
  outputs_line = record { number = 3; first = codes ".outputs"; rest = map (signal_name net) net.outputs }

  abbrev clock_line : List ℕ → Line
  clock_line clock = record { number = 4; first = codes ".clock"; rest = clock ∷ [] }

  abbrev end_line : ℕ → Line
  end_line number = record { number = number; first = codes ".end"; rest = [] }

  model_free : fault_of [] model_line ≡ None
  unfolding form_of
  model_free =
      let fine = name_fine net.model (keeps net).model in
      line_free [] model_line form.Model refl (or_from (is_bad_word net.model) false fine.bad refl) refl refl refl refl refl refl refl (or_from (is_long net.model) false fine.short refl)

  model_above : IsAbove (all_names net) (model_line ∷ [])
  unfolding form_of
  model_above = record { names = refl; apart = refl; running = refl; later = refl }

  reads_model : (law : WrittenLinesAreRead) → Reads (all_names net) names [] (model_line ∷ []) []
  unfolding form_of
  reads_model law = record {
    pass = pass_more (all_names net) [] model_line [] model_free (pass_none (all_names net) (model_line ∷ []) model_above);
    adds = λ h. adds_nothing law names [] model_line refl refl;
  }

  abbrev pub inputs_said : NumberedStatement
  inputs_said = record { line = 2; statement = said.Inputs (map (place_in names) net.inputs) }

  abbrev pub outputs_said : NumberedStatement
  outputs_said = record { line = 3; statement = said.Outputs (map (place_in names) (map (signal_name net) net.outputs)) }

  abbrev pub clock_said : Option (List ℕ) → List NumberedStatement
  clock_said None = []
  clock_said (Some clock) = (record { line = 4; statement = said.Clock (place_in names clock ∷ []) }) ∷ []

  reads_inputs : (law : WrittenLinesAreRead) (above : List Line) → IsAbove (all_names net) above → Reads (all_names net) names above (inputs_line ∷ []) (inputs_said ∷ [])
  unfolding form_of
  reads_inputs law above a =
      let k = keeps net in
      let p = inputs_pass (all_names net) k.fit k.few above 2 net.inputs (inputs_in net) a in
      record {
        pass = pass_more (all_names net) above inputs_line [] p.faultless (pass_none (all_names net) (inputs_line ∷ above) p.next);
        adds = λ h. adds_block law names above inputs_line [] inputs_said refl refl (record { line = refl; form = refl; numbers = numbers_there names net.inputs h.0; beside = tt });
      }

  reads_outputs : (law : WrittenLinesAreRead) (above : List Line) → IsAbove (all_names net) above → Reads (all_names net) names above (outputs_line ∷ []) (outputs_said ∷ [])
  unfolding form_of
  reads_outputs law above a =
      let k = keeps net in
      let words = map (signal_name net) net.outputs in
      let p = outputs_pass (all_names net) k.fit k.few above 3 words (all_named_in net net.outputs k.outputs) a in
      record {
        pass = pass_more (all_names net) above outputs_line [] p.faultless (pass_none (all_names net) (outputs_line ∷ above) p.next);
        adds = λ h. adds_block law names above outputs_line [] outputs_said refl refl (record { line = refl; form = refl; numbers = numbers_there names words h.0; beside = tt });
      }

  reads_clock : (law : WrittenLinesAreRead) (above : List Line) (clock : Option (List ℕ)) → net.clock ≡ clock → IsAbove (all_names net) above → Reads (all_names net) names above (lines_from 4 (clock_lines clock)) (clock_said clock)
  unfolding form_of
  reads_clock law above None is a = reads_none (all_names net) names above a
  reads_clock law above (Some clock) is a =
      let k = keeps net in
      let p = clock_passes (all_names net) k.fit k.few above 4 (clock ∷ []) (and_from (is_in (all_names net) clock) true (clock_in net clock is) refl) a in
      record {
        pass = pass_more (all_names net) above (clock_line clock) [] p.faultless (pass_none (all_names net) (clock_line clock ∷ above) p.next);
        adds = λ h. adds_block law names above (clock_line clock) [] (record { line = 4; statement = said.Clock (place_in names clock ∷ []) }) refl refl
            (record { line = refl; form = refl; numbers = numbers_there names (clock ∷ []) h.0; beside = tt });
      }

  abbrev pub head_words : List (List (List ℕ))
  head_words = (codes ".model" ∷ net.model ∷ []) ∷ (codes ".inputs" ∷ net.inputs) ∷ (codes ".outputs" ∷ map (signal_name net) net.outputs) ∷ clock_lines net.clock

  abbrev pub head_said : List NumberedStatement
  head_said = inputs_said ∷ outputs_said ∷ clock_said net.clock

  reads_head : (law : WrittenLinesAreRead) → Reads (all_names net) names [] (lines_from 1 head_words) head_said
  reads_head law =
      let all = all_names net in
      let clocks = lines_from 4 (clock_lines net.clock) in
      reads_both all names [] (model_line ∷ []) (inputs_line ∷ outputs_line ∷ clocks) [] head_said (reads_model law)
      (λ a. reads_both all names (model_line ∷ []) (inputs_line ∷ []) (outputs_line ∷ clocks) (inputs_said ∷ []) (outputs_said ∷ clock_said net.clock) (reads_inputs law (model_line ∷ []) a)
      (λ b. reads_both all names (inputs_line ∷ model_line ∷ []) (outputs_line ∷ []) clocks (outputs_said ∷ []) (clock_said net.clock) (reads_outputs law (inputs_line ∷ model_line ∷ []) b)
      (λ d. reads_clock law (outputs_line ∷ inputs_line ∷ model_line ∷ []) net.clock refl d)))

  -- all lines but `.end`
  abbrev pub latch_lines_of : List (List (List ℕ))
  latch_lines_of = map (latch_words net) net.latches

  abbrev pub body_words : List (List (List ℕ))
  body_words = head_words ++ latch_lines_of ++ flat_map (node_lines net) net.nodes

  -- the statements of a netlist, where names are numbered by these names
  abbrev pub blif_said : List NumberedStatement
  blif_said = head_said ++ latches_said net names (1 + length head_words) net.latches ++ nodes_said net names (1 + length (head_words ++ latch_lines_of)) net.nodes

  pub reads_body : (law : WrittenLinesAreRead) → Reads (all_names net) names [] (lines_from 1 body_words) blif_said
  reads_body law =
      let k = keeps net in
      reads_more [] 1 (head_words ++ latch_lines_of) (flat_map (node_lines net) net.nodes) (head_said ++ latches_said net names (1 + length head_words) net.latches) (nodes_said net names (1 + length (head_words ++ latch_lines_of)) net.nodes)
      (reads_more [] 1 head_words latch_lines_of head_said (latches_said net names (1 + length head_words) net.latches) (reads_head law)
      (reads_latches net names law (over (lines_from 1 head_words) []) (1 + length head_words) net.latches k.latches (latches_in net)))
      (reads_nodes law (over (lines_from 1 (head_words ++ latch_lines_of)) []) (1 + length (head_words ++ latch_lines_of)) net.nodes k.nodes (nodes_in net))

  end_free : (above : List Line) (number : ℕ) → IsAbove (all_names net) above → first_fault above (end_line number ∷ []) ≡ None
  unfolding form_of
  end_free above number a =
      let is : fault_of above (end_line number) ≡ None = line_free above (end_line number) form.End refl refl refl refl refl refl refl refl a.running refl in
      ap (λ (o : Option BlifKind). option_or (fault_at (end_line number) o) None) is

  abbrev pub all_lines : List Line
  all_lines = lines_from 1 (blif_lines net)

  all_are : all_lines ≡ lines_from 1 body_words ++ end_line (1 + length body_words) ∷ []
  all_are = lines_both 1 body_words ((codes ".end" ∷ []) ∷ [])

  -- no line has a fault
  pub no_fault : (law : WrittenLinesAreRead) → first_fault [] all_lines ≡ None
  no_fault law =
      let pass = (reads_body law).pass in
      ap (first_fault []) all_are
      ∙ pass.free (end_line (1 + length body_words) ∷ [])
      ∙ end_free (over (lines_from 1 body_words) []) (1 + length body_words) pass.next

  end_adds : (law : WrittenLinesAreRead) (above : List Line) (number : ℕ) → Adds names above (end_line number ∷ []) []
  unfolding form_of
  end_adds law above number = adds_nothing law names above (end_line number) refl refl

  -- and they say the statements
  pub all_said : (law : WrittenLinesAreRead) → AllByRecursion (HasNames names) all_lines → AreSaid names (blocks_above (over all_lines [])) blif_said
  all_said law h =
      let body = lines_from 1 body_words in
      let last = end_line (1 + length body_words) ∷ [] in
      let parts = all_both (HasNames names) body last (subst (AllByRecursion (HasNames names)) all_are h) in
      let both = adds_both names [] body last blif_said [] ((reads_body law).adds parts.0) (end_adds law (over body []) (1 + length body_words)) in
      subst (λ (ls : List Line). AreSaid names (blocks_above (over ls [])) blif_said) (sym all_are) (subst (AreSaid names (blocks_above (over (body ++ last) []))) (append-nil blif_said) (both [] tt))

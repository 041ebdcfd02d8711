-- The lines of a netlist's canonical text have no fault and say its statements.
use Rattle.std.proofs.Common.{ℕ, suc, ◌≡◌, ◌+◌, cond, Bool, true, false, ◌&&◌, List, [], ◌∷◌, ◌++◌, length, map, Option, Some, None, codes, refl, sym, ap, subst, ◌∙◌, arith, append_assoc}
use Rattle.std.specs.Prelude.{nat_lt, nat_le}
use Rattle.std.specs.Fmt.{decimal}
use Rattle.std.specs.List.{list_all, AllByRecursion}
use Rattle.std.specs.Str.{bytes_eq}
use Rattle.std.proofs.lemmas.Bool.{and_parts, and_from}
use Rattle.act1_bliftext.specs.Lines.{Line, line_of, lines_from, over}
use Rattle.act1_bliftext.specs.Forms.{form_of, control_names, latch_names, latch_start}
use Rattle.act1_bliftext.specs.Statements.{Says, block_with, control_number, is_said}
use Rattle.act1_bliftext.specs.Tables.{AreNumbersOf}
use Rattle.act1_bliftext.specs.declared.form.Form.TheVariants as form
use Rattle.act1_bliftext.specs.declared.statement.NumberedStatement.{NumberedStatement}
use Rattle.act1_bliftext.specs.declared.statement.Statement.TheVariants as said
use Rattle.act1_bliftext.specs.Laws.{WrittenLinesAreRead}
use Rattle.act1_blif.specs.declared.blif.Blif.{Blif}
use Rattle.act1_blif.specs.declared.blif.Latch.{Latch}
use Rattle.act1_blif.specs.declared.blif.Node.{Node}
use Rattle.act1_blif.specs.Names.{signal_name}
use Rattle.act1_blif.specs.Rules.{is_latch}
use Rattle.act1_blif.specs.Text.{node_lines, latch_words, control_words}
use Rattle.act1_blifread.proofs.CanonicalNames.{is_in}
use Rattle.act1_blifread.proofs.CanonicalNet.{all_names, count_of, keeps, named_in, clock_in}
use Rattle.act1_blifread.proofs.CanonicalFaults.{IsAbove, Pass, Passes, pass_none, pass_more, pass_both, free_latch_passes, clocked_latch_passes, init_word}
use Rattle.act1_blifread.proofs.CanonicalSaid.{place_in, numbers_there, HasNames, Adds, adds_none, adds_both, adds_block}

-- lines after lines
pub lines_both : (number : ℕ) (lines more : List (List (List ℕ))) → lines_from number (lines ++ more) ≡ lines_from number lines ++ lines_from (number + length lines) more
lines_both number [] more = let e : number ≡ number + 0 = omega arith in ap (λ (n : ℕ). lines_from n more) e
lines_both number (words ∷ lines) more =
    let next : number + 1 + length lines ≡ number + suc (length lines) = omega arith in
    ap (λ (rest : List Line). line_of number words ++ rest) (lines_both (number + 1) lines more)
    ∙ sym (append_assoc (line_of number words) (lines_from (number + 1) lines) (lines_from (number + 1 + length lines) more))
    ∙ ap (λ (n : ℕ). line_of number words ++ lines_from (number + 1) lines ++ lines_from n more) next

pub all_both : (P : Line → Type 0) (lines more : List Line) → AllByRecursion P (lines ++ more) → AllByRecursion P lines × AllByRecursion P more
all_both P [] more h = (tt, h)
all_both P (line ∷ lines) more h = let rest = all_both P lines more h.1 in ((h.0, rest.0), rest.1)

-- lines without a fault, which say these statements where their names are numbered so
pub record Reads (all names : List (List ℕ)) (above lines : List Line) (new : List NumberedStatement) : Type 0 where
  pub pass : Pass all above lines
  pub adds : AllByRecursion (HasNames names) lines → Adds names above lines new

pub reads_none : (all names : List (List ℕ)) (above : List Line) → IsAbove all above → Reads all names above [] []
reads_none all names above a = record { pass = pass_none all above a; adds = λ h. adds_none names above }

pub reads_both : (all names : List (List ℕ)) (above lines more : List Line) (new next : List NumberedStatement) → Reads all names above lines new → (IsAbove all (over lines above) → Reads all names (over lines above) more next)
    → Reads all names above (lines ++ more) (new ++ next)
reads_both all names above lines more new next p q =
    let after = q p.pass.next in
    record {
      pass = pass_both all above lines more p.pass after.pass;
      adds = λ h. let parts = all_both (HasNames names) lines more h in adds_both names above lines more new next (p.adds parts.0) (after.adds parts.1);
    }

-- the number of a control; `NIL` is none
abbrev pub control_by : List (List ℕ) → List ℕ → Bool → Option ℕ
control_by names clock true = None
control_by names clock false = Some (place_in names clock)

abbrev pub control_said : List (List ℕ) → Option (List ℕ) → Option ℕ
control_said names None = None
control_said names (Some clock) = control_by names clock (bytes_eq clock (codes "NIL"))

abbrev pub latch_said : Blif → List (List ℕ) → ℕ → Latch → NumberedStatement
latch_said net names number latch = record {
  line = number;
  statement = said.Latch (place_in names (signal_name net latch.input)) (place_in names latch.name) (control_said names net.clock) latch.init;
}

abbrev pub latches_said : Blif → List (List ℕ) → ℕ → List Latch → List NumberedStatement
latches_said net names number [] = []
latches_said net names number (latch ∷ latches) = latch_said net names number latch ∷ latches_said net names (number + 1) latches

abbrev pub node_said : Blif → List (List ℕ) → ℕ → Node → NumberedStatement
node_said net names number node = record {
  line = number;
  statement = said.Names (map (place_in names) (map (signal_name net) node.inputs)) (place_in names node.name) node.cover;
}

abbrev pub nodes_said : Blif → List (List ℕ) → ℕ → List Node → List NumberedStatement
nodes_said net names number [] = []
nodes_said net names number (node ∷ nodes) = node_said net names number node ∷ nodes_said net names (number + length (node_lines net node)) nodes

module _ (net : Blif) (names : List (List ℕ)) where
  -- the line of a latch
  abbrev latch_line : ℕ → Option (List ℕ) → Latch → Line
  latch_line number clock latch = record { number = number; first = codes ".latch"; rest = signal_name net latch.input ∷ latch.name ∷ control_words clock ++ decimal latch.init ∷ [] }

  latch_passes : (above : List Line) (number : ℕ) (clock : Option (List ℕ)) (latch : Latch) → net.clock ≡ clock → is_latch (count_of net) latch ≡ true → is_in (all_names net) latch.name ≡ true → IsAbove (all_names net) above
      → Passes (all_names net) above (latch_line number clock latch)
  latch_passes above number None latch is fine named a =
      let parts = and_parts (nat_lt latch.input (count_of net)) (nat_le latch.init 3) fine in
      let init = init_word latch.init parts.1 in
      let k = keeps net in
      free_latch_passes (all_names net) k.fit k.few above number (signal_name net latch.input) latch.name (decimal latch.init) latch.init init.good init.value
      (and_from (is_in (all_names net) (signal_name net latch.input)) (is_in (all_names net) latch.name && true) (named_in net latch.input parts.0) (and_from (is_in (all_names net) latch.name) true named refl)) a
  latch_passes above number (Some clock) latch is fine named a =
      let parts = and_parts (nat_lt latch.input (count_of net)) (nat_le latch.init 3) fine in
      let init = init_word latch.init parts.1 in
      let k = keeps net in
      clocked_latch_passes (all_names net) k.fit k.few above number (signal_name net latch.input) latch.name clock (decimal latch.init) latch.init init.good init.value
      (and_from (is_in (all_names net) (signal_name net latch.input)) (is_in (all_names net) latch.name && (is_in (all_names net) clock && true)) (named_in net latch.input parts.0)
      (and_from (is_in (all_names net) latch.name) (is_in (all_names net) clock && true) named (and_from (is_in (all_names net) clock) true (clock_in net clock is) refl))) a

  controls_are : (clock : List ℕ) (b : Bool) → map (place_in names) (cond b [] (clock ∷ [])) ≡ control_number (control_by names clock b)
  controls_are clock true = refl
  controls_are clock false = refl

  latch_numbers : (number : ℕ) (clock : Option (List ℕ)) (latch : Latch)
      → map (place_in names) (latch_names (latch_line number clock latch).rest) ≡ place_in names (signal_name net latch.input) ∷ place_in names latch.name ∷ control_number (control_said names clock)
  unfolding control_names
  latch_numbers number None latch = refl
  latch_numbers number (Some clock) latch = ap (λ (ns : List ℕ). place_in names (signal_name net latch.input) ∷ place_in names latch.name ∷ ns) (controls_are clock (bytes_eq clock (codes "NIL")))

  latch_starts : (number : ℕ) (clock : Option (List ℕ)) (latch : Latch) → is_latch (count_of net) latch ≡ true → latch_start (latch_line number clock latch).rest ≡ Some latch.init
  latch_starts number None latch fine = (init_word latch.init (and_parts (nat_lt latch.input (count_of net)) (nat_le latch.init 3) fine).1).value
  latch_starts number (Some clock) latch fine = (init_word latch.init (and_parts (nat_lt latch.input (count_of net)) (nat_le latch.init 3) fine).1).value

  latch_says : (number : ℕ) (latch : Latch) → is_latch (count_of net) latch ≡ true → HasNames names (latch_line number net.clock latch) → Says names (block_with (latch_line number net.clock latch) []) (latch_said net names number latch)
  unfolding form_of
  latch_says number latch fine h = record {
    line = refl;
    form = refl;
    numbers = subst (λ (ns : List ℕ). AreNumbersOf names ns (latch_names (latch_line number net.clock latch).rest)) (latch_numbers number net.clock latch) (numbers_there names (latch_names (latch_line number net.clock latch).rest) h);
    beside = latch_starts number net.clock latch fine;
  }

  latch_is : (number : ℕ) (latch : Latch) → form_of (latch_line number net.clock latch).first ≡ form.Latch
  unfolding form_of
  latch_is number latch = refl

  -- the latches
  pub reads_latches : (law : WrittenLinesAreRead) (above : List Line) (number : ℕ) (latches : List Latch) → list_all (is_latch (count_of net)) latches ≡ true → list_all (is_in (all_names net)) (map (λ (latch : Latch). latch.name) latches) ≡ true → IsAbove (all_names net) above
      → Reads (all_names net) names above (lines_from number (map (latch_words net) latches)) (latches_said net names number latches)
  reads_latches law above number [] fine named a = reads_none (all_names net) names above a
  reads_latches law above number (latch ∷ latches) fine named a =
      let parts = and_parts (is_latch (count_of net) latch) (list_all (is_latch (count_of net)) latches) fine in
      let both = and_parts (is_in (all_names net) latch.name) (list_all (is_in (all_names net)) (map (λ (l : Latch). l.name) latches)) named in
      let line = latch_line number net.clock latch in
      let p = latch_passes above number net.clock latch refl parts.0 both.0 a in
      reads_both (all_names net) names above (line ∷ []) (lines_from (number + 1) (map (latch_words net) latches)) (latch_said net names number latch ∷ []) (latches_said net names (number + 1) latches)
      (record {
        pass = pass_more (all_names net) above line [] p.faultless (pass_none (all_names net) (line ∷ above) p.next);
        adds = λ h. adds_block law names above line [] (latch_said net names number latch) (ap is_said (latch_is number latch)) refl (latch_says number latch parts.0 h.0);
      })
      (reads_latches law (line ∷ above) (number + 1) latches parts.1 both.1)

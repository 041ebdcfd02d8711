-- What a format has by the law of tables: its lines are read again, and so are its texts; and what it owes makes its rules those of its texts.
use Rattle.std.proofs.Common.{ℕ, ◌≡◌, List, [], ◌∷◌, ◌++◌, map, Option, Some, None, Result, Ok, Err, refl, sym, ap, subst, ◌∙◌}
use Rattle.std.specs.Prelude.{IsOk}
use Rattle.std.specs.List.{AllByRecursion, join_with_byte}
use Rattle.std.proofs.lemmas.List.Splits.{join_with_byte-slice_split}
use Rattle.act1_base.specs.FirstFault.{IsOneLine, IsFormatOf, IsCompleted, Runs}
use Rattle.act1_base.specs.Texts.{reading}
use Rattle.act1_base.specs.declared.texts.TextFault.{TextFault}
use Rattle.act1_base.proofs.TextLaws.{whole_text, written_is_read}
use Rattle.act1_base.proofs.TextLines.{IsWithout, joined, text_again}
use Rattle.act1_table.specs.Exact.{IsExact}
use Rattle.act1_table.specs.Formats.{LineFormat, LineSteps, IsFine, own_words, own_text, read_own, IsLineFormat, ReadsItsLines, after_read, rules_of, Leads, IsLinesTo, OwesTexts}
use Rattle.act1_table.specs.Forms.{FitsTable}
use Rattle.act1_table.specs.Laws.{IsClearlySaid}
use Rattle.act1_table.specs.Lines.{line_text, read_line}
use Rattle.act1_table.specs.Reads.{and_then}
use Rattle.act1_table.specs.declared.forms.LineGiven.{LineGiven}
use Rattle.act1_table.proofs.LineLaws.{table_law, words_without_feed}

module _ {Line : Type 0} (format : LineFormat Line) (own : IsLineFormat format) where
  law : IsClearlySaid format.table
  law = table_law format.table own.clear

  exact_by : (bytes : List ℕ) (line : Line) (found : Option LineGiven) → read_line format.table bytes ≡ found → and_then found format.line_of ≡ Some line
      → IsFine format line × (IsExact format.table (format.given_of line) → bytes ≡ own_text format line)
  exact_by bytes line None e h = cc
  exact_by bytes line (Some g) e h =
      let said = law.exact bytes g e in
      subst (λ (x : LineGiven). FitsTable format.table x × (IsExact format.table x → bytes ≡ line_text format.table x)) (own.only g line said.0 h) said

  pub reads_its_lines : ReadsItsLines format
  reads_its_lines = record {
    again = λ line fine. ap (λ (found : Option LineGiven). and_then found format.line_of) (law.again (format.given_of line) fine) ∙ own.back line fine;
    exact = λ bytes line h. exact_by bytes line (read_line format.table bytes) refl h;
  }

  one_line : (line : Line) → IsFine format line → IsOneLine (own_text format line)
  one_line line fine = (law.parts (format.given_of line) fine).0

  without_feeds : (lines : List Line) → AllByRecursion (IsFine format) lines → AllByRecursion (AllByRecursion (IsWithout 10)) (map (own_words format) lines)
  without_feeds [] fine = tt
  without_feeds (line ∷ lines) fine = (words_without_feed format.table (format.given_of line) own.clear fine.0, without_feeds lines fine.1)

  one_lines : (lines : List Line) → AllByRecursion (IsFine format) lines → AllByRecursion IsOneLine (map joined (map (own_words format) lines))
  one_lines [] fine = tt
  one_lines (line ∷ lines) fine = (one_line line fine.0, one_lines lines fine.1)

  module _ {State Kind : Type 0} (steps : LineSteps Line State Kind) where
    -- lines of its own that lead from a state to another do so as bytes
    pub leads_run : (lines : List Line) (s t : State) → AllByRecursion (IsFine format) lines → Leads format steps s lines t → Runs (rules_of format steps) s (map joined (map (own_words format) lines)) t
    leads_run [] s t fine h = h
    leads_run (line ∷ lines) s t fine h = (h.0, ap (after_read format steps s) (reads_its_lines.again line fine.0) ∙ h.1, leads_run lines h.0 t fine.1 h.2)

    -- the text of lines that lead to an end is read to that end
    pub lines_are_read : (bytes : List ℕ) (end : State) → IsLinesTo format steps bytes end → reading (rules_of format steps) bytes ≡ Ok end
    lines_are_read bytes end h =
        ap (reading (rules_of format steps)) h.text
        ∙ written_is_read (rules_of format steps) (map (own_words format) h.lines) h.last end (without_feeds h.lines h.fine) (leads_run h.lines steps.start h.last h.fine h.leads) h.ends

    module _ (exact : (s t : State) (line : Line) → IsFine format line → steps.step s line ≡ Ok t → IsExact format.table (format.given_of line)) where
      -- the lines of its own that bytes say which lead from a state to another
      record AreLines (s t : State) (bytes : List (List ℕ)) : Type 0 where
        lines : List Line
        fine : AllByRecursion (IsFine format) lines
        leads : Leads format steps s lines t
        same : bytes ≡ map joined (map (own_words format) lines)

      line_by : (s next t : State) (bytes : List ℕ) (more : List (List ℕ)) (found : Option Line) → read_own format bytes ≡ found → after_read format steps s found ≡ Ok next → AreLines next t more → AreLines s t (bytes ∷ more)
      line_by s next t bytes more None e h rest = cc
      line_by s next t bytes more (Some line) e h rest =
          let said = reads_its_lines.exact bytes line e in
          record {
            lines = line ∷ rest.lines;
            fine = (said.0, rest.fine);
            leads = (next, h, rest.leads);
            same = ap (λ (b : List ℕ). b ∷ more) (said.1 (exact s next line said.0 h)) ∙ ap (λ (bs : List (List ℕ)). own_text format line ∷ bs) rest.same;
          }

      runs_lead : (bytes : List (List ℕ)) (s t : State) → Runs (rules_of format steps) s bytes t → AreLines s t bytes
      runs_lead [] s t h = record { lines = []; fine = tt; leads = h; same = refl }
      runs_lead (line ∷ bytes) s t h = line_by s h.0 t line bytes (read_own format line) refl h.1 (runs_lead bytes h.0 t h.2)

      -- a text that is read to its end is that of lines that lead there
      pub read_is_lines : (bytes : List ℕ) (end : State) → reading (rules_of format steps) bytes ≡ Ok end → IsLinesTo format steps bytes end
      read_is_lines bytes end h =
          let whole = whole_text (rules_of format steps) bytes end h in
          let own = runs_lead whole.lines steps.start whole.last whole.runs in
          record {
            lines = own.lines;
            last = whole.last;
            fine = own.fine;
            leads = own.leads;
            ends = whole.ends;
            text = sym (join_with_byte-slice_split 10 bytes) ∙ ap (join_with_byte 10) whole.split
                ∙ ap (λ (lines : List (List ℕ)). join_with_byte 10 (lines ++ [] ∷ [])) own.same
                ∙ text_again (map (own_words format) own.lines);
          }

ok_if : {State Kind : Type 0} (r : Result State (TextFault Kind)) (t : State) → r ≡ Ok t → IsOk r
ok_if r t e = cc

module _ {Line State Kind : Type 0} (format : LineFormat Line) (steps : LineSteps Line State Kind) (IsText : List ℕ → Type 0) (owes : OwesTexts format steps IsText) where
  text_if : (bytes : List ℕ) (r : Result State (TextFault Kind)) → reading (rules_of format steps) bytes ≡ r → IsOk r → IsText bytes
  text_if bytes (Ok end) e h = owes.said bytes end (read_is_lines format owes.own steps owes.exact bytes end e)
  text_if bytes (Err fault) e h = cc

  completed : (lines : List (List ℕ)) (s : State) → Runs (rules_of format steps) steps.start lines s → IsCompleted (rules_of format steps) s
  completed lines s h =
      let own = runs_lead format owes.own steps owes.exact lines steps.start s h in
      let c = owes.completes own.lines s own.fine own.leads in
      record {
        more = map joined (map (own_words format) c.more);
        last = c.last;
        end = c.end;
        lines = one_lines format owes.own c.more c.fine;
        runs = leads_run format owes.own steps c.more s c.last c.fine c.leads;
        ends = c.ends;
      }

  -- the rules are those of the texts
  pub is_format : IsFormatOf (rules_of format steps) IsText
  is_format = record {
    reads = λ bytes. (
      λ is. let lines = owes.spelled bytes is in ok_if (reading (rules_of format steps) bytes) lines.0 (lines_are_read format owes.own steps bytes lines.0 lines.1),
      λ h. text_if bytes (reading (rules_of format steps) bytes) refl h,
    );
    completes = completed;
  }

-- A line: what is written is read again, and nothing else is read.
use Rattle.std.proofs.Common.{ℕ, suc, zero, ◌≡◌, ◌+◌, ◌<◌, ◌≤◌, length, Bool, true, false, ◌&&◌, ◌||◌, IsTrue, List, [], ◌∷◌, ◌++◌, Option, Some, None, refl, sym, ap, subst, ◌∙◌, arith, append_assoc}
use Rattle.std.specs.List.{list_all, join_with_byte, AllByRecursion}
use Rattle.std.proofs.lemmas.List.{append-nil}
use Rattle.std.proofs.lemmas.List.Splits.{join_with_byte-slice_split}
use Rattle.act1_base.specs.Words.{words_of}
use Rattle.act1_base.proofs.FirstFaults.{is_one_line}
use Rattle.act1_base.proofs.TextLines.{IsWithout, words_again, joined_without}
use Rattle.act1_table.specs.Table.{Field}
use Rattle.act1_table.specs.Table.{Form}
use Rattle.act1_table.specs.declared.forms.Given.{Given}
use Rattle.act1_table.specs.declared.forms.LineGiven.{LineGiven}
use Rattle.act1_table.specs.Forms.{Fits, spell, FitFields, spell_fields, FitForms, spell_forms, FitsTable, line_words}
use Rattle.act1_table.specs.Reads.{and_then, or_else, read_word, read_fields, as_line, read_forms}
use Rattle.act1_table.specs.Clear.{is_clear_field, are_fields_apart, are_forms_apart, is_form_apart_from, has_word, is_clear}
use Rattle.act1_table.specs.Exact.{IsExactWord, AreExactWords, IsExactForm, IsExact}
use Rattle.act1_table.specs.Laws.{TableLaw}
use Rattle.act1_table.specs.Lines.{line_text, read_line}
use Rattle.act1_table.proofs.NumberLaws.{both, some_is}
use Rattle.act1_table.proofs.WordLaws.{fields_apart, word_read, word_is}
use Rattle.act1_table.proofs.WordBytes.{spelled_without}

-- written words are read again
fields_read : (got : List Given) (fields : List Field) (rest : Field) (gs : List Given) → IsTrue (list_all is_clear_field fields) → IsTrue (is_clear_field rest) → FitFields fields rest gs
    → read_fields got fields rest (spell_fields fields rest gs) ≡ Some (got ++ gs)
fields_read got [] rest [] c d fit = ap (λ (xs : List Given). Some xs) (sym (append-nil got))
fields_read got (f ∷ fields) rest [] c d fit = absurd fit
fields_read got [] rest (g ∷ gs) c d fit =
    ap (λ (found : Option Given). and_then found (λ x. read_fields (got ++ x ∷ []) [] rest (spell_fields [] rest gs))) (word_read rest g d fit.0)
    ∙ fields_read (got ++ g ∷ []) [] rest gs c d fit.1
    ∙ ap (λ (xs : List Given). Some xs) (append_assoc got (g ∷ []) gs)
fields_read got (f ∷ fields) rest (g ∷ gs) c d fit =
    let p = both (is_clear_field f) (list_all is_clear_field fields) c in
    ap (λ (found : Option Given). and_then found (λ x. read_fields (got ++ x ∷ []) fields rest (spell_fields fields rest gs))) (word_read f g p.0 fit.0)
    ∙ fields_read (got ++ g ∷ []) fields rest gs p.1 d fit.1
    ∙ ap (λ (xs : List Given). Some xs) (append_assoc got (g ∷ []) gs)

-- what the words say that were read
record FieldsAre (got : List Given) (fields : List Field) (rest : Field) (words : List (List ℕ)) (gs : List Given) : Type 0 where
  own : List Given
  all : gs ≡ got ++ own
  fit : FitFields fields rest own
  is : AreExactWords fields rest own → words ≡ spell_fields fields rest own

-- the field of a word, and the fields of the words behind it
record Next (f : Field) (fields next : List Field) (rest : Field) : Type 0 where
  fits : (g : Given) (own : List Given) → Fits f g → FitFields next rest own → FitFields fields rest (g ∷ own)
  exact : (g : Given) (own : List Given) → AreExactWords fields rest (g ∷ own) → IsExactWord f g × AreExactWords next rest own
  spells : (g : Given) (own : List Given) → spell_fields fields rest (g ∷ own) ≡ spell f g ∷ spell_fields next rest own

next_rest : (rest : Field) → Next rest [] [] rest
next_rest rest = record { fits = λ g own p q. (p, q); exact = λ g own e. e; spells = λ g own. refl }

next_field : (f : Field) (fields : List Field) (rest : Field) → Next f (f ∷ fields) fields rest
next_field f fields rest = record { fits = λ g own p q. (p, q); exact = λ g own e. e; spells = λ g own. refl }

after_word : (got : List Given) (f : Field) (fields next : List Field) (rest : Field) (word : List ℕ) (words : List (List ℕ)) (gs : List Given) (found : Option Given) → Next f fields next rest → IsTrue (is_clear_field f) → read_word f word ≡ found
    → ((g : Given) → read_fields (got ++ g ∷ []) next rest words ≡ Some gs → FieldsAre (got ++ g ∷ []) next rest words gs)
    → and_then found (λ g. read_fields (got ++ g ∷ []) next rest words) ≡ Some gs → FieldsAre got fields rest (word ∷ words) gs
after_word got f fields next rest word words gs None n c e more h = cc
after_word got f fields next rest word words gs (Some g) n c e more h =
    let w = word_is f word g c e in
    let r = more g h in
    record {
      own = g ∷ r.own;
      all = r.all ∙ append_assoc got (g ∷ []) r.own;
      fit = n.fits g r.own w.0 r.fit;
      is = λ exact.
          let parts = n.exact g r.own exact in
          ap (λ (x : List ℕ). x ∷ words) (w.1 parts.0) ∙ ap (λ (xs : List (List ℕ)). spell f g ∷ xs) (r.is parts.1) ∙ sym (n.spells g r.own);
    }

fields_are : (got : List Given) (fields : List Field) (rest : Field) (words : List (List ℕ)) (gs : List Given) → IsTrue (list_all is_clear_field fields) → IsTrue (is_clear_field rest)
    → read_fields got fields rest words ≡ Some gs → FieldsAre got fields rest words gs
fields_are got [] rest [] gs c d h = record { own = []; all = sym (some_is got gs h) ∙ sym (append-nil got); fit = tt; is = λ exact. refl }
fields_are got (f ∷ fields) rest [] gs c d h = cc
fields_are got [] rest (w ∷ words) gs c d h =
    after_word got rest [] [] rest w words gs (read_word rest w) (next_rest rest) d refl (λ g. fields_are (got ++ g ∷ []) [] rest words gs c d) h
fields_are got (f ∷ fields) rest (w ∷ words) gs c d h =
    let p = both (is_clear_field f) (list_all is_clear_field fields) c in
    after_word got f (f ∷ fields) fields rest w words gs (read_word f w) (next_field f fields rest) p.0 refl (λ g. fields_are (got ++ g ∷ []) fields rest words gs p.1 d) h

-- a line of a form isn't read as one of a form that is apart

either : (a b : Bool) → IsTrue (a || b) → (IsTrue a → ⊥) → (IsTrue b → ⊥) → ⊥
either true b h first other = first refl
either false b h first other = other h

-- the first word, or the others, aren't read
first_none : (found : Option Given) (more : Given → Option (List Given)) (xs : List Given) → ((a : Given) → found ≡ Some a → ⊥) → and_then found more ≡ Some xs → ⊥
first_none None more xs none e = cc
first_none (Some a) more xs none e = none a refl

others_none : (found : Option Given) (more : Given → Option (List Given)) (xs : List Given) → ((a : Given) → more a ≡ Some xs → ⊥) → and_then found more ≡ Some xs → ⊥
others_none None more xs none e = cc
others_none (Some a) more xs none e = none a e

forms_apart : (got : List Given) (fs : List Field) (r : Field) (gs : List Field) (s : Field) (xs bs : List Given) → IsTrue (list_all is_clear_field gs) → IsTrue (is_clear_field s)
    → IsTrue (are_forms_apart fs r gs s) → FitFields gs s bs → read_fields got fs r (spell_fields gs s bs) ≡ Some xs → ⊥
forms_apart got [] r [] s xs bs k l h fit e = cc
forms_apart got [] r (g ∷ gs) s xs [] k l h fit e = absurd fit
forms_apart got [] r (g ∷ gs) s xs (b ∷ bs) k l h fit e =
    first_none (read_word r (spell g b)) (λ x. read_fields (got ++ x ∷ []) [] r (spell_fields gs s bs)) xs
    (λ a. fields_apart r g a b (both (is_clear_field g) (list_all is_clear_field gs) k).0 h fit.0) e
forms_apart got (f ∷ fs) r [] s xs [] k l h fit e = cc
forms_apart got (f ∷ fs) r [] s xs (b ∷ bs) k l h fit e =
    first_none (read_word f (spell s b)) (λ x. read_fields (got ++ x ∷ []) fs r (spell_fields [] s bs)) xs (λ a. fields_apart f s a b l h fit.0) e
forms_apart got (f ∷ fs) r (g ∷ gs) s xs [] k l h fit e = absurd fit
forms_apart got (f ∷ fs) r (g ∷ gs) s xs (b ∷ bs) k l h fit e =
    let q = both (is_clear_field g) (list_all is_clear_field gs) k in
    let more : Given → Option (List Given) = λ x. read_fields (got ++ x ∷ []) fs r (spell_fields gs s bs) in
    either (are_fields_apart f g) (are_forms_apart fs r gs s) h
    (λ here. first_none (read_word f (spell g b)) more xs (λ a. fields_apart f g a b q.0 here fit.0) e)
    (λ there. others_none (read_word f (spell g b)) more xs (λ a. forms_apart (got ++ a ∷ []) fs r gs s xs bs q.1 l there fit.1) e)

-- what a clear table keeps
record ClearForms (form : Form) (forms : List Form) : Type 0 where
  some : IsTrue (has_word form.fields)
  fields : IsTrue (list_all is_clear_field form.fields)
  last : IsTrue (is_clear_field form.rest)
  apart : IsTrue (is_form_apart_from form forms)
  others : IsTrue (is_clear forms)

clear_forms : (form : Form) (forms : List Form) → IsTrue (is_clear (form ∷ forms)) → ClearForms form forms
clear_forms form forms h =
    let a = both (has_word form.fields && list_all is_clear_field form.fields && is_clear_field form.rest && is_form_apart_from form forms) (is_clear forms) h in
    let b = both (has_word form.fields && list_all is_clear_field form.fields && is_clear_field form.rest) (is_form_apart_from form forms) a.0 in
    let c = both (has_word form.fields && list_all is_clear_field form.fields) (is_clear_field form.rest) b.0 in
    let d = both (has_word form.fields) (list_all is_clear_field form.fields) c.0 in
    record { some = d.0; fields = d.1; last = c.1; apart = b.1; others = a.1 }

apart_from : (form : Form) (xs : List Given) (forms : List Form) (k : ℕ) (bs : List Given) → IsTrue (is_clear forms) → IsTrue (is_form_apart_from form forms)
    → FitForms forms k bs → read_fields [] form.fields form.rest (spell_forms forms k bs) ≡ Some xs → ⊥
apart_from form xs [] k bs l h fit e = absurd fit
apart_from form xs (other ∷ forms) zero bs l h fit e =
    let clear = clear_forms other forms l in
    forms_apart [] form.fields form.rest other.fields other.rest xs bs clear.fields clear.last
    (both (are_forms_apart form.fields form.rest other.fields other.rest) (is_form_apart_from form forms) h).0 fit e
apart_from form xs (other ∷ forms) (suc k) bs l h fit e =
    apart_from form xs forms k bs (clear_forms other forms l).others (both (are_forms_apart form.fields form.rest other.fields other.rest) (is_form_apart_from form forms) h).1 fit e

abbrev line_at : ℕ → List Given → LineGiven
line_at k gs = record { form = k; words = gs }

not_first : (j : ℕ) (form : Form) (forms : List Form) (k : ℕ) (gs : List Given) (found : Option (List Given)) → ClearForms form forms → FitForms forms k gs → read_fields [] form.fields form.rest (spell_forms forms k gs) ≡ found
    → (other : Option LineGiven) → or_else (as_line j found) other ≡ other
not_first j form forms k gs None c fit e other = refl
not_first j form forms k gs (Some xs) c fit e other = absurd (apart_from form xs forms k gs c.others c.apart fit e)

-- the words of a written line are read again
forms_read : (j : ℕ) (forms : List Form) (k : ℕ) (gs : List Given) → IsTrue (is_clear forms) → FitForms forms k gs → read_forms j forms (spell_forms forms k gs) ≡ Some (line_at (j + k) gs)
forms_read j [] k gs c fit = absurd fit
forms_read j (form ∷ forms) zero gs c fit =
    let clear = clear_forms form forms c in
    let same : j ≡ j + zero = omega arith in
    ap (λ (found : Option (List Given)). or_else (as_line j found) (read_forms (j + 1) forms (spell_fields form.fields form.rest gs))) (fields_read [] form.fields form.rest gs clear.fields clear.last fit)
    ∙ ap (λ (i : ℕ). Some (line_at i gs)) same
forms_read j (form ∷ forms) (suc k) gs c fit =
    let clear = clear_forms form forms c in
    let same : j + 1 + k ≡ j + suc k = omega arith in
    not_first j form forms k gs (read_fields [] form.fields form.rest (spell_forms forms k gs)) clear fit refl (read_forms (j + 1) forms (spell_forms forms k gs))
    ∙ forms_read (j + 1) forms k gs clear.others fit
    ∙ ap (λ (i : ℕ). Some (line_at i gs)) same

record IsForm (j : ℕ) (forms : List Form) (words : List (List ℕ)) (line : LineGiven) : Type 0 where
  form : ℕ
  own : List Given
  said : line ≡ line_at (j + form) own
  fit : FitForms forms form own
  is : IsExactForm forms form own → words ≡ spell_forms forms form own

by_first : (j : ℕ) (form : Form) (forms : List Form) (words : List (List ℕ)) (line : LineGiven) (found : Option (List Given)) → IsTrue (list_all is_clear_field form.fields) → IsTrue (is_clear_field form.rest)
    → read_fields [] form.fields form.rest words ≡ found
    → (read_forms (j + 1) forms words ≡ Some line → IsForm (j + 1) forms words line) → or_else (as_line j found) (read_forms (j + 1) forms words) ≡ Some line → IsForm j (form ∷ forms) words line
by_first j form forms words line None c d e rest h =
    let r = rest h in
    let same : j + 1 + r.form ≡ j + suc r.form = omega arith in
    record { form = suc r.form; own = r.own; said = r.said ∙ ap (λ (i : ℕ). line_at i r.own) same; fit = r.fit; is = r.is }
by_first j form forms words line (Some gs) c d e rest h =
    let r = fields_are [] form.fields form.rest words gs c d e in
    let same : j ≡ j + zero = omega arith in
    record { form = zero; own = r.own; said = sym (some_is (line_at j gs) line h) ∙ ap (λ (xs : List Given). line_at j xs) r.all ∙ ap (λ (i : ℕ). line_at i r.own) same; fit = r.fit; is = r.is }

forms_are : (j : ℕ) (forms : List Form) (words : List (List ℕ)) (line : LineGiven) → IsTrue (is_clear forms) → read_forms j forms words ≡ Some line → IsForm j forms words line
forms_are j [] words line c h = cc
forms_are j (form ∷ forms) words line c h =
    let clear = clear_forms form forms c in
    by_first j form forms words line (read_fields [] form.fields form.rest words) clear.fields clear.last refl (forms_are (j + 1) forms words line clear.others) h

-- no word of a line has a space or a line feed
fields_without : (mark : ℕ) → mark ≤ 32 → (fields : List Field) (rest : Field) (gs : List Given) → IsTrue (list_all is_clear_field fields) → IsTrue (is_clear_field rest) → FitFields fields rest gs → AllByRecursion (IsWithout mark) (spell_fields fields rest gs)
fields_without mark m [] rest [] c d fit = tt
fields_without mark m (f ∷ fields) rest [] c d fit = absurd fit
fields_without mark m [] rest (g ∷ gs) c d fit = (spelled_without mark m rest g d fit.0, fields_without mark m [] rest gs c d fit.1)
fields_without mark m (f ∷ fields) rest (g ∷ gs) c d fit =
    let p = both (is_clear_field f) (list_all is_clear_field fields) c in
    (spelled_without mark m f g p.0 fit.0, fields_without mark m fields rest gs p.1 d fit.1)

forms_without : (mark : ℕ) → mark ≤ 32 → (forms : List Form) (k : ℕ) (gs : List Given) → IsTrue (is_clear forms) → FitForms forms k gs → AllByRecursion (IsWithout mark) (spell_forms forms k gs)
forms_without mark m [] k gs c fit = absurd fit
forms_without mark m (form ∷ forms) zero gs c fit = let clear = clear_forms form forms c in fields_without mark m form.fields form.rest gs clear.fields clear.last fit
forms_without mark m (form ∷ forms) (suc k) gs c fit = forms_without mark m forms k gs (clear_forms form forms c).others fit

-- no word of a line has a line feed
pub words_without_feed : (table : List Form) (line : LineGiven) → IsTrue (is_clear table) → FitsTable table line → AllByRecursion (IsWithout 10) (line_words table line)
words_without_feed table line c fit = forms_without 10 (omega arith) table line.form line.words c fit

fields_some : (fields : List Field) (rest : Field) (gs : List Given) → IsTrue (has_word fields) → FitFields fields rest gs → 0 < length (spell_fields fields rest gs)
fields_some [] rest gs some fit = cc
fields_some (f ∷ fields) rest [] some fit = absurd fit
fields_some (f ∷ fields) rest (g ∷ gs) some fit = omega arith

forms_some : (forms : List Form) (k : ℕ) (gs : List Given) → IsTrue (is_clear forms) → FitForms forms k gs → 0 < length (spell_forms forms k gs)
forms_some [] k gs c fit = absurd fit
forms_some (form ∷ forms) zero gs c fit = fields_some form.fields form.rest gs (clear_forms form forms c).some fit
forms_some (form ∷ forms) (suc k) gs c fit = forms_some forms k gs (clear_forms form forms c).others fit

some_again : (words : List (List ℕ)) → 0 < length words → AllByRecursion (IsWithout 32) words → words_of (join_with_byte 32 words) ≡ words
some_again [] some h = absurd (omega arith)
some_again (word ∷ words) some h = words_again 32 word words h

-- spaces part the words of a line
pub line_words_again : (table : List Form) (line : LineGiven) → IsTrue (is_clear table) → FitsTable table line → words_of (line_text table line) ≡ line_words table line
line_words_again table line c fit = some_again (line_words table line) (forms_some table line.form line.words c fit) (forms_without 32 (omega arith) table line.form line.words c fit)

reads_again : (table : List Form) → IsTrue (is_clear table) → (line : LineGiven) → FitsTable table line → read_line table (line_text table line) ≡ Some line
reads_again table c line fit =
    let same : 0 + line.form ≡ line.form = omega arith in
    ap (read_forms 0 table) (line_words_again table line c fit)
    ∙ forms_read 0 table line.form line.words c fit
    ∙ ap (λ (i : ℕ). Some (line_at i line.words)) same

-- what is read of a line can be said, and is said by the line where its numbers are exact
abbrev Says : List Form → List ℕ → LineGiven → Type 0
Says table bytes line = FitsTable table line × (IsExact table line → bytes ≡ line_text table line)

reads_nothing_else : (table : List Form) → IsTrue (is_clear table) → (bytes : List ℕ) (line : LineGiven) → read_line table bytes ≡ Some line → Says table bytes line
reads_nothing_else table c bytes line h =
    let r = forms_are 0 table (words_of bytes) line c h in
    let same : 0 + r.form ≡ r.form = omega arith in
    subst (Says table bytes) (sym (r.said ∙ ap (λ (i : ℕ). line_at i r.own) same))
    (r.fit, λ exact. sym (join_with_byte-slice_split 32 bytes) ∙ ap (join_with_byte 32) (r.is exact))

pub table_law : TableLaw
table_law table c = record {
  again = reads_again table c;
  exact = reads_nothing_else table c;
  one = λ a b f g e. some_is a b (sym (reads_again table c a f) ∙ ap (read_line table) e ∙ reads_again table c b g);
  parts = λ line fit. (is_one_line (line_text table line) (joined_without 10 32 refl (line_words table line) (words_without_feed table line c fit)), line_words_again table line c fit);
}

-- The words that are written, one after the other.
use Rattle.std.proofs.Common.{ℕ, suc, zero, ◌≡◌, ◌<◌, ◌≤◌, List, [], ◌∷◌, ◌++◌, length, get_or, drop, cond, eqb, Bool, true, false, ◌+◌, refl, sym, ap, ◌∙◌, append_assoc, arith}
use Rattle.std.specs.Borrow.{Bor}
use Rattle.act1_table.specs.declared.forms.Part as coded_part
use Rattle.act1_table.specs.declared.forms.Field as coded_field
use Rattle.act1_table.specs.declared.forms.Form as coded_form
use Rattle.act1_table.specs.declared.forms.Given.{Given}
use Rattle.std.specs.List.{join_with_byte, flat_map}
use Rattle.std.proofs.lemmas.List.{append-nil, drop_more, drop_all}
use Rattle.std.proofs.lemmas.Bool.Decides.{nat_tests}
use Rattle.act1_table.specs.WriteSteps.{spaced, spaced_words}
use Rattle.act1_table.specs.Table.{Field, parts_of, ways_of, field_of, fields_of, table_of}
use Rattle.act1_table.specs.Forms.{spell_parts, spell_way, spell, spell_fields, spell_forms}

pub way_there : (ways : List (Bor (List coded_part.Part))) (k : ℕ) (ns : List ℕ) (d : Bor (List coded_part.Part)) → k < length ways → spell_way (ways_of ways) k ns ≡ spell_parts (parts_of (get_or ways k d).now) ns
way_there [] k ns d h = absurd (omega arith)
way_there (w ∷ ways) zero ns d h = refl
way_there (w ∷ ways) (suc k) ns d h = way_there ways k ns d (omega arith)

pub no_way : (ways : List (Bor (List coded_part.Part))) (k : ℕ) (ns : List ℕ) → length ways ≤ k → spell_way (ways_of ways) k ns ≡ []
no_way [] k ns h = refl
no_way (w ∷ ways) zero ns h = absurd (omega arith)
no_way (w ∷ ways) (suc k) ns h = no_way ways k ns (omega arith)

join_spaced : (w : List ℕ) (ws : List (List ℕ)) → join_with_byte 32 (w ∷ ws) ≡ w ++ flat_map (λ (x : List ℕ). 32 ∷ x) ws
join_spaced w [] = sym (append-nil w)
join_spaced w (x ∷ ws) = ap (λ (bs : List ℕ). w ++ 32 ∷ bs) (join_spaced x ws)

later : (i : ℕ) → eqb (i + 1) 0 ≡ false
later i = grind (arith, nat_tests)

tail_by : (i : ℕ) (w : List ℕ) (ws : List (List ℕ)) (first : Bool) → eqb i 0 ≡ first → spaced_words i (w ∷ ws) ≡ spaced i w ++ flat_map (λ (x : List ℕ). 32 ∷ x) ws
tail_by i w ws true e = rw e (join_spaced w ws)
tail_by i w ws false e = rw e refl

tail_more : (i : ℕ) (w : List ℕ) (ws : List (List ℕ)) → spaced_words i (w ∷ ws) ≡ spaced i w ++ spaced_words (i + 1) ws
tail_more i w ws = tail_by i w ws (eqb i 0) refl ∙ ap (λ (b : Bool). spaced i w ++ cond b (join_with_byte 32 ws) (flat_map (λ (x : List ℕ). 32 ∷ x) ws)) (sym (later i))

pub form_there : (forms : List coded_form.Form) (k : ℕ) (gs : List Given) (d : coded_form.Form) → k < length forms → spell_forms (table_of forms) k gs ≡ spell_fields (fields_of (get_or forms k d).fields.now) (field_of (get_or forms k d).rest) gs
form_there [] k gs d h = absurd (omega arith)
form_there (f ∷ forms) zero gs d h = refl
form_there (f ∷ forms) (suc k) gs d h = form_there forms k gs d (omega arith)

pub no_form : (forms : List coded_form.Form) (k : ℕ) (gs : List Given) → length forms ≤ k → spell_forms (table_of forms) k gs ≡ []
no_form [] k gs h = refl
no_form (f ∷ forms) zero gs h = absurd (omega arith)
no_form (f ∷ forms) (suc k) gs h = no_form forms k gs (omega arith)

pub one_more : (start text new : List ℕ) (i : ℕ) (all rest : List (List ℕ)) (word : List ℕ) → start ≡ text ++ spaced_words i all → all ≡ word ∷ rest → new ≡ text ++ spaced i word → start ≡ new ++ spaced_words (i + 1) rest
one_more start text new i all rest word inv is done =
    inv ∙ ap (λ (ws : List (List ℕ)). text ++ spaced_words i ws) is ∙ ap (λ (bs : List ℕ). text ++ bs) (tail_more i word rest)
    ∙ sym (append_assoc text (spaced i word) (spaced_words (i + 1) rest)) ∙ ap (λ (bs : List ℕ). bs ++ spaced_words (i + 1) rest) (sym done)

pub next_field : (fields : List coded_field.Field) (rest : Field) (words : List Given) (i : ℕ) (d : coded_field.Field) (e : Given) → i < length words → i < length fields
    → spell_fields (fields_of (drop i fields)) rest (drop i words) ≡ spell (field_of (get_or fields i d)) (get_or words i e) ∷ spell_fields (fields_of (drop (i + 1) fields)) rest (drop (i + 1) words)
next_field fields rest words i d e low here =
    ap (λ (fs : List coded_field.Field). spell_fields (fields_of fs) rest (drop i words)) (drop_more fields i d here)
    ∙ ap (λ (gs : List Given). spell_fields (field_of (get_or fields i d) ∷ fields_of (drop (i + 1) fields)) rest gs) (drop_more words i e low)

pub next_rest : (fields : List coded_field.Field) (rest : Field) (words : List Given) (i : ℕ) (e : Given) → i < length words → length fields ≤ i
    → spell_fields (fields_of (drop i fields)) rest (drop i words) ≡ spell rest (get_or words i e) ∷ spell_fields (fields_of (drop (i + 1) fields)) rest (drop (i + 1) words)
next_rest fields rest words i e low past =
    ap (λ (fs : List coded_field.Field). spell_fields (fields_of fs) rest (drop i words)) (drop_all i fields past)
    ∙ ap (λ (gs : List Given). spell_fields [] rest gs) (drop_more words i e low)
    ∙ ap (λ (fs : List coded_field.Field). spell rest (get_or words i e) ∷ spell_fields (fields_of fs) rest (drop (i + 1) words)) (sym (drop_all (i + 1) fields (omega arith)))

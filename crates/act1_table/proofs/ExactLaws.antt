-- A line of a table without caps says its numbers exactly.
use Rattle.std.proofs.Common.{ℕ, suc, zero, IsTrue, List, [], ◌∷◌}
use Rattle.std.specs.List.{list_all}
use Rattle.act1_table.specs.Table.{Part}
use Rattle.act1_table.specs.Table.{Text, Number}
use Rattle.act1_table.specs.Table.{Field}
use Rattle.act1_table.specs.Table as field
use Rattle.act1_table.specs.Table.{Form}
use Rattle.act1_table.specs.declared.forms.Limit.TheVariants as limit
use Rattle.act1_table.specs.declared.forms.Given.{Given}
use Rattle.act1_table.specs.declared.forms.Given.TheVariants as given
use Rattle.act1_table.specs.declared.forms.LineGiven.{LineGiven}
use Rattle.act1_table.specs.Exact.{AreBelowCaps, IsExactWay, IsExactWord, AreExactWords, IsExactForm, IsExact, is_plain_part, is_plain_field, is_plain_form, is_plain}
use Rattle.act1_table.proofs.NumberLaws.{both}

plain_parts : (parts : List Part) (ns : List ℕ) → IsTrue (list_all is_plain_part parts) → AreBelowCaps parts ns
plain_parts [] ns h = tt
plain_parts (Text bytes ∷ parts) ns h = plain_parts parts ns h
plain_parts (Number l ∷ parts) [] h = tt
plain_parts (Number (limit.Most most) ∷ parts) (n ∷ ns) h = (tt, plain_parts parts ns h)
plain_parts (Number (limit.Cap most) ∷ parts) (n ∷ ns) h = cc

plain_ways : (ways : List (List Part)) (k : ℕ) (ns : List ℕ) → IsTrue (list_all (λ (way : List Part). list_all is_plain_part way) ways) → IsExactWay ways k ns
plain_ways [] k ns h = tt
plain_ways (way ∷ ways) zero ns h = plain_parts way ns (both (list_all is_plain_part way) (list_all (λ (w : List Part). list_all is_plain_part w) ways) h).0
plain_ways (way ∷ ways) (suc k) ns h = plain_ways ways k ns (both (list_all is_plain_part way) (list_all (λ (w : List Part). list_all is_plain_part w) ways) h).1

plain_word : (f : Field) (g : Given) → IsTrue (is_plain_field f) → IsExactWord f g
plain_word field.Name g h = tt
plain_word (field.OneOf ways) (given.Name name) h = tt
plain_word (field.OneOf ways) (given.Way k ns) h = plain_ways ways k ns h

plain_words : (fields : List Field) (rest : Field) (gs : List Given) → IsTrue (list_all is_plain_field fields) → IsTrue (is_plain_field rest) → AreExactWords fields rest gs
plain_words fields rest [] h k = tt
plain_words [] rest (g ∷ gs) h k = (plain_word rest g k, plain_words [] rest gs h k)
plain_words (f ∷ fields) rest (g ∷ gs) h k =
    let p = both (is_plain_field f) (list_all is_plain_field fields) h in
    (plain_word f g p.0, plain_words fields rest gs p.1 k)

plain_forms : (forms : List Form) (k : ℕ) (gs : List Given) → IsTrue (is_plain forms) → IsExactForm forms k gs
plain_forms [] k gs h = tt
plain_forms (form ∷ forms) zero gs h =
    let p = both (list_all is_plain_field form.fields) (is_plain_field form.rest) (both (is_plain_form form) (list_all is_plain_form forms) h).0 in
    plain_words form.fields form.rest gs p.0 p.1
plain_forms (form ∷ forms) (suc k) gs h = plain_forms forms k gs (both (is_plain_form form) (list_all is_plain_form forms) h).1

pub plain_exact : (table : List Form) (line : LineGiven) → IsTrue (is_plain table) → IsExact table line
plain_exact table line h = plain_forms table line.form line.words h

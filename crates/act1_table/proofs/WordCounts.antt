-- A line with more or fewer words than its form has.
use Rattle.std.proofs.Common.{ℕ, ◌≡◌, ◌≢◌, ◌<◌, ◌⊎◌, inl, inr, eqb, nat_lt, Bool, true, false, not, ◌&&◌, ◌||◌, IsTrue, List, [], ◌∷◌, ◌++◌, length, drop, Option, Some, None, refl, sym, ap, ◌∙◌, arith}
use Rattle.std.proofs.lemmas.Bool.{cases_order}
use Rattle.std.proofs.lemmas.Bool.Decides.{nat_tests}
use Rattle.std.proofs.lemmas.List.{length-drop}
use Rattle.act1_table.specs.Table.{Part, Field, fields_of}
use Rattle.act1_table.specs.Table as field
use Rattle.act1_table.specs.declared.forms.Field as coded_field
use Rattle.act1_table.specs.declared.forms.Given.{Given}
use Rattle.act1_table.specs.Reads.{and_then, read_word, read_fields}
use Rattle.act1_table.specs.ReadSteps.{is_nothing, may_have}

none_behind : {A B : Type 0} (found : Option A) (more : A → Option B) → ((x : A) → None ≡ more x) → None ≡ and_then found more
none_behind None more h = refl
none_behind (Some x) more h = h x

too_few : (said : List Given) (fields : List Field) (rest : Field) (words : List (List ℕ)) → length words < length fields → None ≡ read_fields said fields rest words
too_few said [] rest words h = absurd (omega arith)
too_few said (f ∷ fields) rest [] h = refl
too_few said (f ∷ fields) rest (w ∷ words) h = none_behind (read_word f w) (λ g. read_fields (said ++ g ∷ []) fields rest words) (λ g. too_few (said ++ g ∷ []) fields rest words (omega arith))

no_word : (rest : Field) (word : List ℕ) → IsTrue (is_nothing rest) → read_word rest word ≡ None
no_word field.Name word h = cc
no_word (field.OneOf []) word h = refl
no_word (field.OneOf (way ∷ ways)) word h = cc

too_many : (said : List Given) (fields : List Field) (rest : Field) (words : List (List ℕ)) → IsTrue (is_nothing rest) → length fields < length words → None ≡ read_fields said fields rest words
too_many said [] rest [] n h = absurd (omega arith)
too_many said [] rest (w ∷ words) n h = sym (ap (λ (found : Option Given). and_then found (λ g. read_fields (said ++ g ∷ []) [] rest words)) (no_word rest w n))
too_many said (f ∷ fields) rest [] n h = refl
too_many said (f ∷ fields) rest (w ∷ words) n h = none_behind (read_word f w) (λ g. read_fields (said ++ g ∷ []) fields rest words) (λ g. too_many (said ++ g ∷ []) fields rest words n (omega arith))

more_words : (k n : ℕ) (nothing : Bool) → (eqb k n || (nat_lt k n && not nothing)) ≡ false → k < n → IsTrue nothing
more_words k n true h low = refl
more_words k n false h low = grind (arith, nat_tests)

other_count : (k n : ℕ) (nothing : Bool) → (eqb k n || (nat_lt k n && not nothing)) ≡ false → k ≢ n
other_count k n nothing h e = grind (arith, nat_tests)

wrong_count : (fields : List Field) (rest : Field) (words : List (List ℕ)) → may_have (length fields) rest (length words) ≡ false → None ≡ read_fields [] fields rest words
wrong_count fields rest words h = by (cases_order (length fields) (length words))
  where
    by : (length fields ≡ length words) ⊎ ((length fields < length words) ⊎ (length words < length fields)) → None ≡ read_fields [] fields rest words
    by (inl e) = absurd (other_count (length fields) (length words) (is_nothing rest) h e)
    by (inr (inl low)) = too_many [] fields rest words (more_words (length fields) (length words) (is_nothing rest) h low) low
    by (inr (inr high)) = too_few [] fields rest words high

as_many_fields : (fields : List coded_field.Field) → length (fields_of fields) ≡ length fields
as_many_fields [] = refl
as_many_fields (f ∷ fields) = let rest = as_many_fields fields in omega arith

-- so many words are no line of the form
pub none_read : (fields : List coded_field.Field) (rest : Field) (words : List (List ℕ)) → may_have (length fields) rest (length words) ≡ false → None ≡ read_fields [] (fields_of fields) rest words
none_read fields rest words h = wrong_count (fields_of fields) rest words (ap (λ (k : ℕ). may_have k rest (length words)) (as_many_fields fields) ∙ h)

-- where no word is left for a field, the words are no line of the form
pub no_word_left : (said : List Given) (fields : List coded_field.Field) (i : ℕ) (rest : Field) (words : List (List ℕ)) → i < length fields → words ≡ [] → None ≡ read_fields said (fields_of (drop i fields)) rest words
no_word_left said fields i rest words low none =
    let same = as_many_fields (drop i fields) in
    let long = length-drop i fields in
    let few : length words ≡ 0 = ap (λ (ws : List (List ℕ)). length ws) none in
    too_few said (fields_of (drop i fields)) rest words (omega arith)

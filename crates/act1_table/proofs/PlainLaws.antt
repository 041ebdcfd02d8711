-- A line of a form is that of what its words say: its fixed words, and numbers that are no greater than their limits. By these lemmas a format shows that a line of the table says a line of its own.
use Rattle.std.proofs.Common.{ℕ, suc, zero, ◌≡◌, ◌+◌, ◌<◌, Bool, true, false, IsTrue, List, [], ◌∷◌, ◌++◌, length, map, drop, Option, Some, refl, sym, ap, subst, ◌∙◌, arith, append_assoc}
use Rattle.std.specs.Prelude.{slice_get}
use Rattle.std.proofs.lemmas.List.{drop_at}
use Rattle.act1_base.specs.Capped.{at_most}
use Rattle.act1_base.proofs.NumberWords.{low_at_most}
use Rattle.act1_table.specs.Table.{Part}
use Rattle.act1_table.specs.Table.{Text, Number}
use Rattle.act1_table.specs.Table.{Field}
use Rattle.act1_table.specs.Table as field
use Rattle.act1_table.specs.Table.{Form}
use Rattle.act1_table.specs.declared.forms.Limit.{Limit}
use Rattle.act1_table.specs.declared.forms.Limit.TheVariants as limit
use Rattle.act1_table.specs.declared.forms.Given.{Given}
use Rattle.act1_table.specs.declared.forms.Given.TheVariants as given
use Rattle.act1_table.specs.Forms.{IsWithin, FitParts, FitWay, Fits, FitFields}
use Rattle.act1_table.specs.Values.{first, others, numbers_said, way_said, name_said, given_or, number, number_up_to}
use Rattle.act1_table.proofs.NumberLaws.{some_is}

abbrev pub most_of : Limit → ℕ
most_of (limit.Most most) = most
most_of (limit.Cap most) = most

-- what a word of a field says, from its name, way and numbers
abbrev pub plain_parts : List Part → List ℕ → List ℕ
plain_parts [] numbers = []
plain_parts (Text text ∷ parts) numbers = plain_parts parts numbers
plain_parts (Number l ∷ parts) numbers = at_most (most_of l) (first numbers) ∷ plain_parts parts (others numbers)

abbrev pub plain_ways : List (List Part) → Given → Given
plain_ways (way ∷ []) word = given.Way 0 (plain_parts way (numbers_said word))
plain_ways _ word = given.Way (way_said word) (numbers_said word)

abbrev pub plain_field : Field → Given → Given
plain_field field.Name word = given.Name (name_said word)
plain_field (field.OneOf ways) word = plain_ways ways word

abbrev pub plain_rest_ways : List (List Part) → List Given → List Given
plain_rest_ways [] words = []
plain_rest_ways (way ∷ ways) words = words

abbrev pub plain_rest : Field → List Given → List Given
plain_rest field.Name words = words
plain_rest (field.OneOf ways) words = plain_rest_ways ways words

abbrev pub plain_fields : List Field → Field → ℕ → List Given → List Given
plain_fields [] rest i words = plain_rest rest (drop i words)
plain_fields (f ∷ fields) rest i words = plain_field f (given_or (slice_get words i)) ∷ plain_fields fields rest (i + 1) words

-- the words of a line of a form, each from what it says
abbrev pub plain_words : Form → List Given → List Given
plain_words form words = plain_fields form.fields form.rest 0 words

-- each of the ways is a fixed word
abbrev pub are_texts : List (List Part) → Bool
are_texts [] = true
are_texts ((Text text ∷ []) ∷ ways) = are_texts ways
are_texts (way ∷ ways) = false

within_is : (l : Limit) (n : ℕ) → IsWithin l n → at_most (most_of l) n ≡ n
within_is (limit.Most most) n h = low_at_most most n h
within_is (limit.Cap most) n h = low_at_most most n h

parts_plain : (parts : List Part) (ns : List ℕ) → FitParts parts ns → plain_parts parts ns ≡ ns
parts_plain [] [] h = refl
parts_plain [] (n ∷ ns) h = absurd h
parts_plain (Text text ∷ parts) ns h = parts_plain parts ns h
parts_plain (Number l ∷ parts) [] h = absurd h
parts_plain (Number l ∷ parts) (n ∷ ns) h = ap (λ (m : ℕ). m ∷ plain_parts parts ns) (within_is l n h.0) ∙ ap (λ (ms : List ℕ). n ∷ ms) (parts_plain parts ns h.1)

ways_plain : (ways : List (List Part)) (k : ℕ) (ns : List ℕ) → FitWay ways k ns → plain_ways ways (given.Way k ns) ≡ given.Way k ns
ways_plain [] k ns h = absurd h
ways_plain (way ∷ []) zero ns h = ap (λ (ms : List ℕ). given.Way 0 ms) (parts_plain way ns h)
ways_plain (way ∷ []) (suc k) ns h = absurd h
ways_plain (way ∷ other ∷ ways) k ns h = refl

field_plain : (f : Field) (g : Given) → Fits f g → plain_field f g ≡ g
field_plain field.Name (given.Name name) h = refl
field_plain field.Name (given.Way k ns) h = absurd h
field_plain (field.OneOf ways) (given.Name name) h = absurd h
field_plain (field.OneOf ways) (given.Way k ns) h = ways_plain ways k ns h

no_rest : (ways : List (List Part)) (ws : List (List Part)) → ways ≡ ws → (gs : List Given) → FitFields [] (field.OneOf ways) gs → plain_rest_ways ws gs ≡ gs
no_rest ways (w ∷ ws) e gs h = refl
no_rest ways [] e [] h = refl
no_rest ways [] e (given.Name name ∷ gs) h = absurd h.0
no_rest ways [] e (given.Way k ns ∷ gs) h = absurd (subst (λ (ws : List (List Part)). FitWay ws k ns) e h.0)

rest_plain : (rest : Field) (gs : List Given) → FitFields [] rest gs → plain_rest rest gs ≡ gs
rest_plain field.Name gs h = refl
rest_plain (field.OneOf ways) gs h = no_rest ways ways refl gs h

at_end : (front : List Given) (g : Given) (gs : List Given) → slice_get (front ++ g ∷ gs) (length front) ≡ Some g
at_end [] g gs = refl
at_end (x ∷ front) g gs = at_end front g gs

fields_plain : (fields : List Field) (rest : Field) (front gs : List Given) (i : ℕ) → length front ≡ i → FitFields fields rest gs → plain_fields fields rest i (front ++ gs) ≡ gs
fields_plain [] rest front gs i e h = ap (plain_rest rest) (drop_at front gs i e) ∙ rest_plain rest gs h
fields_plain (f ∷ fields) rest front [] i e h = absurd h
fields_plain (f ∷ fields) rest front (g ∷ gs) i e h =
    let here : slice_get (front ++ g ∷ gs) i ≡ Some g = ap (slice_get (front ++ g ∷ gs)) (sym e) ∙ at_end front g gs in
    let longer : length (front ++ g ∷ []) ≡ i + 1 = one_more front g i e in
    ap (λ (x : Option Given). plain_field f (given_or x) ∷ plain_fields fields rest (i + 1) (front ++ g ∷ gs)) here
    ∙ ap (λ (x : Given). x ∷ plain_fields fields rest (i + 1) (front ++ g ∷ gs)) (field_plain f g h.0)
    ∙ ap (λ (xs : List Given). g ∷ plain_fields fields rest (i + 1) xs) (sym (append_assoc front (g ∷ []) gs))
    ∙ ap (λ (xs : List Given). g ∷ xs) (fields_plain fields rest (front ++ g ∷ []) gs (i + 1) longer h.1)
  where
    one_more : (front : List Given) (g : Given) (i : ℕ) → length front ≡ i → length (front ++ g ∷ []) ≡ i + 1
    one_more [] g i e = omega (arith, e)
    one_more (x ∷ front) g i e = let r = one_more front g (length front) refl in omega (arith, e, r)

-- the words of a line are those of what they say
pub words_plain : (form : Form) (gs : List Given) → FitFields form.fields form.rest gs → gs ≡ plain_words form gs
words_plain form gs h = sym (fields_plain form.fields form.rest [] gs 0 refl h)

-- the word at a place may stand in its field
pub field_fits : (fields : List Field) (rest : Field) (gs : List Given) (i : ℕ) (f : Field) → FitFields fields rest gs → slice_get fields i ≡ Some f → Fits f (given_or (slice_get gs i))
field_fits [] rest gs i f h e = cc
field_fits (x ∷ fields) rest [] i f h e = absurd h
field_fits (x ∷ fields) rest (g ∷ gs) zero f h e = subst (λ (y : Field). Fits y g) (some_is x f e) h.0
field_fits (x ∷ fields) rest (g ∷ gs) (suc i) f h e = field_fits fields rest gs i f h.1 e

-- a word that is one of several texts says which, and nothing more
pub one_of_texts : (ways : List (List Part)) (k : ℕ) (ns : List ℕ) → IsTrue (are_texts ways) → FitWay ways k ns → (k < length ways) × (ns ≡ [])
one_of_texts [] k ns t h = absurd h
one_of_texts ([] ∷ ways) k ns t h = cc
one_of_texts ((Number l ∷ parts) ∷ ways) k ns t h = cc
one_of_texts ((Text text ∷ []) ∷ ways) zero [] t h = (omega arith, refl)
one_of_texts ((Text text ∷ []) ∷ ways) zero (n ∷ ns) t h = absurd h
one_of_texts ((Text text ∷ []) ∷ ways) (suc k) ns t h = let r = one_of_texts ways k ns t h in let low = r.0 in (omega (arith, low), r.1)
one_of_texts ((Text text ∷ p ∷ parts) ∷ ways) k ns t h = cc

pub text_plain : (ways : List (List Part)) (g : Given) (most : ℕ) → IsTrue (are_texts ways) → length ways ≡ most + 1 → Fits (field.OneOf ways) g → given.Way (way_said g) (numbers_said g) ≡ given.Way (at_most most (way_said g)) []
text_plain ways (given.Name name) most t e h = absurd h
text_plain ways (given.Way k ns) most t e h =
    let r = one_of_texts ways k ns t h in
    let low = r.0 in
    ap (λ (ms : List ℕ). given.Way k ms) r.1 ∙ ap (λ (j : ℕ). given.Way j []) (sym (low_at_most most k (omega (arith, low, e))))

-- numbers to the end of the line
pub rest_numbers : (most : ℕ) (gs : List Given) → FitFields [] (field.OneOf ((Number (limit.Most most) ∷ []) ∷ [])) gs
    → gs ≡ map {B = Given} number (map (number_up_to most) gs)
rest_numbers most [] h = refl
rest_numbers most (g ∷ gs) h = ap (λ (x : Given). x ∷ gs) (sym (field_plain (field.OneOf ((Number (limit.Most most) ∷ []) ∷ [])) g h.0)) ∙ ap (λ (xs : List Given). given.Way 0 (at_most most (first (numbers_said g)) ∷ []) ∷ xs) (rest_numbers most gs h.1)

pub numbers_back : (most : ℕ) (ns : List ℕ) → FitFields [] (field.OneOf ((Number (limit.Most most) ∷ []) ∷ [])) (map {B = Given} number ns)
    → map (number_up_to most) (map {B = Given} number ns) ≡ ns
numbers_back most [] h = refl
numbers_back most (n ∷ ns) h = ap (λ (m : ℕ). m ∷ map (number_up_to most) (map {B = Given} number ns)) (low_at_most most n h.0.0) ∙ ap (λ (ms : List ℕ). n ∷ ms) (numbers_back most ns h.1)

pub fit_rest : (fields : List Field) (rest : Field) (gs : List Given) → FitFields fields rest gs → FitFields [] rest (drop (length fields) gs)
fit_rest [] rest gs h = h
fit_rest (f ∷ fields) rest [] h = absurd h
fit_rest (f ∷ fields) rest (g ∷ gs) h = fit_rest fields rest gs h.1

-- A word of parts: what is written is read again, and nothing else is read.
use Rattle.std.proofs.Common.{ℕ, ◌≡◌, ◌^◌, ◌<◌, nat_le, eqb, Bool, true, false, not, ◌&&◌, cond, IsTrue, List, [], ◌∷◌, ◌++◌, length, take, drop, Option, Some, None, refl, sym, ap, ◌∙◌, arith, append_assoc}
use Rattle.std.specs.Fmt.{decimal}
use Rattle.std.specs.Str.{bytes_eq}
use Rattle.std.specs.List.{list_all}
use Rattle.std.proofs.lemmas.Fmt.{decimal_is_IsNumeral}
use Rattle.std.proofs.lemmas.List.{append-nil, take-append-drop}
use Rattle.std.proofs.lemmas.Slice.Eq.{bytes_eq-Decides}
use Rattle.std.proofs.lemmas.Bool.Decides.{nat_tests}
use Rattle.act1_base.specs.Capped.{is_digit}
use Rattle.act1_base.proofs.NumberWords.{spelled_number}
use Rattle.act1_table.specs.Table.{Part}
use Rattle.act1_table.specs.Table.{Text, Number}
use Rattle.act1_table.specs.declared.forms.Limit.{Limit}
use Rattle.act1_table.specs.declared.forms.Limit.TheVariants as limit
use Rattle.act1_table.specs.Exact.{AreBelowCaps}
use Rattle.act1_table.specs.Forms.{FitParts, spell_parts}
use Rattle.act1_table.specs.Reads.{begins, behind, digits_in_front, number_of, and_then, read_parts}
use Rattle.act1_table.specs.Clear.{begins_other, ends_number, is_inner, are_clear_parts, is_clear_limit, begin_apart, are_apart}
use Rattle.act1_table.proofs.NumberLaws.{both, some_is, small, number_read, number_is}

-- a text in front

take_front : (text rest : List ℕ) → take (length text) (text ++ rest) ≡ text
take_front [] rest = refl
take_front (b ∷ text) rest = ap (λ (bs : List ℕ). b ∷ bs) (take_front text rest)

drop_front : (text rest : List ℕ) → drop (length text) (text ++ rest) ≡ rest
drop_front [] rest = refl
drop_front (b ∷ text) rest = drop_front text rest

fits_front : (text rest : List ℕ) → nat_le (length text) (length (text ++ rest)) ≡ true
fits_front [] rest = grind (arith, nat_tests)
fits_front (b ∷ text) rest = let more = fits_front text rest in grind (arith, nat_tests, more)

same_bytes : (bytes : List ℕ) → bytes_eq bytes bytes ≡ true
same_bytes bytes = (bytes_eq-Decides bytes bytes).1 refl

pub behind_front : (text rest : List ℕ) → behind text (text ++ rest) ≡ Some rest
behind_front text rest = rw (fits_front text rest, take_front text rest, same_bytes text, drop_front text rest) refl

behind_by : (text word rest : List ℕ) (test : Bool) → begins text word ≡ test → cond test (Some (drop (length text) word)) None ≡ Some rest → word ≡ text ++ rest
behind_by text word rest false e h = cc
behind_by text word rest true e h =
    let front : take (length text) word ≡ text = (bytes_eq-Decides (take (length text) word) text).0 (both (nat_le (length text) (length word)) (bytes_eq (take (length text) word) text) e).1 in
    let back : drop (length text) word ≡ rest = cc in
    sym (take-append-drop (length text) word) ∙ ap (λ (bs : List ℕ). bs ++ drop (length text) word) front ∙ ap (λ (bs : List ℕ). text ++ bs) back

pub behind_is : (text word rest : List ℕ) → behind text word ≡ Some rest → word ≡ text ++ rest
behind_is text word rest h = behind_by text word rest _ refl h

-- digits in front

-- the bytes end or go on with no digit
abbrev IsEnd : List ℕ → Type 0
IsEnd [] = Unit {0}
IsEnd (b ∷ bytes) = is_digit b ≡ false

no_more_digits : (rest : List ℕ) → IsEnd rest → digits_in_front rest ≡ 0
no_more_digits [] h = refl
no_more_digits (b ∷ rest) h = rw h refl

digits_end : (digits rest : List ℕ) → IsTrue (list_all is_digit digits) → IsEnd rest → digits_in_front (digits ++ rest) ≡ length digits
digits_end [] rest all end = no_more_digits rest end
digits_end (d ∷ digits) rest all end =
    let parts = both (is_digit d) (list_all is_digit digits) all in
    let more = digits_end digits rest parts.1 end in
    rw parts.0 (omega (arith, more))

pub decimal_digits : (n : ℕ) → n < 2 ^ 64 → IsTrue (list_all is_digit (decimal n))
decimal_digits n fits = (both _ (list_all is_digit (decimal n)) (spelled_number n fits)).1

not_digit : (b : ℕ) → IsTrue (not (is_digit b)) → is_digit b ≡ false
not_digit b h = of (is_digit b) h
  where
    of : (t : Bool) → IsTrue (not t) → t ≡ false
    of true k = cc
    of false k = refl

other_end : (text rest : List ℕ) → IsTrue (begins_other text) → IsEnd (text ++ rest)
other_end [] rest h = cc
other_end (b ∷ text) rest h = not_digit b h

parts_end : (parts : List Part) (ns : List ℕ) → IsTrue (ends_number parts) → IsEnd (spell_parts parts ns)
parts_end [] ns h = tt
parts_end (Text text ∷ parts) ns h = other_end text (spell_parts parts ns) h
parts_end (Number l ∷ parts) ns h = cc

-- what a clear number keeps
pub record Clear (l : Limit) (parts : List Part) : Type 0 where
  pub limit : IsTrue (is_clear_limit l)
  pub ends : IsTrue (ends_number parts)
  pub rest : IsTrue (are_clear_parts parts)

pub clear_number : (l : Limit) (parts : List Part) → IsTrue (are_clear_parts (Number l ∷ parts)) → Clear l parts
clear_number l parts h =
    let outer = both (is_clear_limit l && ends_number parts) (are_clear_parts parts) h in
    let inner = both (is_clear_limit l) (ends_number parts) outer.0 in
    record { limit = inner.0; ends = inner.1; rest = outer.1 }

pub clear_text : (text : List ℕ) (parts : List Part) → IsTrue (are_clear_parts (Text text ∷ parts)) → IsTrue (are_clear_parts parts)
clear_text text parts h = (both (list_all is_inner text) (are_clear_parts parts) h).1

-- written parts are read again
pub parts_read : (got : List ℕ) (parts : List Part) (ns : List ℕ) → IsTrue (are_clear_parts parts) → FitParts parts ns → read_parts got parts (spell_parts parts ns) ≡ Some (got ++ ns)
parts_read got [] [] clear fit = ap (λ (ms : List ℕ). Some ms) (sym (append-nil got))
parts_read got [] (n ∷ ns) clear fit = absurd fit
parts_read got (Text text ∷ parts) ns clear fit =
    ap (λ (found : Option (List ℕ)). and_then found (λ rest. read_parts got parts rest)) (behind_front text (spell_parts parts ns))
    ∙ parts_read got parts ns (clear_text text parts clear) fit
parts_read got (Number l ∷ parts) [] clear fit = absurd fit
parts_read got (Number l ∷ parts) (n ∷ ns) clear fit =
    let c = clear_number l parts clear in
    let fits = small l n c.limit fit.0 in
    let rest = spell_parts parts ns in
    let end : digits_in_front (decimal n ++ rest) ≡ length (decimal n) = digits_end (decimal n) rest (decimal_digits n fits) (parts_end parts ns c.ends) in
    let word : List ℕ = decimal n ++ rest in
    ap (λ (k : ℕ). and_then (number_of l (take k word)) (λ m. read_parts (got ++ m ∷ []) parts (drop k word))) end
    ∙ ap (λ (ds : List ℕ). and_then (number_of l ds) (λ m. read_parts (got ++ m ∷ []) parts (drop (length (decimal n)) word))) (take_front (decimal n) rest)
    ∙ ap (λ (found : Option ℕ). and_then found (λ m. read_parts (got ++ m ∷ []) parts (drop (length (decimal n)) word))) (number_read l n c.limit fit.0)
    ∙ ap (λ (bs : List ℕ). read_parts (got ++ n ∷ []) parts bs) (drop_front (decimal n) rest)
    ∙ parts_read (got ++ n ∷ []) parts ns c.rest fit.1
    ∙ ap (λ (ms : List ℕ). Some ms) (append_assoc got (n ∷ []) ns)

-- what a word says that was read
pub record PartsAre (got : List ℕ) (parts : List Part) (word ns : List ℕ) : Type 0 where
  pub own : List ℕ
  pub all : ns ≡ got ++ own
  pub fit : FitParts parts own
  pub is : AreBelowCaps parts own → word ≡ spell_parts parts own

after_text : (got : List ℕ) (text : List ℕ) (parts : List Part) (word ns : List ℕ) (found : Option (List ℕ)) → behind text word ≡ found
    → ((rest : List ℕ) → read_parts got parts rest ≡ Some ns → PartsAre got parts rest ns)
    → and_then found (λ rest. read_parts got parts rest) ≡ Some ns → PartsAre got (Text text ∷ parts) word ns
after_text got text parts word ns None e more h = cc
after_text got text parts word ns (Some rest) e more h =
    let r = more rest h in
    record { own = r.own; all = r.all; fit = r.fit; is = λ exact. behind_is text word rest e ∙ ap (λ (bs : List ℕ). text ++ bs) (r.is exact) }

after_number : (got : List ℕ) (l : Limit) (parts : List Part) (word ns : List ℕ) (k : ℕ) (found : Option ℕ) → IsTrue (is_clear_limit l) → number_of l (take k word) ≡ found
    → ((n : ℕ) → read_parts (got ++ n ∷ []) parts (drop k word) ≡ Some ns → PartsAre (got ++ n ∷ []) parts (drop k word) ns)
    → and_then found (λ n. read_parts (got ++ n ∷ []) parts (drop k word)) ≡ Some ns → PartsAre got (Number l ∷ parts) word ns
after_number got l parts word ns k None c e more h = cc
after_number got l parts word ns k (Some n) c e more h =
    let r = more n h in
    let number = number_is l n (take k word) c e in
    record {
      own = n ∷ r.own;
      all = r.all ∙ append_assoc got (n ∷ []) r.own;
      fit = (number.0, r.fit);
      is = λ exact. sym (take-append-drop k word) ∙ ap (λ (bs : List ℕ). bs ++ drop k word) (number.1 exact.0) ∙ ap (λ (bs : List ℕ). decimal n ++ bs) (r.is exact.1);
    }

-- what is read is the written word of what it says
pub parts_are : (got : List ℕ) (parts : List Part) (word ns : List ℕ) → IsTrue (are_clear_parts parts) → read_parts got parts word ≡ Some ns → PartsAre got parts word ns
parts_are got [] [] ns clear h = record { own = []; all = sym (some_is got ns h) ∙ sym (append-nil got); fit = tt; is = λ exact. refl }
parts_are got [] (b ∷ word) ns clear h = cc
parts_are got (Text text ∷ parts) word ns clear h =
    after_text got text parts word ns (behind text word) refl (λ rest. parts_are got parts rest ns (clear_text text parts clear)) h
parts_are got (Number l ∷ parts) word ns clear h =
    let c = clear_number l parts clear in
    after_number got l parts word ns (digits_in_front word) _ c.limit refl (λ n. parts_are (got ++ n ∷ []) parts (drop (digits_in_front word) word) ns c.rest) h

-- a word of parts that are apart from others isn't read as these

first_same : (a b : ℕ) (xs ys : List ℕ) → a ∷ xs ≡ b ∷ ys → a ≡ b
first_same a b xs ys e = cc

not_same : (a b : ℕ) → IsTrue (not (eqb a b)) → a ≡ b → ⊥
not_same a b h e = grind (arith, nat_tests)

texts_apart : (s t xs ys : List ℕ) → IsTrue (begin_apart s t) → s ++ xs ≡ t ++ ys → ⊥
texts_apart [] t xs ys h e = cc
texts_apart (a ∷ s) [] xs ys h e = cc
texts_apart (a ∷ s) (b ∷ t) xs ys h e = not_same a b h (first_same a b (s ++ xs) (t ++ ys) e)

words_differ : (s t : List ℕ) → IsTrue (not (bytes_eq s t)) → s ≡ t → ⊥
words_differ s t h e = of (bytes_eq s t) h ((bytes_eq-Decides s t).1 e)
  where
    of : (b : Bool) → IsTrue (not b) → IsTrue b → ⊥
    of true k l = cc
    of false k l = cc

digit_first : (s xs ds ys : List ℕ) → IsTrue (begins_other s) → IsTrue (list_all is_digit ds) → 0 < length ds → s ++ xs ≡ ds ++ ys → ⊥
digit_first [] xs ds ys h all some e = cc
digit_first (a ∷ s) xs [] ys h all some e = absurd (omega arith)
digit_first (a ∷ s) xs (d ∷ ds) ys h all some e =
    let same = first_same a d (s ++ xs) (ds ++ ys) e in
    let other = not_digit a h in
    let digit : is_digit d ≡ true = (both (is_digit d) (list_all is_digit ds) all).0 in
    clash (is_digit d) (ap is_digit (sym same) ∙ other) digit
  where
    clash : (b : Bool) → b ≡ false → b ≡ true → ⊥
    clash true k l = cc
    clash false k l = cc

-- a text doesn't begin with a number that it doesn't begin with
number_apart : (l : Limit) (parts : List Part) (ms text rest : List ℕ) → IsTrue (are_clear_parts (Number l ∷ parts)) → FitParts (Number l ∷ parts) ms → IsTrue (begins_other text) → spell_parts (Number l ∷ parts) ms ≡ text ++ rest → ⊥
number_apart l parts [] text rest clear fit h e = absurd fit
number_apart l parts (m ∷ ms) text rest clear fit h e =
    let fits = small l m (clear_number l parts clear).limit fit.0 in
    digit_first text rest (decimal m) (spell_parts parts ms) h (decimal_digits m fits) (decimal_is_IsNumeral m fits).0.0 (sym e)

-- a text that was read stands in front
record Front (got text : List ℕ) (parts : List Part) (word ns : List ℕ) : Type 0 where
  rest : List ℕ
  is : word ≡ text ++ rest
  more : read_parts got parts rest ≡ Some ns

text_front : (got text : List ℕ) (parts : List Part) (word ns : List ℕ) (found : Option (List ℕ)) → behind text word ≡ found → and_then found (λ rest. read_parts got parts rest) ≡ Some ns → Front got text parts word ns
text_front got text parts word ns None e h = cc
text_front got text parts word ns (Some rest) e h = record { rest = rest; is = behind_is text word rest e; more = h }

nothing_behind : (got rest ns : List ℕ) → read_parts got [] rest ≡ Some ns → rest ≡ []
nothing_behind got [] ns h = refl
nothing_behind got (b ∷ rest) ns h = cc

no_digits : (l : Limit) → number_of l [] ≡ None
no_digits (limit.Most most) = refl
no_digits (limit.Cap most) = refl

no_number : (got : List ℕ) (l : Limit) (parts : List Part) (word ns : List ℕ) → digits_in_front word ≡ 0 → read_parts got (Number l ∷ parts) word ≡ Some ns → ⊥
no_number got l parts word ns e h =
    let after : ℕ → Option ℕ → Option (List ℕ) = λ k found. and_then found (λ n. read_parts (got ++ n ∷ []) parts (drop k word)) in
    let none : read_parts got (Number l ∷ parts) word ≡ None
    = ap (λ (k : ℕ). after k (number_of l (take k word))) e ∙ ap (after 0) (no_digits l) in
    cc

pub parts_apart : (got : List ℕ) (parts others : List Part) (ns ms : List ℕ) → IsTrue (are_clear_parts others) → IsTrue (are_apart parts others) → FitParts others ms → read_parts got parts (spell_parts others ms) ≡ Some ns → ⊥
parts_apart got [] others ns ms d h fit e = cc
parts_apart got (Text s ∷ []) [] ns ms d h fit e = cc
parts_apart got (Text s ∷ p ∷ parts) [] ns ms d h fit e = cc
parts_apart got (Text s ∷ []) (Text t ∷ []) ns ms d h fit e =
    let r = text_front got s [] (t ++ []) ns (behind s (t ++ [])) refl e in
    words_differ s t h (sym (append-nil s) ∙ ap (λ (rest : List ℕ). s ++ rest) (sym (nothing_behind got r.rest ns r.more)) ∙ sym r.is ∙ append-nil t)
parts_apart got (Text s ∷ []) (Text t ∷ q ∷ others) ns ms d h fit e =
    let word : List ℕ = t ++ spell_parts (q ∷ others) ms in
    let r = text_front got s [] word ns (behind s word) refl e in
    texts_apart s t r.rest (spell_parts (q ∷ others) ms) h (sym r.is)
parts_apart got (Text s ∷ p ∷ parts) (Text t ∷ others) ns ms d h fit e =
    let word : List ℕ = t ++ spell_parts others ms in
    let r = text_front got s (p ∷ parts) word ns (behind s word) refl e in
    texts_apart s t r.rest (spell_parts others ms) h (sym r.is)
parts_apart got (Text s ∷ []) (Number l ∷ others) ns ms d h fit e =
    let word = spell_parts (Number l ∷ others) ms in
    let r = text_front got s [] word ns (behind s word) refl e in
    number_apart l others ms s r.rest d fit h r.is
parts_apart got (Text s ∷ p ∷ parts) (Number l ∷ others) ns ms d h fit e =
    let word = spell_parts (Number l ∷ others) ms in
    let r = text_front got s (p ∷ parts) word ns (behind s word) refl e in
    number_apart l others ms s r.rest d fit h r.is
parts_apart got (Number l ∷ parts) [] ns ms d h fit e = cc
parts_apart got (Number l ∷ parts) (Number m ∷ others) ns ms d h fit e = cc
parts_apart got (Number l ∷ parts) (Text t ∷ others) ns ms d h fit e =
    no_number got l parts (t ++ spell_parts others ms) ns (no_more_digits (t ++ spell_parts others ms) (other_end t (spell_parts others ms) h)) e

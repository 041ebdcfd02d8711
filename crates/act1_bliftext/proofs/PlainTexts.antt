-- Lines of fine words, parted by one space, are read word by word.
use Rattle.std.proofs.Common.{ℕ, suc, ◌≡◌, ◌+◌, ◌-◌, ◌≤◌, eqb, leb, cond, Bool, true, false, not, ◌&&◌, ◌||◌, List, [], ◌∷◌, ◌++◌, length, get_or, take, map, Option, Some, None, refl, sym, ap, subst, ◌∙◌, arith, append_assoc}
use Rattle.std.specs.Option.{option_map}
use Rattle.std.specs.List.{list_all, flat_map, prefix_len, AllByRecursion}
use Rattle.std.proofs.lemmas.Bool.{and_parts}
use Rattle.std.proofs.lemmas.Bool.Decides.{nat_tests}
use Rattle.std.proofs.lemmas.List.{append-nil}
use Rattle.act1_base.specs.Lines.{lines_of, in_front}
use Rattle.act1_base.specs.Names.{is_name_byte}
use Rattle.act1_base.specs.Words.{text_of_lines}
use Rattle.act1_base.proofs.TextLines.{IsWithout, joined, joined_without}
use Rattle.act1_bliftext.specs.Lines.{Line, Joined, is_blank, without_comment, before_backslash, words_of, word_before, line_of, lines_from, joined_before, joined_from}
use Rattle.act1_bliftext.specs.Faults.{is_fine_word}
use Rattle.act1_bliftext.specs.Laws.{are_fine, FineWordsAreRead}
use Rattle.act1_bliftext.proofs.PlaceLemmas.{its_line}
use Rattle.act1_bliftext.proofs.WordTurns.{words_after, words_are}

-- a byte of a name
record IsNameByte (b : ℕ) : Type 0 where
  shows : is_name_byte b ≡ true
  blank : is_blank b ≡ false
  comment : eqb b 35 ≡ false
  feed : eqb b 10 ≡ false

-- a word of these, of which the last is no backslash
abbrev IsPlain : List ℕ → Type 0
IsPlain [] = ⊥
IsPlain (b ∷ []) = IsNameByte b × (eqb b 92 ≡ false)
IsPlain (b ∷ c ∷ bytes) = IsNameByte b × IsPlain (c ∷ bytes)

above_other : (b n : ℕ) → leb 33 b ≡ true → n ≤ 32 → eqb b n ≡ false
above_other b n h low = grind (arith, nat_tests)

no_blank : (a b c : Bool) → a ≡ false → b ≡ false → c ≡ false → ((a || b) || c) ≡ false
no_blank a b c e f g = cc

turned : (b : Bool) → not b ≡ true → b ≡ false
turned true h = cc
turned false h = refl

name_byte : (b : ℕ) → is_name_byte b ≡ true → IsNameByte b
name_byte b h =
    let parts = and_parts (leb 33 b && leb b 126) (not (eqb b 35)) h in
    let low = (and_parts (leb 33 b) (leb b 126) parts.0).0 in
    record {
      shows = h;
      blank = no_blank (eqb b 32) (eqb b 9) (eqb b 13) (above_other b 32 low (omega arith)) (above_other b 9 low (omega arith)) (above_other b 13 low (omega arith));
      comment = turned (eqb b 35) parts.1;
      feed = above_other b 10 low (omega arith);
    }

plain_from : (word : List ℕ) → 1 ≤ length word → list_all is_name_byte word ≡ true → eqb (get_or word (length word - 1) 0) 92 ≡ false → IsPlain word
plain_from [] some h last = absurd (omega arith)
plain_from (b ∷ []) some h last = (name_byte b (and_parts (is_name_byte b) true h).0, last)
plain_from (b ∷ c ∷ bytes) some h last =
    let parts = and_parts (is_name_byte b) (list_all is_name_byte (c ∷ bytes)) h in
    let next : length (b ∷ c ∷ bytes) - 1 ≡ suc (length (c ∷ bytes) - 1) = omega arith in
    let last_is : eqb (get_or (c ∷ bytes) (length (c ∷ bytes) - 1) 0) 92 ≡ false = subst (λ (k : ℕ). eqb (get_or (b ∷ c ∷ bytes) k 0) 92 ≡ false) next last in
    (name_byte b parts.0, plain_from (c ∷ bytes) (omega arith) parts.1 last_is)

some_bytes : (n : ℕ) → leb 1 n ≡ true → 1 ≤ n
some_bytes n h = grind (arith, nat_tests)

-- a fine word
plain : (word : List ℕ) → is_fine_word word ≡ true → IsPlain word
plain word h =
    let last = not (eqb (get_or word (length word - 1) 0) 92) in
    let ends = and_parts (leb 1 (length word) && list_all is_name_byte word) last h in
    let bytes = and_parts (leb 1 (length word)) (list_all is_name_byte word) ends.0 in
    plain_from word (some_bytes (length word) bytes.0) bytes.1 (turned (eqb (get_or word (length word - 1) 0) 92) ends.1)

-- bytes that the word doesn't have
plain_without : (word : List ℕ) → IsPlain word → IsWithout 35 word × IsWithout 10 word
plain_without [] h = elim h [ ]
plain_without (b ∷ []) h = ((h.0.comment, tt), (h.0.feed, tt))
plain_without (b ∷ c ∷ bytes) h = let rest = plain_without (c ∷ bytes) h.1 in ((h.0.comment, rest.0), (h.0.feed, rest.1))

all_without : (words : List (List ℕ)) → AllByRecursion IsPlain words → AllByRecursion (IsWithout 35) words × AllByRecursion (IsWithout 10) words
all_without [] h = (tt, tt)
all_without (word ∷ words) h =
    let first = plain_without word h.0 in
    let rest = all_without words h.1 in
    ((first.0, rest.0), (first.1, rest.1))

-- no byte begins a comment
whole_prefix : (bytes : List ℕ) → IsWithout 35 bytes → take (prefix_len (λ b. not (eqb b 35)) bytes) bytes ≡ bytes
whole_prefix [] h = refl
whole_prefix (b ∷ bytes) h =
    ap (λ (t : Bool). take (cond (not t) (1 + prefix_len (λ c. not (eqb c 35)) bytes) 0) (b ∷ bytes)) h.0
    ∙ step (prefix_len (λ c. not (eqb c 35)) bytes) (whole_prefix bytes h.1)
  where
    step : (n : ℕ) → take n bytes ≡ bytes → take (1 + n) (b ∷ bytes) ≡ b ∷ bytes
    step n e = let next : 1 + n ≡ suc n = omega arith in ap (λ (k : ℕ). take k (b ∷ bytes)) next ∙ ap (λ (bs : List ℕ). b ∷ bs) e

no_comment : (words : List (List ℕ)) → AllByRecursion IsPlain words → without_comment (joined words) ≡ joined words
no_comment words h = whole_prefix (joined words) (joined_without 35 32 refl words (all_without words h).0)

-- no line is joined to the next
inner_byte : (b : ℕ) (ends blanks : Bool) (rest : Option (List ℕ)) → blanks ≡ false → rest ≡ None → cond (ends && blanks) (Some []) (option_map (λ (front : List ℕ). b ∷ front) rest) ≡ None
inner_byte b true blanks rest e f = cc
inner_byte b false blanks rest e f = cc

last_byte : (b : ℕ) (ends blanks : Bool) (rest : Option (List ℕ)) → ends ≡ false → rest ≡ None → cond (ends && blanks) (Some []) (option_map (λ (front : List ℕ). b ∷ front) rest) ≡ None
last_byte b ends blanks rest e f = cc

word_kept : (word rest : List ℕ) → IsPlain word → before_backslash rest ≡ None → before_backslash (word ++ rest) ≡ None
word_kept [] rest h e = e
word_kept (b ∷ []) rest h e = last_byte b (eqb b 92) (list_all is_blank rest) (before_backslash rest) h.1 e
word_kept (b ∷ c ∷ bytes) rest h e =
    inner_byte b (eqb b 92) (list_all is_blank ((c ∷ bytes) ++ rest)) (before_backslash ((c ∷ bytes) ++ rest)) (shows c bytes h.1) (word_kept (c ∷ bytes) rest h.1 e)
  where
    shows : (d : ℕ) (bs : List ℕ) → IsPlain (d ∷ bs) → list_all is_blank (d ∷ (bs ++ rest)) ≡ false
    shows d [] k = ap (λ (t : Bool). t && list_all is_blank rest) k.0.blank
    shows d (x ∷ bs) k = ap (λ (t : Bool). t && list_all is_blank (x ∷ (bs ++ rest))) k.0.blank

after_blank : (bytes : List ℕ) → before_backslash bytes ≡ None → before_backslash (32 ∷ bytes) ≡ None
after_blank bytes e = ap (λ (o : Option (List ℕ)). option_map (λ (front : List ℕ). 32 ∷ front) o) e

no_joint : (words : List (List ℕ)) → AllByRecursion IsPlain words → before_backslash (joined words) ≡ None
no_joint [] h = refl
no_joint (word ∷ []) h = ap before_backslash (sym (append-nil word)) ∙ word_kept word [] h.0 refl
no_joint (word ∷ next ∷ words) h = word_kept word (32 ∷ joined (next ∷ words)) h.0 (after_blank (joined (next ∷ words)) (no_joint (next ∷ words) h.1))

-- the words are found again
word_on : (front word rest : List ℕ) → IsPlain word → words_after front (word ++ rest) ≡ words_after (front ++ word) rest
word_on front [] rest h = elim h [ ]
word_on front (b ∷ []) rest h = ap (λ (t : Bool). cond t (word_before front (words_after [] rest)) (words_after (front ++ b ∷ []) rest)) h.0.blank
word_on front (b ∷ c ∷ bytes) rest h =
    ap (λ (t : Bool). cond t (word_before front (words_after [] ((c ∷ bytes) ++ rest))) (words_after (front ++ b ∷ []) ((c ∷ bytes) ++ rest))) h.0.blank
    ∙ word_on (front ++ b ∷ []) (c ∷ bytes) rest h.1
    ∙ ap (λ (w : List ℕ). words_after w rest) (append_assoc front (b ∷ []) (c ∷ bytes))

has_bytes : (word : List ℕ) (words : List (List ℕ)) → IsPlain word → word_before word words ≡ word ∷ words
has_bytes [] words h = elim h [ ]
has_bytes (b ∷ bytes) words h = refl

found_again : (words : List (List ℕ)) → AllByRecursion IsPlain words → words_after [] (joined words) ≡ words
found_again [] h = refl
found_again (word ∷ []) h = ap (words_after []) (sym (append-nil word)) ∙ word_on [] word [] h.0 ∙ has_bytes word [] h.0
found_again (word ∷ next ∷ words) h =
    word_on [] word (32 ∷ joined (next ∷ words)) h.0 ∙ has_bytes word (words_after [] (joined (next ∷ words))) h.0
    ∙ ap (λ (ws : List (List ℕ)). word ∷ ws) (found_again (next ∷ words) h.1)

words_found : (words : List (List ℕ)) → AllByRecursion IsPlain words → words_of (joined words) ≡ words
words_found words h = sym (words_are (joined words)) ∙ found_again words h

-- a line up to its line feed
one_line : (bytes rest : List ℕ) → IsWithout 10 bytes → lines_of (bytes ++ 10 ∷ rest) ≡ bytes ∷ lines_of rest
one_line [] rest h = refl
one_line (b ∷ bytes) rest h =
    ap (λ (t : Bool). cond t ([] ∷ lines_of (bytes ++ 10 ∷ rest)) (in_front b (lines_of (bytes ++ 10 ∷ rest)))) h.0 ∙ ap (in_front b) (one_line bytes rest h.1)

lines_are : (lines : List (List (List ℕ))) → AllByRecursion (AllByRecursion IsPlain) lines → lines_of (text_of_lines lines) ≡ map joined lines
lines_are [] h = refl
lines_are (words ∷ lines) h =
    ap lines_of (append_assoc (joined words) (10 ∷ []) (text_of_lines lines))
    ∙ one_line (joined words) (text_of_lines lines) (joined_without 10 32 refl words (all_without words h.0).1)
    ∙ ap (λ (rest : List (List ℕ)). joined words ∷ rest) (lines_are lines h.1)

its_words : (number : ℕ) (words : List (List ℕ)) (behind : List Joined) → AllByRecursion IsPlain words
    → flat_map its_line (joined_before number (without_comment (joined words)) (before_backslash (without_comment (joined words))) behind) ≡ line_of number words ++ flat_map its_line behind
its_words number words behind h =
    ap (λ (bytes : List ℕ). flat_map its_line (joined_before number bytes (before_backslash bytes) behind)) (no_comment words h)
    ∙ ap (λ (o : Option (List ℕ)). flat_map its_line (joined_before number (joined words) o behind)) (no_joint words h)
    ∙ ap (λ (ws : List (List ℕ)). line_of number ws ++ flat_map its_line behind) (words_found words h)

from_number : (number : ℕ) (lines : List (List (List ℕ))) → AllByRecursion (AllByRecursion IsPlain) lines → flat_map its_line (joined_from number (map joined lines)) ≡ lines_from number lines
from_number number [] h = refl
from_number number (words ∷ lines) h =
    its_words number words (joined_from (number + 1) (map joined lines)) h.0 ∙ ap (λ (rest : List Line). line_of number words ++ rest) (from_number (number + 1) lines h.1)

words_plain : (words : List (List ℕ)) → list_all is_fine_word words ≡ true → AllByRecursion IsPlain words
words_plain [] h = tt
words_plain (word ∷ words) h = let parts = and_parts (is_fine_word word) (list_all is_fine_word words) h in (plain word parts.0, words_plain words parts.1)

lines_plain : (lines : List (List (List ℕ))) → are_fine lines ≡ true → AllByRecursion (AllByRecursion IsPlain) lines
lines_plain [] h = tt
lines_plain (words ∷ lines) h = let parts = and_parts (list_all is_fine_word words) (are_fine lines) h in (words_plain words parts.0, lines_plain lines parts.1)

-- the lines of a text of fine words are the lines of its words
pub fine_words_are_read : FineWordsAreRead
fine_words_are_read lines fine = let h = lines_plain lines fine in ap (λ (raws : List (List ℕ)). flat_map its_line (joined_from 1 raws)) (lines_are lines h) ∙ from_number 1 lines h

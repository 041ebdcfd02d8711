-- The project's own texts, cut into lines and words again.
use Rattle.std.proofs.Common.{ℕ, ◌≡◌, false, eqb, List, [], ◌∷◌, ◌++◌, map, refl, sym, ap, ◌∙◌, append_assoc}
use Rattle.std.specs.List.{slice_split, join_with_byte, AllByRecursion}
use Rattle.std.proofs.lemmas.List.Splits.{slice_split_none, slice_split_at}
use Rattle.std.proofs.lemmas.List.Elements.{All-from_recursion}
use Rattle.std.proofs.lemmas.Bool.{eq-eqb}
use Rattle.act1_base.specs.Words.{text_of_lines}

-- no byte of the word is this one
abbrev pub IsWithout : ℕ → List ℕ → Type 0
IsWithout mark word = AllByRecursion (λ b. eqb b mark ≡ false) word

-- the words of a line, parted by one space
abbrev pub joined : List (List ℕ) → List ℕ
joined words = join_with_byte 32 words

pub without_append : (mark : ℕ) (xs ys : List ℕ) → IsWithout mark xs → IsWithout mark ys → IsWithout mark (xs ++ ys)
without_append mark [] ys h k = k
without_append mark (x ∷ xs) ys h k = (h.0, without_append mark xs ys h.1 k)

-- words that are joined by a byte that none of them has are found again
pub words_again : (mark : ℕ) (word : List ℕ) (words : List (List ℕ)) → AllByRecursion (IsWithout mark) (word ∷ words)
    → slice_split (λ b. eqb b mark) (join_with_byte mark (word ∷ words)) ≡ word ∷ words
words_again mark word [] h = slice_split_none (λ b. eqb b mark) word (All-from_recursion (λ b. eqb b mark ≡ false) word h.0)
words_again mark word (next ∷ words) h =
    slice_split_at (λ b. eqb b mark) word mark (join_with_byte mark (next ∷ words)) (All-from_recursion (λ b. eqb b mark ≡ false) word h.0) (eq-eqb mark mark refl)
    ∙ ap (λ (ws : List (List ℕ)). word ∷ ws) (words_again mark next words h.1)

-- a byte that no word has, and that doesn't part them, isn't in the words together
pub joined_without : (mark by : ℕ) → eqb by mark ≡ false → (words : List (List ℕ)) → AllByRecursion (IsWithout mark) words → IsWithout mark (join_with_byte by words)
joined_without mark by apart [] h = tt
joined_without mark by apart (word ∷ []) h = h.0
joined_without mark by apart (word ∷ next ∷ words) h =
    without_append mark word (by ∷ join_with_byte by (next ∷ words)) h.0 (apart, joined_without mark by apart (next ∷ words) h.1)

-- a text falls into its lines, with nothing behind the last line feed
pub lines_again : (lines : List (List (List ℕ))) → AllByRecursion (AllByRecursion (IsWithout 10)) lines
    → slice_split (λ b. eqb b 10) (text_of_lines lines) ≡ map joined lines ++ [] ∷ []
lines_again [] h = refl
lines_again (words ∷ lines) h =
    ap (slice_split (λ b. eqb b 10)) (append_assoc (joined words) (10 ∷ []) (text_of_lines lines))
    ∙ slice_split_at (λ b. eqb b 10) (joined words) 10 (text_of_lines lines) (All-from_recursion (λ b. eqb b 10 ≡ false) (joined words) (joined_without 10 32 refl words h.0)) refl
    ∙ ap (λ (rest : List (List ℕ)). joined words ∷ rest) (lines_again lines h.1)

join_more : (mark : ℕ) (word : List ℕ) (words : List (List ℕ)) (last : List ℕ) → join_with_byte mark (word ∷ words ++ last ∷ []) ≡ word ++ mark ∷ join_with_byte mark (words ++ last ∷ [])
join_more mark word [] last = refl
join_more mark word (next ∷ words) last = refl

-- the lines with nothing behind the last line feed make the text again
pub text_again : (lines : List (List (List ℕ))) → join_with_byte 10 (map joined lines ++ [] ∷ []) ≡ text_of_lines lines
text_again [] = refl
text_again (words ∷ lines) =
    join_more 10 (joined words) (map joined lines) []
    ∙ ap (λ (rest : List ℕ). joined words ++ 10 ∷ rest) (text_again lines)
    ∙ sym (append_assoc (joined words) (10 ∷ []) (text_of_lines lines))

-- The text of lines and of words, as it grows number by number.
use Rattle.std.proofs.Common.{ℕ, ◌≡◌, ◌+◌, ◌-◌, ◌≤◌, List, [], ◌∷◌, ◌++◌, map, refl, sym, ap, ◌∙◌, append-nil, append_assoc, arith}
use Rattle.std.specs.List.{flat_map, range_with_len}
use Rattle.std.proofs.lemmas.List.{flat_map_more}
use Rattle.std.proofs.lemmas.List.Concat.{flat_map-append}
use Rattle.std.proofs.lemmas.List.FromFn.{map-range_with_len_more}
use Rattle.act1_base.specs.Words.{text_line, text_of_lines}
use Rattle.act1_base.proofs.TextGrows.{blank_before}
use Rattle.act1_blif.proofs.LineGrows.{line_grows}

more : {Y : Type 0} (g : Y → List ℕ) (f : ℕ → Y) (before : List ℕ) (i : ℕ)
    → (before ++ flat_map g (map f (range_with_len 0 i))) ++ g (f i) ≡ before ++ flat_map g (map f (range_with_len 0 (i + 1)))
more {Y = Y} g f before i =
    let e : 0 + i ≡ i = omega arith in
    flat_map_more g before (map f (range_with_len 0 i)) (f i) ∙ ap (λ (ys : List Y). before ++ flat_map g ys) (sym (map-range_with_len_more f 0 i i e))

-- after the words of the first numbers and that of the next one stand those of one number more
pub words_range : (word : ℕ → List ℕ) (before : List ℕ) (i : ℕ)
    → (before ++ flat_map (λ w. 32 ∷ w) (map word (range_with_len 0 i))) ++ 32 ∷ word i ≡ before ++ flat_map (λ w. 32 ∷ w) (map word (range_with_len 0 (i + 1)))
words_range word before i = more blank_before word before i

-- the same of a line each
pub lines_range : (words : ℕ → List (List ℕ)) (before : List ℕ) (i : ℕ)
    → (before ++ text_of_lines (map words (range_with_len 0 i))) ++ text_line (words i) ≡ before ++ text_of_lines (map words (range_with_len 0 (i + 1)))
lines_range words before i = more text_line words before i

same_map : (xs : List ℕ) → map (λ (x : ℕ). x) xs ≡ xs
same_map [] = refl
same_map (x ∷ xs) = ap (λ (ys : List ℕ). x ∷ ys) (same_map xs)

-- one number more behind a range
range_more : (a n j : ℕ) → a + n ≡ j → range_with_len a (n + 1) ≡ range_with_len a n ++ j ∷ []
range_more a n j e = sym (same_map (range_with_len a (n + 1))) ∙ map-range_with_len_more (λ (x : ℕ). x) a n j e ∙ ap (λ (xs : List ℕ). xs ++ j ∷ []) (same_map (range_with_len a n))

-- the same of some lines each, in a range that begins with a
pub some_lines : (lines : ℕ → List (List (List ℕ))) (before : List ℕ) (a n j : ℕ) → a + n ≡ j
    → (before ++ text_of_lines (flat_map lines (range_with_len a n))) ++ text_of_lines (lines j) ≡ before ++ text_of_lines (flat_map lines (range_with_len a (n + 1)))
some_lines lines before a n j e =
    append_assoc before (text_of_lines (flat_map lines (range_with_len a n))) (text_of_lines (lines j))
    ∙ ap (λ (ys : List ℕ). before ++ ys)
    (sym (flat_map-append text_line (flat_map lines (range_with_len a n)) (lines j))
    ∙ ap (λ (ls : List (List (List ℕ))). text_of_lines ls) (flat_map_more lines [] (range_with_len a n) j ∙ ap (λ (xs : List ℕ). flat_map lines xs) (sym (range_more a n j e))))

pub some_lines_range : (lines : ℕ → List (List (List ℕ))) (before : List ℕ) (i : ℕ)
    → (before ++ text_of_lines (flat_map lines (range_with_len 0 i))) ++ text_of_lines (lines i) ≡ before ++ text_of_lines (flat_map lines (range_with_len 0 (i + 1)))
some_lines_range lines before i = some_lines lines before 0 i i (omega arith)

-- from 1 on
pub later_lines : (lines : ℕ → List (List (List ℕ))) (before : List ℕ) (i : ℕ) → 1 ≤ i
    → (before ++ text_of_lines (flat_map lines (range_with_len 1 (i - 1)))) ++ text_of_lines (lines i) ≡ before ++ text_of_lines (flat_map lines (range_with_len 1 (i + 1 - 1)))
later_lines lines before i low =
    let e : i - 1 + 1 ≡ i + 1 - 1 = omega arith in
    some_lines lines before 1 (i - 1) i (omega arith) ∙ ap (λ (n : ℕ). before ++ text_of_lines (flat_map lines (range_with_len 1 n))) e

last_word : (words : List (List ℕ)) (word : List ℕ) → flat_map (λ w. 32 ∷ w) words ++ 32 ∷ word ≡ flat_map (λ w. 32 ∷ w) (words ++ word ∷ [])
last_word words word = ap (λ (rest : List ℕ). flat_map blank_before words ++ rest) (sym (append-nil (32 ∷ word))) ∙ sym (flat_map-append blank_before words (word ∷ []))

-- a line of a word, others, and a last one
pub last_grows : (before word : List ℕ) (words : List (List ℕ)) (last t1 t2 t3 t4 : List ℕ)
    → t1 ≡ before ++ word → t2 ≡ t1 ++ flat_map (λ w. 32 ∷ w) words → t3 ≡ t2 ++ 32 ∷ last → t4 ≡ t3 ++ 10 ∷ [] → t4 ≡ before ++ text_line (word ∷ words ++ last ∷ [])
last_grows before word words last t1 t2 t3 t4 e1 e2 e3 e4 =
    line_grows before t1 t3 t4 word (words ++ last ∷ []) e1
    (e3 ∙ ap (λ (t : List ℕ). t ++ 32 ∷ last) e2 ∙ append_assoc t1 (flat_map blank_before words) (32 ∷ last) ∙ ap (λ (rest : List ℕ). t1 ++ rest) (last_word words last)) e4

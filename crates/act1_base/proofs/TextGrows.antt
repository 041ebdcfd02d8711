-- The text of lines and of words, as it grows element by element.
use Rattle.std.proofs.Common.{ℕ, ◌≡◌, ◌<◌, ◌+◌, List, [], ◌∷◌, ◌++◌, length, map, take, get_or, append-nil, refl, sym, ap, ◌∙◌, append_assoc}
use Rattle.std.specs.List.{flat_map, join_with_byte}
use Rattle.std.proofs.lemmas.List.{flat_map_more, map_more, take_more}
use Rattle.std.proofs.lemmas.List.Concat.{flat_map-append}
use Rattle.act1_base.specs.Words.{text_line, text_of_lines}

-- a word, with a blank in front of it
abbrev pub blank_before : List ℕ → List ℕ
blank_before word = 32 ∷ word

more : {X Y : Type 0} (g : Y → List ℕ) (f : X → Y) (before : List ℕ) (xs : List X) (i : ℕ) (x : X) → i < length xs → x ≡ get_or xs i x
    → (before ++ flat_map g (map f (take i xs))) ++ g (f x) ≡ before ++ flat_map g (map f (take (i + 1) xs))
more {X = X} {Y = Y} g f before xs i x low is =
    flat_map_more g before (map f (take i xs)) (f x)
    ∙ ap (λ (ys : List Y). before ++ flat_map g ys)
    (ap (λ (y : X). map f (take i xs) ++ f y ∷ []) is ∙ sym (map_more f xs i x low))

-- after the lines of the first elements and the line of the next one stand the lines of one more element
pub text_more : {X : Type 0} (words : X → List (List ℕ)) (before : List ℕ) (xs : List X) (i : ℕ) (x : X) → i < length xs → x ≡ get_or xs i x
    → (before ++ text_of_lines (map words (take i xs))) ++ text_line (words x) ≡ before ++ text_of_lines (map words (take (i + 1) xs))
text_more words before xs i x low is = more text_line words before xs i x low is

-- the same of words with a blank before each
pub words_more : {X : Type 0} (word : X → List ℕ) (before : List ℕ) (xs : List X) (i : ℕ) (x : X) → i < length xs → x ≡ get_or xs i x
    → (before ++ flat_map (λ w. 32 ∷ w) (map word (take i xs))) ++ 32 ∷ word x ≡ before ++ flat_map (λ w. 32 ∷ w) (map word (take (i + 1) xs))
words_more word before xs i x low is = more blank_before word before xs i x low is

pub names_more : (before : List ℕ) (xs : List (List ℕ)) (i : ℕ) (x : List ℕ) → i < length xs → x ≡ get_or xs i x
    → (before ++ flat_map (λ w. 32 ∷ w) (take i xs)) ++ 32 ∷ x ≡ before ++ flat_map (λ w. 32 ∷ w) (take (i + 1) xs)
names_more before xs i x low is =
    flat_map_more blank_before before (take i xs) x
    ∙ ap (λ (ys : List (List ℕ)). before ++ flat_map blank_before ys)
    (ap (λ (y : List ℕ). take i xs ++ y ∷ []) is ∙ sym (take_more xs i x low))

pub bytes_more : {X : Type 0} (byte : X → ℕ) (before : List ℕ) (xs : List X) (i : ℕ) (x : X) → i < length xs → x ≡ get_or xs i x
    → (before ++ map byte (take i xs)) ++ byte x ∷ [] ≡ before ++ map byte (take (i + 1) xs)
bytes_more {X = X} byte before xs i x low is =
    append_assoc before (map byte (take i xs)) (byte x ∷ [])
    ∙ ap (λ (ys : List ℕ). before ++ ys) (ap (λ (y : X). map byte (take i xs) ++ byte y ∷ []) is ∙ sym (map_more byte xs i x low))

pub lines_more : {X : Type 0} (lines : X → List (List (List ℕ))) (before : List ℕ) (xs : List X) (i : ℕ) (x : X) → i < length xs → x ≡ get_or xs i x
    → (before ++ text_of_lines (flat_map lines (take i xs))) ++ text_of_lines (lines x) ≡ before ++ text_of_lines (flat_map lines (take (i + 1) xs))
lines_more {X = X} lines before xs i x low is =
    append_assoc before (text_of_lines (flat_map lines (take i xs))) (text_of_lines (lines x))
    ∙ ap (λ (ys : List ℕ). before ++ ys)
    (sym (flat_map-append text_line (flat_map lines (take i xs)) (lines x))
    ∙ ap (λ (ls : List (List (List ℕ))). text_of_lines ls) (flat_map_more lines [] (take i xs) x ∙ ap (λ (ys : List X). flat_map lines ys) (ap (λ (y : X). take i xs ++ y ∷ []) is ∙ sym (take_more xs i x low))))

-- the words of a line, each but the first after its blank
pub joined_is : (word : List ℕ) (words : List (List ℕ)) → join_with_byte 32 (word ∷ words) ≡ word ++ flat_map (λ w. 32 ∷ w) words
joined_is word [] = sym (append-nil word)
joined_is word (next ∷ words) = ap (λ (rest : List ℕ). word ++ 32 ∷ rest) (joined_is next words)

pub line_is : (before word : List ℕ) (words : List (List ℕ)) → ((before ++ word) ++ flat_map (λ w. 32 ∷ w) words) ++ 10 ∷ [] ≡ before ++ text_line (word ∷ words)
line_is before word words = rw joined_is (simp append_assoc refl)

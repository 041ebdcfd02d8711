-- The words of a line, found byte after byte.
use Rattle.std.proofs.Common.{◌≡◌, ℕ, Bool, true, false, ◌+◌, ◌-◌, ◌<◌, ◌≤◌, if◌then◌else◌, List, [], ◌∷◌, ◌++◌, length, get_or, drop, take, filter, refl, sym, ap, ◌∙◌, arith, append_assoc, length-drop, slice_range}
use Rattle.std.specs.List.{slice_split, onto_first}
use Rattle.std.proofs.lemmas.List.{append-nil, drop_more, drop_all, take_more, take_all, get_or-drop}
use Rattle.act1_bliftext.specs.Lines.{is_blank, has_byte, words_of, word_before}

-- the words, behind the front of a word
abbrev pub words_after : List ℕ → List ℕ → List (List ℕ)
words_after w [] = word_before w []
words_after w (b ∷ bs) = if is_blank b then word_before w (words_after [] bs) else words_after (w ++ b ∷ []) bs

word_first : (w : List ℕ) (rest : List (List ℕ)) → word_before w [] ++ rest ≡ word_before w rest
word_first [] rest = refl
word_first (b ∷ w) rest = refl

blank_turn : (line w : List ℕ) (i : ℕ) → i < length line → is_blank (get_or line i 0) ≡ true
    → word_before w [] ++ words_after [] (drop (i + 1) line) ≡ words_after w (drop i line)
blank_turn line w i low blank = word_first w _ ∙ rw (drop_more line i 0 low, blank) refl

grown : (line : List ℕ) (start i : ℕ) → start ≤ i → i < length line → slice_range line start (i + 1) ≡ slice_range line start i ++ get_or line i 0 ∷ []
grown line start i order low =
    let k = i - start in
    let next : i + 1 - start ≡ k + 1 = omega arith in
    let back : start + k ≡ i = omega arith in
    let room : k < length (drop start line) = simp length-drop (omega arith) in
    rw next (take_more (drop start line) k 0 room ∙ ap (λ b. take k (drop start line) ++ b ∷ []) (get_or-drop start line k 0 ∙ ap (λ n. get_or line n 0) back))

-- a turn at a byte of a word
pub other_step : (line : List ℕ) (start i : ℕ) (old all : List (List ℕ)) → start ≤ i → i < length line → is_blank (get_or line i 0) ≡ false
    → old ++ words_after (slice_range line start i) (drop i line) ≡ all
    → old ++ words_after (slice_range line start (i + 1)) (drop (i + 1) line) ≡ all
other_step line start i old all order low other h =
    let turn : words_after (slice_range line start i) (drop i line) ≡ words_after (slice_range line start (i + 1)) (drop (i + 1) line) =
    rw (drop_more line i 0 low, other, grown line start i order low) refl in
    rw (← turn) h

-- a turn at a blank
pub blank_step : (line : List ℕ) (start i : ℕ) (old new all : List (List ℕ)) → i < length line → is_blank (get_or line i 0) ≡ true
    → new ≡ old ++ word_before (slice_range line start i) [] → old ++ words_after (slice_range line start i) (drop i line) ≡ all
    → new ++ words_after (slice_range line (i + 1) (i + 1)) (drop (i + 1) line) ≡ all
blank_step line start i old new all low blank is h =
    let none : i + 1 - (i + 1) ≡ 0 = omega arith in
    rw (none, is, append_assoc) (ap (λ rest. old ++ rest) (blank_turn line (slice_range line start i) i low blank) ∙ h)

-- the front of a word before the first part
front_on : List ℕ → List (List ℕ) → List (List ℕ)
front_on w [] = w ∷ []
front_on w (part ∷ parts) = (w ++ part) ∷ parts

kept_first : (w : List ℕ) (parts : List (List ℕ)) → word_before w (filter has_byte parts) ≡ filter has_byte (w ∷ parts)
kept_first [] parts = refl
kept_first (b ∷ w) parts = refl

kept_front : (parts : List (List ℕ)) → filter has_byte (front_on [] parts) ≡ filter has_byte parts
unfolding front_on
kept_front [] = refl
kept_front (part ∷ parts) = refl

longer_front : (w : List ℕ) (b : ℕ) (parts : List (List ℕ)) → front_on (w ++ b ∷ []) parts ≡ front_on w (onto_first b parts)
unfolding front_on
longer_front w b [] = refl
longer_front w b (part ∷ parts) = rw append_assoc refl

split_at_blank : (w : List ℕ) (b : ℕ) (bs : List ℕ) → ((v : List ℕ) → words_after v bs ≡ filter has_byte (front_on v (slice_split is_blank bs)))
    → (blank : Bool) → is_blank b ≡ blank → words_after w (b ∷ bs) ≡ filter has_byte (front_on w (slice_split is_blank (b ∷ bs)))
unfolding front_on
split_at_blank w b bs rest true is =
    rw (is, append-nil, rest []) (ap (word_before w) (kept_front (slice_split is_blank bs)) ∙ kept_first w (slice_split is_blank bs))
split_at_blank w b bs rest false is =
    rw is (rest (w ++ b ∷ []) ∙ ap (filter has_byte) (longer_front w b (slice_split is_blank bs)))

split_words : (w bs : List ℕ) → words_after w bs ≡ filter has_byte (front_on w (slice_split is_blank bs))
unfolding front_on
split_words w [] = rw append-nil (kept_first w [])
split_words w (b ∷ bs) = split_at_blank w b bs (λ v. split_words v bs) (is_blank b) refl

-- words found byte after byte are the words of the line
pub words_are : (bs : List ℕ) → words_after [] bs ≡ words_of bs
words_are bs = split_words [] bs ∙ kept_front (slice_split is_blank bs)

-- behind the last byte
pub last_word : (line : List ℕ) (start i : ℕ) (old new first : List (List ℕ)) → start ≤ i → length line ≤ i → new ≡ old ++ word_before (slice_range line start (length line)) []
    → old ++ words_after (slice_range line start i) (drop i line) ≡ first ++ words_after [] line → new ≡ first ++ words_of line
last_word line start i old new first order past is h =
    let long : length (drop start line) ≤ i - start = simp length-drop (omega arith) in
    let full : length (drop start line) ≤ length line - start = simp length-drop (omega arith) in
    let whole : slice_range line start i ≡ slice_range line start (length line) = take_all (i - start) (drop start line) long ∙ sym (take_all (length line - start) (drop start line) full) in
    let none : drop i line ≡ [] = drop_all i line past in
    is ∙ rw (whole, none, words_are line) at h

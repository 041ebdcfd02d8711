-- The first word of a line, and the words behind it.
use Rattle.std.proofs.Common.{ℕ, ◌≡◌, ◌+◌, ◌==◌, false, List, [], ◌∷◌, length, take, drop, count_by, Some, None, refl, arith}
use Rattle.std.specs.List.{position, position_or_len, All}
use Rattle.std.proofs.lemmas.List.Splits.{length-slice_split, slice_split_first, slice_split_none}
use Rattle.std.proofs.lemmas.List.Sums.{fails_before_first}
use Rattle.act1_base.specs.Words.{words_of}
use Rattle.act1_base.proofs.LineCuts.{found, found_within, not_found}

abbrev space_of : List ℕ → ℕ
space_of bytes = position_or_len (λ b. b == 32) bytes

-- the first word goes to the first space
pub cut_word : (n : ℕ) (bytes : List ℕ) → Some n ≡ position (λ b. b == 32) bytes → words_of bytes ≡ take n bytes ∷ words_of (drop (n + 1) bytes)
cut_word n bytes h =
    rw (found (space_of bytes) n bytes _ h) (slice_split_first (λ b. b == 32) bytes 0 (found_within (space_of bytes) (length bytes) n _ refl h))

-- with no space the bytes are one word
pub last_word : (bytes : List ℕ) → None ≡ position (λ b. b == 32) bytes → words_of bytes ≡ bytes ∷ []
last_word bytes h =
    let past = not_found (space_of bytes) (length bytes) _ refl h in
    let none : All (λ b. (b == 32) ≡ false) bytes = λ k d within. fails_before_first (λ b. b == 32) bytes k d (omega arith) in
    slice_split_none (λ b. b == 32) bytes none

-- there is a word more than there are spaces
pub words_by_spaces : (spaces : ℕ) (bytes : List ℕ) → spaces ≡ count_by (λ b. b == 32) bytes → spaces + 1 ≡ length (words_of bytes)
words_by_spaces spaces bytes h = let parts = length-slice_split (λ b. b == 32) bytes in omega arith

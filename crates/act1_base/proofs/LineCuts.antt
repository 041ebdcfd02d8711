-- The first line of a text, and the lines behind it.
use Rattle.std.proofs.Common.{ℕ, suc, ◌≡◌, ◌+◌, ◌<◌, ◌≤◌, ◌==◌, nat_lt, Bool, true, false, cond, List, [], ◌∷◌, length, take, drop, Option, Some, None, refl, ap, ◌∙◌, arith}
use Rattle.std.specs.List.{position, position_or_len}
use Rattle.std.proofs.lemmas.Bool.Decides.{nat_tests}
use Rattle.std.proofs.lemmas.List.{take_all, drop_all}
use Rattle.act1_base.specs.Lines.{lines_of, in_front}

take_next : (n b : ℕ) (bytes : List ℕ) → take (1 + n) (b ∷ bytes) ≡ b ∷ take n bytes
take_next n b bytes = let next : 1 + n ≡ suc n = omega arith in rw next refl

drop_next : (n b : ℕ) (bytes : List ℕ) → drop (1 + n + 1) (b ∷ bytes) ≡ drop (n + 1) bytes
drop_next n b bytes = let next : 1 + n + 1 ≡ suc (n + 1) = omega arith in rw next refl

abbrev pub end_of : List ℕ → ℕ
end_of bytes = position_or_len (λ b. b == 10) bytes

-- the lines where the first one goes to n
abbrev cut_at : ℕ → List ℕ → List (List ℕ)
cut_at n bytes = take n bytes ∷ lines_of (drop (n + 1) bytes)

-- a byte before a first line
longer : (n b : ℕ) (bytes : List ℕ) → in_front b (cut_at n bytes) ≡ cut_at (1 + n) (b ∷ bytes)
longer n b bytes = rw (take_next n b bytes, drop_next n b bytes) refl

by_feed : (b : ℕ) (bytes : List ℕ) → in_front b (lines_of bytes) ≡ in_front b (cut_at (end_of bytes) bytes) → (feed : Bool) → (b == 10) ≡ feed → lines_of (b ∷ bytes) ≡ cut_at (end_of (b ∷ bytes)) (b ∷ bytes)
by_feed b bytes rest true e = rw e refl
by_feed b bytes rest false e = rw e (rest ∙ longer (end_of bytes) b bytes)

behind : (b : ℕ) (bytes : List ℕ) → in_front b (lines_of bytes) ≡ in_front b (cut_at (end_of bytes) bytes)
behind b [] = refl
behind b (c ∷ bytes) = ap (in_front b) (by_feed c bytes (behind c bytes) (c == 10) refl)

-- the first line goes to its line feed or to the end, and the others begin behind it
pub first_line : (b : ℕ) (bytes : List ℕ) → lines_of (b ∷ bytes) ≡ cut_at (end_of (b ∷ bytes)) (b ∷ bytes)
first_line b bytes = by_feed b bytes (behind b bytes) (b == 10) refl

abbrev pub first_feed : List ℕ → Option ℕ
first_feed bytes = position (λ b. b == 10) bytes

-- what a found place says
pub found : (e n : ℕ) (bytes : List ℕ) (test : Bool) → Some n ≡ cond test (Some e) None → n ≡ e
found e n bytes true h = cc
found e n bytes false h = cc

-- the first line goes to a line feed that was found
pub at_feed : (n : ℕ) (bytes : List ℕ) → Some n ≡ first_feed bytes → lines_of bytes ≡ cut_at n bytes
at_feed n [] h = cc
at_feed n (b ∷ bytes) h = rw (found _ n bytes _ h) (first_line b bytes)

pub found_within : (e m n : ℕ) (test : Bool) → nat_lt e m ≡ test → Some n ≡ cond test (Some e) None → e < m
found_within e m n true is h = grind (arith, nat_tests)
found_within e m n false is h = cc

pub not_found : (e m : ℕ) (test : Bool) → nat_lt e m ≡ test → None ≡ cond test (Some e) None → m ≤ e
not_found e m true is h = cc
not_found e m false is h = grind (arith, nat_tests)

-- with no line feed the bytes are one line
pub no_feed : (bytes : List ℕ) → 0 < length bytes → None ≡ first_feed bytes → lines_of bytes ≡ bytes ∷ []
no_feed [] some h = absurd (omega arith)
no_feed (b ∷ bytes) some h =
    let past : length (b ∷ bytes) ≤ end_of (b ∷ bytes) = not_found (end_of (b ∷ bytes)) (length (b ∷ bytes)) _ refl h in
    let whole = take_all (end_of (b ∷ bytes)) (b ∷ bytes) past in
    let none = drop_all (end_of (b ∷ bytes) + 1) (b ∷ bytes) (omega arith) in
    first_line b bytes ∙ rw (whole, none) refl

-- one line fewer is left
pub fewer : (before line rest : List ℕ) → lines_of before ≡ line ∷ lines_of rest → length (lines_of rest) < length (lines_of before)
fewer before line rest h = rw h (omega arith)

-- Worked examples of names, lines, words, numbers and lists that rise.
use Rattle.std.proofs.Common.{ℕ, ◌≡◌, true, false, [], ◌∷◌, refl, arith}
use Rattle.std.specs.Prelude.{codes, replicate, Ok}
use Rattle.std.specs.Fmt.{digits}
use Rattle.std.proofs.Common.{inl, inr}
use Rattle.act1_base.specs.Names.{is_name, are_different, are_different_numbers}
use Rattle.act1_base.specs.Rising.{is_rising, is_before}
use Rattle.act1_base.specs.Lines.{lines_of}
use Rattle.act1_base.specs.Words.{text_of_lines}
use Rattle.act1_base.specs.Number.{SpellsUpTo}
use Rattle.act1_base.specs.Joined.{Joined}

-- names
name_of_one_byte : is_name (codes "!") ≡ true
name_of_one_byte = refl

name_of_last_byte : is_name (codes "~") ≡ true
name_of_last_byte = refl

no_name : is_name [] ≡ false
no_name = refl

name_with_hash : is_name (codes "a#b") ≡ false
name_with_hash = refl

name_with_space : is_name (codes "a b") ≡ false
name_with_space = refl

name_with_delete : is_name (97 ∷ 127 ∷ []) ≡ false
name_with_delete = refl

name_with_backslash_inside : is_name (97 ∷ 92 ∷ 98 ∷ []) ≡ true
name_with_backslash_inside = refl

name_with_backslash_last : is_name (97 ∷ 98 ∷ 92 ∷ []) ≡ false
name_with_backslash_last = refl

name_of_backslash : is_name (92 ∷ []) ≡ false
name_of_backslash = refl

name_of_1024 : is_name (replicate 1024 97) ≡ true
name_of_1024 = refl

name_of_1025 : is_name (replicate 1025 97) ≡ false
name_of_1025 = refl

differ : are_different (codes "a" ∷ codes "b" ∷ codes "ab" ∷ []) ≡ true
differ = refl

differ_not : are_different (codes "b" ∷ codes "a" ∷ codes "ab" ∷ codes "a" ∷ []) ≡ false
differ_not = refl

differ_adjacent : are_different (codes "c" ∷ codes "ab" ∷ codes "ab" ∷ []) ≡ false
differ_adjacent = refl

numbers_differ : are_different_numbers (3 ∷ 1 ∷ 2 ∷ []) ≡ true
numbers_differ = refl

numbers_differ_not : are_different_numbers (3 ∷ 1 ∷ 2 ∷ 1 ∷ []) ≡ false
numbers_differ_not = refl

-- lists that rise
rise : is_rising (0 ∷ 1 ∷ 5 ∷ []) ≡ true
rise = refl

rise_not : is_rising (0 ∷ 5 ∷ 5 ∷ []) ≡ false
rise_not = refl

before_front : is_before (1 ∷ 2 ∷ []) (1 ∷ 2 ∷ 0 ∷ []) ≡ true
before_front = refl

before_not_itself : is_before (1 ∷ 2 ∷ []) (1 ∷ 2 ∷ []) ≡ false
before_not_itself = refl

before_first_place : is_before (1 ∷ 9 ∷ []) (2 ∷ 0 ∷ []) ≡ true
before_first_place = refl

before_not : is_before (2 ∷ 0 ∷ []) (1 ∷ 9 ∷ []) ≡ false
before_not = refl

-- lines
lines_with_feed : lines_of (codes "ab\n\nc\n") ≡ codes "ab" ∷ [] ∷ codes "c" ∷ []
lines_with_feed = refl

lines_without_feed : lines_of (codes "ab\nc") ≡ codes "ab" ∷ codes "c" ∷ []
lines_without_feed = refl

lines_of_nothing : lines_of [] ≡ []
lines_of_nothing = refl

lines_of_feed : lines_of (codes "\n") ≡ [] ∷ []
lines_of_feed = refl

text_of_two : text_of_lines ((codes "a" ∷ codes "bc" ∷ []) ∷ (codes "d" ∷ []) ∷ []) ≡ codes "a bc\nd\n"
text_of_two = refl

-- numbers
zero_spelled : SpellsUpTo 9 (codes "0") (Ok 0)
unfolding digits
zero_spelled = (refl, omega arith)

greatest_spelled : SpellsUpTo 18446744073709551615 (codes "18446744073709551615") (Ok 18446744073709551615)
unfolding digits
greatest_spelled = (refl, omega arith)

-- paths
path_of_two : Joined {V = ℕ} ((1, 2) ∷ (3, 2) ∷ (7, 8) ∷ []) 1 3
path_of_two = record { path = 2 ∷ 3 ∷ []; leads = (inl (0, omega arith, refl), (inr (1, omega arith, refl), refl)) }

no_step : Joined {V = ℕ} [] 5 5
no_step = record { path = []; leads = refl }

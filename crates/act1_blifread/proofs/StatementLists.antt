-- What the statements up to a place have, and what the next one adds.
use Rattle.std.proofs.Common.{ℕ, suc, zero, ◌≡◌, ◌<◌, ◌+◌, true, List, [], ◌∷◌, ◌++◌, length, take, drop, get_or, Option, Some, None, refl, sym, ap, ◌∙◌, arith, add-one, drop-cons}
use Rattle.std.specs.Prelude.{slice_get}
use Rattle.std.specs.List.{cons_option, filter_map}
use Rattle.std.specs.Option.{option_to_list}
use Rattle.std.proofs.lemmas.List.Elements.{filter_map-append}
use Rattle.std.proofs.lemmas.List.{take_more}
use Rattle.std.proofs.lemmas.Grind.{flat_map-append}
use Rattle.act1_bliftext.specs.Rules.{is_statement}
use Rattle.act1_bliftext.specs.declared.statement.NumberedStatement.{NumberedStatement}
use Rattle.act1_bliftext.specs.declared.statement.Statement.{Statement}
use Rattle.act1_blifread.specs.Parts.{all_of, clock_names, clock_of}
use Rattle.act1_blifread.specs.NetlistSteps.{are_within}
use Rattle.act1_blifread.proofs.NumberLists.{both_true}

append_none : {X : Type 0} (xs : List X) → xs ++ [] ≡ xs
append_none [] = refl
append_none {X} (x ∷ xs) = ap (λ (ys : List X). x ∷ ys) (append_none xs)

-- what is left at a place begins with what stands there
pub drop_read : {X : Type 0} (xs : List X) (i : ℕ) (x : X) → i < length xs → x ≡ get_or xs i x → drop i xs ≡ x ∷ drop (i + 1) xs
drop_read {X} xs i x low is = rw add-one (drop-cons xs i x low ∙ ap (λ (y : X). y ∷ drop (suc i) xs) (sym is))

-- what was taken, with what stands at the place
pub take_read : {X : Type 0} (xs : List X) (i : ℕ) (x : X) → i < length xs → x ≡ get_or xs i x → take (i + 1) xs ≡ take i xs ++ x ∷ []
take_read {X} xs i x low is = take_more xs i x low ∙ ap (λ (y : X). take i xs ++ y ∷ []) (sym is)

-- what the next statement adds
pub all_of_more : (names : Statement → List ℕ) (ss : List NumberedStatement) (i : ℕ) (x : NumberedStatement) → i < length ss → x ≡ get_or ss i x → all_of names (take (i + 1) ss) ≡ all_of names (take i ss) ++ names x.statement
all_of_more names ss i x low is =
    ap (all_of names) (take_read ss i x low is) ∙ flat_map-append (λ (n : NumberedStatement). names n.statement) (take i ss) (x ∷ []) ∙ ap (λ ys. all_of names (take i ss) ++ ys) (append_none (names x.statement))

-- each statement has its numbers within the count
pub statement_within : (count : ℕ) (ss : List NumberedStatement) (i : ℕ) (x : NumberedStatement) → i < length ss → x ≡ get_or ss i x → are_within count ss ≡ true → is_statement count x.statement ≡ true
statement_within count [] i x low is within = absurd (omega arith)
statement_within count (s ∷ ss) zero x low is within = rw is (both_true (is_statement count s.statement) (are_within count ss) within).0
statement_within count (s ∷ ss) (suc i) x low is within = statement_within count ss i x (omega arith) is (both_true (is_statement count s.statement) (are_within count ss) within).1

first_of_front : (xs ys : List ℕ) (c : ℕ) → slice_get xs 0 ≡ Some c → slice_get (xs ++ ys) 0 ≡ Some c
first_of_front [] ys c e = cc
first_of_front (x ∷ xs) ys c e = e

first_behind : (xs ys : List ℕ) → slice_get xs 0 ≡ None → slice_get (xs ++ ys) 0 ≡ slice_get ys 0
first_behind [] ys e = refl
first_behind (x ∷ xs) ys e = cc

-- the clock is that of the first statement that brings one
pub clock_here : (ss : List NumberedStatement) (i : ℕ) (x : NumberedStatement) (c : ℕ) → i < length ss → x ≡ get_or ss i x → slice_get (clock_names x.statement) 0 ≡ Some c → clock_of (drop i ss) ≡ Some c
clock_here ss i x c low is e = ap clock_of (drop_read ss i x low is) ∙ first_of_front (clock_names x.statement) (all_of clock_names (drop (i + 1) ss)) c e

pub clock_later : (ss : List NumberedStatement) (i : ℕ) (x : NumberedStatement) → i < length ss → x ≡ get_or ss i x → slice_get (clock_names x.statement) 0 ≡ None → clock_of (drop i ss) ≡ clock_of (drop (i + 1) ss)
clock_later ss i x low is e = ap clock_of (drop_read ss i x low is) ∙ first_behind (clock_names x.statement) (all_of clock_names (drop (i + 1) ss)) e

-- what stands at a place, whatever stands past the end
pub read_or : {X : Type 0} (xs : List X) (i : ℕ) (x d : X) → i < length xs → x ≡ get_or xs i x → get_or xs i d ≡ x
read_or [] i x d low is = absurd (omega arith)
read_or (y ∷ xs) zero x d low is = sym is
read_or (y ∷ xs) (suc i) x d low is = read_or xs i x d (omega arith) is

-- what the next element adds
pub filter_map_read : {X Y : Type 0} (h : X → Option Y) (xs : List X) (i : ℕ) (x : X) → i < length xs → x ≡ get_or xs i x → filter_map h (take (i + 1) xs) ≡ filter_map h (take i xs) ++ option_to_list (h x)
filter_map_read {X} {Y} h xs i x low is = ap (filter_map h) (take_read xs i x low is) ∙ filter_map-append h (take i xs) (x ∷ []) ∙ ap (λ (ys : List Y). filter_map h (take i xs) ++ ys) (one (h x))
  where
    one : (o : Option Y) → cons_option o [] ≡ option_to_list o
    one None = refl
    one (Some y) = refl

-- the same where the element is read with another in its place past the end
pub filter_map_at : {X Y : Type 0} (h : X → Option Y) (xs : List X) (i : ℕ) (d : X) → i < length xs → filter_map h (take (i + 1) xs) ≡ filter_map h (take i xs) ++ option_to_list (h (get_or xs i d))
filter_map_at {X} {Y} h xs i d low = filter_map_read h xs i (get_or xs i d) low (sym (read_or xs i (get_or xs i d) (get_or xs i d) low (same xs i low)))
  where
    same : (xs : List X) (i : ℕ) → i < length xs → get_or xs i d ≡ get_or xs i (get_or xs i d)
    same [] i low = absurd (omega arith)
    same (y ∷ ys) zero low = refl
    same (y ∷ ys) (suc i) low = same ys i (omega arith)

-- the same where the element is added
pub filter_map_push : {X Y : Type 0} (h : X → Option Y) (xs : List X) (x : X) → filter_map h (xs ++ x ∷ []) ≡ filter_map h xs ++ option_to_list (h x)
filter_map_push {X} {Y} h xs x = filter_map-append h xs (x ∷ []) ∙ ap (λ (ys : List Y). filter_map h xs ++ ys) (one (h x))
  where
    one : (o : Option Y) → cons_option o [] ≡ option_to_list o
    one None = refl
    one (Some y) = refl

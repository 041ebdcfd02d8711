-- The end of a line, where a backslash joins it to the next.
use Rattle.std.proofs.Common.{ℕ, ◌≡◌, ◌≤◌, ◌==◌, ◌&&◌, nat_lt, Bool, true, false, cond, List, [], ◌∷◌, ◌++◌, length, take, Option, Some, None, refl, sym, ap, ◌∙◌, arith, ne_eqb}
use Rattle.std.specs.List.{list_all, position, position_or_len, before_first}
use Rattle.std.proofs.lemmas.Bool.Decides.{nat_tests}
use Rattle.std.proofs.lemmas.List.{take_all}
use Rattle.act1_bliftext.specs.Lines.{is_blank, before_backslash}

pub and_false : (b : Bool) → (b && false) ≡ false
and_false true = refl
and_false false = refl

pub and_true : (b : Bool) → (b && true) ≡ b
and_true true = refl
and_true false = refl

-- a byte that isn't a blank stands last
shown_last : (xs : List ℕ) (c : ℕ) → is_blank c ≡ false → list_all is_blank (xs ++ c ∷ []) ≡ false
shown_last [] c h = rw h refl
shown_last (x ∷ xs) c h = rw (shown_last xs c h) (and_false (is_blank x))

-- a blank stands last
blank_last : (xs : List ℕ) (c : ℕ) → is_blank c ≡ true → list_all is_blank (xs ++ c ∷ []) ≡ list_all is_blank xs
blank_last [] c h = rw h refl
blank_last (x ∷ xs) c h = rw (blank_last xs c h) refl

-- behind a backslash at the end nothing stands
pub at_backslash : (xs : List ℕ) → before_backslash (xs ++ 92 ∷ []) ≡ Some xs
at_backslash [] = refl
at_backslash (x ∷ xs) = rw (shown_last xs 92 refl, and_false (x == 92), at_backslash xs) refl

-- another byte that shows
pub at_other : (xs : List ℕ) (c : ℕ) → (c == 92) ≡ false → is_blank c ≡ false → before_backslash (xs ++ c ∷ []) ≡ None
at_other [] c other shown = rw other refl
at_other (x ∷ xs) c other shown = rw (shown_last xs c shown, and_false (x == 92), at_other xs c other shown) refl

-- a blank at the end changes nothing
pub at_blank : (xs : List ℕ) (c : ℕ) → (c == 92) ≡ false → is_blank c ≡ true → before_backslash (xs ++ c ∷ []) ≡ before_backslash xs
at_blank [] c other blank = rw other refl
at_blank (x ∷ xs) c other blank = rw (blank_last xs c blank, at_blank xs c other blank) refl

found : (e n : ℕ) (test : Bool) → Some n ≡ cond test (Some e) None → n ≡ e
found e n true h = cc
found e n false h = cc

not_found : (e m : ℕ) (test : Bool) → nat_lt e m ≡ test → None ≡ cond test (Some e) None → m ≤ e
not_found e m true is h = cc
not_found e m false is h = grind (arith, nat_tests)

-- the bytes before a place that was found
pub before_found : (p : ℕ → Bool) (n : ℕ) (xs : List ℕ) → Some n ≡ position p xs → take n xs ≡ before_first p xs
before_found p n xs h = rw (found (position_or_len p xs) n (nat_lt (position_or_len p xs) (length xs)) h) refl

-- all bytes where no place was found
pub before_none : (p : ℕ → Bool) (xs : List ℕ) → None ≡ position p xs → xs ≡ before_first p xs
before_none p xs h = sym (take_all (position_or_len p xs) xs (not_found (position_or_len p xs) (length xs) _ refl h))

pub front_at : (front before : List ℕ) (last : ℕ) (whole : Option (List ℕ)) → front ≡ before ++ last ∷ [] → last ≡ 92 → before_backslash front ≡ whole → Some before ≡ whole
front_at front before last whole split is h = sym (at_backslash before) ∙ ap (λ (c : ℕ). before_backslash (before ++ c ∷ [])) (sym is) ∙ ap before_backslash (sym split) ∙ h

pub front_shown : (front before : List ℕ) (last : ℕ) (whole : Option (List ℕ)) (blank : Bool) → front ≡ before ++ last ∷ [] → (last ≡ 92 → ⊥) → blank ≡ is_blank last → blank ≡ false
    → before_backslash front ≡ whole → None ≡ whole
front_shown front before last whole blank split other is shown h =
    sym (at_other before last (ne_eqb last 92 other) (sym is ∙ shown)) ∙ ap before_backslash (sym split) ∙ h

pub front_blank : (front before : List ℕ) (last : ℕ) (whole : Option (List ℕ)) (blank : Bool) → front ≡ before ++ last ∷ [] → (last ≡ 92 → ⊥) → blank ≡ is_blank last → blank ≡ true
    → before_backslash front ≡ whole → before_backslash before ≡ whole
front_blank front before last whole blank split other is holds h =
    sym (at_blank before last (ne_eqb last 92 other) (sym is ∙ holds)) ∙ ap before_backslash (sym split) ∙ h

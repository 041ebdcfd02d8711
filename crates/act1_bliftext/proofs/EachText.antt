-- Each text has statements or a fault of a line.
use Rattle.std.proofs.Common.{ℕ, ◌≡◌, ◌+◌, ◌<◌, ◌≤◌, ◌^◌, ◌⊎◌, inl, inr, List, [], ◌∷◌, ◌++◌, length, reverse, Option, Some, None, refl, sym, ap, subst, ◌∙◌, arith}
use Rattle.std.proofs.lemmas.List.Sums.{sum_by-cons}
use Rattle.act1_base.specs.Lines.{lines_of}
use Rattle.act1_bliftext.specs.Lines.{Line, text_lines, line_of, words_of, without_comment, before_backslash, over}
use Rattle.act1_bliftext.specs.Faults.{first_fault, names_above, LineBad}
use Rattle.act1_bliftext.specs.Statements.{Say, StatementsOf, model_of}
use Rattle.act1_bliftext.specs.PlaceSteps.{Faultless, ahead, joined_words}
use Rattle.act1_bliftext.specs.Laws.{OneOfTwo}
use Rattle.act1_bliftext.specs.declared.fault.BlifFault.{BlifFault}
use Rattle.act1_bliftext.specs.declared.statements.Statements.{Statements}
use Rattle.act1_bliftext.proofs.Bounds.{bytes_in, weight, add_weight, lines_weight, more_bytes, code_fits, front_fits}
use Rattle.act1_bliftext.proofs.PlaceLemmas.{ahead_all, from_last}
use Rattle.act1_bliftext.proofs.SomeReading.{first_bytes, reached, some_said}
use Rattle.act1_bliftext.proofs.Valid.{says_valid}
use Rattle.act1_bliftext.proofs.WholeLines.{still_faultless}

over_bytes : (lines above : List Line) → first_bytes (over lines above) ≡ first_bytes lines + first_bytes above
over_bytes [] above = omega arith
over_bytes (line ∷ lines) above = let rest = over_bytes lines (line ∷ above) in omega (arith, rest)

both_bytes : (lines more : List Line) → first_bytes (lines ++ more) ≡ first_bytes lines + first_bytes more
both_bytes [] more = omega arith
both_bytes (line ∷ lines) more = let rest = both_bytes lines more in omega (arith, rest)

line_bytes : (number : ℕ) (words : List (List ℕ)) → first_bytes (line_of number words) ≤ bytes_in words
line_bytes number [] = omega arith
line_bytes number (word ∷ words) = let all : bytes_in (word ∷ words) ≡ length word + bytes_in words = sum_by-cons length word words in omega (arith, all)

ahead_step : (o : Option (List ℕ)) (first next n left : ℕ) (words : List (List ℕ)) (code : List ℕ) (lines : ℕ → List (List ℕ) → List Line) → before_backslash code ≡ o → length code ≤ n
    → ((k : ℕ) (ws : List (List ℕ)) → first_bytes (lines k ws) ≤ bytes_in ws + left)
    → first_bytes (joined_words o first next words (words_of code) lines) ≤ bytes_in words + (n + left)
ahead_step None first next n left words code lines is few rest =
    let this = line_bytes first (words ++ words_of code) in
    let all = more_bytes words (words ++ words_of code) code n refl few in
    let later : first_bytes (lines next []) ≤ 0 + left = rest next [] in
    let both = both_bytes (line_of first (words ++ words_of code)) (lines next []) in
    omega (arith, this, all, later, both)
ahead_step (Some front) first next n left words code lines is few rest =
    let low = front_fits code front is in
    let all = more_bytes words (words ++ words_of front) front n refl (omega (arith, low, few)) in
    let later = rest first (words ++ words_of front) in
    omega (arith, all, later)

ahead_bytes : (raws : List (List ℕ)) (number first : ℕ) (words : List (List ℕ)) → first_bytes (ahead raws number first words) ≤ bytes_in words + weight raws
ahead_bytes [] number first words = let low = line_bytes first words in omega (arith, low)
ahead_bytes (raw ∷ raws) number first words =
    let step = ahead_step (before_backslash (without_comment raw)) first (number + 1) (length raw) (weight raws) words (without_comment raw) (ahead raws (number + 1)) refl (code_fits raw) (λ k ws. ahead_bytes raws (number + 1) k ws) in
    omega (arith, step, add_weight raw raws)

-- the first words of a text's lines have few bytes
text_bytes : (bytes : List ℕ) → length bytes ≤ 4000000000 → first_bytes (reverse (text_lines bytes)) < 2 ^ 32
text_bytes bytes small =
    let low : first_bytes (ahead (lines_of bytes) 1 1 []) ≤ 0 + weight (lines_of bytes) = ahead_bytes (lines_of bytes) 1 1 [] in
    let few = lines_weight bytes in
    let same = ap first_bytes (ahead_all bytes) in
    let turned = sym (ap first_bytes (from_last (text_lines bytes))) ∙ over_bytes (text_lines bytes) [] in
    omega (arith, low, few, same, turned, small)

-- the statements of a text without a fault
some_statements : (bytes : List ℕ) → length bytes ≤ 4000000000 → first_fault [] (text_lines bytes) ≡ None → (s : Statements) × StatementsOf bytes s
some_statements bytes small none =
    let above : List Line = reverse (text_lines bytes) in
    let clean : Faultless above = subst Faultless (from_last (text_lines bytes)) (still_faultless [] (text_lines bytes) tt none) in
    let found = some_said above (reached above clean (text_bytes bytes small)) in
    let says : Say above (model_of above) (names_above above) found.0 = record { model = refl; names = refl; statements = found.1 } in
    let s : Statements = record { model = model_of above; names = names_above above; statements = found.0; valid = says_valid above (model_of above) (names_above above) found.0 clean says } in
    (s, record { faultless = none; says = says })

by_fault : (bytes : List ℕ) (first : Option BlifFault) → first_fault [] (text_lines bytes) ≡ first → length bytes ≤ 4000000000 → ((s : Statements) × StatementsOf bytes s) ⊎ ((fault : BlifFault) × LineBad bytes fault)
by_fault bytes None is small = inl (some_statements bytes small is)
by_fault bytes (Some fault) is small = inr (fault, is)

pub one_of_two : OneOfTwo
one_of_two bytes small = by_fault bytes (first_fault [] (text_lines bytes)) refl small

-- A cover has fewer than 2^32 literals, since each is a mark.
use Rattle.std.proofs.Common.{ℕ, zero, suc, ◌≡◌, ◌<◌, ◌≤◌, ◌+◌, Bool, true, false, cond, List, [], ◌∷◌, length, sym, ap, ◌∙◌, arith}
use Rattle.std.specs.Prelude.{◌&&◌, ◌||◌, ◌==◌, ◌^◌, nat_le, nat_lt, sum_by, count_by, slice_get, Some}
use Rattle.std.specs.List.{list_all}
use Rattle.std.proofs.lemmas.Bool.{and_parts}
use Rattle.std.proofs.lemmas.Bool.Decides.{nat_tests}
use Rattle.std.proofs.lemmas.List.Sums.{sum_by-cons}
use Rattle.act1_cover.proofs.Trees.{AreWide}
use Rattle.act1_cover.proofs.Denoting.{all_wide}
use Rattle.act1_logic.specs.declared.cover.Cover.{Cover}
use Rattle.act1_logic.specs.declared.cover.Mark.{Mark}
use Rattle.act1_logic.specs.declared.cover.Row.{Row}
use Rattle.act1_logic.specs.Rows.{is_literal, is_cover, literals_of}

few_marks : (marks : List Mark) → count_by is_literal marks ≤ length marks
few_marks [] = omega arith
few_marks (m ∷ marks) = let e = sum_by-cons (λ (x : Mark). cond (is_literal x) 1 0) m marks in let r = few_marks marks in by (is_literal m) e r
  where
    by : (b : Bool) → count_by is_literal (m ∷ marks) ≡ cond b 1 0 + count_by is_literal marks → count_by is_literal marks ≤ length marks → count_by is_literal (m ∷ marks) ≤ length (m ∷ marks)
    by true e r = omega arith
    by false e r = omega arith

few_rows : (rows : List Row) → literals_of rows ≤ sum_by (λ (row : Row). length row.marks) rows
few_rows [] = omega arith
few_rows (row ∷ rows) =
    let e = sum_by-cons (λ (r : Row). count_by is_literal r.marks) row rows in let f = sum_by-cons (λ (r : Row). length r.marks) row rows in
    let a = few_marks row.marks in let b = few_rows rows in omega arith

pub few_literals : (cover : Cover) → literals_of cover.rows < 2 ^ 32
few_literals cover = by cover.width cover.output cover.rows cover.valid
  where
    by : (w : ℕ) (o : Bool) (rows : List Row) → is_cover w o rows ≡ true → literals_of rows < 2 ^ 32
    by w o rows e =
        let one = (and_parts (nat_le w 64 && list_all (λ (row : Row). length row.marks == w) rows && nat_lt (sum_by (λ (row : Row). length row.marks) rows) (2 ^ 32)) (o || nat_lt 0 (length rows)) e).0 in
        let two = (and_parts (nat_le w 64 && list_all (λ (row : Row). length row.marks == w) rows) (nat_lt (sum_by (λ (row : Row). length row.marks) rows) (2 ^ 32)) one).1 in
        let few : sum_by (λ (row : Row). length row.marks) rows < 2 ^ 32 = grind (arith, nat_tests) in
        let less = few_rows rows in
        omega arith

wide_at : (n : ℕ) (rows : List Row) (i : ℕ) (row : Row) → AreWide n rows → slice_get rows i ≡ Some row → length row.marks ≡ n
wide_at n [] i row h at = cc
wide_at n (o ∷ rows) zero row h at = let same : o ≡ row = cc in sym (ap (λ (r : Row). length r.marks) same) ∙ h.0
wide_at n (o ∷ rows) (suc i) row h at = wide_at n rows i row h.1 at

small : (cover : Cover) → cover.width ≤ 64
small cover = by cover.width cover.output cover.rows cover.valid
  where
    by : (w : ℕ) (o : Bool) (rows : List Row) → is_cover w o rows ≡ true → w ≤ 64
    by w o rows e =
        let one = (and_parts (nat_le w 64 && list_all (λ (row : Row). length row.marks == w) rows && nat_lt (sum_by (λ (row : Row). length row.marks) rows) (2 ^ 32)) (o || nat_lt 0 (length rows)) e).0 in
        let two = (and_parts (nat_le w 64 && list_all (λ (row : Row). length row.marks == w) rows) (nat_lt (sum_by (λ (row : Row). length row.marks) rows) (2 ^ 32)) one).0 in
        let three = (and_parts (nat_le w 64) (list_all (λ (row : Row). length row.marks == w) rows) two).0 in
        grind (arith, nat_tests)

-- a row has at most 64 marks
pub few_in_row : (cover : Cover) (i : ℕ) (row : Row) → slice_get cover.rows i ≡ Some row → length row.marks ≤ 64
few_in_row cover i row at = let e = wide_at cover.width cover.rows i row (all_wide cover) at in let f = small cover in omega arith

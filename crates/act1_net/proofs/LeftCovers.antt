-- What is left of a cover is a cover, with no more literals.
use Rattle.std.proofs.Common.{ℕ, zero, suc, ◌≡◌, ◌+◌, ◌<◌, ◌≤◌, ◌&&◌, ◌||◌, not, eqb, Bool, true, false, cond, List, [], ◌∷◌, length, Option, Some, None, refl, sym, ap, subst, ◌∙◌, arith}
use Rattle.std.specs.Prelude.{◌==◌, ◌^◌, count_by, if◌then◌else◌, nat_le, nat_lt, slice_get, sum_by}
use Rattle.std.specs.List.{filter_map, cons_option, list_all, list_any}
use Rattle.std.proofs.lemmas.List.Sums.{sum_by-cons}
use Rattle.std.proofs.lemmas.List.Recursion.{is_count_by}
use Rattle.act1_logic.specs.declared.cover.Mark.{Mark}
use Rattle.act1_logic.specs.declared.cover.Mark.TheVariants as mark
use Rattle.act1_logic.specs.declared.cover.Row.{Row}
use Rattle.act1_logic.specs.Rows.{is_cover, is_literal, literals_of}
use Rattle.act1_blif.specs.declared.blif.Node.{Node}
use Rattle.act1_net.specs.declared.gate.Gate.{Gate}
use Rattle.act1_net.specs.declared.net.NetTerm.{NetTerm}
use Rattle.act1_net.specs.declared.net.NetTerm.TheVariants as term
use Rattle.act1_net.specs.Gates.{gate_left, has_against, mark_left, marks_left, row_left, settled, signal_of}
use Rattle.act1_net.proofs.GateValues.{unsettled}
use Rattle.act1_net.proofs.Tests.{both, equal_is, is_equal, is_most, joined, less_down, less_is, most_down, or_true}

-- a signal for each of the terms at most
pub fewer_signals : (ts : List NetTerm) → length (filter_map signal_of ts) ≤ length ts
fewer_signals [] = omega arith
fewer_signals (term.Zero ∷ ts) = let r = fewer_signals ts in omega arith
fewer_signals (term.One ∷ ts) = let r = fewer_signals ts in omega arith
fewer_signals (term.Signal s ∷ ts) = let r = fewer_signals ts in omega arith

-- a mark is left for each signal
marks_long : (ts : List NetTerm) (ms : List Mark) → length ms ≡ length ts → length (marks_left ts ms) ≡ length (filter_map signal_of ts)
marks_long [] ms e = refl
marks_long (t ∷ ts) [] e = absurd (omega arith)
marks_long (term.Zero ∷ ts) (m ∷ ms) e = marks_long ts ms (omega arith)
marks_long (term.One ∷ ts) (m ∷ ms) e = marks_long ts ms (omega arith)
marks_long (term.Signal s ∷ ts) (m ∷ ms) e = ap suc (marks_long ts ms (omega arith))

marks_fewer : (ts : List NetTerm) (ms : List Mark) → length (marks_left ts ms) ≤ length ms
marks_fewer [] ms = omega arith
marks_fewer (t ∷ ts) [] = omega arith
marks_fewer (term.Zero ∷ ts) (m ∷ ms) = let r = marks_fewer ts ms in omega arith
marks_fewer (term.One ∷ ts) (m ∷ ms) = let r = marks_fewer ts ms in omega arith
marks_fewer (term.Signal s ∷ ts) (m ∷ ms) = let r = marks_fewer ts ms in omega arith

-- each row that is left has a mark for each signal
rows_wide : (ts : List NetTerm) (rows : List Row) (n : ℕ) → n ≡ length ts → list_all (λ (row : Row). length row.marks == n) rows ≡ true
    → list_all (λ (row : Row). length row.marks == length (filter_map signal_of ts)) (filter_map (row_left ts) rows) ≡ true
rows_wide ts [] n e h = refl
rows_wide ts (row ∷ rows) n e h =
    let parts = both (length row.marks == n) (list_all (λ (r : Row). length r.marks == n) rows) h in
    by (has_against ts row.marks) (equal_is (length row.marks) n parts.0) (rows_wide ts rows n e parts.1)
  where
    by : (a : Bool) → length row.marks ≡ n → list_all (λ (r : Row). length r.marks == length (filter_map signal_of ts)) (filter_map (row_left ts) rows) ≡ true
        → list_all (λ (r : Row). length r.marks == length (filter_map signal_of ts)) (cons_option (if a then None else Some (record { marks = marks_left ts row.marks })) (filter_map (row_left ts) rows)) ≡ true
    by true f rest = rest
    by false f rest = joined (length (marks_left ts row.marks) == length (filter_map signal_of ts)) _ (is_equal _ _ (marks_long ts row.marks (f ∙ e))) rest

abbrev size_of : Row → ℕ
size_of row = length row.marks

rows_fewer : (ts : List NetTerm) (rows : List Row) → sum_by size_of (filter_map (row_left ts) rows) ≤ sum_by size_of rows
rows_fewer ts [] = omega arith
rows_fewer ts (row ∷ rows) = by (has_against ts row.marks) (rows_fewer ts rows)
  where
    by : (a : Bool) → sum_by size_of (filter_map (row_left ts) rows) ≤ sum_by size_of rows
        → sum_by size_of (cons_option (if a then None else Some (record { marks = marks_left ts row.marks })) (filter_map (row_left ts) rows)) ≤ sum_by size_of (row ∷ rows)
    by true r = let s = sum_by-cons size_of row rows in omega arith
    by false r =
        let s = sum_by-cons size_of row rows in
        let left : Row = record { marks = marks_left ts row.marks } in
        let t = sum_by-cons size_of left (filter_map (row_left ts) rows) in
        let f = marks_fewer ts row.marks in omega arith

abbrev marked : List Mark → ℕ
marked [] = 0
marked (m ∷ ms) = cond (is_literal m) (1 + marked ms) (marked ms)

counted : (ms : List Mark) → marked ms ≡ count_by is_literal ms
counted ms = is_count_by marked is_literal refl (λ m rest. refl) ms

literals_fewer : (ts : List NetTerm) (ms : List Mark) → marked (marks_left ts ms) ≤ marked ms
literals_fewer [] ms = omega arith
literals_fewer (t ∷ ts) [] = omega arith
literals_fewer (term.Zero ∷ ts) (mark.Zero ∷ ms) = let r = literals_fewer ts ms in omega arith
literals_fewer (term.Zero ∷ ts) (mark.One ∷ ms) = let r = literals_fewer ts ms in omega arith
literals_fewer (term.Zero ∷ ts) (mark.Dash ∷ ms) = literals_fewer ts ms
literals_fewer (term.One ∷ ts) (mark.Zero ∷ ms) = let r = literals_fewer ts ms in omega arith
literals_fewer (term.One ∷ ts) (mark.One ∷ ms) = let r = literals_fewer ts ms in omega arith
literals_fewer (term.One ∷ ts) (mark.Dash ∷ ms) = literals_fewer ts ms
literals_fewer (term.Signal s ∷ ts) (mark.Zero ∷ ms) = let r = literals_fewer ts ms in omega arith
literals_fewer (term.Signal s ∷ ts) (mark.One ∷ ms) = let r = literals_fewer ts ms in omega arith
literals_fewer (term.Signal s ∷ ts) (mark.Dash ∷ ms) = literals_fewer ts ms

abbrev literals : Row → ℕ
literals row = count_by is_literal row.marks

-- no more literals than the rows had
pub fewer_literals : (ts : List NetTerm) (rows : List Row) → literals_of (filter_map (row_left ts) rows) ≤ literals_of rows
fewer_literals ts [] = omega arith
fewer_literals ts (row ∷ rows) = by (has_against ts row.marks) (fewer_literals ts rows)
  where
    by : (a : Bool) → sum_by literals (filter_map (row_left ts) rows) ≤ sum_by literals rows
        → sum_by literals (cons_option (if a then None else Some (record { marks = marks_left ts row.marks })) (filter_map (row_left ts) rows)) ≤ sum_by literals (row ∷ rows)
    by true r = let s = sum_by-cons literals row rows in omega arith
    by false r =
        let s = sum_by-cons literals row rows in
        let left : Row = record { marks = marks_left ts row.marks } in
        let t = sum_by-cons literals left (filter_map (row_left ts) rows) in
        let f = literals_fewer ts row.marks in let x = counted row.marks in let y = counted (marks_left ts row.marks) in omega arith

-- what is left of a cover's width, at most 64
pub few_left : (ts : List NetTerm) (node : Node) → node.cover.width ≡ length ts → length (filter_map signal_of ts) ≤ 64
few_left ts node wide =
    let p = both _ (node.cover.output || nat_lt 0 (length node.cover.rows)) node.cover.valid in
    let q = both _ (nat_lt (sum_by size_of node.cover.rows) (2 ^ 32)) p.0 in
    let r = both (nat_le node.cover.width 64) (list_all (λ (row : Row). length row.marks == node.cover.width) node.cover.rows) q.0 in
    let f = fewer_signals ts in let g = is_most node.cover.width 64 r.0 in omega arith

-- what is left of a cover, where it has rows, is a cover
pub cover_left : (ts : List NetTerm) (node : Node) → node.cover.width ≡ length ts → settled (gate_left ts node) ≡ None
    → is_cover (length (filter_map signal_of ts)) node.cover.output (filter_map (row_left ts) node.cover.rows) ≡ true
cover_left ts node wide none =
    let p = both _ (node.cover.output || nat_lt 0 (length node.cover.rows)) node.cover.valid in
    let q = both _ (nat_lt (sum_by size_of node.cover.rows) (2 ^ 32)) p.0 in
    let r = both (nat_le node.cover.width 64) (list_all (λ (row : Row). length row.marks == node.cover.width) node.cover.rows) q.0 in
    let f = fewer_signals ts in
    let few = most_down (length (filter_map signal_of ts)) node.cover.width 64 (omega arith) r.0 in
    let wides = rows_wide ts node.cover.rows node.cover.width wide r.1 in
    let less = less_down (sum_by size_of (filter_map (row_left ts) node.cover.rows)) (sum_by size_of node.cover.rows) (2 ^ 32) (rows_fewer ts node.cover.rows) q.1 in
    let rows = (unsettled (gate_left ts node) none).rows in
    joined _ _ (joined _ _ (joined _ _ few wides) less) (ap (λ (b : Bool). node.cover.output || b) (less_is 0 (length (filter_map (row_left ts) node.cover.rows)) rows) ∙ or_true node.cover.output)

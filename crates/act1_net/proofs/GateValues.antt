-- The value of what is left of a node, and of a function that its rows settle.
use Rattle.std.proofs.Common.{ℕ, suc, zero, ◌≡◌, ◌<◌, ◌+◌, ◌&&◌, ◌||◌, not, eqb, Bool, true, false, List, [], ◌∷◌, length, map, Option, Some, None, refl, sym, ap, subst, ◌∙◌, arith}
use Rattle.std.specs.Prelude.{if◌then◌else◌, slice_get}
use Rattle.std.specs.List.{filter_map, cons_option, list_any}
use Rattle.std.specs.Option.{option_map}
use Rattle.std.proofs.lemmas.Bool.{false≢true}
use Rattle.std.proofs.Math.Dec.{eqb-suc-zero}
use Rattle.act1_logic.specs.declared.cover.Mark.{Mark}
use Rattle.act1_logic.specs.declared.cover.Mark.TheVariants as mark
use Rattle.act1_logic.specs.declared.cover.Row.{Row}
use Rattle.act1_logic.specs.Cover.{value_of}
use Rattle.act1_logic.specs.Rows.{agrees}
use Rattle.act1_blif.specs.declared.blif.Node.{Node}
use Rattle.act1_blif.specs.Run.{signal, signals}
use Rattle.act1_net.specs.declared.gate.Gate.{Gate}
use Rattle.act1_net.specs.declared.net.NetTerm.{NetTerm}
use Rattle.act1_net.specs.declared.net.NetTerm.TheVariants as term
use Rattle.act1_net.specs.Net.{has_literal, term_value}
use Rattle.act1_net.proofs.Tests.{and_false, or_true}
use Rattle.act1_net.specs.Gates.{constant, gate_left, gate_value, has_against, is_copy, is_copy_row, marks_left, row_left, settled, signal_of}

no_inputs : (ms : List Mark) → agrees ms [] ≡ true
no_inputs [] = refl
no_inputs (m ∷ ms) = refl

-- a literal before a row that is left or isn't
with_literal : (a h x y : Bool) → (if h then false else x) ≡ y → (if h then false else (a && x)) ≡ (a && y)
with_literal a true x y e = sym (and_false a) ∙ ap (λ (b : Bool). a && b) e
with_literal a false x y e = ap (λ (b : Bool). a && b) e

module _ (v : List Bool) where
  abbrev values : List NetTerm → List Bool
  values ts = signals v (filter_map signal_of ts)

  -- what is left of a row agrees where the row does
  row_same : (ts : List NetTerm) (ms : List Mark) → (if has_against ts ms then false else agrees (marks_left ts ms) (values ts)) ≡ agrees ms (map (term_value v) ts)
  row_same [] ms = sym (no_inputs ms)
  row_same (t ∷ ts) [] = refl
  row_same (term.Zero ∷ ts) (mark.One ∷ ms) = refl
  row_same (term.Zero ∷ ts) (mark.Zero ∷ ms) = row_same ts ms
  row_same (term.Zero ∷ ts) (mark.Dash ∷ ms) = row_same ts ms
  row_same (term.One ∷ ts) (mark.Zero ∷ ms) = refl
  row_same (term.One ∷ ts) (mark.One ∷ ms) = row_same ts ms
  row_same (term.One ∷ ts) (mark.Dash ∷ ms) = row_same ts ms
  row_same (term.Signal s ∷ ts) (mark.Zero ∷ ms) = with_literal (not (signal v s)) (has_against ts ms) (agrees (marks_left ts ms) (values ts)) (agrees ms (map (term_value v) ts)) (row_same ts ms)
  row_same (term.Signal s ∷ ts) (mark.One ∷ ms) = with_literal (signal v s) (has_against ts ms) (agrees (marks_left ts ms) (values ts)) (agrees ms (map (term_value v) ts)) (row_same ts ms)
  row_same (term.Signal s ∷ ts) (mark.Dash ∷ ms) = row_same ts ms

  rows_same : (ts : List NetTerm) (rows : List Row) → list_any (λ (row : Row). agrees row.marks (values ts)) (filter_map (row_left ts) rows) ≡ list_any (λ (row : Row). agrees row.marks (map (term_value v) ts)) rows
  rows_same ts [] = refl
  rows_same ts (row ∷ rows) = by (has_against ts row.marks) (row_same ts row.marks) (rows_same ts rows)
    where
      by : (h : Bool) → (if h then false else agrees (marks_left ts row.marks) (values ts)) ≡ agrees row.marks (map (term_value v) ts)
          → list_any (λ (r : Row). agrees r.marks (values ts)) (filter_map (row_left ts) rows) ≡ list_any (λ (r : Row). agrees r.marks (map (term_value v) ts)) rows
          → list_any (λ (r : Row). agrees r.marks (values ts)) (cons_option (if h then None else Some (record { marks = marks_left ts row.marks })) (filter_map (row_left ts) rows))
          ≡ (agrees row.marks (map (term_value v) ts) || list_any (λ (r : Row). agrees r.marks (map (term_value v) ts)) rows)
      by true e rest = rest ∙ ap (λ (b : Bool). b || list_any (λ (r : Row). agrees r.marks (map (term_value v) ts)) rows) e
      by false e rest =
          ap (λ (b : Bool). b || list_any (λ (r : Row). agrees r.marks (values ts)) (filter_map (row_left ts) rows)) e
          ∙ ap (λ (b : Bool). agrees row.marks (map (term_value v) ts) || b) rest

  -- what is left of a node has the node's value where its inputs have those of the terms
  pub gate_same : (ts : List NetTerm) (node : Node) → value_of node.cover (map (term_value v) ts) ≡ gate_value v (gate_left ts node)
  gate_same ts node = ap (λ (b : Bool). if b then node.cover.output else not node.cover.output) (sym (rows_same ts node.cover.rows))

  constant_value : (b : Bool) → term_value v (constant b) ≡ b
  constant_value true = refl
  constant_value false = refl

  plain_agrees : (ms : List Mark) (xs : List Bool) → not (has_literal (record { marks = ms })) ≡ true → agrees ms xs ≡ true
  plain_agrees [] xs e = refl
  plain_agrees (m ∷ ms) [] e = refl
  plain_agrees (mark.Dash ∷ ms) (x ∷ xs) e = plain_agrees ms xs e
  plain_agrees (mark.Zero ∷ ms) (x ∷ xs) e = absurd (false≢true e)
  plain_agrees (mark.One ∷ ms) (x ∷ xs) e = absurd (false≢true e)

  -- a row that asks nothing agrees with all inputs
  plain_rows : (rows : List Row) (xs : List Bool) → list_any (λ (row : Row). not (has_literal row)) rows ≡ true → list_any (λ (row : Row). agrees row.marks xs) rows ≡ true
  plain_rows [] xs e = absurd (false≢true e)
  plain_rows (row ∷ rows) xs e = by (not (has_literal row)) refl e (λ h. plain_rows rows xs h)
    where
      by : (b : Bool) → not (has_literal row) ≡ b → (b || list_any (λ (r : Row). not (has_literal r)) rows) ≡ true
          → (list_any (λ (r : Row). not (has_literal r)) rows ≡ true → list_any (λ (r : Row). agrees r.marks xs) rows ≡ true) → (agrees row.marks xs || list_any (λ (r : Row). agrees r.marks xs) rows) ≡ true
      by true f h rest = ap (λ (b : Bool). b || list_any (λ (r : Row). agrees r.marks xs) rows) (plain_agrees row.marks xs f)
      by false f h rest = ap (λ (b : Bool). agrees row.marks xs || b) (rest h) ∙ or_true (agrees row.marks xs)

  copied_row : (output : Bool) (ms : List Mark) (x : Bool) (xs : List Bool) → is_copy_row output ms ≡ true → (if agrees ms (x ∷ xs) || false then output else not output) ≡ x
  copied_row true (mark.One ∷ []) true xs e = refl
  copied_row true (mark.One ∷ []) false xs e = refl
  copied_row false (mark.Zero ∷ []) true xs e = refl
  copied_row false (mark.Zero ∷ []) false xs e = refl
  copied_row true (mark.Zero ∷ []) x xs e = absurd (false≢true e)
  copied_row true (mark.Dash ∷ []) x xs e = absurd (false≢true e)
  copied_row false (mark.One ∷ []) x xs e = absurd (false≢true e)
  copied_row false (mark.Dash ∷ []) x xs e = absurd (false≢true e)
  copied_row true [] x xs e = absurd (false≢true e)
  copied_row false [] x xs e = absurd (false≢true e)
  copied_row true (m ∷ n ∷ ms) x xs e = absurd (false≢true e)
  copied_row false (m ∷ n ∷ ms) x xs e = absurd (false≢true e)

  copied : (output : Bool) (rows : List Row) (x : Bool) (xs : List Bool) → is_copy output rows ≡ true → (if list_any (λ (row : Row). agrees row.marks (x ∷ xs)) rows then output else not output) ≡ x
  copied output [] x xs e = absurd (false≢true e)
  copied output (row ∷ []) x xs e = copied_row output row.marks x xs e
  copied output (row ∷ other ∷ rows) x xs e = absurd (false≢true e)

  value_of_parts : (inputs : List ℕ) (output : Bool) (rows : List Row) (t : NetTerm) → settled (record { inputs = inputs; output = output; rows = rows }) ≡ Some t
      → term_value v t ≡ gate_value v (record { inputs = inputs; output = output; rows = rows })
  value_of_parts inputs output [] t e = let is : constant (not output) ≡ t = cc in ap (term_value v) (sym is) ∙ constant_value (not output)
  value_of_parts inputs output (row ∷ rows) t e = by (list_any (λ (r : Row). not (has_literal r)) (row ∷ rows)) (is_copy output (row ∷ rows)) refl refl (rw (eqb-suc-zero (length rows)) at e)
    where
      copy : (ss : List ℕ) → option_map term.Signal (slice_get ss 0) ≡ Some t → is_copy output (row ∷ rows) ≡ true → term_value v t ≡ gate_value v (record { inputs = ss; output = output; rows = row ∷ rows })
      copy [] f h = cc
      copy (s ∷ ss) f h = let is : term.Signal s ≡ t = cc in ap (term_value v) (sym is) ∙ sym (copied output (row ∷ rows) (signal v s) (signals v ss) h)

      by : (a d : Bool) → list_any (λ (r : Row). not (has_literal r)) (row ∷ rows) ≡ a → is_copy output (row ∷ rows) ≡ d
          → (if a then Some (constant output) else if d then option_map term.Signal (slice_get inputs 0) else None) ≡ Some t
          → term_value v t ≡ gate_value v (record { inputs = inputs; output = output; rows = row ∷ rows })
      by true d plain h f =
          let is : constant output ≡ t = cc in
          ap (term_value v) (sym is) ∙ constant_value output ∙ sym (ap (λ (b : Bool). if b then output else not output) (plain_rows (row ∷ rows) (signals v inputs) plain))
      by false true plain h f = copy inputs f h
      by false false plain h f = cc

  -- a function that its rows settle has the value of its term
  pub settled_value : (gate : Gate) (t : NetTerm) → settled gate ≡ Some t → term_value v t ≡ gate_value v gate
  settled_value gate t e = value_of_parts gate.inputs gate.output gate.rows t e

constant_is : (b : Bool) (u : ℕ) → constant b ≡ term.Signal u → ⊥
constant_is true u e = cc
constant_is false u e = cc

signal_of_parts : (inputs : List ℕ) (output : Bool) (rows : List Row) (u : ℕ) → settled (record { inputs = inputs; output = output; rows = rows }) ≡ Some (term.Signal u) → slice_get inputs 0 ≡ Some u
signal_of_parts inputs output [] u e = let is : constant (not output) ≡ term.Signal u = cc in absurd (constant_is (not output) u is)
signal_of_parts inputs output (row ∷ rows) u e = by (list_any (λ (r : Row). not (has_literal r)) (row ∷ rows)) (is_copy output (row ∷ rows)) (rw (eqb-suc-zero (length rows)) at e)
  where
    copy : (ss : List ℕ) → option_map term.Signal (slice_get ss 0) ≡ Some (term.Signal u) → slice_get ss 0 ≡ Some u
    copy [] f = cc
    copy (s ∷ ss) f = let is : s ≡ u = cc in ap (λ (k : ℕ). let o : Option ℕ = Some k in o) is

    by : (a d : Bool) → (if a then Some (constant output) else if d then option_map term.Signal (slice_get inputs 0) else None) ≡ Some (term.Signal u) → slice_get inputs 0 ≡ Some u
    by true d f = let is : constant output ≡ term.Signal u = cc in absurd (constant_is output u is)
    by false true f = copy inputs f
    by false false f = cc

-- the signal that rows settle is the first input
pub settled_signal : (gate : Gate) (u : ℕ) → settled gate ≡ Some (term.Signal u) → slice_get gate.inputs 0 ≡ Some u
settled_signal gate u e = signal_of_parts gate.inputs gate.output gate.rows u e

-- what nothing settles has rows, each asks something, and it is no copy
pub record IsUnsettled (gate : Gate) : Type 0 where
  pub rows : 0 < length gate.rows
  pub literals : list_any (λ (row : Row). not (has_literal row)) gate.rows ≡ false
  pub own : is_copy gate.output gate.rows ≡ true → length gate.inputs ≡ 0

unsettled_parts : (inputs : List ℕ) (output : Bool) (rows : List Row) → settled (record { inputs = inputs; output = output; rows = rows }) ≡ None → IsUnsettled (record { inputs = inputs; output = output; rows = rows })
unsettled_parts inputs output [] e = cc
unsettled_parts inputs output (row ∷ rows) e = by (list_any (λ (r : Row). not (has_literal r)) (row ∷ rows)) (is_copy output (row ∷ rows)) refl refl (rw (eqb-suc-zero (length rows)) at e)
  where
    none : (ss : List ℕ) → option_map term.Signal (slice_get ss 0) ≡ None → length ss ≡ 0
    none [] f = refl
    none (s ∷ ss) f = cc

    by : (a d : Bool) → list_any (λ (r : Row). not (has_literal r)) (row ∷ rows) ≡ a → is_copy output (row ∷ rows) ≡ d
        → (if a then Some (constant output) else if d then option_map term.Signal (slice_get inputs 0) else None) ≡ None → IsUnsettled (record { inputs = inputs; output = output; rows = row ∷ rows })
    by true d plain h f = cc
    by false true plain h f = record { rows = omega arith; literals = plain; own = λ _. none inputs f }
    by false false plain h f = record { rows = omega arith; literals = plain; own = λ g. absurd (false≢true (sym h ∙ g)) }

pub unsettled : (gate : Gate) → settled gate ≡ None → IsUnsettled gate
unsettled gate e = unsettled_parts gate.inputs gate.output gate.rows e

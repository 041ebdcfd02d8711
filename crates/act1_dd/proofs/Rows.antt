-- The marks of a row from the last on, and the rows of a cover from the first on.
use Rattle.std.proofs.Common.{ℕ, suc, zero, ◌≡◌, ◌<◌, ◌≤◌, ◌+◌, ◌-◌, ◌⊎◌, Bool, true, false, not, ◌&&◌, ◌||◌, List, [], ◌∷◌, length, take, drop, get_or, refl, sym, ap, ◌∙◌, inl, inr, arith, subst, add-one}
use Rattle.std.proofs.lemmas.Bool.{cases_lt, false≢true}
use Rattle.std.proofs.lemmas.Bool.Decides.{nat_tests}
use Rattle.std.proofs.Math.Seq.{drop-length, take-length}
use Rattle.std.proofs.lemmas.Option.{slice_get-get_or}
use Rattle.std.specs.Prelude.{if◌then◌else◌, slice_get, Option, Some, nat_le, nat_lt, ◌==◌, ◌^◌, sum_by, All}
use Rattle.std.specs.List.{list_any, list_all}
use Rattle.act1_logic.specs.declared.cover.Mark.{Mark}
use Rattle.act1_logic.specs.declared.cover.Mark.TheVariants as mark
use Rattle.act1_logic.specs.declared.cover.Row.{Row}
use Rattle.act1_logic.specs.declared.cover.Cover.{Cover}
use Rattle.act1_logic.specs.Rows.{agrees, is_cover}
use Rattle.act1_logic.specs.Cover.{value_of}
use Rattle.act1_dd.specs.declared.refs.Ref.{Ref}
use Rattle.act1_dd.specs.declared.refs.Ref.TheVariants.{Zero, One}
use Rattle.act1_dd.specs.declared.refs.Branch.{Branch}
use Rattle.act1_dd.specs.Inputs.{Inputs, Function, inputs_from, inputs_of, with_input, fixed_below}
use Rattle.act1_dd.specs.Forks.{HasMoreForks, IsForkOf}
use Rattle.act1_dd.specs.Diagram.{value_at, IsRef, IsChoice, IsForkInto, IsWithin, Keeps}
use Rattle.act1_dd.specs.Steps.{AreMarks, IsConstant, IsMarked, IsMore}
use Rattle.act1_dd.specs.Limit.{rows_function, first_rows, cover_function}
use Rattle.act1_base.proofs.ListGets.{some_is, get_within}
use Rattle.act1_dd.proofs.Values.{value_zero, value_one}

-- a fork into a mark's parts
pub zero_marked : (forks : List Branch) (v : ℕ) (rest r : Ref) → IsForkInto forks v rest Zero r → IsMarked forks v mark.Zero rest r
zero_marked forks v rest r into x = into x ∙ by (x v) (value_at forks Zero x) (value_at forks rest x) (value_zero x forks)
  where
    by : (a none b : Bool) → none ≡ false → (if a then none else b) ≡ (not a && b)
    by true none b e = e
    by false none b e = refl

pub one_marked : (forks : List Branch) (v : ℕ) (rest r : Ref) → IsForkInto forks v Zero rest r → IsMarked forks v mark.One rest r
one_marked forks v rest r into x = into x ∙ by (x v) (value_at forks Zero x) (value_at forks rest x) (value_zero x forks)
  where
    by : (a none b : Bool) → none ≡ false → (if a then b else none) ≡ (a && b)
    by true none b e = refl
    by false none b e = e

-- the value is 1 where the marks from v on agree with the variables from v on
abbrev pub AreMarksFrom : List Branch → List Mark → ℕ → Ref → Type 0
AreMarksFrom forks marks v r = (x : Inputs) → value_at forks r x ≡ agrees (drop v marks) (inputs_from x v (length marks - v))

drop_at : (marks : List Mark) (v : ℕ) (m : Mark) → slice_get marks v ≡ Some m → drop v marks ≡ m ∷ drop (suc v) marks
drop_at [] v m at = cc
drop_at (n ∷ marks) zero m at = ap (λ (k : Mark). k ∷ marks) (some_is n m at)
drop_at (n ∷ marks) (suc v) m at = drop_at marks v m at

pub no_marks : (forks : List Branch) (marks : List Mark) → AreMarksFrom forks marks (length marks) One
no_marks forks marks x = value_one x forks ∙ sym (ap (λ (ms : List Mark). agrees ms (inputs_from x (length marks) (length marks - length marks))) (none marks))
  where
    none : (marks : List Mark) → drop (length marks) marks ≡ []
    none marks = drop-length marks

pub marks_more : (forks : List Branch) (marks : List Mark) (v : ℕ) (m : Mark) (rest r : Ref) → slice_get marks v ≡ Some m → AreMarksFrom forks marks (v + 1) rest → IsMarked forks v m rest r → AreMarksFrom forks marks v r
marks_more forks marks v m rest r at later marked x = by m at marked ∙ sym (λ i. agrees (drops i) (inputs_from x v (left i)))
  where
    drops : drop v marks ≡ m ∷ drop (v + 1) marks
    drops = rw add-one (drop_at marks v m at)

    left : length marks - v ≡ suc (length marks - (v + 1))
    left = let low = get_within marks v m at in omega arith

    by : (m : Mark) → slice_get marks v ≡ Some m → IsMarked forks v m rest r → value_at forks r x ≡ agrees (m ∷ drop (v + 1) marks) (x v ∷ inputs_from x (v + 1) (length marks - (v + 1)))
    by mark.Zero at marked = marked x ∙ ap (λ (b : Bool). not (x v) && b) (later x)
    by mark.One at marked = marked x ∙ ap (λ (b : Bool). x v && b) (later x)
    by mark.Dash at marked = marked x ∙ later x

-- one row more
any_more : (test : Row → Bool) (rows : List Row) (i : ℕ) (row : Row) → slice_get rows i ≡ Some row → list_any test (take (suc i) rows) ≡ (list_any test (take i rows) || test row)
any_more test [] i row at = cc
any_more test (first ∷ rows) zero row at = by (test first) (test row) (ap test (some_is first row at))
  where
    by : (a b : Bool) → a ≡ b → (a || false) ≡ b
    by true b e = e
    by false b e = e
any_more test (first ∷ rows) (suc i) row at = by (test first) (list_any test (take (suc i) rows)) (list_any test (take i rows)) (test row) (any_more test rows i row at)
  where
    by : (a c d e : Bool) → c ≡ (d || e) → (a || c) ≡ ((a || d) || e)
    by true c d e same = refl
    by false c d e same = same

pub rows_more : (width : ℕ) (output : Bool) (rows : List Row) (i : ℕ) (row : Row) (x : Inputs) → slice_get rows i ≡ Some row
    → rows_function width output (take (i + 1) rows) x ≡ (if agrees row.marks (inputs_from x 0 width) then output else rows_function width output (take i rows) x)
rows_more width output rows i row x at =
    ap (λ (b : Bool). if b then output else not output) (rw add-one (any_more (λ r. agrees r.marks (inputs_from x 0 width)) rows i row at))
    ∙ by (list_any (λ r. agrees r.marks (inputs_from x 0 width)) (take i rows)) (agrees row.marks (inputs_from x 0 width))
  where
    by : (a b : Bool) → (if a || b then output else not output) ≡ (if b then output else (if a then output else not output))
    by true true = refl
    by true false = refl
    by false true = refl
    by false false = refl

-- the choice between the output and the rows so far, by whether the next row agrees
pub row_chosen : (forks : List Branch) (width : ℕ) (output : Bool) (rows : List Row) (i : ℕ) (row : Row) → slice_get rows i ≡ Some row → length row.marks ≡ width → (agreed out all r : Ref)
    → ((x : Inputs) → value_at forks agreed x ≡ agrees row.marks (inputs_from x 0 (length row.marks))) → ((x : Inputs) → value_at forks out x ≡ output) → ((x : Inputs) → value_at forks all x ≡ rows_function width output (take i rows) x)
    → IsChoice forks agreed out all r → (x : Inputs) → value_at forks r x ≡ rows_function width output (take (i + 1) rows) x
row_chosen forks width output rows i row at wide agreed out all r is_agreed is_out is_all choice x =
    choice x ∙ (λ k. if agreed_now k then is_out x k else is_all x k) ∙ sym (rows_more width output rows i row x at)
  where
    agreed_now : value_at forks agreed x ≡ agrees row.marks (inputs_from x 0 width)
    agreed_now = is_agreed x ∙ ap (λ (n : ℕ). agrees row.marks (inputs_from x 0 n)) wide

-- what a cover keeps
and_left : (a b : Bool) → (a && b) ≡ true → a ≡ true
and_left true b e = refl
and_left false b e = absurd (false≢true e)

and_right : (a b : Bool) → (a && b) ≡ true → b ≡ true
and_right true b e = e
and_right false b e = absurd (false≢true e)

all_at : (test : Row → Bool) (rows : List Row) (i : ℕ) (row : Row) → slice_get rows i ≡ Some row → list_all test rows ≡ true → test row ≡ true
all_at test [] i row at all = cc
all_at test (first ∷ rows) zero row at all = sym (ap test (some_is first row at)) ∙ and_left (test first) (list_all test rows) all
all_at test (first ∷ rows) (suc i) row at all = all_at test rows i row at (and_right (test first) (list_all test rows) all)

parts : (a b c d : Bool) → (a && b && c && d) ≡ true → (a ≡ true) × (b ≡ true)
parts a b c d e = let ab = and_left (a && b) c (and_left (a && b && c) d e) in (and_left a b ab, and_right a b ab)

-- a cover has at most 64 inputs, and its rows are as wide as it
pub cover_width : (width : ℕ) (output : Bool) (rows : List Row) → is_cover width output rows ≡ true → width ≤ 64
cover_width width output rows valid = by (parts (nat_le width 64) (list_all (λ (row : Row). length row.marks == width) rows) (nat_lt (sum_by (λ (row : Row). length row.marks) rows) (2 ^ 32)) (output || nat_lt 0 (length rows)) valid).0
  where
    by : nat_le width 64 ≡ true → width ≤ 64
    by e = grind (arith, nat_tests)

pub row_width : (width : ℕ) (output : Bool) (rows : List Row) → is_cover width output rows ≡ true → (i : ℕ) (row : Row) → slice_get rows i ≡ Some row → length row.marks ≡ width
row_width width output rows valid i row at =
    by (all_at (λ (row : Row). length row.marks == width) rows i row at (parts (nat_le width 64) (list_all (λ (row : Row). length row.marks == width) rows) (nat_lt (sum_by (λ (row : Row). length row.marks) rows) (2 ^ 32)) (output || nat_lt 0 (length rows)) valid).1)
  where
    by : (length row.marks == width) ≡ true → length row.marks ≡ width
    by e = grind (arith, nat_tests)

-- a function that is a constant has no forks
pub no_forks : (f : Function) (c : Bool) (limit : ℕ) → ((x : Inputs) → f x ≡ c) → HasMoreForks f limit → ⊥
no_forks f c limit same m = by m.forks m.more m.each
  where
    by : (gs : List Function) → limit < length gs → All (IsForkOf f) gs → ⊥
    by [] more each = omega arith
    by (g ∷ gs) more each =
        let is = each 0 g (omega arith) in
        let d = is.depends in
        let x = with_input d.inputs is.var false in
        let y = with_input d.inputs is.var true in
        d.matters (is.comes x ∙ same (fixed_below is.var is.fixed x) ∙ sym (same (fixed_below is.var is.fixed y)) ∙ sym (is.comes y))

-- functions with the same values have as many forks
pub same_more : (f g : Function) (limit : ℕ) → ((x : Inputs) → f x ≡ g x) → HasMoreForks f limit → HasMoreForks g limit
same_more f g limit same = let e : f ≡ g = λ i x. same x i in subst (λ (h : Function). HasMoreForks h limit) e

-- the rows so far have few enough forks, and so do those with the next one
pub few_more : (cover : Cover) (limit i : ℕ) → ((j : ℕ) → j ≤ i → HasMoreForks (first_rows cover j) limit → ⊥) → (HasMoreForks (first_rows cover (i + 1)) limit → ⊥) → (j : ℕ) → j ≤ i + 1 → HasMoreForks (first_rows cover j) limit → ⊥
few_more cover limit i few last j low = by (cases_lt j (i + 1))
  where
    by : (j < i + 1) ⊎ (i + 1 ≤ j) → HasMoreForks (first_rows cover j) limit → ⊥
    by (inl less) = few j (omega arith)
    by (inr more) = let is : i + 1 ≡ j = omega arith in subst (λ (k : ℕ). HasMoreForks (first_rows cover k) limit → ⊥) is last

pub few_none : (cover : Cover) (limit : ℕ) (j : ℕ) → j ≤ 0 → HasMoreForks (first_rows cover j) limit → ⊥
few_none cover limit zero low = no_forks (first_rows cover 0) (not cover.output) limit (λ x. refl)
few_none cover limit (suc j) low = absurd (omega arith)

-- inputs that agree on the first variables give a row the same values
pub same_values : (x y : Inputs) (v n : ℕ) → ((k : ℕ) → v ≤ k → k < v + n → x k ≡ y k) → inputs_from x v n ≡ inputs_from y v n
same_values x y v zero same = refl
same_values x y v (suc n) same = λ i. same v (omega arith) (omega arith) i ∷ same_values x y (v + 1) n (λ k low high. same k (omega arith) (omega arith)) i

pub get_read : {X : Type 0} (xs ys : List X) (i : ℕ) (x : X) → ys ≡ xs → i < length ys → x ≡ get_or ys i x → slice_get xs i ≡ Some x
get_read {X} xs ys i x same low is = subst (λ (zs : List X). slice_get zs i ≡ Some x) same (slice_get-get_or ys i x low ∙ ap (λ (y : X). let r : Option X = Some y in r) (sym is))

-- the diagram of one row more, while the forks grow from `old` over `mid` to `now`
module _ (cover : Cover) (old mid now : List Branch) (first : Keeps old mid) (second : Keeps mid now) (i : ℕ) (row : Row) (marks : List Mark) (at : slice_get cover.rows i ≡ Some row) (same : marks ≡ row.marks)
    (agreed out all r : Ref) (agreed_ref : IsRef mid agreed) (is_agreed : AreMarks mid marks agreed) (is_out : IsConstant cover.output out) (all_ref : IsRef old all)
    (is_all : (x : Inputs) → value_at old all x ≡ first_rows cover i x) (choice : IsChoice now agreed out all r) where
  pub row_made : (x : Inputs) → value_at now r x ≡ first_rows cover (i + 1) x
  row_made =
      row_chosen now cover.width cover.output cover.rows i row at (row_width cover.width cover.output cover.rows cover.valid i row at) agreed out all r
      (λ x. second.values agreed agreed_ref x ∙ is_agreed x ∙ ap (λ (ms : List Mark). agrees ms (inputs_from x 0 (length ms))) same) (is_out now).1
      (λ x. second.values all (first.refs all all_ref) x ∙ first.values all all_ref x ∙ is_all x) choice

  pub row_is_few : (limit : ℕ) (more : Bool) → IsMore (value_at now r) limit more → more ≡ false → HasMoreForks (first_rows cover (i + 1)) limit → ⊥
  row_is_few limit more h is m = subst (λ (b : Bool). IsMore (value_at now r) limit b) is h (same_more (first_rows cover (i + 1)) (value_at now r) limit (λ x. sym (row_made x)) m)

  pub row_is_more : (limit : ℕ) (more : Bool) → IsMore (value_at now r) limit more → more ≡ true → HasMoreForks (first_rows cover (i + 1)) limit
  row_is_more limit more h is = same_more (value_at now r) (first_rows cover (i + 1)) limit row_made (subst (λ (b : Bool). IsMore (value_at now r) limit b) is h)

-- all rows are the cover's
pub all_rows : (cover : Cover) (n : ℕ) (x : Inputs) → n ≡ length cover.rows → first_rows cover n x ≡ cover_function cover x
all_rows cover n x is = ap (λ (rows : List Row). rows_function cover.width cover.output rows x) (ap (λ (k : ℕ). take k cover.rows) is ∙ take-length cover.rows)

pub cover_within : (cover : Cover) (forks : List Branch) (r : Ref) → ((x : Inputs) → value_at forks r x ≡ cover_function cover x) → IsWithin forks r cover.width
cover_within cover forks r value x y same = value x ∙ ap (value_of cover) (same_values x y 0 cover.width (λ k low high. same k (omega arith))) ∙ sym (value y)

-- listed values are those of the first variables
shifted : (x : Inputs) (v n : ℕ) → inputs_from x (suc v) n ≡ inputs_from (λ k. x (suc k)) v n
shifted x v zero = refl
shifted x v (suc n) = let e : suc v + 1 ≡ suc (v + 1) = omega arith in λ i. x (suc v) ∷ (ap (λ (w : ℕ). inputs_from x w n) e ∙ shifted x (v + 1) n) i

listed_back : (values : List Bool) → inputs_from (inputs_of values) 0 (length values) ≡ values
listed_back [] = refl
listed_back (b ∷ values) = ap (λ (bs : List Bool). b ∷ bs) (shifted (inputs_of (b ∷ values)) 0 (length values) ∙ listed_back values)

pub cover_listed : (cover : Cover) (forks : List Branch) (r : Ref) → ((x : Inputs) → value_at forks r x ≡ cover_function cover x) → (values : List Bool) → length values ≡ cover.width → value_at forks r (inputs_of values) ≡ value_of cover values
cover_listed cover forks r value values wide =
    value (inputs_of values) ∙ ap (value_of cover) (ap (λ (n : ℕ). inputs_from (inputs_of values) 0 n) (sym wide) ∙ listed_back values)

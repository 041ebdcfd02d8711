-- Functions of signals with the same key are the same.
use Rattle.std.proofs.Common.{ℕ, ◌≡◌, Bool, true, false, List, [], ◌∷◌, ◌++◌, map, refl, sym, ap, ◌∙◌, append_assoc, arith}
use Rattle.std.specs.List.{flat_map}
use Rattle.act1_logic.specs.declared.cover.Mark.{Mark}
use Rattle.act1_logic.specs.declared.cover.Mark.TheVariants as mark
use Rattle.act1_logic.specs.declared.cover.Row.{Row}
use Rattle.act1_net.specs.declared.gate.Gate.{Gate}
use Rattle.act1_net.specs.Gates.{key_of, mark_number, output_number, row_numbers}

one_mark : (m n : Mark) → mark_number m ≡ mark_number n → m ≡ n
one_mark mark.Zero mark.Zero e = refl
one_mark mark.One mark.One e = refl
one_mark mark.Dash mark.Dash e = refl
one_mark mark.Zero mark.One e = absurd (omega arith)
one_mark mark.Zero mark.Dash e = absurd (omega arith)
one_mark mark.One mark.Zero e = absurd (omega arith)
one_mark mark.One mark.Dash e = absurd (omega arith)
one_mark mark.Dash mark.Zero e = absurd (omega arith)
one_mark mark.Dash mark.One e = absurd (omega arith)

no_three : (m : Mark) → mark_number m ≡ 3 → ⊥
no_three mark.Zero e = absurd (omega arith)
no_three mark.One e = absurd (omega arith)
no_three mark.Dash e = absurd (omega arith)

no_four : (m : Mark) → mark_number m ≡ 4 → ⊥
no_four mark.Zero e = absurd (omega arith)
no_four mark.One e = absurd (omega arith)
no_four mark.Dash e = absurd (omega arith)

one_output : (a b : Bool) → output_number a ≡ output_number b → a ≡ b
one_output true true e = refl
one_output false false e = refl
one_output true false e = absurd (omega arith)
one_output false true e = absurd (omega arith)

heads : (x y : ℕ) (xs ys : List ℕ) → x ∷ xs ≡ y ∷ ys → (x ≡ y) × (xs ≡ ys)
heads x y xs ys e = (cc, cc)

row_parts : (ms ns : List Mark) (xs ys : List ℕ) → (map mark_number ms ++ 3 ∷ []) ++ xs ≡ (map mark_number ns ++ 3 ∷ []) ++ ys → (ms ≡ ns) × (xs ≡ ys)
row_parts [] [] xs ys e = (refl, (heads 3 3 xs ys e).1)
row_parts [] (n ∷ ns) xs ys e = absurd (no_three n (sym (heads 3 (mark_number n) xs ((map mark_number ns ++ 3 ∷ []) ++ ys) e).0))
row_parts (m ∷ ms) [] xs ys e = absurd (no_three m (heads (mark_number m) 3 ((map mark_number ms ++ 3 ∷ []) ++ xs) ys e).0)
row_parts (m ∷ ms) (n ∷ ns) xs ys e =
    let h = heads (mark_number m) (mark_number n) ((map mark_number ms ++ 3 ∷ []) ++ xs) ((map mark_number ns ++ 3 ∷ []) ++ ys) e in
    let first = one_mark m n h.0 in
    let rest = row_parts ms ns xs ys h.1 in
    (ap (λ (k : Mark). k ∷ ms) first ∙ ap (λ (ks : List Mark). n ∷ ks) rest.0, rest.1)

row_first : (ms : List Mark) (rest xs : List ℕ) → (map mark_number ms ++ 3 ∷ []) ++ rest ≡ 4 ∷ xs → ⊥
row_first [] rest xs e = absurd (let h = heads 3 4 rest xs e in let f = h.0 in omega arith)
row_first (m ∷ ms) rest xs e = no_four m (heads (mark_number m) 4 ((map mark_number ms ++ 3 ∷ []) ++ rest) xs e).0

rows_parts : (rows others : List Row) (xs ys : List ℕ) → flat_map row_numbers rows ++ 4 ∷ xs ≡ flat_map row_numbers others ++ 4 ∷ ys → (rows ≡ others) × (xs ≡ ys)
rows_parts [] [] xs ys e = (refl, (heads 4 4 xs ys e).1)
rows_parts [] (o ∷ others) xs ys e = absurd (row_first o.marks (flat_map row_numbers others ++ 4 ∷ ys) xs (sym (e ∙ append_assoc (row_numbers o) (flat_map row_numbers others) (4 ∷ ys))))
rows_parts (r ∷ rows) [] xs ys e = absurd (row_first r.marks (flat_map row_numbers rows ++ 4 ∷ xs) ys (sym (append_assoc (row_numbers r) (flat_map row_numbers rows) (4 ∷ xs)) ∙ e))
rows_parts (r ∷ rows) (o ∷ others) xs ys e =
    let h = row_parts r.marks o.marks (flat_map row_numbers rows ++ 4 ∷ xs) (flat_map row_numbers others ++ 4 ∷ ys)
    (sym (append_assoc (row_numbers r) (flat_map row_numbers rows) (4 ∷ xs)) ∙ e ∙ append_assoc (row_numbers o) (flat_map row_numbers others) (4 ∷ ys)) in
    let rest = rows_parts rows others xs ys h.1 in
    let first : r ≡ o = ap (λ (ms : List Mark). let row : Row = record { marks = ms } in row) h.0 in
    (ap (λ (k : Row). k ∷ rows) first ∙ ap (λ (ks : List Row). o ∷ ks) rest.0, rest.1)

pub one_key : (g h : Gate) → key_of g ≡ key_of h → g ≡ h
one_key g h e =
    let parts = heads (output_number g.output) (output_number h.output) (flat_map row_numbers g.rows ++ 4 ∷ g.inputs) (flat_map row_numbers h.rows ++ 4 ∷ h.inputs) e in
    let output = one_output g.output h.output parts.0 in
    let rest = rows_parts g.rows h.rows g.inputs h.inputs parts.1 in
    λ i. record { inputs = rest.1 i; output = output i; rows = rest.0 i }

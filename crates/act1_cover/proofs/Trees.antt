-- Trees, their values, and the forests that stand for them.
use Rattle.std.proofs.Common.{ℕ, zero, suc, ◌≡◌, ◌&&◌, ◌||◌, ◌==◌, not, Bool, true, false, List, [], ◌∷◌, ◌++◌, length, refl, sym, ap, subst, ◌∙◌, arith}
use Rattle.std.specs.Prelude.{if◌then◌else◌, slice_index_or}
use Rattle.std.specs.List.{list_any}
use Rattle.std.proofs.lemmas.Bool.{false≢true, and_parts}
use Rattle.act1_logic.specs.declared.cover.Mark.{Mark}
use Rattle.act1_logic.specs.declared.cover.Mark.TheVariants as mark
use Rattle.act1_logic.specs.declared.cover.Row.{Row}
use Rattle.act1_logic.specs.Rows.{agrees}
use Rattle.act1_cover.specs.Forests.{Tree, never, always, input, fork, is_same_tree, constant, fork_of, tree_value, diagram, row_chain, chain}
use Rattle.act1_cover.proofs.Totals.{number_same, same_number}

-- trees that are found the same are the same
pub same_tree : (a b : Tree) → is_same_tree a b ≡ true → a ≡ b
same_tree never never e = refl
same_tree always always e = refl
same_tree (input j) (input k) e = ap input (same_number j k e)
same_tree (fork v a b) (fork w c d) e =
    let one = and_parts ((v == w) && is_same_tree a c) (is_same_tree b d) e in
    let two = and_parts (v == w) (is_same_tree a c) one.0 in
    ap (λ (n : ℕ). fork n a b) (same_number v w two.0) ∙ ap (λ (t : Tree). fork w t b) (same_tree a c two.1) ∙ ap (λ (t : Tree). fork w c t) (same_tree b d one.1)
same_tree never always e = absurd (false≢true e)
same_tree never (input k) e = absurd (false≢true e)
same_tree never (fork w c d) e = absurd (false≢true e)
same_tree always never e = absurd (false≢true e)
same_tree always (input k) e = absurd (false≢true e)
same_tree always (fork w c d) e = absurd (false≢true e)
same_tree (input j) never e = absurd (false≢true e)
same_tree (input j) always e = absurd (false≢true e)
same_tree (input j) (fork w c d) e = absurd (false≢true e)
same_tree (fork v a b) never e = absurd (false≢true e)
same_tree (fork v a b) always e = absurd (false≢true e)
same_tree (fork v a b) (input k) e = absurd (false≢true e)

both_true : (a b : Bool) → a ≡ true → b ≡ true → (a && b) ≡ true
both_true true b e f = f
both_true false b e f = absurd (false≢true e)

pub itself : (t : Tree) → is_same_tree t t ≡ true
itself never = refl
itself always = refl
itself (input k) = number_same k k refl
itself (fork v a b) = both_true ((v == v) && is_same_tree a a) (is_same_tree b b) (both_true (v == v) (is_same_tree a a) (number_same v v refl) (itself a)) (itself b)

-- the value of a fork, however it is written
pub fork_value : (xs : List Bool) (v : ℕ) (a b : Tree) → tree_value xs (fork_of v a b) ≡ (if slice_index_or xs v false then tree_value xs b else tree_value xs a)
fork_value xs v a b = by (is_same_tree a b) refl
  where
    one : (d : Bool) → (if d then tree_value xs b else tree_value xs b) ≡ tree_value xs b
    one true = refl
    one false = refl

    bit : (d : Bool) → d ≡ (if d then true else false)
    bit true = refl
    bit false = refl

    other : (t : Bool) → (is_same_tree a never && is_same_tree b always) ≡ t → tree_value xs (if t then input v else fork v a b) ≡ (if slice_index_or xs v false then tree_value xs b else tree_value xs a)
    other false e = refl
    other true e =
        let parts = and_parts (is_same_tree a never) (is_same_tree b always) e in
        let low : tree_value xs a ≡ false = ap (tree_value xs) (same_tree a never parts.0) in
        let high : tree_value xs b ≡ true = ap (tree_value xs) (same_tree b always parts.1) in
        rw (low, high) (bit (slice_index_or xs v false))

    by : (s : Bool) → is_same_tree a b ≡ s → tree_value xs (if s then a else (if is_same_tree a never && is_same_tree b always then input v else fork v a b)) ≡ (if slice_index_or xs v false then tree_value xs b else tree_value xs a)
    by true e = let same : tree_value xs a ≡ tree_value xs b = ap (tree_value xs) (same_tree a b e) in rw same (sym (one (slice_index_or xs v false)))
    by false e = other (is_same_tree a never && is_same_tree b always) refl

regroup : (front ys : List Bool) (y : Bool) → (front ++ y ∷ []) ++ ys ≡ front ++ y ∷ ys
regroup [] ys y = refl
regroup (x ∷ front) ys y = ap (λ (zs : List Bool). x ∷ zs) (regroup front ys y)

longer : (front : List Bool) (y : Bool) → length (front ++ y ∷ []) ≡ suc (length front)
longer [] y = refl
longer (x ∷ front) y = ap suc (longer front y)

at_front : (front ys : List Bool) (y : Bool) → slice_index_or (front ++ y ∷ ys) (length front) false ≡ y
at_front [] ys y = refl
at_front (x ∷ front) ys y = at_front front ys y

choose : (a b : Bool) (h l g m : Bool) → a ≡ b → h ≡ g → l ≡ m → (if a then h else l) ≡ (if b then g else m)
choose true true h l g m d e f = e
choose false false h l g m d e f = f
choose true false h l g m d e f = cc
choose false true h l g m d e f = cc

-- a diagram has its function's value
pub diagram_value : (n : ℕ) (front ys : List Bool) (f : List Bool → Bool) → length ys ≡ n → tree_value (front ++ ys) (diagram n (length front) f) ≡ f ys
diagram_value zero front [] f e = by (f [])
  where
    by : (b : Bool) → tree_value (front ++ []) (constant b) ≡ b
    by true = refl
    by false = refl
diagram_value zero front (y ∷ ys) f e = absurd (omega arith)
diagram_value (suc n) front [] f e = absurd (omega arith)
diagram_value (suc n) front (y ∷ ys) f e =
    fork_value (front ++ y ∷ ys) (length front) (diagram n (suc (length front)) (λ zs. f (false ∷ zs))) (diagram n (suc (length front)) (λ zs. f (true ∷ zs)))
    ∙ choose (slice_index_or (front ++ y ∷ ys) (length front) false) y (tree_value (front ++ y ∷ ys) (diagram n (suc (length front)) (λ zs. f (true ∷ zs)))) (tree_value (front ++ y ∷ ys) (diagram n (suc (length front)) (λ zs. f (false ∷ zs)))) (f (true ∷ ys)) (f (false ∷ ys))
    (at_front front ys y) (part true (diagram_value n (front ++ y ∷ []) ys (λ zs. f (true ∷ zs)) (omega arith))) (part false (diagram_value n (front ++ y ∷ []) ys (λ zs. f (false ∷ zs)) (omega arith)))
    ∙ both y
  where
    part : (b : Bool) → tree_value ((front ++ y ∷ []) ++ ys) (diagram n (length (front ++ y ∷ [])) (λ us. f (b ∷ us))) ≡ f (b ∷ ys) → tree_value (front ++ y ∷ ys) (diagram n (suc (length front)) (λ zs. f (b ∷ zs))) ≡ f (b ∷ ys)
    part b h =
        ap (λ (zs : List Bool). tree_value zs (diagram n (suc (length front)) (λ us. f (b ∷ us)))) (sym (regroup front ys y))
        ∙ ap (λ (k : ℕ). tree_value ((front ++ y ∷ []) ++ ys) (diagram n k (λ us. f (b ∷ us)))) (sym (longer front y))
        ∙ h

    both : (b : Bool) → (if b then f (true ∷ ys) else f (false ∷ ys)) ≡ f (b ∷ ys)
    both true = refl
    both false = refl

-- the chain of a row goes to the one tree where the row agrees, and else to the other
row_value : (matched next : Tree) (front ys : List Bool) (marks : List Mark) → length marks ≡ length ys
    → tree_value (front ++ ys) (row_chain matched next (length front) marks) ≡ (if agrees marks ys then tree_value (front ++ ys) matched else tree_value (front ++ ys) next)
row_value matched next front [] [] e = refl
row_value matched next front (y ∷ ys) [] e = absurd (omega arith)
row_value matched next front [] (m ∷ marks) e = absurd (omega arith)
row_value matched next front (y ∷ ys) (m ∷ marks) e = by m (moved (row_value matched next (front ++ y ∷ []) ys marks (omega arith)))
  where
    moved : tree_value ((front ++ y ∷ []) ++ ys) (row_chain matched next (length (front ++ y ∷ [])) marks) ≡ (if agrees marks ys then tree_value ((front ++ y ∷ []) ++ ys) matched else tree_value ((front ++ y ∷ []) ++ ys) next)
        → tree_value (front ++ y ∷ ys) (row_chain matched next (suc (length front)) marks) ≡ (if agrees marks ys then tree_value (front ++ y ∷ ys) matched else tree_value (front ++ y ∷ ys) next)
    moved h = subst (λ (zs : List Bool). tree_value zs (row_chain matched next (suc (length front)) marks) ≡ (if agrees marks ys then tree_value zs matched else tree_value zs next)) (regroup front ys y)
        (subst (λ (k : ℕ). tree_value ((front ++ y ∷ []) ++ ys) (row_chain matched next k marks) ≡ (if agrees marks ys then tree_value ((front ++ y ∷ []) ++ ys) matched else tree_value ((front ++ y ∷ []) ++ ys) next)) (longer front y) h)

    when_one : (b : Bool) (t u : Bool) → tree_value (front ++ y ∷ ys) (row_chain matched next (suc (length front)) marks) ≡ t → u ≡ tree_value (front ++ y ∷ ys) next → t ≡ (if agrees marks ys then tree_value (front ++ y ∷ ys) matched else tree_value (front ++ y ∷ ys) next)
        → (if b then t else u) ≡ (if b && agrees marks ys then tree_value (front ++ y ∷ ys) matched else tree_value (front ++ y ∷ ys) next)
    when_one true t u e f g = g
    when_one false t u e f g = f

    when_zero : (b : Bool) (t u : Bool) → tree_value (front ++ y ∷ ys) (row_chain matched next (suc (length front)) marks) ≡ t → u ≡ tree_value (front ++ y ∷ ys) next → t ≡ (if agrees marks ys then tree_value (front ++ y ∷ ys) matched else tree_value (front ++ y ∷ ys) next)
        → (if b then u else t) ≡ (if not b && agrees marks ys then tree_value (front ++ y ∷ ys) matched else tree_value (front ++ y ∷ ys) next)
    when_zero true t u e f g = f
    when_zero false t u e f g = g

    by : (m : Mark) → tree_value (front ++ y ∷ ys) (row_chain matched next (suc (length front)) marks) ≡ (if agrees marks ys then tree_value (front ++ y ∷ ys) matched else tree_value (front ++ y ∷ ys) next)
        → tree_value (front ++ y ∷ ys) (row_chain matched next (length front) (m ∷ marks)) ≡ (if agrees (m ∷ marks) (y ∷ ys) then tree_value (front ++ y ∷ ys) matched else tree_value (front ++ y ∷ ys) next)
    by mark.Dash h = h
    by mark.One h =
        fork_value (front ++ y ∷ ys) (length front) next (row_chain matched next (suc (length front)) marks)
        ∙ ap (λ (b : Bool). if b then tree_value (front ++ y ∷ ys) (row_chain matched next (suc (length front)) marks) else tree_value (front ++ y ∷ ys) next) (at_front front ys y)
        ∙ when_one y (tree_value (front ++ y ∷ ys) (row_chain matched next (suc (length front)) marks)) (tree_value (front ++ y ∷ ys) next) refl refl h
    by mark.Zero h =
        fork_value (front ++ y ∷ ys) (length front) (row_chain matched next (suc (length front)) marks) next
        ∙ ap (λ (b : Bool). if b then tree_value (front ++ y ∷ ys) next else tree_value (front ++ y ∷ ys) (row_chain matched next (suc (length front)) marks)) (at_front front ys y)
        ∙ when_zero y (tree_value (front ++ y ∷ ys) (row_chain matched next (suc (length front)) marks)) (tree_value (front ++ y ∷ ys) next) refl refl h

-- each row has as many marks
abbrev pub AreWide : ℕ → List Row → Type 0
AreWide n [] = Unit {0}
AreWide n (row ∷ rows) = (length row.marks ≡ n) × AreWide n rows

pub chain_value : (output : Bool) (rows : List Row) (ys : List Bool) → AreWide (length ys) rows → tree_value ys (chain output rows) ≡ (if list_any (λ (row : Row). agrees row.marks ys) rows then output else not output)
chain_value output [] ys h = by (not output)
  where
    by : (b : Bool) → tree_value ys (constant b) ≡ b
    by true = refl
    by false = refl
chain_value output (row ∷ rows) ys h =
    row_value (constant output) (chain output rows) [] ys row.marks h.0
    ∙ ap (λ (b : Bool). if agrees row.marks ys then tree_value ys (constant output) else b) (chain_value output rows ys h.1)
    ∙ by (agrees row.marks ys) output
  where
    by : (a o : Bool) → (if a then tree_value ys (constant o) else (if list_any (λ (r : Row). agrees r.marks ys) rows then o else not o)) ≡ (if a || list_any (λ (r : Row). agrees r.marks ys) rows then o else not o)
    by true true = refl
    by true false = refl
    by false o = refl

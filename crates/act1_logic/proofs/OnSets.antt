-- The cover of all rows at which a function is 1 is that function.
use Rattle.std.proofs.Common.{ℕ, zero, suc, ◌≡◌, ◌||◌, Bool, true, false, not, cond, List, [], ◌∷◌, length, map, refl, sym, ap, ◌∙◌, arith}
use Rattle.std.specs.Prelude.{if◌then◌else◌, filter}
use Rattle.std.specs.List.{list_any}
use Rattle.std.proofs.lemmas.List.Folds.{list_any-append}
use Rattle.std.proofs.lemmas.List.Elements.{filter-append}
use Rattle.act1_logic.specs.declared.cover.Mark.{Mark}
use Rattle.act1_logic.specs.declared.cover.Row.{Row}
use Rattle.act1_logic.specs.OnSets.{combinations, mark_of, OnSetsHaveValues}
use Rattle.act1_logic.specs.Rows.{agrees}

any_map : {X Y : Type 0} (p : Y → Bool) (g : X → Y) (xs : List X) → list_any p (map g xs) ≡ list_any (λ x. p (g x)) xs
any_map p g [] = refl
any_map p g (x ∷ xs) = ap (λ (b : Bool). p (g x) || b) (any_map p g xs)

any_same : {X : Type 0} (p q : X → Bool) (xs : List X) → ((x : X) → p x ≡ q x) → list_any p xs ≡ list_any q xs
any_same p q [] h = refl
any_same p q (x ∷ xs) h = rw (h x, any_same p q xs h) refl

any_none : {X : Type 0} (xs : List X) → list_any (λ x. false) xs ≡ false
any_none [] = refl
any_none (x ∷ xs) = any_none xs

filter_map_swap : {X Y : Type 0} (f : Y → Bool) (g : X → Y) (xs : List X) → filter f (map g xs) ≡ map g (filter (λ x. f (g x)) xs)
filter_map_swap f g [] = refl
filter_map_swap {X = X} {Y = Y} f g (x ∷ xs) = by (f (g x)) (filter_map_swap f g xs)
  where
    by : (b : Bool) → filter f (map g xs) ≡ map g (filter (λ x. f (g x)) xs) → cond b (g x ∷ filter f (map g xs)) (filter f (map g xs)) ≡ map g (cond b (x ∷ filter (λ x. f (g x)) xs) (filter (λ x. f (g x)) xs))
    by true h = ap (λ (ys : List Y). g x ∷ ys) h
    by false h = h

matches : List Bool → List Bool → Bool
matches xs ys = agrees (map mark_of ys) xs

or_false : (b : Bool) → (b || false) ≡ b
or_false true = refl
or_false false = refl

none_false : (xs : List Bool) (f : List Bool → Bool) (cs : List (List Bool)) → list_any (matches (true ∷ xs)) (filter f (map (λ (ys : List Bool). false ∷ ys) cs)) ≡ false
unfolding matches
none_false xs f cs =
    ap (list_any (matches (true ∷ xs))) (filter_map_swap f (λ (ys : List Bool). false ∷ ys) cs) ∙ any_map (matches (true ∷ xs)) (λ (ys : List Bool). false ∷ ys) (filter (λ ys. f (false ∷ ys)) cs)
    ∙ any_none (filter (λ ys. f (false ∷ ys)) cs)

none_true : (xs : List Bool) (f : List Bool → Bool) (cs : List (List Bool)) → list_any (matches (false ∷ xs)) (filter f (map (λ (ys : List Bool). true ∷ ys) cs)) ≡ false
unfolding matches
none_true xs f cs =
    ap (list_any (matches (false ∷ xs))) (filter_map_swap f (λ (ys : List Bool). true ∷ ys) cs) ∙ any_map (matches (false ∷ xs)) (λ (ys : List Bool). true ∷ ys) (filter (λ ys. f (true ∷ ys)) cs)
    ∙ any_none (filter (λ ys. f (true ∷ ys)) cs)

some_false : (xs : List Bool) (f : List Bool → Bool) (cs : List (List Bool)) → list_any (matches (false ∷ xs)) (filter f (map (λ (ys : List Bool). false ∷ ys) cs)) ≡ list_any (matches xs) (filter (λ ys. f (false ∷ ys)) cs)
unfolding matches
some_false xs f cs =
    ap (list_any (matches (false ∷ xs))) (filter_map_swap f (λ (ys : List Bool). false ∷ ys) cs) ∙ any_map (matches (false ∷ xs)) (λ (ys : List Bool). false ∷ ys) (filter (λ ys. f (false ∷ ys)) cs)

some_true : (xs : List Bool) (f : List Bool → Bool) (cs : List (List Bool)) → list_any (matches (true ∷ xs)) (filter f (map (λ (ys : List Bool). true ∷ ys) cs)) ≡ list_any (matches xs) (filter (λ ys. f (true ∷ ys)) cs)
unfolding matches
some_true xs f cs =
    ap (list_any (matches (true ∷ xs))) (filter_map_swap f (λ (ys : List Bool). true ∷ ys) cs) ∙ any_map (matches (true ∷ xs)) (λ (ys : List Bool). true ∷ ys) (filter (λ ys. f (true ∷ ys)) cs)

-- among the inputs at which f is 1 these are, if f is 1 there
one_row : (n : ℕ) (f : List Bool → Bool) (xs : List Bool) → length xs ≡ n → list_any (matches xs) (filter f (combinations n)) ≡ f xs
unfolding matches
one_row zero f [] e = by (f [])
  where
    by : (b : Bool) → list_any (λ ys. agrees (map mark_of ys) []) (cond b ([] ∷ []) []) ≡ b
    by true = refl
    by false = refl
one_row zero f (x ∷ xs) e = absurd (omega arith)
one_row (suc n) f [] e = absurd (omega arith)
one_row (suc n) f (false ∷ xs) e =
    let cs = combinations n in
    ap (list_any (matches (false ∷ xs))) (filter-append f (map (λ (ys : List Bool). false ∷ ys) cs) (map (λ (ys : List Bool). true ∷ ys) cs))
    ∙ list_any-append (matches (false ∷ xs)) (filter f (map (λ (ys : List Bool). false ∷ ys) cs)) (filter f (map (λ (ys : List Bool). true ∷ ys) cs))
    ∙ ap (λ (b : Bool). list_any (matches (false ∷ xs)) (filter f (map (λ (ys : List Bool). false ∷ ys) cs)) || b) (none_true xs f cs)
    ∙ or_false (list_any (matches (false ∷ xs)) (filter f (map (λ (ys : List Bool). false ∷ ys) cs)))
    ∙ some_false xs f cs ∙ one_row n (λ ys. f (false ∷ ys)) xs (omega arith)
one_row (suc n) f (true ∷ xs) e =
    let cs = combinations n in
    ap (list_any (matches (true ∷ xs))) (filter-append f (map (λ (ys : List Bool). false ∷ ys) cs) (map (λ (ys : List Bool). true ∷ ys) cs))
    ∙ list_any-append (matches (true ∷ xs)) (filter f (map (λ (ys : List Bool). false ∷ ys) cs)) (filter f (map (λ (ys : List Bool). true ∷ ys) cs))
    ∙ ap (λ (b : Bool). b || list_any (matches (true ∷ xs)) (filter f (map (λ (ys : List Bool). true ∷ ys) cs))) (none_false xs f cs)
    ∙ some_true xs f cs ∙ one_row n (λ ys. f (true ∷ ys)) xs (omega arith)

chosen : (a output : Bool) → output ≡ true → (if a then output else not output) ≡ a
chosen true output e = e
chosen false true e = refl
chosen false false e = sym e

pub on_sets_have_values : OnSetsHaveValues
unfolding matches
on_sets_have_values n f cover xs h e =
    chosen (list_any (λ (row : Row). agrees row.marks xs) cover.rows) cover.output h.output
    ∙ sym (any_map (λ (ms : List Mark). agrees ms xs) (λ (row : Row). row.marks) cover.rows)
    ∙ ap (list_any (λ (ms : List Mark). agrees ms xs)) h.rows
    ∙ any_map (λ (ms : List Mark). agrees ms xs) (map mark_of) (filter f (combinations n))
    ∙ one_row n f xs e

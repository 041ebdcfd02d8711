-- The names `m` with a number that isn't taken: they differ, are names, and are enough.
use Rattle.std.proofs.Common.{ℕ, suc, zero, ◌≡◌, ◌≢◌, ◌<◌, ◌≤◌, ◌+◌, ◌^◌, ◌⊎◌, ◌||◌, ◌&&◌, not, Bool, true, false, List, [], ◌∷◌, ◌++◌, length, map, Some, refl, sym, ap, subst, ◌∙◌, inl, inr, arith}
use Rattle.std.specs.Prelude.{if◌then◌else◌, slice_get, slice_index, nat_le, codes, ◌==◌, ◌-◌}
use Rattle.std.specs.Fmt.{decimal}
use Rattle.std.specs.List.{list_all, list_any}
use Rattle.std.specs.Str.{bytes_eq}
use Rattle.std.proofs.lemmas.Bool.{cases_lt, false≢true}
use Rattle.std.proofs.lemmas.Fmt.{decimal_injective}
use Rattle.std.proofs.lemmas.List.Folds.{list_any-append}
use Rattle.std.proofs.lemmas.Slice.Eq.{bytes_eq-Decides}
use Rattle.std.specs.Prelude.{option_to_list}
use Rattle.act1_circuit.specs.declared.circuit.Circuit.{Circuit}
use Rattle.act1_circuit.specs.declared.circuit.Output.{Output}
use Rattle.act1_circuit.specs.declared.circuit.Start.{Start}
use Rattle.act1_meaning.specs.Extracted.{count_below}
use Rattle.act1_meaning.specs.ArrayNames.{is_free, module_name, taken_names}
use Rattle.act1_extract.specs.Parts.{free_names}
use Rattle.act1_extract.specs.Picked.{ArePicked}
use Rattle.act1_extract.proofs.Picks.{none_picked, picked_more, picked_same, counted, skipped, place_found, same_number}

nothing_more : {X : Type 0} (xs : List X) → xs ++ [] ≡ xs
nothing_more [] = refl
nothing_more (x ∷ xs) = ap (λ (ys : List _). x ∷ ys) (nothing_more xs)

pub free_picked : (c : Circuit) (n : ℕ) → ArePicked (is_free c) n (λ k name. name ≡ module_name k) (free_names c n)
free_picked c zero = none_picked (is_free c) (λ k name. name ≡ module_name k)
free_picked c (suc n) = by (is_free c n) refl (free_picked c n)
  where
    by : (b : Bool) → is_free c n ≡ b → ArePicked (is_free c) n (λ k name. name ≡ module_name k) (free_names c n)
        → ArePicked (is_free c) (suc n) (λ k name. name ≡ module_name k) (free_names c n ++ (if b then module_name n ∷ [] else []))
    by true e h = picked_more (is_free c) (λ k name. name ≡ module_name k) n (free_names c n) (module_name n) h e refl
    by false e h = subst (λ (xs : List (List ℕ)). ArePicked (is_free c) (suc n) (λ k name. name ≡ module_name k) xs) (sym (nothing_more (free_names c n))) (picked_same (is_free c) (λ k name. name ≡ module_name k) n (free_names c n) h e)

pub one_number : (m n : ℕ) → m < 2 ^ 64 → n < 2 ^ 64 → module_name m ≡ module_name n → m ≡ n
one_number m n low high e = decimal_injective m n low high (rest (decimal m) (decimal n) e)
  where
    rest : (xs ys : List ℕ) → 109 ∷ xs ≡ 109 ∷ ys → xs ≡ ys
    rest xs ys e = cc

-- where g passes wherever f passes and no hit is, it passes as often but for the hits
lose_few : (f g hit : ℕ → Bool) (n : ℕ) → ((k : ℕ) → k < n → f k ≡ true → hit k ≡ false → g k ≡ true) → count_below f n ≤ count_below g n + count_below hit n
lose_few f g hit zero h = omega arith
lose_few f g hit (suc n) h = by (f n) (g n) (hit n) refl refl refl (lose_few f g hit n (λ k low. h k (omega arith)))
  where
    by : (a b d : Bool) → f n ≡ a → g n ≡ b → hit n ≡ d → count_below f n ≤ count_below g n + count_below hit n → count_below f (suc n) ≤ count_below g (suc n) + count_below hit (suc n)
    by false false false e i j r = let x = skipped f n e in let y = skipped g n i in let z = skipped hit n j in omega arith
    by false false true e i j r = let x = skipped f n e in let y = skipped g n i in let z = counted hit n j in omega arith
    by false true false e i j r = let x = skipped f n e in let y = counted g n i in let z = skipped hit n j in omega arith
    by false true true e i j r = let x = skipped f n e in let y = counted g n i in let z = counted hit n j in omega arith
    by true false false e i j r = absurd (false≢true (sym i ∙ h n (omega arith) e j))
    by true false true e i j r = let x = counted f n e in let y = skipped g n i in let z = counted hit n j in omega arith
    by true true false e i j r = let x = counted f n e in let y = counted g n i in let z = skipped hit n j in omega arith
    by true true true e i j r = let x = counted f n e in let y = counted g n i in let z = counted hit n j in omega arith

-- a test that no two numbers pass is passed at most once
at_most_once : (hit : ℕ → Bool) (n : ℕ) → ((j k : ℕ) → j < n → k < n → hit j ≡ true → hit k ≡ true → j ≡ k) → count_below hit n ≤ 1
at_most_once hit n one = by (cases_lt 1 (count_below hit n))
  where
    by : (1 < count_below hit n) ⊎ (count_below hit n ≤ 1) → count_below hit n ≤ 1
    by (inr low) = low
    by (inl high) =
        let a = place_found hit n 0 (omega arith) in
        let b = place_found hit n 1 (omega arith) in
        let same : count_below hit a.0 ≡ count_below hit b.0 = ap (count_below hit) (one a.0 b.0 a.1 b.1 a.2 b.2) in
        let x = a.3 in
        let y = b.3 in
        absurd (omega arith)

-- the number isn't that of one of these names
free_of : List (List ℕ) → ℕ → Bool
free_of names k = not (list_any (bytes_eq (module_name k)) names)

all_count : (n : ℕ) → count_below (free_of []) n ≡ n
unfolding free_of
all_count zero = refl
all_count (suc n) = let h = all_count n in let k = counted (free_of []) n refl in omega arith

enough : (names : List (List ℕ)) (n : ℕ) → n < 2 ^ 64 → n ≤ count_below (free_of names) n + length names
unfolding free_of
enough [] n low = let h = all_count n in omega arith
enough (name ∷ names) n low =
    let rest = enough names n low in
    let lost = lose_few (free_of names) (free_of (name ∷ names)) (λ k. bytes_eq (module_name k) name) n (λ k small e f. other (bytes_eq (module_name k) name) (list_any (bytes_eq (module_name k)) names) f e) in
    let once = at_most_once (λ k. bytes_eq (module_name k) name) n (λ j k small high e f.
    one_number j k (omega arith) (omega arith) ((bytes_eq-Decides (module_name j) name).0 e ∙ sym ((bytes_eq-Decides (module_name k) name).0 f))) in
    omega arith
  where
    other : (a b : Bool) → a ≡ false → not b ≡ true → not (a || b) ≡ true
    other false b e f = f
    other true b e f = absurd (false≢true (sym e))

-- below a number there are all free names but those that are taken
pub names_enough : (c : Circuit) (n : ℕ) → n < 2 ^ 64 → n ≤ count_below (is_free c) n + length (taken_names c)
unfolding free_of
names_enough c n low = enough (taken_names c) n low

-- a name is taken where one of the four lists has it
pub any_taken : {X : Type 0} (p : X → Bool) (ks ls ms ns : List X) → list_any p (ks ++ ls ++ ms ++ ns) ≡ (list_any p ks || list_any p ls || list_any p ms || list_any p ns)
any_taken p ks ls ms ns = rw (list_any-append p (ks ++ ls ++ ms) ns, list_any-append p (ks ++ ls) ms, list_any-append p ks ls) refl

any_map : {X Y : Type 0} (p : Y → Bool) (f : X → Y) (xs : List X) → list_any p (map f xs) ≡ list_any (λ x. p (f x)) xs
any_map p f [] = refl
any_map p f (x ∷ xs) = ap (λ (b : Bool). p (f x) || b) (any_map p f xs)

pub taken_any : (c : Circuit) (name : List ℕ) (one two three four result : Bool) → one ≡ list_any (bytes_eq name) (option_to_list c.clock) → two ≡ list_any (bytes_eq name) c.inputs
    → three ≡ list_any (λ (o : Output). bytes_eq name o.name) c.outputs → four ≡ list_any (λ (s : Start). bytes_eq name s.name) c.starts → result ≡ (one || two || three || four) → result ≡ list_any (bytes_eq name) (taken_names c)
taken_any c name one two three four result e1 e2 e3 e4 e5 =
    e5 ∙ (λ i. e1 i || e2 i || (e3 ∙ sym (any_map (bytes_eq name) (λ (o : Output). o.name) c.outputs)) i || (e4 ∙ sym (any_map (bytes_eq name) (λ (s : Start). s.name) c.starts)) i)
    ∙ sym (any_taken (bytes_eq name) (option_to_list c.clock) c.inputs (map (λ (o : Output). o.name) c.outputs) (map (λ (s : Start). s.name) c.starts))

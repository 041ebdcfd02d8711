-- The rows of an on-set have the width of its inputs, and are few.
use Rattle.std.proofs.Common.{ℕ, suc, zero, ◌≡◌, ◌<◌, ◌≤◌, ◌+◌, ◌*◌, ◌^◌, ◌&&◌, ◌||◌, cond, not, Bool, true, false, List, [], ◌∷◌, ◌++◌, length, map, get_or, sum_by, Some, refl, sym, ap, subst, ◌∙◌, arith}
use Rattle.std.specs.Prelude.{IsTrue, filter, slice_get, nat_le, nat_lt, ◌==◌, if◌then◌else◌}
use Rattle.std.specs.List.{list_all}
use Rattle.std.proofs.lemmas.Bool.{false≢true}
use Rattle.std.proofs.lemmas.List.{length-append, length-map}
use Rattle.std.proofs.lemmas.List.Sums.{sum_by-cons}
use Rattle.act1_logic.specs.declared.cover.Mark.{Mark}
use Rattle.act1_logic.specs.declared.cover.Row.{Row}
use Rattle.act1_logic.specs.OnSets.{combinations, mark_of}
use Rattle.act1_logic.specs.Rows.{is_cover}
use Rattle.act1_circuit.specs.declared.circuit.Source.{Source}
use Rattle.act1_meaning.specs.Extracted.{different, is_constant, is_same}
use Rattle.act1_extract.specs.Parts.{marks_in}
use Rattle.act1_extract.proofs.Tests.{equal, equals, joined, less, most}

parts : (a b : Bool) → (a && b) ≡ true → (a ≡ true) × (b ≡ true)
parts true b e = (refl, e)
parts false b e = absurd (false≢true e)

all_both : {X : Type 0} (p : X → Bool) (xs ys : List X) → list_all p xs ≡ true → list_all p ys ≡ true → list_all p (xs ++ ys) ≡ true
all_both p [] ys e f = f
all_both p (x ∷ xs) ys e f = let r = parts (p x) (list_all p xs) e in joined (p x) (list_all p (xs ++ ys)) r.0 (all_both p xs ys r.1 f)

one_longer : (bit : Bool) (n : ℕ) (xs : List (List Bool)) → list_all (λ ys. length ys == n) xs ≡ true → list_all (λ ys. length ys == suc n) (map (λ (ys : List Bool). bit ∷ ys) xs) ≡ true
one_longer bit n [] e = refl
one_longer bit n (x ∷ xs) e =
    let r = parts (length x == n) (list_all (λ ys. length ys == n) xs) e in
    let is : length x ≡ n = equals (length x) n r.0 in
    joined (length (bit ∷ x) == suc n) (list_all (λ ys. length ys == suc n) (map (λ (ys : List Bool). bit ∷ ys) xs)) (equal (length (bit ∷ x)) (suc n) (omega arith)) (one_longer bit n xs r.1)

all_long : (n : ℕ) → list_all (λ ys. length ys == n) (combinations n) ≡ true
all_long zero = refl
all_long (suc n) =
    all_both (λ ys. length ys == suc n) (map (λ (ys : List Bool). false ∷ ys) (combinations n)) (map (λ (ys : List Bool). true ∷ ys) (combinations n)) (one_longer false n (combinations n) (all_long n)) (one_longer true n (combinations n) (all_long n))

all_at : {X : Type 0} (p : X → Bool) (xs : List X) (i : ℕ) (x : X) → list_all p xs ≡ true → i < length xs → x ≡ get_or xs i x → p x ≡ true
all_at p [] i x e low is = absurd (omega arith)
all_at p (y ∷ xs) zero x e low is = ap p is ∙ (parts (p y) (list_all p xs) e).0
all_at p (y ∷ xs) (suc i) x e low is = all_at p xs i x (parts (p y) (list_all p xs) e).1 (omega arith) is

-- what a loop over all combinations reads has their width
pub read_long : (n : ℕ) (all : List (List Bool)) (i : ℕ) (x : List Bool) → all ≡ combinations n → i < length all → x ≡ get_or all i x → length x ≡ n
read_long n all i x e low is = equals (length x) n (all_at (λ ys. length ys == n) all i x (ap (list_all (λ ys. length ys == n)) e ∙ all_long n) low is)

all_kept : {X : Type 0} (p q : X → Bool) (xs : List X) → list_all p xs ≡ true → list_all p (filter q xs) ≡ true
all_kept p q [] e = refl
all_kept p q (x ∷ xs) e = let r = parts (p x) (list_all p xs) e in by (q x) r.0 (all_kept p q xs r.1)
  where
    by : (b : Bool) → p x ≡ true → list_all p (filter q xs) ≡ true → list_all p (cond b (x ∷ filter q xs) (filter q xs)) ≡ true
    by true f g = joined (p x) (list_all p (filter q xs)) f g
    by false f g = g

all_marked : (n : ℕ) (xs : List (List Bool)) → list_all (λ ys. length ys == n) xs ≡ true → list_all (λ ms. length ms == n) (map (map mark_of) xs) ≡ true
all_marked n [] e = refl
all_marked n (x ∷ xs) e =
    let r = parts (length x == n) (list_all (λ ys. length ys == n) xs) e in
    joined (length (map mark_of x) == n) (list_all (λ ms. length ms == n) (map (map mark_of) xs)) (ap (λ (k : ℕ). k == n) (length-map x mark_of) ∙ r.0) (all_marked n xs r.1)

rows_marks : (n : ℕ) (rows : List Row) → list_all (λ (row : Row). length row.marks == n) rows ≡ list_all (λ ms. length ms == n) (marks_in rows)
rows_marks n [] = refl
rows_marks n (row ∷ rows) = ap (λ (b : Bool). (length row.marks == n) && b) (rows_marks n rows)

fewer : {X : Type 0} (p : X → Bool) (xs : List X) → length (filter p xs) ≤ length xs
fewer p [] = omega arith
fewer p (x ∷ xs) = by (p x) (fewer p xs)
  where
    by : (b : Bool) → length (filter p xs) ≤ length xs → length (cond b (x ∷ filter p xs) (filter p xs)) ≤ suc (length xs)
    by true h = omega arith
    by false h = omega arith

pub different_few : (ss : List Source) → length (different ss) ≤ length ss
different_few [] = omega arith
different_few (s ∷ ss) = by (is_constant s) (different_few ss) (fewer (λ t. not (is_same s t)) (different ss))
  where
    by : (b : Bool) → length (different ss) ≤ length ss → length (filter (λ t. not (is_same s t)) (different ss)) ≤ length (different ss)
        → length (if b then different ss else s ∷ filter (λ t. not (is_same s t)) (different ss)) ≤ suc (length ss)
    by true h k = omega arith
    by false h k = omega arith

doubled : (n : ℕ) → length (combinations (suc n)) ≡ length (combinations n) + length (combinations n)
doubled n =
    omega (arith, length-append (map (λ (ys : List Bool). false ∷ ys) (combinations n)) (map (λ (ys : List Bool). true ∷ ys) (combinations n)), length-map (combinations n) (λ (ys : List Bool). false ∷ ys), length-map (combinations n) (λ (ys : List Bool). true ∷ ys))

few_combinations : (k n : ℕ) → n ≤ k → length (combinations n) ≤ length (combinations k)
few_combinations zero zero low = omega arith
few_combinations zero (suc n) low = absurd (omega arith)
few_combinations (suc k) zero low = let h = few_combinations k zero (omega arith) in let d = doubled k in omega arith
few_combinations (suc k) (suc n) low = let h = few_combinations k n (omega arith) in let d = doubled k in let e = doubled n in omega arith

all_sum : (n : ℕ) (rows : List Row) → list_all (λ (row : Row). length row.marks == n) rows ≡ true → sum_by (λ (row : Row). length row.marks) rows ≡ length rows * n
all_sum n [] e = omega arith
all_sum n (row ∷ rows) e =
    let r = parts (length row.marks == n) (list_all (λ (row : Row). length row.marks == n) rows) e in
    let is = equals (length row.marks) n r.0 in
    sum_by-cons (λ (row : Row). length row.marks) row rows ∙ (λ i. is i + all_sum n rows r.1 i) ∙ more (length rows)
  where
    more : (k : ℕ) → n + k * n ≡ suc k * n
    more k = omega arith

-- the rows of a function of few inputs make a cover
pub on_rows : (n : ℕ) (f : List Bool → Bool) (rows : List Row) → n ≤ 8 → marks_in rows ≡ map (map mark_of) (filter f (combinations n)) → IsTrue (is_cover n true rows)
on_rows n f rows small is =
    let all : list_all (λ (row : Row). length row.marks == n) rows ≡ true = rows_marks n rows ∙ ap (list_all (λ ms. length ms == n)) is ∙ all_marked n (filter f (combinations n)) (all_kept (λ ys. length ys == n) f (combinations n) (all_long n)) in
    let count : length rows ≤ 256 = (let a = ap length is in let b = fewer f (combinations n) in let d = few_combinations 8 n small in let e : length (combinations 8) ≡ 256 = refl in
    omega (arith, length-map rows (λ (row : Row). row.marks), length-map (filter f (combinations n)) (map mark_of))) in
    let sum = all_sum n rows all in
    let low : sum_by (λ (row : Row). length row.marks) rows < 2 ^ 32 = bounded (length rows) n (sum_by (λ (row : Row). length row.marks) rows) count small sum in
    joined (nat_le n 64 && list_all (λ (row : Row). length row.marks == n) rows && nat_lt (sum_by (λ (row : Row). length row.marks) rows) (2 ^ 32)) (true || nat_lt 0 (length rows))
    (joined (nat_le n 64 && list_all (λ (row : Row). length row.marks == n) rows) (nat_lt (sum_by (λ (row : Row). length row.marks) rows) (2 ^ 32))
    (joined (nat_le n 64) (list_all (λ (row : Row). length row.marks == n) rows) (most n 64 (omega arith)) all) (less (sum_by (λ (row : Row). length row.marks) rows) (2 ^ 32) low)) refl
  where
    bounded : (k m s : ℕ) → k ≤ 256 → m ≤ 8 → s ≡ k * m → s < 2 ^ 32
    bounded k zero s few low e = omega arith
    bounded k (suc zero) s few low e = omega arith
    bounded k (suc (suc zero)) s few low e = omega arith
    bounded k (suc (suc (suc zero))) s few low e = omega arith
    bounded k (suc (suc (suc (suc zero)))) s few low e = omega arith
    bounded k (suc (suc (suc (suc (suc zero))))) s few low e = omega arith
    bounded k (suc (suc (suc (suc (suc (suc zero)))))) s few low e = omega arith
    bounded k (suc (suc (suc (suc (suc (suc (suc zero))))))) s few low e = omega arith
    bounded k (suc (suc (suc (suc (suc (suc (suc (suc zero)))))))) s few low e = omega arith
    bounded k (suc (suc (suc (suc (suc (suc (suc (suc (suc m))))))))) s few low e = absurd (omega arith)

-- The long wires of the array that span all channels, and how many they are.
use Rattle.std.proofs.Common.{ℕ, zero, suc, ◌≡◌, ◌+◌, ◌*◌, ◌==◌, Bool, true, cond, List, [], ◌∷◌, ◌++◌, length, map, Some, refl, sym, ap, subst, ◌∙◌, arith, slice_get, get_or, Contains, suc-mul}
use Rattle.std.specs.Prelude.{filter, flat_map, count_by}
use Rattle.std.proofs.lemmas.Bool.{and_parts, eqb-true}
use Rattle.std.proofs.lemmas.List.Concat.{flat_map-cons}
use Rattle.std.proofs.lemmas.List.Sums.{sum_by-cons, sum_by-append, length-filter}
use Rattle.std.proofs.lemmas.Option.{get_or_from_slice_get}
use Rattle.act1_device.specs.declared.device.Device.{Device}
use Rattle.act1_device.specs.Sites.{long_at}
use Rattle.act1_base.specs.Lists.{numbers}
use Rattle.act1_groute.specs.Nets.{lowest, highest}
use Rattle.act1_groute.specs.declared.net.LongWire.{LongWire}
use Rattle.act1_groute.specs.Routes.{long_line, all_longs}
use Rattle.act1_base.proofs.Distinct.{Differ, differ_numbers, differ_map, differ_flat}
use Rattle.act1_base.proofs.Elements.{mapped}
use Rattle.act1_ample.specs.Ample.{spans_all, count_spanning}

-- this one spans all channels
abbrev pub spans : Device → LongWire → Bool
spans dev w = spans_all dev (long_at dev w.index)

-- all that do
abbrev pub spanning : Device → List LongWire
spanning dev = filter (spans dev) (all_longs dev)

pub low_end : (dev : Device) (w : LongWire) → spans dev w ≡ true → lowest dev (long_line w) ≡ 0
low_end dev w e = eqb-true (long_at dev w.index).low 0 (and_parts ((long_at dev w.index).low == 0) ((long_at dev w.index).high == dev.rows) e).0

pub high_end : (dev : Device) (w : LongWire) → spans dev w ≡ true → highest dev (long_line w) ≡ dev.rows
high_end dev w e = eqb-true (long_at dev w.index).high dev.rows (and_parts ((long_at dev w.index).low == 0) ((long_at dev w.index).high == dev.rows) e).1

-- long wires differ
pub longs_differ : (dev : Device) → Differ (all_longs dev)
longs_differ dev = differ_flat (λ column. map (λ index. let w : LongWire = record { column = column; index = index } in w) (numbers 0 (length dev.longs))) (numbers 0 dev.columns) each one (differ_numbers 0 dev.columns)
  where
    each : (column : ℕ) → Differ (map (λ index. let w : LongWire = record { column = column; index = index } in w) (numbers 0 (length dev.longs)))
    each column = differ_map (λ index. let w : LongWire = record { column = column; index = index } in w) (numbers 0 (length dev.longs)) (λ a b e. ap (λ (w : LongWire). w.index) e) (differ_numbers 0 (length dev.longs))

    one : (a b : ℕ) (w : LongWire) → Contains (map (λ index. let w : LongWire = record { column = a; index = index } in w) (numbers 0 (length dev.longs))) w
        → Contains (map (λ index. let w : LongWire = record { column = b; index = index } in w) (numbers 0 (length dev.longs))) w → a ≡ b
    one a b w h k =
        let r = mapped (λ index. let w : LongWire = record { column = a; index = index } in w) (numbers 0 (length dev.longs)) w h in
        let s = mapped (λ index. let w : LongWire = record { column = b; index = index } in w) (numbers 0 (length dev.longs)) w k in
        ap (λ (w : LongWire). w.column) (r.2 ∙ sym s.2)

-- what is counted by their numbers is counted by the elements
module _ {X : Type 0} (test : X → Bool) (xs : List X) (d : X) where
  by_number : (rest : List X) (first : ℕ) → ((i : ℕ) (x : X) → slice_get rest i ≡ Some x → get_or xs (first + i) d ≡ x) → count_by (λ i. test (get_or xs i d)) (numbers first (length rest)) ≡ count_by test rest
  by_number [] first at = refl
  by_number (x ∷ rest) first at =
      let more = by_number rest (first + 1) (λ i y e. next i y e) in
      let left : count_by (λ i. test (get_or xs i d)) (numbers first (suc (length rest))) ≡ cond (test (get_or xs first d)) 1 0 + count_by (λ i. test (get_or xs i d)) (numbers (first + 1) (length rest)) =
      sum_by-cons (λ i. cond (test (get_or xs i d)) 1 0) first (numbers (first + 1) (length rest)) in
      let right : count_by test (x ∷ rest) ≡ cond (test x) 1 0 + count_by test rest = sum_by-cons (λ y. cond (test y) 1 0) x rest in
      let same : cond (test (get_or xs first d)) 1 0 ≡ cond (test x) 1 0 = ap (λ (y : X). let n : ℕ = cond (test y) 1 0 in n) here_is in
      omega (arith, more, left, right, same)
    where
      here_is : get_or xs first d ≡ x
      here_is = let none : first + 0 ≡ first = omega arith in subst (λ (k : ℕ). get_or xs k d ≡ x) none (at 0 x refl)

      next : (i : ℕ) (y : X) → slice_get rest i ≡ Some y → get_or xs (first + 1 + i) d ≡ y
      next i y e = let same : first + suc i ≡ first + 1 + i = omega arith in subst (λ (k : ℕ). get_or xs k d ≡ y) same (at (suc i) y e)

  all_by_number : count_by (λ i. test (get_or xs i d)) (numbers 0 (length xs)) ≡ count_by test xs
  all_by_number = by_number xs 0 (λ i x e. let same : i ≡ 0 + i = omega arith in subst (λ (k : ℕ). get_or xs k d ≡ x) same (get_or_from_slice_get xs i x d e))

-- a filter counts what it keeps of lists of lists
module _ {X Y : Type 0} (test : Y → Bool) (f : X → List Y) (count : ℕ) (each : (x : X) → count_by test (f x) ≡ count) where
  counted_flat : (xs : List X) → count_by test (flat_map f xs) ≡ length xs * count
  counted_flat [] = omega arith
  counted_flat (x ∷ xs) =
      let rest = counted_flat xs in
      let both : count_by test (f x ++ flat_map f xs) ≡ count_by test (f x) + count_by test (flat_map f xs) = sum_by-append (λ y. cond (test y) 1 0) (f x) (flat_map f xs) in
      let split : count_by test (flat_map f (x ∷ xs)) ≡ count_by test (f x ++ flat_map f xs) = ap (count_by test) (flat_map-cons f x xs) in
      let first = each x in
      split ∙ both ∙ sums (count_by test (f x)) (count_by test (flat_map f xs)) first rest
    where
      sums : (a b : ℕ) → a ≡ count → b ≡ length xs * count → a + b ≡ suc (length xs) * count
      sums a b e g = let k = suc-mul (length xs) count in omega (arith, e, g, k)

counted_map : {X Y : Type 0} (test : Y → Bool) (f : X → Y) (xs : List X) → count_by test (map f xs) ≡ count_by (λ x. test (f x)) xs
counted_map test f [] = refl
counted_map test f (x ∷ xs) =
    let rest = counted_map test f xs in
    let left : count_by test (f x ∷ map f xs) ≡ cond (test (f x)) 1 0 + count_by test (map f xs) = sum_by-cons (λ y. cond (test y) 1 0) (f x) (map f xs) in
    let right : count_by (λ y. test (f y)) (x ∷ xs) ≡ cond (test (f x)) 1 0 + count_by (λ y. test (f y)) xs = sum_by-cons (λ y. cond (test (f y)) 1 0) x xs in
    omega (arith, rest, left, right)

pub length_numbers : (first count : ℕ) → length (numbers first count) ≡ count
length_numbers first zero = refl
length_numbers first (suc count) = ap suc (length_numbers (first + 1) count)

-- each column has all of them
pub how_many_span : (dev : Device) → length (spanning dev) ≡ count_spanning dev
how_many_span dev = length-filter (spans dev) (all_longs dev) ∙ counted_flat (spans dev) in_column (count_by (spans_all dev) dev.longs) each (numbers 0 dev.columns) ∙ ap (λ (n : ℕ). n * count_by (spans_all dev) dev.longs) (length_numbers 0 dev.columns)
  where
    in_column : ℕ → List LongWire
    in_column column = map (λ index. let w : LongWire = record { column = column; index = index } in w) (numbers 0 (length dev.longs))

    each : (column : ℕ) → count_by (spans dev) (in_column column) ≡ count_by (spans_all dev) dev.longs
    each column =
        counted_map (spans dev) (λ index. let w : LongWire = record { column = column; index = index } in w) (numbers 0 (length dev.longs))
        ∙ all_by_number (spans_all dev) dev.longs (record { low = 0; high = 0 })

-- The first place of a number in a list.
use Rattle.std.proofs.Common.{ℕ, suc, zero, ◌≡◌, ◌<◌, ◌⊎◌, ◌+◌, ◌||◌, ◌==◌, Bool, true, false, cond, List, [], ◌∷◌, ◌++◌, length, take, get_or, set, Option, Some, None, refl, sym, ap, subst, ◌∙◌, inl, inr, arith}
use Rattle.std.specs.Prelude.{option_map, is_some, unwrap_or, slice_get}
use Rattle.std.specs.List.{position, position_from}
use Rattle.std.proofs.lemmas.Bool.{cases_eq}
use Rattle.std.proofs.lemmas.List.{get_or-set_same, get_or-set_other, length-set, take_more}
use Rattle.std.proofs.lemmas.Iterator.Adapters.{position_from-zero}
use Rattle.act1_blifread.specs.Faults.{is_among}
use Rattle.act1_blifread.specs.NetlistSteps.{ArePlaces}
use Rattle.act1_blifread.proofs.NumberLists.{equal_true, equal_false}

-- the first place, by recursion
abbrev pub first : ℕ → List ℕ → Option ℕ
first n [] = None
first n (x ∷ xs) = cond (x == n) (Some 0) (option_map (λ k. suc k) (first n xs))

first_from : (n i : ℕ) (xs : List ℕ) → position_from (λ m. m == n) i xs ≡ option_map (λ k. i + k) (first n xs)
first_from n i [] = refl
first_from n i (x ∷ xs) = by (x == n) (first n xs) (first_from n (i + 1) xs)
  where
    later : (o : Option ℕ) → option_map (λ k. i + 1 + k) o ≡ option_map (λ k. i + k) (option_map (λ k. suc k) o)
    later None = refl
    later (Some k) = let e : i + 1 + k ≡ i + suc k = omega arith in ap (λ (j : ℕ). Some j) e

    by : (b : Bool) (o : Option ℕ) → position_from (λ m. m == n) (i + 1) xs ≡ option_map (λ k. i + 1 + k) o
        → cond b (Some i) (position_from (λ m. m == n) (i + 1) xs) ≡ option_map (λ k. i + k) (cond b (Some 0) (option_map (λ k. suc k) o))
    by true o e = let e : i ≡ i + 0 = omega arith in ap (λ (j : ℕ). Some j) e
    by false o e = e ∙ later o

pub position_first : (n : ℕ) (xs : List ℕ) → position (λ m. m == n) xs ≡ first n xs
position_first n xs = position_from-zero (λ m. m == n) xs ∙ first_from n 0 xs ∙ same (first n xs)
  where
    same : (o : Option ℕ) → option_map (λ k. 0 + k) o ≡ o
    same None = refl
    same (Some k) = let e : 0 + k ≡ k = omega arith in ap (λ (j : ℕ). Some j) e

-- the number stands at its first place
pub first_there : (n : ℕ) (xs : List ℕ) (p : ℕ) → first n xs ≡ Some p → slice_get xs p ≡ Some n
first_there n [] p e = cc
first_there n (x ∷ xs) p e = by (first_there n xs) (cases_eq x n)
  where
    later : (o : Option ℕ) → ((q : ℕ) → o ≡ Some q → slice_get xs q ≡ Some n) → option_map (λ k. suc k) o ≡ Some p → slice_get (x ∷ xs) p ≡ Some n
    later None h f = cc
    later (Some q) h f = let is : suc q ≡ p = cc in subst (λ (j : ℕ). slice_get (x ∷ xs) j ≡ Some n) is (h q refl)

    by : ((q : ℕ) → first n xs ≡ Some q → slice_get xs q ≡ Some n) → (x ≡ n) ⊎ (x ≡ n → ⊥) → slice_get (x ∷ xs) p ≡ Some n
    by h (inl is) =
        let f : Some 0 ≡ Some p = subst (λ (b : Bool). cond b (Some 0) (option_map (λ k. suc k) (first n xs)) ≡ Some p) (equal_true x n is) e in
        let z : 0 ≡ p = cc in subst (λ (j : ℕ). slice_get (x ∷ xs) j ≡ Some n) z (ap (λ (m : ℕ). Some m) is)
    by h (inr apart) = later (first n xs) h (subst (λ (b : Bool). cond b (Some 0) (option_map (λ k. suc k) (first n xs)) ≡ Some p) (equal_false x n apart) e)

-- a number has a first place where it is among the others
pub first_among : (n : ℕ) (xs : List ℕ) → is_some (first n xs) ≡ is_among xs n
first_among n [] = refl
first_among n (x ∷ xs) = by (x == n) (first n xs) (first_among n xs)
  where
    by : (b : Bool) (o : Option ℕ) → is_some o ≡ is_among xs n → is_some (cond b (Some 0) (option_map (λ k. suc k) o)) ≡ (b || is_among xs n)
    by true o e = refl
    by false None e = e
    by false (Some k) e = e

-- a first place stays where more follows
pub first_front : (n : ℕ) (xs ys : List ℕ) (p : ℕ) → first n xs ≡ Some p → first n (xs ++ ys) ≡ Some p
first_front n [] ys p e = cc
first_front n (x ∷ xs) ys p e = by (x == n) (first n xs) (first_front n xs ys) p e
  where
    by : (b : Bool) (o : Option ℕ) → ((q : ℕ) → o ≡ Some q → first n (xs ++ ys) ≡ Some q) → (p : ℕ) → cond b (Some 0) (option_map (λ k. suc k) o) ≡ Some p → cond b (Some 0) (option_map (λ k. suc k) (first n (xs ++ ys))) ≡ Some p
    by true o h p e = e
    by false None h p e = cc
    by false (Some q) h p e = ap (option_map (λ k. suc k)) (h q refl) ∙ e

-- and is later by what stands before, where it isn't there
pub first_behind : (n : ℕ) (xs ys : List ℕ) → first n xs ≡ None → first n (xs ++ ys) ≡ option_map (λ k. length xs + k) (first n ys)
first_behind n [] ys e = same (first n ys)
  where
    same : (o : Option ℕ) → o ≡ option_map (λ k. 0 + k) o
    same None = refl
    same (Some k) = let f : k ≡ 0 + k = omega arith in ap (λ (j : ℕ). Some j) f
first_behind n (x ∷ xs) ys e = by (x == n) (first n xs) (first_behind n xs ys) e
  where
    later : (o : Option ℕ) → option_map (λ k. suc k) (option_map (λ k. length xs + k) o) ≡ option_map (λ k. suc (length xs) + k) o
    later None = refl
    later (Some k) = let f : suc (length xs + k) ≡ suc (length xs) + k = omega arith in ap (λ (j : ℕ). Some j) f

    by : (b : Bool) (o : Option ℕ) → (o ≡ None → first n (xs ++ ys) ≡ option_map (λ k. length xs + k) (first n ys)) → cond b (Some 0) (option_map (λ k. suc k) o) ≡ None
        → cond b (Some 0) (option_map (λ k. suc k) (first n (xs ++ ys))) ≡ option_map (λ k. suc (length xs) + k) (first n ys)
    by true o h e = cc
    by false None h e = ap (option_map (λ k. suc k)) (h refl) ∙ later (first n ys)
    by false (Some q) h e = cc

-- the first place with one number more
pub first_more : (n : ℕ) (xs : List ℕ) (y : ℕ) (o : Option ℕ) → first n xs ≡ o → first n (xs ++ y ∷ []) ≡ cond (y == n) (Some (unwrap_or o (length xs))) o
first_more n xs y (Some p) e = first_front n xs (y ∷ []) p e ∙ same (y == n)
  where
    same : (b : Bool) → Some p ≡ cond b (Some p) (Some p)
    same true = refl
    same false = refl
first_more n xs y None e = first_behind n xs (y ∷ []) e ∙ same (y == n)
  where
    same : (b : Bool) → option_map (λ k. length xs + k) (cond b (Some 0) None) ≡ cond b (Some (length xs)) None
    same true = let f : length xs + 0 ≡ length xs = omega arith in ap (λ (j : ℕ). Some j) f
    same false = refl

-- the places with one name more, which is noted at its place where it has none yet
pub places_more : (count : ℕ) (names : List ℕ) (places : List (Option ℕ)) (n : ℕ) → ArePlaces count names places → n < count
    → ArePlaces count (names ++ n ∷ []) (set places n (Some (unwrap_or (get_or places n None) (length names))))
places_more count names places n known low = record {
  all = length-set places n _ ∙ known.all;
  each = λ k small. by k small (cases_eq k n);
}
  where
    by : (k : ℕ) → k < count → (k ≡ n) ⊎ (k ≡ n → ⊥) → get_or (set places n (Some (unwrap_or (get_or places n None) (length names)))) k None ≡ position (λ m. m == k) (names ++ n ∷ [])
    by k small (inl e) =
        let there : n < length places = omega (arith, known.all) in
        subst (λ (j : ℕ). get_or (set places n (Some (unwrap_or (get_or places n None) (length names)))) j None ≡ position (λ m. m == j) (names ++ n ∷ [])) (sym e)
        (get_or-set_same places n _ None there
        ∙ sym (position_first n (names ++ n ∷ []) ∙ first_more n names n (get_or places n None) (sym (position_first n names) ∙ sym (known.each n low)) ∙ ap (λ (b : Bool). cond b (Some (unwrap_or (get_or places n None) (length names))) (get_or places n None)) (equal_true n n refl)))
    by k small (inr apart) =
        get_or-set_other places n k _ None apart
        ∙ sym (position_first k (names ++ n ∷ []) ∙ first_more k names n (get_or places k None) (sym (position_first k names) ∙ sym (known.each k small)) ∙ ap (λ (b : Bool). cond b (Some (unwrap_or (get_or places k None) (length names))) (get_or places k None)) (equal_false n k (λ e. apart (sym e))))

pub no_places : (count : ℕ) (places : List (Option ℕ)) → length places ≡ count → ((n : ℕ) → n < count → get_or places n None ≡ None) → ArePlaces count [] places
no_places count places all each = record { all = all; each = each }

-- the places with the name that is read at a place
pub places_read : (count : ℕ) (names : List ℕ) (i : ℕ) (places new : List (Option ℕ)) → i < length names → ArePlaces count (take i names) places → get_or names i 0 < count
    → new ≡ set places (get_or names i 0) (Some (unwrap_or (get_or places (get_or names i 0) None) i)) → ArePlaces count (take (i + 1) names) new
places_read count names i places new low known small is =
    let taken : length (take i names) ≡ i = omega (arith, length_take names i low) in
    subst (λ (ps : List (Option ℕ)). ArePlaces count (take (i + 1) names) ps) (sym is)
    (subst (λ (ns : List ℕ). ArePlaces count ns (set places (get_or names i 0) (Some (unwrap_or (get_or places (get_or names i 0) None) i)))) (sym (take_more names i 0 low))
    (subst (λ (k : ℕ). ArePlaces count (take i names ++ get_or names i 0 ∷ []) (set places (get_or names i 0) (Some (unwrap_or (get_or places (get_or names i 0) None) k)))) taken
    (places_more count (take i names) places (get_or names i 0) known small)))
  where
    length_take : (xs : List ℕ) (i : ℕ) → i < length xs → length (take i xs) ≡ i
    length_take [] i low = absurd (omega arith)
    length_take (x ∷ xs) zero low = refl
    length_take (x ∷ xs) (suc i) low = ap (λ (k : ℕ). suc k) (length_take xs i (omega arith))

-- Passes, pair by pair, and by sums that agree.
use Rattle.std.proofs.Common.{ℕ, zero, suc, ◌≡◌, ◌+◌, ◌<◌, ◌≤◌, nat_lt, Bool, true, false, ◌||◌, cond, List, [], ◌∷◌, ◌++◌, length, drop, get_or, refl, sym, ap, subst, ◌∙◌, arith, append-nil, append_assoc, add-one}
use Rattle.std.specs.Prelude.{fold}
use Rattle.std.proofs.lemmas.Bool.Decides.{nat_tests}
use Rattle.std.proofs.lemmas.List.{length-map}
use Rattle.act1_circuit.specs.declared.circuit.Spot.{Spot}
use Rattle.act1_place.specs.Gains.{Kept, pairs_with, Tries}
use Rattle.act1_place.specs.Kept.{kept_total}
use Rattle.act1_place.specs.Passes.{moved, exchange, step_by, pairs, pass_by, passes_by}

fold_append : {A B : Type 0} (f : A → B → A) (a : A) (xs ys : List B) → fold f a (xs ++ ys) ≡ fold f (fold f a xs) ys
fold_append f a [] ys = refl
fold_append f a (x ∷ xs) ys = fold_append f (f a x) xs ys

-- sums that agree on lists of one length give the same passes
module _ (f g : List Spot → ℕ) (count : ℕ) (agree : (spots : List Spot) → length spots ≡ count → f spots ≡ g spots) where
  exchanged_count : (a b : Spot) (spots : List Spot) → length spots ≡ count → length (exchange a b spots) ≡ count
  exchanged_count a b spots e = length-map spots (moved a b) ∙ e

  chosen_count : (t : Bool) (one other : List Spot) → length one ≡ count → length other ≡ count → length (cond t one other) ≡ count
  chosen_count true one other e h = e
  chosen_count false one other e h = h

  step_count : (spots : List Spot) (p : Spot × Spot) → length spots ≡ count → length (step_by f spots p) ≡ count
  step_count spots p e = chosen_count (nat_lt (f (exchange p.0 p.1 spots)) (f spots)) (exchange p.0 p.1 spots) spots (exchanged_count p.0 p.1 spots e) e

  step_agree : (spots : List Spot) (p : Spot × Spot) → length spots ≡ count → step_by f spots p ≡ step_by g spots p
  step_agree spots p e =
      let other = exchange p.0 p.1 spots in
      let first = agree other (exchanged_count p.0 p.1 spots e) in
      let second = agree spots e in
      λ i. cond (nat_lt (first i) (second i)) other spots

  fold_agree : (ps : List (Spot × Spot)) (spots : List Spot) → length spots ≡ count → fold (step_by f) spots ps ≡ fold (step_by g) spots ps
  fold_agree [] spots e = refl
  fold_agree (p ∷ ps) spots e = fold_agree ps (step_by f spots p) (step_count spots p e) ∙ ap (λ (s : List Spot). fold (step_by g) s ps) (step_agree spots p e)

  fold_count : (ps : List (Spot × Spot)) (spots : List Spot) → length spots ≡ count → length (fold (step_by f) spots ps) ≡ count
  fold_count [] spots e = e
  fold_count (p ∷ ps) spots e = fold_count ps (step_by f spots p) (step_count spots p e)

  pub pass_agree : (all spots : List Spot) → length spots ≡ count → pass_by f all spots ≡ pass_by g all spots
  pass_agree all spots e = fold_agree (pairs all) spots e

  pub passes_count : (all : List Spot) (n : ℕ) (spots : List Spot) → length spots ≡ count → length (passes_by f all n spots) ≡ count
  passes_count all zero spots e = e
  passes_count all (suc n) spots e = fold_count (pairs all) (passes_by f all n spots) (passes_count all n spots e)

  pub passes_agree : (all : List Spot) (n : ℕ) (spots : List Spot) → length spots ≡ count → passes_by f all n spots ≡ passes_by g all n spots
  passes_agree all zero spots e = refl
  passes_agree all (suc n) spots e = pass_agree all (passes_by f all n spots) (passes_count all n spots e) ∙ ap (pass_by g all) (passes_agree all n spots e)

-- pairs that are tried one after the other

abbrev pub at_spots : Kept → List Spot → Kept
at_spots k spots = record { rows = k.rows; columns = k.columns; nets = k.nets; spots = spots }

pub tries_none : (k : Kept) → Tries k k false []
tries_none k = record { is = refl; none = λ e. refl; some = λ e. cc }

module _ (k : Kept) where
  abbrev sum_of : List Spot → ℕ
  sum_of spots = kept_total k.nets spots

  -- more pairs are tried
  pub tries_more : (mid after : Kept) (first second : Bool) (ps qs : List (Spot × Spot)) → Tries k mid first ps → Tries mid after second qs → Tries k after (first || second) (ps ++ qs)
  tries_more mid after first second ps qs h t = record {
    is = t.is ∙ (λ i. record { rows = rows_is i; columns = columns_is i; nets = nets_is i; spots = spots_is i });
    none = λ e. let b = or_none first second e in t.none b.1 ∙ h.none b.0;
    some = λ e. by first second h.none h.some t_none t_some e;
  }
    where
      or_none : (a b : Bool) → (a || b) ≡ false → (a ≡ false) × (b ≡ false)
      or_none true b e = cc
      or_none false b e = (refl, e)

      rows_is : mid.rows ≡ k.rows
      rows_is = ap (λ (x : Kept). x.rows) h.is

      columns_is : mid.columns ≡ k.columns
      columns_is = ap (λ (x : Kept). x.columns) h.is

      nets_is : mid.nets ≡ k.nets
      nets_is = ap (λ (x : Kept). x.nets) h.is

      mid_spots : mid.spots ≡ fold (step_by sum_of) k.spots ps
      mid_spots = ap (λ (x : Kept). x.spots) h.is

      spots_is : fold (step_by (kept_total mid.nets)) mid.spots qs ≡ fold (step_by sum_of) k.spots (ps ++ qs)
      spots_is = (λ i. fold (step_by (kept_total (nets_is i))) (mid_spots i) qs) ∙ sym (fold_append (step_by sum_of) k.spots ps qs)

      t_none : second ≡ false → sum_of after.spots ≡ sum_of mid.spots
      t_none e = ap sum_of (t.none e)

      t_some : second ≡ true → sum_of after.spots < sum_of mid.spots
      t_some e = subst (λ (ns : List _). kept_total ns after.spots < kept_total ns mid.spots) nets_is (t.some e)

      by : (a b : Bool) → (a ≡ false → mid.spots ≡ k.spots) → (a ≡ true → sum_of mid.spots < sum_of k.spots) → (b ≡ false → sum_of after.spots ≡ sum_of mid.spots) → (b ≡ true → sum_of after.spots < sum_of mid.spots)
          → (a || b) ≡ true → sum_of after.spots < sum_of k.spots
      by true true an sm bn bs e = let x = sm refl in let y = bs refl in omega (arith, x, y)
      by true false an sm bn bs e = let x = sm refl in let y = bn refl in omega (arith, x, y)
      by false true an sm bn bs e = let x = ap sum_of (an refl) in let y = bs refl in omega (arith, x, y)
      by false false an sm bn bs e = cc

  -- the one pair, where it is exchanged, and where it isn't
  pub tries_exchange : (a b : Spot) → sum_of (exchange a b k.spots) < sum_of k.spots → Tries k (at_spots k (exchange a b k.spots)) true ((a, b) ∷ [])
  tries_exchange a b less = record {
    is = ap (at_spots k) (sym (chosen (nat_lt (sum_of (exchange a b k.spots)) (sum_of k.spots)) (lt_test (sum_of (exchange a b k.spots)) (sum_of k.spots) less) (exchange a b k.spots) k.spots));
    none = λ e. cc;
    some = λ e. less;
  }
    where
      lt_test : (m n : ℕ) → m < n → nat_lt m n ≡ true
      lt_test m n h = grind (arith, nat_tests)

      chosen : (t : Bool) → t ≡ true → (x y : List Spot) → cond t x y ≡ x
      chosen true e x y = refl
      chosen false e x y = cc

  pub tries_keep : (a b : Spot) → sum_of k.spots ≤ sum_of (exchange a b k.spots) → Tries k k false ((a, b) ∷ [])
  tries_keep a b more = record {
    is = ap (at_spots k) (sym (chosen (nat_lt (sum_of (exchange a b k.spots)) (sum_of k.spots)) (not_test (sum_of (exchange a b k.spots)) (sum_of k.spots) more) (exchange a b k.spots) k.spots));
    none = λ e. refl;
    some = λ e. cc;
  }
    where
      not_test : (m n : ℕ) → n ≤ m → nat_lt m n ≡ false
      not_test m n h = grind (arith, nat_tests)

      chosen : (t : Bool) → t ≡ false → (x y : List Spot) → cond t x y ≡ y
      chosen true e x y = cc
      chosen false e x y = refl

-- the pairs of the first so many sites with all later ones

abbrev pub first_pairs : ℕ → List Spot → List (Spot × Spot)
first_pairs zero all = []
first_pairs (suc n) [] = []
first_pairs (suc n) (a ∷ all) = pairs_with a all ++ first_pairs n all

first_next : (n : ℕ) (all : List Spot) (a : Spot) → n < length all → a ≡ get_or all n a → first_pairs n all ++ pairs_with a (drop (suc n) all) ≡ first_pairs (suc n) all
first_next n [] a low is = absurd (omega (arith, low))
first_next zero (b ∷ all) a low is = (λ i. pairs_with (is i) all) ∙ sym (append-nil (pairs_with b all))
first_next (suc n) (b ∷ all) a low is =
    append_assoc (pairs_with b all) (first_pairs n all) (pairs_with a (drop (suc n) all))
    ∙ ap (λ (ps : List (Spot × Spot)). pairs_with b all ++ ps) (first_next n all a (omega (arith, low)) is)

pub first_more : (n : ℕ) (all : List Spot) (a : Spot) → n < length all → a ≡ get_or all n a → first_pairs n all ++ pairs_with a (drop (n + 1) all) ≡ first_pairs (n + 1) all
first_more n all a low is = (λ i. first_pairs n all ++ pairs_with a (drop (add-one n i) all)) ∙ first_next n all a low is ∙ (λ i. first_pairs (sym (add-one n) i) all)

pub first_all : (all : List Spot) → first_pairs (length all) all ≡ pairs all
first_all [] = refl
first_all (a ∷ all) = ap (λ (ps : List (Spot × Spot)). pairs_with a all ++ ps) (first_all all)

-- the passes so far
pub record Passed (before now : Kept) (all : List Spot) (changed : Bool) : Type 0 where
  pub count : ℕ
  pub is : now ≡ at_spots before (passes_by (kept_total before.nets) all count before.spots)
  pub last : changed ≡ false → pass_by (kept_total before.nets) all now.spots ≡ now.spots

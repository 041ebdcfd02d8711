-- The least number of tiles is at most the number of forks, and a chain has at most as many forks as its rows have literals.
use Rattle.std.proofs.Common.{ℕ, zero, suc, ◌≡◌, ◌≢◌, ◌⊎◌, ◌+◌, ◌<◌, ◌≤◌, ◌==◌, ◌&&◌, not, Bool, true, false, cond, List, [], ◌∷◌, ◌++◌, length, Some, map, refl, sym, ap, subst, ◌∙◌, inl, inr, arith}
use Rattle.std.specs.Prelude.{Contains, if◌then◌else◌, slice_get, count_by}
use Rattle.std.specs.List.{flat_map}
use Rattle.std.proofs.lemmas.Bool.{cases_eq}
use Rattle.std.proofs.lemmas.List.Sums.{sum_by-cons}
use Rattle.std.proofs.lemmas.List.Recursion.{is_count_by}
use Rattle.act1_logic.specs.declared.cover.Mark.{Mark}
use Rattle.act1_logic.specs.declared.cover.Mark.TheVariants as mark
use Rattle.act1_logic.specs.declared.cover.Row.{Row}
use Rattle.act1_logic.specs.Rows.{is_literal, literals_of}
use Rattle.act1_cover.specs.declared.forest.Forest.{Forest}
use Rattle.act1_cover.specs.declared.forest.Term.TheVariants as term
use Rattle.act1_cover.specs.Forests.{Tree, never, always, input, fork, is_same_tree, constant, fork_of, row_chain, chain, forks_in, first_ones}
use Rattle.act1_cover.specs.declared.tile.Shape.{Shape}
use Rattle.act1_cover.specs.declared.tile.Tile.{Tile}
use Rattle.act1_cover.specs.Tilings.{one_if, times, low_of, high_of, MayStand, ends, covers, IsTiling}
use Rattle.act1_cover.specs.Least.{IsForest, IsLeastTiling, LeastIsFew}
use Rattle.act1_cover.specs.Denotes.{chain_of, ChainsAreFew}
use Rattle.act1_cover.proofs.Totals.{here, elsewhere}
use Rattle.act1_cover.proofs.TreeLists.{In, in_left, in_right, in_either, from_ones, Differ, ones_differ}

abbrev plain : Shape
plain = record { or_form = false; high_side = false; low_side = false }

-- one tile for each fork
pub singles : ℕ → List Tile
singles zero = []
singles (suc n) = record { fork = n; shape = plain } ∷ singles n

pub singles_long : (n : ℕ) → length (singles n) ≡ n
unfolding singles
singles_long zero = refl
singles_long (suc n) = let r = singles_long n in omega arith

above : (k n : ℕ) → n ≤ k → times k (map (λ (t : Tile). t.fork) (singles n)) ≡ 0
unfolding singles
above k zero h = refl
above k (suc n) h = let r = above k n (omega arith) in let z = elsewhere n k (λ s. omega arith) in omega arith

there : (k n : ℕ) → k < n → times k (map (λ (t : Tile). t.fork) (singles n)) ≡ 1
unfolding singles
there k zero h = absurd (omega arith)
there k (suc n) h = by (cases_eq n k) (λ l. there k n l)
  where
    by : (n ≡ k) ⊎ (n ≢ k) → (k < n → times k (map (λ (t : Tile). t.fork) (singles n)) ≡ 1) → one_if (n == k) + times k (map (λ (t : Tile). t.fork) (singles n)) ≡ 1
    by (inl s) r = let a = ap (λ (j : ℕ). one_if (j == k)) s in let z = here k in let u = above k n (omega arith) in omega arith
    by (inr s) r = let z = elsewhere n k s in let u = r (omega arith) in omega arith

single_at : (n i : ℕ) (t : Tile) → slice_get (singles n) i ≡ Some t → (t.fork < n) × (t.shape ≡ plain)
unfolding singles
single_at zero i t e = cc
single_at (suc n) zero t e =
    let same : record { fork = n; shape = plain } ≡ t = cc in
    let f = ap (λ (u : Tile). u.fork) same in
    (omega arith, sym (ap (λ (u : Tile). u.shape) same))
single_at (suc n) (suc i) t e = let r = single_at n i t e in let l = r.0 in (omega arith, r.1)

covers_same : (forest : Forest) (k n : ℕ) → times k (flat_map (covers forest) (singles n)) ≡ times k (map (λ (t : Tile). t.fork) (singles n))
unfolding singles
covers_same forest k zero = refl
covers_same forest k (suc n) = ap (λ (m : ℕ). one_if (n == k) + m) (covers_same forest k n)

module _ (forest : Forest) (is : IsForest forest) where
  abbrev n : ℕ
  n = length forest.forks

  plain_stands : (k : ℕ) (p : Shape) → p ≡ plain → k < n → MayStand forest k p
  plain_stands k p e low = subst (λ (q : Shape). MayStand forest k q) (sym e) (record { within = low; or_form = λ f. cc; high_side = λ f. cc; low_side = λ f. cc })

  plain_end : (k j : ℕ) (p : Shape) → p ≡ plain → k < n → Contains (ends forest k p) (term.Fork j) → j < n
  plain_end k j p e low c = by (subst (λ (q : Shape). Contains (ends forest k q) (term.Fork j)) e c)
    where
      by : Contains (low_of forest k ∷ high_of forest k ∷ []) (term.Fork j) → j < n
      by (zero, l, f) = (is.low k j low f).0
      by (suc zero, l, f) = (is.high k j low f).0
      by (suc (suc i), l, f) = absurd (omega arith)

  pub one_each : IsTiling forest (singles n)
  one_each = record {
    stand = λ i t e. (let s = single_at n i t e in plain_stands t.fork t.shape s.1 s.0);
    roots = λ k low e. (let s = there k n low in omega arith);
    ends = λ i k t e c. (let s = single_at n i t e in let z = there k n (plain_end t.fork k t.shape s.1 s.0 c) in omega arith);
    once = λ k low. covers_same forest k n ∙ there k n low;
  }

  least_few : (tiles : List Tile) → IsLeastTiling forest tiles → length tiles ≤ length forest.forks
  least_few tiles t = let a = t.least (singles n) one_each in let l = singles_long n in omega arith

pub least_is_few : LeastIsFew
least_is_few forest is tiles t = least_few forest is tiles t

-- lists of trees without one element
without : ℕ → List Tree → List Tree
without zero [] = []
without zero (x ∷ xs) = xs
without (suc i) [] = []
without (suc i) (x ∷ xs) = x ∷ without i xs

found : (t : Tree) (xs : List Tree) → In t xs → (i : ℕ) × (slice_get xs i ≡ Some t) × (length xs ≡ suc (length (without i xs))) × ((u : Tree) → (t ≡ u → ⊥) → In u xs → In u (without i xs))
unfolding without
found t [] h = absurd h
found t (x ∷ xs) (inl e) = (0, ap Some e, refl, others)
  where
    others : (u : Tree) → (t ≡ u → ⊥) → In u (x ∷ xs) → In u xs
    others u no_t (inl f) = absurd (no_t (sym e ∙ f))
    others u no_t (inr f) = f
found t (x ∷ xs) (inr h) = more (found t xs h)
  where
    more : ((i : ℕ) × (slice_get xs i ≡ Some t) × (length xs ≡ suc (length (without i xs))) × ((u : Tree) → (t ≡ u → ⊥) → In u xs → In u (without i xs)))
        → (i : ℕ) × (slice_get (x ∷ xs) i ≡ Some t) × (length (x ∷ xs) ≡ suc (length (without i (x ∷ xs)))) × ((u : Tree) → (t ≡ u → ⊥) → In u (x ∷ xs) → In u (without i (x ∷ xs)))
    more (i, e, l, f) = (suc i, e, omega arith, others)
      where
        others : (u : Tree) → (t ≡ u → ⊥) → In u (x ∷ xs) → In u (x ∷ without i xs)
        others u no_t (inl g) = inl g
        others u no_t (inr g) = inr (f u no_t g)

-- different trees that are all in a list are no more than the list has
fewer : (us vs : List Tree) → Differ us → ((t : Tree) → In t us → In t vs) → length us ≤ length vs
fewer [] vs d h = omega arith
fewer (u ∷ us) vs d h =
    let f = found u vs (h u (inl refl)) in
    let r = fewer us (without f.0 vs) d.1 (λ t g. f.3 t (λ e. d.0 (subst (λ (x : Tree). In x us) (sym e) g)) (h t (inr g))) in
    let l = f.2 in omega arith

-- the forks of a fork, however it is written
forks_of : (v : ℕ) (a b t : Tree) → In t (forks_in (fork_of v a b)) → (fork_of v a b ≡ t) ⊎ In t (forks_in a) ⊎ In t (forks_in b)
forks_of v a b t h = by (is_same_tree a b) (is_same_tree a never && is_same_tree b always) refl refl h
  where
    by : (s e : Bool) → is_same_tree a b ≡ s → (is_same_tree a never && is_same_tree b always) ≡ e
        → In t (forks_in (if s then a else (if e then input v else fork v a b))) → ((if s then a else (if e then input v else fork v a b)) ≡ t) ⊎ In t (forks_in a) ⊎ In t (forks_in b)
    by true e p q g = inr (inl g)
    by false true p q g = absurd g
    by false false p q (inl g) = inl g
    by false false p q (inr g) = inr (or (in_either t (forks_in a) (forks_in b) g))
      where
        or : In t (forks_in a) ⊎ In t (forks_in b) → In t (forks_in a) ⊎ In t (forks_in b)
        or x = x

-- the trees at the literals of a row
row_steps : Tree → Tree → ℕ → List Mark → List Tree
row_steps matched next v [] = []
row_steps matched next v (mark.Dash ∷ marks) = row_steps matched next (suc v) marks
row_steps matched next v (mark.One ∷ marks) = row_chain matched next v (mark.One ∷ marks) ∷ row_steps matched next (suc v) marks
row_steps matched next v (mark.Zero ∷ marks) = row_chain matched next v (mark.Zero ∷ marks) ∷ row_steps matched next (suc v) marks

marked : List Mark → ℕ
marked [] = 0
marked (m ∷ marks) = cond (is_literal m) (1 + marked marks) (marked marks)

steps_long : (matched next : Tree) (v : ℕ) (marks : List Mark) → length (row_steps matched next v marks) ≡ marked marks
unfolding row_steps marked
steps_long matched next v [] = refl
steps_long matched next v (mark.Dash ∷ marks) = steps_long matched next (suc v) marks
steps_long matched next v (mark.One ∷ marks) = let r = steps_long matched next (suc v) marks in omega arith
steps_long matched next v (mark.Zero ∷ marks) = let r = steps_long matched next (suc v) marks in omega arith

abbrev InRow : Tree → Tree → ℕ → List Mark → Tree → Type 0
InRow matched next v marks t = In t (row_steps matched next v marks) ⊎ In t (forks_in matched) ⊎ In t (forks_in next)

in_row : (matched next : Tree) (v : ℕ) (marks : List Mark) (t : Tree) → In t (forks_in (row_chain matched next v marks)) → InRow matched next v marks t
unfolding row_steps
in_row matched next v [] t h = inr (inl h)
in_row matched next v (mark.Dash ∷ marks) t h = in_row matched next (suc v) marks t h
in_row matched next v (mark.One ∷ marks) t h = by (forks_of v next (row_chain matched next (suc v) marks) t h) (in_row matched next (suc v) marks t)
  where
    later : InRow matched next (suc v) marks t → InRow matched next v (mark.One ∷ marks) t
    later (inl g) = inl (inr g)
    later (inr g) = inr g

    by : (row_chain matched next v (mark.One ∷ marks) ≡ t) ⊎ In t (forks_in next) ⊎ In t (forks_in (row_chain matched next (suc v) marks)) → (In t (forks_in (row_chain matched next (suc v) marks)) → InRow matched next (suc v) marks t) → InRow matched next v (mark.One ∷ marks) t
    by (inl g) r = inl (inl g)
    by (inr (inl g)) r = inr (inr g)
    by (inr (inr g)) r = later (r g)
in_row matched next v (mark.Zero ∷ marks) t h = by (forks_of v (row_chain matched next (suc v) marks) next t h) (in_row matched next (suc v) marks t)
  where
    later : InRow matched next (suc v) marks t → InRow matched next v (mark.Zero ∷ marks) t
    later (inl g) = inl (inr g)
    later (inr g) = inr g

    by : (row_chain matched next v (mark.Zero ∷ marks) ≡ t) ⊎ In t (forks_in (row_chain matched next (suc v) marks)) ⊎ In t (forks_in next) → (In t (forks_in (row_chain matched next (suc v) marks)) → InRow matched next (suc v) marks t) → InRow matched next v (mark.Zero ∷ marks) t
    by (inl g) r = inl (inl g)
    by (inr (inl g)) r = later (r g)
    by (inr (inr g)) r = inr (inr g)

all_steps : Bool → List Row → List Tree
all_steps output [] = []
all_steps output (row ∷ rows) = row_steps (constant output) (chain output rows) 0 row.marks ++ all_steps output rows

no_forks : (b : Bool) (t : Tree) → In t (forks_in (constant b)) → ⊥
no_forks true t h = h
no_forks false t h = h

in_steps : (output : Bool) (rows : List Row) (t : Tree) → In t (forks_in (chain output rows)) → In t (all_steps output rows)
unfolding all_steps
in_steps output [] t h = absurd (no_forks (not output) t h)
in_steps output (row ∷ rows) t h = by (in_row (constant output) (chain output rows) 0 row.marks t h) (in_steps output rows t)
  where
    steps : List Tree
    steps = row_steps (constant output) (chain output rows) 0 row.marks

    by : InRow (constant output) (chain output rows) 0 row.marks t → (In t (forks_in (chain output rows)) → In t (all_steps output rows)) → In t (row_steps (constant output) (chain output rows) 0 row.marks ++ all_steps output rows)
    by (inl g) r = in_left t (row_steps (constant output) (chain output rows) 0 row.marks) (all_steps output rows) g
    by (inr (inl g)) r = absurd (no_forks output t g)
    by (inr (inr g)) r = in_right t (row_steps (constant output) (chain output rows) 0 row.marks) (all_steps output rows) (r g)

counted : (marks : List Mark) → marked marks ≡ count_by is_literal marks
unfolding marked
counted marks = is_count_by marked is_literal refl (λ m ms. refl) marks

length_append : (us vs : List Tree) → length (us ++ vs) ≡ length us + length vs
length_append [] vs = omega arith
length_append (u ∷ us) vs = let r = length_append us vs in omega arith

all_long : (output : Bool) (rows : List Row) → length (all_steps output rows) ≡ literals_of rows
unfolding all_steps
all_long output [] = refl
all_long output (row ∷ rows) =
    let a = length_append (row_steps (constant output) (chain output rows) 0 row.marks) (all_steps output rows) in
    let b = steps_long (constant output) (chain output rows) 0 row.marks in
    let c = counted row.marks in let d = all_long output rows in
    let e = sum_by-cons (λ (r : Row). count_by is_literal r.marks) row rows in
    omega arith

pub chains_are_few : ChainsAreFew
chains_are_few cover forest of =
    let a = of.count in
    let b = fewer (first_ones (forks_in (chain_of cover))) (all_steps cover.output cover.rows) (ones_differ (forks_in (chain_of cover)))
    (λ t h. in_steps cover.output cover.rows t (from_ones (forks_in (chain_of cover)) t h)) in
    let c = all_long cover.output cover.rows in
    omega arith

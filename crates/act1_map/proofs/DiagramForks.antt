-- Each fork of a function's diagram is a fork of the function, and different forks are different functions.
use Rattle.std.proofs.Common.{ℕ, zero, suc, ◌≡◌, ◌⊎◌, ◌+◌, ◌-◌, ◌<◌, ◌≤◌, ◌==◌, ◌&&◌, nat_lt, Bool, true, false, List, [], ◌∷◌, ◌++◌, length, refl, sym, ap, ◌∙◌, inl, inr, arith}
use Rattle.std.specs.Prelude.{AllPairs, if◌then◌else◌, slice_index_or}
use Rattle.std.specs.List.{AllByRecursion}
use Rattle.std.proofs.lemmas.Bool.{cases_lt, false≢true}
use Rattle.std.proofs.lemmas.Bool.Decides.{nat_tests}
use Rattle.std.proofs.lemmas.List.Elements.{All-from_recursion}
use Rattle.std.proofs.lemmas.List.Kept.{AllPairs-cons}
use Rattle.act1_dd.specs.Forks.{DependsOn, IsForkOf, IsSame, HasMoreForks}
use Rattle.act1_dd.specs.Inputs.{Inputs, Function, fixed_below, inputs_from, inputs_of, with_input}
use Rattle.act1_cover.specs.Forests.{Tree, never, always, input, fork, constant, diagram, fork_of, forks_in, first_ones, is_same_tree}
use Rattle.act1_cover.proofs.TreeLists.{Differ, In, in_either, from_ones, ones_differ}
use Rattle.act1_cover.proofs.Trees.{itself, same_tree}

unlike : (s t : Tree) → is_same_tree s t ≡ false → s ≡ t → ⊥
unlike s t e same = false≢true (sym e ∙ ap (is_same_tree s) (sym same) ∙ itself s)

-- functions with different diagrams differ at some inputs
differ : (n v : ℕ) (g h : List Bool → Bool) → (diagram n v g ≡ diagram n v h → ⊥) → (ys : List Bool) × (length ys ≡ n) × (g ys ≡ h ys → ⊥)
differ zero v g h apart = ([], refl, λ e. apart (ap constant e))
differ (suc n) v g h apart =
    by (is_same_tree (low g) (low h)) refl (is_same_tree (high g) (high h)) refl
    (differ n (suc v) (λ ys. g (false ∷ ys)) (λ ys. h (false ∷ ys))) (differ n (suc v) (λ ys. g (true ∷ ys)) (λ ys. h (true ∷ ys)))
  where
    low : (List Bool → Bool) → Tree
    low f = diagram n (suc v) (λ ys. f (false ∷ ys))

    high : (List Bool → Bool) → Tree
    high f = diagram n (suc v) (λ ys. f (true ∷ ys))

    HasDifference : (List Bool → Bool) → (List Bool → Bool) → Type 0
    HasDifference f k = (ys : List Bool) × (length ys ≡ n) × (f ys ≡ k ys → ⊥)

    by : (d : Bool) → is_same_tree (low g) (low h) ≡ d → (e : Bool) → is_same_tree (high g) (high h) ≡ e
        → ((low g ≡ low h → ⊥) → (ys : List Bool) × (length ys ≡ n) × (g (false ∷ ys) ≡ h (false ∷ ys) → ⊥)) → ((high g ≡ high h → ⊥) → (ys : List Bool) × (length ys ≡ n) × (g (true ∷ ys) ≡ h (true ∷ ys) → ⊥))
        → (ys : List Bool) × (length ys ≡ suc n) × (g ys ≡ h ys → ⊥)
    by true s true t lows highs = absurd (apart (λ i. fork_of v (same_tree (low g) (low h) s i) (same_tree (high g) (high h) t i)))
    by false s e t lows highs = let r = lows (unlike (low g) (low h) s) in (false ∷ r.0, ap suc r.1, r.2)
    by true s false t lows highs = let r = highs (unlike (high g) (high h) t) in (true ∷ r.0, ap suc r.1, r.2)

same_diagram : (n v : ℕ) (g h : List Bool → Bool) → ((ys : List Bool) → length ys ≡ n → g ys ≡ h ys) → diagram n v g ≡ diagram n v h
same_diagram zero v g h same = ap constant (same [] refl)
same_diagram (suc n) v g h same =
    λ i. fork_of v (same_diagram n (suc v) (λ ys. g (false ∷ ys)) (λ ys. h (false ∷ ys)) (λ ys l. same (false ∷ ys) (ap suc l)) i)
    (same_diagram n (suc v) (λ ys. g (true ∷ ys)) (λ ys. h (true ∷ ys)) (λ ys l. same (true ∷ ys) (ap suc l)) i)

-- the tree is the diagram of the function with its first inputs fixed, and depends on the next one
record IsSub (n v : ℕ) (g : List Bool → Bool) (t : Tree) : Type 0 where
  front : List Bool
  m : ℕ
  w : ℕ
  at : w ≡ v + length front
  long : n ≡ length front + suc m
  is : t ≡ diagram (suc m) w (λ ys. g (front ++ ys))
  parts : diagram m (suc w) (λ ys. g (front ++ false ∷ ys)) ≡ diagram m (suc w) (λ ys. g (front ++ true ∷ ys)) → ⊥

fork_is : (v : ℕ) (low high : Tree) → is_same_tree low high ≡ false → (is_same_tree low never && is_same_tree high always) ≡ false → fork_of v low high ≡ fork v low high
fork_is v low high e f =
    ap (λ (b : Bool). if b then low else (if is_same_tree low never && is_same_tree high always then input v else fork v low high)) e
    ∙ ap (λ (b : Bool). if b then input v else fork v low high) f

subs : (n v : ℕ) (g : List Bool → Bool) (t : Tree) → In t (forks_in (diagram n v g)) → IsSub n v g t
subs zero v g t h = by (g []) h
  where
    by : (b : Bool) → In t (forks_in (constant b)) → IsSub zero v g t
    by true h = absurd h
    by false h = absurd h
subs (suc n) v g t h =
    by (is_same_tree low high) refl (is_same_tree low never && is_same_tree high always) refl h
    (λ k. behind false (subs n (suc v) (λ ys. g (false ∷ ys)) t k)) (λ k. behind true (subs n (suc v) (λ ys. g (true ∷ ys)) t k))
  where
    low : Tree
    low = diagram n (suc v) (λ ys. g (false ∷ ys))

    high : Tree
    high = diagram n (suc v) (λ ys. g (true ∷ ys))

    behind : (b : Bool) → IsSub n (suc v) (λ ys. g (b ∷ ys)) t → IsSub (suc n) v g t
    behind b r = record {
      front = b ∷ r.front;
      m = r.m;
      w = r.w;
      at = (let a = r.at in omega arith);
      long = (let l = r.long in omega arith);
      is = r.is;
      parts = r.parts;
    }

    by : (d : Bool) → is_same_tree low high ≡ d → (e : Bool) → (is_same_tree low never && is_same_tree high always) ≡ e → In t (forks_in (if d then low else (if e then input v else fork v low high)))
        → (In t (forks_in low) → IsSub (suc n) v g t) → (In t (forks_in high) → IsSub (suc n) v g t) → IsSub (suc n) v g t
    by true s e u k lows highs = lows k
    by false s true u k lows highs = absurd k
    by false s false u (inl same) lows highs =
        record { front = []; m = n; w = v; at = omega arith; long = omega arith; is = sym same ∙ sym (fork_is v low high s u); parts = unlike low high s }
    by false s false u (inr k) lows highs = either (in_either t (forks_in low) (forks_in high) k)
      where
        either : In t (forks_in low) ⊎ In t (forks_in high) → IsSub (suc n) v g t
        either (inl a) = lows a
        either (inr a) = highs a

-- the values of variables from v on
listed : (y : Inputs) (v n : ℕ) (ys : List Bool) → length ys ≡ n → ((i : ℕ) → i < n → y (v + i) ≡ slice_index_or ys i false) → inputs_from y v n ≡ ys
listed y v zero [] l h = refl
listed y v zero (b ∷ ys) l h = absurd (omega arith)
listed y v (suc n) [] l h = absurd (omega arith)
listed y v (suc n) (b ∷ ys) l h =
    let first : y v ≡ b = ap y (let e : v ≡ v + 0 = omega arith in e) ∙ h 0 (omega arith) in
    let rest : inputs_from y (v + 1) n ≡ ys = listed y (v + 1) n ys (omega arith) (λ i low. ap y (let e : v + 1 + i ≡ v + suc i = omega arith in e) ∙ h (suc i) (omega arith)) in
    λ i. first i ∷ rest i

same_from : (x y : Inputs) (v n : ℕ) → ((k : ℕ) → v ≤ k → x k ≡ y k) → inputs_from x v n ≡ inputs_from y v n
same_from x y v zero same = refl
same_from x y v (suc n) same = λ i. same v (omega arith) i ∷ same_from x y (v + 1) n (λ k low. same k (omega arith)) i

split : (y : Inputs) (v n k e : ℕ) (front : List Bool) → n ≡ length front + k → e ≡ v + length front → ((i : ℕ) → i < length front → y (v + i) ≡ slice_index_or front i false)
    → inputs_from y v n ≡ front ++ inputs_from y e k
split y v n k e [] long end h = ap (inputs_from y v) (let f : n ≡ k = omega arith in f) ∙ ap (λ (w : ℕ). inputs_from y w k) (let f : v ≡ e = omega arith in f)
split y v zero k e (b ∷ front) long end h = absurd (omega arith)
split y v (suc n) k e (b ∷ front) long end h =
    let first : y v ≡ b = ap y (let f : v ≡ v + 0 = omega arith in f) ∙ h 0 (omega arith) in
    let rest : inputs_from y (v + 1) n ≡ front ++ inputs_from y e k = split y (v + 1) n k e front (omega arith) (omega arith) (λ i low. ap y (let f : v + 1 + i ≡ v + suc i = omega arith in f) ∙ h (suc i) (omega arith)) in
    λ i. first i ∷ rest i

below_is : (k v : ℕ) (fixed x : Inputs) → k < v → fixed_below v fixed x k ≡ fixed k
below_is k v fixed x low = let t : nat_lt k v ≡ true = grind (arith, nat_tests) in ap (λ (b : Bool). if b then fixed k else x k) t

above_is : (k v : ℕ) (fixed x : Inputs) → v ≤ k → fixed_below v fixed x k ≡ x k
above_is k v fixed x high = let t : nat_lt k v ≡ false = grind (arith, nat_tests) in ap (λ (b : Bool). if b then fixed k else x k) t

with_at : (x : Inputs) (v : ℕ) (b : Bool) → with_input x v b v ≡ b
with_at x v b = let t : (v == v) ≡ true = grind (arith, nat_tests) in ap (λ (d : Bool). if d then b else x v) t

with_other : (x : Inputs) (v k : ℕ) (b : Bool) → v < k → with_input x v b k ≡ x k
with_other x v k b low = let t : (k == v) ≡ false = grind (arith, nat_tests) in ap (λ (d : Bool). if d then b else x k) t

module _ (width : ℕ) (g : List Bool → Bool) (f : Function) (f_is : (y : Inputs) → f y ≡ g (inputs_from y 0 width)) where
  -- the function of a fork
  function : (t : Tree) → IsSub width 0 g t → Function
  function t r x = g (r.front ++ inputs_from x (length r.front) (suc r.m))

  -- inputs whose values from the variable k on are these
  abbrev listed_from : ℕ → List Bool → Inputs
  listed_from k ys j = slice_index_or ys (j - k) false

  function_at : (t : Tree) (r : IsSub width 0 g t) (x : Inputs) (ys : List Bool) → length ys ≡ suc r.m → ((i : ℕ) → i < suc r.m → x (length r.front + i) ≡ slice_index_or ys i false) → function t r x ≡ g (r.front ++ ys)
  unfolding function
  function_at t r x ys l h = ap (λ (zs : List Bool). g (r.front ++ zs)) (listed x (length r.front) (suc r.m) ys l h)

  depends : (t : Tree) (r : IsSub width 0 g t) → DependsOn (function t r) (length r.front)
  depends t r = record { inputs = z; matters = λ e. d.2 (sym (value false) ∙ e ∙ value true) }
    where
      k : ℕ
      k = length r.front

      d : (ys : List Bool) × (length ys ≡ r.m) × (g (r.front ++ false ∷ ys) ≡ g (r.front ++ true ∷ ys) → ⊥)
      d = differ r.m (suc r.w) (λ ys. g (r.front ++ false ∷ ys)) (λ ys. g (r.front ++ true ∷ ys)) r.parts

      z : Inputs
      z j = slice_index_or d.0 (j - suc (length r.front)) false

      value : (b : Bool) → function t r (with_input z (length r.front) b) ≡ g (r.front ++ b ∷ d.0)
      value b = function_at t r (with_input z (length r.front) b) (b ∷ d.0) (ap suc d.1) at
        where
          at : (i : ℕ) → i < suc r.m → with_input z (length r.front) b (length r.front + i) ≡ slice_index_or (b ∷ d.0) i false
          at zero low = ap (with_input z (length r.front) b) (let e : length r.front + 0 ≡ length r.front = omega arith in e) ∙ with_at z (length r.front) b
          at (suc i) low =
              with_other z (length r.front) (length r.front + suc i) b (omega arith)
              ∙ ap (λ (j : ℕ). slice_index_or d.0 j false) (let e : (length r.front + suc i) - suc (length r.front) ≡ i = omega arith in e)

  comes : (t : Tree) (r : IsSub width 0 g t) (x : Inputs) → function t r x ≡ f (fixed_below (length r.front) (inputs_of r.front) x)
  unfolding function
  comes t r x =
      let k = length r.front in
      let y = fixed_below k (inputs_of r.front) x in
      let zero_more : k ≡ 0 + k = omega arith in
      let parted : inputs_from y 0 width ≡ r.front ++ inputs_from y k (suc r.m) =
      split y 0 width (suc r.m) k r.front r.long zero_more (λ i low. ap y (let e : 0 + i ≡ i = omega arith in e) ∙ below_is i k (inputs_of r.front) x low) in
      let free : inputs_from x k (suc r.m) ≡ inputs_from y k (suc r.m) = same_from x y k (suc r.m) (λ j high. sym (above_is j k (inputs_of r.front) x high)) in
      ap (λ (zs : List Bool). g (r.front ++ zs)) free ∙ ap g (sym parted) ∙ sym (f_is y)

  fork_from : (t : Tree) (r : IsSub width 0 g t) → IsForkOf f (function t r)
  fork_from t r = record { var = length r.front; fixed = inputs_of r.front; comes = comes t r; depends = depends t r }

  -- a fork doesn't depend on the variables before its own
  independent : (t : Tree) (r : IsSub width 0 g t) (z : Inputs) (k : ℕ) → k < length r.front → function t r (with_input z k false) ≡ function t r (with_input z k true)
  unfolding function
  independent t r z k low = ap (λ (zs : List Bool). g (r.front ++ zs))
      (same_from (with_input z k false) (with_input z k true) (length r.front) (suc r.m) (λ j high. with_other z k j false (omega arith) ∙ sym (with_other z k j true (omega arith))))

  shorter : (t u : Tree) (r : IsSub width 0 g t) (s : IsSub width 0 g u) → length r.front < length s.front → IsSame (function t r) (function u s) → ⊥
  shorter t u r s low same =
      let d = depends t r in
      let z = d.inputs in
      let k = length r.front in
      d.matters (same (with_input z k false) ∙ independent u s z k low ∙ sym (same (with_input z k true)))

  equal : (t u : Tree) (r : IsSub width 0 g t) (s : IsSub width 0 g u) → length r.front ≡ length s.front → IsSame (function t r) (function u s) → t ≡ u
  equal t u r s e same =
      let m_same : r.m ≡ s.m = (let a = r.long in let b = s.long in omega arith) in
      let w_same : r.w ≡ s.w = (let a = r.at in let b = s.at in omega arith) in
      r.is
      ∙ same_diagram (suc r.m) r.w (λ ys. g (r.front ++ ys)) (λ ys. g (s.front ++ ys)) (λ ys l.
      let x = listed_from (length r.front) ys in
      sym (function_at t r x ys l (λ i low. ap (λ (j : ℕ). slice_index_or ys j false) (let o : (length r.front + i) - length r.front ≡ i = omega arith in o)))
      ∙ same x
      ∙ function_at u s x ys (l ∙ ap suc m_same) (λ i low. ap (λ (j : ℕ). slice_index_or ys j false) (let o : (length s.front + i) - length r.front ≡ i = omega arith in o)))
      ∙ (λ i. diagram (suc (m_same i)) (w_same i) (λ ys. g (s.front ++ ys)))
      ∙ sym s.is

  different : (t u : Tree) (r : IsSub width 0 g t) (s : IsSub width 0 g u) → (t ≡ u → ⊥) → IsSame (function t r) (function u s) → ⊥
  different t u r s apart same = by (cases_lt (length r.front) (length s.front)) (cases_lt (length s.front) (length r.front))
    where
      by : (length r.front < length s.front) ⊎ (length s.front ≤ length r.front) → (length s.front < length r.front) ⊎ (length r.front ≤ length s.front) → ⊥
      by (inl low) o = shorter t u r s low same
      by (inr high) (inl low) = shorter u t s r low (λ x. sym (same x))
      by (inr high) (inr low) = apart (equal t u r s (let e : length r.front ≡ length s.front = omega arith in e) same)

  record HasFunctions (ts : List Tree) : Type 0 where
    functions : List Function
    count : length functions ≡ length ts
    each : AllByRecursion (IsForkOf f) functions
    pairs : AllPairs (λ (h k : Function). IsSame h k → ⊥) functions
    apart : (t : Tree) (r : IsSub width 0 g t) → (In t ts → ⊥) → AllByRecursion (λ (k : Function). IsSame (function t r) k → ⊥) functions

  have : (ts : List Tree) → Differ ts → ((t : Tree) → In t ts → IsSub width 0 g t) → HasFunctions ts
  have [] d h = record { functions = []; count = refl; each = tt; pairs = λ i j e low short. absurd (omega arith); apart = λ t r out. tt }
  have (t ∷ ts) d h =
      let rest = have ts d.1 (λ u i. h u (inr i)) in
      let r = h t (inl refl) in
      record {
        functions = function t r ∷ rest.functions;
        count = ap suc rest.count;
        each = (fork_from t r, rest.each);
        pairs = AllPairs-cons (λ (h k : Function). IsSame h k → ⊥) (function t r) rest.functions (All-from_recursion (λ (k : Function). IsSame (function t r) k → ⊥) rest.functions (rest.apart t r d.0)) rest.pairs;
        apart = λ u s out. (different u t s r (λ e. out (inl (sym e))), rest.apart u s (λ i. out (inr i)));
      }

  -- the diagram has no more forks than the function
  pub more_forks : (limit : ℕ) → limit < length (first_ones (forks_in (diagram width 0 g))) → HasMoreForks f limit
  more_forks limit low =
      let ts = first_ones (forks_in (diagram width 0 g)) in
      let all = have ts (ones_differ (forks_in (diagram width 0 g))) (λ t i. subs width 0 g t (from_ones (forks_in (diagram width 0 g)) t i)) in
      record { forks = all.functions; more = (let c = all.count in omega arith); each = All-from_recursion (IsForkOf f) all.functions all.each; different = all.pairs }

-- In reduced ordered diagrams two refs are the same, or have different values at some inputs.
use Rattle.std.proofs.Common.{ℕ, suc, zero, ◌≡◌, ◌≢◌, ◌<◌, ◌≤◌, ◌+◌, ◌⊎◌, Bool, true, false, List, refl, sym, ap, ◌∙◌, inl, inr, arith, subst}
use Rattle.std.proofs.lemmas.Bool.{cases_eq, cases_lt, false≢true}
use Rattle.std.proofs.lemmas.Bool.Decides.{nat_tests}
use Rattle.std.specs.Prelude.{if◌then◌else◌, slice_get, Some, Option}
use Rattle.act1_dd.specs.declared.refs.Ref.{Ref}
use Rattle.act1_dd.specs.declared.refs.Ref.TheVariants.{Zero, One, Node}
use Rattle.act1_dd.specs.declared.refs.Branch.{Branch}
use Rattle.act1_dd.specs.Inputs.{Inputs, with_input}
use Rattle.act1_dd.specs.Forks.{DependsOn}
use Rattle.act1_dd.specs.Diagram.{value_at, IsRef, IsFrom, IsReduced, size_of}
use Rattle.act1_dd.specs.Steps.{HasVariable, IsPart}
use Rattle.act1_base.proofs.ListGets.{one_at, get_in, get_within}
use Rattle.act1_dd.proofs.Values.{two_values, value_node, value_zero, value_one, within_size}

pub with_same : (x : Inputs) (v : ℕ) (b : Bool) → with_input x v b v ≡ b
with_same x v b = grind (arith, nat_tests)

pub with_other : (x : Inputs) (v : ℕ) (b : Bool) (k : ℕ) → k ≢ v → with_input x v b k ≡ x k
with_other x v b k other = grind (arith, nat_tests)

same_branch : (a b : Branch) → a.var ≡ b.var → a.low ≡ b.low → a.high ≡ b.high → a ≡ b
same_branch a b e l h = λ i. record { var = e i; low = l i; high = h i }

module _ (forks : List Branch) where
  pub from_weaker : (v w : ℕ) (r : Ref) → w ≤ v → IsFrom forks v r → IsFrom forks w r
  from_weaker v w Zero le h = tt
  from_weaker v w One le h = tt
  from_weaker v w (Node k) le h = λ b at. let more = h b at in omega arith

  pub no_variable : (v : ℕ) (r : Ref) → IsFrom forks (v + 1) r → HasVariable forks v r → ⊥
  no_variable v Zero later has = has
  no_variable v One later has = has
  no_variable v (Node k) later has = let more = later has.0 has.1 in let e = has.2 in omega arith

  -- a ref from a variable on has that variable, or comes after it
  pub here_or_later : (v : ℕ) (r : Ref) → IsRef forks r → IsFrom forks v r → HasVariable forks v r ⊎ IsFrom forks (v + 1) r
  here_or_later v Zero ref h = inr tt
  here_or_later v One ref h = inr tt
  here_or_later v (Node k) ref h = by (get_in forks k ref)
    where
      by : (b : Branch) × (slice_get forks k ≡ Some b) → HasVariable forks v (Node k) ⊎ IsFrom forks (v + 1) (Node k)
      by (b, at) = go (cases_eq b.var v)
        where
          go : (b.var ≡ v) ⊎ (b.var ≢ v) → HasVariable forks v (Node k) ⊎ IsFrom forks (v + 1) (Node k)
          go (inl is) = inl (b, at, is)
          go (inr other) = inr (λ c there. let e = ap (λ (d : Branch). d.var) (one_at forks k b c at there) in let more = h b at in omega arith)

  -- a fork of the variable of its branch
  pub from_own : (k : ℕ) (b : Branch) → slice_get forks k ≡ Some b → IsFrom forks b.var (Node k)
  from_own k b at c there = let e = ap (λ (d : Branch). d.var) (one_at forks k b c at there) in omega arith

  module _ (h : IsReduced forks) where
    pub part_refs : (k : ℕ) (b : Branch) → slice_get forks k ≡ Some b → IsRef forks b.low × IsRef forks b.high
    part_refs k b at =
        let older = h.older k b at in
        let low = get_within forks k b at in
        let left = older.0 in
        let right = older.1 in
        (within_size forks b.low (omega arith), within_size forks b.high (omega arith))

    pub value_high : (k : ℕ) (b : Branch) (x : Inputs) → slice_get forks k ≡ Some b → x b.var ≡ true → value_at forks (Node k) x ≡ value_at forks b.high x
    value_high k b x at e =
        let older = h.older k b at in
        value_node x forks k b at older.0 older.1 ∙ ap (λ (c : Bool). if c then value_at forks b.high x else value_at forks b.low x) e

    pub value_low : (k : ℕ) (b : Branch) (x : Inputs) → slice_get forks k ≡ Some b → x b.var ≡ false → value_at forks (Node k) x ≡ value_at forks b.low x
    value_low k b x at e =
        let older = h.older k b at in
        value_node x forks k b at older.0 older.1 ∙ ap (λ (c : Bool). if c then value_at forks b.high x else value_at forks b.low x) e

    agree_node : (k : ℕ) (b : Branch) (x y : Inputs) → slice_get forks k ≡ Some b → x b.var ≡ y b.var → value_at forks b.low x ≡ value_at forks b.low y → value_at forks b.high x ≡ value_at forks b.high y
        → (x b.var ≡ true) ⊎ (x b.var ≡ false) → value_at forks (Node k) x ≡ value_at forks (Node k) y
    agree_node k b x y at var low high (inl e) = value_high k b x at e ∙ high ∙ sym (value_high k b y at (sym var ∙ e))
    agree_node k b x y at var low high (inr e) = value_low k b x at e ∙ low ∙ sym (value_low k b y at (sym var ∙ e))

    -- variables before those of a ref don't matter to it
    agree_up_to : (n : ℕ) (r : Ref) (v : ℕ) (x y : Inputs) → size_of r ≤ n → IsRef forks r → IsFrom forks v r → ((k : ℕ) → v ≤ k → x k ≡ y k) → value_at forks r x ≡ value_at forks r y
    agree_up_to n Zero v x y small ref later same = value_zero x forks ∙ sym (value_zero y forks)
    agree_up_to n One v x y small ref later same = value_one x forks ∙ sym (value_one y forks)
    agree_up_to zero (Node k) v x y small ref later same = absurd (omega arith)
    agree_up_to (suc n) (Node k) v x y small ref later same =
        let found = get_in forks k ref in
        let b = found.0 in
        let at = found.1 in
        let from = later b at in
        let small_low = (h.older k b at).0 in
        let small_high = (h.older k b at).1 in
        agree_node k b x y at (same b.var from)
        (agree_up_to n b.low (b.var + 1) x y (omega arith) (part_refs k b at).0 (h.rise k b at).0 (λ j low. same j (omega arith)))
        (agree_up_to n b.high (b.var + 1) x y (omega arith) (part_refs k b at).1 (h.rise k b at).1 (λ j low. same j (omega arith)))
        (two_values (x b.var))

    pub agree_from : (r : Ref) (v : ℕ) (x y : Inputs) → IsRef forks r → IsFrom forks v r → ((k : ℕ) → v ≤ k → x k ≡ y k) → value_at forks r x ≡ value_at forks r y
    agree_from r v x y = agree_up_to (size_of r) r v x y (omega arith)

    -- the value of a ref of later variables doesn't change with a variable
    pub apart : (r : Ref) (v : ℕ) (b : Bool) (x : Inputs) → IsRef forks r → IsFrom forks (v + 1) r → value_at forks r (with_input x v b) ≡ value_at forks r x
    apart r v b x ref later = agree_from r (v + 1) (with_input x v b) x ref later (λ k low. with_other x v b k (λ e. omega arith))

    -- the parts of a ref by a variable that comes before its others
    pub low_part : (k : ℕ) (b : Branch) (v : ℕ) → slice_get forks k ≡ Some b → b.var ≡ v → IsPart forks v false (Node k) b.low
    low_part k b v at is = let small_low = (h.older k b at).0 in record {
      ref = (part_refs k b at).0;
      later = subst (λ (w : ℕ). IsFrom forks (w + 1) b.low) is (h.rise k b at).0;
      small = omega arith;
      smaller = λ _. omega arith;
      value = λ x e. value_low k b x at (ap x is ∙ e);
    }

    pub high_part : (k : ℕ) (b : Branch) (v : ℕ) → slice_get forks k ≡ Some b → b.var ≡ v → IsPart forks v true (Node k) b.high
    high_part k b v at is = let small_high = (h.older k b at).1 in record {
      ref = (part_refs k b at).1;
      later = subst (λ (w : ℕ). IsFrom forks (w + 1) b.high) is (h.rise k b at).1;
      small = omega arith;
      smaller = λ _. omega arith;
      value = λ x e. value_high k b x at (ap x is ∙ e);
    }

    pub whole_part : (v : ℕ) (side : Bool) (r : Ref) → IsRef forks r → IsFrom forks (v + 1) r → IsPart forks v side r r
    whole_part v side r ref later = record { ref = ref; later = later; small = omega arith; smaller = λ has. absurd (no_variable v r later has); value = λ x e. refl }

    abbrev pub Differ : Ref → Ref → Type 0
    Differ f g = (x : Inputs) × (value_at forks f x ≢ value_at forks g x)

    swapped : (f g : Ref) → (f ≡ g) ⊎ Differ f g → (g ≡ f) ⊎ Differ g f
    swapped f g (inl e) = inl (sym e)
    swapped f g (inr (x, ne)) = inr (x, λ e. ne (sym e))

    -- where parts differ, the refs do
    lifted : (v : ℕ) (side : Bool) (f g f' g' : Ref) → IsPart forks v side f f' → IsPart forks v side g g' → Differ f' g' → Differ f g
    lifted v side f g f' g' p q (x, ne) =
        let y = with_input x v side in
        let at = with_same x v side in
        (y, λ e. ne (sym (apart f' v side x p.ref p.later) ∙ sym (p.value y at) ∙ e ∙ q.value y at ∙ apart g' v side x q.ref q.later))

    abbrev Known : ℕ → Type 0
    Known n = (f g : Ref) → size_of f + size_of g ≤ n → IsRef forks f → IsRef forks g → (f ≡ g) ⊎ Differ f g

    -- both sides are the same, or one of them differs
    sides : (v : ℕ) (f g fl fh gl gh : Ref) → IsPart forks v false f fl → IsPart forks v true f fh → IsPart forks v false g gl → IsPart forks v true g gh
        → (fl ≡ gl) ⊎ Differ fl gl → (fh ≡ gh) ⊎ Differ fh gh → ((fl ≡ gl) → (fh ≡ gh) → f ≡ g) → (f ≡ g) ⊎ Differ f g
    sides v f g fl fh gl gh p q p' q' (inr low) high both = inr (lifted v false f g fl gl p p' low)
    sides v f g fl fh gl gh p q p' q' (inl low) (inr high) both = inr (lifted v true f g fh gh q q' high)
    sides v f g fl fh gl gh p q p' q' (inl low) (inl high) both = inl (both low high)

    step : (n : ℕ) → Known n → (k : ℕ) (b : Branch) (g : Ref) → slice_get forks k ≡ Some b → IsRef forks g → IsFrom forks b.var g → size_of (Node k) + size_of g ≤ suc n
        → HasVariable forks b.var g ⊎ IsFrom forks (b.var + 1) g → (Node k ≡ g) ⊎ Differ (Node k) g
    step n known k b Zero at ref from small (inl has) = elim has [ ]
    step n known k b One at ref from small (inl has) = elim has [ ]
    step n known k b (Node j) at ref from small (inl (c, there, is)) =
        let left = (h.older k b at).0 in
        let right = (h.older k b at).1 in
        let left' = (h.older j c there).0 in
        let right' = (h.older j c there).1 in
        sides b.var (Node k) (Node j) b.low b.high c.low c.high (low_part k b b.var at refl) (high_part k b b.var at refl) (low_part j c b.var there is) (high_part j c b.var there is)
        (known b.low c.low (omega arith) (part_refs k b at).0 (part_refs j c there).0)
        (known b.high c.high (omega arith) (part_refs k b at).1 (part_refs j c there).1)
        (λ low high. ap Node (h.once k j b at (there ∙ ap (λ (d : Branch). let o : Option Branch = Some d in o) (sym (same_branch b c (sym is) low high)))))
    step n known k b g at ref from small (inr later) =
        let left = (h.older k b at).0 in
        let right = (h.older k b at).1 in
        sides b.var (Node k) g b.low b.high g g (low_part k b b.var at refl) (high_part k b b.var at refl) (whole_part b.var false g ref later) (whole_part b.var true g ref later)
        (known b.low g (omega arith) (part_refs k b at).0 ref)
        (known b.high g (omega arith) (part_refs k b at).1 ref)
        (λ low high. absurd (h.differ k b at (low ∙ sym high)))

    whole_step : (n : ℕ) → Known n → (k : ℕ) (b : Branch) (g : Ref) → slice_get forks k ≡ Some b → IsRef forks g → IsFrom forks b.var g → size_of (Node k) + size_of g ≤ suc n → (Node k ≡ g) ⊎ Differ (Node k) g
    whole_step n known k b g at ref from small = step n known k b g at ref from small (here_or_later b.var g ref from)

    two_nodes : (n : ℕ) → Known n → (k j : ℕ) → IsRef forks (Node k) → IsRef forks (Node j) → size_of (Node k) + size_of (Node j) ≤ suc n → (Node k ≡ Node j) ⊎ Differ (Node k) (Node j)
    two_nodes n known k j ref ref' small = by (get_in forks k ref) (get_in forks j ref')
      where
        by : (b : Branch) × (slice_get forks k ≡ Some b) → (c : Branch) × (slice_get forks j ≡ Some c) → (Node k ≡ Node j) ⊎ Differ (Node k) (Node j)
        by (b, at) (c, there) = go (cases_lt c.var b.var)
          where
            go : (c.var < b.var) ⊎ (b.var ≤ c.var) → (Node k ≡ Node j) ⊎ Differ (Node k) (Node j)
            go (inl less) = swapped (Node j) (Node k) (whole_step n known j c (Node k) there ref (from_weaker b.var c.var (Node k) (omega arith) (from_own k b at)) (omega arith))
            go (inr more) = whole_step n known k b (Node j) at ref' (from_weaker c.var b.var (Node j) more (from_own j c there)) small

    known_all : (n : ℕ) → Known n
    known_all n Zero Zero small ref ref' = inl refl
    known_all n One One small ref ref' = inl refl
    known_all n Zero One small ref ref' = inr (λ _. false, λ e. false≢true (sym (value_zero (λ _. false) forks) ∙ e ∙ value_one (λ _. false) forks))
    known_all n One Zero small ref ref' = inr (λ _. false, λ e. false≢true (sym (value_zero (λ _. false) forks) ∙ sym e ∙ value_one (λ _. false) forks))
    known_all zero (Node k) g small ref ref' = absurd (omega arith)
    known_all zero Zero (Node j) small ref ref' = absurd (omega arith)
    known_all zero One (Node j) small ref ref' = absurd (omega arith)
    known_all (suc n) (Node k) Zero small ref ref' = let b = get_in forks k ref in whole_step n (known_all n) k b.0 Zero b.1 tt tt small
    known_all (suc n) (Node k) One small ref ref' = let b = get_in forks k ref in whole_step n (known_all n) k b.0 One b.1 tt tt small
    known_all (suc n) Zero (Node j) small ref ref' = let c = get_in forks j ref' in swapped (Node j) Zero (whole_step n (known_all n) j c.0 Zero c.1 tt tt (omega arith))
    known_all (suc n) One (Node j) small ref ref' = let c = get_in forks j ref' in swapped (Node j) One (whole_step n (known_all n) j c.0 One c.1 tt tt (omega arith))
    known_all (suc n) (Node k) (Node j) small ref ref' = two_nodes n (known_all n) k j ref ref' small

    -- two refs are the same, or have different values at some inputs
    pub same_or_differ : (f g : Ref) → IsRef forks f → IsRef forks g → (f ≡ g) ⊎ Differ f g
    same_or_differ f g = known_all (size_of f + size_of g) f g (omega arith)

    pub same_refs : (f g : Ref) → IsRef forks f → IsRef forks g → ((x : Inputs) → value_at forks f x ≡ value_at forks g x) → f ≡ g
    same_refs f g ref ref' same = by (same_or_differ f g ref ref')
      where
        by : (f ≡ g) ⊎ Differ f g → f ≡ g
        by (inl e) = e
        by (inr (x, ne)) = absurd (ne (same x))

    pub different_refs : (f g : Ref) → IsRef forks f → IsRef forks g → f ≢ g → Differ f g
    different_refs f g ref ref' ne = by (same_or_differ f g ref ref')
      where
        by : (f ≡ g) ⊎ Differ f g → Differ f g
        by (inl e) = absurd (ne e)
        by (inr d) = d

    -- a fork depends on its variable
    pub fork_depends : (k : ℕ) (b : Branch) → slice_get forks k ≡ Some b → DependsOn (value_at forks (Node k)) b.var
    fork_depends k b at =
        let refs = part_refs k b at in
        let d = different_refs b.low b.high refs.0 refs.1 (h.differ k b at) in
        let low = value_low k b (with_input d.0 b.var false) at (with_same d.0 b.var false) ∙ apart b.low b.var false d.0 refs.0 (h.rise k b at).0 in
        let high = value_high k b (with_input d.0 b.var true) at (with_same d.0 b.var true) ∙ apart b.high b.var true d.0 refs.1 (h.rise k b at).1 in
        record { inputs = d.0; matters = λ e. d.1 (sym low ∙ e ∙ high) }

    -- a ref to which no variable below v matters is one of later variables
    pub from_values : (v : ℕ) (r : Ref) → IsRef forks r → ((k : ℕ) → k < v → DependsOn (value_at forks r) k → ⊥) → IsFrom forks v r
    from_values v Zero ref never = tt
    from_values v One ref never = tt
    from_values v (Node k) ref never = λ b at. go b at (cases_lt b.var v)
      where
        go : (b : Branch) → slice_get forks k ≡ Some b → (b.var < v) ⊎ (v ≤ b.var) → v ≤ b.var
        go b at (inl less) = absurd (never b.var less (fork_depends k b at))
        go b at (inr more) = more

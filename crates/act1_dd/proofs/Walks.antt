-- A walk over the forks of a diagram: each listed fork comes from it, and shows its parts once it was looked at.
use Rattle.std.proofs.Common.{ℕ, suc, zero, ◌≡◌, ◌≢◌, ◌<◌, ◌≤◌, ◌+◌, ◌⊎◌, Bool, true, false, List, [], ◌∷◌, ◌++◌, length, nat_eq, refl, sym, ap, ◌∙◌, inl, inr, arith, subst}
use Rattle.std.proofs.lemmas.Bool.{cases_lt, false≢true}
use Rattle.std.proofs.lemmas.Bool.Decides.{nat_tests}
use Rattle.std.proofs.lemmas.List.{length_push}
use Rattle.std.specs.Prelude.{◌||◌, slice_get, Some, None, Contains}
use Rattle.std.specs.List.{list_any}
use Rattle.act1_dd.specs.declared.refs.Ref.{Ref}
use Rattle.act1_dd.specs.declared.refs.Ref.TheVariants.{Zero, One, Node}
use Rattle.act1_dd.specs.declared.refs.Branch.{Branch}
use Rattle.act1_dd.specs.Inputs.{Inputs, with_input, fixed_below}
use Rattle.act1_dd.specs.Diagram.{value_at, IsRef, IsFrom, IsReduced}
use Rattle.act1_dd.specs.Steps.{with_found, IsListed, IsPart}
use Rattle.act1_base.proofs.ListGets.{one_at, get_in, get_within, get_more, get_last, get_cases, contains_at, place_of}
use Rattle.act1_dd.proofs.Values.{two_values, same_inputs}
use Rattle.act1_dd.proofs.Canonical.{with_same, with_other, agree_from, from_own, low_part, high_part}

pub fixed_low : (v : ℕ) (fixed x : Inputs) (k : ℕ) → k < v → fixed_below v fixed x k ≡ fixed k
fixed_low v fixed x k low = grind (arith, nat_tests)

pub fixed_high : (v : ℕ) (fixed x : Inputs) (k : ℕ) → v ≤ k → fixed_below v fixed x k ≡ x k
fixed_high v fixed x k high = grind (arith, nat_tests)

-- the fork comes from f by fixing the variables below its own
pub record IsReached (forks : List Branch) (f : Ref) (k : ℕ) : Type 0 where
  pub branch : Branch
  pub place : slice_get forks k ≡ Some branch
  pub fixed : Inputs
  pub comes : (x : Inputs) → value_at forks (Node k) x ≡ value_at forks f (fixed_below branch.var fixed x)

-- a list has nothing at a place past its end
pub past : (found : List ℕ) (next : ℕ) → None ≡ slice_get found next → length found ≤ next
past found next none = by (cases_lt next (length found))
  where
    by : (next < length found) ⊎ (length found ≤ next) → length found ≤ next
    by (inl low) = let at = get_in found next low in let e : None ≡ Some at.0 = none ∙ at.1 in cc
    by (inr more) = more

-- f is listed, and so many of the listed forks have been looked at
pub record IsShown (forks : List Branch) (f : Ref) (found : List ℕ) (next : ℕ) : Type 0 where
  pub begun : IsListed found f
  pub few : next ≤ length found
  pub shown : (i k : ℕ) (b : Branch) → i < next → slice_get found i ≡ Some k → slice_get forks k ≡ Some b → IsListed found b.low × IsListed found b.high

-- and each of them comes from f, and stands there once
pub record IsWalk (forks : List Branch) (f : Ref) (found : List ℕ) (next : ℕ) : Type 0 where
  pub shows : IsShown forks f found next
  pub reached : (i k : ℕ) → slice_get found i ≡ Some k → IsReached forks f k
  pub once : (i j k : ℕ) → slice_get found i ≡ Some k → slice_get found j ≡ Some k → i ≡ j

equal_numbers : (k m : ℕ) → nat_eq k m ≡ true → k ≡ m
equal_numbers k m h = grind (arith, nat_tests)

unequal_numbers : (k m : ℕ) → nat_eq k m ≡ false → k ≢ m
unequal_numbers k m h = grind (arith, nat_tests)

is_among : (k : ℕ) (found : List ℕ) → list_any (nat_eq k) found ≡ true → Contains found k
is_among k [] h = absurd (false≢true h)
is_among k (m ∷ ms) h = by (λ g. is_among k ms g) (two_values (nat_eq k m))
  where
    by : (list_any (nat_eq k) ms ≡ true → Contains ms k) → (nat_eq k m ≡ true) ⊎ (nat_eq k m ≡ false) → Contains (m ∷ ms) k
    by later (inl e) = (0, omega arith, sym (equal_numbers k m e))
    by later (inr e) = let r = later (sym (ap (λ (b : Bool). b || list_any (nat_eq k) ms) e) ∙ h) in let low = r.1 in (suc r.0, omega arith, r.2)

not_among : (k : ℕ) (found : List ℕ) → list_any (nat_eq k) found ≡ false → Contains found k → ⊥
not_among k [] h c = let low = c.1 in omega arith
not_among k (m ∷ ms) h c = by (λ g. not_among k ms g) (two_values (nat_eq k m)) c
  where
    by : (list_any (nat_eq k) ms ≡ false → Contains ms k → ⊥) → (nat_eq k m ≡ true) ⊎ (nat_eq k m ≡ false) → Contains (m ∷ ms) k → ⊥
    by later (inl e) c = false≢true (sym h ∙ ap (λ (b : Bool). b || list_any (nat_eq k) ms) e)
    by later (inr e) (zero, low, same) = unequal_numbers k m e (sym same)
    by later (inr e) (suc i, low, same) = later (sym (ap (λ (b : Bool). b || list_any (nat_eq k) ms) e) ∙ h) (i, omega arith, same)

-- what a list has once a ref was listed
pub record IsWith (found : List ℕ) (r : Ref) (more : List ℕ) : Type 0 where
  pub listed : IsListed more r
  pub kept : (i k : ℕ) → slice_get found i ≡ Some k → slice_get more i ≡ Some k
  pub longer : length found ≤ length more
  pub cases : (i k : ℕ) → slice_get more i ≡ Some k → (slice_get found i ≡ Some k) ⊎ ((i ≡ length found) × (r ≡ Node k) × (Contains found k → ⊥))

pub is_with : (found : List ℕ) (r : Ref) → IsWith found r (with_found found r)
is_with found Zero = record { listed = tt; kept = λ i k h. h; longer = omega arith; cases = λ i k h. inl h }
is_with found One = record { listed = tt; kept = λ i k h. h; longer = omega arith; cases = λ i k h. inl h }
is_with found (Node n) = by (two_values (list_any (nat_eq n) found))
  where
    by : (list_any (nat_eq n) found ≡ true) ⊎ (list_any (nat_eq n) found ≡ false) → IsWith found (Node n) (with_found found (Node n))
    by (inl e) = rw e (record { listed = is_among n found e; kept = λ i k h. h; longer = omega arith; cases = λ i k h. inl h })
    by (inr e) =
        let one = length_push found n in
        let new : IsWith found (Node n) (found ++ n ∷ []) = record {
          listed = contains_at (found ++ n ∷ []) (length found) n (get_last found n (length found) refl);
          kept = λ i k h. get_more found n k i h;
          longer = omega arith;
          cases = λ i k h. added i k (get_cases found n k i h);
        } in rw e new
      where
        added : (i k : ℕ) → (slice_get found i ≡ Some k) ⊎ ((i ≡ length found) × (n ≡ k)) → (slice_get found i ≡ Some k) ⊎ ((i ≡ length found) × (Node n ≡ Node k) × (Contains found k → ⊥))
        added i k (inl h) = inl h
        added i k (inr h) = inr (h.0, ap Node h.1, subst (λ (m : ℕ). Contains found m → ⊥) h.1 (not_among n found e))

module _ (found more : List ℕ) (r : Ref) (w : IsWith found r more) where
  pub still_listed : (s : Ref) → IsListed found s → IsListed more s
  still_listed Zero h = tt
  still_listed One h = tt
  still_listed (Node k) h = let p = place_of found k h in contains_at more p.0 k (w.kept p.0 k p.1)

  pub still_once : ((i j k : ℕ) → slice_get found i ≡ Some k → slice_get found j ≡ Some k → i ≡ j) → (i j k : ℕ) → slice_get more i ≡ Some k → slice_get more j ≡ Some k → i ≡ j
  still_once once i j k at there = by (w.cases i k at) (w.cases j k there)
    where
      by : (slice_get found i ≡ Some k) ⊎ ((i ≡ length found) × (r ≡ Node k) × (Contains found k → ⊥)) → (slice_get found j ≡ Some k) ⊎ ((j ≡ length found) × (r ≡ Node k) × (Contains found k → ⊥)) → i ≡ j
      by (inl h) (inl g) = once i j k h g
      by (inl h) (inr g) = absurd (g.2 (contains_at found i k h))
      by (inr h) (inl g) = absurd (h.2 (contains_at found j k g))
      by (inr h) (inr g) = h.0 ∙ sym g.0

-- the next listed fork shows its parts
pub shown_goes_on : (forks : List Branch) (f : Ref) (found : List ℕ) (next k : ℕ) (b : Branch) → IsShown forks f found next → slice_get found next ≡ Some k → slice_get forks k ≡ Some b
    → IsShown forks f (with_found (with_found found b.low) b.high) (next + 1)
shown_goes_on forks f found next k b w at there = record {
  begun = still_listed mid more b.high second f (still_listed found mid b.low first f w.begun);
  few = let longer = first.longer in let longest = second.longer in let low = get_within found next k at in omega arith;
  shown = λ i j c low here its. shown i j c its (cases_lt i next) low here;
}
  where
    mid : List ℕ
    mid = with_found found b.low

    more : List ℕ
    more = with_found mid b.high

    first : IsWith found b.low mid
    first = is_with found b.low

    second : IsWith mid b.high more
    second = is_with mid b.high

    now : (r : Ref) → IsListed found r → IsListed more r
    now r listed = still_listed mid more b.high second r (still_listed found mid b.low first r listed)

    -- what stands at a place that there was stays
    before : (i j : ℕ) → i < length found → slice_get more i ≡ Some j → slice_get found i ≡ Some j
    before i j low here = let old = get_in found i low in old.1 ∙ sym (second.kept i old.0 (first.kept i old.0 old.1)) ∙ here

    shown : (i j : ℕ) (c : Branch) → slice_get forks j ≡ Some c → (i < next) ⊎ (next ≤ i) → i < next + 1 → slice_get more i ≡ Some j → IsListed more c.low × IsListed more c.high
    shown i j c its (inl earlier) low here =
        let few = w.few in
        let parts = w.shown i j c earlier (before i j (omega arith) here) its in
        (now c.low parts.0, now c.high parts.1)
    shown i j c its (inr later) low here =
        let is : i ≡ next = omega arith in
        let number : k ≡ j = one_at more next k j (second.kept next k (first.kept next k at)) (subst (λ (m : ℕ). slice_get more m ≡ Some j) is here) in
        let branch : b ≡ c = one_at forks j b c (subst (λ (m : ℕ). slice_get forks m ≡ Some b) number there) its in
        subst (λ (d : Branch). IsListed more d.low × IsListed more d.high) branch (still_listed mid more b.high second b.low first.listed, second.listed)

module _ (forks : List Branch) (h : IsReduced forks) (f : Ref) where
  -- a part of a reached fork is reached
  pub part_reached : (k : ℕ) (w : IsReached forks f k) (side : Bool) (part : Ref) (j : ℕ) → IsPart forks w.branch.var side (Node k) part → part ≡ Node j → IsReached forks f j
  part_reached k w side part j p is = by (get_in forks j (subst (λ (r : Ref). IsRef forks r) is p.ref))
    where
      by : (d : Branch) × (slice_get forks j ≡ Some d) → IsReached forks f j
      by (d, at) = record { branch = d; place = at; fixed = fixed; comes = comes }
        where
          v : ℕ
          v = w.branch.var

          less : v < d.var
          less = let later = subst (λ (r : Ref). IsFrom forks (v + 1) r) is p.later d at in omega arith

          fixed : Inputs
          fixed = with_input w.fixed v side

          comes : (x : Inputs) → value_at forks (Node j) x ≡ value_at forks f (fixed_below d.var fixed x)
          comes x =
              agree_from forks h (Node j) d.var x y (get_within forks j d at) (from_own forks j d at) (λ i high. sym (fixed_high d.var fixed x i high))
              ∙ ap (λ (r : Ref). value_at forks r y) (sym is) ∙ sym (p.value y (fixed_low d.var fixed x v less ∙ with_same w.fixed v side))
              ∙ w.comes y ∙ ap (value_at forks f) (same_inputs (fixed_below v w.fixed y) y (λ i. same i (cases_lt i v)))
            where
              y : Inputs
              y = fixed_below d.var fixed x

              same : (i : ℕ) → (i < v) ⊎ (v ≤ i) → fixed_below v w.fixed y i ≡ y i
              same i (inl low) = let gap = less in fixed_low v w.fixed y i low ∙ sym (with_other w.fixed v side i (λ e. omega arith)) ∙ sym (fixed_low d.var fixed x i (omega arith))
              same i (inr high) = fixed_high v w.fixed y i high

  pub root_reached : (k : ℕ) → IsRef forks f → f ≡ Node k → IsReached forks f k
  root_reached k ref is = by (get_in forks k (subst (λ (r : Ref). IsRef forks r) is ref))
    where
      by : (d : Branch) × (slice_get forks k ≡ Some d) → IsReached forks f k
      by (d, at) = record {
        branch = d;
        place = at;
        fixed = λ _. false;
        comes = λ x.
            agree_from forks h (Node k) d.var x (fixed_below d.var (λ _. false) x) (get_within forks k d at) (from_own forks k d at) (λ i high. sym (fixed_high d.var (λ _. false) x i high))
            ∙ ap (λ (r : Ref). value_at forks r (fixed_below d.var (λ _. false) x)) (sym is);
      }

  pub walk_begins : IsRef forks f → IsWalk forks f (with_found [] f) 0
  walk_begins ref =
      let w = is_with [] f in
      record {
        shows = record { begun = w.listed; few = omega arith; shown = λ i k b low at there. absurd (omega arith) };
        reached = λ i k at. first i k (w.cases i k at);
        once = still_once [] (with_found [] f) f w (λ i j k at there. elim (none i k at) [ ]);
      }
    where
      none : (i k : ℕ) → slice_get [] i ≡ Some k → ⊥
      none i k at = cc

      first : (i k : ℕ) → (slice_get [] i ≡ Some k) ⊎ ((i ≡ 0) × (f ≡ Node k) × (Contains [] k → ⊥)) → IsReached forks f k
      first i k (inl at) = absurd (none i k at)
      first i k (inr new) = root_reached k ref new.1

  -- a ref is listed that is reached where it is a fork
  with_reached : (found : List ℕ) (r : Ref) → ((i k : ℕ) → slice_get found i ≡ Some k → IsReached forks f k) → ((k : ℕ) → r ≡ Node k → IsReached forks f k) → (i k : ℕ) → slice_get (with_found found r) i ≡ Some k → IsReached forks f k
  with_reached found r reached new i k at = by ((is_with found r).cases i k at)
    where
      by : (slice_get found i ≡ Some k) ⊎ ((i ≡ length found) × (r ≡ Node k) × (Contains found k → ⊥)) → IsReached forks f k
      by (inl old) = reached i k old
      by (inr (last, is, fresh)) = new k is

  -- the next listed fork shows its parts
  pub walk_goes_on : (found : List ℕ) (next k : ℕ) (b : Branch) → IsWalk forks f found next → slice_get found next ≡ Some k → slice_get forks k ≡ Some b → IsWalk forks f (with_found (with_found found b.low) b.high) (next + 1)
  walk_goes_on found next k b w at there = record {
    shows = shown_goes_on forks f found next k b w.shows at there;
    reached = with_reached mid b.high (with_reached found b.low w.reached (λ j is. part_reached k own false b.low j (low_part forks h k b own.branch.var there same) is)) (λ j is. part_reached k own true b.high j (high_part forks h k b own.branch.var there same) is);
    once = still_once mid (with_found mid b.high) b.high (is_with mid b.high) (still_once found mid b.low (is_with found b.low) w.once);
  }
    where
      mid : List ℕ
      mid = with_found found b.low

      own : IsReached forks f k
      own = w.reached next k at

      same : b.var ≡ own.branch.var
      same = ap (λ (d : Branch). d.var) (one_at forks k b own.branch there own.place)

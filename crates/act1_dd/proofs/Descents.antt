-- What is left of a diagram where the variables below some variable are fixed, and so that each fork of a function is one under its ref.
use Rattle.std.proofs.Common.{ℕ, suc, zero, ◌≡◌, ◌<◌, ◌≤◌, ◌⊎◌, Bool, true, false, List, refl, sym, ap, ◌∙◌, inl, inr, arith}
use Rattle.std.proofs.lemmas.Bool.{cases_lt}
use Rattle.std.specs.Prelude.{slice_get, Some}
use Rattle.act1_dd.specs.declared.refs.Ref.{Ref}
use Rattle.act1_dd.specs.declared.refs.Ref.TheVariants.{Zero, One, Node}
use Rattle.act1_dd.specs.declared.refs.Branch.{Branch}
use Rattle.act1_dd.specs.Inputs.{Inputs, Function, with_input, fixed_below}
use Rattle.act1_dd.specs.Forks.{IsSame, DependsOn, IsForkOf}
use Rattle.act1_dd.specs.Diagram.{value_at, IsRef, IsReduced, IsUnder, size_of}
use Rattle.act1_dd.specs.Diagram.IsUnder.{itself, low_of, high_of}
use Rattle.act1_base.proofs.ListGets.{get_in, get_within, one_at}
use Rattle.act1_dd.proofs.Values.{two_values, value_zero, value_one}
use Rattle.act1_dd.proofs.Canonical.{agree_from, fork_depends, from_own, from_weaker, high_part, low_part, part_refs, value_high, value_low}
use Rattle.act1_dd.proofs.Walks.{IsReached, fixed_low, fixed_high, part_reached, root_reached}

-- refs among which each fork has its parts
module _ (forks : List Branch) (h : IsReduced forks) (Among : Ref → Type 0) (closed : (k : ℕ) (b : Branch) → Among (Node k) → slice_get forks k ≡ Some b → Among b.low × Among b.high) where
  -- one of them, with the value that is left where the variables below v are fixed
  abbrev Left : Ref → ℕ → Inputs → Type 0
  Left r v fixed = (s : Ref) × IsRef forks s × Among s × ((x : Inputs) → value_at forks r (fixed_below v fixed x) ≡ value_at forks s x)

  module _ (v : ℕ) (fixed : Inputs) where
    fork_left : (k : ℕ) (b : Branch) → slice_get forks k ≡ Some b → Among (Node k) → Left b.low v fixed → Left b.high v fixed → (b.var < v) ⊎ (v ≤ b.var) → (fixed b.var ≡ true) ⊎ (fixed b.var ≡ false) → Left (Node k) v fixed
    fork_left k b at among low high (inr later) value =
        (Node k, get_within forks k b at, among, λ x. agree_from forks h (Node k) v (fixed_below v fixed x) x (get_within forks k b at) (from_weaker forks b.var v (Node k) later (from_own forks k b at)) (λ i more. fixed_high v fixed x i more))
    fork_left k b at among low high (inl less) (inl e) =
        (high.0, high.1, high.2, λ x. value_high forks h k b (fixed_below v fixed x) at (fixed_low v fixed x b.var less ∙ e) ∙ high.3 x)
    fork_left k b at among low high (inl less) (inr e) =
        (low.0, low.1, low.2, λ x. value_low forks h k b (fixed_below v fixed x) at (fixed_low v fixed x b.var less ∙ e) ∙ low.3 x)

    left_up_to : (n : ℕ) (r : Ref) → size_of r ≤ n → IsRef forks r → Among r → Left r v fixed
    left_up_to n Zero small ref among = (Zero, tt, among, λ x. value_zero (fixed_below v fixed x) forks ∙ sym (value_zero x forks))
    left_up_to n One small ref among = (One, tt, among, λ x. value_one (fixed_below v fixed x) forks ∙ sym (value_one x forks))
    left_up_to zero (Node k) small ref among = absurd (omega arith)
    left_up_to (suc n) (Node k) small ref among =
        let own = get_in forks k ref in
        let b = own.0 in
        let at = own.1 in
        let refs = part_refs forks h k b at in
        let older = h.older k b at in
        let left = older.0 in
        let right = older.1 in
        let parts = closed k b among at in
        fork_left k b at among (left_up_to n b.low (omega arith) refs.0 parts.0) (left_up_to n b.high (omega arith) refs.1 parts.1) (cases_lt b.var v) (two_values (fixed b.var))

  constant_fork : (g : Function) (c : Bool) (v : ℕ) → ((x : Inputs) → g x ≡ c) → DependsOn g v → ⊥
  constant_fork g c v same d = d.matters (same (with_input d.inputs v false) ∙ sym (same (with_input d.inputs v true)))

  -- each fork of the value of one of them is the value of a fork among them
  pub fork_among : (f : Ref) → IsRef forks f → Among f → (g : Function) → IsForkOf (value_at forks f) g → (k : ℕ) × Among (Node k) × IsSame g (value_at forks (Node k))
  fork_among f ref among g is = by (left_up_to is.var is.fixed (size_of f) f (omega arith) ref among)
    where
      by : Left f is.var is.fixed → (k : ℕ) × Among (Node k) × IsSame g (value_at forks (Node k))
      by (Zero, r, own, value) = absurd (constant_fork g false is.var (λ x. is.comes x ∙ value x ∙ value_zero x forks) is.depends)
      by (One, r, own, value) = absurd (constant_fork g true is.var (λ x. is.comes x ∙ value x ∙ value_one x forks) is.depends)
      by (Node k, r, own, value) = (k, own, λ x. is.comes x ∙ value x)

module _ (forks : List Branch) (h : IsReduced forks) (f : Ref) (ref : IsRef forks f) where
  under_reached : (r : Ref) → IsUnder forks f r → (j : ℕ) → r ≡ Node j → IsReached forks f j
  under_reached r (itself s same) j is = root_reached forks h f j ref (same ∙ is)
  under_reached r (low_of k b s at part under) j is =
      let w = under_reached (Node k) under k refl in
      part_reached forks h f k w false b.low j (low_part forks h k b w.branch.var at (ap (λ (d : Branch). d.var) (one_at forks k b w.branch at w.place))) (part ∙ is)
  under_reached r (high_of k b s at part under) j is =
      let w = under_reached (Node k) under k refl in
      part_reached forks h f k w true b.high j (high_part forks h k b w.branch.var at (ap (λ (d : Branch). d.var) (one_at forks k b w.branch at w.place))) (part ∙ is)

  pub under_is_fork : (k : ℕ) → IsUnder forks f (Node k) → IsForkOf (value_at forks f) (value_at forks (Node k))
  under_is_fork k under =
      let w = under_reached (Node k) under k refl in
      record { var = w.branch.var; fixed = w.fixed; comes = w.comes; depends = fork_depends forks h k w.branch w.place }

  pub fork_is_under : (g : Function) → IsForkOf (value_at forks f) g → (k : ℕ) × IsUnder forks f (Node k) × IsSame g (value_at forks (Node k))
  fork_is_under = fork_among forks h (IsUnder forks f) (λ k b under at. (low_of k b b.low at refl under, high_of k b b.high at refl under)) f ref (itself f refl)

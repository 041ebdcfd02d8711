-- Restrictions: of a fork of a later variable, of a fork of the variable, and of a fork from those of its parts.
use Rattle.std.proofs.Common.{ℕ, ◌≡◌, ◌≢◌, ◌<◌, ◌≤◌, ◌+◌, ◌⊎◌, Bool, true, false, List, refl, sym, ap, ◌∙◌, inl, inr, arith}
use Rattle.std.specs.Prelude.{if◌then◌else◌, slice_get, Some}
use Rattle.act1_dd.specs.declared.refs.Ref.{Ref}
use Rattle.act1_dd.specs.declared.refs.Ref.TheVariants.{Zero, One, Node}
use Rattle.act1_dd.specs.declared.refs.Branch.{Branch}
use Rattle.act1_dd.specs.Inputs.{Inputs, with_input}
use Rattle.act1_dd.specs.Diagram.{value_at, IsRef, IsFrom, IsReduced, IsRestriction, IsForkInto, Keeps}
use Rattle.act1_base.proofs.ListGets.{get_within}
use Rattle.act1_dd.proofs.Values.{two_values, value_zero, value_one}
use Rattle.act1_dd.proofs.Canonical.{with_same, with_other, agree_from, apart, from_own, from_values, from_weaker, high_part, low_part, part_refs, value_high, value_low}
use Rattle.act1_dd.proofs.Growing.{keeps_then}
use Rattle.act1_dd.proofs.Parts.{agree_with, if_one, if_zero}

-- a constant is its own restriction
pub constant_alone : (forks : List Branch) (f : Ref) (v : ℕ) (c : Bool) → ((k : ℕ) → f ≢ Node k) → IsRestriction forks f v c f
constant_alone forks Zero v c constant x = value_zero x forks ∙ sym (value_zero (with_input x v c) forks)
constant_alone forks One v c constant x = value_one x forks ∙ sym (value_one (with_input x v c) forks)
constant_alone forks (Node k) v c constant x = absurd (constant k refl)

module _ (forks : List Branch) (h : IsReduced forks) (f : Ref) (k : ℕ) (is : f ≡ Node k) (b : Branch) (at : slice_get forks k ≡ Some b) (v : ℕ) where
  -- a fork of a later variable
  pub later_alone : (c : Bool) → v < b.var → IsRestriction forks f v c (Node k)
  later_alone c less x =
      sym (apart forks h (Node k) v c x (get_within forks k b at) (from_weaker forks b.var (v + 1) (Node k) (omega arith) (from_own forks k b at)))
      ∙ ap (λ (r : Ref). value_at forks r (with_input x v c)) (sym is)

  -- a fork of the variable
  pub high_alone : (c : Bool) → b.var ≡ v → c ≡ true → IsRestriction forks f v c b.high
  high_alone c same one x =
      let p = high_part forks h k b v at same in
      let y = with_input x v c in
      sym (apart forks h b.high v c x p.ref p.later) ∙ sym (p.value y (with_same x v c ∙ one)) ∙ ap (λ (r : Ref). value_at forks r y) (sym is)

  pub low_alone : (c : Bool) → b.var ≡ v → c ≡ false → IsRestriction forks f v c b.low
  low_alone c same none x =
      let p = low_part forks h k b v at same in
      let y = with_input x v c in
      sym (apart forks h b.low v c x p.ref p.later) ∙ sym (p.value y (with_same x v c ∙ none)) ∙ ap (λ (r : Ref). value_at forks r y) (sym is)

-- a fork of an earlier variable, while the forks grow from `old` over `mid` to `now`
module _ (old mid now : List Branch) (h : IsReduced old) (h' : IsReduced now) (first : Keeps old mid) (second : Keeps mid now) (k : ℕ) (b : Branch) (at : slice_get old k ≡ Some b) (v : ℕ) (c : Bool) (less : b.var < v)
    (low high : Ref) (low_ref : IsRef mid low) (low_is : IsRestriction mid b.low v c low) (high_ref : IsRef now high) (high_is : IsRestriction now b.high v c high) where
  both : Keeps old now
  both = keeps_then old mid now first second

  low_now : IsRestriction now b.low v c low
  low_now x = second.values low low_ref x ∙ low_is x ∙ sym (second.values b.low (first.refs b.low (part_refs old h k b at).0) (with_input x v c))

  -- what comes of a part has later variables than the fork
  part_later : (part r : Ref) → IsRef old part → IsFrom old (b.var + 1) part → IsRef now r → IsRestriction now part v c r → IsFrom now (b.var + 1) r
  part_later part r part_ref later ref value =
      from_values now h' (b.var + 1) r ref (λ j low d.
      let x = with_input d.inputs j false in
      let y = with_input d.inputs j true in
      let same : (i : ℕ) → b.var + 1 ≤ i → x i ≡ y i = λ i high. with_other d.inputs j false i (λ e. omega arith) ∙ sym (with_other d.inputs j true i (λ e. omega arith)) in
      d.matters (value x ∙ both.values part part_ref (with_input x v c)
      ∙ agree_from old h part (b.var + 1) (with_input x v c) (with_input y v c) part_ref later (agree_with (λ i. b.var + 1 ≤ i) v c x y same)
      ∙ sym (both.values part part_ref (with_input y v c)) ∙ sym (value y)))

  pub low_later : IsFrom now (b.var + 1) low
  low_later = part_later b.low low (part_refs old h k b at).0 (h.rise k b at).0 (second.refs low low_ref) low_now

  pub high_later : IsFrom now (b.var + 1) high
  high_later = part_later b.high high (part_refs old h k b at).1 (h.rise k b at).1 high_ref high_is

  pub made : (last : List Branch) → Keeps now last → (r : Ref) → IsForkInto last b.var low high r → IsRestriction last (Node k) v c r
  made last third r into x = into x ∙ by (two_values (x b.var)) ∙ sym (whole.values (Node k) (get_within old k b at) y)
    where
      y : Inputs
      y = with_input x v c

      whole : Keeps old last
      whole = keeps_then old now last both third

      var : y b.var ≡ x b.var
      var = with_other x v c b.var (λ e. omega arith)

      by : (x b.var ≡ true) ⊎ (x b.var ≡ false) → (if x b.var then value_at last high x else value_at last low x) ≡ value_at old (Node k) y
      by (inl e) =
          sym (if_one (x b.var) (value_at last high x) (value_at last low x) e) ∙ third.values high high_ref x ∙ high_is x
          ∙ both.values b.high (part_refs old h k b at).1 y ∙ sym (value_high old h k b y at (var ∙ e))
      by (inr e) =
          sym (if_zero (x b.var) (value_at last high x) (value_at last low x) e) ∙ third.values low (second.refs low low_ref) x ∙ low_now x
          ∙ both.values b.low (part_refs old h k b at).0 y ∙ sym (value_low old h k b y at (var ∙ e))

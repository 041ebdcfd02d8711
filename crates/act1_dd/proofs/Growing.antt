-- What stays when a fork is added, and that the new forks are reduced ones too.
use Rattle.std.proofs.Common.{ℕ, ◌≡◌, ◌≢◌, ◌≤◌, ◌+◌, ◌⊎◌, List, [], ◌∷◌, ◌++◌, length, refl, sym, ◌∙◌, inl, inr, arith, subst}
use Rattle.std.proofs.lemmas.List.{length_push}
use Rattle.std.specs.Prelude.{slice_get, Some, Contains}
use Rattle.act1_dd.specs.declared.refs.Ref.{Ref}
use Rattle.act1_dd.specs.declared.refs.Ref.TheVariants.{Zero, One, Node}
use Rattle.act1_dd.specs.declared.refs.Branch.{Branch}
use Rattle.act1_dd.specs.Diagram.{IsRef, IsFrom, IsReduced, IsBranchOf, Keeps, size_of}
use Rattle.act1_dd.specs.Steps.{IsNumbered}
use Rattle.act1_base.proofs.ListGets.{get_more, get_cases, contains_at}
use Rattle.act1_dd.proofs.Values.{value_node, value_more, size_within}
use Rattle.act1_dd.proofs.Canonical.{part_refs}

pub keeps_all : (forks : List Branch) → Keeps forks forks
keeps_all forks = record { refs = λ r h. h; values = λ r h x. refl; branches = λ k b h. h }

pub keeps_then : (a b c : List Branch) → Keeps a b → Keeps b c → Keeps a c
keeps_then a b c h k = record {
  refs = λ r ref. k.refs r (h.refs r ref);
  values = λ r ref x. k.values r (h.refs r ref) x ∙ h.values r ref x;
  branches = λ j d at. k.branches j d (h.branches j d at);
}

pub branch_of : (forks : List Branch) (k : ℕ) (b : Branch) → IsReduced forks → slice_get forks k ≡ Some b → IsBranchOf forks k b
branch_of forks k b h at = record {
  place = at;
  low = (part_refs forks h k b at).0;
  high = (part_refs forks h k b at).1;
  older = h.older k b at;
  rise = h.rise k b at;
  differ = h.differ k b at;
  value = λ x. value_node x forks k b at (h.older k b at).0 (h.older k b at).1;
}

module _ (old : List Branch) (b : Branch) where
  ref_more : (r : Ref) → IsRef old r → IsRef (old ++ b ∷ []) r
  ref_more Zero ref = tt
  ref_more One ref = tt
  ref_more (Node k) ref = let one = length_push old b in omega arith

  from_more : (v : ℕ) (r : Ref) → IsRef old r → IsFrom old v r → IsFrom (old ++ b ∷ []) v r
  from_more v Zero ref later = tt
  from_more v One ref later = tt
  from_more v (Node k) ref later = λ c at. by c (get_cases old b c k at)
    where
      by : (c : Branch) → (slice_get old k ≡ Some c) ⊎ ((k ≡ length old) × (b ≡ c)) → v ≤ c.var
      by c (inl there) = later c there
      by c (inr new) = absurd (omega (arith, new.0))

  pub keeps_more : Keeps old (old ++ b ∷ [])
  keeps_more = record {
    refs = ref_more;
    values = λ r ref x. value_more x old b r (size_within old r ref);
    branches = λ k c at. get_more old b c k at;
  }

  module _ (h : IsReduced old) (low : IsRef old b.low) (high : IsRef old b.high) (low_later : IsFrom old (b.var + 1) b.low) (high_later : IsFrom old (b.var + 1) b.high) (differ : b.low ≢ b.high) (fresh : Contains old b → ⊥) where
    old_older : (k : ℕ) (c : Branch) → (slice_get old k ≡ Some c) ⊎ ((k ≡ length old) × (b ≡ c)) → (size_of c.low ≤ k) × (size_of c.high ≤ k)
    old_older k c (inl at) = h.older k c at
    old_older k c (inr (is, same)) =
        subst (λ (d : Branch). (size_of d.low ≤ k) × (size_of d.high ≤ k)) same (let l = size_within old b.low low in omega arith, let l = size_within old b.high high in omega arith)

    both_rise : (k : ℕ) (c : Branch) → (slice_get old k ≡ Some c) ⊎ ((k ≡ length old) × (b ≡ c)) → IsFrom (old ++ b ∷ []) (c.var + 1) c.low × IsFrom (old ++ b ∷ []) (c.var + 1) c.high
    both_rise k c (inl at) =
        let refs = part_refs old h k c at in
        let rise = h.rise k c at in
        (from_more (c.var + 1) c.low refs.0 rise.0, from_more (c.var + 1) c.high refs.1 rise.1)
    both_rise k c (inr (is, same)) =
        subst (λ (d : Branch). IsFrom (old ++ b ∷ []) (d.var + 1) d.low × IsFrom (old ++ b ∷ []) (d.var + 1) d.high) same (from_more (b.var + 1) b.low low low_later, from_more (b.var + 1) b.high high high_later)

    both_differ : (k : ℕ) (c : Branch) → (slice_get old k ≡ Some c) ⊎ ((k ≡ length old) × (b ≡ c)) → c.low ≢ c.high
    both_differ k c (inl at) = h.differ k c at
    both_differ k c (inr (is, same)) = subst (λ (d : Branch). d.low ≢ d.high) same differ

    both_once : (j k : ℕ) (c : Branch) → (slice_get old j ≡ Some c) ⊎ ((j ≡ length old) × (b ≡ c)) → (slice_get old k ≡ Some c) ⊎ ((k ≡ length old) × (b ≡ c)) → j ≡ k
    both_once j k c (inl at) (inl there) = h.once j k c at there
    both_once j k c (inl at) (inr (is, same)) = absurd (fresh (subst (λ (d : Branch). Contains old d) (sym same) (contains_at old j c at)))
    both_once j k c (inr (is, same)) (inl there) = absurd (fresh (subst (λ (d : Branch). Contains old d) (sym same) (contains_at old k c there)))
    both_once j k c (inr (is, same)) (inr (is', same')) = is ∙ sym is'

    pub reduced_more : IsReduced (old ++ b ∷ [])
    reduced_more = record {
      older = λ k c at. old_older k c (get_cases old b c k at);
      rise = λ k c at. both_rise k c (get_cases old b c k at);
      differ = λ k c at. both_differ k c (get_cases old b c k at);
      once = λ j k c at there. both_once j k c (get_cases old b c j at) (get_cases old b c k there);
    }

-- a fork that was there, or is the only new one
pub numbered : (old new : List Branch) (b : Branch) (k : ℕ) → IsNumbered old b new k → IsReduced old → IsRef old b.low → IsRef old b.high → IsFrom old (b.var + 1) b.low → IsFrom old (b.var + 1) b.high
    → b.low ≢ b.high → IsReduced new × Keeps old new
numbered old new b k n h low high low_later high_later differ = by n.others
  where
    by : (new ≡ old) ⊎ ((Contains old b → ⊥) × (new ≡ old ++ b ∷ [])) → IsReduced new × Keeps old new
    by (inl same) = subst (λ (fs : List Branch). IsReduced fs × Keeps old fs) (sym same) (h, keeps_all old)
    by (inr (fresh, more)) = subst (λ (fs : List Branch). IsReduced fs × Keeps old fs) (sym more) (reduced_more old b h low high low_later high_later differ fresh, keeps_more old b)

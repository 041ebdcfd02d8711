-- The first fault of rules in several parts.
use Rattle.std.proofs.Common.{◌≡◌, List, [], ◌∷◌, ◌++◌, refl, ◌∙◌, Some, None, Option, true, inl, inr}
use Rattle.std.proofs.lemmas.Bool.{cases_Bool}
use Rattle.toml.specs.Data.{Members}
use Rattle.act1_devread.specs.declared.fault.DeviceFault.{DeviceFault}
use Rattle.act1_devread.specs.declared.values.Values.{Values}
use Rattle.act1_devread.specs.Document.{values_of}
use Rattle.act1_devread.specs.Rules.{Rule, first_fault, rules_of, missing_rules, kind_rules, size_rules, list_rules, unknown_rules}

-- a fault is something
pub no_fault : (e : DeviceFault) → Some e ≡ None → ⊥
no_fault e h = cc

-- where the first rules hold, the fault is that of the others
pub first_fault-none : (xs ys : List Rule) → first_fault xs ≡ None → first_fault (xs ++ ys) ≡ first_fault ys
unfolding first_fault
first_fault-none [] ys h = refl
first_fault-none (r ∷ rs) ys h = elim (cases_Bool r.holds) [
  | inl holds ↦ rw holds (first_fault-none rs ys (rw holds at h))
  | inr fails ↦ absurd (no_fault _ (rw fails at h))
]

-- where one of the first rules is broken, the fault is theirs
pub first_fault-some : (xs ys : List Rule) (e : DeviceFault) → first_fault xs ≡ Some e → first_fault (xs ++ ys) ≡ Some e
unfolding first_fault
first_fault-some [] ys e h = cc
first_fault-some (r ∷ rs) ys e h = elim (cases_Bool r.holds) [
  | inl holds ↦ rw holds (first_fault-some rs ys e (rw holds at h))
  | inr fails ↦ rw fails (rw fails at h)
]

-- the first of some rules that all hold, and the rest
pub first_holds : (r : Rule) (rs : List Rule) → first_fault (r ∷ rs) ≡ None → (r.holds ≡ true) × (first_fault rs ≡ None)
unfolding first_fault
first_holds r rs h = elim (cases_Bool r.holds) [
  | inl holds ↦ (holds, rw holds at h)
  | inr fails ↦ absurd (no_fault _ (rw fails at h))
]

-- where no rule of two parts is broken, none of either part is
pub both_hold : (xs ys : List Rule) → first_fault (xs ++ ys) ≡ None → (first_fault xs ≡ None) × (first_fault ys ≡ None)
unfolding first_fault
both_hold [] ys h = (refl, h)
both_hold (r ∷ rs) ys h = elim (cases_Bool r.holds) [
  | inl holds ↦ let rest = both_hold rs ys (rw holds at h) in (rw holds rest.0, rest.1)
  | inr fails ↦ absurd (no_fault _ (rw fails at h))
]

-- the first fault of a document, by the part of the rules where it is
module _ (ms : Members) where
  pub at_missing : (e : DeviceFault) → first_fault (missing_rules ms) ≡ Some e → first_fault (rules_of ms) ≡ Some e
  unfolding rules_of
  at_missing e h = first_fault-some (missing_rules ms) _ e h

  pub at_kind : (e : DeviceFault) → first_fault (missing_rules ms) ≡ None → first_fault (kind_rules ms) ≡ Some e → first_fault (rules_of ms) ≡ Some e
  unfolding rules_of
  at_kind e a h = first_fault-none (missing_rules ms) _ a ∙ first_fault-some (kind_rules ms) _ e h

  pub at_size : (v : Values) (e : DeviceFault) → v ≡ values_of ms → first_fault (missing_rules ms) ≡ None → first_fault (kind_rules ms) ≡ None
      → first_fault (size_rules v) ≡ Some e → first_fault (rules_of ms) ≡ Some e
  unfolding rules_of
  at_size v e same a b h =
      first_fault-none (missing_rules ms) _ a ∙ (first_fault-none (kind_rules ms) _ b
      ∙ first_fault-some (size_rules (values_of ms)) _ e (rw same at h))

  pub at_list : (v : Values) (e : DeviceFault) → v ≡ values_of ms → first_fault (missing_rules ms) ≡ None → first_fault (kind_rules ms) ≡ None
      → first_fault (size_rules v) ≡ None → first_fault (list_rules v) ≡ Some e → first_fault (rules_of ms) ≡ Some e
  unfolding rules_of
  at_list v e same a b c h =
      first_fault-none (missing_rules ms) _ a ∙ (first_fault-none (kind_rules ms) _ b
      ∙ (first_fault-none (size_rules (values_of ms)) _ (rw same at c) ∙ first_fault-some (list_rules (values_of ms)) _ e (rw same at h)))

  pub at_unknown : (o : Option DeviceFault) → first_fault (missing_rules ms) ≡ None → first_fault (kind_rules ms) ≡ None
      → first_fault (size_rules (values_of ms)) ≡ None → first_fault (list_rules (values_of ms)) ≡ None
      → first_fault (unknown_rules ms) ≡ o → first_fault (rules_of ms) ≡ o
  unfolding rules_of
  at_unknown o a b c d h =
      first_fault-none (missing_rules ms) _ a ∙ (first_fault-none (kind_rules ms) _ b
      ∙ (first_fault-none (size_rules (values_of ms)) _ c ∙ (first_fault-none (list_rules (values_of ms)) _ d ∙ h)))

-- the same, as one list
pub ruleset stages = (at_missing, at_kind, at_size, at_list, at_unknown)

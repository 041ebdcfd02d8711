-- Choices and facts are one or another.
use Rattle.std.proofs.Common.{suc, ◌≡◌, ◌≢◌, ◌⊎◌, Bool, true, false, not, List, ◌∷◌, map, Contains, refl, sym, ap, inl, inr, true≢false, arith}
use Rattle.act1_base.proofs.ListGets.{get_mapped, place_of, contains_at}
use Rattle.std.proofs.lemmas.Bool.{cases_eq}
use Rattle.act1_channel.specs.declared.problem.Choice.{Choice}
use Rattle.act1_channel.specs.Clauses.{Fact, taken}

pub choice_from : (a b : Choice) → a.connection ≡ b.connection → a.track ≡ b.track → a ≡ b
choice_from a b c t = λ i. record { connection = c i; track = t i }

pub fact_from : (f g : Fact) → f.choice ≡ g.choice → f.truth ≡ g.truth → f ≡ g
fact_from f g c t = λ i. record { choice = c i; truth = t i }

pub same_choice : (a b : Choice) → (a ≡ b) ⊎ (a ≢ b)
same_choice a b = from (cases_eq a.connection b.connection) (cases_eq a.track b.track)
  where
    from : (a.connection ≡ b.connection) ⊎ (a.connection ≢ b.connection) → (a.track ≡ b.track) ⊎ (a.track ≢ b.track) → (a ≡ b) ⊎ (a ≢ b)
    from (inl c) (inl t) = inl (choice_from a b c t)
    from (inl c) (inr t) = inr (λ e. t (ap (λ (x : Choice). x.track) e))
    from (inr c) t = inr (λ e. c (ap (λ (x : Choice). x.connection) e))

pub same_truth : (a b : Bool) → (a ≡ b) ⊎ (a ≢ b)
same_truth true true = inl refl
same_truth false false = inl refl
same_truth true false = inr true≢false
same_truth false true = inr (λ e. true≢false (sym e))

pub same_fact : (f g : Fact) → (f ≡ g) ⊎ (f ≢ g)
same_fact f g = from (same_choice f.choice g.choice) (same_truth f.truth g.truth)
  where
    from : (f.choice ≡ g.choice) ⊎ (f.choice ≢ g.choice) → (f.truth ≡ g.truth) ⊎ (f.truth ≢ g.truth) → (f ≡ g) ⊎ (f ≢ g)
    from (inl c) (inl t) = inl (fact_from f g c t)
    from (inl c) (inr t) = inr (λ e. t (ap (λ (x : Fact). x.truth) e))
    from (inr c) t = inr (λ e. c (ap (λ (x : Fact). x.choice) e))

pub not_itself : (b : Bool) → not b ≡ b → ⊥
not_itself true e = true≢false (sym e)
not_itself false e = true≢false e

module _ {X : Type 0} where
  pub contains_first : (x : X) (xs : List X) → Contains (x ∷ xs) x
  contains_first x xs = (0, omega arith, refl)

  pub contains_later : (x : X) (xs : List X) (y : X) → Contains xs y → Contains (x ∷ xs) y
  contains_later x xs y (k, low, e) = (suc k, omega arith, e)

-- a fact of choices taken is one of them
pub taken_from : (cs : List Choice) (f : Fact) → Contains (map taken cs) f → (c : Choice) × Contains cs c × (taken c ≡ f)
taken_from cs f among =
    let at = place_of (map taken cs) f among in
    let own = get_mapped taken cs at.0 f at.1 in
    (own.0, contains_at cs at.0 own.0 own.1, own.2)

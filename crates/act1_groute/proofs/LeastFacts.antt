-- The element that counts least, one element more.
use Rattle.std.proofs.Common.{ℕ, ◌≡◌, ◌⊎◌, ◌<◌, ◌≤◌, nat_le, nat_lt, Bool, true, false, if◌then◌else◌, List, [], ◌∷◌, ◌++◌, Option, Some, None, refl, ap, ◌∙◌, inl, inr, arith}
use Rattle.std.proofs.lemmas.Bool.{cases_lt, le-leb, lt-ltb, leb-true, ltb-true}
use Rattle.act1_groute.specs.Lists.{lesser, least_by}

le_false : (a b : ℕ) → b < a → nat_le a b ≡ false
le_false a b h = from (nat_le a b) refl
  where
    from : (c : Bool) → nat_le a b ≡ c → nat_le a b ≡ false
    from true e = let low = leb-true a b e in absurd (omega arith)
    from false e = e

lt_false : (a b : ℕ) → b ≤ a → nat_lt a b ≡ false
lt_false a b h = from (nat_lt a b) refl
  where
    from : (c : Bool) → nat_lt a b ≡ c → nat_lt a b ≡ false
    from true e = let low = ltb-true a b e in absurd (omega arith)
    from false e = e

module _ {A : Type 0} (f : A → ℕ) where
  -- an element behind the others wins where it counts less than the least of them
  abbrev pub with_next : Option A → A → Option A
  with_next None x = Some x
  with_next (Some y) x = if nat_lt (f x) (f y) then Some x else Some y

  step : (y x : A) (o : Option A) → lesser f y (with_next o x) ≡ with_next (lesser f y o) x
  step y x None = from (cases_lt (f x) (f y))
    where
      from : (f x < f y) ⊎ (f y ≤ f x) → lesser f y (Some x) ≡ with_next (Some y) x
      from (inl h) = rw (le_false (f y) (f x) h, lt-ltb (f x) (f y) h) refl
      from (inr h) = rw (le-leb (f y) (f x) h, lt_false (f x) (f y) h) refl
  step y x (Some z) = from (cases_lt (f x) (f z)) (cases_lt (f z) (f y)) (cases_lt (f x) (f y))
    where
      from : (f x < f z) ⊎ (f z ≤ f x) → (f z < f y) ⊎ (f y ≤ f z) → (f x < f y) ⊎ (f y ≤ f x) → lesser f y (with_next (Some z) x) ≡ with_next (lesser f y (Some z)) x
      from (inl a) (inl b) (inl c) = rw (lt-ltb (f x) (f z) a, le_false (f y) (f x) c, le_false (f y) (f z) b, lt-ltb (f x) (f z) a) refl
      from (inl a) (inl b) (inr c) = absurd (omega arith)
      from (inl a) (inr b) (inl c) = rw (lt-ltb (f x) (f z) a, le_false (f y) (f x) c, le-leb (f y) (f z) b, lt-ltb (f x) (f y) c) refl
      from (inl a) (inr b) (inr c) = rw (lt-ltb (f x) (f z) a, le-leb (f y) (f x) c, le-leb (f y) (f z) b, lt_false (f x) (f y) c) refl
      from (inr a) (inl b) c = rw (lt_false (f x) (f z) a, le_false (f y) (f z) b, lt_false (f x) (f z) a) refl
      from (inr a) (inr b) (inl c) = absurd (omega arith)
      from (inr a) (inr b) (inr c) = rw (lt_false (f x) (f z) a, le-leb (f y) (f z) b, lt_false (f x) (f y) c) refl

  pub least_push : (xs : List A) (x : A) → least_by f (xs ++ x ∷ []) ≡ with_next (least_by f xs) x
  least_push [] x = refl
  least_push (y ∷ xs) x = ap (lesser f y) (least_push xs x) ∙ step y x (least_by f xs)

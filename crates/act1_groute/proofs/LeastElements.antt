-- The element of a list that counts least.
use Rattle.std.proofs.Common.{ℕ, ◌≡◌, nat_le, Bool, true, false, cond, List, [], ◌∷◌, Option, Some, None, refl, subst, Contains}
use Rattle.act1_base.proofs.Elements.{here, later}
use Rattle.act1_groute.specs.Lists.{lesser, least_by}

module _ {X : Type 0} where
  -- the element that counts least is one of them, and there is one where there are any
  pub least_in : (f : X → ℕ) (xs : List X) (x : X) → least_by f xs ≡ Some x → Contains xs x
  least_in f [] x e = cc
  least_in f (y ∷ ys) x e = from (least_by f ys) (λ z k. least_in f ys z k) e
    where
      same_of : {A : Type 0} (a b : A) → Some a ≡ Some b → a ≡ b
      same_of a b e = cc

      chosen : (z : X) (b : Bool) → Contains ys z → cond b (Some y) (Some z) ≡ Some x → Contains (y ∷ ys) x
      chosen z true h k = here x y ys (same_of y x k)
      chosen z false h k = later x y ys (subst (λ (u : X). Contains ys u) (same_of z x k) h)

      from : (o : Option X) → ((z : X) → o ≡ Some z → Contains ys z) → lesser f y o ≡ Some x → Contains (y ∷ ys) x
      from None h k = here x y ys (same_of y x k)
      from (Some z) h k = chosen z (nat_le (f y) (f z)) (h z refl) k

  pub least_of_some : (f : X → ℕ) (y : X) (ys : List X) → (x : X) × (least_by f (y ∷ ys) ≡ Some x)
  least_of_some f y ys = from (least_by f ys)
    where
      chosen : (z : X) (b : Bool) → (x : X) × (cond b (Some y) (Some z) ≡ Some x)
      chosen z true = (y, refl)
      chosen z false = (z, refl)

      from : (o : Option X) → (x : X) × (lesser f y o ≡ Some x)
      from None = (y, refl)
      from (Some z) = chosen z (nat_le (f y) (f z))

-- The first names of a list are in it.
use Rattle.std.proofs.Common.{List, ◌∷◌, refl, Contains, arith}

module _ {X : Type 0} where
  pub first_of : (a : X) (rest : List X) → Contains (a ∷ rest) a
  first_of a rest = (0, omega arith, refl)

  pub second_of : (a b : X) (rest : List X) → Contains (a ∷ b ∷ rest) b
  second_of a b rest = (1, omega arith, refl)

  pub third_of : (a b c : X) (rest : List X) → Contains (a ∷ b ∷ c ∷ rest) c
  third_of a b c rest = (2, omega arith, refl)

-- What the pins of a tile are.
use Rattle.std.proofs.Common.{ℕ, zero, suc, ◌≡◌, ◌⊎◌, ◌<◌, Bool, true, false, List, [], ◌∷◌, ◌++◌, length, refl, subst, inl, inr, arith}
use Rattle.std.specs.Prelude.{Contains}
use Rattle.std.proofs.lemmas.List.Elements.{Contains-append_cases, Contains-append_left, Contains-append_right}
use Rattle.act1_cover.specs.declared.forest.Forest.{Forest}
use Rattle.act1_cover.specs.declared.forest.Term.{Term}
use Rattle.act1_cover.specs.declared.forest.Term.TheVariants as term
use Rattle.act1_cover.specs.declared.tile.Tile.{Tile}
use Rattle.act1_cover.specs.Least.{IsForest}
use Rattle.act1_cover.specs.Pins.{pins_of, second_pin, side_pins}
use Rattle.act1_cover.specs.Tilings.{low_of, high_of, number_of, low_side, side, ends, MayStand}
use Rattle.act1_cover.specs.Values.{var_of}
use Rattle.act1_cover.proofs.TileBelow.{end_below}
use Rattle.act1_map.proofs.Gets.{got}

-- what holds of each element, by recursion
abbrev pub Each : {X : Type 0} → (X → Type 0) → List X → Type 0
Each P [] = Unit {0}
Each P (x ∷ xs) = P x × Each P xs

pub each_append : {X : Type 0} (P : X → Type 0) (xs ys : List X) → Each P xs → Each P ys → Each P (xs ++ ys)
each_append P [] ys h g = g
each_append P (x ∷ xs) ys h g = (h.0, each_append P xs ys h.1 g)

pub each_in : {X : Type 0} (P : X → Type 0) (xs : List X) → Each P xs → (x : X) → Contains xs x → P x
each_in P [] h x (i, low, e) = absurd (omega arith)
each_in P (y ∷ xs) h x (zero, low, e) = subst P e h.0
each_in P (y ∷ xs) h x (suc i, low, e) = each_in P xs h.1 x (i, omega arith, e)

module _ (forest : Forest) where
  -- a pin has the constant 0, an input, or a term to which the tile refers
  pub pin_cases : (P : Term → Type 0) (u : Tile) → P term.Zero → ((v : ℕ) → P (term.Var v)) → ((e : Term) → Contains (ends forest u.fork u.shape) e → P e) → (e : Term) → Contains (pins_of forest u) e → P e
  pin_cases P u nought inputs terms = each_in P (pins_of forest u)
      (each_append P (low ++ high) selects (each_append P low high (of_side u.shape.low_side low_term (λ e h. terms e (Contains-append_left lows highs e h)))
      (of_side u.shape.high_side high_term (λ e h. terms e (Contains-append_right lows highs e h))))
      (inputs (var_of forest u.fork), (second u.shape.or_form (number_of (low_of forest u.fork)), tt)))
    where
      low_term : Term
      low_term = low_side forest u.fork u.shape.or_form

      high_term : Term
      high_term = high_of forest u.fork

      low : List Term
      low = side_pins forest u.shape.low_side low_term

      high : List Term
      high = side_pins forest u.shape.high_side high_term

      selects : List Term
      selects = term.Var (var_of forest u.fork) ∷ second_pin forest u.shape.or_form (number_of (low_of forest u.fork)) ∷ []

      lows : List Term
      lows = side forest u.shape.low_side low_term

      highs : List Term
      highs = side forest u.shape.high_side high_term

      of_side : (b : Bool) (t : Term) → ((e : Term) → Contains (side forest b t) e → P e) → Each P (side_pins forest b t)
      of_side true t h = (h (low_of forest (number_of t)) (0, omega arith, refl), (h (high_of forest (number_of t)) (1, omega arith, refl), (inputs (var_of forest (number_of t)), tt)))
      of_side false t h = (h t (0, omega arith, refl), (nought, (nought, tt)))

      second : (b : Bool) (g : ℕ) → P (second_pin forest b g)
      second true g = inputs (var_of forest g)
      second false g = nought

  -- the forks at its pins are of lower levels
  pub pin_below : (is : IsForest forest) (u : Tile) → MayStand forest u.fork u.shape → (e : Term) → Contains (pins_of forest u) e → (j : ℕ) → e ≡ term.Fork j → is.level j < is.level u.fork
  pin_below is u stands = pin_cases (λ (e : Term). (j : ℕ) → e ≡ term.Fork j → is.level j < is.level u.fork) u
      (λ j f. no_zero j f) (λ v j f. no_input v j f)
      (λ e h j f. (let at = got (ends forest u.fork u.shape) e h in (end_below forest is u.fork u.shape stands at.0 e at.1 j f).1))
    where
      no_zero : (j : ℕ) → term.Zero ≡ term.Fork j → is.level j < is.level u.fork
      no_zero j f = cc

      no_input : (v j : ℕ) → term.Var v ≡ term.Fork j → is.level j < is.level u.fork
      no_input v j f = cc

  -- each term to which a tile refers is at a pin
  pub end_pin : (u : Tile) (e : Term) → Contains (ends forest u.fork u.shape) e → Contains (pins_of forest u) e
  end_pin u e h = by (Contains-append_cases (side forest u.shape.low_side low_term) (side forest u.shape.high_side high_term) e h)
    where
      low_term : Term
      low_term = low_side forest u.fork u.shape.or_form

      high_term : Term
      high_term = high_of forest u.fork

      low : List Term
      low = side_pins forest u.shape.low_side low_term

      high : List Term
      high = side_pins forest u.shape.high_side high_term

      selects : List Term
      selects = term.Var (var_of forest u.fork) ∷ second_pin forest u.shape.or_form (number_of (low_of forest u.fork)) ∷ []

      of_side : (b : Bool) (t : Term) → Contains (side forest b t) e → Contains (side_pins forest b t) e
      of_side true t (zero, low, f) = (0, omega arith, f)
      of_side true t (suc zero, low, f) = (1, omega arith, f)
      of_side true t (suc (suc i), low, f) = absurd (omega arith)
      of_side false t (zero, low, f) = (0, omega arith, f)
      of_side false t (suc i, low, f) = absurd (omega arith)

      by : Contains (side forest u.shape.low_side low_term) e ⊎ Contains (side forest u.shape.high_side high_term) e → Contains (pins_of forest u) e
      by (inl c) = Contains-append_left (low ++ high) selects e (Contains-append_left low high e (of_side u.shape.low_side low_term c))
      by (inr c) = Contains-append_left (low ++ high) selects e (Contains-append_right low high e (of_side u.shape.high_side high_term c))

  pub eight_pins : (u : Tile) → length (pins_of forest u) ≡ 8
  eight_pins u = by u.shape.low_side u.shape.high_side
    where
      by : (l h : Bool) → length ((side_pins forest l (low_side forest u.fork u.shape.or_form) ++ side_pins forest h (high_of forest u.fork))
          ++ term.Var (var_of forest u.fork) ∷ second_pin forest u.shape.or_form (number_of (low_of forest u.fork)) ∷ []) ≡ 8
      by true true = refl
      by true false = refl
      by false true = refl
      by false false = refl

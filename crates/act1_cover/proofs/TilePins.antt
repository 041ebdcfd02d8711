-- The module of a tile gives the value of its fork.
use Rattle.std.proofs.Common.{ℕ, ◌≡◌, ◌<◌, ◌||◌, Bool, true, false, List, [], ◌∷◌, ◌++◌, length, refl, sym, ap, ◌∙◌}
use Rattle.std.specs.Prelude.{if◌then◌else◌, slice_index_or}
use Rattle.act1_logic.specs.Module.{module_of}
use Rattle.act1_cover.specs.declared.forest.Forest.{Forest}
use Rattle.act1_cover.specs.declared.forest.Term.{Term}
use Rattle.act1_cover.specs.declared.forest.Term.TheVariants as term
use Rattle.act1_cover.specs.Tilings.{low_of, high_of, inner, number_of, MayStand}
use Rattle.act1_cover.specs.Values.{var_of, AreValues}
use Rattle.act1_cover.specs.Least.{IsForest}
use Rattle.act1_cover.specs.Pins.{side_pins, pins_of, TilesGiveValues}
use Rattle.act1_cover.proofs.TileCounts.{inner_is}

choose : (a b : Bool) (h l g m : Bool) → a ≡ b → h ≡ g → l ≡ m → (if a then h else l) ≡ (if b then g else m)
choose true true h l g m d e f = e
choose false false h l g m d e f = f
choose true false h l g m d e f = cc
choose false true h l g m d e f = cc

-- if x or y then h else l
both : (a c : Bool) (h l : Bool) → (if a || c then h else l) ≡ (if a then h else (if c then h else l))
both true c h l = refl
both false c h l = refl

or_false : (b : Bool) → (b || false) ≡ b
or_false true = refl
or_false false = refl

module _ (forest : Forest) (ys : List Bool) (value : Term → Bool) (is : IsForest forest) (are : AreValues forest ys value) where
  -- what a side of the module gives
  abbrev pin_at : List Term → ℕ → Bool
  pin_at pins k = value (slice_index_or pins k term.Zero)

  abbrev side_gives : Bool → Term → Bool
  side_gives b t = if pin_at (side_pins forest b t) 2 then pin_at (side_pins forest b t) 1 else pin_at (side_pins forest b t) 0

  side_is : (b : Bool) (t : Term) → (b ≡ true → inner forest t ≡ number_of t ∷ []) → ((j : ℕ) → t ≡ term.Fork j → j < length forest.forks) → side_gives b t ≡ value t
  side_is false t h within = choose (value term.Zero) false (value term.Zero) (value t) (value term.Zero) (value t) are.zero_is refl refl
  side_is true t h within =
      let j = number_of t in
      let fork = (inner_is forest t j (h refl)).0 in
      choose (value (term.Var (var_of forest j))) (slice_index_or ys (var_of forest j) false) (value (high_of forest j)) (value (low_of forest j)) (value (high_of forest j)) (value (low_of forest j)) (are.input_is (var_of forest j)) refl refl
      ∙ sym (are.fork_is j (within j fork)) ∙ ap value (sym fork)

  whole : (l h : Bool) (low high s t : Term) → module_of (pin_at (side_pins forest l low ++ side_pins forest h high ++ s ∷ t ∷ [])) ≡ (if value s || value t then side_gives h high else side_gives l low)
  whole true true low high s t = refl
  whole true false low high s t = refl
  whole false true low high s t = refl
  whole false false low high s t = refl

  by_shape : (k : ℕ) (o h l : Bool) → MayStand forest k (record { or_form = o; high_side = h; low_side = l })
      → module_of (pin_at (pins_of forest (record { fork = k; shape = record { or_form = o; high_side = h; low_side = l } }))) ≡ value (term.Fork k)
  by_shape k false h l m =
      whole l h (low_of forest k) (high_of forest k) (term.Var (var_of forest k)) term.Zero
      ∙ choose (value (term.Var (var_of forest k)) || value term.Zero) (slice_index_or ys (var_of forest k) false) (side_gives h (high_of forest k)) (side_gives l (low_of forest k)) (value (high_of forest k)) (value (low_of forest k))
      (ap (λ (b : Bool). value (term.Var (var_of forest k)) || b) are.zero_is ∙ or_false (value (term.Var (var_of forest k))) ∙ are.input_is (var_of forest k))
      (side_is h (high_of forest k) m.high_side (λ j e. (is.high k j m.within e).0)) (side_is l (low_of forest k) m.low_side (λ j e. (is.low k j m.within e).0))
      ∙ sym (are.fork_is k m.within)
  by_shape k true h l m =
      let g = number_of (low_of forest k) in
      let second = (inner_is forest (low_of forest k) g (m.or_form refl).0).0 in
      let within = (is.low k g m.within second).0 in
      let s = value (term.Var (var_of forest k)) in
      let t = value (term.Var (var_of forest g)) in
      let high = side_gives h (high_of forest k) in
      let low = side_gives l (low_of forest g) in
      let high_is = side_is h (high_of forest k) m.high_side (λ j e. (is.high k j m.within e).0) in
      let low_is = side_is l (low_of forest g) m.low_side (λ j e. (is.low g j within e).0) in
      whole l h (low_of forest g) (high_of forest k) (term.Var (var_of forest k)) (term.Var (var_of forest g))
      ∙ both s t high low
      ∙ choose s (slice_index_or ys (var_of forest k) false) high (if t then high else low) (value (high_of forest k)) (value (low_of forest k)) (are.input_is (var_of forest k)) high_is
      (choose t (slice_index_or ys (var_of forest g) false) high low (value (high_of forest g)) (value (low_of forest g)) (are.input_is (var_of forest g)) (high_is ∙ ap value (sym (m.or_form refl).1)) low_is
      ∙ sym (are.fork_is g within) ∙ ap value (sym second))
      ∙ sym (are.fork_is k m.within)

pub tiles_give_values : TilesGiveValues
tiles_give_values forest ys value is are tile m = by_shape forest ys value is are tile.fork tile.shape.or_form tile.shape.high_side tile.shape.low_side m

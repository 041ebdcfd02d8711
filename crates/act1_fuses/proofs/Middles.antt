-- What a list says of an element in its midst.
use Rattle.std.proofs.Common.{ℕ, ◌≡◌, ◌≢◌, ◌<◌, ◌==◌, Bool, true, false, ◌||◌, IsTrue, List, [], ◌∷◌, ◌++◌, length, get_or, Option, Some, None, refl, sym, subst, ◌∙◌, arith}
use Rattle.std.specs.List.{All, AllPairs, list_any}
use Rattle.std.specs.Str.{bytes_eq}
use Rattle.std.proofs.lemmas.List.{get_or_append_left}
use Rattle.std.proofs.lemmas.List.Elements.{recursion_from_All}
use Rattle.std.proofs.lemmas.List.Folds.{list_any-append}
use Rattle.std.proofs.lemmas.Slice.Eq.{bytes_eq-Decides}
use Rattle.std.proofs.lemmas.Bool.Decides.{nat_tests}
use Rattle.act1_base.specs.Rising.{Rises, is_before}
use Rattle.act1_fuses.specs.declared.fuses.Port.{Port}
use Rattle.act1_fuses.specs.Given.{is_among, is_clock}
use Rattle.act1_fuses.specs.Reading.{uses_pad}
use Rattle.act1_fuses.specs.Rules.{IsApart}
use Rattle.act1_fuses.proofs.Pushes.{false_any, last_of}

module _ {X : Type 0} where
  at_middle : (a : List X) (x : X) (b : List X) (d : X) → get_or (a ++ x ∷ b) (length a) d ≡ x
  at_middle [] x b d = refl
  at_middle (y ∷ a) x b d = at_middle a x b d

  in_middle : (a : List X) (x : X) (b : List X) → length a < length (a ++ x ∷ b)
  in_middle [] x b = omega arith
  in_middle (y ∷ a) x b = let rest = in_middle a x b in omega arith

  -- what holds of all holds of it
  pub all_at : (P : X → Type 0) (xs a : List X) (x : X) (b : List X) → xs ≡ a ++ x ∷ b → All P xs → P x
  all_at P xs a x b e h =
      let whole : All P (a ++ x ∷ b) = subst (All P) e h in
      subst P (at_middle a x b x) (whole (length a) x (in_middle a x b))

  -- what holds of all pairs holds of it and each before it
  pub pairs_at : (R : X → X → Type 0) (xs a : List X) (x : X) (b : List X) → xs ≡ a ++ x ∷ b → AllPairs R xs → (k : ℕ) (d : X) → k < length a → R (get_or a k d) x
  pairs_at R xs a x b e h k d low =
      let whole : AllPairs R (a ++ x ∷ b) = subst (AllPairs R) e h in
      let pair : R (get_or (a ++ x ∷ b) k d) (get_or (a ++ x ∷ b) (length a) d) = whole k (length a) d low (in_middle a x b) in
      subst (λ (y : X). R y x) (get_or_append_left a (x ∷ b) d k low) (subst (R (get_or (a ++ x ∷ b) k d)) (at_middle a x b d) pair)

  rises_to : (f : X → List ℕ) (R : X → X → Type 0) → ((u v : X) → R u v → IsTrue (is_before (f u) (f v))) → (a : List X) (x : X) (b : List X) → IsTrue (is_before [] (f x)) → Rises R (a ++ x ∷ b) → IsTrue (is_before (last_of f a) (f x))
  rises_to f R from [] x b some h = some
  rises_to f R from (y ∷ []) x b some h = from y x h.0
  rises_to f R from (y ∷ z ∷ a) x b some h = rises_to f R from (z ∷ a) x b some h.1

  -- it comes after the one before it
  pub rises_at : (f : X → List ℕ) (R : X → X → Type 0) → ((u v : X) → R u v → IsTrue (is_before (f u) (f v))) → (xs a : List X) (x : X) (b : List X) → xs ≡ a ++ x ∷ b → IsTrue (is_before [] (f x)) → Rises R xs → IsTrue (is_before (last_of f a) (f x))
  rises_at f R from xs a x b e some h = rises_to f R from a x b some (subst (Rises R) e h)

eq_false : (a b : List ℕ) (test : Bool) → bytes_eq a b ≡ test → a ≢ b → test ≡ false
eq_false a b true e h = absurd (h ((bytes_eq-Decides a b).0 e))
eq_false a b false e h = refl

number_differs : (a b : ℕ) → a ≢ b → (a == b) ≡ false
number_differs a b h = grind (arith, nat_tests)

-- a name that differs from each of the names is none of them
pub none_among : (name : List ℕ) (names : List (List ℕ)) → ((k : ℕ) (d : List ℕ) → k < length names → get_or names k d ≢ name) → is_among name names ≡ false
none_among name names h =
    false_any (λ (other : List ℕ). bytes_eq other name) names
    (recursion_from_All (λ (other : List ℕ). bytes_eq other name ≡ false) names (λ k d low. eq_false (get_or names k d) name (bytes_eq (get_or names k d) name) refl (h k d low)))

-- a pad that differs from those of the ports is used by none
pub none_uses : (pad : ℕ) (ports : List Port) → ((k : ℕ) (d : Port) → k < length ports → (get_or ports k d).pad ≢ pad) → uses_pad pad ports ≡ false
none_uses pad ports h =
    false_any (λ (port : Port). port.pad == pad) ports
    (recursion_from_All (λ (port : Port). (port.pad == pad) ≡ false) ports (λ k d low. number_differs (get_or ports k d).pad pad (h k d low)))

-- the clock has another name
pub apart_at : (clock : Option (List ℕ)) (names a : List (List ℕ)) (name : List ℕ) (b : List (List ℕ)) → names ≡ a ++ name ∷ b → IsApart clock names → is_clock clock name ≡ false
apart_at None names a name b e h = refl
apart_at (Some c) names a name b e h = eq_false c name (bytes_eq c name) refl (λ same. all_at (λ (other : List ℕ). other ≢ c) names a name b e h.1 (sym same))

pub any_parts : {X : Type 0} (p : X → Bool) (xs ys : List X) → list_any p (xs ++ ys) ≡ false → (list_any p xs || list_any p ys) ≡ false
any_parts p xs ys h = sym (list_any-append p xs ys) ∙ h

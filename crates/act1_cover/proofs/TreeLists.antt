-- Lists of trees: their members, and each tree once.
use Rattle.std.proofs.Common.{ℕ, zero, suc, ◌≡◌, ◌⊎◌, not, Bool, true, false, cond, List, [], ◌∷◌, ◌++◌, Some, refl, sym, ap, ◌∙◌, inl, inr}
use Rattle.std.specs.Prelude.{filter, slice_get}
use Rattle.std.proofs.lemmas.Bool.{false≢true}
use Rattle.act1_cover.specs.Forests.{Tree, is_same_tree, first_ones}
use Rattle.act1_cover.proofs.Trees.{same_tree, itself}

-- members of a list of trees
abbrev pub In : Tree → List Tree → Type 0
In t [] = ⊥
In t (u ∷ us) = (u ≡ t) ⊎ In t us

pub in_at : (t : Tree) (us : List Tree) → In t us → (k : ℕ) × (slice_get us k ≡ Some t)
in_at t [] h = absurd h
in_at t (u ∷ us) (inl e) = (0, ap Some e)
in_at t (u ∷ us) (inr h) = let r = in_at t us h in (suc r.0, r.1)

pub at_in : (t : Tree) (us : List Tree) (k : ℕ) → slice_get us k ≡ Some t → In t us
at_in t [] k e = cc
at_in t (u ∷ us) zero e = inl (some e)
  where
    some : Some u ≡ Some t → u ≡ t
    some e = cc
at_in t (u ∷ us) (suc k) e = inr (at_in t us k e)

pub in_left : (t : Tree) (us vs : List Tree) → In t us → In t (us ++ vs)
in_left t [] vs h = absurd h
in_left t (u ∷ us) vs (inl e) = inl e
in_left t (u ∷ us) vs (inr h) = inr (in_left t us vs h)

pub in_right : (t : Tree) (us vs : List Tree) → In t vs → In t (us ++ vs)
in_right t [] vs h = h
in_right t (u ∷ us) vs h = inr (in_right t us vs h)

pub in_either : (t : Tree) (us vs : List Tree) → In t (us ++ vs) → In t us ⊎ In t vs
in_either t [] vs h = inr h
in_either t (u ∷ us) vs (inl e) = inl (inl e)
in_either t (u ∷ us) vs (inr h) = by (in_either t us vs h)
  where
    by : In t us ⊎ In t vs → In t (u ∷ us) ⊎ In t vs
    by (inl g) = inl (inr g)
    by (inr g) = inr g

pub in_filter : (p : Tree → Bool) (us : List Tree) (t : Tree) → p t ≡ true → In t us → In t (filter p us)
in_filter p [] t e h = absurd h
in_filter p (u ∷ us) t e h = by (p u) refl h (in_filter p us t e)
  where
    by : (b : Bool) → p u ≡ b → In t (u ∷ us) → (In t us → In t (filter p us)) → In t (cond b (u ∷ filter p us) (filter p us))
    by true f (inl is) r = inl is
    by true f (inr g) r = inr (r g)
    by false f (inl is) r = absurd (false≢true (sym f ∙ ap p is ∙ e))
    by false f (inr g) r = r g

pub from_filter : (p : Tree → Bool) (us : List Tree) (t : Tree) → In t (filter p us) → (p t ≡ true) × In t us
from_filter p [] t h = absurd h
from_filter p (u ∷ us) t h = by (p u) refl h (from_filter p us t)
  where
    later : ((p t ≡ true) × In t us) → (p t ≡ true) × In t (u ∷ us)
    later g = (g.0, inr g.1)

    by : (b : Bool) → p u ≡ b → In t (cond b (u ∷ filter p us) (filter p us)) → (In t (filter p us) → (p t ≡ true) × In t us) → (p t ≡ true) × In t (u ∷ us)
    by true f (inl is) r = (ap p (sym is) ∙ f, inl is)
    by true f (inr g) r = later (r g)
    by false f g r = later (r g)

turned : (b : Bool) → b ≡ false → not b ≡ true
turned true e = absurd (false≢true (sym e))
turned false e = refl

pub in_ones : (us : List Tree) (t : Tree) → In t us → In t (first_ones us)
in_ones [] t h = absurd h
in_ones (u ∷ us) t (inl e) = inl e
in_ones (u ∷ us) t (inr h) = by (is_same_tree u t) refl (in_ones us t h)
  where
    by : (b : Bool) → is_same_tree u t ≡ b → In t (first_ones us) → In t (u ∷ filter (λ w. not (is_same_tree u w)) (first_ones us))
    by true e g = inl (same_tree u t e)
    by false e g = inr (in_filter (λ w. not (is_same_tree u w)) (first_ones us) t (turned (is_same_tree u t) e) g)

pub from_ones : (us : List Tree) (t : Tree) → In t (first_ones us) → In t us
from_ones [] t h = absurd h
from_ones (u ∷ us) t (inl e) = inl e
from_ones (u ∷ us) t (inr h) = inr (from_ones us t (from_filter (λ w. not (is_same_tree u w)) (first_ones us) t h).1)

-- no two of them are the same
abbrev pub Differ : List Tree → Type 0
Differ [] = Unit {0}
Differ (u ∷ us) = (In u us → ⊥) × Differ us

pub differ_filter : (p : Tree → Bool) (us : List Tree) → Differ us → Differ (filter p us)
differ_filter p [] h = tt
differ_filter p (u ∷ us) h = by (p u) (differ_filter p us h.1)
  where
    by : (b : Bool) → Differ (filter p us) → Differ (cond b (u ∷ filter p us) (filter p us))
    by true r = ((λ g. h.0 (from_filter p us u g).1), r)
    by false r = r

pub ones_differ : (us : List Tree) → Differ (first_ones us)
ones_differ [] = tt
ones_differ (u ∷ us) = ((λ g. no (is_same_tree u u) (itself u) (from_filter (λ w. not (is_same_tree u w)) (first_ones us) u g).0), differ_filter (λ w. not (is_same_tree u w)) (first_ones us) (ones_differ us))
  where
    no : (b : Bool) → b ≡ true → not b ≡ true → ⊥
    no true e f = absurd (false≢true f)
    no false e f = absurd (false≢true e)

pub one_place : (us : List Tree) (t : Tree) (j k : ℕ) → Differ us → slice_get us j ≡ Some t → slice_get us k ≡ Some t → j ≡ k
one_place [] t j k d e f = cc
one_place (u ∷ us) t zero zero d e f = refl
one_place (u ∷ us) t zero (suc k) d e f = absurd (d.0 (at_in u us k (f ∙ sym e)))
one_place (u ∷ us) t (suc j) zero d e f = absurd (d.0 (at_in u us j (e ∙ sym f)))
one_place (u ∷ us) t (suc j) (suc k) d e f = ap suc (one_place us t j k d.1 e f)

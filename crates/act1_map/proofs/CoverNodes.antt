-- One node more has its forest and tiles, and the parts of forks are there.
use Rattle.std.proofs.Common.{ℕ, zero, suc, ◌≡◌, ◌⊎◌, ◌+◌, ◌<◌, List, [], ◌∷◌, ◌++◌, length, Some, refl, sym, ap, subst, ◌∙◌, inl, inr, arith}
use Rattle.std.specs.Prelude.{slice_get}
use Rattle.std.proofs.lemmas.List.{length-append}
use Rattle.act1_blif.specs.declared.blif.Node.{Node}
use Rattle.act1_cover.specs.declared.forest.Forest.{Forest}
use Rattle.act1_cover.specs.declared.forest.Term.{Term}
use Rattle.act1_cover.specs.declared.forest.Term.TheVariants as term
use Rattle.act1_cover.specs.Least.{IsForest}
use Rattle.act1_cover.specs.Tilings.{high_of, low_of}
use Rattle.act1_map.specs.CoverSteps.{AreCovered, IsCovered, IsForkWithin}
use Rattle.act1_map.specs.declared.covers.Covered.{Covered}
use Rattle.act1_map.proofs.Gets.{one_at, some_same}

-- an element of a list with one more
last_or : {X : Type 0} (xs : List X) (x y : X) (j : ℕ) → slice_get (xs ++ x ∷ []) j ≡ Some y → (slice_get xs j ≡ Some y) ⊎ ((j ≡ length xs) × (x ≡ y))
last_or [] x y zero e = inr (refl, some_same x y e)
last_or [] x y (suc j) e = cc
last_or (z ∷ xs) x y zero e = inl e
last_or (z ∷ xs) x y (suc j) e = by (last_or xs x y j e)
  where
    by : (slice_get xs j ≡ Some y) ⊎ ((j ≡ length xs) × (x ≡ y)) → (slice_get xs j ≡ Some y) ⊎ ((suc j ≡ suc (length xs)) × (x ≡ y))
    by (inl g) = inl g
    by (inr g) = inr (ap suc g.0, g.1)

pub one_more : (nodes : List Node) (i : ℕ) (covers new : List Covered) (node : Node) (c : Covered) → slice_get nodes i ≡ Some node → AreCovered nodes i covers → IsCovered node c → new ≡ covers ++ c ∷ [] → AreCovered nodes (i + 1) new
one_more nodes i covers new node c at are is same = record {
  count = (let l = ap length same in let a = length-append covers (c ∷ []) in let n = are.count in omega arith);
  each = λ j d x e f. by j d x e (last_or covers c x j (ap (λ (xs : List Covered). slice_get xs j) (sym same) ∙ f));
}
  where
    by : (j : ℕ) (d : Node) (x : Covered) → slice_get nodes j ≡ Some d → (slice_get covers j ≡ Some x) ⊎ ((j ≡ length covers) × (c ≡ x)) → IsCovered d x
    by j d x e (inl f) = are.each j d x e f
    by j d x e (inr f) =
        let here : i ≡ j = (let n = are.count in let m = f.0 in omega arith) in
        let own : node ≡ d = one_at nodes j node d (ap (slice_get nodes) (sym here) ∙ at) e in
        subst (λ (y : Covered). IsCovered d y) f.1 (subst (λ (y : Node). IsCovered y c) own is)

-- the parts of a fork are there
pub low_within : (forest : Forest) → IsForest forest → (k : ℕ) → k < length forest.forks → IsForkWithin forest (low_of forest k)
low_within forest is k low = by (low_of forest k) refl
  where
    by : (e : Term) → low_of forest k ≡ e → IsForkWithin forest e
    by (term.Fork j) f = (is.low k j low f).0
    by term.Zero f = tt
    by term.One f = tt
    by (term.Var v) f = tt

pub high_within : (forest : Forest) → IsForest forest → (k : ℕ) → k < length forest.forks → IsForkWithin forest (high_of forest k)
high_within forest is k low = by (high_of forest k) refl
  where
    by : (e : Term) → high_of forest k ≡ e → IsForkWithin forest e
    by (term.Fork j) f = (is.high k j low f).0
    by term.Zero f = tt
    by term.One f = tt
    by (term.Var v) f = tt

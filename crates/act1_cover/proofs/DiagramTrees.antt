-- A ref of reduced ordered diagrams has the tree of its function's diagram.
use Rattle.std.proofs.Common.{ℕ, suc, zero, ◌≡◌, ◌<◌, ◌≤◌, ◌+◌, ◌⊎◌, Bool, true, false, List, [], ◌∷◌, ◌++◌, length, take, drop, refl, sym, ap, ◌∙◌, inl, inr, arith, subst, add-one}
use Rattle.std.specs.Prelude.{slice_get, Some}
use Rattle.act1_dd.specs.declared.refs.Ref.{Ref}
use Rattle.act1_dd.specs.declared.refs.Ref.TheVariants.{Zero, One, Node}
use Rattle.act1_dd.specs.declared.refs.Branch.{Branch}
use Rattle.act1_dd.specs.Inputs.{Inputs, with_input, inputs_from}
use Rattle.act1_logic.specs.declared.cover.Cover.{Cover}
use Rattle.act1_logic.specs.Cover.{value_of}
use Rattle.act1_dd.specs.Diagram.{value_at, IsRef, IsFrom, IsReduced, IsWithin, size_of}
use Rattle.act1_dd.specs.Limit.{IsDiagramOf}
use Rattle.act1_cover.specs.Denotes.{diagram_of}
use Rattle.act1_dd.specs.Steps.{HasVariable, IsPart}
use Rattle.act1_dd.proofs.Values.{value_zero, value_one}
use Rattle.act1_dd.proofs.Canonical.{with_same, with_other, here_or_later, low_part, high_part, whole_part, apart}
use Rattle.act1_base.proofs.ListGets.{get_in}
use Rattle.act1_cover.specs.Forests.{Tree, constant, fork_of, diagram}
use Rattle.act1_cover.specs.Stores.{tree_of, IsStore}
use Rattle.act1_cover.proofs.StoredTrees.{tree_node, tree_zero, tree_one, tree_more, size_within, fork_same}

pub is_store : (forks : List Branch) → IsReduced forks → IsStore forks
is_store forks h = record { older = h.older; differ = h.differ; once = h.once }

same_from : (x y : Inputs) (w n : ℕ) → ((k : ℕ) → w ≤ k → x k ≡ y k) → inputs_from x w n ≡ inputs_from y w n
same_from x y w zero h = refl
same_from x y w (suc n) h = ap (λ (b : Bool). b ∷ inputs_from x (w + 1) n) (h w (omega arith)) ∙ ap (λ (bs : List Bool). y w ∷ bs) (same_from x y (w + 1) n (λ k low. h k (omega arith)))

-- the variables of forks are those that matter, as diagrams say by a law
abbrev pub PartsWithin : List Branch → Type 0
PartsWithin forks = (k n : ℕ) (b : Branch) → slice_get forks k ≡ Some b → IsWithin forks (Node k) n → (b.var < n) × IsWithin forks b.low n × IsWithin forks b.high n

module _ (forks : List Branch) (h : IsReduced forks) (within : PartsWithin forks) where
  abbrev pub IsOf : ℕ → ℕ → Ref → (List Bool → Bool) → Type 0
  IsOf n v r f = (x : Inputs) → value_at forks r x ≡ f (inputs_from x v n)

  -- the function of a part by the first variable
  half : (n v : ℕ) (r p : Ref) (f : List Bool → Bool) (side : Bool) → IsOf (suc n) v r f → IsPart forks v side r p → IsOf n (suc v) p (λ ys. f (side ∷ ys))
  half n v r p f side is part x =
      let y = with_input x v side in
      let at = with_same x v side in
      sym (apart forks h p v side x part.ref part.later) ∙ sym (part.value y at) ∙ is y
      ∙ ap (λ (b : Bool). f (b ∷ inputs_from y (v + 1) n)) at
      ∙ ap (λ (bs : List Bool). f (side ∷ bs)) (same_from y x (v + 1) n (λ k low. with_other x v side k (λ e. omega arith)))
      ∙ ap (λ (w : ℕ). f (side ∷ inputs_from x w n)) (add-one v)

  -- refs of functions of n inputs have their diagrams' trees
  abbrev pub Known : ℕ → Type 0
  Known n = (v : ℕ) (r : Ref) (f : List Bool → Bool) → IsRef forks r → IsFrom forks v r → IsWithin forks r (v + n) → IsOf n v r f → tree_of forks r ≡ diagram n v f

  one_half : (n v : ℕ) → Known n → (r p : Ref) (f : List Bool → Bool) (side : Bool) → IsWithin forks p (v + suc n) → IsOf (suc n) v r f → IsPart forks v side r p → tree_of forks p ≡ diagram n (suc v) (λ ys. f (side ∷ ys))
  one_half n v known r p f side p_in is part =
      let sums : v + suc n ≡ suc v + n = omega arith in
      known (suc v) p (λ ys. f (side ∷ ys)) part.ref (subst (λ (w : ℕ). IsFrom forks w p) (add-one v) part.later) (subst (λ (m : ℕ). IsWithin forks p m) sums p_in) (half n v r p f side is part)

  halves : (n v : ℕ) → Known n → (r p q : Ref) (f : List Bool → Bool) → IsWithin forks p (v + suc n) → IsWithin forks q (v + suc n) → IsOf (suc n) v r f → IsPart forks v false r p → IsPart forks v true r q
      → fork_of v (tree_of forks p) (tree_of forks q) ≡ diagram (suc n) v f
  halves n v known r p q f p_in q_in is low high =
      ap (λ (t : Tree). fork_of v t (tree_of forks q)) (one_half n v known r p f false p_in is low)
      ∙ ap (λ (t : Tree). fork_of v (diagram n (suc v) (λ ys. f (false ∷ ys))) t) (one_half n v known r q f true q_in is high)

  step : (n v : ℕ) → Known n → (r : Ref) (f : List Bool → Bool) → IsRef forks r → IsWithin forks r (v + suc n) → IsOf (suc n) v r f → HasVariable forks v r ⊎ IsFrom forks (v + 1) r → tree_of forks r ≡ diagram (suc n) v f
  step n v known Zero f ref in_all is (inl has) = absurd has
  step n v known One f ref in_all is (inl has) = absurd has
  step n v known (Node k) f ref in_all is (inl (b, at, var)) =
      let older = h.older k b at in
      let parts = within k (v + suc n) b at in_all in
      tree_node forks k b at older.0 older.1 ∙ ap (λ (w : ℕ). fork_of w (tree_of forks b.low) (tree_of forks b.high)) var
      ∙ halves n v known (Node k) b.low b.high f parts.1 parts.2 is (low_part forks h k b v at var) (high_part forks h k b v at var)
  step n v known r f ref in_all is (inr later) =
      sym (fork_same v (tree_of forks r))
      ∙ halves n v known r r r f in_all in_all is (whole_part forks h v false r ref later) (whole_part forks h v true r ref later)

  pub drawn : (n : ℕ) → Known n
  drawn zero v Zero f ref from in_all is = tree_zero forks ∙ ap constant (sym (value_zero (λ _. false) forks) ∙ is (λ _. false))
  drawn zero v One f ref from in_all is = tree_one forks ∙ ap constant (sym (value_one (λ _. false) forks) ∙ is (λ _. false))
  drawn zero v (Node k) f ref from in_all is =
      let b = get_in forks k ref in
      let more = from b.0 b.1 in
      let less = (within k (v + 0) b.0 b.1 in_all).0 in
      absurd (omega arith)
  drawn (suc n) v r f ref from in_all is = step n v (drawn n) r f ref in_all is (here_or_later forks v r ref from)

-- the first forks of a store
get_front : (n : ℕ) (xs : List Branch) (k : ℕ) (b : Branch) → slice_get (take n xs) k ≡ Some b → slice_get xs k ≡ Some b
get_front zero [] k b at = at
get_front zero (x ∷ xs) k b at = cc
get_front (suc n) [] k b at = at
get_front (suc n) (x ∷ xs) zero b at = at
get_front (suc n) (x ∷ xs) (suc k) b at = get_front n xs k b at

front_long : (xs : List Branch) (k : ℕ) → k < length xs → k < length (take (suc k) xs)
front_long [] k low = absurd (omega arith)
front_long (x ∷ xs) zero low = omega arith
front_long (x ∷ xs) (suc k) low = let r = front_long xs k (omega arith) in omega arith

split : (n : ℕ) (xs : List Branch) → take n xs ++ drop n xs ≡ xs
split zero [] = refl
split zero (x ∷ xs) = refl
split (suc n) [] = refl
split (suc n) (x ∷ xs) = ap (λ (ys : List Branch). x ∷ ys) (split n xs)

pub front_store : (n : ℕ) (forks : List Branch) → IsStore forks → IsStore (take n forks)
front_store n forks h = record {
  older = λ k b at. h.older k b (get_front n forks k b at);
  differ = λ k b at. h.differ k b (get_front n forks k b at);
  once = λ j k b at there. h.once j k b (get_front n forks j b at) (get_front n forks k b there);
}

pub front_ref : (forks : List Branch) (r : Ref) → IsRef forks r → IsRef (take (size_of r) forks) r
front_ref forks Zero ref = tt
front_ref forks One ref = tt
front_ref forks (Node k) ref = subst (λ (n : ℕ). k < length (take n forks)) (sym (add-one k)) (front_long forks k ref)

pub front_tree : (forks : List Branch) (r : Ref) → IsRef forks r → tree_of (take (size_of r) forks) r ≡ tree_of forks r
front_tree forks r ref =
    sym (tree_more (take (size_of r) forks) (drop (size_of r) forks) r (size_within (take (size_of r) forks) r (front_ref forks r ref)))
    ∙ ap (λ (fs : List Branch). tree_of fs r) (split (size_of r) forks)

from_first : (forks : List Branch) (r : Ref) → IsFrom forks 0 r
from_first forks Zero = tt
from_first forks One = tt
from_first forks (Node k) = λ b at. omega arith

-- the tree of a cover's diagram, in the store of the forks up to its root
pub diagram_tree : (cover : Cover) (forks : List Branch) (r : Ref) → IsReduced forks → PartsWithin forks → IsDiagramOf cover forks r → tree_of (take (size_of r) forks) r ≡ diagram_of cover
diagram_tree cover forks r h within d =
    let sums : cover.width ≡ 0 + cover.width = omega arith in
    front_tree forks r d.ref ∙ drawn forks h within cover.width 0 r (value_of cover) d.ref (from_first forks r) (subst (λ (n : ℕ). IsWithin forks r n) sums d.within) d.value

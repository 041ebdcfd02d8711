-- The forks that a walk found, numbered by their places, are the forest of the root's tree.
use Rattle.std.proofs.Common.{ℕ, suc, zero, ◌≡◌, ◌<◌, ◌≤◌, Bool, true, false, List, [], ◌∷◌, ◌++◌, length, take, get_or, nat_eq, refl, sym, ap, ◌∙◌, arith, subst}
use Rattle.std.proofs.lemmas.List.{length-map}
use Rattle.std.proofs.lemmas.Bool.{false≢true}
use Rattle.std.proofs.lemmas.Bool.Decides.{nat_tests}
use Rattle.std.proofs.lemmas.List.Quantifiers.{position-Some}
use Rattle.std.proofs.lemmas.Option.{slice_get-get_or}
use Rattle.act1_base.specs.declared.memory.Memory.{Memory}
use Rattle.std.specs.Prelude.{slice_get, Some, None, Result, Ok, Err, IfOk, position}
use Rattle.std.specs.List.{AllZip}
use Rattle.act1_dd.specs.declared.refs.Ref.{Ref}
use Rattle.act1_dd.specs.declared.refs.Ref.TheVariants.{Zero, One, Node}
use Rattle.act1_dd.specs.declared.refs.Branch.{Branch}
use Rattle.act1_dd.specs.Diagram.{IsRef, size_of}
use Rattle.act1_base.proofs.ListGets.{some_is, one_at, get_within, get_mapped}
use Rattle.act1_cover.specs.declared.forest.Forest.{Forest}
use Rattle.act1_cover.specs.declared.forest.Fork.{Fork}
use Rattle.act1_cover.specs.declared.forest.Term.{Term}
use Rattle.act1_cover.specs.declared.forest.Term.TheVariants as term
use Rattle.act1_cover.specs.Forests.{Tree, forks_in, first_ones, Stands, IsForestOf}
use Rattle.act1_cover.specs.Stores.{tree_of, IsStore, is_input, branch_at}
use Rattle.act1_cover.specs.Visiting.{IsTermBy, IsTermOf, IsForkFor, IsFound, AreVisited}
use Rattle.act1_cover.proofs.StoredTrees.{tree_zero, tree_one, part_refs}
use Rattle.act1_cover.proofs.RefVisits.{branch_is, input_tree, plain_tree}

-- the fork at a place, by the number that was found there
zipped : {X Y : Type 0} (P : X → Y → Type 0) (xs : List X) (ys : List Y) (i : ℕ) (x : X) → AllZip P xs ys → slice_get xs i ≡ Some x → (y : Y) × (slice_get ys i ≡ Some y) × P x y
zipped P [] ys i x all at = cc
zipped P (z ∷ xs) [] i x all at = absurd all
zipped {X = X} P (z ∷ xs) (y ∷ ys) zero x all at = (y, refl, subst (λ (u : X). P u y) (some_is z x at) all.0)
zipped P (z ∷ xs) (y ∷ ys) (suc i) x all at = zipped P xs ys i x all.1 at

as_many : {X Y : Type 0} (P : X → Y → Type 0) (xs : List X) (ys : List Y) → AllZip P xs ys → length xs ≡ length ys
as_many P [] [] all = refl
as_many P [] (y ∷ ys) all = absurd all
as_many P (x ∷ xs) [] all = absurd all
as_many P (x ∷ xs) (y ∷ ys) all = ap suc (as_many P xs ys all.1)

-- one more fork for the next number that was found
pub zip_more : {X Y : Type 0} (P : X → Y → Type 0) (xs : List X) (ys : List Y) (x : X) (y : Y) → AllZip P (take (length ys) xs) ys → slice_get xs (length ys) ≡ Some x → P x y → AllZip P (take (length (ys ++ y ∷ [])) xs) (ys ++ y ∷ [])
zip_more P [] [] x y all at h = cc
zip_more P [] (z ∷ ys) x y all at h = cc
zip_more {X = X} P (w ∷ xs) [] x y all at h = (subst (λ (u : X). P u y) (sym (some_is w x at)) h, tt)
zip_more P (w ∷ xs) (z ∷ ys) x y all at h = (all.0, zip_more P xs ys x y all.1 at h)

-- all of them
pub zip_all : {X Y : Type 0} (P : X → Y → Type 0) (xs : List X) (ys : List Y) → AllZip P (take (length ys) xs) ys → length xs ≤ length ys → AllZip P xs ys
zip_all P [] [] all few = tt
zip_all P [] (y ∷ ys) all few = absurd all
zip_all P (x ∷ xs) [] all few = absurd (omega arith)
zip_all P (x ∷ xs) (y ∷ ys) all few = (all.0, zip_all P xs ys all.1 (omega arith))

module _ (store : List Branch) (is : IsStore store) (root : Ref) (found : List ℕ) (visited : AreVisited store root found) (forks : List Fork) (zip : AllZip (IsForkFor store found) found forks) (root_term : Term) where
  abbrev forest : Forest
  forest = record { forks = forks; root = root_term }

  -- a term stands for the tree of its ref, up to a size
  stands : (n : ℕ) (r : Ref) (t : Term) → size_of r ≤ n → IsRef store r → IsTermOf store found r t → Stands forest t (tree_of store r)
  stands n Zero t small ref h = subst (λ (u : Tree). Stands forest t u) (sym (tree_zero store)) h
  stands n One t small ref h = subst (λ (u : Tree). Stands forest t u) (sym (tree_one store)) h
  stands zero (Node k) t small ref h = absurd (omega arith)
  stands (suc n) (Node k) t small ref h = by (is_input (branch_at store k)) refl h (λ s u l. stands n s u l)
    where
      by : (b : Bool) → is_input (branch_at store k) ≡ b → IsTermBy b (branch_at store k).var found k t
          → ((s : Ref) (u : Term) → size_of s ≤ n → IsRef store s → IsTermOf store found s u → Stands forest u (tree_of store s)) → Stands forest t (tree_of store (Node k))
      by true e g known = subst (λ (u : Tree). Stands forest t u) (sym (input_tree store is k (branch_at store k) (branch_is store k ref) e)) g
      by false e (i, at, f) known =
          let b = branch_at store k in
          let there = branch_is store k ref in
          let own = zipped (IsForkFor store found) found forks i k zip at in
          let older = is.older k b there in
          let left = older.0 in let right = older.1 in
          let refs = part_refs store is k b there in
          subst (λ (u : Tree). Stands forest t u) (sym (plain_tree store is k b there e))
          (i, own.0, f, own.1, own.2.var, known b.low own.0.low (omega arith) refs.0 own.2.low, known b.high own.0.high (omega arith) refs.1 own.2.high)

  pub is_numbered : IsRef store root → IsTermOf store found root root_term → IsForestOf (tree_of store root) forest
  is_numbered ref h = record {
    root = stands (size_of root) root root_term (omega arith) ref h;
    count = sym (as_many (IsForkFor store found) found forks zip) ∙ sym (length-map found (λ k. tree_of store (Node k))) ∙ ap (λ (ts : List Tree). length ts) visited.trees;
    forks = each;
  }
    where
      each : (k : ℕ) (t : Tree) → slice_get (first_ones (forks_in (tree_of store root))) k ≡ Some t → Stands forest (term.Fork k) t
      each k t at =
          let back = get_mapped (λ (j : ℕ). tree_of store (Node j)) found k t (subst (λ (ts : List Tree). slice_get ts k ≡ Some t) (sym visited.trees) at) in
          let own = visited.forks k back.0 back.1 in
          let low = get_within store back.0 own.0 own.1 in
          let same = one_at store back.0 own.0 (branch_at store back.0) own.1 (branch_is store back.0 low) in
          let plain = subst (λ (b : Branch). is_input b ≡ false) same own.2 in
          subst (λ (u : Tree). Stands forest (term.Fork k) u) back.2
          (stands (suc back.0) (Node back.0) (term.Fork k) (omega arith) low (term_at back.0 plain back.1))
        where
          term_at : (j : ℕ) → is_input (branch_at store j) ≡ false → slice_get found k ≡ Some j → IsTermOf store found (Node j) (term.Fork k)
          term_at j e there = by (is_input (branch_at store j)) e
            where
              by : (b : Bool) → b ≡ false → IsTermBy b (branch_at store j).var found j (term.Fork k)
              by true f = absurd (false≢true (sym f))
              by false f = (k, there, refl)

-- the parts of a fork that was found have terms
pub parts_ready : (store : List Branch) → IsStore store → (root : Ref) (found : List ℕ) → AreVisited store root found → (i k : ℕ) → slice_get found i ≡ Some k
    → (k < length store) × IsRef store (branch_at store k).low × IsRef store (branch_at store k).high × IsFound store found (branch_at store k).low × IsFound store found (branch_at store k).high
parts_ready store is root found visited i k at =
    let own = visited.forks i k at in
    let low = get_within store k own.0 own.1 in
    let there = branch_is store k low in
    let refs = part_refs store is k (branch_at store k) there in
    let seen = visited.parts_found i k (branch_at store k) at there in
    (low, refs.0, refs.1, seen.0, seen.1)

-- a number that was found at a place
pub position_at : (found : List ℕ) (k i : ℕ) → position (nat_eq k) found ≡ Some i → slice_get found i ≡ Some k
position_at found k i e =
    let p = position-Some (nat_eq k) found i 0 e in
    slice_get-get_or found i 0 p.0 ∙ ap (λ (n : ℕ). Some n) (sym (same k (get_or found i 0) p.1))
  where
    same : (m n : ℕ) → nat_eq m n ≡ true → m ≡ n
    same m n h = grind (arith, nat_tests)

pub numbered_term : (store : List Branch) (found : List ℕ) (k i : ℕ) → is_input (branch_at store k) ≡ false → slice_get found i ≡ Some k → (r : Result Term Memory) → IfOk r (λ t. t ≡ term.Fork i) → IfOk r (IsTermOf store found (Node k))
numbered_term store found k i plain at (Err e) h = tt
numbered_term store found k i plain at (Ok t) h = by (is_input (branch_at store k)) plain
  where
    by : (b : Bool) → b ≡ false → IsTermBy b (branch_at store k).var found k t
    by true f = absurd (false≢true (sym f))
    by false f = (i, at, h)

-- a list has nothing at a place past its end
pub past_end : (found : List ℕ) (n : ℕ) → None ≡ slice_get found n → length found ≤ n
past_end [] n e = omega arith
past_end (k ∷ found) zero e = cc
past_end (k ∷ found) (suc n) e = let r = past_end found n e in omega arith

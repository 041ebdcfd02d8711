-- What a store draws when forks are added, and the chain of a row from its last mark to its first.
use Rattle.std.proofs.Common.{ℕ, suc, zero, ◌≡◌, ◌≢◌, ◌≤◌, ◌+◌, ◌⊎◌, Bool, List, [], ◌∷◌, ◌++◌, length, drop, take, add-one, refl, sym, ap, ◌∙◌, inl, inr, arith, subst}
use Rattle.std.proofs.lemmas.List.{length_push}
use Rattle.std.specs.Prelude.{slice_get, Some, Contains}
use Rattle.act1_logic.specs.declared.cover.Mark.{Mark}
use Rattle.act1_logic.specs.declared.cover.Row.{Row}
use Rattle.act1_dd.specs.declared.refs.Ref.{Ref}
use Rattle.act1_dd.specs.declared.refs.Ref.TheVariants.{Zero, One, Node}
use Rattle.act1_dd.specs.declared.refs.Branch.{Branch}
use Rattle.act1_dd.specs.Diagram.{IsRef, size_of}
use Rattle.act1_dd.specs.Steps.{IsNumbered}
use Rattle.act1_base.proofs.ListGets.{get_cases, get_within, contains_at}
use Rattle.act1_cover.specs.Forests.{Tree, constant, fork_of, with_mark, row_chain, chain}
use Rattle.act1_cover.specs.Stores.{tree_of, IsStore, KeepsTrees, Draws}
use Rattle.act1_cover.proofs.StoredTrees.{tree_node, tree_more, size_within, fork_same}

pub keeps_all : (store : List Branch) → KeepsTrees store store
keeps_all store = record { refs = λ r h. h; trees = λ r h. refl }

pub keeps_then : (a b c : List Branch) → KeepsTrees a b → KeepsTrees b c → KeepsTrees a c
keeps_then a b c h k = record { refs = λ r ref. k.refs r (h.refs r ref); trees = λ r ref. k.trees r (h.refs r ref) ∙ h.trees r ref }

pub draws_same : (store : List Branch) (r : Ref) → IsStore store → IsRef store r → Draws store store r (tree_of store r)
draws_same store r is ref = record { store = is; keeps = keeps_all store; ref = ref; drawn = refl }

-- another tree that is the same
pub draws_as : (old new : List Branch) (r : Ref) (t u : Tree) → t ≡ u → Draws old new r t → Draws old new r u
draws_as old new r t u e d = record { store = d.store; keeps = d.keeps; ref = d.ref; drawn = d.drawn ∙ e }

-- more was drawn before
pub draws_after : (first old new : List Branch) (r : Ref) (t : Tree) → KeepsTrees first old → Draws old new r t → Draws first new r t
draws_after first old new r t keeps d = record { store = d.store; keeps = keeps_then first old new keeps d.keeps; ref = d.ref; drawn = d.drawn }

-- a fork whose parts are the same
pub draws_part : (store : List Branch) (v : ℕ) (low high : Ref) → low ≡ high → IsStore store → IsRef store low → Draws store store low (fork_of v (tree_of store low) (tree_of store high))
draws_part store v low high e is ref =
    draws_as store store low (tree_of store low) (fork_of v (tree_of store low) (tree_of store high))
    (sym (fork_same v (tree_of store low)) ∙ ap (λ (s : Ref). fork_of v (tree_of store low) (tree_of store s)) e) (draws_same store low is ref)

module _ (old : List Branch) (b : Branch) where
  ref_more : (r : Ref) → IsRef old r → IsRef (old ++ b ∷ []) r
  ref_more Zero ref = tt
  ref_more One ref = tt
  ref_more (Node k) ref = let one = length_push old b in omega arith

  more : KeepsTrees old (old ++ b ∷ [])
  more = record { refs = ref_more; trees = λ r ref. tree_more old (b ∷ []) r (size_within old r ref) }

  still_store : IsStore old → IsRef old b.low → IsRef old b.high → b.low ≢ b.high → (Contains old b → ⊥) → IsStore (old ++ b ∷ [])
  still_store is low high differ fresh = record {
    older = λ k c at. older k c (get_cases old b c k at);
    differ = λ k c at. apart k c (get_cases old b c k at);
    once = λ j k c at there. one j k c (get_cases old b c j at) (get_cases old b c k there);
  }
    where
      older : (k : ℕ) (c : Branch) → (slice_get old k ≡ Some c) ⊎ ((k ≡ length old) × (b ≡ c)) → (size_of c.low ≤ k) × (size_of c.high ≤ k)
      older k c (inl at) = is.older k c at
      older k c (inr (at, same)) =
          let l = size_within old b.low low in let h = size_within old b.high high in
          let m = ap (λ (d : Branch). size_of d.low) same in let n = ap (λ (d : Branch). size_of d.high) same in
          (omega arith, omega arith)

      apart : (k : ℕ) (c : Branch) → (slice_get old k ≡ Some c) ⊎ ((k ≡ length old) × (b ≡ c)) → c.low ≢ c.high
      apart k c (inl at) = is.differ k c at
      apart k c (inr (at, same)) = λ e. differ (ap (λ (d : Branch). d.low) same ∙ e ∙ sym (ap (λ (d : Branch). d.high) same))

      one : (j k : ℕ) (c : Branch) → (slice_get old j ≡ Some c) ⊎ ((j ≡ length old) × (b ≡ c)) → (slice_get old k ≡ Some c) ⊎ ((k ≡ length old) × (b ≡ c)) → j ≡ k
      one j k c (inl at) (inl there) = is.once j k c at there
      one j k c (inl at) (inr (there, same)) = absurd (fresh (contains_at old j b (subst (λ (d : Branch). slice_get old j ≡ Some d) (sym same) at)))
      one j k c (inr (at, same)) (inl there) = absurd (fresh (contains_at old k b (subst (λ (d : Branch). slice_get old k ≡ Some d) (sym same) there)))
      one j k c (inr (at, same)) (inr (there, same')) = at ∙ sym there

-- a fork of parts that differ
pub draws_fork : (old new : List Branch) (v : ℕ) (low high : Ref) (k : ℕ) → IsStore old → IsRef old low → IsRef old high → low ≢ high → IsNumbered old (record { var = v; low = low; high = high }) new k
    → Draws old new (Node k) (fork_of v (tree_of old low) (tree_of old high))
draws_fork old new v low high k is low_ref high_ref differ numbered = whole (grown numbered.others)
  where
    grown : (new ≡ old) ⊎ ((Contains old (record { var = v; low = low; high = high }) → ⊥) × (new ≡ old ++ record { var = v; low = low; high = high } ∷ [])) → IsStore new × KeepsTrees old new
    grown (inl e) = (subst IsStore (sym e) is, subst (KeepsTrees old) (sym e) (keeps_all old))
    grown (inr (fresh, e)) =
        (subst IsStore (sym e) (still_store old (record { var = v; low = low; high = high }) is low_ref high_ref differ fresh), subst (KeepsTrees old) (sym e) (more old (record { var = v; low = low; high = high })))

    whole : IsStore new × KeepsTrees old new → Draws old new (Node k) (fork_of v (tree_of old low) (tree_of old high))
    whole (store, keeps) =
        let older = store.older k (record { var = v; low = low; high = high }) numbered.place in
        record {
          store = store;
          keeps = keeps;
          ref = get_within new k (record { var = v; low = low; high = high }) numbered.place;
          drawn = tree_node new k (record { var = v; low = low; high = high }) numbered.place older.0 older.1
              ∙ ap (λ (t : Tree). fork_of v t (tree_of new high)) (keeps.trees low low_ref) ∙ ap (λ (t : Tree). fork_of v (tree_of old low) t) (keeps.trees high high_ref);
        }

pub no_store : IsStore []
no_store = record { older = λ k b at. absurd (none k b at); differ = λ k b at. absurd (none k b at); once = λ j k b at there. absurd (none j b at) }
  where
    none : (k : ℕ) (b : Branch) → slice_get [] k ≡ Some b → ⊥
    none k b at = cc

-- past the last mark a row is matched
pub row_end : (matched next : Tree) (v n : ℕ) (marks : List Mark) → n ≡ length marks → row_chain matched next v (drop n marks) ≡ matched
row_end matched next v zero [] e = refl
row_end matched next v (suc n) [] e = absurd (omega arith)
row_end matched next v zero (m ∷ marks) e = absurd (omega arith)
row_end matched next v (suc n) (m ∷ marks) e = row_end matched next v n marks (omega arith)

pub row_more : (matched next : Tree) (v n : ℕ) (m : Mark) (marks : List Mark) → slice_get marks n ≡ Some m → row_chain matched next v (drop n marks) ≡ with_mark v m (row_chain matched next (suc v) (drop (suc n) marks)) next
row_more matched next v n m [] e = cc
row_more matched next v zero m (o ∷ marks) e = let same : o ≡ m = cc in ap (λ (x : Mark). with_mark v x (row_chain matched next (suc v) marks) next) same
row_more matched next v (suc n) m (o ∷ marks) e = row_more matched next v n m marks e

pub rows_end : (output : Bool) (n : ℕ) (rows : List Row) → n ≡ length rows → chain output (drop n rows) ≡ chain output []
rows_end output zero [] e = refl
rows_end output (suc n) [] e = absurd (omega arith)
rows_end output zero (row ∷ rows) e = absurd (omega arith)
rows_end output (suc n) (row ∷ rows) e = rows_end output n rows (omega arith)

pub rows_more : (output : Bool) (n : ℕ) (row : Row) (rows : List Row) → slice_get rows n ≡ Some row → chain output (drop n rows) ≡ row_chain (constant output) (chain output (drop (suc n) rows)) 0 row.marks
rows_more output n row [] e = cc
rows_more output zero row (o ∷ rows) e = let same : o ≡ row = cc in ap (λ (x : Row). row_chain (constant output) (chain output rows) 0 x.marks) same
rows_more output (suc n) row (o ∷ rows) e = rows_more output n row rows e

take_push : {X : Type 0} (xs : List X) (i : ℕ) (x : X) → slice_get xs i ≡ Some x → take (suc i) xs ≡ take i xs ++ x ∷ []
take_push [] i x at = cc
take_push {X = X} (y ∷ xs) zero x at = let same : y ≡ x = cc in ap (λ (z : X). z ∷ []) same
take_push {X = X} (y ∷ xs) (suc i) x at = ap (λ (zs : List X). y ∷ zs) (take_push xs i x at)

-- the first elements of a list, and the next one
pub front_next : {X : Type 0} (xs ys : List X) (n : ℕ) (x : X) → ys ≡ take n xs → slice_get xs n ≡ Some x → ys ++ x ∷ [] ≡ take (n + 1) xs
front_next {X = X} xs ys n x is at = ap (λ (zs : List X). zs ++ x ∷ []) is ∙ sym (take_push xs n x at) ∙ ap (λ (m : ℕ). take m xs) (sym (add-one n))

pub front_longer : {X : Type 0} (xs ys : List X) (x : X) → ys ≡ take (length ys) xs → slice_get xs (length ys) ≡ Some x → ys ++ x ∷ [] ≡ take (length (ys ++ x ∷ [])) xs
front_longer xs ys x is at = front_next xs ys (length ys) x is at ∙ ap (λ (m : ℕ). take m xs) (let e = length_push ys x in let f : length ys + 1 ≡ length (ys ++ x ∷ []) = omega arith in f)

-- one more mark of a row, from its last to its first
pub row_step : (marks : List Mark) (var k : ℕ) (m : Mark) (first old new : List Branch) (matched next r s : Ref) → var ≡ suc k → slice_get marks k ≡ Some m → IsRef first next
    → Draws first old r (row_chain (tree_of first matched) (tree_of first next) var (drop var marks)) → Draws old new s (with_mark k m (tree_of old r) (tree_of old next))
    → Draws first new s (row_chain (tree_of first matched) (tree_of first next) k (drop k marks))
row_step marks var k m first old new matched next r s e at ref before now =
    draws_after first old new s (row_chain (tree_of first matched) (tree_of first next) k (drop k marks)) before.keeps
    (draws_as old new s (with_mark k m (tree_of old r) (tree_of old next)) (row_chain (tree_of first matched) (tree_of first next) k (drop k marks))
    (ap (λ (t : Tree). with_mark k m t (tree_of old next)) (before.drawn ∙ ap (λ (v : ℕ). row_chain (tree_of first matched) (tree_of first next) v (drop v marks)) e)
    ∙ ap (λ (t : Tree). with_mark k m (row_chain (tree_of first matched) (tree_of first next) (suc k) (drop (suc k) marks)) t) (before.keeps.trees next ref)
    ∙ sym (row_more (tree_of first matched) (tree_of first next) k k m marks at)) now)

-- one more row, from the last to the first
pub chain_step : (output : Bool) (rows : List Row) (at k : ℕ) (row : Row) (old new : List Branch) (matched r s : Ref) → at ≡ suc k → slice_get rows k ≡ Some row → IsRef [] matched → tree_of [] matched ≡ constant output
    → Draws [] old r (chain output (drop at rows)) → Draws old new s (row_chain (tree_of old matched) (tree_of old r) 0 row.marks) → Draws [] new s (chain output (drop k rows))
chain_step output rows at k row old new matched r s e there ref tree before now =
    draws_after [] old new s (chain output (drop k rows)) before.keeps
    (draws_as old new s (row_chain (tree_of old matched) (tree_of old r) 0 row.marks) (chain output (drop k rows))
    (ap (λ (t : Tree). row_chain t (tree_of old r) 0 row.marks) (before.keeps.trees matched ref ∙ tree)
    ∙ ap (λ (t : Tree). row_chain (constant output) t 0 row.marks) (before.drawn ∙ ap (λ (n : ℕ). chain output (drop n rows)) e)
    ∙ sym (rows_more output k row rows there)) now)

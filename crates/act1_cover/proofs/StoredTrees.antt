-- The trees of the refs of a store: the equation of a fork, that new forks leave the trees of older ones, and that different refs have different trees.
use Rattle.std.proofs.Common.{ℕ, suc, zero, ◌≡◌, ◌≢◌, ◌<◌, ◌≤◌, ◌+◌, ◌⊎◌, ◌&&◌, Bool, true, false, List, [], ◌∷◌, ◌++◌, length, get_or, refl, sym, ap, ◌∙◌, inl, inr, arith}
use Rattle.std.proofs.lemmas.List.{length_push}
use Rattle.std.proofs.lemmas.Bool.{false≢true}
use Rattle.std.specs.Prelude.{if◌then◌else◌, slice_get, Some, Option}
use Rattle.act1_dd.specs.declared.refs.Ref.{Ref}
use Rattle.act1_dd.specs.declared.refs.Ref.TheVariants.{Zero, One, Node}
use Rattle.act1_dd.specs.declared.refs.Branch.{Branch}
use Rattle.act1_dd.specs.Diagram.{IsRef, size_of}
use Rattle.act1_base.proofs.ListGets.{some_is, get_in, get_within}
use Rattle.act1_cover.specs.Forests.{Tree, never, always, input, fork, is_same_tree, fork_of}
use Rattle.act1_cover.specs.Stores.{tree_by, tree_of_branch, trees_after, tree_of, IsStore}
use Rattle.act1_cover.proofs.Trees.{same_tree, itself}

length_after : (known : List Tree) (bs : List Branch) → length (trees_after known bs) ≡ length known + length bs
length_after known [] = omega arith
length_after known (b ∷ bs) =
    let rest = length_after (known ++ tree_of_branch known b ∷ []) bs in
    let one = length_push known (tree_of_branch known b) in omega arith

after_append : (known : List Tree) (bs cs : List Branch) → trees_after known (bs ++ cs) ≡ trees_after (trees_after known bs) cs
after_append known [] cs = refl
after_append known (b ∷ bs) cs = after_append (known ++ tree_of_branch known b ∷ []) bs cs

pushed : (known : List Tree) (c : Tree) (k : ℕ) → k < length known → get_or (known ++ c ∷ []) k never ≡ get_or known k never
pushed [] c k low = absurd (omega arith)
pushed (d ∷ known) c zero low = refl
pushed (d ∷ known) c (suc k) low = pushed known c k (omega arith)

last : (known : List Tree) (c : Tree) → get_or (known ++ c ∷ []) (length known) never ≡ c
last [] c = refl
last (d ∷ known) c = last known c

kept : (known : List Tree) (bs : List Branch) (k : ℕ) → k < length known → get_or (trees_after known bs) k never ≡ get_or known k never
kept known [] k low = refl
kept known (b ∷ bs) k low =
    let c = tree_of_branch known b in
    let one = length_push known c in
    kept (known ++ c ∷ []) bs k (omega arith) ∙ pushed known c k low

ref_kept : (known : List Tree) (bs : List Branch) (r : Ref) → size_of r ≤ length known → tree_by (trees_after known bs) r ≡ tree_by known r
ref_kept known bs Zero low = refl
ref_kept known bs One low = refl
ref_kept known bs (Node k) low = kept known bs k (omega arith)

branch_kept : (known : List Tree) (bs : List Branch) (b : Branch) → size_of b.low ≤ length known → size_of b.high ≤ length known → tree_of_branch (trees_after known bs) b ≡ tree_of_branch known b
branch_kept known bs b low high =
    ap (λ (t : Tree). fork_of b.var t (tree_by (trees_after known bs) b.high)) (ref_kept known bs b.low low)
    ∙ ap (λ (t : Tree). fork_of b.var (tree_by known b.low) t) (ref_kept known bs b.high high)

at_place : (known : List Tree) (bs : List Branch) (k n : ℕ) (b : Branch) → slice_get bs k ≡ Some b → n ≡ length known + k → size_of b.low ≤ n → size_of b.high ≤ n
    → get_or (trees_after known bs) n never ≡ tree_of_branch (trees_after known bs) b
at_place known [] k n b at is low high = cc
at_place known (c ∷ bs) zero n b at is low high =
    let v = tree_of_branch known c in
    let one = length_push known v in
    let here : n ≡ length known = omega arith in
    let read : get_or (known ++ v ∷ []) n never ≡ v = ap (λ (i : ℕ). get_or (known ++ v ∷ []) i never) here ∙ last known v in
    kept (known ++ v ∷ []) bs n (omega arith) ∙ read ∙ ap (λ (d : Branch). tree_of_branch known d) (some_is c b at)
    ∙ sym (branch_kept known (c ∷ bs) b (omega arith) (omega arith))
at_place known (c ∷ bs) (suc k) n b at is low high =
    let v = tree_of_branch known c in
    let one = length_push known v in
    at_place (known ++ v ∷ []) bs k n b at (omega arith) low high

-- the tree of a fork is the fork of its parts' trees
pub tree_node : (store : List Branch) (k : ℕ) (b : Branch) → slice_get store k ≡ Some b → size_of b.low ≤ k → size_of b.high ≤ k → tree_of store (Node k) ≡ fork_of b.var (tree_of store b.low) (tree_of store b.high)
unfolding tree_of
tree_node store k b at low high = at_place [] store k k b at (omega arith) low high

pub tree_zero : (store : List Branch) → tree_of store Zero ≡ never
unfolding tree_of
tree_zero store = refl

pub tree_one : (store : List Branch) → tree_of store One ≡ always
unfolding tree_of
tree_one store = refl

-- more forks leave the trees of older refs
pub tree_more : (store more : List Branch) (r : Ref) → size_of r ≤ length store → tree_of (store ++ more) r ≡ tree_of store r
unfolding tree_of
tree_more store more r low =
    let as_long = length_after [] store in
    ap (λ (known : List Tree). tree_by known r) (after_append [] store more) ∙ ref_kept (trees_after [] store) more r (omega arith)

-- a fork of one tree is that tree
pub fork_same : (v : ℕ) (t : Tree) → fork_of v t t ≡ t
fork_same v t = by (is_same_tree t t) (itself t)
  where
    by : (b : Bool) → b ≡ true → (if b then t else (if is_same_tree t never && is_same_tree t always then input v else fork v t t)) ≡ t
    by true e = refl
    by false e = absurd (false≢true e)

-- a fork of different trees is a single input, or a fork of them
pub fork_cases : (v : ℕ) (a b : Tree) → a ≢ b → ((fork_of v a b ≡ input v) × (a ≡ never) × (b ≡ always)) ⊎ ((fork_of v a b ≡ fork v a b) × ((a ≡ never) → (b ≡ always) → ⊥))
fork_cases v a b apart = by (is_same_tree a b) (is_same_tree a never) (is_same_tree b always) refl refl refl
  where
    by : (s l h : Bool) → is_same_tree a b ≡ s → is_same_tree a never ≡ l → is_same_tree b always ≡ h
        → (((if s then a else (if l && h then input v else fork v a b)) ≡ input v) × (a ≡ never) × (b ≡ always))
        ⊎ (((if s then a else (if l && h then input v else fork v a b)) ≡ fork v a b) × ((a ≡ never) → (b ≡ always) → ⊥))
    by true l h e f g = absurd (apart (same_tree a b e))
    by false true true e f g = inl (refl, same_tree a never f, same_tree b always g)
    by false false h e f g = inr (refl, λ low high. false≢true (sym f ∙ ap (λ (t : Tree). is_same_tree t never) low))
    by false true false e f g = inr (refl, λ low high. false≢true (sym g ∙ ap (λ (t : Tree). is_same_tree t always) high))

pub size_within : (store : List Branch) (r : Ref) → IsRef store r → size_of r ≤ length store
size_within store Zero h = omega arith
size_within store One h = omega arith
size_within store (Node k) h = omega arith

pub within_size : (store : List Branch) (r : Ref) → size_of r ≤ length store → IsRef store r
within_size store Zero h = tt
within_size store One h = tt
within_size store (Node k) h = omega arith

same_branch : (a b : Branch) → a.var ≡ b.var → a.low ≡ b.low → a.high ≡ b.high → a ≡ b
same_branch a b e l h = λ i. record { var = e i; low = l i; high = h i }

abbrev var_in : Tree → ℕ
var_in (fork x l h) = x
var_in never = 0
var_in always = 0
var_in (input x) = 0

abbrev low_in : Tree → Tree
low_in (fork x l h) = l
low_in never = never
low_in always = never
low_in (input x) = never

abbrev high_in : Tree → Tree
high_in (fork x l h) = h
high_in never = never
high_in always = never
high_in (input x) = never

pub fork_parts : (v w : ℕ) (a b c d : Tree) → fork v a b ≡ fork w c d → (v ≡ w) × (a ≡ c) × (b ≡ d)
fork_parts v w a b c d e = (ap var_in e, ap low_in e, ap high_in e)

input_part : (v w : ℕ) → input v ≡ input w → v ≡ w
input_part v w e = cc

module _ (store : List Branch) (is : IsStore store) where
  pub part_refs : (k : ℕ) (b : Branch) → slice_get store k ≡ Some b → IsRef store b.low × IsRef store b.high
  part_refs k b at =
      let older = is.older k b at in
      let low = get_within store k b at in
      let left = older.0 in
      let right = older.1 in
      (within_size store b.low (omega arith), within_size store b.high (omega arith))

  -- different refs have different trees, up to a size
  abbrev Known : ℕ → Type 0
  Known n = (r s : Ref) → size_of r ≤ n → size_of s ≤ n → IsRef store r → IsRef store s → tree_of store r ≡ tree_of store s → r ≡ s

  -- what the tree of a fork is: a single input, or a fork
  abbrev pub IsDrawn : ℕ → Branch → Type 0
  IsDrawn k b =
      ((tree_of store (Node k) ≡ input b.var) × (b.low ≡ Zero) × (b.high ≡ One))
      ⊎ ((tree_of store (Node k) ≡ fork b.var (tree_of store b.low) (tree_of store b.high)) × ((b.low ≡ Zero) → (b.high ≡ One) → ⊥))

  drawn_by : (n k : ℕ) (b : Branch) → Known n → slice_get store k ≡ Some b → k ≤ n → IsDrawn k b
  drawn_by n k b known at small =
      let older = is.older k b at in
      let refs = part_refs k b at in
      let left = older.0 in
      let right = older.1 in
      let node = tree_node store k b at older.0 older.1 in
      by node (fork_cases b.var (tree_of store b.low) (tree_of store b.high) (λ e. is.differ k b at (known b.low b.high (omega arith) (omega arith) refs.0 refs.1 e)))
    where
      low : tree_of store b.low ≡ never → b.low ≡ Zero
      low e = let left = (is.older k b at).0 in known b.low Zero (omega arith) (omega arith) (part_refs k b at).0 tt (e ∙ sym (tree_zero store))

      high : tree_of store b.high ≡ always → b.high ≡ One
      high e = let right = (is.older k b at).1 in known b.high One (omega arith) (omega arith) (part_refs k b at).1 tt (e ∙ sym (tree_one store))

      by : tree_of store (Node k) ≡ fork_of b.var (tree_of store b.low) (tree_of store b.high)
          → ((fork_of b.var (tree_of store b.low) (tree_of store b.high) ≡ input b.var) × (tree_of store b.low ≡ never) × (tree_of store b.high ≡ always))
          ⊎ ((fork_of b.var (tree_of store b.low) (tree_of store b.high) ≡ fork b.var (tree_of store b.low) (tree_of store b.high)) × ((tree_of store b.low ≡ never) → (tree_of store b.high ≡ always) → ⊥))
          → IsDrawn k b
      by node (inl (e, l, h)) = inl (node ∙ e, low l, high h)
      by node (inr (e, apart)) = inr (node ∙ e, λ l h. apart (ap (tree_of store) l ∙ tree_zero store) (ap (tree_of store) h ∙ tree_one store))

  two_nodes : (n j k : ℕ) (a b : Branch) → Known n → slice_get store j ≡ Some a → slice_get store k ≡ Some b → j ≤ n → k ≤ n → tree_of store (Node j) ≡ tree_of store (Node k) → IsDrawn j a → IsDrawn k b → Node j ≡ Node k
  two_nodes n j k a b known at there small small' e (inl (f, l, h)) (inl (g, m, i)) =
      let same = same_branch a b (input_part a.var b.var (sym f ∙ e ∙ g)) (l ∙ sym m) (h ∙ sym i) in
      ap Node (is.once j k a at (there ∙ ap (λ (d : Branch). let o : Option Branch = Some d in o) (sym same)))
  two_nodes n j k a b known at there small small' e (inr (f, apart)) (inr (g, apart')) =
      let parts = fork_parts a.var b.var (tree_of store a.low) (tree_of store a.high) (tree_of store b.low) (tree_of store b.high) (sym f ∙ e ∙ g) in
      let p = is.older j a at in let q = is.older k b there in
      let p0 = p.0 in let p1 = p.1 in let q0 = q.0 in let q1 = q.1 in
      let refs = part_refs j a at in let refs' = part_refs k b there in
      let same = same_branch a b parts.0 (known a.low b.low (omega arith) (omega arith) refs.0 refs'.0 parts.1) (known a.high b.high (omega arith) (omega arith) refs.1 refs'.1 parts.2) in
      ap Node (is.once j k a at (there ∙ ap (λ (d : Branch). let o : Option Branch = Some d in o) (sym same)))
  two_nodes n j k a b known at there small small' e (inl (f, l, h)) (inr (g, apart)) = let x : input a.var ≡ fork b.var (tree_of store b.low) (tree_of store b.high) = sym f ∙ e ∙ g in cc
  two_nodes n j k a b known at there small small' e (inr (f, apart)) (inl (g, l, h)) = let x : fork a.var (tree_of store a.low) (tree_of store a.high) ≡ input b.var = sym f ∙ e ∙ g in cc

  no_constant : (k : ℕ) (b : Branch) → IsDrawn k b → (tree_of store (Node k) ≡ never → ⊥) × (tree_of store (Node k) ≡ always → ⊥)
  no_constant k b (inl (f, l, h)) = ((λ e. let x : input b.var ≡ never = sym f ∙ e in cc), (λ e. let x : input b.var ≡ always = sym f ∙ e in cc))
  no_constant k b (inr (f, apart)) =
      ((λ e. let x : fork b.var (tree_of store b.low) (tree_of store b.high) ≡ never = sym f ∙ e in cc), (λ e. let x : fork b.var (tree_of store b.low) (tree_of store b.high) ≡ always = sym f ∙ e in cc))

  known_all : (n : ℕ) → Known n
  known_all n Zero Zero small small' ref ref' e = refl
  known_all n One One small small' ref ref' e = refl
  known_all n Zero One small small' ref ref' e = let x : never ≡ always = sym (tree_zero store) ∙ e ∙ tree_one store in cc
  known_all n One Zero small small' ref ref' e = let x : always ≡ never = sym (tree_one store) ∙ e ∙ tree_zero store in cc
  known_all zero (Node k) s small small' ref ref' e = absurd (omega arith)
  known_all zero Zero (Node k) small small' ref ref' e = absurd (omega arith)
  known_all zero One (Node k) small small' ref ref' e = absurd (omega arith)
  known_all (suc n) (Node k) Zero small small' ref ref' e = let b = get_in store k ref in absurd ((no_constant k b.0 (drawn_by n k b.0 (known_all n) b.1 (omega arith))).0 (e ∙ tree_zero store))
  known_all (suc n) (Node k) One small small' ref ref' e = let b = get_in store k ref in absurd ((no_constant k b.0 (drawn_by n k b.0 (known_all n) b.1 (omega arith))).1 (e ∙ tree_one store))
  known_all (suc n) Zero (Node k) small small' ref ref' e = let b = get_in store k ref' in absurd ((no_constant k b.0 (drawn_by n k b.0 (known_all n) b.1 (omega arith))).0 (sym e ∙ tree_zero store))
  known_all (suc n) One (Node k) small small' ref ref' e = let b = get_in store k ref' in absurd ((no_constant k b.0 (drawn_by n k b.0 (known_all n) b.1 (omega arith))).1 (sym e ∙ tree_one store))
  known_all (suc n) (Node j) (Node k) small small' ref ref' e =
      let a = get_in store j ref in
      let b = get_in store k ref' in
      two_nodes n j k a.0 b.0 (known_all n) a.1 b.1 (omega arith) (omega arith) e (drawn_by n j a.0 (known_all n) a.1 (omega arith)) (drawn_by n k b.0 (known_all n) b.1 (omega arith))

  pub one_ref : (r s : Ref) → IsRef store r → IsRef store s → tree_of store r ≡ tree_of store s → r ≡ s
  one_ref r s ref ref' = known_all (size_of r + size_of s) r s (omega arith) (omega arith) ref ref'

  pub drawn : (k : ℕ) (b : Branch) → slice_get store k ≡ Some b → IsDrawn k b
  drawn k b at = drawn_by k k b (known_all k) at (omega arith)

-- The walk over a store finds the forks of its root's tree in the order of the first visit, and ends.
use Rattle.std.proofs.Common.{ℕ, suc, zero, ◌≡◌, ◌<◌, ◌≤◌, ◌+◌, ◌-◌, ◌*◌, ◌⊎◌, Bool, true, false, List, [], ◌∷◌, ◌++◌, length, map, nat_eq, append_assoc, refl, sym, ap, ◌∙◌, inl, inr, arith, subst}
use Rattle.std.proofs.lemmas.Bool.{false≢true}
use Rattle.std.proofs.lemmas.Bool.Decides.{nat_tests}
use Rattle.std.proofs.lemmas.List.{length_push}
use Rattle.std.proofs.lemmas.Option.{slice_get-get_or}
use Rattle.std.specs.Prelude.{◌||◌, slice_get, Some, Contains}
use Rattle.std.specs.List.{list_any}
use Rattle.act1_dd.specs.declared.refs.Ref.{Ref}
use Rattle.act1_dd.specs.declared.refs.Ref.TheVariants.{Zero, One, Node}
use Rattle.act1_dd.specs.declared.refs.Branch.{Branch}
use Rattle.act1_dd.specs.Diagram.{IsRef}
use Rattle.act1_base.proofs.ListGets.{one_at, get_within, get_cases, get_map, get_mapped, contains_at, place_of}
use Rattle.act1_base.proofs.Pigeonhole.{pigeonhole, distinct, below}
use Rattle.act1_cover.specs.Forests.{Tree, input, fork, forks_in, first_ones}
use Rattle.act1_cover.specs.Stores.{tree_of, IsStore, are_input, is_input, no_branch, branch_at}
use Rattle.act1_cover.specs.Visiting.{is_found, found_by, stack_by, found_after, stack_after, IsFound, AreVisited}
use Rattle.act1_cover.proofs.TreeLists.{In, in_at, at_in, in_left, in_right, in_ones, from_ones}
use Rattle.act1_cover.proofs.StoredTrees.{tree_zero, tree_one, part_refs, one_ref, drawn}
use Rattle.act1_cover.proofs.Visits.{IsVisit, visit_begins, visit_ends, visit_plain, visit_found, visit_new, forks_inside}

two : (b : Bool) → (b ≡ true) ⊎ (b ≡ false)
two true = inl refl
two false = inr refl

pub input_parts : (low high : Ref) → are_input low high ≡ true → (low ≡ Zero) × (high ≡ One)
input_parts Zero One e = (refl, refl)
input_parts Zero Zero e = absurd (false≢true e)
input_parts Zero (Node k) e = absurd (false≢true e)
input_parts One high e = absurd (false≢true e)
input_parts (Node j) high e = absurd (false≢true e)

pub parts_input : (low high : Ref) → low ≡ Zero → high ≡ One → are_input low high ≡ true
parts_input low high l h = ap (λ (r : Ref). are_input r high) l ∙ ap (are_input Zero) h

equal_numbers : (k m : ℕ) → nat_eq k m ≡ true → k ≡ m
equal_numbers k m h = grind (arith, nat_tests)

pub found_in : (found : List ℕ) (k : ℕ) → is_found found k ≡ true → Contains found k
found_in [] k e = absurd (false≢true e)
found_in (m ∷ ms) k e = by (two (nat_eq k m)) (found_in ms k)
  where
    by : (nat_eq k m ≡ true) ⊎ (nat_eq k m ≡ false) → (list_any (nat_eq k) ms ≡ true → Contains ms k) → Contains (m ∷ ms) k
    by (inl f) later = (0, omega arith, sym (equal_numbers k m f))
    by (inr f) later = let r = later (sym (ap (λ (b : Bool). b || list_any (nat_eq k) ms) f) ∙ e) in let low = r.1 in (suc r.0, omega arith, r.2)

pub in_found : (found : List ℕ) (k i : ℕ) → slice_get found i ≡ Some k → is_found found k ≡ true
in_found [] k i at = cc
in_found (m ∷ ms) k zero at = let same : m ≡ k = cc in let e : nat_eq k m ≡ true = grind (arith, nat_tests) in ap (λ (b : Bool). b || list_any (nat_eq k) ms) e
in_found (m ∷ ms) k (suc i) at = by (nat_eq k m) (in_found ms k i at)
  where
    by : (b : Bool) → list_any (nat_eq k) ms ≡ true → (b || list_any (nat_eq k) ms) ≡ true
    by true e = refl
    by false e = e

module _ (store : List Branch) where
  -- the trees of the forks that were found, and those that are to be visited, the next one first
  abbrev pub trees : List ℕ → List Tree
  trees found = map (λ k. tree_of store (Node k)) found

  abbrev pub next_first : List Ref → List Tree
  next_first [] = []
  next_first (r ∷ rs) = next_first rs ++ tree_of store r ∷ []

  abbrev pub AreRefs : List Ref → Type 0
  AreRefs [] = Unit {0}
  AreRefs (r ∷ rs) = IsRef store r × AreRefs rs

  pub record IsWalk (root : Ref) (found : List ℕ) (stack : List Ref) : Type 0 where
    pub refs : AreRefs stack
    pub forks : (i k : ℕ) → slice_get found i ≡ Some k → (b : Branch) × (slice_get store k ≡ Some b) × (is_input b ≡ false)
    pub once : (i j k : ℕ) → slice_get found i ≡ Some k → slice_get found j ≡ Some k → i ≡ j
    pub visit : IsVisit (tree_of store root) (trees found) (next_first stack)

  next_push : (rs : List Ref) (r : Ref) → next_first (rs ++ r ∷ []) ≡ tree_of store r ∷ next_first rs
  next_push [] r = refl
  next_push (s ∷ rs) r = ap (λ (ts : List Tree). ts ++ tree_of store s ∷ []) (next_push rs r)

  trees_push : (found : List ℕ) (k : ℕ) → trees (found ++ k ∷ []) ≡ trees found ++ tree_of store (Node k) ∷ []
  trees_push [] k = refl
  trees_push (j ∷ found) k = ap (λ (ts : List Tree). tree_of store (Node j) ∷ ts) (trees_push found k)

  refs_push : (rs : List Ref) (r : Ref) → AreRefs rs → IsRef store r → AreRefs (rs ++ r ∷ [])
  refs_push [] r h ref = (ref, tt)
  refs_push (s ∷ rs) r h ref = (h.0, refs_push rs r h.1 ref)

  pub refs_pop : (rs : List Ref) (r : Ref) → AreRefs (rs ++ r ∷ []) → AreRefs rs × IsRef store r
  refs_pop [] r h = (tt, h.0)
  refs_pop (s ∷ rs) r h = let p = refs_pop rs r h.1 in ((h.0, p.0), p.1)

  -- the fork of a ref
  pub branch_is : (k : ℕ) → k < length store → slice_get store k ≡ Some (branch_at store k)
  branch_is k low = slice_get-get_or store k no_branch low

  none : {X : Type 0} (i : ℕ) (x : X) → slice_get [] i ≡ Some x → ⊥
  none i x at = cc

  pub walk_begins : (root : Ref) → IsRef store root → IsWalk root [] (root ∷ [])
  walk_begins root ref = record {
    refs = (ref, tt);
    forks = λ i k at. absurd (none i k at);
    once = λ i j k at there. absurd (none i k at);
    visit = visit_begins (tree_of store root);
  }

  module _ (is : IsStore store) where
    -- a fork whose tree is found is found
    tree_found : (found : List ℕ) (k : ℕ) → k < length store → ((i j : ℕ) → slice_get found i ≡ Some j → (b : Branch) × (slice_get store j ≡ Some b) × (is_input b ≡ false)) → In (tree_of store (Node k)) (trees found) → (i : ℕ) × (slice_get found i ≡ Some k)
    tree_found found k low forks h =
        let at = in_at (tree_of store (Node k)) (trees found) h in
        let back = get_mapped (λ (j : ℕ). tree_of store (Node j)) found at.0 (tree_of store (Node k)) at.1 in
        let own = forks at.0 back.0 back.1 in
        let same = one_ref store is (Node back.0) (Node k) (get_within store back.0 own.0 own.1) low back.2 in
        (at.0, back.1 ∙ ap (λ (j : ℕ). Some j) (number back.0 k same))
      where
        number : (j m : ℕ) → Node j ≡ Node m → j ≡ m
        number j m e = cc

    found_tree : (found : List ℕ) (k : ℕ) → Contains found k → In (tree_of store (Node k)) (trees found)
    found_tree found k c = let p = place_of found k c in at_in (tree_of store (Node k)) (trees found) p.0 (get_map (λ (j : ℕ). tree_of store (Node j)) found p.0 k p.1)

    -- the tree of a fork that is no single input
    fork_tree : (k : ℕ) (b : Branch) → slice_get store k ≡ Some b → is_input b ≡ false → tree_of store (Node k) ≡ fork b.var (tree_of store b.low) (tree_of store b.high)
    fork_tree k b at e = by (drawn store is k b at)
      where
        by : ((tree_of store (Node k) ≡ input b.var) × (b.low ≡ Zero) × (b.high ≡ One)) ⊎ ((tree_of store (Node k) ≡ fork b.var (tree_of store b.low) (tree_of store b.high)) × ((b.low ≡ Zero) → (b.high ≡ One) → ⊥))
            → tree_of store (Node k) ≡ fork b.var (tree_of store b.low) (tree_of store b.high)
        by (inl (f, l, h)) = absurd (false≢true (sym e ∙ parts_input b.low b.high l h))
        by (inr (f, apart)) = f

    pub input_tree : (k : ℕ) (b : Branch) → slice_get store k ≡ Some b → is_input b ≡ true → tree_of store (Node k) ≡ input b.var
    input_tree k b at e = by (drawn store is k b at)
      where
        by : ((tree_of store (Node k) ≡ input b.var) × (b.low ≡ Zero) × (b.high ≡ One)) ⊎ ((tree_of store (Node k) ≡ fork b.var (tree_of store b.low) (tree_of store b.high)) × ((b.low ≡ Zero) → (b.high ≡ One) → ⊥))
            → tree_of store (Node k) ≡ input b.var
        by (inl (f, l, h)) = f
        by (inr (f, apart)) = let p = input_parts b.low b.high e in absurd (apart p.0 p.1)

    pub plain_tree : (k : ℕ) (b : Branch) → slice_get store k ≡ Some b → is_input b ≡ false → tree_of store (Node k) ≡ fork b.var (tree_of store b.low) (tree_of store b.high)
    plain_tree = fork_tree

    own_fork : (k : ℕ) (b : Branch) → slice_get store k ≡ Some b → is_input b ≡ false → In (tree_of store (Node k)) (forks_in (tree_of store (Node k)))
    own_fork k b at e = subst (λ (t : Tree). In t (forks_in t)) (sym (fork_tree k b at e)) (inl refl)

    -- the next ref is visited
    module _ (root : Ref) (found : List ℕ) (rest : List Ref) where
      skipped : (r : Ref) → forks_in (tree_of store r) ≡ [] → IsWalk root found (rest ++ r ∷ []) → IsWalk root found rest
      skipped r plain w = record {
        refs = (refs_pop rest r w.refs).0;
        forks = w.forks;
        once = w.once;
        visit = visit_plain (tree_of store root) (tree_of store r) (trees found) (next_first rest) plain (subst (λ (ts : List Tree). IsVisit (tree_of store root) (trees found) ts) (next_push rest r) w.visit);
      }

      seen : (k : ℕ) (b : Branch) → slice_get store k ≡ Some b → is_input b ≡ false → Contains found k → IsWalk root found (rest ++ Node k ∷ []) → IsWalk root found rest
      seen k b at e c w = record {
        refs = (refs_pop rest (Node k) w.refs).0;
        forks = w.forks;
        once = w.once;
        visit = visit_found (tree_of store root) (tree_of store (Node k)) (trees found) (next_first rest) (own_fork k b at e) (found_tree found k c)
            (subst (λ (ts : List Tree). IsVisit (tree_of store root) (trees found) ts) (next_push rest (Node k)) w.visit);
      }

      fresh : (k : ℕ) (b : Branch) → slice_get store k ≡ Some b → is_input b ≡ false → is_found found k ≡ false → IsWalk root found (rest ++ Node k ∷ []) → IsWalk root (found ++ k ∷ []) (rest ++ b.high ∷ b.low ∷ [])
      fresh k b at e new w = record {
        refs = subst AreRefs (append_assoc rest (b.high ∷ []) (b.low ∷ []))
            (refs_push (rest ++ b.high ∷ []) b.low (refs_push rest b.high (refs_pop rest (Node k) w.refs).0 (part_refs store is k b at).1) (part_refs store is k b at).0);
        forks = λ i j there. forks i j (get_cases found k j i there);
        once = λ i j m there then2. one i j m (get_cases found k m i there) (get_cases found k m j then2);
        visit =
            subst (λ (ts : List Tree). IsVisit (tree_of store root) ts (next_first (rest ++ b.high ∷ b.low ∷ []))) (sym (trees_push found k ∙ ap (λ (t : Tree). trees found ++ t ∷ []) tree))
            (subst (λ (ts : List Tree). IsVisit (tree_of store root) (trees found ++ fork b.var (tree_of store b.low) (tree_of store b.high) ∷ []) ts) (sym stacked)
            (visit_new (tree_of store root) b.var (tree_of store b.low) (tree_of store b.high) (trees found) (next_first rest) none_yet
            (subst (λ (t : Tree). IsVisit (tree_of store root) (trees found) (t ∷ next_first rest)) tree (subst (λ (ts : List Tree). IsVisit (tree_of store root) (trees found) ts) (next_push rest (Node k)) w.visit))));
      }
        where
          tree : tree_of store (Node k) ≡ fork b.var (tree_of store b.low) (tree_of store b.high)
          tree = fork_tree k b at e

          stacked : next_first (rest ++ b.high ∷ b.low ∷ []) ≡ tree_of store b.low ∷ tree_of store b.high ∷ next_first rest
          stacked = ap next_first (sym (append_assoc rest (b.high ∷ []) (b.low ∷ []))) ∙ next_push (rest ++ b.high ∷ []) b.low ∙ ap (λ (ts : List Tree). tree_of store b.low ∷ ts) (next_push rest b.high)

          not_yet : (i : ℕ) → slice_get found i ≡ Some k → ⊥
          not_yet i there = false≢true (sym new ∙ in_found found k i there)

          none_yet : In (fork b.var (tree_of store b.low) (tree_of store b.high)) (trees found) → ⊥
          none_yet h = let p = tree_found found k (get_within store k b at) w.forks (subst (λ (t : Tree). In t (trees found)) (sym tree) h) in not_yet p.0 p.1

          forks : (i j : ℕ) → (slice_get found i ≡ Some j) ⊎ ((i ≡ length found) × (k ≡ j)) → (c : Branch) × (slice_get store j ≡ Some c) × (is_input c ≡ false)
          forks i j (inl there) = w.forks i j there
          forks i j (inr (last, same)) = (b, subst (λ (m : ℕ). slice_get store m ≡ Some b) same at, e)

          one : (i j m : ℕ) → (slice_get found i ≡ Some m) ⊎ ((i ≡ length found) × (k ≡ m)) → (slice_get found j ≡ Some m) ⊎ ((j ≡ length found) × (k ≡ m)) → i ≡ j
          one i j m (inl there) (inl then2) = w.once i j m there then2
          one i j m (inl there) (inr (last, same)) = absurd (not_yet i (subst (λ (q : ℕ). slice_get found i ≡ Some q) (sym same) there))
          one i j m (inr (last, same)) (inl then2) = absurd (not_yet j (subst (λ (q : ℕ). slice_get found j ≡ Some q) (sym same) then2))
          one i j m (inr (last, same)) (inr (last', same')) = last ∙ sym last'

      fork_step : (k : ℕ) → IsWalk root found (rest ++ Node k ∷ []) → k < length store → (single old : Bool) → is_input (branch_at store k) ≡ single → is_found found k ≡ old
          → IsWalk root (found_by single old k found) (stack_by single old (branch_at store k) rest)
      fork_step k w low true old e f = skipped (Node k) (ap forks_in (input_tree k (branch_at store k) (branch_is k low) e)) w
      fork_step k w low false true e f = seen k (branch_at store k) (branch_is k low) e (found_in found k f) w
      fork_step k w low false false e f = fresh k (branch_at store k) (branch_is k low) e f w

      pub walk_goes_on : (r : Ref) → IsWalk root found (rest ++ r ∷ []) → IsWalk root (found_after store r found) (stack_after store r found rest)
      walk_goes_on Zero w = skipped Zero (ap forks_in (tree_zero store)) w
      walk_goes_on One w = skipped One (ap forks_in (tree_one store)) w
      walk_goes_on (Node k) w = fork_step k w (refs_pop rest (Node k) w.refs).1 (is_input (branch_at store k)) (is_found found k) refl refl

    -- no more forks are found than the store has
    pub walk_is_few : (root : Ref) (found : List ℕ) (stack : List Ref) → IsWalk root found stack → length found ≤ length store
    walk_is_few root found stack w =
        pigeonhole (length store) found (distinct found (λ p q v at there. w.once p q v at there)) (below (length store) found (λ p v at. let b = w.forks p v at in get_within store v b.0 b.1))

    abbrev left : List ℕ → List Ref → ℕ
    left found stack = 2 * (length store - length found) + length stack

    two_more : (rest : List Ref) (r s : Ref) → length (rest ++ r ∷ s ∷ []) ≡ length rest + 2
    two_more [] r s = refl
    two_more (q ∷ rest) r s = let e = two_more rest r s in omega arith

    smaller_by : (single old : Bool) (k : ℕ) (b : Branch) (found : List ℕ) (rest : List Ref) (r : Ref) → length (found_by single old k found) ≤ length store → left (found_by single old k found) (stack_by single old b rest) < left found (rest ++ r ∷ [])
    smaller_by true old k b found rest r few = let e = length_push rest r in omega arith
    smaller_by false true k b found rest r few = let e = length_push rest r in omega arith
    smaller_by false false k b found rest r few = let e = length_push rest r in let f = two_more rest b.high b.low in let g = length_push found k in omega arith

    pub walk_is_smaller : (root : Ref) (found : List ℕ) (rest : List Ref) (r : Ref) → IsWalk root found (rest ++ r ∷ []) → left (found_after store r found) (stack_after store r found rest) < left found (rest ++ r ∷ [])
    walk_is_smaller root found rest Zero w = let e = length_push rest Zero in omega arith
    walk_is_smaller root found rest One w = let e = length_push rest One in omega arith
    walk_is_smaller root found rest (Node k) w =
        let few = walk_is_few root (found_after store (Node k) found) (stack_after store (Node k) found rest) (walk_goes_on root found rest (Node k) w) in
        smaller_by (is_input (branch_at store k)) (is_found found k) k (branch_at store k) found rest (Node k) few

    -- at the end all forks are found
    pub walk_ends : (root : Ref) (found : List ℕ) → IsRef store root → IsWalk root found [] → AreVisited store root found
    walk_ends root found ref w = record {
      trees = whole;
      forks = w.forks;
      root_found = root_in root ref (λ k e f. own k e f);
      parts_found = parts;
    }
      where
        whole : trees found ≡ first_ones (forks_in (tree_of store root))
        whole = visit_ends (tree_of store root) (trees found) w.visit

        at_end : (k : ℕ) → k < length store → In (tree_of store (Node k)) (forks_in (tree_of store root)) → Contains found k
        at_end k low h =
            let p = tree_found found k low w.forks (subst (λ (ts : List Tree). In (tree_of store (Node k)) ts) (sym whole) (in_ones (forks_in (tree_of store root)) (tree_of store (Node k)) h)) in
            contains_at found p.0 k p.1

        root_in : (r : Ref) → IsRef store r → ((k : ℕ) → r ≡ Node k → is_input (branch_at store k) ≡ false → In (tree_of store (Node k)) (forks_in (tree_of store root))) → IsFound store found r
        root_in Zero h i = tt
        root_in One h i = tt
        root_in (Node k) h i = λ e. at_end k h (i k refl e)

        within : (k : ℕ) → root ≡ Node k → k < length store
        within k e = subst (IsRef store) e ref

        own : (k : ℕ) → root ≡ Node k → is_input (branch_at store k) ≡ false → In (tree_of store (Node k)) (forks_in (tree_of store root))
        own k e f = subst (λ (r : Ref). In (tree_of store (Node k)) (forks_in (tree_of store r))) (sym e) (own_fork k (branch_at store k) (branch_is k (within k e)) f)

        parts : (i k : ℕ) (b : Branch) → slice_get found i ≡ Some k → slice_get store k ≡ Some b → IsFound store found b.low × IsFound store found b.high
        parts i k b at there = (
          root_in b.low (part_refs store is k b there).0 (λ j e f. part b.low (part_refs store is k b there).0 j e f (λ t h. inr (in_left t (forks_in (tree_of store b.low)) (forks_in (tree_of store b.high)) h))),
          root_in b.high (part_refs store is k b there).1 (λ j e f. part b.high (part_refs store is k b there).1 j e f (λ t h. inr (in_right t (forks_in (tree_of store b.low)) (forks_in (tree_of store b.high)) h))),
        )
          where
            plain : is_input b ≡ false
            plain = let own = w.forks i k at in subst (λ (c : Branch). is_input c ≡ false) (one_at store k own.0 b own.1 there) own.2

            under : In (tree_of store (Node k)) (forks_in (tree_of store root))
            under = from_ones (forks_in (tree_of store root)) (tree_of store (Node k)) (subst (λ (ts : List Tree). In (tree_of store (Node k)) ts) whole (found_tree found k (contains_at found i k at)))

            part : (r : Ref) → IsRef store r → (j : ℕ) → r ≡ Node j → is_input (branch_at store j) ≡ false
                → ((t : Tree) → In t (forks_in (tree_of store r)) → In t (forks_in (fork b.var (tree_of store b.low) (tree_of store b.high))))
                → In (tree_of store (Node j)) (forks_in (tree_of store root))
            part r ref j e f inside =
                let low : j < length store = subst (IsRef store) e ref in
                let here = subst (λ (q : Ref). In (tree_of store (Node j)) (forks_in (tree_of store q))) (sym e) (own_fork j (branch_at store j) (branch_is j low) f) in
                forks_inside (tree_of store root) (tree_of store (Node k)) (tree_of store (Node j)) under
                (subst (λ (t : Tree). In (tree_of store (Node j)) (forks_in t)) (sym (fork_tree k b there plain)) (inside (tree_of store (Node j)) here))

-- A forest that stands for a tree: its forks depend on lower ones, each is used, and it has the tree's value.
use Rattle.std.proofs.Common.{ℕ, suc, ◌≡◌, ◌≢◌, ◌⊎◌, ◌+◌, ◌<◌, ◌&&◌, ◌||◌, ◌==◌, Bool, true, false, List, [], ◌∷◌, length, Some, refl, sym, ap, subst, ◌∙◌, inl, inr, arith}
use Rattle.std.specs.Prelude.{if◌then◌else◌, slice_get, slice_index_or, nat_le, nat_lt, sum_by, ◌^◌}
use Rattle.std.specs.List.{list_all}
use Rattle.std.proofs.lemmas.Bool.{cases_eq, false≢true, and_parts}
use Rattle.std.proofs.lemmas.Bool.Decides.{nat_tests}
use Rattle.std.proofs.lemmas.Option.{slice_get_within, slice_get-get_or, get_or_from_slice_get}
use Rattle.act1_logic.specs.declared.cover.Cover.{Cover}
use Rattle.act1_logic.specs.declared.cover.Row.{Row}
use Rattle.act1_logic.specs.Cover.{value_of}
use Rattle.act1_logic.specs.Rows.{is_cover}
use Rattle.act1_cover.specs.declared.forest.Forest.{Forest}
use Rattle.act1_cover.specs.declared.forest.Fork.{Fork}
use Rattle.act1_cover.specs.declared.forest.Term.{Term}
use Rattle.act1_cover.specs.declared.forest.Term.TheVariants as term
use Rattle.act1_cover.specs.Forests.{Tree, never, always, input, fork, tree_value, forks_in, first_ones, Stands, IsForestOf}
use Rattle.act1_cover.specs.Tilings.{no_fork, low_of, high_of, is_fork, places, references, is_root, one_if}
use Rattle.act1_cover.specs.Values.{var_of, AreValues}
use Rattle.act1_cover.specs.Least.{IsForest}
use Rattle.act1_cover.specs.Denotes.{diagram_of, chain_of, ForestsDenote}
use Rattle.act1_cover.proofs.Totals.{total_at, total_two}
use Rattle.act1_cover.proofs.FirstParents.{IsPartOf, first_parents}
use Rattle.act1_cover.proofs.LeastNumber.{few_places}
use Rattle.act1_cover.proofs.StoredTrees.{fork_parts}
use Rattle.act1_cover.proofs.TileCounts.{is_the_fork}
use Rattle.act1_cover.proofs.TreeLists.{In, in_at, at_in, in_left, in_right, in_either, in_ones, from_ones, one_place, ones_differ}
use Rattle.act1_cover.proofs.Trees.{diagram_value, chain_value, AreWide}

-- a term stands for one tree
pub stands_one : (forest : Forest) (e : Term) (t u : Tree) → Stands forest e t → Stands forest e u → t ≡ u
stands_one forest e never never h g = refl
stands_one forest e always always h g = refl
stands_one forest e (input v) (input w) h g = let s : v ≡ w = var_same (sym h ∙ g) in ap input s
  where
    var_same : term.Var v ≡ term.Var w → v ≡ w
    var_same e = cc
stands_one forest e (fork v a b) (fork w c d) (k, f, e1, at, var, low, high) (j, g, e2, there, other, lower, higher) =
    let s : k ≡ j = number (sym e1 ∙ e2) in
    let same : f ≡ g = some (sym at ∙ ap (slice_get forest.forks) s ∙ there) in
    let vs : v ≡ w = sym var ∙ ap (λ (h : Fork). h.var) same ∙ other in
    let as2 = stands_one forest g.low a c (subst (λ (h : Fork). Stands forest h.low a) same low) lower in
    let bs = stands_one forest g.high b d (subst (λ (h : Fork). Stands forest h.high b) same high) higher in
    ap (λ (n : ℕ). fork n a b) vs ∙ ap (λ (t : Tree). fork w t b) as2 ∙ ap (λ (t : Tree). fork w c t) bs
  where
    number : term.Fork k ≡ term.Fork j → k ≡ j
    number e = cc

    some : Some f ≡ Some g → f ≡ g
    some e = cc
stands_one forest e never always h g = cc
stands_one forest e never (input w) h g = cc
stands_one forest e never (fork w c d) h (j, f, e2, there, other, lower, higher) = cc
stands_one forest e always never h g = cc
stands_one forest e always (input w) h g = cc
stands_one forest e always (fork w c d) h (j, f, e2, there, other, lower, higher) = cc
stands_one forest e (input v) never h g = cc
stands_one forest e (input v) always h g = cc
stands_one forest e (input v) (fork w c d) h (j, f, e2, there, other, lower, higher) = cc
stands_one forest e (fork v a b) never (k, f, e1, at, var, low, high) g = cc
stands_one forest e (fork v a b) always (k, f, e1, at, var, low, high) g = cc
stands_one forest e (fork v a b) (input w) (k, f, e1, at, var, low, high) g = cc

choose : (a b : Bool) (h l g m : Bool) → a ≡ b → h ≡ g → l ≡ m → (if a then h else l) ≡ (if b then g else m)
choose true true h l g m d e f = e
choose false false h l g m d e f = f
choose true false h l g m d e f = cc
choose false true h l g m d e f = cc

-- a term has the value of its tree
stands_value : (forest : Forest) (ys : List Bool) (value : Term → Bool) → AreValues forest ys value → (e : Term) (t : Tree) → Stands forest e t → value e ≡ tree_value ys t
stands_value forest ys value are e never h = ap value h ∙ are.zero_is
stands_value forest ys value are e always h = ap value h ∙ are.one_is
stands_value forest ys value are e (input v) h = ap value h ∙ are.input_is v
stands_value forest ys value are e (fork v a b) (k, f, is, at, var, low, high) =
    let there : slice_index_or forest.forks k no_fork ≡ f = get_or_from_slice_get forest.forks k f no_fork at in
    ap value is ∙ are.fork_is k (slice_get_within forest.forks k f at)
    ∙ choose (slice_index_or ys (var_of forest k) false) (slice_index_or ys v false) (value (high_of forest k)) (value (low_of forest k)) (tree_value ys b) (tree_value ys a)
    (ap (λ (n : ℕ). slice_index_or ys n false) (ap (λ (g : Fork). g.var) there ∙ var))
    (ap (λ (g : Fork). value g.high) there ∙ stands_value forest ys value are f.high b high)
    (ap (λ (g : Fork). value g.low) there ∙ stands_value forest ys value are f.low a low)

size : Tree → ℕ
size never = 0
size always = 0
size (input v) = 0
size (fork v a b) = suc (size a + size b)

smaller : (v : ℕ) (a b : Tree) → (size a < size (fork v a b)) × (size b < size (fork v a b))
unfolding size
smaller v a b = (omega arith, omega arith)

-- a fork of a tree is the tree or a part of a fork of it
abbrev HasParent : Tree → Tree → Type 0
HasParent tree t = (v : ℕ) × (a : Tree) × (b : Tree) × In (fork v a b) (forks_in tree) × ((a ≡ t) ⊎ (b ≡ t))

parent : (tree t : Tree) → In t (forks_in tree) → (tree ≡ t) ⊎ HasParent tree t
parent never t h = absurd h
parent always t h = absurd h
parent (input v) t h = absurd h
parent (fork v a b) t (inl e) = inl e
parent (fork v a b) t (inr h) = by (in_either t (forks_in a) (forks_in b) h) (parent a t) (parent b t)
  where
    left : (a ≡ t) ⊎ HasParent a t → (fork v a b ≡ t) ⊎ HasParent (fork v a b) t
    left (inl e) = inr (v, a, b, inl refl, inl e)
    left (inr (w, c, d, g, e)) = inr (w, c, d, inr (in_left (fork w c d) (forks_in a) (forks_in b) g), e)

    right : (b ≡ t) ⊎ HasParent b t → (fork v a b ≡ t) ⊎ HasParent (fork v a b) t
    right (inl e) = inr (v, a, b, inl refl, inr e)
    right (inr (w, c, d, g, e)) = inr (w, c, d, inr (in_right (fork w c d) (forks_in a) (forks_in b) g), e)

    by : In t (forks_in a) ⊎ In t (forks_in b) → (In t (forks_in a) → (a ≡ t) ⊎ HasParent a t) → (In t (forks_in b) → (b ≡ t) ⊎ HasParent b t) → (fork v a b ≡ t) ⊎ HasParent (fork v a b) t
    by (inl g) r s = left (r g)
    by (inr g) r s = right (s g)

module _ (tree : Tree) (forest : Forest) (of : IsForestOf tree forest) where
  abbrev ones : List Tree
  ones = first_ones (forks_in tree)

  abbrev n : ℕ
  n = length forest.forks

  level : ℕ → ℕ
  level k = size (slice_index_or ones k never)

  -- the tree of a fork
  abbrev IsTreeOf : ℕ → Tree → Type 0
  IsTreeOf k t = (slice_get ones k ≡ Some t) × Stands forest (term.Fork k) t × (level k ≡ size t)

  tree_of : (k : ℕ) → k < n → (t : Tree) × IsTreeOf k t
  unfolding level
  tree_of k low =
      let c = of.count in
      let t = slice_index_or ones k never in
      let e = slice_get-get_or ones k never (omega arith) in
      (t, (e, of.forks k t e, refl))

  -- a term that is a fork and stands for a tree
  within_of : (j : ℕ) (t : Tree) → Stands forest (term.Fork j) t → j < n
  within_of j never h = cc
  within_of j always h = cc
  within_of j (input v) h = cc
  within_of j (fork v a b) (k, f, e, at, var, low, high) = let s : j ≡ k = cc in let l = slice_get_within forest.forks k f at in omega arith

  part_lower : (k j : ℕ) (t a : Tree) → level k ≡ size t → size a < size t → Stands forest (term.Fork j) a → (j < n) × (level j < level k)
  part_lower k j t a lk less st =
      let low = within_of j a st in
      let own = tree_of j low in
      let same = stands_one forest (term.Fork j) own.0 a own.1.1 st in
      let s = ap size same in let l = own.1.2 in
      (low, omega arith)

  parts_of : (k : ℕ) (t : Tree) → Stands forest (term.Fork k) t → (v : ℕ) × (a : Tree) × (b : Tree) × (t ≡ fork v a b) × Stands forest (low_of forest k) a × Stands forest (high_of forest k) b
  parts_of k never h = cc
  parts_of k always h = cc
  parts_of k (input v) h = cc
  parts_of k (fork v a b) (j, f, e, at, var, low, high) =
      let s : k ≡ j = cc in
      let there : slice_index_or forest.forks k no_fork ≡ f = ap (λ (i : ℕ). slice_index_or forest.forks i no_fork) s ∙ get_or_from_slice_get forest.forks j f no_fork at in
      (v, a, b, refl, subst (λ (g : Fork). Stands forest g.low a) (sym there) low, subst (λ (g : Fork). Stands forest g.high b) (sym there) high)

  low_lower : (k j : ℕ) → k < n → low_of forest k ≡ term.Fork j → (j < n) × (level j < level k)
  low_lower k j low e =
      let own = tree_of k low in
      let p = parts_of k own.0 own.1.1 in
      let less = (smaller p.0 p.1 p.2).0 in let s = ap size p.3 in
      part_lower k j own.0 p.1 own.1.2 (omega arith) (subst (λ (u : Term). Stands forest u p.1) e p.4)

  high_lower : (k j : ℕ) → k < n → high_of forest k ≡ term.Fork j → (j < n) × (level j < level k)
  high_lower k j low e =
      let own = tree_of k low in
      let p = parts_of k own.0 own.1.1 in
      let less = (smaller p.0 p.1 p.2).1 in let s = ap size p.3 in
      part_lower k j own.0 p.2 own.1.2 (omega arith) (subst (λ (u : Term). Stands forest u p.2) e p.5)

  -- a term that stands for the tree of a fork is that fork
  is_that : (k : ℕ) (t : Tree) (e : Term) → slice_get ones k ≡ Some t → Stands forest (term.Fork k) t → Stands forest e t → e ≡ term.Fork k
  is_that k t e at st other = by e other (parts_of k t st)
    where
      by : (u : Term) → Stands forest u t → ((v : ℕ) × (a : Tree) × (b : Tree) × (t ≡ fork v a b) × Stands forest (low_of forest k) a × Stands forest (high_of forest k) b) → u ≡ term.Fork k
      by (term.Fork j) o p =
          let own = tree_of j (within_of j t o) in
          let same = stands_one forest (term.Fork j) own.0 t own.1.1 o in
          ap term.Fork (one_place ones t j k (ones_differ (forks_in tree)) (own.1.0 ∙ ap Some same) at)
      by term.Zero o p = let g = subst (λ (u : Tree). Stands forest term.Zero u) p.3 o in cc
      by term.One o p = let g = subst (λ (u : Tree). Stands forest term.One u) p.3 o in cc
      by (term.Var w) o p = let g = subst (λ (u : Tree). Stands forest (term.Var w) u) p.3 o in cc

  or_true : (a b : Bool) → a ≡ true → (a || b) ≡ true
  or_true true b e = refl
  or_true false b e = absurd (false≢true e)

  used : (k : ℕ) → k < n → (is_root forest k ≡ true) ⊎ (0 < references forest k)
  used k low =
      let own = tree_of k low in
      by own.0 own.1 (parent tree own.0 (from_ones (forks_in tree) own.0 (at_in own.0 ones k own.1.0)))
    where
      refers : (t : Tree) → IsTreeOf k t → (m : ℕ) (v : ℕ) (a b : Tree) → slice_get ones m ≡ Some (fork v a b) → m < n → Stands forest (term.Fork m) (fork v a b) → (a ≡ t) ⊎ (b ≡ t) → 0 < references forest k
      refers t own m v a b at low_m st part =
          let f = slice_index_or forest.forks m no_fork in
          let e = slice_get-get_or forest.forks m no_fork low_m in
          let one = total_at (places k) forest.forks m f e in
          let p = parts_of m (fork v a b) st in
          let hit = some (parts_same p) part in
          omega arith
        where
          parts_same : ((w : ℕ) × (c : Tree) × (d : Tree) × (fork v a b ≡ fork w c d) × Stands forest (low_of forest m) c × Stands forest (high_of forest m) d) → Stands forest (low_of forest m) a × Stands forest (high_of forest m) b
          parts_same (w, c, d, e, l, h) = let s : a ≡ c = cc in let u : b ≡ d = cc in (subst (λ (t : Tree). Stands forest (low_of forest m) t) (sym s) l, subst (λ (t : Tree). Stands forest (high_of forest m) t) (sym u) h)

          some : Stands forest (low_of forest m) a × Stands forest (high_of forest m) b → (a ≡ t) ⊎ (b ≡ t) → 0 < one_if (is_fork k (low_of forest m)) + one_if (is_fork k (high_of forest m))
          some (l, h) (inl e) = let z = ap one_if (is_the_fork k (low_of forest m) (is_that k t (low_of forest m) own.0 own.1 (subst (λ (u : Tree). Stands forest (low_of forest m) u) e l))) in omega arith
          some (l, h) (inr e) = let z = ap one_if (is_the_fork k (high_of forest m) (is_that k t (high_of forest m) own.0 own.1 (subst (λ (u : Tree). Stands forest (high_of forest m) u) e h))) in omega arith

      by : (t : Tree) → IsTreeOf k t → (tree ≡ t) ⊎ HasParent tree t → (is_root forest k ≡ true) ⊎ (0 < references forest k)
      by t own (inl e) = inl (or_true (is_fork k forest.root) _ (is_the_fork k forest.root (is_that k t forest.root own.0 own.1 (subst (λ (u : Tree). Stands forest forest.root u) e of.root))))
      by t own (inr (v, a, b, g, part)) =
          let m = in_at (fork v a b) ones (in_ones (forks_in tree) (fork v a b) g) in
          let low_m : m.0 < n = (let l = slice_get_within ones m.0 (fork v a b) m.1 in let c = of.count in omega arith) in
          inr (refers t own m.0 v a b m.1 low_m (of.forks m.0 (fork v a b) m.1) part)

  -- the forest's root is there
  root_in : (k : ℕ) → forest.root ≡ term.Fork k → k < n
  root_in k e = within_of k tree (subst (λ (u : Term). Stands forest u tree) e of.root)

  -- a fork refers to another one
  abbrev Refers : ℕ → ℕ → Type 0
  Refers k j = (low_of forest k ≡ term.Fork j) ⊎ (high_of forest k ≡ term.Fork j)

  place_of_part : (k j : ℕ) → Refers k j → 0 < places j (slice_index_or forest.forks k no_fork)
  place_of_part k j (inl e) = let one = ap one_if (is_the_fork j (low_of forest k) e) in omega arith
  place_of_part k j (inr e) = let one = ap one_if (is_the_fork j (high_of forest k) e) in omega arith

  -- one fork refers to a fork that is no root
  one_parent : (i k j : ℕ) → i < n → k < n → is_root forest j ≡ false → Refers i j → Refers k j → i ≡ k
  one_parent i k j i_in k_in no_root p q = by (cases_eq i k)
    where
      by : (i ≡ k) ⊎ (i ≢ k) → i ≡ k
      by (inl e) = e
      by (inr apart) =
          let two = total_two (places j) forest.forks i k (slice_index_or forest.forks i no_fork) (slice_index_or forest.forks k no_fork) apart (slice_get-get_or forest.forks i no_fork i_in) (slice_get-get_or forest.forks k no_fork k_in) in
          let a = place_of_part i j p in let b = place_of_part k j q in let few = few_places forest j no_root in
          absurd (omega arith)

  -- it comes before it
  rising : (k j : ℕ) → k < n → is_root forest j ≡ false → Refers k j → k < j
  rising k j low no_root p = by (first_parents tree j own.0 own.1.0)
    where
      there : Refers k j → j < n
      there (inl e) = (low_lower k j low e).0
      there (inr e) = (high_lower k j low e).0

      own : (t : Tree) × IsTreeOf j t
      own = tree_of j (there p)

      refers : (i : ℕ) (u : Tree) → slice_get ones i ≡ Some u → IsPartOf own.0 u → i < n → Refers i j
      refers i u at (v, a, b, is, part) low_i =
          let q = parts_of i u (of.forks i u at) in
          let same = fork_parts q.0 v q.1 q.2 a b (sym q.3 ∙ is) in
          side (subst (λ (x : Tree). Stands forest (low_of forest i) x) same.1 q.4) (subst (λ (x : Tree). Stands forest (high_of forest i) x) same.2 q.5) part
        where
          side : Stands forest (low_of forest i) a → Stands forest (high_of forest i) b → (a ≡ own.0) ⊎ (b ≡ own.0) → Refers i j
          side l h (inl e) = inl (is_that j own.0 (low_of forest i) own.1.0 own.1.1 (subst (λ (x : Tree). Stands forest (low_of forest i) x) e l))
          side l h (inr e) = inr (is_that j own.0 (high_of forest i) own.1.0 own.1.1 (subst (λ (x : Tree). Stands forest (high_of forest i) x) e h))

      by : (own.0 ≡ tree) ⊎ ((i : ℕ) × (u : Tree) × (i < j) × (slice_get ones i ≡ Some u) × IsPartOf own.0 u) → k < j
      by (inl e) =
          let is_root_j = is_that j own.0 forest.root own.1.0 own.1.1 (subst (λ (x : Tree). Stands forest forest.root x) (sym e) of.root) in
          absurd (false≢true (sym no_root ∙ ap (λ (b : Bool). b || nat_lt 1 (references forest j)) (is_the_fork j forest.root is_root_j)))
      by (inr (i, u, less, at, part)) =
          let in_ones = slice_get_within ones i u at in let c = of.count in
          let r = refers i u at part (omega arith) in
          let same = one_parent i k j (omega arith) low no_root r p in omega arith

  pub is_forest : IsForest forest
  is_forest = record { level = level; low = low_lower; high = high_lower; used = used; root = root_in; rising = rising }

  pub root_value : (ys : List Bool) (value : Term → Bool) → AreValues forest ys value → value forest.root ≡ tree_value ys tree
  root_value ys value are = stands_value forest ys value are forest.root tree of.root

wide : (n : ℕ) (rows : List Row) → list_all (λ (row : Row). length row.marks == n) rows ≡ true → AreWide n rows
wide n [] e = tt
wide n (row ∷ rows) e =
    let p = and_parts (length row.marks == n) (list_all (λ (r : Row). length r.marks == n) rows) e in
    ((let h = p.0 in grind (arith, nat_tests)), wide n rows p.1)

pub all_wide : (cover : Cover) → AreWide cover.width cover.rows
all_wide cover = by cover.width cover.output cover.rows cover.valid
  where
    by : (w : ℕ) (o : Bool) (rows : List Row) → is_cover w o rows ≡ true → AreWide w rows
    by w o rows e =
        let one = (and_parts (nat_le w 64 && list_all (λ (row : Row). length row.marks == w) rows && nat_lt (sum_by (λ (row : Row). length row.marks) rows) (2 ^ 32)) (o || nat_lt 0 (length rows)) e).0 in
        let two = (and_parts (nat_le w 64 && list_all (λ (row : Row). length row.marks == w) rows) (nat_lt (sum_by (λ (row : Row). length row.marks) rows) (2 ^ 32)) one).0 in
        wide w rows (and_parts (nat_le w 64) (list_all (λ (row : Row). length row.marks == w) rows) two).1

pub forests_denote : ForestsDenote
forests_denote cover forest (inl (few, of)) = (
  is_forest (diagram_of cover) forest of,
  λ ys value long are.
      root_value (diagram_of cover) forest of ys value are ∙ diagram_value cover.width [] ys (value_of cover) long,
)
forests_denote cover forest (inr (k, within, over, of)) = (
  is_forest (chain_of cover) forest of,
  λ ys value long are.
      root_value (chain_of cover) forest of ys value are ∙ chain_value cover.output cover.rows ys (subst (λ (n : ℕ). AreWide n cover.rows) (sym long) (all_wide cover)),
)

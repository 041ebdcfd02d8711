-- The inputs that the forest of a cover asks are the cover's.
use Rattle.std.proofs.Common.{ℕ, zero, suc, ◌≡◌, ◌⊎◌, ◌+◌, ◌<◌, ◌≤◌, ◌&&◌, not, Bool, true, false, List, [], ◌∷◌, ◌++◌, length, refl, sym, ap, subst, ◌∙◌, inl, inr, arith}
use Rattle.std.specs.Prelude.{Contains, if◌then◌else◌, slice_index_or}
use Rattle.std.proofs.lemmas.Option.{get_or_from_slice_get}
use Rattle.act1_logic.specs.declared.cover.Cover.{Cover}
use Rattle.act1_logic.specs.declared.cover.Mark.{Mark}
use Rattle.act1_logic.specs.declared.cover.Mark.TheVariants as mark
use Rattle.act1_logic.specs.declared.cover.Row.{Row}
use Rattle.act1_logic.specs.Cover.{value_of}
use Rattle.act1_cover.specs.declared.forest.Forest.{Forest}
use Rattle.act1_cover.specs.declared.forest.Fork.{Fork}
use Rattle.act1_cover.specs.declared.forest.Term.{Term}
use Rattle.act1_cover.specs.declared.forest.Term.TheVariants as term
use Rattle.act1_cover.specs.Denotes.{IsForestOfCover, chain_of, diagram_of}
use Rattle.act1_cover.specs.Forests.{Tree, never, always, input, fork, constant, diagram, fork_of, forks_in, first_ones, is_same_tree, chain, row_chain, with_mark, Stands, IsForestOf}
use Rattle.act1_cover.specs.Tilings.{high_of, low_of, no_fork}
use Rattle.act1_cover.specs.Values.{var_of}
use Rattle.act1_cover.proofs.Denoting.{all_wide}
use Rattle.act1_cover.proofs.TreeLists.{In, at_in, in_either, from_ones}
use Rattle.act1_cover.proofs.Trees.{AreWide}
use Rattle.act1_cover.specs.declared.tile.Tile.{Tile}
use Rattle.act1_cover.specs.Least.{IsForest}
use Rattle.act1_cover.specs.Pins.{pins_of, second_pin, side_pins}
use Rattle.act1_cover.specs.Tilings.{MayStand, inner, low_side, number_of}
use Rattle.act1_cover.proofs.TileCounts.{inner_is}
use Rattle.act1_map.specs.CoverSteps.{IsForkWithin}
use Rattle.act1_map.proofs.CoverNodes.{low_within, high_within}
use Rattle.act1_map.proofs.Gets.{some_within}
use Rattle.act1_map.proofs.TilePins.{Each, each_append, each_in}

-- each input of the tree is below w
abbrev Asks : ℕ → Tree → Type 0
Asks w never = Unit {0}
Asks w always = Unit {0}
Asks w (input v) = v < w
Asks w (fork v a b) = (v < w) × Asks w a × Asks w b

module _ (w : ℕ) where
  asks_constant : (b : Bool) → Asks w (constant b)
  asks_constant true = tt
  asks_constant false = tt

  asks_fork : (v : ℕ) (a b : Tree) → v < w → Asks w a → Asks w b → Asks w (fork_of v a b)
  asks_fork v a b low h g = by (is_same_tree a b) (is_same_tree a never && is_same_tree b always)
    where
      by : (c d : Bool) → Asks w (if c then a else (if d then input v else fork v a b))
      by true d = h
      by false true = low
      by false false = (low, h, g)

  asks_diagram : (n v : ℕ) (f : List Bool → Bool) → v + n ≤ w → Asks w (diagram n v f)
  asks_diagram zero v f low = asks_constant (f [])
  asks_diagram (suc n) v f low =
      asks_fork v (diagram n (suc v) (λ ys. f (false ∷ ys))) (diagram n (suc v) (λ ys. f (true ∷ ys))) (omega arith)
      (asks_diagram n (suc v) (λ ys. f (false ∷ ys)) (omega arith)) (asks_diagram n (suc v) (λ ys. f (true ∷ ys)) (omega arith))

  asks_mark : (v : ℕ) (m : Mark) (rest next : Tree) → v < w → Asks w rest → Asks w next → Asks w (with_mark v m rest next)
  asks_mark v mark.Dash rest next low h g = h
  asks_mark v mark.One rest next low h g = asks_fork v next rest low g h
  asks_mark v mark.Zero rest next low h g = asks_fork v rest next low h g

  asks_row : (matched next : Tree) (v : ℕ) (marks : List Mark) → v + length marks ≤ w → Asks w matched → Asks w next → Asks w (row_chain matched next v marks)
  asks_row matched next v [] low h g = h
  asks_row matched next v (m ∷ marks) low h g = asks_mark v m (row_chain matched next (suc v) marks) next (omega arith) (asks_row matched next (suc v) marks (omega arith) h g) g

  asks_chain : (output : Bool) (rows : List Row) → AreWide w rows → Asks w (chain output rows)
  asks_chain output [] wide = asks_constant (not output)
  asks_chain output (row ∷ rows) wide =
      asks_row (constant output) (chain output rows) 0 row.marks (let e = wide.0 in omega arith) (asks_constant output) (asks_chain output rows wide.1)

  asks_in : (tree t : Tree) → Asks w tree → In t (forks_in tree) → Asks w t
  asks_in never t h i = absurd i
  asks_in always t h i = absurd i
  asks_in (input v) t h i = absurd i
  asks_in (fork v a b) t h (inl e) = subst (Asks w) e h
  asks_in (fork v a b) t h (inr i) = by (in_either t (forks_in a) (forks_in b) i) (asks_in a t h.1) (asks_in b t h.2)
    where
      by : In t (forks_in a) ⊎ In t (forks_in b) → (In t (forks_in a) → Asks w t) → (In t (forks_in b) → Asks w t) → Asks w t
      by (inl j) l r = l j
      by (inr j) l r = r j

  asks_term : (forest : Forest) (t : Tree) (e : Term) (v : ℕ) → Asks w t → Stands forest e t → e ≡ term.Var v → v < w
  asks_term forest never e v h st is = (let f = sym st ∙ is in cc)
  asks_term forest always e v h st is = (let f = sym st ∙ is in cc)
  asks_term forest (input u) e v h st is = subst (λ (k : ℕ). k < w) (same (sym st ∙ is)) h
    where
      same : term.Var u ≡ term.Var v → u ≡ v
      same f = cc
  asks_term forest (fork u a b) e v h (k, f, s, at, var, low, high) is = (let g = sym s ∙ is in cc)

-- what a fork asks, and its parts where they are inputs, and the root where it is one
pub record AsksBelow (forest : Forest) (w : ℕ) : Type 0 where
  pub root : (v : ℕ) → forest.root ≡ term.Var v → v < w
  pub vars : (k : ℕ) → k < length forest.forks → var_of forest k < w
  pub low : (k v : ℕ) → k < length forest.forks → low_of forest k ≡ term.Var v → v < w
  pub high : (k v : ℕ) → k < length forest.forks → high_of forest k ≡ term.Var v → v < w

module _ (w : ℕ) (tree : Tree) (forest : Forest) (asks : Asks w tree) (of : IsForestOf tree forest) where
  record IsAsked (k : ℕ) : Type 0 where
    var : var_of forest k < w
    low : (v : ℕ) → low_of forest k ≡ term.Var v → v < w
    high : (v : ℕ) → high_of forest k ≡ term.Var v → v < w

  asked : (k : ℕ) (t : Tree) → Asks w t → Stands forest (term.Fork k) t → IsAsked k
  asked k never h st = cc
  asked k always h st = cc
  asked k (input v) h st = cc
  asked k (fork v a b) h (j, f, is, at, var, low, high) =
      let number : k ≡ j = number_of_fork is in
      let there : slice_index_or forest.forks k no_fork ≡ f = ap (λ (i : ℕ). slice_index_or forest.forks i no_fork) number ∙ get_or_from_slice_get forest.forks j f no_fork at in
      record {
        var = subst (λ (i : ℕ). i < w) (sym (ap (λ (g : Fork). g.var) there ∙ var)) h.0;
        low = λ u e. asks_term w forest a f.low u h.1 low (ap (λ (g : Fork). g.low) (sym there) ∙ e);
        high = λ u e. asks_term w forest b f.high u h.2 high (ap (λ (g : Fork). g.high) (sym there) ∙ e);
      }
    where
      number_of_fork : term.Fork k ≡ term.Fork j → k ≡ j
      number_of_fork e = cc

  each_asked : (k : ℕ) → k < length forest.forks → IsAsked k
  each_asked k low =
      let ones = first_ones (forks_in tree) in
      let t = some_within ones k (let c = of.count in omega arith) in
      asked k t.0 (asks_in w tree t.0 asks (from_ones (forks_in tree) t.0 (at_in t.0 ones k t.1))) (of.forks k t.0 t.1)

  asks_below : AsksBelow forest w
  asks_below = record {
    root = λ v e. asks_term w forest tree forest.root v asks of.root e;
    vars = λ k low. (each_asked k low).var;
    low = λ k v low e. (each_asked k low).low v e;
    high = λ k v low e. (each_asked k low).high v e;
  }

pub cover_asks : (cover : Cover) (forest : Forest) → IsForestOfCover cover forest → AsksBelow forest cover.width
cover_asks cover forest (inl (few, is)) = asks_below cover.width (diagram_of cover) forest (asks_diagram cover.width cover.width 0 (value_of cover) (omega arith)) is
cover_asks cover forest (inr (k, low, over, is)) = asks_below cover.width (chain_of cover) forest (asks_chain cover.width cover.output cover.rows (all_wide cover)) is

-- the inputs at a tile's pins are below w too
module _ (forest : Forest) (is : IsForest forest) (w : ℕ) (asks : AsksBelow forest w) where
  abbrev IsBelow : Term → Type 0
  IsBelow e = (v : ℕ) → e ≡ term.Var v → v < w

  nought : IsBelow term.Zero
  nought v e = cc

  var_below : (q : ℕ) → q < length forest.forks → IsBelow (term.Var (var_of forest q))
  var_below q low v e = subst (λ (i : ℕ). i < w) (same e) (asks.vars q low)
    where
      same : term.Var (var_of forest q) ≡ term.Var v → var_of forest q ≡ v
      same e = cc

  fork_within : (t : Term) → IsForkWithin forest t → inner forest t ≡ number_of t ∷ [] → number_of t < length forest.forks
  fork_within t within h = subst (λ (e : Term). IsForkWithin forest e) (inner_is forest t (number_of t) h).0 within

  side_below : (b : Bool) (t : Term) → IsBelow t → IsForkWithin forest t → (b ≡ true → inner forest t ≡ number_of t ∷ []) → Each IsBelow (side_pins forest b t)
  side_below false t h within m = (h, (nought, (nought, tt)))
  side_below true t h within m =
      let g = number_of t in
      let low = fork_within t within (m refl) in
      ((λ v e. asks.low g v low e), ((λ v e. asks.high g v low e), (var_below g low, tt)))

  low_side_below : (k : ℕ) (o : Bool) → k < length forest.forks → (o ≡ true → inner forest (low_of forest k) ≡ number_of (low_of forest k) ∷ []) → IsBelow (low_side forest k o) × IsForkWithin forest (low_side forest k o)
  low_side_below k false low h = ((λ v e. asks.low k v low e), low_within forest is k low)
  low_side_below k true low h =
      let g = number_of (low_of forest k) in
      let in_forest = fork_within (low_of forest k) (low_within forest is k low) (h refl) in
      ((λ v e. asks.low g v in_forest e), low_within forest is g in_forest)

  second_below : (k : ℕ) (o : Bool) → k < length forest.forks → (o ≡ true → inner forest (low_of forest k) ≡ number_of (low_of forest k) ∷ []) → IsBelow (second_pin forest o (number_of (low_of forest k)))
  second_below k false low h = nought
  second_below k true low h = var_below (number_of (low_of forest k)) (fork_within (low_of forest k) (low_within forest is k low) (h refl))

  pub pin_asks : (u : Tile) → MayStand forest u.fork u.shape → (e : Term) → Contains (pins_of forest u) e → (v : ℕ) → e ≡ term.Var v → v < w
  pin_asks u stands =
      let k = u.fork in
      let or_form = λ (e : u.shape.or_form ≡ true). (stands.or_form e).0 in
      let low_term = low_side forest k u.shape.or_form in
      let high_term = high_of forest k in
      let lows = side_pins forest u.shape.low_side low_term in
      let highs = side_pins forest u.shape.high_side high_term in
      let side = low_side_below k u.shape.or_form stands.within or_form in
      each_in IsBelow (pins_of forest u)
      (each_append IsBelow (lows ++ highs) (term.Var (var_of forest k) ∷ second_pin forest u.shape.or_form (number_of (low_of forest k)) ∷ [])
      (each_append IsBelow lows highs (side_below u.shape.low_side low_term side.0 side.1 stands.low_side)
      (side_below u.shape.high_side high_term (λ v e. asks.high k v stands.within e) (high_within forest is k stands.within) stands.high_side))
      (var_below k stands.within, (second_below k u.shape.or_form stands.within or_form, tt)))

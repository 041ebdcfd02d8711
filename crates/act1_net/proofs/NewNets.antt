-- The netlist of the kept signals keeps what each netlist does.
use Rattle.std.proofs.Common.{ℕ, suc, zero, ◌≡◌, ◌<◌, ◌≤◌, ◌+◌, ◌-◌, ◌⊎◌, ◌&&◌, ◌||◌, not, Bool, true, false, List, [], ◌∷◌, ◌++◌, length, map, replicate, take, drop, refl, sym, ap, subst, ◌∙◌, inl, inr, Option, Some, None, append_assoc, arith}
use Rattle.std.specs.Prelude.{◌==◌, Contains, if◌then◌else◌, nat_lt, nat_le, slice_get, slice_index_or, slice_range}
use Rattle.std.specs.List.{list_all, list_any}
use Rattle.std.specs.Str.{bytes_eq}
use Rattle.std.proofs.lemmas.Bool.{cases_lt, false≢true}
use Rattle.std.proofs.lemmas.List.{length-append, length-drop, length-replicate, length-take, take-append-drop}
use Rattle.std.proofs.lemmas.List.Folds.{drop_split}
use Rattle.act1_base.proofs.ListGets.{contains_at, get_in, get_map, get_mapped, get_within, place_of, some_is}
use Rattle.act1_base.specs.Names.{is_name, are_different, are_different_numbers}
use Rattle.act1_order.specs.Order.{IsOrder, StandsBefore}
use Rattle.act1_blif.specs.declared.blif.Blif.{Blif}
use Rattle.act1_blif.specs.declared.blif.Latch.{Latch}
use Rattle.act1_blif.specs.declared.blif.Node.{Node}
use Rattle.act1_blif.specs.Graph.{first_node, reads_of, signal_count}
use Rattle.act1_blif.specs.Laws.{IsWhole}
use Rattle.act1_blif.specs.Rules.{are_names, HasLevels, is_blif, is_latch, is_node, names_of, with_clock}
use Rattle.act1_net.specs.declared.gate.Gate.{Gate}
use Rattle.act1_net.specs.declared.net.NetTerm.{NetTerm}
use Rattle.act1_net.specs.declared.net.NetTerm.TheVariants as term
use Rattle.act1_net.specs.Net.{chosen, place_in}
use Rattle.act1_net.specs.Gates.{gate_with, term_of}
use Rattle.act1_net.specs.BuildSteps.{AreKeptNodes, gate_of, kept_latch, latch_marks, moved_left, name_of, node_marks, width_left, width_of}
use Rattle.act1_net.specs.KeptSteps.{IsFit}
use Rattle.act1_net.specs.PassSteps.{ArePassed}
use Rattle.act1_net.proofs.Chosen.{chosen_all, chosen_append, chosen_fewer, chosen_from, chosen_get, chosen_long, chosen_map, get_before, get_behind, place_after, place_behind, place_before, place_first, place_within}
use Rattle.act1_net.proofs.KeptNodes.{drop_get, mark_of_node}
use Rattle.act1_net.proofs.Passing.{in_left, input_before}
use Rattle.act1_net.proofs.Tests.{both, equal_is, is_equal, joined, less_is, most_down, most_is, neither, none_of_two, not_true}
use Rattle.act1_net.proofs.FitLists.{length_map}

-- names that are chosen of names

all_chosen : {X : Type 0} (p : X → Bool) (ms : List Bool) (xs : List X) → list_all p xs ≡ true → list_all p (chosen ms xs) ≡ true
all_chosen p [] xs h = refl
all_chosen p (m ∷ ms) [] h = refl
all_chosen p (true ∷ ms) (x ∷ xs) h = let parts = both (p x) (list_all p xs) h in joined (p x) (list_all p (chosen ms xs)) parts.0 (all_chosen p ms xs parts.1)
all_chosen p (false ∷ ms) (x ∷ xs) h = all_chosen p ms xs (both (p x) (list_all p xs) h).1

none_chosen : {X : Type 0} (p : X → Bool) (ms : List Bool) (xs : List X) → list_any p xs ≡ false → list_any p (chosen ms xs) ≡ false
none_chosen p [] xs h = refl
none_chosen p (m ∷ ms) [] h = refl
none_chosen p (true ∷ ms) (x ∷ xs) h = let parts = neither (p x) (list_any p xs) h in none_of_two (p x) (list_any p (chosen ms xs)) parts.0 (none_chosen p ms xs parts.1)
none_chosen p (false ∷ ms) (x ∷ xs) h = none_chosen p ms xs (neither (p x) (list_any p xs) h).1

different_chosen : (ms : List Bool) (names : List (List ℕ)) → are_different names ≡ true → are_different (chosen ms names) ≡ true
different_chosen [] names h = refl
different_chosen (m ∷ ms) [] h = refl
different_chosen (true ∷ ms) (n ∷ names) h =
    let parts = both (not (list_any (bytes_eq n) names)) (are_different names) h in
    joined (not (list_any (bytes_eq n) (chosen ms names))) (are_different (chosen ms names))
    (ap not (none_chosen (bytes_eq n) ms names (not_true (list_any (bytes_eq n) names) parts.0))) (different_chosen ms names parts.1)
different_chosen (false ∷ ms) (n ∷ names) h = different_chosen ms names (both (not (list_any (bytes_eq n) names)) (are_different names) h).1

names_chosen : (ms : List Bool) (names : List (List ℕ)) → are_names names ≡ true → are_names (chosen ms names) ≡ true
names_chosen ms names h =
    let parts = both (list_all is_name names && are_different names) (nat_le (length names) 65535) h in
    let two = both (list_all is_name names) (are_different names) parts.0 in
    joined (list_all is_name (chosen ms names) && are_different (chosen ms names)) (nat_le (length (chosen ms names)) 65535)
    (joined (list_all is_name (chosen ms names)) (are_different (chosen ms names)) (all_chosen is_name ms names two.0) (different_chosen ms names two.1))
    (most_down (length (chosen ms names)) (length names) 65535 (chosen_fewer ms names) parts.1)

clock_chosen : (clock : Option (List ℕ)) (ms : List Bool) (names : List (List ℕ)) → are_names (with_clock clock names) ≡ true → are_names (with_clock clock (chosen ms names)) ≡ true
clock_chosen None ms names h = names_chosen ms names h
clock_chosen (Some clock) ms names h = names_chosen (true ∷ ms) (clock ∷ names) h

all_from : {X : Type 0} (p : X → Bool) (xs : List X) → ((k : ℕ) (x : X) → slice_get xs k ≡ Some x → p x ≡ true) → list_all p xs ≡ true
all_from p [] h = refl
all_from p (x ∷ xs) h = joined (p x) (list_all p xs) (h 0 x refl) (all_from p xs (λ k y e. h (suc k) y e))

-- the place of a signal in an order
abbrev index_in : List ℕ → ℕ → ℕ
index_in [] s = 0
index_in (x ∷ xs) s = if x == s then 0 else suc (index_in xs s)

other_is : (x s : ℕ) → (x == s) ≡ false → x ≡ s → ⊥
other_is x s h e = false≢true (sym h ∙ is_equal x s e)

index_is : (order : List ℕ) (k s : ℕ) → slice_get order k ≡ Some s → ((i : ℕ) → slice_get order i ≡ Some s → i ≡ k) → index_in order s ≡ k
index_is [] k s is once = cc
index_is (x ∷ xs) zero s is once = let e : x ≡ s = cc in rw (is_equal x s e) refl
index_is (x ∷ xs) (suc k) s is once = by (x == s) refl (index_is xs k s is (λ i e. let f = once (suc i) e in omega arith))
  where
    by : (a : Bool) → (x == s) ≡ a → index_in xs s ≡ k → (if a then 0 else suc (index_in xs s)) ≡ suc k
    by true e rest = absurd (let f = once 0 (ap (λ (y : ℕ). let r : Option ℕ = Some y in r) (equal_is x s e)) in omega arith)
    by false e rest = ap suc rest

abbrev levels_from : List ℕ → ℕ → List Node → List ℕ
levels_from order s [] = []
levels_from order s (node ∷ nodes) = index_in order s ∷ levels_from order (suc s) nodes

level_at : (order : List ℕ) (s : ℕ) (nodes : List Node) (j : ℕ) (node : Node) → slice_get nodes j ≡ Some node → slice_get (levels_from order s nodes) j ≡ Some (index_in order (s + j))
level_at order s [] j node e = cc
level_at order s (n ∷ nodes) zero node e = let f : s + 0 ≡ s = omega arith in ap (λ (k : ℕ). let r : Option ℕ = Some (index_in order k) in r) (sym f)
level_at order s (n ∷ nodes) (suc j) node e = let f : suc s + j ≡ s + suc j = omega arith in level_at order (suc s) nodes j node e ∙ ap (λ (k : ℕ). let r : Option ℕ = Some (index_in order k) in r) f

index_get : (xs : List ℕ) (k x : ℕ) → slice_get xs k ≡ Some x → slice_index_or xs k 0 ≡ x
index_get [] k x e = cc
index_get (y ∷ xs) zero x e = some_is y x e
index_get (y ∷ xs) (suc k) x e = index_get xs k x e

-- what a mapped list has
in_map : (f : ℕ → ℕ) (xs : List ℕ) (y : ℕ) → Contains (map f xs) y → (x : ℕ) × Contains xs x × (f x ≡ y)
in_map f [] y c = absurd (omega (arith, c.1))
in_map f (x ∷ xs) y (zero, low, e) = (x, (0, omega arith, refl), e)
in_map f (x ∷ xs) y (suc k, low, e) = let (z, c, is) = in_map f xs y (k, omega arith, e) in (z, (suc c.0, let l = c.1 in omega arith, c.2), is)

front_all : (n : ℕ) (ms : List Bool) → n ≤ length ms → ((k : ℕ) → k < n → slice_get ms k ≡ Some true) → take n ms ≡ replicate n true
front_all zero ms long h = refl
front_all (suc n) [] long h = absurd (omega arith)
front_all (suc n) (m ∷ ms) long h =
    let first : m ≡ true = some_is m true (h 0 (omega arith)) in
    ap (λ (a : Bool). a ∷ take n ms) first ∙ ap (λ (ns : List Bool). true ∷ ns) (front_all n ms (omega arith) (λ k low. h (suc k) (omega arith)))

module _ (b : Blif) (whole : IsWhole b) (terms : List NetTerm) (marks : List Bool) (fit : IsFit b terms marks) where
  abbrev kept : List Bool
  kept = latch_marks b marks

  abbrev nodes_kept : List Bool
  nodes_kept = node_marks b marks

  pub split : marks ≡ replicate (length b.inputs) true ++ latch_marks b marks ++ node_marks b marks
  split =
      let all = fit.marked.all in
      sym (take-append-drop (length b.inputs) marks)
      ∙ ap (λ (ms : List Bool). ms ++ drop (length b.inputs) marks) (front_all (length b.inputs) marks (omega arith) fit.marked.inputs)
      ∙ ap (λ (ms : List Bool). replicate (length b.inputs) true ++ ms) (drop_split marks (length b.inputs) (first_node b) (omega arith))
      ∙ sym (append_assoc (replicate (length b.inputs) true) (latch_marks b marks) (node_marks b marks))

  pub kept_long : length (latch_marks b marks) ≡ length b.latches
  kept_long = let all = fit.marked.all in omega (arith, length-take (first_node b - length b.inputs) (drop (length b.inputs) marks), length-drop (length b.inputs) marks)

  pub nodes_long : length (node_marks b marks) ≡ length b.nodes
  nodes_long = let all = fit.marked.all in omega (arith, length-drop (first_node b) marks)

  front_long : length (replicate (length b.inputs) true) ≡ length b.inputs
  front_long = length-replicate (length b.inputs) true

  two_long : length (replicate (length b.inputs) true ++ kept) ≡ first_node b
  two_long = omega (arith, length-append (replicate (length b.inputs) true) kept, front_long, kept_long)

  -- what is chosen of three lists in a row
  chosen_three : {X : Type 0} (xs ys zs : List X) → length xs ≡ length b.inputs → length ys ≡ length b.latches → chosen marks (xs ++ ys ++ zs) ≡ xs ++ chosen kept ys ++ chosen nodes_kept zs
  chosen_three {X} xs ys zs e f =
      ap (λ (ms : List Bool). chosen ms (xs ++ ys ++ zs)) split
      ∙ chosen_append (replicate (length b.inputs) true ++ kept) nodes_kept (xs ++ ys) zs (let l = two_long in omega (arith, length-append xs ys))
      ∙ ap (λ (us : List X). us ++ chosen nodes_kept zs) (chosen_append (replicate (length b.inputs) true) kept xs ys (let l = front_long in omega arith) ∙ ap (λ (us : List X). us ++ chosen kept ys) (chosen_all (length b.inputs) xs e))

  abbrev latch_count : ℕ
  latch_count = length (chosen kept b.latches)

  -- the new number of a node
  pub node_place : (j : ℕ) → place_in marks (first_node b + j) ≡ length b.inputs + length (chosen (latch_marks b marks) b.latches) + place_in (node_marks b marks) j
  node_place j =
      ap (λ (ms : List Bool). place_in ms (first_node b + j)) (split ∙ append_assoc (replicate (length b.inputs) true) kept nodes_kept)
      ∙ place_after (length b.inputs) (kept ++ nodes_kept) (length kept + j) (first_node b + j) whole_is
      ∙ ap (λ (k : ℕ). length b.inputs + k) (place_behind kept nodes_kept b.latches j (length kept + j) kept_long refl)
      ∙ sum
    where
      whole_is : first_node b + j ≡ length b.inputs + (length kept + j)
      whole_is = let l = kept_long in omega arith

      sum : length b.inputs + (length (chosen kept b.latches) + place_in nodes_kept j) ≡ length b.inputs + length (chosen kept b.latches) + place_in nodes_kept j
      sum = omega arith

  -- the new number of an input, and of a latch
  pub input_place : (s : ℕ) → s < length b.inputs → place_in marks s ≡ s
  input_place s low = ap (λ (ms : List Bool). place_in ms s) (split ∙ append_assoc (replicate (length b.inputs) true) kept nodes_kept) ∙ place_first (length b.inputs) (kept ++ nodes_kept) s low

  pub latch_place : (k : ℕ) → k < length b.latches → place_in marks (length b.inputs + k) ≡ length b.inputs + place_in (latch_marks b marks) k
  latch_place k low =
      ap (λ (ms : List Bool). place_in ms (length b.inputs + k)) (split ∙ append_assoc (replicate (length b.inputs) true) kept nodes_kept)
      ∙ place_after (length b.inputs) (kept ++ nodes_kept) k (length b.inputs + k) refl
      ∙ ap (λ (i : ℕ). length b.inputs + i) (place_before kept nodes_kept k (let l = kept_long in omega arith))

  -- the mark of a kept latch
  pub mark_of_latch : (k : ℕ) → k < length b.latches → slice_get marks (length b.inputs + k) ≡ Some true → slice_get (latch_marks b marks) k ≡ Some true
  mark_of_latch k low mark =
      let n = front_long in let l = kept_long in let t = two_long in
      sym (get_behind (replicate (length b.inputs) true) kept k (length b.inputs + k) (omega arith))
      ∙ sym (get_before (replicate (length b.inputs) true ++ kept) nodes_kept (length b.inputs + k) (omega arith))
      ∙ ap (λ (ms : List Bool). slice_get ms (length b.inputs + k)) (sym split) ∙ mark

  -- a kept signal with the number of a node is a node
  node_from : (u i : ℕ) → slice_get marks u ≡ Some true → place_in marks u ≡ length b.inputs + latch_count + i → (j : ℕ) × (u ≡ first_node b + j) × (place_in nodes_kept j ≡ i)
  node_from u i m e = by (cases_lt u (first_node b))
    where
      front : (u < length b.inputs) ⊎ (length b.inputs ≤ u) → u < first_node b → ⊥
      front (inl low) f = let p = input_place u low in absurd (omega arith)
      front (inr high) f =
          let k : ℕ = u - length b.inputs in
          let is : u ≡ length b.inputs + k = omega arith in
          let p = ap (place_in marks) is ∙ latch_place k (omega arith) in
          let n = place_within kept b.latches k (mark_of_latch k (omega arith) (sym (ap (slice_get marks) is) ∙ m)) (let l = kept_long in omega arith) in
          absurd (omega arith)

      by : (u < first_node b) ⊎ (first_node b ≤ u) → (j : ℕ) × (u ≡ first_node b + j) × (place_in nodes_kept j ≡ i)
      by (inl low) = absurd (front (cases_lt u (length b.inputs)) low)
      by (inr high) =
          let j : ℕ = u - first_node b in
          let is : u ≡ first_node b + j = omega arith in
          let p = ap (place_in marks) is ∙ node_place j in
          (j, is, omega arith)

  module _ (clock : Option (List ℕ)) (inputs : List (List ℕ)) (latches : List Latch) (nodes : List Node)
      (clock_is : clock ≡ b.clock) (inputs_are : inputs ≡ b.inputs) (latches_are : latches ≡ chosen (latch_marks b marks) (map kept_latch b.latches)) (nodes_are : AreKeptNodes terms marks (node_marks b marks) b.nodes nodes) where
    pub latches_long : length latches ≡ length (chosen (latch_marks b marks) b.latches)
    latches_long = ap (λ (ls : List Latch). length ls) latches_are ∙ chosen_long kept (map kept_latch b.latches) b.latches (length_map kept_latch b.latches)

    nodes_count : length nodes ≡ length (chosen nodes_kept b.nodes)
    nodes_count = sym (length_map name_of nodes) ∙ ap (λ (ns : List (List ℕ)). length ns) nodes_are.names ∙ chosen_long nodes_kept (map name_of b.nodes) b.nodes (length_map name_of b.nodes)

    abbrev latch_name : Latch → List ℕ
    latch_name latch = latch.name

    map_both : (ls : List Latch) → map latch_name (map kept_latch ls) ≡ map latch_name ls
    map_both [] = refl
    map_both (l ∷ ls) = ap (λ (ns : List (List ℕ)). l.name ∷ ns) (map_both ls)

    -- the names of the kept signals
    names_are : names_of inputs latches nodes ≡ chosen marks (names_of b.inputs b.latches b.nodes)
    names_are =
        ap (λ (ns : List (List ℕ)). ns ++ map latch_name latches ++ map name_of nodes) inputs_are
        ∙ ap (λ (ns : List (List ℕ)). b.inputs ++ ns ++ map name_of nodes)
        (ap (map latch_name) latches_are ∙ sym (chosen_map latch_name kept (map kept_latch b.latches)) ∙ ap (chosen kept) (map_both b.latches))
        ∙ ap (λ (ns : List (List ℕ)). b.inputs ++ chosen kept (map latch_name b.latches) ++ ns) nodes_are.names
        ∙ sym (chosen_three b.inputs (map latch_name b.latches) (map name_of b.nodes) refl (length_map latch_name b.latches))

    -- how many there are
    pub count_is : length inputs + length latches + length nodes ≡ length (chosen marks (names_of b.inputs b.latches b.nodes))
    count_is =
        let l = ap (λ (ns : List (List ℕ)). length ns) names_are in
        omega (arith, length-append (inputs ++ map latch_name latches) (map name_of nodes), length-append inputs (map latch_name latches), length_map latch_name latches, length_map name_of nodes)

    names_long : length (names_of b.inputs b.latches b.nodes) ≡ signal_count b
    names_long = omega (arith, length-append (b.inputs ++ map latch_name b.latches) (map name_of b.nodes), length-append b.inputs (map latch_name b.latches), length_map latch_name b.latches, length_map name_of b.nodes)

    -- the new number of a kept signal is one of them
    pub place_low : (u : ℕ) → slice_get marks u ≡ Some true → place_in marks u < length inputs + length latches + length nodes
    place_low u m =
        let c = count_is in let n = names_long in let all = fit.marked.all in
        let l = place_within marks (names_of b.inputs b.latches b.nodes) u m (omega arith) in omega arith

    names_fine : are_names (with_clock clock (names_of inputs latches nodes)) ≡ true
    names_fine =
        ap (λ (c : Option (List ℕ)). are_names (with_clock c (names_of inputs latches nodes))) clock_is
        ∙ ap (λ (ns : List (List ℕ)). are_names (with_clock b.clock ns)) names_are
        ∙ clock_chosen b.clock marks (names_of b.inputs b.latches b.nodes) whole.names

    latch_fine : (k : ℕ) (latch : Latch) → slice_get latches k ≡ Some latch → is_latch (length inputs + length latches + length nodes) latch ≡ true
    latch_fine k latch is =
        let low = get_within latches k latch is in
        let (j, m, at, place) = chosen_from kept (map kept_latch b.latches) k latch (ap (λ (ls : List Latch). slice_get ls k) (sym latches_are) ∙ is) in
        let (old, there, e) = get_mapped kept_latch b.latches j latch at in
        let init = whole.inits j old there in
        joined (nat_lt latch.input (length inputs + length latches + length nodes)) (nat_le latch.init 3)
        (ap (λ (l : Latch). nat_lt l.input (length inputs + length latches + length nodes)) (sym e) ∙ less_is 0 (length inputs + length latches + length nodes) (omega arith))
        (ap (λ (l : Latch). nat_le l.init 3) (sym e) ∙ most_is old.init 3 init)

    -- where a node comes from
    pub record IsFrom (i : ℕ) (node : Node) : Type 0 where
      pub number : ℕ
      pub old : Node
      pub there : slice_get b.nodes number ≡ Some old
      pub mark : slice_get (node_marks b marks) number ≡ Some true
      pub place : place_in (node_marks b marks) number ≡ i
      pub gate_is : gate_of node ≡ moved_left terms marks old
      pub width_is : node.cover.width ≡ length (gate_with terms old).inputs

    pub from_old : (i : ℕ) (node : Node) → slice_get nodes i ≡ Some node → IsFrom i node
    from_old i node is =
        let (j, m, at, place) = chosen_from nodes_kept (map (moved_left terms marks) b.nodes) i (gate_of node) (ap (λ (gs : List Gate). slice_get gs i) (sym nodes_are.gates) ∙ get_map gate_of nodes i node is) in
        let (old, there, e) = get_mapped (moved_left terms marks) b.nodes j (gate_of node) at in
        let width = chosen_get nodes_kept (map (width_left terms) b.nodes) j (width_left terms old) m (get_map (width_left terms) b.nodes j old there) in
        let width_here : slice_get (map width_of nodes) i ≡ Some (width_left terms old) =
        ap (λ (ws : List ℕ). slice_get ws i) nodes_are.widths ∙ ap (slice_get (chosen nodes_kept (map (width_left terms) b.nodes))) (sym place) ∙ width in
        record {
          number = j;
          old = old;
          there = there;
          mark = m;
          place = place;
          gate_is = sym e;
          width_is = some_is node.cover.width (width_left terms old) (sym (get_map width_of nodes i node is) ∙ width_here);
        }

    -- an input of a kept node is the new number of a signal that is left of the old one's inputs
    pub input_from : (i : ℕ) (node : Node) (f : IsFrom i node) (s : ℕ) → Contains node.inputs s → (u : ℕ) × Contains (gate_with terms f.old).inputs u × (place_in marks u ≡ s) × (slice_get marks u ≡ Some true)
    input_from i node f s c =
        let (u, d, e) = in_map (place_in marks) (gate_with terms f.old).inputs s (subst (λ (g : Gate). Contains g.inputs s) f.gate_is c) in
        (u, d, e, fit.marked.nodes f.number u f.old f.there (mark_of_node b marks f.number true f.mark) d)

    node_fine : (i : ℕ) (node : Node) → slice_get nodes i ≡ Some node → is_node (length inputs + length latches + length nodes) node ≡ true
    node_fine i node is =
        let f = from_old i node is in
        let same : length node.inputs ≡ length (gate_with terms f.old).inputs = ap (λ (g : Gate). length g.inputs) f.gate_is ∙ length_map (place_in marks) (gate_with terms f.old).inputs in
        let wide = f.width_is in
        joined (node.cover.width == length node.inputs) (list_all (λ s. nat_lt s (length inputs + length latches + length nodes)) node.inputs)
        (is_equal node.cover.width (length node.inputs) (omega arith))
        (all_from (λ s. nat_lt s (length inputs + length latches + length nodes)) node.inputs
        (λ k s at. let (u, d, e, m) = input_from i node f s (contains_at node.inputs k s at) in
        let low = place_low u m in less_is s (length inputs + length latches + length nodes) (omega arith)))

    pub is_valid : (model : List ℕ) → model ≡ b.model → is_blif model clock inputs latches nodes [] ≡ true
    is_valid model model_is =
        joined _ _
        (joined _ _
        (joined _ _
        (joined (is_name model) (are_names (with_clock clock (names_of inputs latches nodes))) (ap is_name model_is ∙ whole.model) names_fine)
        (all_from (is_latch (length inputs + length latches + length nodes)) latches latch_fine))
        (all_from (is_node (length inputs + length latches + length nodes)) nodes node_fine))
        refl

    -- each node stands in the order after those that it reads
    pub has_levels : HasLevels inputs latches nodes
    has_levels = record { levels = chosen nodes_kept (levels_from fit.order (first_node b) b.nodes); above = above }
      where
        level_is : (j : ℕ) (old : Node) → slice_get b.nodes j ≡ Some old → slice_get nodes_kept j ≡ Some true
            → slice_index_or (chosen nodes_kept (levels_from fit.order (first_node b) b.nodes)) (place_in nodes_kept j) 0 ≡ index_in fit.order (first_node b + j)
        level_is j old there m = index_get (chosen nodes_kept (levels_from fit.order (first_node b) b.nodes)) (place_in nodes_kept j) (index_in fit.order (first_node b + j)) (chosen_get nodes_kept (levels_from fit.order (first_node b) b.nodes) j (index_in fit.order (first_node b + j)) m (level_at fit.order (first_node b) b.nodes j old there))

        at : (k s : ℕ) → slice_get fit.order k ≡ Some s → index_in fit.order s ≡ k
        at k s is = index_is fit.order k s is (λ i e. fit.is_order.once i k s e is)

        lower : (j : ℕ) (old : Node) (u : ℕ) → slice_get b.nodes j ≡ Some old → Contains (gate_with terms old).inputs u → index_in fit.order u < index_in fit.order (first_node b + j)
        lower j old u there c =
            let low = get_within b.nodes j old there in
            let all = whole.all in
            let p = place_of fit.order (first_node b + j) (fit.is_order.there (first_node b + j) (omega arith)) in
            let (w, d, e) = in_left terms old.inputs u c in
            let stand = input_before b whole fit.order fit.is_order p.0 j w old p.1 there d in
            let first = fit.passed.early stand.place w u stand.there e in
            let x = at p.0 (first_node b + j) p.1 in let y = at first.place u first.there in
            let early = first.before in let late = stand.before in omega arith

        above : (i k : ℕ) (node : Node) → slice_get nodes i ≡ Some node → Contains node.inputs (length inputs + length latches + k)
            → slice_index_or (chosen nodes_kept (levels_from fit.order (first_node b) b.nodes)) k 0 < slice_index_or (chosen nodes_kept (levels_from fit.order (first_node b) b.nodes)) i 0
        above i k node is c =
            let f = from_old i node is in
            let (u, d, e, m) = input_from i node f (length inputs + length latches + k) c in
            let ll = latches_long in
            let il = ap (λ (ns : List (List ℕ)). length ns) inputs_are in
            let (j, u_is, place) = node_from u k m (omega arith) in
            let high = get_in b.nodes j (low_node j u_is m) in
            let mine = level_is f.number f.old f.there f.mark in
            let other = level_is j high.0 high.1 (mark_here j u_is m) in
            let less = lower f.number f.old u f.there d in
            subst (λ (x : ℕ). slice_index_or (chosen nodes_kept (levels_from fit.order (first_node b) b.nodes)) x 0 < slice_index_or (chosen nodes_kept (levels_from fit.order (first_node b) b.nodes)) i 0) place
            (subst (λ (x : ℕ). slice_index_or (chosen nodes_kept (levels_from fit.order (first_node b) b.nodes)) (place_in nodes_kept j) 0 < slice_index_or (chosen nodes_kept (levels_from fit.order (first_node b) b.nodes)) x 0) f.place
            (let less_here : index_in fit.order (first_node b + j) < index_in fit.order (first_node b + f.number) = subst (λ (x : ℕ). index_in fit.order x < index_in fit.order (first_node b + f.number)) u_is less in omega arith))
          where
            low_node : (j : ℕ) {u : ℕ} → u ≡ first_node b + j → slice_get marks u ≡ Some true → j < length b.nodes
            low_node j {u} e m = let l = get_within marks u true m in let all = fit.marked.all in omega arith

            mark_here : (j : ℕ) {u : ℕ} → u ≡ first_node b + j → slice_get marks u ≡ Some true → slice_get nodes_kept j ≡ Some true
            mark_here j {u} e m = drop_get marks (first_node b) j (first_node b + j) refl ∙ ap (slice_get marks) (sym e) ∙ m

-- The net of the kept signals is a clean one of the netlist.
use Rattle.std.proofs.Common.{ℕ, suc, zero, ◌≡◌, ◌<◌, ◌≤◌, ◌+◌, ◌*◌, ◌⊎◌, ◌&&◌, ◌||◌, not, eqb, Bool, true, false, List, [], ◌∷◌, ◌++◌, length, map, refl, sym, ap, subst, ◌∙◌, inl, inr, Option, Some, None, arith}
use Rattle.std.specs.Prelude.{◌==◌, ◌^◌, Contains, Err, IfOk, nat_le, nat_lt, Ok, Result, slice_get, sum_by}
use Rattle.std.specs.List.{list_all, list_any}
use Rattle.std.proofs.lemmas.Bool.{false≢true}
use Rattle.std.proofs.lemmas.List.Sums.{sum_by-cons}
use Rattle.act1_base.proofs.ListGets.{contains_at, get_in, get_map, get_mapped, get_within, place_of, some_is}
use Rattle.act1_logic.specs.declared.cover.Cover.{Cover}
use Rattle.act1_logic.specs.declared.cover.Mark.TheVariants as mark
use Rattle.act1_logic.specs.declared.cover.Row.{Row}
use Rattle.act1_logic.specs.Rows.{literals_of}
use Rattle.act1_blif.specs.declared.blif.Blif.{Blif}
use Rattle.act1_blif.specs.declared.blif.Latch.{Latch}
use Rattle.act1_blif.specs.declared.blif.Node.{Node}
use Rattle.act1_blif.specs.Graph.{first_node, signal_count}
use Rattle.act1_blif.specs.Laws.{EachHasOneValuation, IsWhole}
use Rattle.act1_blif.specs.Need.{need}
use Rattle.act1_net.specs.declared.gate.Gate.{Gate}
use Rattle.act1_net.specs.declared.net.Net.{Net}
use Rattle.act1_net.specs.declared.net.NetTerm.{NetTerm}
use Rattle.act1_net.specs.declared.net.NetTerm.TheVariants as term
use Rattle.act1_net.specs.Net.{AreAlike, AreWithin, chosen, has_literal, IsCleanOf, IsCopy, IsLean, IsNetOf, IsRead, place_in, row_of}
use Rattle.act1_net.specs.Gates.{gate_with, is_copy, row_left, settled, term_of}
use Rattle.act1_net.specs.MarkSteps.{signals_left}
use Rattle.act1_net.specs.BuildSteps.{gate_of, IsKeptNet, kept_latch, latch_marks, moved_left, moved_term, name_of, next_term, node_marks}
use Rattle.act1_net.specs.CutSteps.{IsCutNet}
use Rattle.act1_net.specs.KeptSteps.{IsFit, IsReadLeft}
use Rattle.act1_net.proofs.Chosen.{chosen_fewer, chosen_from, chosen_get, chosen_long, chosen_map, place_rises}
use Rattle.act1_net.proofs.GateValues.{IsUnsettled, unsettled}
use Rattle.act1_net.proofs.KeptNodes.{mark_back, mark_of_node}
use Rattle.act1_net.proofs.LeftCovers.{fewer_literals}
use Rattle.act1_net.proofs.NewNets.{from_old, input_place, IsFrom, kept_long, latch_place, latches_long, mark_of_latch, node_place, nodes_long, place_low, split}
use Rattle.act1_net.proofs.Passing.{in_left}
use Rattle.act1_net.proofs.Tests.{both, equal_is, not_false}
use Rattle.act1_net.proofs.Showing.{mark_kept, shows_only, shows_same}
use Rattle.act1_net.proofs.FitLists.{length_map}

-- sums over what is chosen
sum_map : {X Y : Type 0} (f : Y → ℕ) (g : X → Y) (xs : List X) → sum_by f (map g xs) ≡ sum_by (λ x. f (g x)) xs
sum_map f g [] = refl
sum_map f g (x ∷ xs) = let r = sum_map f g xs in let a = sum_by-cons f (g x) (map g xs) in let b = sum_by-cons (λ y. f (g y)) x xs in omega arith

sum_chosen : {X : Type 0} (f g : X → ℕ) (ms : List Bool) (xs : List X) → ((x : X) → f x ≤ g x) → sum_by f (chosen ms xs) ≤ sum_by g xs
sum_chosen f g [] xs h = omega arith
sum_chosen f g (m ∷ ms) [] h = omega arith
sum_chosen f g (true ∷ ms) (x ∷ xs) h = let r = sum_chosen f g ms xs h in let a = sum_by-cons f x (chosen ms xs) in let b = sum_by-cons g x xs in let l = h x in omega arith
sum_chosen f g (false ∷ ms) (x ∷ xs) h = let r = sum_chosen f g ms xs h in let b = sum_by-cons g x xs in omega arith

none_at : {X : Type 0} (p : X → Bool) (xs : List X) (i : ℕ) (x : X) → list_any p xs ≡ false → slice_get xs i ≡ Some x → p x ≡ false
none_at p [] i x h e = cc
none_at p (y ∷ xs) zero x h e = by (p y) refl h
  where
    by : (a : Bool) → p y ≡ a → (a || list_any p xs) ≡ false → p x ≡ false
    by false f g = ap p (sym (some_is y x e)) ∙ f
    by true f g = absurd (false≢true (sym g))
none_at p (y ∷ xs) (suc i) x h e = by (p y) h (λ g. none_at p xs i x g e)
  where
    by : (a : Bool) → (a || list_any p xs) ≡ false → (list_any p xs ≡ false → p x ≡ false) → p x ≡ false
    by false g rest = rest g
    by true g rest = absurd (false≢true (sym g))

in_mapped : (f : ℕ → ℕ) (xs : List ℕ) (x : ℕ) → Contains xs x → Contains (map f xs) (f x)
in_mapped f [] x c = absurd (omega (arith, c.1))
in_mapped f (y ∷ xs) x (zero, low, e) = (0, omega arith, ap f e)
in_mapped f (y ∷ xs) x (suc k, low, e) = let r = in_mapped f xs x (k, omega arith, e) in (suc r.0, let l = r.1 in omega arith, r.2)

-- a row of one mark makes a width of one
one_wide : (cover : Cover) (row : Row) → length row.marks ≡ 1 → cover.rows ≡ row ∷ [] → cover.width ≡ 1
one_wide cover row one is =
    let p = both _ (cover.output || nat_lt 0 (length cover.rows)) cover.valid in
    let q = both _ (nat_lt (sum_by (λ (r : Row). length r.marks) cover.rows) (2 ^ 32)) p.0 in
    let r = both (nat_le cover.width 64) (list_all (λ (w : Row). length w.marks == cover.width) cover.rows) q.0 in
    let all = subst (λ (rows : List Row). list_all (λ (w : Row). length w.marks == cover.width) rows ≡ true) is r.1 in
    let e = equal_is (length row.marks) cover.width (both (length row.marks == cover.width) true all).0 in
    omega arith

module _ (b : Blif) (whole : IsWhole b) (terms : List NetTerm) (marks : List Bool) (fit : IsFit b terms marks) (net : Net) (built : IsKeptNet b terms marks net) where
  cut : IsCutNet b terms marks (latch_marks b marks) (node_marks b marks) net
  cut = record {
    split = split b whole terms marks fit;
    kept_long = kept_long b whole terms marks fit;
    nodes_long = nodes_long b whole terms marks fit;
    meant = fit.passed.meant;
    marked = fit.marked;
    inputs = built.part.inputs;
    latches = built.part.latches;
    gates = built.part.nodes.gates;
    outputs = built.outputs;
    next = built.next;
  }

  low : (u : ℕ) → slice_get marks u ≡ Some true → place_in marks u < signal_count net.blif
  low u m = place_low b whole terms marks fit net.blif.clock net.blif.inputs net.blif.latches net.blif.nodes built.part.clock built.part.inputs built.part.latches built.part.nodes u m

  from : (i : ℕ) (node : Node) → slice_get net.blif.nodes i ≡ Some node → IsFrom b whole terms marks fit net.blif.clock net.blif.inputs net.blif.latches net.blif.nodes built.part.clock built.part.inputs built.part.latches built.part.nodes i node
  from i node is = from_old b whole terms marks fit net.blif.clock net.blif.inputs net.blif.latches net.blif.nodes built.part.clock built.part.inputs built.part.latches built.part.nodes i node is

  latch_count : length net.blif.latches ≡ length (chosen (latch_marks b marks) b.latches)
  latch_count = ap (λ (ls : List Latch). length ls) built.part.latches ∙ chosen_long (latch_marks b marks) (map kept_latch b.latches) b.latches (length_map kept_latch b.latches)

  -- what stands among the outputs, and among what latches take
  output_at : (o s : ℕ) → slice_get b.outputs o ≡ Some s → slice_get net.outputs o ≡ Some (moved_term marks (term_of terms s))
  output_at o s is = ap (λ (ts : List NetTerm). slice_get ts o) built.outputs ∙ get_map (moved_term marks) (map (term_of terms) b.outputs) o (term_of terms s) (get_map (term_of terms) b.outputs o s is)

  moved_from : (t : NetTerm) (s : ℕ) → moved_term marks t ≡ term.Signal s → (u : ℕ) × (t ≡ term.Signal u) × (place_in marks u ≡ s)
  moved_from term.Zero s e = cc
  moved_from term.One s e = cc
  moved_from (term.Signal u) s e = (u, refl, (let is : place_in marks u ≡ s = cc in is))

  outputs_within : AreWithin (signal_count net.blif) net.outputs
  outputs_within k s is =
      let (t, at, e) = get_mapped (moved_term marks) (map (term_of terms) b.outputs) k (term.Signal s) (ap (λ (ts : List NetTerm). slice_get ts k) (sym built.outputs) ∙ is) in
      let (o, there, f) = get_mapped (term_of terms) b.outputs k t at in
      let (u, t_is, place) = moved_from t s e in
      subst (λ (x : ℕ). x < signal_count net.blif) place (low u (fit.marked.outputs k o u there (f ∙ t_is)))

  mark_latch : (k : ℕ) → slice_get (latch_marks b marks) k ≡ Some true → slice_get marks (length b.inputs + k) ≡ Some true
  mark_latch k m = mark_kept b terms marks (latch_marks b marks) (node_marks b marks) net cut k m

  next_within : AreWithin (signal_count net.blif) net.next
  next_within i s is =
      let (k, m, at, place_is) = chosen_from (latch_marks b marks) (map (next_term terms marks) b.latches) i (term.Signal s) (ap (λ (ts : List NetTerm). slice_get ts i) (sym built.next) ∙ is) in
      let (latch, there, e) = get_mapped (next_term terms marks) b.latches k (term.Signal s) at in
      let (u, t_is, place) = moved_from (term_of terms latch.input) s e in
      subst (λ (x : ℕ). x < signal_count net.blif) place (low u (fit.marked.latches k u latch there (mark_latch k m) t_is))

  abbrev latch_name : Latch → List ℕ
  latch_name latch = latch.name

  abbrev latch_init : Latch → ℕ
  latch_init latch = latch.init

  same_latches : {X : Type 0} (f : Latch → X) → ((latch : Latch) → f (kept_latch latch) ≡ f latch) → (ls : List Latch) → map f (map kept_latch ls) ≡ map f ls
  same_latches f h [] = refl
  same_latches {X} f h (l ∷ ls) = ap (λ (x : X). x ∷ map f (map kept_latch ls)) (h l) ∙ ap (λ (xs : List X). f l ∷ xs) (same_latches f h ls)

  latches_by : {X : Type 0} (f : Latch → X) → ((latch : Latch) → f (kept_latch latch) ≡ f latch) → map f net.blif.latches ≡ chosen (latch_marks b marks) (map f b.latches)
  latches_by f h = ap (map f) built.part.latches ∙ sym (chosen_map f (latch_marks b marks) (map kept_latch b.latches)) ∙ ap (chosen (latch_marks b marks)) (same_latches f h b.latches)

  is_net : EachHasOneValuation → IsNetOf b (latch_marks b marks) net
  is_net one = record {
    outputs = ap (λ (ts : List NetTerm). length ts) built.outputs ∙ length_map (moved_term marks) (map (term_of terms) b.outputs) ∙ length_map (term_of terms) b.outputs
        ∙ sym (ap (λ (ns : List (List ℕ)). length ns) built.names ∙ length_map _ b.outputs);
    next = ap (λ (ts : List NetTerm). length ts) built.next ∙ chosen_long (latch_marks b marks) (map (next_term terms marks) b.latches) b.latches (length_map (next_term terms marks) b.latches) ∙ sym latch_count;
    outputs_within = outputs_within;
    next_within = next_within;
    clock = built.part.clock;
    inputs = built.part.inputs;
    names = built.names;
    each = kept_long b whole terms marks fit;
    latch_names = latches_by latch_name (λ latch. refl);
    latch_inits = latches_by latch_init (λ latch. refl);
    shows = λ q xs shown long. (
      shows_only b terms marks (latch_marks b marks) (node_marks b marks) net cut one q xs shown long,
      shows_same b terms marks (latch_marks b marks) (node_marks b marks) net cut q xs shown,
    );
  }

  abbrev literals : Node → ℕ
  literals node = literals_of node.cover.rows

  abbrev gate_literals : Gate → ℕ
  gate_literals gate = literals_of gate.rows

  no_larger : need net.blif ≤ need b
  no_larger =
      let whole_sum : sum_by literals net.blif.nodes ≡ sum_by gate_literals (map (moved_left terms marks) (chosen (node_marks b marks) b.nodes)) =
      sym (sum_map gate_literals gate_of net.blif.nodes) ∙ ap (sum_by gate_literals) (built.part.nodes.gates ∙ chosen_map (moved_left terms marks) (node_marks b marks) b.nodes) in
      let mapped = sum_map gate_literals (moved_left terms marks) (chosen (node_marks b marks) b.nodes) in
      let fewer = sum_chosen (λ (node : Node). gate_literals (moved_left terms marks node)) literals (node_marks b marks) b.nodes (λ node. fewer_literals (map (term_of terms) node.inputs) node.cover.rows) in
      let latches = chosen_fewer (latch_marks b marks) b.latches in
      let count = latch_count in
      omega arith

  -- a kept node is read
  read : (j : ℕ) → j < length net.blif.nodes → IsRead net (first_node net.blif + j)
  read j within = by_node (get_in net.blif.nodes j within)
    where
      by_node : (node : Node) × (slice_get net.blif.nodes j ≡ Some node) → IsRead net (first_node net.blif + j)
      by_node (node, is) = by (fit.marked.read s m (omega arith))
        where
          f : IsFrom b whole terms marks fit net.blif.clock net.blif.inputs net.blif.latches net.blif.nodes built.part.clock built.part.inputs built.part.latches built.part.nodes j node
          f = from j node is

          s : ℕ
          s = first_node b + f.number

          m : slice_get marks (first_node b + f.number) ≡ Some true
          m = mark_of_node b marks f.number true f.mark

          number_is : place_in marks (first_node b + f.number) ≡ first_node net.blif + j
          number_is =
              let p = node_place b whole terms marks fit f.number in let q = f.place in let c = latch_count in
              let i = ap (λ (ns : List (List ℕ)). length ns) built.part.inputs in omega arith

          signal_is : (t : NetTerm) → t ≡ term.Signal (first_node b + f.number) → moved_term marks t ≡ term.Signal (first_node net.blif + j)
          signal_is t e = ap (moved_term marks) e ∙ ap term.Signal number_is

          output : Contains (signals_left terms b.outputs) (first_node b + f.number) → Contains net.outputs (term.Signal (first_node net.blif + j))
          output c =
              let (o, d, e) = in_left terms b.outputs (first_node b + f.number) c in
              let p = place_of b.outputs o d in
              contains_at net.outputs p.0 (term.Signal (first_node net.blif + j)) (output_at p.0 o p.1 ∙ ap (λ (t : NetTerm). let r : Option NetTerm = Some t in r) (signal_is (term_of terms o) e))

          only : (x w : ℕ) → Contains (x ∷ []) w → x ≡ w
          only x w (zero, l, e) = e
          only x w (suc k, l, e) = absurd (omega arith)

          latch_next : (k : ℕ) (latch : Latch) → slice_get b.latches k ≡ Some latch → slice_get marks (length b.inputs + k) ≡ Some true → Contains (signals_left terms (latch.input ∷ [])) (first_node b + f.number) → Contains net.next (term.Signal (first_node net.blif + j))
          latch_next k latch there mk c =
              let (w, d, e) = in_left terms (latch.input ∷ []) (first_node b + f.number) c in
              let input : term_of terms latch.input ≡ term.Signal (first_node b + f.number) = ap (term_of terms) (only latch.input w d) ∙ e in
              contains_at net.next (place_in (latch_marks b marks) k) (term.Signal (first_node net.blif + j))
              (ap (λ (ts : List NetTerm). slice_get ts (place_in (latch_marks b marks) k)) built.next
              ∙ chosen_get (latch_marks b marks) (map (next_term terms marks) b.latches) k (next_term terms marks latch)
              (mark_of_latch b whole terms marks fit k (get_within b.latches k latch there) mk) (get_map (next_term terms marks) b.latches k latch there)
              ∙ ap (λ (t : NetTerm). let r : Option NetTerm = Some t in r) (signal_is (term_of terms latch.input) input))

          node_input : (i : ℕ) (reader : Node) → slice_get b.nodes i ≡ Some reader → slice_get marks (first_node b + i) ≡ Some true → Contains (signals_left terms reader.inputs) (first_node b + f.number)
              → (k : ℕ) × (new : Node) × (slice_get net.blif.nodes k ≡ Some new) × Contains new.inputs (first_node net.blif + j)
          node_input i reader there mk c =
              let kept = sym (mark_back b marks i) ∙ mk in
              let at = ap (λ (gs : List Gate). slice_get gs (place_in (node_marks b marks) i)) built.part.nodes.gates
              ∙ chosen_get (node_marks b marks) (map (moved_left terms marks) b.nodes) i (moved_left terms marks reader) kept (get_map (moved_left terms marks) b.nodes i reader there) in
              let (new, here, gate_is) = get_mapped gate_of net.blif.nodes (place_in (node_marks b marks) i) (moved_left terms marks reader) at in (
                place_in (node_marks b marks) i,
                new,
                here,
                subst (λ (g : Gate). Contains g.inputs (first_node net.blif + j)) (sym gate_is)
                    (subst (λ (x : ℕ). Contains (map (place_in marks) (gate_with terms reader).inputs) x) number_is (in_mapped (place_in marks) (gate_with terms reader).inputs (first_node b + f.number) c)),
              )

          by : IsReadLeft b terms marks (first_node b + f.number) → IsRead net (first_node net.blif + j)
          by (inl c) = inl (output c)
          by (inr (inl (k, latch, there, mk, c))) = inr (inl (latch_next k latch there mk c))
          by (inr (inr (i, reader, there, mk, c))) = inr (inr (node_input i reader there mk c))

  -- a kept node is lean
  lean : (j : ℕ) (node : Node) → slice_get net.blif.nodes j ≡ Some node → IsLean node.cover
  lean j node is = record {
    rows = subst (λ (rows : List Row). 0 < length rows) (sym rows_are) un.rows;
    literals = λ i row at. not_false (has_literal row) (none_at (λ (r : Row). not (has_literal r)) (gate_with terms f.old).rows i row un.literals (ap (λ (rows : List Row). slice_get rows i) (sym rows_are) ∙ at));
    own = copy;
  }
    where
      f : IsFrom b whole terms marks fit net.blif.clock net.blif.inputs net.blif.latches net.blif.nodes built.part.clock built.part.inputs built.part.latches built.part.nodes j node
      f = from j node is

      un : IsUnsettled (gate_with terms f.old)
      un = unsettled (gate_with terms f.old) (fit.passed.lean f.number f.old f.there (fit.marked.own (first_node b + f.number) (mark_of_node b marks f.number true f.mark)))

      rows_are : node.cover.rows ≡ (gate_with terms f.old).rows
      rows_are = ap (λ (g : Gate). g.rows) f.gate_is

      output_is : node.cover.output ≡ (gate_with terms f.old).output
      output_is = ap (λ (g : Gate). g.output) f.gate_is

      never : (row : Row) → length row.marks ≡ 1 → node.cover.rows ≡ row ∷ [] → is_copy node.cover.output node.cover.rows ≡ true → ⊥
      never row one rows copied =
          let none = un.own (ap (λ (o : Bool). is_copy o (gate_with terms f.old).rows) (sym output_is) ∙ ap (is_copy node.cover.output) (sym rows_are) ∙ copied) in
          let wide = one_wide node.cover row one rows in
          let same = f.width_is in
          absurd (omega arith)

      copy : IsCopy node.cover → ⊥
      copy (inl (o, r)) = never (row_of mark.One) refl r (ap (λ (a : Bool). is_copy a node.cover.rows) o ∙ ap (is_copy true) r)
      copy (inr (o, r)) = never (row_of mark.Zero) refl r (ap (λ (a : Bool). is_copy a node.cover.rows) o ∙ ap (is_copy false) r)

  -- numbers of kept signals that are the same are of the same signals
  same_signals : (xs ys : List ℕ) → ((x : ℕ) → Contains xs x → slice_get marks x ≡ Some true) → ((y : ℕ) → Contains ys y → slice_get marks y ≡ Some true) → map (place_in marks) xs ≡ map (place_in marks) ys → xs ≡ ys
  same_signals [] [] h k e = refl
  same_signals [] (y ∷ ys) h k e = cc
  same_signals (x ∷ xs) [] h k e = cc
  same_signals (x ∷ xs) (y ∷ ys) h k e =
      let first : place_in marks x ≡ place_in marks y = cc in
      let rest : map (place_in marks) xs ≡ map (place_in marks) ys = cc in
      let one = place_rises marks x y (h x (0, omega arith, refl)) (k y (0, omega arith, refl)) first in
      let more = same_signals xs ys (λ z c. h z (suc c.0, let l = c.1 in omega arith, c.2)) (λ z c. k z (suc c.0, let l = c.1 in omega arith, c.2)) rest in
      ap (λ (z : ℕ). z ∷ xs) one ∙ ap (λ (zs : List ℕ). y ∷ zs) more

  apart : (i j : ℕ) (a d : Node) → slice_get net.blif.nodes i ≡ Some a → slice_get net.blif.nodes j ≡ Some d → AreAlike a d → i ≡ j
  apart i j a d is_a is_d alike =
      let f = from i a is_a in
      let g = from j d is_d in
      let m = mark_of_node b marks f.number true f.mark in
      let n = mark_of_node b marks g.number true g.mark in
      let inputs = same_signals (gate_with terms f.old).inputs (gate_with terms g.old).inputs
      (λ x c. fit.marked.nodes f.number x f.old f.there m c) (λ x c. fit.marked.nodes g.number x g.old g.there n c)
      (ap (λ (h : Gate). h.inputs) (sym f.gate_is) ∙ alike.inputs ∙ ap (λ (h : Gate). h.inputs) g.gate_is) in
      let output : (gate_with terms f.old).output ≡ (gate_with terms g.old).output = ap (λ (h : Gate). h.output) (sym f.gate_is) ∙ alike.output ∙ ap (λ (h : Gate). h.output) g.gate_is in
      let rows : (gate_with terms f.old).rows ≡ (gate_with terms g.old).rows = ap (λ (h : Gate). h.rows) (sym f.gate_is) ∙ alike.rows ∙ ap (λ (h : Gate). h.rows) g.gate_is in
      let same : gate_with terms f.old ≡ gate_with terms g.old = λ k. record { inputs = inputs k; output = output k; rows = rows k } in
      let number = fit.passed.apart f.number g.number f.old g.old f.there g.there (fit.marked.own (first_node b + f.number) m) (fit.marked.own (first_node b + g.number) n) same in
      sym f.place ∙ ap (place_in (node_marks b marks)) number ∙ g.place

  pub clean_of : EachHasOneValuation → IsCleanOf b (latch_marks b marks) net
  clean_of one = record {
    is_net = is_net one;
    no_larger = no_larger;
    read = read;
    lean = lean;
    apart = apart;
    own_inputs = λ o i is l. output_at o i is
        ∙ ap (λ (t : NetTerm). let r : Option NetTerm = Some t in r) (ap (moved_term marks) (fit.passed.given i (omega arith)) ∙ ap term.Signal (input_place b whole terms marks fit i l));
    own_latches = λ o k is m.
        let l = get_within (latch_marks b marks) k true m in
        let long = kept_long b whole terms marks fit in
        output_at o (length b.inputs + k) is
        ∙ ap (λ (t : NetTerm). let r : Option NetTerm = Some t in r) (ap (moved_term marks) (fit.passed.given (length b.inputs + k) (omega arith)) ∙ ap term.Signal (latch_place b whole terms marks fit k (omega arith)));
  }

-- what an `Ok` has, told by another fact
pub if_ok : {A E : Type 0} (P Q : A → Type 0) (r : Result A E) → ((x : A) → P x → Q x) → IfOk r P → IfOk r Q
if_ok P Q (Ok x) f h = f x h
if_ok P Q (Err e) f h = tt

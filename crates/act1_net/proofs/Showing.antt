-- The net of the kept signals shows what the netlist shows.
use Rattle.std.proofs.Common.{ℕ, suc, zero, ◌≡◌, ◌<◌, ◌≤◌, ◌+◌, ◌↔◌, not, Bool, true, false, List, [], ◌∷◌, ◌++◌, length, map, replicate, refl, sym, ap, subst, ◌∙◌, Option, Some, None, arith}
use Rattle.std.specs.Prelude.{Contains, if◌then◌else◌, slice_get, slice_index_or}
use Rattle.std.specs.List.{list_any}
use Rattle.std.proofs.lemmas.List.{length-append, length-replicate}
use Rattle.act1_base.proofs.ListGets.{get_within, some_is}
use Rattle.act1_logic.specs.declared.cover.Row.{Row}
use Rattle.act1_logic.specs.Rows.{agrees}
use Rattle.act1_blif.specs.declared.blif.Blif.{Blif}
use Rattle.act1_blif.specs.declared.blif.Latch.{Latch}
use Rattle.act1_blif.specs.declared.blif.Node.{Node}
use Rattle.act1_blif.specs.Graph.{first_node, signal_count}
use Rattle.act1_blif.specs.Laws.{EachHasOneValuation}
use Rattle.act1_blif.specs.Run as blif
use Rattle.act1_blif.specs.Run.{Fits, node_value, signal, signals}
use Rattle.act1_net.specs.declared.gate.Gate.{Gate}
use Rattle.act1_net.specs.declared.net.Net.{Net}
use Rattle.act1_net.specs.declared.net.NetTerm.{NetTerm}
use Rattle.act1_net.specs.declared.net.NetTerm.TheVariants as term
use Rattle.act1_net.specs.Net.{chosen, place_in, reading_of, Shows, term_value}
use Rattle.act1_net.specs.Gates.{gate_value, gate_with, term_of}
use Rattle.act1_net.specs.BuildSteps.{gate_of, kept_latch, moved_gate, moved_left, moved_term, next_term}
use Rattle.act1_net.specs.CutSteps.{IsCutNet}
use Rattle.act1_net.proofs.Chosen.{chosen_all, chosen_append, chosen_long, chosen_map, chosen_same, get_before, get_behind, index_chosen}
use Rattle.act1_net.proofs.FitLists.{fits_at, length_map, long, map_map, map_same}
use Rattle.act1_net.proofs.Passing.{left_value}

map_both : {X Y Z : Type 0} (f : Y → Z) (g : X → Y) (xs : List X) → map f (map g xs) ≡ map (λ x. f (g x)) xs
map_both f g [] = refl
map_both {X} {Y} {Z} f g (x ∷ xs) = ap (λ (zs : List Z). f (g x) ∷ zs) (map_both f g xs)

map_each : {X Y : Type 0} (f g : X → Y) (xs : List X) → ((k : ℕ) (x : X) → slice_get xs k ≡ Some x → f x ≡ g x) → map f xs ≡ map g xs
map_each f g [] h = refl
map_each {X} {Y} f g (x ∷ xs) h = ap (λ (y : Y). y ∷ map f xs) (h 0 x refl) ∙ ap (λ (ys : List Y). g x ∷ ys) (map_each f g xs (λ k y e. h (suc k) y e))

module _ (b : Blif) (terms : List NetTerm) (marks kept node_marks : List Bool) (net : Net) (cut : IsCutNet b terms marks kept node_marks net) where
  pub mark_kept : (k : ℕ) → slice_get kept k ≡ Some true → slice_get marks (length b.inputs + k) ≡ Some true
  mark_kept k m =
      let n = length-replicate (length b.inputs) true in
      let l = get_within kept k true m in
      ap (λ (ms : List Bool). slice_get ms (length b.inputs + k)) cut.split
      ∙ get_before (replicate (length b.inputs) true ++ kept) node_marks (length b.inputs + k) (omega (arith, length-append (replicate (length b.inputs) true) kept))
      ∙ get_behind (replicate (length b.inputs) true) kept k (length b.inputs + k) (omega arith) ∙ m

  mark_node : (j : ℕ) → slice_get node_marks j ≡ Some true → slice_get marks (first_node b + j) ≡ Some true
  mark_node j m =
      let n = length-replicate (length b.inputs) true in
      let l = cut.kept_long in
      let both : first_node b ≡ length (replicate (length b.inputs) true ++ kept) = omega (arith, length-append (replicate (length b.inputs) true) kept) in
      ap (λ (ms : List Bool). slice_get ms (first_node b + j)) cut.split
      ∙ get_behind (replicate (length b.inputs) true ++ kept) node_marks j (first_node b + j) (omega arith) ∙ m

  module _ (q x v : List Bool) (fits : Fits b q x v) where
    abbrev pub short : List Bool
    short = chosen marks v

    marks_long : length marks ≤ length v
    marks_long =
        let a = cut.marked.all in let i = fits.inputs in let l = fits.latches in
        let whole = ap (λ (ys : List Bool). length ys) fits.values in
        omega (arith, long (x ++ q) (map (node_value v) b.nodes), long x q, length_map (node_value v) b.nodes)

    value_at : (s : ℕ) → slice_get marks s ≡ Some true → signal short (place_in marks s) ≡ signal v s
    value_at s m = index_chosen marks v s m marks_long

    -- the term of a kept signal has the same value with the new numbers
    term_same : (t : NetTerm) → ((u : ℕ) → t ≡ term.Signal u → slice_get marks u ≡ Some true) → term_value short (moved_term marks t) ≡ term_value v t
    term_same term.Zero h = refl
    term_same term.One h = refl
    term_same (term.Signal u) h = value_at u (h u refl)

    gate_same : (j : ℕ) (node : Node) → slice_get node_marks j ≡ Some true → slice_get b.nodes j ≡ Some node → gate_value short (moved_left terms marks node) ≡ signal v (first_node b + j)
    gate_same j node m is =
        ap (λ (ys : List Bool). if list_any (λ (row : Row). agrees row.marks ys) (gate_with terms node).rows then node.cover.output else not node.cover.output)
        (map_map (signal short) (place_in marks) (gate_with terms node).inputs ∙ map_same (λ s. signal short (place_in marks s)) (signal v) (gate_with terms node).inputs (λ s c. value_at s (cut.marked.nodes j s node is (mark_node j m) c)))
        ∙ sym (left_value b terms cut.meant q x v fits j node is)

    -- the values of the kept nodes
    nodes_same : chosen node_marks (map (node_value v) b.nodes) ≡ map (node_value short) net.blif.nodes
    nodes_same =
        chosen_same (node_value v) (λ (node : Node). gate_value short (moved_left terms marks node)) node_marks b.nodes (λ j node m is. sym (gate_same j node m is ∙ at j node is))
        ∙ ap (chosen node_marks) (sym (map_both (gate_value short) (moved_left terms marks) b.nodes))
        ∙ chosen_map (gate_value short) node_marks (map (moved_left terms marks) b.nodes)
        ∙ ap (map (gate_value short)) (sym cut.gates)
        ∙ map_both (gate_value short) gate_of net.blif.nodes
      where
        at : (j : ℕ) (node : Node) → slice_get b.nodes j ≡ Some node → signal v (first_node b + j) ≡ node_value v node
        at j node is = fits_at b q x v fits j node is

    short_is : short ≡ x ++ chosen kept q ++ map (node_value short) net.blif.nodes
    short_is = parts ∙ ap (λ (ys : List Bool). x ++ chosen kept q ++ ys) nodes_same
      where
        first : length (replicate (length b.inputs) true) ≡ length x
        first = let i = fits.inputs in let n = length-replicate (length b.inputs) true in omega arith

        second : length (replicate (length b.inputs) true ++ kept) ≡ length (x ++ q)
        second = let l = fits.latches in let k = cut.kept_long in let f = first in omega (arith, length-append (replicate (length b.inputs) true) kept, long x q)

        parts : chosen marks v ≡ x ++ chosen kept q ++ chosen node_marks (map (node_value v) b.nodes)
        parts =
            ap (chosen marks) fits.values
            ∙ ap (λ (ms : List Bool). chosen ms (x ++ q ++ map (node_value v) b.nodes)) cut.split
            ∙ chosen_append (replicate (length b.inputs) true ++ kept) node_marks (x ++ q) (map (node_value v) b.nodes) second
            ∙ ap (λ (ys : List Bool). ys ++ chosen node_marks (map (node_value v) b.nodes)) (chosen_append (replicate (length b.inputs) true) kept x q first)
            ∙ ap (λ (ys : List Bool). ys ++ chosen kept q ++ chosen node_marks (map (node_value v) b.nodes)) (chosen_all (length b.inputs) x fits.inputs)

    pub fits_short : Fits net.blif (chosen kept q) x short
    fits_short = record {
      inputs = fits.inputs ∙ ap (λ (ns : List (List ℕ)). length ns) (sym cut.inputs);
      latches = chosen_long kept q (map kept_latch b.latches) (fits.latches ∙ sym (length_map kept_latch b.latches)) ∙ ap (λ (ls : List Latch). length ls) (sym cut.latches);
      values = short_is;
    }

    pub shown_same : map (term_value short) net.outputs ≡ signals v b.outputs
    shown_same =
        ap (map (term_value short)) cut.outputs
        ∙ map_both (term_value short) (moved_term marks) (map (term_of terms) b.outputs)
        ∙ map_both (λ (t : NetTerm). term_value short (moved_term marks t)) (term_of terms) b.outputs
        ∙ map_each (λ s. term_value short (moved_term marks (term_of terms s))) (signal v) b.outputs
        (λ o s is. term_same (term_of terms s) (λ u e. cut.marked.outputs o s u is e) ∙ sym (cut.meant q x v fits s))

    pub next_same : map (term_value short) net.next ≡ chosen kept (blif.next_state b v)
    next_same =
        ap (map (term_value short)) cut.next
        ∙ sym (chosen_map (term_value short) kept (map (next_term terms marks) b.latches))
        ∙ ap (chosen kept) (map_both (term_value short) (next_term terms marks) b.latches)
        ∙ chosen_same (λ (latch : Latch). term_value short (next_term terms marks latch)) (λ (latch : Latch). signal v latch.input) kept b.latches
        (λ k latch m is. term_same (term_of terms latch.input) (λ u e. cut.marked.latches k u latch is (mark_kept k m) e) ∙ sym (cut.meant q x v fits latch.input))

  -- the net shows what the netlist shows
  pub shows_same : (q : List Bool) (xs shown : List (List Bool)) → blif.Shows b q xs shown → Shows net (chosen kept q) xs shown
  shows_same q [] [] h = tt
  shows_same q (x ∷ xs) (s ∷ ss) (v, fits, e, h) = (
    short q x v fits,
    fits_short q x v fits,
    e ∙ sym (shown_same q x v fits),
    subst (λ (r : List Bool). Shows net r xs ss) (sym (next_same q x v fits)) (shows_same (blif.next_state b v) xs ss h),
  )
  shows_same q [] (s ∷ ss) h = absurd h
  shows_same q (x ∷ xs) [] h = absurd h

  -- and nothing else
  pub shows_only : EachHasOneValuation → (q : List Bool) (xs shown : List (List Bool)) → length q ≡ length b.latches → Shows net (chosen kept q) xs shown → blif.Shows b q xs shown
  shows_only one q [] [] l h = tt
  shows_only one q (x ∷ xs) (s ∷ ss) l (w, fits, e, h) =
      let in_x = fits.inputs ∙ ap (λ (ns : List (List ℕ)). length ns) cut.inputs in
      let single = one b q x l in_x in
      let v = single.valuation in
      let other = one net.blif (chosen kept q) x fits.latches fits.inputs in
      let same : w ≡ short q x v single.fits = other.only w fits ∙ sym (other.only (short q x v single.fits) (fits_short q x v single.fits)) in (
        v,
        single.fits,
        e ∙ ap (λ (u : List Bool). map (term_value u) net.outputs) same ∙ shown_same q x v single.fits,
        shows_only one (blif.next_state b v) xs ss (length_map (λ (latch : Latch). signal v latch.input) b.latches)
            (subst (λ (r : List Bool). Shows net r xs ss) (ap (λ (u : List Bool). map (term_value u) net.next) same ∙ next_same q x v single.fits) h),
      )
  shows_only one q [] (s ∷ ss) l h = absurd h
  shows_only one q (x ∷ xs) [] l h = absurd h

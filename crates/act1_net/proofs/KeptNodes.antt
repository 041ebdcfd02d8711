-- What is left of the kept nodes.
use Rattle.std.proofs.Common.{ℕ, suc, zero, ◌≡◌, ◌<◌, ◌+◌, ◌-◌, Bool, true, List, [], ◌∷◌, ◌++◌, length, map, take, drop, Option, Some, None, refl, sym, ap, subst, ◌∙◌, arith}
use Rattle.std.specs.Prelude.{Contains, slice_get, slice_index_or, slice_range}
use Rattle.std.proofs.lemmas.Option.{slice_get-get_or}
use Rattle.std.proofs.lemmas.List.{length-drop, map-append, take_all}
use Rattle.act1_base.proofs.ListGets.{get_within}
use Rattle.act1_blif.specs.declared.blif.Blif.{Blif}
use Rattle.act1_blif.specs.declared.blif.Latch.{Latch}
use Rattle.act1_blif.specs.declared.blif.Node.{Node}
use Rattle.act1_blif.specs.Graph.{first_node, signal_count}
use Rattle.act1_blif.specs.Laws.{IsWhole}
use Rattle.act1_net.specs.declared.gate.Gate.{Gate}
use Rattle.act1_net.specs.declared.net.NetTerm.{NetTerm}
use Rattle.act1_net.specs.Net.{chosen}
use Rattle.act1_net.specs.Gates.{gate_with}
use Rattle.act1_net.specs.BuildSteps.{AddsNode, AreKeptNodes, gate_of, if_kept, IsNodeOf, kept_latch, latch_marks, moved_gate, moved_left, name_of, node_marks, width_left, width_of}
use Rattle.act1_net.specs.KeptSteps.{CanKeep, IsFit}
use Rattle.act1_net.proofs.MarkFacts.{contains_here, left_low, terms_within}
use Rattle.act1_net.proofs.FitLists.{length_map}

-- a node that is kept goes last
pub node_added : (terms : List NetTerm) (marks : List Bool) (kept : Bool) (node made : Node) (gate : Gate) (old new : List Node) → kept ≡ true → new ≡ old ++ made ∷ []
    → IsNodeOf node.name (moved_gate marks gate) made → gate ≡ gate_with terms node → AddsNode terms marks kept node old new
node_added terms marks kept node made gate old new is_kept added made_is left = record {
  names = ap (map name_of) added ∙ map-append name_of old (made ∷ []) ∙ ap (λ (n : List ℕ). map name_of old ++ n ∷ []) made_is.name_is ∙ ap (λ (k : Bool). map name_of old ++ if_kept k node.name) (sym is_kept);
  gates = ap (map gate_of) added ∙ map-append gate_of old (made ∷ []) ∙ ap (λ (g : Gate). map gate_of old ++ g ∷ []) (made_is.gate_is ∙ ap (moved_gate marks) left)
      ∙ ap (λ (k : Bool). map gate_of old ++ if_kept k (moved_left terms marks node)) (sym is_kept);
  widths = ap (map width_of) added ∙ map-append width_of old (made ∷ [])
      ∙ ap (λ (w : ℕ). map width_of old ++ w ∷ []) (made_is.width_is ∙ length_map _ gate.inputs ∙ ap (λ (g : Gate). length g.inputs) left)
      ∙ ap (λ (k : Bool). map width_of old ++ if_kept k (width_left terms node)) (sym is_kept);
}

-- the rest of a list, as a range
pub rest_range : {X : Type 0} (xs : List X) (n : ℕ) → take (length xs - n) (drop n xs) ≡ drop n xs
rest_range xs n = take_all (length xs - n) (drop n xs) (omega (arith, length-drop n xs))

pub drop_get : {X : Type 0} (xs : List X) (n k i : ℕ) → i ≡ n + k → slice_get (drop n xs) k ≡ slice_get xs i
drop_get xs zero k i e = let f : k ≡ i = omega arith in ap (slice_get xs) f
drop_get [] (suc n) k i e = refl
drop_get (x ∷ xs) (suc n) k zero e = absurd (omega arith)
drop_get (x ∷ xs) (suc n) k (suc i) e = drop_get xs n k i (omega arith)

pub mark_of_node : (b : Blif) (marks : List Bool) (j : ℕ) (m : Bool) → slice_get (node_marks b marks) j ≡ Some m → slice_get marks (first_node b + j) ≡ Some m
mark_of_node b marks j m e = sym (drop_get marks (first_node b) j (first_node b + j) refl) ∙ e

pub mark_back : (b : Blif) (marks : List Bool) (j : ℕ) → slice_get marks (first_node b + j) ≡ slice_get (node_marks b marks) j
mark_back b marks j = sym (drop_get marks (first_node b) j (first_node b + j) refl)

-- each node can be kept
pub can_keep : (b : Blif) → IsWhole b → (terms : List NetTerm) (marks : List Bool) → IsFit b terms marks → (j : ℕ) (m : Bool) (node : Node) → slice_get (node_marks b marks) j ≡ Some m → slice_get b.nodes j ≡ Some node → CanKeep terms marks m node
can_keep b whole terms marks fit j m node mark is = record {
  inputs = λ k d low. let l = whole.nodes j (slice_index_or node.inputs k d) node is (contains_here node.inputs k d low) in let all = fit.passed.all in omega arith;
  width = whole.widths j node is;
  lean = λ kept. fit.passed.lean j node is (fit.marked.own (first_node b + j) (mark_of_node b marks j m mark ∙ ap (λ (a : Bool). let r : Option Bool = Some a in r) kept));
  within = λ k d low.
      let l = left_low b terms whole (terms_within b whole fit.order fit.is_order terms fit.passed) node.inputs (λ s c. whole.nodes j s node is c)
      (slice_index_or (gate_with terms node).inputs k d) (contains_here (gate_with terms node).inputs k d low) in
      let all = fit.marked.all in omega arith;
}

-- the latches that are kept, by the parts that the code looked at
pub kept_latches : (b : Blif) (marks mk : List Bool) (i n : ℕ) (ls latches : List Latch) → mk ≡ marks → i ≡ length b.inputs → n ≡ first_node b → ls ≡ b.latches
    → latches ≡ chosen (slice_range mk i n) (map kept_latch ls) → latches ≡ chosen (latch_marks b marks) (map kept_latch b.latches)
kept_latches b marks mk i n ls latches mk_is i_is n_is ls_is e =
    e ∙ ap (λ (ms : List Bool). chosen (slice_range ms i n) (map kept_latch ls)) mk_is
    ∙ ap (λ (k : ℕ). chosen (slice_range marks k n) (map kept_latch ls)) i_is
    ∙ ap (λ (k : ℕ). chosen (slice_range marks (length b.inputs) k) (map kept_latch ls)) n_is
    ∙ ap (λ (zs : List Latch). chosen (latch_marks b marks) (map kept_latch zs)) ls_is

-- the marks of the nodes, by the parts that the code looked at
pub nodes_marked : (b : Blif) (marks mk : List Bool) (n : ℕ) → mk ≡ marks → n ≡ first_node b → take (length mk - n) (drop n mk) ≡ node_marks b marks
nodes_marked b marks mk n mk_is n_is = rest_range mk n ∙ ap (λ (k : ℕ). drop k mk) n_is ∙ ap (drop (first_node b)) mk_is

pub kept_nodes : (b : Blif) (terms : List NetTerm) (marks mk : List Bool) (n : ℕ) (ns nodes : List Node) → mk ≡ marks → n ≡ first_node b → ns ≡ b.nodes
    → AreKeptNodes terms marks (take (length mk - n) (drop n mk)) ns nodes → AreKeptNodes terms marks (node_marks b marks) b.nodes nodes
kept_nodes b terms marks mk n ns nodes mk_is n_is ns_is h =
    subst (λ (ms : List Bool). AreKeptNodes terms marks ms b.nodes nodes) (nodes_marked b marks mk n mk_is n_is)
    (subst (λ (zs : List Node). AreKeptNodes terms marks (take (length mk - n) (drop n mk)) zs nodes) ns_is h)

-- what latches take are signals
pub latch_inputs : (b : Blif) → IsWhole b → (terms : List NetTerm) → length terms ≡ signal_count b → (ls : List Latch) → ls ≡ b.latches → (k : ℕ) (d : Latch) → k < length ls → (slice_index_or ls k d).input < length terms
latch_inputs b whole terms all ls same k d low =
    let l = whole.latches k (slice_index_or ls k d) (ap (λ (zs : List Latch). slice_get zs k) (sym same) ∙ slice_get-get_or ls k d low) in omega arith

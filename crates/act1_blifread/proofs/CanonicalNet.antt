-- What a netlist keeps, as its canonical text needs it.
use Rattle.std.proofs.Common.{ℕ, zero, suc, ◌≡◌, ◌+◌, ◌<◌, ◌≤◌, true, ◌&&◌, List, [], ◌∷◌, ◌++◌, length, get_or, map, Option, Some, None, refl, ap, ◌∙◌, arith, length-append}
use Rattle.std.specs.Prelude.{nat_lt, nat_le}
use Rattle.std.specs.List.{list_all}
use Rattle.std.specs.Str.{bytes_eq}
use Rattle.std.proofs.lemmas.List.{length-map}
use Rattle.std.proofs.lemmas.Bool.{and_parts, and_from, leb-true}
use Rattle.std.proofs.lemmas.Bool.Decides.{nat_tests}
use Rattle.std.proofs.lemmas.List.Folds.{list_any-append}
use Rattle.act1_base.specs.Names.{is_name, are_different, are_different_numbers}
use Rattle.act1_blif.specs.declared.blif.Blif.{Blif}
use Rattle.act1_blif.specs.declared.blif.Latch.{Latch}
use Rattle.act1_blif.specs.declared.blif.Node.{Node}
use Rattle.act1_blif.specs.Names.{signal_name, signal_names}
use Rattle.act1_blif.specs.Rules.{are_names, is_latch, is_node, with_clock}
use Rattle.act1_blifread.proofs.CanonicalNames.{is_in, name_same, or_left, or_right}

-- the names of clock and signals
abbrev pub all_names : Blif → List (List ℕ)
all_names net = with_clock net.clock (signal_names net)

-- how many signals there are
abbrev pub count_of : Blif → ℕ
count_of net = length net.inputs + length net.latches + length net.nodes

-- the parts of a netlist's invariant
pub record Keeps (net : Blif) : Type 0 where
  pub model : is_name net.model ≡ true
  pub fit : list_all is_name (all_names net) ≡ true
  pub apart : are_different (all_names net) ≡ true
  pub few : length (all_names net) ≤ 65535
  pub latches : list_all (is_latch (count_of net)) net.latches ≡ true
  pub nodes : list_all (is_node (count_of net)) net.nodes ≡ true
  pub outputs : list_all (λ s. nat_lt s (count_of net)) net.outputs ≡ true
  pub outputs_apart : are_different_numbers net.outputs ≡ true
  pub count : count_of net ≡ length (signal_names net)

pub keeps : (net : Blif) → Keeps net
keeps net =
    let n = count_of net in
    let outs = list_all (λ s. nat_lt s n) net.outputs && are_different_numbers net.outputs in
    let names = are_names (all_names net) in
    let a = and_parts (is_name net.model && names && list_all (is_latch n) net.latches && list_all (is_node n) net.nodes) outs net.valid in
    let b = and_parts (is_name net.model && names && list_all (is_latch n) net.latches) (list_all (is_node n) net.nodes) a.0 in
    let d = and_parts (is_name net.model && names) (list_all (is_latch n) net.latches) b.0 in
    let e = and_parts (is_name net.model) names d.0 in
    let f = and_parts (list_all is_name (all_names net) && are_different (all_names net)) (nat_le (length (all_names net)) 65535) e.1 in
    let g = and_parts (list_all is_name (all_names net)) (are_different (all_names net)) f.0 in
    let o = and_parts (list_all (λ s. nat_lt s n) net.outputs) (are_different_numbers net.outputs) a.1 in
    let latch_names = map (λ (latch : Latch). latch.name) net.latches in
    let node_names = map (λ (node : Node). node.name) net.nodes in
    record {
      model = e.0;
      fit = g.0;
      apart = g.1;
      few = leb-true (length (all_names net)) 65535 f.1;
      latches = d.1;
      nodes = b.1;
      outputs = o.0;
      outputs_apart = o.1;
      count = omega (arith, length-append (net.inputs ++ latch_names) node_names, length-append net.inputs latch_names, length-map net.latches (λ (latch : Latch). latch.name), length-map net.nodes (λ (node : Node). node.name));
    }

-- a name of a list is in it
pub read_in : (names : List (List ℕ)) (s : ℕ) → s < length names → is_in names (get_or names s []) ≡ true
read_in [] s low = absurd (omega arith)
read_in (x ∷ names) zero low = or_left (bytes_eq x x) (is_in names x) (name_same x)
read_in (x ∷ names) (suc s) low = or_right (bytes_eq (get_or names s []) x) (is_in names (get_or names s [])) (read_in names s (omega arith))

-- and so is each of a part of it
pub in_front : (names more : List (List ℕ)) (w : List ℕ) → is_in names w ≡ true → is_in (names ++ more) w ≡ true
in_front names more w h = list_any-append (bytes_eq w) names more ∙ or_left (is_in names w) (is_in more w) h

pub in_back : (names more : List (List ℕ)) (w : List ℕ) → is_in more w ≡ true → is_in (names ++ more) w ≡ true
in_back names more w h = list_any-append (bytes_eq w) names more ∙ or_right (is_in names w) (is_in more w) h

-- each name of a list is in all that have it
pub each_in : (names all : List (List ℕ)) → ((w : List ℕ) → is_in names w ≡ true → is_in all w ≡ true) → list_all (is_in all) names ≡ true
each_in [] all h = refl
each_in (x ∷ names) all h =
    and_from (is_in all x) (list_all (is_in all) names) (h x (or_left (bytes_eq x x) (is_in names x) (name_same x)))
    (each_in names all (λ w k. h w (or_right (bytes_eq w x) (is_in names w) k)))

with_all : (clock : Option (List ℕ)) (names : List (List ℕ)) (w : List ℕ) → is_in names w ≡ true → is_in (with_clock clock names) w ≡ true
with_all None names w h = h
with_all (Some clock) names w h = or_right (bytes_eq w clock) (is_in names w) h

module _ (net : Blif) where
  -- names of signals are names of the netlist
  pub signal_in : (w : List ℕ) → is_in (signal_names net) w ≡ true → is_in (all_names net) w ≡ true
  signal_in w h = with_all net.clock (signal_names net) w h

  low_number : (s n : ℕ) → nat_lt s n ≡ true → s < n
  low_number s n h = grind (arith, nat_tests)

  pub named_in : (s : ℕ) → nat_lt s (count_of net) ≡ true → is_in (all_names net) (signal_name net s) ≡ true
  named_in s h = let low = low_number s (count_of net) h in signal_in (signal_name net s) (read_in (signal_names net) s (let count = (keeps net).count in omega arith))

  pub all_named_in : (ss : List ℕ) → list_all (λ s. nat_lt s (count_of net)) ss ≡ true → list_all (is_in (all_names net)) (map (signal_name net) ss) ≡ true
  all_named_in [] h = refl
  all_named_in (s ∷ ss) h =
      let parts = and_parts (nat_lt s (count_of net)) (list_all (λ t. nat_lt t (count_of net)) ss) h in
      and_from (is_in (all_names net) (signal_name net s)) (list_all (is_in (all_names net)) (map (signal_name net) ss)) (named_in s parts.0) (all_named_in ss parts.1)

  pub inputs_in : list_all (is_in (all_names net)) net.inputs ≡ true
  inputs_in = each_in net.inputs (all_names net) (λ w h. signal_in w (in_front (net.inputs ++ map (λ (latch : Latch). latch.name) net.latches) (map (λ (node : Node). node.name) net.nodes) w (in_front net.inputs (map (λ (latch : Latch). latch.name) net.latches) w h)))

  pub latches_in : list_all (is_in (all_names net)) (map (λ (latch : Latch). latch.name) net.latches) ≡ true
  latches_in = each_in (map (λ (latch : Latch). latch.name) net.latches) (all_names net) (λ w h. signal_in w (in_front (net.inputs ++ map (λ (latch : Latch). latch.name) net.latches) (map (λ (node : Node). node.name) net.nodes) w (in_back net.inputs (map (λ (latch : Latch). latch.name) net.latches) w h)))

  pub nodes_in : list_all (is_in (all_names net)) (map (λ (node : Node). node.name) net.nodes) ≡ true
  nodes_in = each_in (map (λ (node : Node). node.name) net.nodes) (all_names net) (λ w h. signal_in w (in_back (net.inputs ++ map (λ (latch : Latch). latch.name) net.latches) (map (λ (node : Node). node.name) net.nodes) w h))

  pub clock_in : (clock : List ℕ) → net.clock ≡ Some clock → is_in (all_names net) clock ≡ true
  clock_in clock e = ap (λ (o : Option (List ℕ)). is_in (with_clock o (signal_names net)) clock) e ∙ or_left (bytes_eq clock clock) (is_in (signal_names net) clock) (name_same clock)

  -- the inputs are signals
  pub inputs_signals : list_all (is_in (signal_names net)) net.inputs ≡ true
  inputs_signals = each_in net.inputs (signal_names net) (λ w h. in_front (net.inputs ++ map (λ (latch : Latch). latch.name) net.latches) (map (λ (node : Node). node.name) net.nodes) w (in_front net.inputs (map (λ (latch : Latch). latch.name) net.latches) w h))

  pub low_signal : (s : ℕ) → nat_lt s (count_of net) ≡ true → s < length (signal_names net)
  low_signal s h = let low = low_number s (count_of net) h in let count = (keeps net).count in omega arith

  -- and so are the outputs of latches and of nodes
  pub latches_signals : list_all (is_in (signal_names net)) (map (λ (latch : Latch). latch.name) net.latches) ≡ true
  latches_signals = each_in (map (λ (latch : Latch). latch.name) net.latches) (signal_names net) (λ w h. in_front (net.inputs ++ map (λ (latch : Latch). latch.name) net.latches) (map (λ (node : Node). node.name) net.nodes) w (in_back net.inputs (map (λ (latch : Latch). latch.name) net.latches) w h))

  pub nodes_signals : list_all (is_in (signal_names net)) (map (λ (node : Node). node.name) net.nodes) ≡ true
  nodes_signals = each_in (map (λ (node : Node). node.name) net.nodes) (signal_names net) (λ w h. in_back (net.inputs ++ map (λ (latch : Latch). latch.name) net.latches) (map (λ (node : Node). node.name) net.nodes) w h)

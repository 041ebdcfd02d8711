-- The parts of the statements of a netlist's canonical text are those of the netlist.
use Rattle.std.proofs.Common.{ℕ, ◌≡◌, ◌+◌, cond, Bool, true, false, not, ◌==◌, List, [], ◌∷◌, ◌++◌, length, map, Option, Some, None, refl, sym, ap, ◌∙◌}
use Rattle.std.specs.Prelude.{filter, nat_lt, nat_le, option_map, slice_get}
use Rattle.std.specs.List.{list_all, list_any}
use Rattle.std.specs.Str.{bytes_eq}
use Rattle.std.proofs.lemmas.Bool.{and_parts, not-true}
use Rattle.std.proofs.lemmas.Grind.{flat_map-append}
use Rattle.std.proofs.lemmas.List.{append-nil, map-append}
use Rattle.std.proofs.lemmas.List.Elements.{filter_map-append}
use Rattle.act1_base.specs.Names.{are_different}
use Rattle.act1_blif.specs.declared.blif.Blif.{Blif}
use Rattle.act1_blif.specs.declared.blif.Latch.{Latch}
use Rattle.act1_blif.specs.declared.blif.Node.{Node}
use Rattle.act1_blif.specs.Names.{signal_name, signal_names}
use Rattle.act1_blif.specs.Rules.{is_latch, is_node, with_clock}
use Rattle.act1_blif.specs.Text.{node_lines}
use Rattle.act1_bliftext.specs.declared.statement.NumberedStatement.{NumberedStatement}
use Rattle.act1_bliftext.specs.declared.statement.Statement.{Statement}
use Rattle.act1_bliftext.specs.declared.statement.Statement.TheVariants as said
use Rattle.act1_blifread.specs.Parts.{all_of, clock_of, clock_names, data_inputs, given_names, input_names, is_clock, latch_names, node_names, output_names, signals_of}
use Rattle.act1_blifread.specs.Netlist.{latch_of, latches_of, node_of, nodes_of, signal_at}
use Rattle.act1_blifread.proofs.CanonicalNames.{is_in, same_name, passes_in}
use Rattle.act1_blifread.proofs.CanonicalNet.{all_names, count_of, keeps, latches_in, nodes_in, inputs_signals, low_signal}
use Rattle.act1_blifread.proofs.CanonicalSaid.{place_in}
use Rattle.act1_blifread.proofs.CanonicalLines.{control_said, latches_said, nodes_said}
use Rattle.act1_blifread.proofs.CanonicalReads.{head_said, head_words, latch_lines_of, clock_said, blif_said}
use Rattle.act1_blifread.proofs.CanonicalPlaces.{name_back, place_same, signal_back}

-- the names of latches and of nodes
abbrev pub latch_outputs : List Latch → List (List ℕ)
latch_outputs latches = map (λ (latch : Latch). latch.name) latches

abbrev pub node_outputs : List Node → List (List ℕ)
node_outputs nodes = map (λ (node : Node). node.name) nodes

module _ (net : Blif) (names : List (List ℕ)) where
  latches_none : (f : Statement → List ℕ) → ((i o : ℕ) (c : Option ℕ) (n : ℕ) → f (said.Latch i o c n) ≡ []) → (number : ℕ) (latches : List Latch) → all_of f (latches_said net names number latches) ≡ []
  latches_none f h number [] = refl
  latches_none f h number (latch ∷ latches) =
      ap (λ (ns : List ℕ). ns ++ all_of f (latches_said net names (number + 1) latches)) (h (place_in names (signal_name net latch.input)) (place_in names latch.name) (control_said names net.clock) latch.init)
      ∙ latches_none f h (number + 1) latches

  latches_each : (f : Statement → List ℕ) → ((i o : ℕ) (c : Option ℕ) (n : ℕ) → f (said.Latch i o c n) ≡ o ∷ []) → (number : ℕ) (latches : List Latch) → all_of f (latches_said net names number latches) ≡ map (place_in names) (latch_outputs latches)
  latches_each f h number [] = refl
  latches_each f h number (latch ∷ latches) =
      ap (λ (ns : List ℕ). ns ++ all_of f (latches_said net names (number + 1) latches)) (h (place_in names (signal_name net latch.input)) (place_in names latch.name) (control_said names net.clock) latch.init)
      ∙ ap (λ (ns : List ℕ). place_in names latch.name ∷ ns) (latches_each f h (number + 1) latches)

  nodes_none : (f : Statement → List ℕ) → ((node : Node) → f (said.Names (map (place_in names) (map (signal_name net) node.inputs)) (place_in names node.name) node.cover) ≡ []) → (number : ℕ) (nodes : List Node) → all_of f (nodes_said net names number nodes) ≡ []
  nodes_none f h number [] = refl
  nodes_none f h number (node ∷ nodes) =
      ap (λ (ns : List ℕ). ns ++ all_of f (nodes_said net names (number + length (node_lines net node)) nodes)) (h node) ∙ nodes_none f h (number + length (node_lines net node)) nodes

  nodes_each : (f : Statement → List ℕ) → ((node : Node) → f (said.Names (map (place_in names) (map (signal_name net) node.inputs)) (place_in names node.name) node.cover) ≡ place_in names node.name ∷ []) → (number : ℕ) (nodes : List Node)
      → all_of f (nodes_said net names number nodes) ≡ map (place_in names) (node_outputs nodes)
  nodes_each f h number [] = refl
  nodes_each f h number (node ∷ nodes) =
      ap (λ (ns : List ℕ). ns ++ all_of f (nodes_said net names (number + length (node_lines net node)) nodes)) (h node)
      ∙ ap (λ (ns : List ℕ). place_in names node.name ∷ ns) (nodes_each f h (number + length (node_lines net node)) nodes)

  clocks_none : (f : Statement → List ℕ) → ((ns : List ℕ) → f (said.Clock ns) ≡ []) → (clock : Option (List ℕ)) → all_of f (clock_said net names clock) ≡ []
  clocks_none f h None = refl
  clocks_none f h (Some clock) = ap (λ (ns : List ℕ). ns ++ []) (h (place_in names clock ∷ []))

  -- the parts of all statements
  in_parts : (f : Statement → List ℕ) (h l n : List ℕ) → all_of f (head_said net names) ≡ h → all_of f (latches_said net names (1 + length (head_words net names)) net.latches) ≡ l
      → all_of f (nodes_said net names (1 + length (head_words net names ++ latch_lines_of net names)) net.nodes) ≡ n → all_of f (blif_said net names) ≡ h ++ l ++ n
  in_parts f h l n a b d =
      let heads = head_said net names in
      let latches = latches_said net names (1 + length (head_words net names)) net.latches in
      let nodes = nodes_said net names (1 + length (head_words net names ++ latch_lines_of net names)) net.nodes in
      flat_map-append (λ (numbered : NumberedStatement). f numbered.statement) (heads ++ latches) nodes
      ∙ ap (λ (ns : List ℕ). ns ++ all_of f nodes) (flat_map-append (λ (numbered : NumberedStatement). f numbered.statement) heads latches)
      ∙ ap (λ (ns : List ℕ). (ns ++ all_of f latches) ++ all_of f nodes) a ∙ ap (λ (ns : List ℕ). (h ++ ns) ++ all_of f nodes) b ∙ ap (λ (ns : List ℕ). (h ++ l) ++ ns) d

  -- `.inputs`
  pub inputs_are : all_of input_names (blif_said net names) ≡ map (place_in names) net.inputs
  inputs_are =
      in_parts input_names (map (place_in names) net.inputs) [] []
      (ap (λ (ns : List ℕ). map (place_in names) net.inputs ++ ns) (clocks_none input_names (λ ns. refl) net.clock) ∙ append-nil (map (place_in names) net.inputs))
      (latches_none input_names (λ i o c n. refl) (1 + length (head_words net names)) net.latches)
      (nodes_none input_names (λ node. refl) (1 + length (head_words net names ++ latch_lines_of net names)) net.nodes)
      ∙ append-nil (map (place_in names) net.inputs ++ []) ∙ append-nil (map (place_in names) net.inputs)

  -- `.outputs`
  pub outputs_are : all_of output_names (blif_said net names) ≡ map (place_in names) (map (signal_name net) net.outputs)
  outputs_are =
      let outs = map (place_in names) (map (signal_name net) net.outputs) in
      in_parts output_names outs [] []
      (ap (λ (ns : List ℕ). outs ++ ns) (clocks_none output_names (λ ns. refl) net.clock) ∙ append-nil outs)
      (latches_none output_names (λ i o c n. refl) (1 + length (head_words net names)) net.latches)
      (nodes_none output_names (λ node. refl) (1 + length (head_words net names ++ latch_lines_of net names)) net.nodes)
      ∙ append-nil (outs ++ []) ∙ append-nil outs

  -- the outputs of latches and of nodes
  pub latches_are : all_of latch_names (blif_said net names) ≡ map (place_in names) (latch_outputs net.latches)
  latches_are =
      let outs = map (place_in names) (latch_outputs net.latches) in
      in_parts latch_names [] outs [] (clocks_none latch_names (λ ns. refl) net.clock)
      (latches_each latch_names (λ i o c n. refl) (1 + length (head_words net names)) net.latches)
      (nodes_none latch_names (λ node. refl) (1 + length (head_words net names ++ latch_lines_of net names)) net.nodes)
      ∙ append-nil outs

  pub nodes_are : all_of node_names (blif_said net names) ≡ map (place_in names) (node_outputs net.nodes)
  nodes_are =
      let outs = map (place_in names) (node_outputs net.nodes) in
      in_parts node_names [] [] outs (clocks_none node_names (λ ns. refl) net.clock)
      (latches_none node_names (λ i o c n. refl) (1 + length (head_words net names)) net.latches)
      (nodes_each node_names (λ node. refl) (1 + length (head_words net names ++ latch_lines_of net names)) net.nodes)

  as_signals : map (place_in names) net.inputs ++ map (place_in names) (latch_outputs net.latches) ++ map (place_in names) (node_outputs net.nodes) ≡ map (place_in names) (signal_names net)
  as_signals =
      sym (map-append (place_in names) (net.inputs ++ latch_outputs net.latches) (node_outputs net.nodes)
      ∙ ap (λ (ns : List ℕ). ns ++ map (place_in names) (node_outputs net.nodes)) (map-append (place_in names) net.inputs (latch_outputs net.latches)))

  -- what is given
  pub given_are : all_of given_names (blif_said net names) ≡ map (place_in names) (signal_names net)
  given_are =
      in_parts given_names (map (place_in names) net.inputs) (map (place_in names) (latch_outputs net.latches)) (map (place_in names) (node_outputs net.nodes))
      (ap (λ (ns : List ℕ). map (place_in names) net.inputs ++ ns) (clocks_none given_names (λ ns. refl) net.clock) ∙ append-nil (map (place_in names) net.inputs))
      (latches_each given_names (λ i o c n. refl) (1 + length (head_words net names)) net.latches)
      (nodes_each given_names (λ node. refl) (1 + length (head_words net names ++ latch_lines_of net names)) net.nodes)
      ∙ as_signals

  -- the clock
  controls_none : net.clock ≡ None → (number : ℕ) (latches : List Latch) → all_of clock_names (latches_said net names number latches) ≡ []
  controls_none is number [] = refl
  controls_none is number (latch ∷ latches) =
      ap (λ (c : Option (List ℕ)). clock_names (said.Latch (place_in names (signal_name net latch.input)) (place_in names latch.name) (control_said names c) latch.init) ++ all_of clock_names (latches_said net names (number + 1) latches)) is
      ∙ controls_none is (number + 1) latches

  clock_by : (clock : Option (List ℕ)) → net.clock ≡ clock → clock_of (blif_said net names) ≡ option_map (place_in names) clock
  clock_by None is =
      ap (λ (ns : List ℕ). slice_get ns 0) (in_parts clock_names [] [] [] (ap (λ (c : Option (List ℕ)). all_of clock_names (clock_said net names c)) is)
      (controls_none is (1 + length (head_words net names)) net.latches) (nodes_none clock_names (λ node. refl) (1 + length (head_words net names ++ latch_lines_of net names)) net.nodes))
  clock_by (Some clock) is =
      let controls = all_of clock_names (latches_said net names (1 + length (head_words net names)) net.latches) in
      ap (λ (ns : List ℕ). slice_get ns 0) (in_parts clock_names (place_in names clock ∷ []) controls [] (ap (λ (c : Option (List ℕ)). all_of clock_names (clock_said net names c)) is)
      refl (nodes_none clock_names (λ node. refl) (1 + length (head_words net names ++ latch_lines_of net names)) net.nodes))

  pub clock_is : clock_of (blif_said net names) ≡ option_map (place_in names) net.clock
  clock_is = clock_by net.clock refl

  module _ (has : list_all (is_in names) (all_names net) ≡ true) where
    known : (w : List ℕ) → is_in (all_names net) w ≡ true → is_in names w ≡ true
    known w h = passes_in (is_in names) (all_names net) w has h

    pub signals_known : list_all (is_in names) (signal_names net) ≡ true
    signals_known = by net.clock has
      where
        by : (clock : Option (List ℕ)) → list_all (is_in names) (with_clock clock (signal_names net)) ≡ true → list_all (is_in names) (signal_names net) ≡ true
        by None h = h
        by (Some clock) h = (and_parts (is_in names clock) (list_all (is_in names) (signal_names net)) h).1

    pub signals_apart : are_different (signal_names net) ≡ true
    signals_apart = by net.clock (keeps net).apart
      where
        by : (clock : Option (List ℕ)) → are_different (with_clock clock (signal_names net)) ≡ true → are_different (signal_names net) ≡ true
        by None h = h
        by (Some clock) h = (and_parts (not (list_any (bytes_eq clock) (signal_names net))) (are_different (signal_names net)) h).1

    -- no signal is the clock
    pub no_clock : (w : List ℕ) → is_in (signal_names net) w ≡ true → is_clock (option_map (place_in names) net.clock) (place_in names w) ≡ false
    no_clock w h = by net.clock has (keeps net).apart
      where
        other : (clock : List ℕ) (b : Bool) → bytes_eq clock w ≡ b → list_any (bytes_eq clock) (signal_names net) ≡ false → b ≡ false
        other clock true e none = sym (ap (is_in (signal_names net)) (same_name clock w e) ∙ h) ∙ none
        other clock false e none = refl

        by : (clock : Option (List ℕ)) → list_all (is_in names) (with_clock clock (signal_names net)) ≡ true → are_different (with_clock clock (signal_names net)) ≡ true
            → is_clock (option_map (place_in names) clock) (place_in names w) ≡ false
        by None a d = refl
        by (Some clock) a d =
            let parts = and_parts (is_in names clock) (list_all (is_in names) (signal_names net)) a in
            let apart = and_parts (not (list_any (bytes_eq clock) (signal_names net))) (are_different (signal_names net)) d in
            place_same names clock w parts.0 (passes_in (is_in names) (signal_names net) w parts.1 h) ∙ other clock (bytes_eq clock w) refl (not-true (list_any (bytes_eq clock) (signal_names net)) apart.0)

    keeps_all : (words : List (List ℕ)) → list_all (is_in (signal_names net)) words ≡ true → filter (λ n. not (is_clock (option_map (place_in names) net.clock) n)) (map (place_in names) words) ≡ map (place_in names) words
    keeps_all [] h = refl
    keeps_all (w ∷ words) h =
        let parts = and_parts (is_in (signal_names net) w) (list_all (is_in (signal_names net)) words) h in
        let rest = filter (λ n. not (is_clock (option_map (place_in names) net.clock) n)) (map (place_in names) words) in
        ap (λ (b : Bool). cond (not b) (place_in names w ∷ rest) rest) (no_clock w parts.0) ∙ ap (λ (ns : List ℕ). place_in names w ∷ ns) (keeps_all words parts.1)

    -- the inputs but for the clock are the inputs
    pub data_are : data_inputs (blif_said net names) ≡ map (place_in names) net.inputs
    data_are =
        ap (λ (ns : List ℕ). filter (λ n. not (is_clock (clock_of (blif_said net names)) n)) ns) inputs_are
        ∙ ap (λ (c : Option ℕ). filter (λ n. not (is_clock c n)) (map (place_in names) net.inputs)) clock_is
        ∙ keeps_all net.inputs (inputs_signals net)

    -- the signals are the names of signals
    pub signals_are : signals_of (blif_said net names) ≡ map (place_in names) (signal_names net)
    signals_are =
        ap (λ (ns : List ℕ). ns ++ all_of latch_names (blif_said net names) ++ all_of node_names (blif_said net names)) data_are
        ∙ ap (λ (ns : List ℕ). map (place_in names) net.inputs ++ ns ++ all_of node_names (blif_said net names)) latches_are
        ∙ ap (λ (ns : List ℕ). map (place_in names) net.inputs ++ map (place_in names) (latch_outputs net.latches) ++ ns) nodes_are
        ∙ as_signals

    -- a signal has its own number again
    pub number_back : (s : ℕ) → nat_lt s (count_of net) ≡ true → signal_at (map (place_in names) (signal_names net)) (place_in names (signal_name net s)) ≡ s
    number_back s h = signal_back names (signal_names net) s signals_known signals_apart (low_signal net s h)

    pub numbers_back : (ss : List ℕ) → list_all (λ s. nat_lt s (count_of net)) ss ≡ true → map (signal_at (map (place_in names) (signal_names net))) (map (place_in names) (map (signal_name net) ss)) ≡ ss
    numbers_back [] h = refl
    numbers_back (s ∷ ss) h =
        let parts = and_parts (nat_lt s (count_of net)) (list_all (λ t. nat_lt t (count_of net)) ss) h in
        ap (λ (n : ℕ). n ∷ map (signal_at (map (place_in names) (signal_names net))) (map (place_in names) (map (signal_name net) ss))) (number_back s parts.0) ∙ ap (λ (ns : List ℕ). s ∷ ns) (numbers_back ss parts.1)

    -- the latches
    latches_only : (number : ℕ) (latches : List Latch) → list_all (is_latch (count_of net)) latches ≡ true → list_all (is_in (all_names net)) (latch_outputs latches) ≡ true
        → latches_of names (map (place_in names) (signal_names net)) (latches_said net names number latches) ≡ latches
    latches_only number [] h k = refl
    latches_only number (latch ∷ latches) h k =
        let parts = and_parts (is_latch (count_of net) latch) (list_all (is_latch (count_of net)) latches) h in
        let both = and_parts (is_in (all_names net) latch.name) (list_all (is_in (all_names net)) (latch_outputs latches)) k in
        let low = and_parts (nat_lt latch.input (count_of net)) (nat_le latch.init 3) parts.0 in
        let signals = map (place_in names) (signal_names net) in
        let rest = latches_of names signals (latches_said net names (number + 1) latches) in
        ap (λ (w : List ℕ). let l : Latch = record { name = w; input = signal_at signals (place_in names (signal_name net latch.input)); init = latch.init } in l ∷ rest) (name_back names latch.name (known latch.name both.0))
        ∙ ap (λ (n : ℕ). let l : Latch = record { name = latch.name; input = n; init = latch.init } in l ∷ rest) (number_back latch.input low.0)
        ∙ ap (λ (ls : List Latch). latch ∷ ls) (latches_only (number + 1) latches parts.1 both.1)

    latches_no_nodes : (signals : List ℕ) (number : ℕ) (nodes : List Node) → latches_of names signals (nodes_said net names number nodes) ≡ []
    latches_no_nodes signals number [] = refl
    latches_no_nodes signals number (node ∷ nodes) = latches_no_nodes signals (number + length (node_lines net node)) nodes

    latches_no_clock : (signals : List ℕ) (clock : Option (List ℕ)) → latches_of names signals (clock_said net names clock) ≡ []
    latches_no_clock signals None = refl
    latches_no_clock signals (Some clock) = refl

    pub latches_back : latches_of names (map (place_in names) (signal_names net)) (blif_said net names) ≡ net.latches
    latches_back =
        let signals = map (place_in names) (signal_names net) in
        let heads = head_said net names in
        let latches = latches_said net names (1 + length (head_words net names)) net.latches in
        let nodes = nodes_said net names (1 + length (head_words net names ++ latch_lines_of net names)) net.nodes in
        filter_map-append (λ (numbered : NumberedStatement). latch_of names signals numbered.statement) (heads ++ latches) nodes
        ∙ ap (λ (ls : List Latch). ls ++ latches_of names signals nodes) (filter_map-append (λ (numbered : NumberedStatement). latch_of names signals numbered.statement) heads latches)
        ∙ ap (λ (ls : List Latch). (ls ++ latches_of names signals latches) ++ latches_of names signals nodes) (latches_no_clock signals net.clock)
        ∙ ap (λ (ls : List Latch). ls ++ latches_of names signals nodes) (latches_only (1 + length (head_words net names)) net.latches (keeps net).latches (latches_in net))
        ∙ ap (λ (ls : List Latch). net.latches ++ ls) (latches_no_nodes signals (1 + length (head_words net names ++ latch_lines_of net names)) net.nodes)
        ∙ append-nil net.latches

    -- the nodes
    nodes_only : (number : ℕ) (nodes : List Node) → list_all (is_node (count_of net)) nodes ≡ true → list_all (is_in (all_names net)) (node_outputs nodes) ≡ true
        → nodes_of names (map (place_in names) (signal_names net)) (nodes_said net names number nodes) ≡ nodes
    nodes_only number [] h k = refl
    nodes_only number (node ∷ nodes) h k =
        let parts = and_parts (is_node (count_of net) node) (list_all (is_node (count_of net)) nodes) h in
        let both = and_parts (is_in (all_names net) node.name) (list_all (is_in (all_names net)) (node_outputs nodes)) k in
        let low = and_parts (node.cover.width == length node.inputs) (list_all (λ s. nat_lt s (count_of net)) node.inputs) parts.0 in
        let signals = map (place_in names) (signal_names net) in
        let rest = nodes_of names signals (nodes_said net names (number + length (node_lines net node)) nodes) in
        ap (λ (w : List ℕ). let n : Node = record { name = w; inputs = map (signal_at signals) (map (place_in names) (map (signal_name net) node.inputs)); cover = node.cover } in n ∷ rest) (name_back names node.name (known node.name both.0))
        ∙ ap (λ (ns : List ℕ). let n : Node = record { name = node.name; inputs = ns; cover = node.cover } in n ∷ rest) (numbers_back node.inputs low.1)
        ∙ ap (λ (ns : List Node). node ∷ ns) (nodes_only (number + length (node_lines net node)) nodes parts.1 both.1)

    nodes_no_latches : (signals : List ℕ) (number : ℕ) (latches : List Latch) → nodes_of names signals (latches_said net names number latches) ≡ []
    nodes_no_latches signals number [] = refl
    nodes_no_latches signals number (latch ∷ latches) = nodes_no_latches signals (number + 1) latches

    nodes_no_clock : (signals : List ℕ) (clock : Option (List ℕ)) → nodes_of names signals (clock_said net names clock) ≡ []
    nodes_no_clock signals None = refl
    nodes_no_clock signals (Some clock) = refl

    pub nodes_back : nodes_of names (map (place_in names) (signal_names net)) (blif_said net names) ≡ net.nodes
    nodes_back =
        let signals = map (place_in names) (signal_names net) in
        let heads = head_said net names in
        let latches = latches_said net names (1 + length (head_words net names)) net.latches in
        let nodes = nodes_said net names (1 + length (head_words net names ++ latch_lines_of net names)) net.nodes in
        filter_map-append (λ (numbered : NumberedStatement). node_of names signals numbered.statement) (heads ++ latches) nodes
        ∙ ap (λ (ns : List Node). ns ++ nodes_of names signals nodes) (filter_map-append (λ (numbered : NumberedStatement). node_of names signals numbered.statement) heads latches)
        ∙ ap (λ (ns : List Node). (ns ++ nodes_of names signals latches) ++ nodes_of names signals nodes) (nodes_no_clock signals net.clock)
        ∙ ap (λ (ns : List Node). ns ++ nodes_of names signals nodes) (nodes_no_latches signals (1 + length (head_words net names)) net.latches)
        ∙ nodes_only (1 + length (head_words net names ++ latch_lines_of net names)) net.nodes (keeps net).nodes (nodes_in net)

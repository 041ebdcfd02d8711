-- The names of the netlist that is put together are names, and differ: each is that of an input or a start, a free one, or that of an output with a node.
use Rattle.std.proofs.Common.{ℕ, suc, zero, ◌≡◌, ◌≢◌, ◌<◌, ◌≤◌, ◌+◌, ◌^◌, ◌⊎◌, ◌&&◌, not, Bool, true, false, List, [], ◌∷◌, ◌++◌, length, map, Some, None, Option, refl, sym, ap, subst, ◌∙◌, inl, inr, arith}
use Rattle.std.specs.Prelude.{All, IsTrue, option_to_list, slice_get, slice_index_or, if◌then◌else◌}
use Rattle.std.specs.List.{list_all, list_any}
use Rattle.std.specs.Str.{bytes_eq}
use Rattle.std.proofs.lemmas.Bool.{cases_lt, false≢true}
use Rattle.std.proofs.lemmas.List.{length-append, length-map}
use Rattle.std.proofs.lemmas.List.Folds.{list_any_at}
use Rattle.std.proofs.lemmas.Option.{get_or_from_slice_get}
use Rattle.std.proofs.lemmas.Slice.Eq.{bytes_eq-Decides}
use Rattle.act1_base.proofs.ListGets.{contains_at, get_in, get_map, get_mapped, get_within}
use Rattle.act1_base.specs.Names.{are_different, is_name}
use Rattle.act1_blif.specs.declared.blif.Latch.{Latch}
use Rattle.act1_blif.specs.declared.blif.Node.{Node}
use Rattle.act1_blif.specs.Rules.{names_of, with_clock}
use Rattle.act1_circuit.specs.declared.circuit.Circuit.{Circuit}
use Rattle.act1_circuit.specs.declared.circuit.Output.{Output}
use Rattle.act1_circuit.specs.declared.circuit.Start.{Start}
use Rattle.act1_circuit.specs.PairForm.{has_clock}
use Rattle.act1_fuses.specs.Rules.{IsApart}
use Rattle.act1_meaning.specs.Extracted.{count_below, first_node, is_outside, is_slave}
use Rattle.act1_meaning.specs.ArrayNames.{is_free, is_own_signal, module_name, outside_count, taken_names}
use Rattle.act1_extract.specs.declared.plan.Layout.{Layout}
use Rattle.act1_extract.specs.Layout.{IsLayout, latch_of}
use Rattle.act1_extract.specs.Net.{AreNodes, IsExtractable, output_names, start_names}
use Rattle.act1_extract.specs.Parts.{free_names}
use Rattle.act1_extract.specs.Picked.{IsOutNode, has_node, no_output}
use Rattle.act1_extract.proofs.FineNames.{module_fine}
use Rattle.act1_extract.proofs.FreeNames.{one_number}
use Rattle.act1_extract.proofs.NetNumbers.{outside_few, starts_few}
use Rattle.act1_extract.proofs.NetOutputs.{source_there}
use Rattle.act1_extract.proofs.NodeParts.{IsOfConstant, IsOfModule, IsOfOutput, each_node, name_found, one}
use Rattle.act1_extract.proofs.Picks.{place_low}
use Rattle.act1_extract.proofs.SignalNames.{out_name}
use Rattle.act1_extract.proofs.Slaves.{start_count}
use Rattle.act1_extract.proofs.Tests.{all_by, different_by, from_pairs, get_behind, get_front, get_split, joined, none_by}

module _ {X : Type 0} where
  -- what all elements have, at a place
  all_at : (P : X → Type 0) (xs : List X) (k : ℕ) (x : X) → All P xs → slice_get xs k ≡ Some x → P x
  all_at P xs k x h there = subst P (get_or_from_slice_get xs k x x there) (h k x (get_within xs k x there))

  -- an element of three lists is one of those with another list before them
  later : (ks ls ms ns : List X) (k : ℕ) (x : X) → slice_get (ls ++ ms ++ ns) k ≡ Some x → (n : ℕ) × (slice_get (ks ++ ls ++ ms ++ ns) n ≡ Some x)
  later [] ls ms ns k x there = (k, there)
  later (z ∷ ks) ls ms ns k x there = let r = later ks ls ms ns k x there in (suc r.0, r.1)

turned : (b : Bool) → not b ≡ true → b ≡ false
turned false e = refl
turned true e = absurd (false≢true e)

-- a free name is none of those that are taken
free_apart : (c : Circuit) (number k : ℕ) (name : List ℕ) → is_free c number ≡ true → slice_get (taken_names c) k ≡ Some name → module_name number ≢ name
free_apart c number k name free there same =
    false≢true (sym (ap not (list_any_at (bytes_eq (module_name number)) (taken_names c) k [] (get_within (taken_names c) k name there) here)) ∙ free)
  where
    here : bytes_eq (module_name number) (slice_index_or (taken_names c) k []) ≡ true
    here = ap (bytes_eq (module_name number)) (get_or_from_slice_get (taken_names c) k name [] there) ∙ (bytes_eq-Decides (module_name number) name).1 same

module _ (c : Circuit) where
  abbrev output_name : Output → List ℕ
  output_name o = o.name

  -- the names of inputs and starts, and those of outputs too
  abbrev pub signal_names : List (List ℕ)
  signal_names = c.inputs ++ start_names c

  abbrev pub port_names : List (List ℕ)
  port_names = c.inputs ++ output_names c ++ start_names c

  -- the name is one of these
  abbrev pub IsIn : List (List ℕ) → List ℕ → Type 0
  IsIn ns name = (k : ℕ) × (slice_get ns k ≡ Some name)

  signal_port : (k : ℕ) (name : List ℕ) → slice_get signal_names k ≡ Some name → IsIn port_names name
  signal_port k name there = by (get_split c.inputs (start_names c) k name there)
    where
      by : (slice_get c.inputs k ≡ Some name) ⊎ ((j : ℕ) × (k ≡ length c.inputs + j) × (slice_get (start_names c) j ≡ Some name)) → IsIn port_names name
      by (inl h) = (k, get_front (c.inputs ++ output_names c) (start_names c) k name (get_front c.inputs (output_names c) k name h))
      by (inr (j, at, h)) = (length (c.inputs ++ output_names c) + j, get_behind (c.inputs ++ output_names c) (start_names c) (length (c.inputs ++ output_names c) + j) j name h refl)

  output_port : (i : ℕ) (o : Output) → slice_get c.outputs i ≡ Some o → IsIn port_names o.name
  output_port i o there = (
    length c.inputs + i,
    get_front (c.inputs ++ output_names c) (start_names c) (length c.inputs + i) o.name
        (get_behind c.inputs (output_names c) (length c.inputs + i) i o.name (get_map output_name c.outputs i o there) refl),
  )

  -- the kinds of a signal's name: of an input or a start, a free one, and of an output
  abbrev IsSignalName : ℕ → List ℕ → Type 0
  IsSignalName k name = slice_get signal_names k ≡ Some name

  abbrev IsNumbered : ℕ → List ℕ → Type 0
  IsNumbered k name = (number : ℕ) × (number < 2 ^ 64) × (is_free c number ≡ true) × (name ≡ module_name number) × (k ≡ first_node c + count_below (is_free c) number)

  abbrev IsOutputName : ℕ → ℕ → List ℕ → Type 0
  IsOutputName base k name = (i : ℕ) × (o : Output) × (slice_get c.outputs i ≡ Some o) × (is_own_signal c o ≡ false) × (name ≡ o.name) × (k ≡ first_node c + (base + count_below (has_node c) i))

  abbrev pub IsNamed : ℕ → ℕ → List ℕ → Type 0
  IsNamed base k name = IsSignalName k name ⊎ (IsNumbered k name ⊎ IsOutputName base k name)

  port_free : (number : ℕ) (name : List ℕ) → is_free c number ≡ true → IsIn port_names name → module_name number ≢ name
  port_free number name free (k, there) = let r = later (option_to_list c.clock) c.inputs (output_names c) (start_names c) k name there in free_apart c number r.0 name free r.1

  clock_free : (number : ℕ) (name : List ℕ) → is_free c number ≡ true → c.clock ≡ Some name → module_name number ≢ name
  clock_free number name free clock =
      free_apart c number 0 name free
      (subst (λ (k : Option (List ℕ)). slice_get (option_to_list k ++ c.inputs ++ output_names c ++ start_names c) 0 ≡ Some name) (sym clock) refl)

  module _ (ok : IsExtractable c) (base : ℕ) where
    signal_free : (k j : ℕ) (a b : List ℕ) → IsSignalName k a → IsNumbered j b → a ≢ b
    signal_free k j a b there (number, low, free, is, at) same = port_free number a free (signal_port k a there) (sym is ∙ sym same)

    output_free : (k j : ℕ) (a b : List ℕ) → IsOutputName base k a → IsNumbered j b → a ≢ b
    output_free k j a b (i, o, there, none, named, place) (number, low, free, is, at) same = port_free number o.name free (output_port i o there) (sym is ∙ sym same ∙ named)

    signal_output : (k j : ℕ) (a b : List ℕ) → IsSignalName k a → IsOutputName base j b → a ≢ b
    signal_output k j a b there (i, o, at, none, named, place) same =
        ok.clear i (record { output = o; there = at; named = contains_at signal_names k o.name (there ∙ ap (λ (n : List ℕ). Some n) (same ∙ named)); other = none })

    free_free : (k j : ℕ) (a b : List ℕ) → IsNumbered k a → IsNumbered j b → k < j → a ≢ b
    free_free k j a b (m, low, free, is, at) (n, high, too, named, place) less same =
        let count : count_below (is_free c) m ≡ count_below (is_free c) n = ap (count_below (is_free c)) (one_number m n low high (sym is ∙ same ∙ named)) in
        absurd (omega arith)

    output_output : (k j : ℕ) (a b : List ℕ) → IsOutputName base k a → IsOutputName base j b → k < j → a ≢ b
    output_output k j a b (m, o, there, none, named, at) (n, u, too, nothing, is, place) less same = by (cases_lt m n) (cases_lt n m)
      where
        by : (m < n) ⊎ (n ≤ m) → (n < m) ⊎ (m ≤ n) → ⊥
        by (inl up) q =
            from_pairs (λ (x y : List ℕ). x ≢ y) (output_names c) ok.rules.names.outputs m n o.name u.name (get_map output_name c.outputs m o there) (get_map output_name c.outputs n u too) up
            (sym named ∙ same ∙ is)
        by (inr high) (inl down) =
            from_pairs (λ (x y : List ℕ). x ≢ y) (output_names c) ok.rules.names.outputs n m u.name o.name (get_map output_name c.outputs n u too) (get_map output_name c.outputs m o there) down
            (sym is ∙ sym same ∙ named)
        by (inr high) (inr low) =
            let one_place : m ≡ n = omega arith in
            let count : count_below (has_node c) m ≡ count_below (has_node c) n = ap (count_below (has_node c)) one_place in
            absurd (omega arith)

    pub apart : (k j : ℕ) (a b : List ℕ) → IsNamed base k a → IsNamed base j b → k < j → a ≢ b
    apart k j a b (inl s) (inl t) less same = from_pairs (λ (x y : List ℕ). x ≢ y) signal_names ok.rules.names.inputs k j a b s t less same
    apart k j a b (inl s) (inr (inl t)) less same = signal_free k j a b s t same
    apart k j a b (inl s) (inr (inr t)) less same = signal_output k j a b s t same
    apart k j a b (inr (inl s)) (inl t) less same = signal_free j k b a t s (sym same)
    apart k j a b (inr (inl s)) (inr (inl t)) less same = free_free k j a b s t less same
    apart k j a b (inr (inl s)) (inr (inr t)) less same = output_free j k b a t s (sym same)
    apart k j a b (inr (inr s)) (inl t) less same = signal_output j k b a t s (sym same)
    apart k j a b (inr (inr s)) (inr (inl t)) less same = output_free k j a b s t same
    apart k j a b (inr (inr s)) (inr (inr t)) less same = output_output k j a b s t less same

    port_fine : (name : List ℕ) → IsIn port_names name → is_name name ≡ true
    port_fine name (k, there) = all_at (λ (n : List ℕ). is_name n ≡ true) port_names k name ok.rules.names.names there

    pub fine : (k : ℕ) (name : List ℕ) → IsNamed base k name → is_name name ≡ true
    fine k name (inl s) = port_fine name (signal_port k name s)
    fine k name (inr (inl (number, low, free, is, at))) = ap is_name is ∙ module_fine number low
    fine k name (inr (inr (i, o, there, none, named, at))) = ap is_name named ∙ port_fine o.name (output_port i o there)

    -- what the clock's name has
    clock_rules : (clock : List ℕ) → c.clock ≡ Some clock → IsApart (Some clock) port_names
    clock_rules clock is = subst (λ (k : Option (List ℕ)). IsApart k port_names) is ok.rules.names.clock

    clock_port : (clock name : List ℕ) → c.clock ≡ Some clock → IsIn port_names name → clock ≢ name
    clock_port clock name is (k, there) same = all_at (λ (n : List ℕ). n ≢ clock) port_names k name (clock_rules clock is).1 there (sym same)

    pub clock_apart : (clock : List ℕ) → c.clock ≡ Some clock → (k : ℕ) (name : List ℕ) → IsNamed base k name → clock ≢ name
    clock_apart clock is k name (inl s) same = clock_port clock name is (signal_port k name s) same
    clock_apart clock is k name (inr (inl (number, low, free, named, at))) same = clock_free number clock free is (sym named ∙ sym same)
    clock_apart clock is k name (inr (inr (i, o, there, none, named, at))) same = clock_port clock o.name is (output_port i o there) (same ∙ named)

module _ (c : Circuit) (ok : IsExtractable c) (l : Layout) (layout : IsLayout c l) (names inputs : List (List ℕ)) (latches : List Latch) (nodes : List Node) (e : inputs ≡ c.inputs)
    (f : latches ≡ map (latch_of c l) c.starts) (p : AreNodes c l names nodes) (limit : ℕ) (low : limit ≡ length c.inputs + length c.outputs + length c.starts + l.outside + 3)
    (found : names ≡ free_names c limit) (enough : l.outside + 2 ≤ length names) where
  abbrev latch_name : Latch → List ℕ
  latch_name latch = latch.name

  abbrev start_name : Start → List ℕ
  start_name start = start.name

  abbrev node_name : Node → List ℕ
  node_name node = node.name

  abbrev base : ℕ
  base = outside_count c + one l.has_zero + one l.has_one

  abbrev all : List (List ℕ)
  all = names_of inputs latches nodes

  renamed : (starts : List Start) → map latch_name (map (latch_of c l) starts) ≡ map start_name starts
  renamed [] = refl
  renamed (s ∷ ss) = ap (λ (ns : List (List ℕ)). s.name ∷ ns) (renamed ss)

  all_are : all ≡ signal_names c ++ map node_name nodes
  all_are = λ i. e i ++ (ap (map latch_name) f ∙ renamed c.starts) i ++ map node_name nodes

  signals_long : length (signal_names c) ≡ first_node c
  signals_long = let x = start_count c ok.rules.range ok.form ok.rules.rise in omega (arith, length-append c.inputs (start_names c), length-map c.starts start_name)

  limit_low : limit < 2 ^ 64
  limit_low =
      let few = starts_few c ok in
      let others = outside_few c ok l layout in
      let ports = ok.rules.ports in omega arith

  -- a name that was found for a node before those of outputs
  numbered : (k j : ℕ) (name : List ℕ) → j < base → k ≡ first_node c + j → name ≡ slice_index_or names j [] → IsNumbered c k name
  numbered k j name small at is =
      let outside = layout.outside in
      let x = one_most l.has_zero in
      let y = one_most l.has_one in
      let r = name_found c names limit j found (omega arith) in
      let less = r.1 in
      let most = limit_low in
      let count = r.3 in (r.0, omega arith, r.2, is ∙ r.4, omega arith)
    where
      one_most : (t : Bool) → one t ≤ 1
      one_most true = omega arith
      one_most false = omega arith

  node_named : (k j : ℕ) (node : Node) → slice_get nodes j ≡ Some node → k ≡ first_node c + j → IsNamed c base k node.name
  node_named k j node there at = by (each_node c l names nodes p j node there)
    where
      by : IsOfModule c l names nodes p j node ⊎ (IsOfConstant c l names nodes p j node ⊎ IsOfOutput c l names nodes p j node) → IsNamed c base k node.name
      by (inl (m, small, none, count, is)) =
          let less = place_low (is_outside c) (length c.modules) m small (ap not none) in
          inr (inl (numbered k (count_below (is_outside c) m) node.name (omega arith) (omega arith) is.named))
      by (inr (inl (v, far, near, is))) = inr (inl (numbered k j node.name near at is.named))
      by (inr (inr (i, small, has, count, is))) =
          let o = get_in c.outputs i small in
          let same = get_or_from_slice_get c.outputs i o.0 no_output o.1 in
          let node_is = subst (λ (u : Output). IsOutNode l.signals u.name u.source node) same is in
          inr (inr (i, o.0, o.1, turned (is_own_signal c o.0) (ap (λ (u : Output). not (is_own_signal c u)) (sym same) ∙ has), out_name l.signals o.0.source o.0.name node (source_there c ok i o.0 o.1).1 node_is, omega arith))

  each_name : (k : ℕ) (name : List ℕ) → slice_get all k ≡ Some name → IsNamed c base k name
  each_name k name there = by (get_split (signal_names c) (map node_name nodes) k name (ap (λ (ns : List (List ℕ)). slice_get ns k) (sym all_are) ∙ there))
    where
      by : (slice_get (signal_names c) k ≡ Some name) ⊎ ((j : ℕ) × (k ≡ length (signal_names c) + j) × (slice_get (map node_name nodes) j ≡ Some name)) → IsNamed c base k name
      by (inl h) = inl h
      by (inr (j, at, h)) =
          let r = get_mapped node_name nodes j name h in
          let long = signals_long in
          subst (λ (n : List ℕ). IsNamed c base k n) r.2 (node_named k j r.0 r.1 (omega arith))

  all_fine : list_all is_name all ≡ true
  all_fine = all_by is_name all (λ k name there. fine c ok base k name (each_name k name there))

  all_differ : are_different all ≡ true
  all_differ = different_by all (λ k j a b g h less. apart c ok base k j a b (each_name k a g) (each_name j b h) less)

  pub names_fine : (clock : Option (List ℕ)) → clock ≡ c.clock → list_all is_name (with_clock clock all) ≡ true
  names_fine None is = all_fine
  names_fine (Some clock) is = joined (is_name clock) (list_all is_name all) (clock_rules c ok base clock (sym is)).0 all_fine

  pub names_differ : (clock : Option (List ℕ)) → clock ≡ c.clock → are_different (with_clock clock all) ≡ true
  names_differ None is = all_differ
  names_differ (Some clock) is =
      joined (not (list_any (bytes_eq clock) all)) (are_different all)
      (ap not (none_by (bytes_eq clock) all (λ k name there same. clock_apart c ok base clock (sym is) k name (each_name k name there) ((bytes_eq-Decides clock name).0 same)))) all_differ

-- In the circuit of a netlist no output has the name of an input or a latch but another source.
use Rattle.std.proofs.Common.{ℕ, ◌≡◌, ◌⊎◌, ◌<◌, ◌+◌, ◌&&◌, ◌==◌, Bool, true, false, List, [], ◌++◌, length, map, get_or, Option, Some, refl, sym, ap, subst, ◌∙◌, inl, inr, arith, slice_get, Contains}
use Rattle.std.specs.Str.{bytes_eq}
use Rattle.std.proofs.lemmas.Bool.{eq-eqb, false≢true}
use Rattle.std.proofs.lemmas.List.{length-append}
use Rattle.std.proofs.lemmas.List.Elements.{All-contains, Contains-append_cases}
use Rattle.std.proofs.lemmas.Option.{get_or_from_slice_get}
use Rattle.std.proofs.lemmas.Slice.Eq.{bytes_eq-Decides}
use Rattle.act1_base.proofs.ListGets.{contains_at, get_map, get_mapped, get_within, one_at, place_of}
use Rattle.act1_blif.specs.declared.blif.Blif.{Blif}
use Rattle.act1_blif.specs.declared.blif.Latch.{Latch}
use Rattle.act1_blif.specs.declared.blif.Node.{Node}
use Rattle.act1_blif.specs.Names.{signal_name, signal_names}
use Rattle.act1_circuit.specs.declared.circuit.Circuit.{Circuit}
use Rattle.act1_circuit.specs.declared.circuit.Output.{Output}
use Rattle.act1_circuit.specs.declared.circuit.Source.{Source}
use Rattle.act1_circuit.specs.declared.circuit.Start.{Start}
use Rattle.act1_meaning.specs.ArrayNames.{has_name, IsClash}
use Rattle.act1_meaning.specs.Meaning.{Means, StartsLatch}
use Rattle.act1_map.specs.Meaning.{PortsOfNet}
use Rattle.act1_map.specs.Own.{HasOwnSources}
use Rattle.act1_net.specs.declared.net.Net.{Net}
use Rattle.act1_net.specs.declared.net.NetTerm.{NetTerm}
use Rattle.act1_net.specs.declared.net.NetTerm.TheVariants as term
use Rattle.act1_net.specs.Net.{IsNetOf, place_in}
use Rattle.act1_net.proofs.Chosen.{chosen_from, get_before, get_behind}
use Rattle.act1_base.proofs.Elements.{any_of, mapped}
use Rattle.act1_planned.proofs.PortNames.{below, one_number, signals_apart}
use Rattle.act1_flow.specs.Steps.{HasOwnTerms}

both_true : (a b : Bool) → a ≡ true → b ≡ true → (a && b) ≡ true
both_true true b h k = k
both_true false b h k = absurd (false≢true h)

same_bytes : (a b : List ℕ) → a ≡ b → bytes_eq a b ≡ true
same_bytes a b e = grind (arith, bytes_eq-Decides a b)

module _ (b : Blif) (kept : List Bool) (n : Net) (c : Circuit) (is : IsNetOf b kept n) (own : HasOwnTerms b kept n) (means : Means c b) (ports : PortsOfNet c n) (sources : HasOwnSources c n) where
  abbrev latch_names : List (List ℕ)
  latch_names = map (λ (latch : Latch). latch.name) b.latches

  abbrev node_names : List (List ℕ)
  node_names = map (λ (node : Node). node.name) b.nodes

  -- the signal of the netlist that an output is
  signal_of : (i : ℕ) (o : Output) → slice_get c.outputs i ≡ Some o → (s : ℕ) × (slice_get b.outputs i ≡ Some s) × (signal_name b s ≡ o.name)
  signal_of i o e =
      get_mapped (signal_name b) b.outputs i o.name
      (ap (λ (names : List (List ℕ)). slice_get names i) (sym means.ports.outputs) ∙ get_map (λ (p : Output). p.name) c.outputs i o e)

  -- the signal of a name is one alone
  signal_is : (i s k : ℕ) (name : List ℕ) → slice_get b.outputs i ≡ Some s → signal_name b s ≡ name → slice_get (signal_names b) k ≡ Some name → s ≡ k
  signal_is i s k name e named at =
      one_number (signal_names b) (signals_apart c b means.ports) s k (below c b means.ports s (contains_at b.outputs i s e)) (get_within (signal_names b) k name at)
      (named ∙ sym (get_or_from_slice_get (signal_names b) k name [] at))

  input_name : (k : ℕ) (name : List ℕ) → slice_get b.inputs k ≡ Some name → slice_get (signal_names b) k ≡ Some name
  input_name k name e =
      let low = get_within b.inputs k name e in
      get_before (b.inputs ++ latch_names) node_names k (omega (arith, low, length-append b.inputs latch_names)) ∙ get_before b.inputs latch_names k low ∙ e

  latch_name : (k : ℕ) (name : List ℕ) → slice_get latch_names k ≡ Some name → slice_get (signal_names b) (length b.inputs + k) ≡ Some name
  latch_name k name e =
      let low = get_within latch_names k name e in
      get_before (b.inputs ++ latch_names) node_names (length b.inputs + k) (omega (arith, low, length-append b.inputs latch_names)) ∙ get_behind b.inputs latch_names k (length b.inputs + k) refl ∙ e

  -- an output with the name of an input has that input as its source
  of_input : (i : ℕ) (o : Output) → slice_get c.outputs i ≡ Some o → Contains c.inputs o.name → has_name c o.name o.source ≡ true
  of_input i o there named =
      let (s, output, name_is) = signal_of i o there in
      let (k, at) = place_of c.inputs o.name named in
      let at_b = ap (λ (names : List (List ℕ)). slice_get names k) (sym means.ports.inputs) ∙ at in
      let same = signal_is i s k o.name output name_is (input_name k o.name at_b) in
      let low = get_within b.inputs k o.name at_b in
      let net_output = own.inputs i k (output ∙ ap (λ (m : ℕ). let t : Option ℕ = Some m in t) same) low in
      let (out, out_there, source) = sources.inputs i k net_output (subst (λ (names : List (List ℕ)). k < length names) (sym is.inputs) low) in
      let source_is = ap (λ (p : Output). p.source) (one_at c.outputs i o out there out_there) ∙ source in
      subst (λ (x : Source). has_name c o.name x ≡ true) (sym source_is) (same_bytes (get_or c.inputs k []) o.name (get_or_from_slice_get c.inputs k o.name [] at))

  -- the latch of a name is kept, and its place
  kept_latch : (name : List ℕ) → Contains (map (λ (start : Start). start.name) c.starts) name
      → (j : ℕ) × (latch : Latch) × (slice_get n.blif.latches j ≡ Some latch) × (latch.name ≡ name) × ((k : ℕ) × (slice_get kept k ≡ Some true) × (slice_get latch_names k ≡ Some name) × (place_in kept k ≡ j))
  kept_latch name named =
      let (start, in_starts, name_is) = mapped (λ (s : Start). s.name) c.starts name named in
      let (j, latch, starts) = All-contains (λ (s : Start). (k : ℕ) × (latch : Latch) × StartsLatch n.blif s k latch) c.starts start ports.starts in_starts in
      let latch_name_is = starts.name ∙ name_is in
      let at = ap (λ (names : List (List ℕ)). slice_get names j) (sym is.latch_names) ∙ get_map (λ (l : Latch). l.name) n.blif.latches j latch starts.is ∙ ap (λ (m : List ℕ). let t : Option (List ℕ) = Some m in t) latch_name_is in
      (j, latch, starts.is, latch_name_is, chosen_from kept latch_names j name at)

  -- an output with the name of a latch has its slave as its source
  of_latch : (i : ℕ) (o : Output) → slice_get c.outputs i ≡ Some o → Contains (map (λ (start : Start). start.name) c.starts) o.name → has_name c o.name o.source ≡ true
  of_latch i o there named =
      let (s, output, name_is) = signal_of i o there in
      let (j, latch, latch_at, latch_name_is, (k, marked, at, place_is)) = kept_latch o.name named in
      let same = signal_is i s (length b.inputs + k) o.name output name_is (latch_name k o.name at) in
      let net_output = own.latches i k (output ∙ ap (λ (m : ℕ). let t : Option ℕ = Some m in t) same) marked in
      let here : length b.inputs + place_in kept k ≡ length n.blif.inputs + j = omega (arith, place_is, ap length is.inputs) in
      let net_there = net_output ∙ ap (λ (m : ℕ). let t : Option NetTerm = Some (term.Signal m) in t) here in
      let (m, (out, out_there, source), start_of) = sources.latches i j net_there (get_within n.blif.latches j latch latch_at) in
      let source_is = ap (λ (p : Output). p.source) (one_at c.outputs i o out there out_there) ∙ source in
      let latch_same = one_at n.blif.latches j start_of.of latch start_of.starts.is latch_at in
      let start_name = sym start_of.starts.name ∙ ap (λ (l : Latch). l.name) latch_same ∙ latch_name_is in
      subst (λ (x : Source). has_name c o.name x ≡ true) (sym source_is)
      (any_of (λ (t : Start). t.module == m && bytes_eq t.name o.name) c.starts start_of.start (contains_at c.starts start_of.place start_of.start start_of.there)
      (both_true (start_of.start.module == m) (bytes_eq start_of.start.name o.name) (eq-eqb start_of.start.module m start_of.here) (same_bytes start_of.start.name o.name start_name)))

  pub no_clash : (i : ℕ) → IsClash c i → ⊥
  no_clash i clash = by (Contains-append_cases c.inputs (map (λ (start : Start). start.name) c.starts) clash.output.name clash.named)
    where
      by : Contains c.inputs clash.output.name ⊎ Contains (map (λ (start : Start). start.name) c.starts) clash.output.name → ⊥
      by (inl k) = false≢true (sym clash.other ∙ of_input i clash.output clash.there k)
      by (inr k) = false≢true (sym clash.other ∙ of_latch i clash.output clash.there k)

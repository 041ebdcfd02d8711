-- A circuit with the ports of a netlist has names: they are the netlist's.
use Rattle.std.proofs.Common.{ℕ, suc, ◌≡◌, ◌≢◌, ◌⊎◌, ◌<◌, ◌≤◌, ◌&&◌, ◌==◌, nat_le, nat_lt, not, Bool, true, List, [], ◌∷◌, ◌++◌, length, map, Option, Some, None, refl, sym, subst, ◌∙◌, inl, inr, arith, get_or, Contains, All, AllPairs, IsTrue, IfSome}
use Rattle.std.specs.List.{list_all, list_any}
use Rattle.std.specs.Str.{bytes_eq}
use Rattle.std.proofs.lemmas.Bool.{and_parts, cases_order, eq-eqb, false≢true, not-true}
use Rattle.std.proofs.lemmas.Bool.Decides.{nat_tests}
use Rattle.std.proofs.lemmas.List.{length-append, length-map}
use Rattle.std.proofs.lemmas.List.Elements.{All-contains, Contains-append_cases, Contains-append_left, Contains-append_right, Contains-get_or}
use Rattle.std.proofs.lemmas.Slice.Eq.{bytes_eq-Decides}
use Rattle.act1_base.specs.Names.{are_different, are_different_numbers, is_name}
use Rattle.act1_base.proofs.ListGets.{contains_at, place_of}
use Rattle.act1_blif.specs.declared.blif.Blif.{Blif}
use Rattle.act1_blif.specs.declared.blif.Latch.{Latch}
use Rattle.act1_blif.specs.declared.blif.Node.{Node}
use Rattle.act1_blif.specs.Graph.{signal_count}
use Rattle.act1_blif.specs.Names.{signal_name, signal_names}
use Rattle.act1_blif.specs.Rules.{are_names, with_clock}
use Rattle.act1_blif.proofs.NetFacts.{all_at, latch_is, names_are, output_is, outputs_are}
use Rattle.act1_circuit.specs.declared.circuit.Circuit.{Circuit}
use Rattle.act1_circuit.specs.declared.circuit.Start.{Start}
use Rattle.act1_meaning.specs.Meaning.{Ports, StartsLatch}
use Rattle.act1_base.proofs.Elements.{here, in_map, mapped, none_passes}
use Rattle.act1_plan.specs.Legal.{output_names, start_names}
use Rattle.act1_planned.specs.Laws.{PortsAreNamed}
use Rattle.act1_planned.specs.Placed.{IsNamed}
use Rattle.act1_planned.proofs.Pairs.{all_of, pairs_across, pairs_append, pairs_front, pairs_head, pairs_map, pairs_more, pairs_none, pairs_tail}

-- what tests tell

all_pass : {A : Type 0} (test : A → Bool) (xs : List A) → list_all test xs ≡ true → (x : A) → Contains xs x → test x ≡ true
all_pass test xs h x c = let place = place_of xs x c in all_at test xs place.0 x h place.1

names_differ : (names : List (List ℕ)) → are_different names ≡ true → AllPairs (λ (a b : List ℕ). a ≢ b) names
names_differ [] h = pairs_none (λ (a b : List ℕ). a ≢ b)
names_differ (a ∷ names) h =
    let parts = and_parts (not (list_any (bytes_eq a) names)) (are_different names) h in
    pairs_more (λ (a b : List ℕ). a ≢ b) a names
    (λ b c e. let same : bytes_eq a b ≡ true = grind (arith, bytes_eq-Decides a b, e) in false≢true (sym (none_passes (bytes_eq a) names b (not-true (list_any (bytes_eq a) names) parts.0) c) ∙ same))
    (names_differ names parts.1)

numbers_differ : (ns : List ℕ) → are_different_numbers ns ≡ true → AllPairs (λ (m n : ℕ). m ≢ n) ns
numbers_differ [] h = pairs_none (λ (m n : ℕ). m ≢ n)
numbers_differ (n ∷ ns) h =
    let parts = and_parts (not (list_any (λ m. n == m) ns)) (are_different_numbers ns) h in
    pairs_more (λ (m n : ℕ). m ≢ n) n ns
    (λ m c e. false≢true (sym (none_passes (λ m. n == m) ns m (not-true (list_any (λ m. n == m) ns) parts.0) c) ∙ eq-eqb n m e))
    (numbers_differ ns parts.1)

-- of different things each stands at one place
pub one_number : (names : List (List ℕ)) → AllPairs (λ (a b : List ℕ). a ≢ b) names → (m n : ℕ) → m < length names → n < length names → get_or names m [] ≡ get_or names n [] → m ≡ n
one_number names apart m n low high e = by (cases_order m n)
  where
    by : (m ≡ n) ⊎ ((m < n) ⊎ (n < m)) → m ≡ n
    by (inl same) = same
    by (inr (inl less)) = absurd (apart m n [] less high e)
    by (inr (inr less)) = absurd (apart n m [] less low (sym e))

module _ (c : Circuit) (b : Blif) (ports : Ports c b) where
  abbrev names : List (List ℕ)
  names = signal_names b

  abbrev latch_names : List (List ℕ)
  latch_names = map (λ (latch : Latch). latch.name) b.latches

  abbrev node_names : List (List ℕ)
  node_names = map (λ (node : Node). node.name) b.nodes

  abbrev OtherName : List ℕ → List ℕ → Type 0
  OtherName x y = x ≢ y

  -- what the names of signals and the clock's are
  record Known (all : List (List ℕ)) : Type 0 where
    named : All (λ name. IsTrue (is_name name)) all
    apart : AllPairs OtherName all

  known : (all : List (List ℕ)) → are_names all ≡ true → Known all
  known all h =
      let parts = and_parts (list_all is_name all && are_different all) (nat_le (length all) 65535) h in
      let both = and_parts (list_all is_name all) (are_different all) parts.0 in
      record { named = all_of (λ name. IsTrue (is_name name)) all (all_pass is_name all both.0); apart = names_differ all both.1 }

  without : (clock : Option (List ℕ)) → Known (with_clock clock names) → Known names
  without None h = h
  without (Some clock) h = record { named = λ i x low. h.named (suc i) x (omega (arith, low)); apart = pairs_tail OtherName clock names h.apart }

  signals : Known names
  signals = without b.clock (known (with_clock b.clock names) (names_are b))

  -- no two signals of the netlist have one name
  pub signals_apart : AllPairs OtherName names
  signals_apart = signals.apart

  -- each name of the circuit is that of a signal
  start_is : (s : Start) → Contains c.starts s → Contains latch_names s.name
  start_is s h = at (All-contains (λ (start : Start). (k : ℕ) × (latch : Latch) × StartsLatch b start k latch) c.starts s ports.starts h)
    where
      at : (k : ℕ) × (latch : Latch) × StartsLatch b s k latch → Contains latch_names s.name
      at (k, latch, is) = subst (λ (name : List ℕ). Contains latch_names name) is.name (in_map (λ (l : Latch). l.name) b.latches latch (contains_at b.latches k latch is.is))

  start_named : (name : List ℕ) → Contains (start_names c) name → Contains latch_names name
  start_named name h =
      let s = mapped (λ (s : Start). s.name) c.starts name h in
      subst (λ (n : List ℕ). Contains latch_names n) s.2 (start_is s.0 s.1)

  count_is : signal_count b ≡ length names
  count_is =
      let a = length-append (b.inputs ++ latch_names) node_names in
      let d = length-append b.inputs latch_names in
      let l = length-map b.latches (λ (latch : Latch). latch.name) in
      let n = length-map b.nodes (λ (node : Node). node.name) in
      omega (arith, a, d, l, n)

  pub below : (s : ℕ) → Contains b.outputs s → s < length names
  below s h =
      let place = place_of b.outputs s h in
      let test = output_is b place.0 s place.1 in
      let low : s < signal_count b = grind (arith, nat_tests, test) in
      omega (arith, low, count_is)

  output_named : (name : List ℕ) → Contains (output_names c) name → Contains names name
  output_named name h =
      let s = mapped (signal_name b) b.outputs name (subst (λ (ns : List (List ℕ)). Contains ns name) ports.outputs h) in
      subst (λ (n : List ℕ). Contains names n) s.2 (Contains-get_or names s.0 [] (below s.0 s.1))

  is_signal : (name : List ℕ) → Contains (c.inputs ++ output_names c ++ start_names c) name → Contains names name
  is_signal name h = by (Contains-append_cases (c.inputs ++ output_names c) (start_names c) name h)
    where
      front : Contains c.inputs name ⊎ Contains (output_names c) name → Contains names name
      front (inl i) = Contains-append_left (b.inputs ++ latch_names) node_names name (Contains-append_left b.inputs latch_names name (subst (λ (ns : List (List ℕ)). Contains ns name) ports.inputs i))
      front (inr i) = output_named name i

      by : Contains (c.inputs ++ output_names c) name ⊎ Contains (start_names c) name → Contains names name
      by (inl i) = front (Contains-append_cases c.inputs (output_names c) name i)
      by (inr i) = Contains-append_left (b.inputs ++ latch_names) node_names name (Contains-append_right b.inputs latch_names name (start_named name i))

  ins_apart : AllPairs OtherName (b.inputs ++ latch_names)
  ins_apart = pairs_front OtherName (b.inputs ++ latch_names) node_names signals.apart

  abbrev Apart : Start → Start → Type 0
  Apart s t = (s.name ≢ t.name) × (s.module ≢ t.module)

  inputs_apart : AllPairs OtherName (c.inputs ++ start_names c)
  inputs_apart =
      subst (λ (ns : List (List ℕ)). AllPairs OtherName (ns ++ start_names c)) (sym ports.inputs)
      (pairs_append OtherName b.inputs (start_names c) (pairs_front OtherName b.inputs latch_names ins_apart)
      (pairs_map Apart OtherName (λ (s : Start). s.name) c.starts (λ s t i j h. h.0) ports.apart)
      (λ x y i j. pairs_across OtherName b.inputs latch_names ins_apart x y i (start_named y j)))

  outputs_apart : AllPairs OtherName (output_names c)
  outputs_apart =
      subst (λ (ns : List (List ℕ)). AllPairs OtherName ns) (sym ports.outputs)
      (pairs_map (λ (m n : ℕ). m ≢ n) OtherName (signal_name b) b.outputs
      (λ m n i j h e. h (one_number names signals.apart m n (below m i) (below n j) e)) (numbers_differ b.outputs (outputs_are b).1))

  clock_is : (clock : Option (List ℕ)) → Known (with_clock clock names)
      → IfSome clock (λ name. IsTrue (is_name name) × All (λ other. other ≢ name) (c.inputs ++ output_names c ++ start_names c))
  clock_is None h = tt
  clock_is (Some clock) h = (
    All-contains (λ name. IsTrue (is_name name)) (clock ∷ names) clock h.named (here clock clock names refl),
    all_of (λ other. other ≢ clock) (c.inputs ++ output_names c ++ start_names c) (λ other i e. pairs_head OtherName clock names h.apart other (is_signal other i) (sym e)),
  )

  init_is : (s : Start) → (k : ℕ) × (latch : Latch) × StartsLatch b s k latch → s.init ≤ 3
  init_is s (k, latch, is) =
      let parts = and_parts (nat_lt latch.input (signal_count b)) (nat_le latch.init 3) (latch_is b k latch is.is) in
      let low = parts.1 in
      let few : latch.init ≤ 3 = grind (arith, nat_tests, low) in
      let same = is.init in
      omega (arith, few, same)

  is_named : IsNamed c
  is_named = record {
    names = record {
      each = all_of (λ name. IsTrue (is_name name)) (c.inputs ++ output_names c ++ start_names c) (λ name i. All-contains (λ n. IsTrue (is_name n)) names name signals.named (is_signal name i));
      inputs = inputs_apart;
      outputs = outputs_apart;
      clock = subst (λ (clock : Option (List ℕ)). IfSome clock (λ name. IsTrue (is_name name) × All (λ other. other ≢ name) (c.inputs ++ output_names c ++ start_names c))) (sym ports.clock)
          (clock_is b.clock (known (with_clock b.clock names) (names_are b)));
    };
    inits = λ i x low. init_is (get_or c.starts i x) (ports.starts i x low);
    starts = λ i j x less low. (ports.apart i j x less low).1;
  }

pub ports_are_named : PortsAreNamed
ports_are_named c b ports = is_named c b ports

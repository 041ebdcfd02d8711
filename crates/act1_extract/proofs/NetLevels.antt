-- The nodes that are put together have levels: those of their modules, and a higher one for those of constants and outputs.
use Rattle.std.proofs.Common.{ℕ, suc, zero, ◌≡◌, ◌≢◌, ◌<◌, ◌≤◌, ◌+◌, ◌⊎◌, Bool, true, false, List, [], ◌∷◌, ◌++◌, length, map, Some, refl, sym, ap, subst, ◌∙◌, inl, inr, arith}
use Rattle.std.specs.Prelude.{Contains, slice_get, slice_index_or}
use Rattle.std.proofs.lemmas.Bool.{cases_lt, false≢true}
use Rattle.std.proofs.lemmas.List.{length-append, length-map}
use Rattle.std.proofs.lemmas.Option.{get_or_from_slice_get}
use Rattle.act1_base.proofs.ListGets.{get_in, get_last, get_more, get_within, place_of, some_is}
use Rattle.act1_blif.specs.declared.blif.Latch.{Latch}
use Rattle.act1_blif.specs.declared.blif.Node.{Node}
use Rattle.act1_blif.specs.Rules.{HasLevels}
use Rattle.act1_circuit.specs.declared.circuit.Circuit.{Circuit}
use Rattle.act1_circuit.specs.declared.circuit.Output.{Output}
use Rattle.act1_circuit.specs.declared.circuit.Source.{Source}
use Rattle.act1_circuit.specs.declared.circuit.Source.TheVariants.{Zero, One, Clock, Input, Module}
use Rattle.act1_circuit.specs.PairForm.{has_clock, outside_reads, pins_of}
use Rattle.act1_circuit.specs.Range.{HasSource}
use Rattle.act1_circuit.proofs.EveryOrder.{outside_levels}
use Rattle.act1_order.specs.Laws.{AreLevels, LevelsWithoutRing}
use Rattle.act1_meaning.specs.Extracted.{count_below, different, first_node, is_outside, is_slave, signal_of}
use Rattle.act1_meaning.specs.ArrayNames.{outside_count}
use Rattle.act1_extract.specs.declared.plan.Layout.{Layout}
use Rattle.act1_extract.specs.Layout.{IsLayout, found_signal, latch_of}
use Rattle.act1_extract.specs.Net.{AreNodes, IsExtractable}
use Rattle.act1_extract.specs.Picked.{IsOutNode, has_node, no_output}
use Rattle.act1_extract.proofs.NodeParts.{IsOfConstant, IsOfModule, IsOfOutput, each_node, nodes_long, outside_true}
use Rattle.act1_extract.proofs.Picks.{place_found, place_low, same_number}
use Rattle.act1_extract.proofs.ReadSignals.{node_reads, output_is_signal, signal_place}
use Rattle.act1_extract.proofs.Signals.{found_inputs, found_is}
use Rattle.act1_extract.proofs.Slaves.{start_count}

-- the values of a function below a number
abbrev table : (ℕ → ℕ) → ℕ → List ℕ
table f zero = []
table f (suc n) = table f n ++ f n ∷ []

table_long : (f : ℕ → ℕ) (n : ℕ) → length (table f n) ≡ n
table_long f zero = refl
table_long f (suc n) = let h = table_long f n in omega (arith, length-append (table f n) (f n ∷ []))

table_get : (f : ℕ → ℕ) (n k : ℕ) → k < n → slice_get (table f n) k ≡ Some (f k)
table_get f zero k low = absurd (omega arith)
table_get f (suc n) k low = by (λ small. table_get f n k small) (cases_lt k n)
  where
    by : (k < n → slice_get (table f n) k ≡ Some (f k)) → (k < n) ⊎ (n ≤ k) → slice_get (table f n ++ f n ∷ []) k ≡ Some (f k)
    by again (inl small) = get_more (table f n) (f n) (f k) k (again small)
    by again (inr high) =
        let long = table_long f n in
        let is : n ≡ k = omega arith in
        get_last (table f n) (f n) k (omega arith) ∙ ap (λ (i : ℕ). Some (f i)) is

table_at : (f : ℕ → ℕ) (n k : ℕ) → k < n → slice_index_or (table f n) k 0 ≡ f k
table_at f n k low = get_or_from_slice_get (table f n) k (f k) 0 (table_get f n k low)

-- a number above all values below n
abbrev above_all : (ℕ → ℕ) → ℕ → ℕ
above_all f zero = 1
above_all f (suc n) = f n + above_all f n

one_above : (f : ℕ → ℕ) (n : ℕ) → 1 ≤ above_all f n
one_above f zero = omega arith
one_above f (suc n) = let h = one_above f n in omega arith

is_above : (f : ℕ → ℕ) (n k : ℕ) → k < n → f k < above_all f n
is_above f zero k low = absurd (omega arith)
is_above f (suc n) k low = by (λ small. is_above f n k small) (cases_lt k n)
  where
    by : (k < n → f k < above_all f n) → (k < n) ⊎ (n ≤ k) → f k < f n + above_all f n
    by h (inl small) = let r = h small in omega arith
    by h (inr high) =
        let is : k ≡ n = omega arith in
        let same : f k ≡ f n = ap f is in
        let some = one_above f n in omega arith

only : (t s : ℕ) → Contains (t ∷ []) s → t ≡ s
only t s h = let at = place_of (t ∷ []) s h in by at.0 at.1
  where
    by : (i : ℕ) → slice_get (t ∷ []) i ≡ Some s → t ≡ s
    by zero e = some_is t s e
    by (suc i) e = cc

pub none_in : (s : ℕ) → Contains [] s → ⊥
none_in s h = let at = place_of [] s h in no at.0 at.1
  where
    no : (i : ℕ) → slice_get [] i ≡ Some s → ⊥
    no i e = cc

module _ (c : Circuit) (ok : IsExtractable c) (l : Layout) (layout : IsLayout c l) (names : List (List ℕ)) (nodes : List Node) (p : AreNodes c l names nodes) where
  abbrev test : ℕ → Bool
  test = is_outside c

  -- the signal is that of the node of a module
  abbrev IsOfNode : ℕ → ℕ → Type 0
  IsOfNode s m = (m < length c.modules) × (has_clock c m ≡ false) × (s ≡ first_node c + count_below test m)

  -- what the node of an output reads
  pub output_reads : (i s : ℕ) (o : Output) (node : Node) → slice_get c.outputs i ≡ Some o → IsOutNode l.signals o.name o.source node → Contains node.inputs s → (s < first_node c) ⊎ ((m : ℕ) × IsOfNode s m)
  output_reads i s o node there is h = by o.source refl is
    where
      where_at : (t : Source) → signal_of c t ≡ s → (signal_of c t < first_node c) ⊎ ((m : ℕ) × (t ≡ Module m) × (m < length c.modules) × (has_clock c m ≡ false) × (signal_of c t ≡ first_node c + count_below test m)) → (s < first_node c) ⊎ ((m : ℕ) × IsOfNode s m)
      where_at t same (inl low) = inl (omega arith)
      where_at t same (inr (m, e, low, none, at)) = inr (m, (low, none, omega arith))

      by : (t : Source) → o.source ≡ t → IsOutNode l.signals o.name t node → (s < first_node c) ⊎ ((m : ℕ) × IsOfNode s m)
      by Zero e n = absurd (none_in s (subst (λ (ns : List ℕ). Contains ns s) n.inputs_are h))
      by One e n = absurd (none_in s (subst (λ (ns : List ℕ). Contains ns s) n.inputs_are h))
      by Clock e n = absurd (output_no_clock e)
        where
          output_no_clock : o.source ≡ Clock → ⊥
          output_no_clock f = subst (λ (u : Output). u.source ≢ Clock) (get_or_from_slice_get c.outputs i o o there) (ok.form.outputs i o (get_within c.outputs i o there)) f
      by (Input k) e n =
          let same = only k s (subst (λ (ns : List ℕ). Contains ns s) n.inputs_are h) in
          where_at (Input k) same (signal_place c ok.rules.range ok.form (Input k) (output_is_signal c ok.rules.range ok.form i o (Input k) there e refl))
      by (Module k) e n =
          let same = only (found_signal l.signals (Module k)) s (subst (λ (ns : List ℕ). Contains ns s) n.inputs_are h) in
          let sig = output_is_signal c ok.rules.range ok.form i o (Module k) there e refl in
          let has = low_of e in
          let found = ap (λ (ns : List ℕ). found_signal ns (Module k)) layout.signals ∙ found_is c (Module k) has in
          where_at (Module k) (sym found ∙ same) (signal_place c ok.rules.range ok.form (Module k) sig)
        where
          low_of : o.source ≡ Module k → k < length c.modules
          low_of f = subst (λ (t : Source). HasSource c t) f (subst (λ (u : Output). HasSource c u.source) (get_or_from_slice_get c.outputs i o o there) (ok.rules.range.outputs i o (get_within c.outputs i o there)))

  module _ (level : ℕ → ℕ) (leveled : AreLevels (outside_reads c) level) where
    abbrev top : ℕ
    top = above_all level (length c.modules)

    abbrev level_by : (k : ℕ) → (k < outside_count c) ⊎ (outside_count c ≤ k) → ℕ
    level_by k (inl low) = level (place_found test (length c.modules) k low).0
    level_by k (inr high) = top

    abbrev node_level : ℕ → ℕ
    node_level k = level_by k (cases_lt k (outside_count c))

    of_module : (m k : ℕ) → m < length c.modules → has_clock c m ≡ false → count_below test m ≡ k → node_level k ≡ level m
    of_module m k low none at = by (cases_lt k (outside_count c))
      where
        by : (r : (k < outside_count c) ⊎ (outside_count c ≤ k)) → level_by k r ≡ level m
        by (inl small) = let f = place_found test (length c.modules) k small in ap level (same_number test f.0 m f.2 (outside_true c m none) (f.3 ∙ sym at))
        by (inr high) = let less = place_low test (length c.modules) m low (outside_true c m none) in absurd (omega arith)

    of_other : (k : ℕ) → outside_count c ≤ k → node_level k ≡ top
    of_other k far = by (cases_lt k (outside_count c))
      where
        by : (r : (k < outside_count c) ⊎ (outside_count c ≤ k)) → level_by k r ≡ top
        by (inl small) = absurd (omega arith)
        by (inr high) = refl

    abbrev levels : List ℕ
    levels = table node_level (length nodes)

    -- the level of the node that is read
    read_level : (j m : ℕ) → IsOfNode (first_node c + j) m → slice_index_or levels j 0 ≡ level m
    read_level j m (low, none, at) =
        let less = place_low test (length c.modules) m low (outside_true c m none) in
        let long = nodes_long c l names nodes p in
        table_at node_level (length nodes) j (omega arith) ∙ of_module m j low none (omega arith)

    rises : (k j : ℕ) (node : Node) → slice_get nodes k ≡ Some node → Contains node.inputs (first_node c + j) → slice_index_or levels j 0 < slice_index_or levels k 0
    rises k j node there h = by (each_node c l names nodes p k node there)
      where
        own : slice_index_or levels k 0 ≡ node_level k
        own = table_at node_level (length nodes) k (get_within nodes k node there)

        by_module : (m : ℕ) → m < length c.modules → has_clock c m ≡ false → count_below test m ≡ k
            → (first_node c + j < first_node c) ⊎ ((w : ℕ) × (w < length c.modules) × (has_clock c w ≡ false) × (first_node c + j ≡ first_node c + count_below test w) × Contains (slice_index_or (outside_reads c) m []) w)
            → slice_index_or levels j 0 < slice_index_or levels k 0
        by_module m low none at (inl less) = absurd (omega arith)
        by_module m low none at (inr (w, small, out, is, reads)) =
            let a = read_level j w (small, out, is) in
            let b = own ∙ of_module m k low none at in
            let up = leveled m w reads in
            omega arith

        by_output : outside_count c ≤ k → (first_node c + j < first_node c) ⊎ ((m : ℕ) × IsOfNode (first_node c + j) m) → slice_index_or levels j 0 < slice_index_or levels k 0
        by_output far (inl less) = absurd (omega arith)
        by_output far (inr (m, is)) =
            let a = read_level j m is in
            let b = own ∙ of_other k far in
            let up = is_above level (length c.modules) m is.0 in
            omega arith

        by : IsOfModule c l names nodes p k node ⊎ (IsOfConstant c l names nodes p k node ⊎ IsOfOutput c l names nodes p k node) → slice_index_or levels j 0 < slice_index_or levels k 0
        by (inl (m, low, none, at, is)) =
            let ins = is.inputs_are ∙ ap (λ (ns : List ℕ). map (found_signal ns) (different (pins_of c m))) layout.signals ∙ found_inputs c ok.rules.range m low in
            by_module m low none at (node_reads c ok.rules.range ok.form m (first_node c + j) low none (subst (λ (ns : List ℕ). Contains ns (first_node c + j)) ins h))
        by (inr (inl (v, far, near, is))) = absurd (none_in (first_node c + j) (subst (λ (ns : List ℕ). Contains ns (first_node c + j)) is.inputs_are h))
        by (inr (inr (i, low, has, at, is))) =
            let o = get_in c.outputs i low in
            let node_is = subst (λ (u : Output). IsOutNode l.signals u.name u.source node) (get_or_from_slice_get c.outputs i o.0 no_output o.1) is in
            by_output (omega arith) (output_reads i (first_node c + j) o.0 node o.1 node_is h)

    has_levels : (inputs : List (List ℕ)) (latches : List Latch) → inputs ≡ c.inputs → latches ≡ map (latch_of c l) c.starts → HasLevels inputs latches nodes
    has_levels inputs latches e f =
        let at : length inputs + length latches ≡ first_node c = let x = ap length e in let y = ap length f ∙ length-map c.starts (latch_of c l) ∙ start_count c ok.rules.range ok.form ok.rules.rise in omega arith in
        record { levels = levels; above = λ k j node there h. rises k j node there (subst (λ (s : ℕ). Contains node.inputs (s + j)) at h) }

  pub net_levels : LevelsWithoutRing → (inputs : List (List ℕ)) (latches : List Latch) → inputs ≡ c.inputs → latches ≡ map (latch_of c l) c.starts → HasLevels inputs latches nodes
  net_levels law inputs latches e f = let o = outside_levels law c ok.rules.range ok.form in has_levels o.0 o.1 inputs latches e f

-- The signals that nodes, latches and outputs read: none of them is a master's.
use Rattle.std.proofs.Common.{ℕ, suc, zero, ◌≡◌, ◌≢◌, ◌<◌, ◌≤◌, ◌+◌, ◌⊎◌, Bool, true, false, List, [], ◌∷◌, length, map, Some, refl, sym, ap, subst, ◌∙◌, inl, inr, arith}
use Rattle.std.specs.Prelude.{All, Contains, slice_get, slice_index_or, if◌then◌else◌}
use Rattle.std.specs.List.{AllByRecursion}
use Rattle.std.proofs.lemmas.Bool.{cases_lt, false≢true}
use Rattle.std.proofs.lemmas.Option.{get_or_from_slice_get, slice_get_within}
use Rattle.act1_base.proofs.ListGets.{get_mapped, place_of, some_is}
use Rattle.act1_circuit.specs.declared.circuit.Circuit.{Circuit}
use Rattle.act1_circuit.specs.declared.circuit.Output.{Output}
use Rattle.act1_circuit.specs.declared.circuit.Source.{Source}
use Rattle.act1_circuit.specs.declared.circuit.Source.TheVariants.{Zero, One, Clock, Input, Module}
use Rattle.act1_circuit.specs.PairForm.{Edge, rising, InPair, IsPair, IsPairForm, has_clock, is_clock, outside_reads, pin_of, pins_of}
use Rattle.act1_circuit.specs.Range.{HasSource, InRange}
use Rattle.act1_circuit.proofs.OutsideGraph.{reads_outside}
use Rattle.act1_circuit.proofs.PairFacts.{clock_unseen, outside_no_master, takes_has, takes_no_master}
use Rattle.act1_order.specs.Order.{Reads}
use Rattle.act1_meaning.specs.Extracted.{count_below, different, first_node, is_constant, is_outside, is_slave, signal_of}
use Rattle.act1_meaning.proofs.SourceLists.{all_different, each_pin}
use Rattle.act1_extract.proofs.Picks.{place_low}
use Rattle.act1_extract.proofs.Signals.{clocked_signal, outside_signal, pin_source}
use Rattle.act1_extract.proofs.Slaves.{slave_is}

module _ (c : Circuit) (range : InRange c) (form : IsPairForm c) where
  abbrev n : ℕ
  n = length c.modules

  -- the source is a signal that the netlist has: an input, a slave or a module outside pairs
  pub IsSignal : Source → Type 0
  IsSignal Zero = ⊥
  IsSignal One = ⊥
  IsSignal Clock = ⊥
  IsSignal (Input i) = i < length c.inputs
  IsSignal (Module m) = (m < n) × (has_clock c m ≡ true → is_slave c m ≡ true)

  -- a module is a slave, or a master, or outside pairs
  no_master : (m : ℕ) → m < n → ((edge : Edge) (takes : Source) (s : ℕ) → IsPair c edge takes m s → ⊥) → has_clock c m ≡ true → is_slave c m ≡ true
  no_master m low none e = by p.edge p.takes p.other p.is
    where
      p : InPair c m
      p = form.clocked m low e

      by : (edge : Edge) (takes : Source) (other : ℕ) → IsPair c edge takes m other ⊎ IsPair c edge takes other m → is_slave c m ≡ true
      by edge takes other (inl q) = absurd (none edge takes other q)
      by edge takes other (inr q) = slave_is c range form edge takes other m q

  pin_signal : (m pin : ℕ) (s : Source) → m < n → has_clock c m ≡ false → pin_of c m pin ≡ s → is_constant s ≡ false → IsSignal s
  unfolding IsSignal
  pin_signal m pin Zero low none e f = absurd (false≢true (sym f))
  pin_signal m pin One low none e f = absurd (false≢true (sym f))
  pin_signal m pin Clock low none e f = absurd (false≢true (sym (clock_unseen c m pin none) ∙ ap is_clock e))
  pin_signal m pin (Input i) low none e f = subst (λ (s : Source). HasSource c s) e (pin_source c range m pin low)
  pin_signal m pin (Module k) low none e f =
      (subst (λ (s : Source). HasSource c s) e (pin_source c range m pin low), no_master k (subst (λ (s : Source). HasSource c s) e (pin_source c range m pin low)) (λ edge takes r q. outside_no_master c edge takes m pin k r none e q))

  -- what a pair takes, if it is no constant
  pub taken_is_signal : (edge : Edge) (takes : Source) (m s : ℕ) → IsPair c edge takes m s → is_constant takes ≡ false → IsSignal takes
  unfolding IsSignal
  taken_is_signal edge Zero m s p f = absurd (false≢true (sym f))
  taken_is_signal edge One m s p f = absurd (false≢true (sym f))
  taken_is_signal edge Clock m s p f = absurd (p.no_clock refl)
  taken_is_signal edge (Input i) m s p f = takes_has c range edge (Input i) m s p
  taken_is_signal edge (Module k) m s p f =
      (takes_has c range edge (Module k) m s p, no_master k (takes_has c range edge (Module k) m s p) (λ other takes r q. takes_no_master c edge other (Module k) takes m s k r p refl q))

  -- the source of an output, if it is no constant
  pub output_is_signal : (i : ℕ) (o : Output) (s : Source) → slice_get c.outputs i ≡ Some o → o.source ≡ s → is_constant s ≡ false → IsSignal s
  unfolding IsSignal
  output_is_signal i o s there is f = by s is f
    where
      own : (P : Output → Type 0) → All P c.outputs → P o
      own P h = subst P (get_or_from_slice_get c.outputs i o o there) (h i o (slice_get_within c.outputs i o there))

      has : HasSource c o.source
      has = own (λ (u : Output). HasSource c u.source) range.outputs

      by : (s : Source) → o.source ≡ s → is_constant s ≡ false → IsSignal s
      by Zero e f = absurd (false≢true (sym f))
      by One e f = absurd (false≢true (sym f))
      by Clock e f = absurd (own (λ (u : Output). u.source ≢ Clock) form.outputs e)
      by (Input i) e f = subst (λ (s : Source). HasSource c s) e has
      by (Module m) e f = let low = subst (λ (s : Source). HasSource c s) e has in
          (low, no_master m low (λ edge takes r q. own (λ (u : Output). u.source ≢ Module m) q.outputs e))

  -- where its signal stands
  pub signal_place : (s : Source) → IsSignal s → (signal_of c s < first_node c) ⊎ ((m : ℕ) × (s ≡ Module m) × (m < n) × (has_clock c m ≡ false) × (signal_of c s ≡ first_node c + count_below (is_outside c) m))
  unfolding IsSignal
  signal_place Zero h = absurd h
  signal_place One h = absurd h
  signal_place Clock h = absurd h
  signal_place (Input i) h = inl (omega arith)
  signal_place (Module m) h = by (has_clock c m) refl
    where
      by : (b : Bool) → has_clock c m ≡ b → (signal_of c (Module m) < first_node c) ⊎ ((k : ℕ) × (Module m ≡ Module k) × (k < n) × (has_clock c k ≡ false) × (signal_of c (Module m) ≡ first_node c + count_below (is_outside c) k))
      by true e = let low = place_low (is_slave c) n m h.0 (h.1 e) in let is = clocked_signal c m e in inl (omega arith)
      by false e = inr (m, refl, h.0, e, outside_signal c m e)

  -- the signal of a source of a node's pins is low, or that of a node that the graph has
  abbrev IsRead : ℕ → ℕ → Type 0
  IsRead m s = (s < first_node c) ⊎ ((k : ℕ) × (k < n) × (has_clock c k ≡ false) × (s ≡ first_node c + count_below (is_outside c) k) × Reads (outside_reads c) m k)

  pin_read : (m pin : ℕ) → m < n → has_clock c m ≡ false → is_constant (pin_of c m pin) ≡ false → IsRead m (signal_of c (pin_of c m pin))
  pin_read m pin low none f = by (signal_place (pin_of c m pin) (pin_signal m pin (pin_of c m pin) low none refl f))
    where
      by : (signal_of c (pin_of c m pin) < first_node c) ⊎ ((k : ℕ) × (pin_of c m pin ≡ Module k) × (k < n) × (has_clock c k ≡ false) × (signal_of c (pin_of c m pin) ≡ first_node c + count_below (is_outside c) k)) → IsRead m (signal_of c (pin_of c m pin))
      by (inl h) = inl h
      by (inr (k, e, small, out, is)) = inr (k, small, out, is, reads_outside c m k pin low none out e)

  all_at : (P : Source → Type 0) (ss : List Source) → AllByRecursion P ss → (j : ℕ) (s : Source) → slice_get ss j ≡ Some s → P s
  all_at P [] h j s e = cc
  all_at P (t ∷ ss) h zero s e = subst P (some_is t s e) h.0
  all_at P (t ∷ ss) h (suc j) s e = all_at P ss h.1 j s e

  pub node_reads : (m s : ℕ) → m < n → has_clock c m ≡ false → Contains (map (signal_of c) (different (pins_of c m))) s → IsRead m s
  node_reads m s low none h =
      let at = place_of (map (signal_of c) (different (pins_of c m))) s h in
      let from = get_mapped (signal_of c) (different (pins_of c m)) at.0 s at.1 in
      let each = all_different (λ t. IsRead m (signal_of c t)) (pins_of c m) (each_pin (λ t. is_constant t ≡ false → IsRead m (signal_of c t)) (pins_of c m) (λ pin. pin_read m pin low none)) in
      subst (IsRead m) from.2 (all_at (λ t. IsRead m (signal_of c t)) (different (pins_of c m)) each at.0 from.0 from.1)

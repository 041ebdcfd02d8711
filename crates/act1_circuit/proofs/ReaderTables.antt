-- What is noted of the readers of a module, row by row.
use Rattle.std.proofs.Common.{ℕ, zero, suc, ◌≡◌, ◌≢◌, ◌⊎◌, ◌+◌, ◌<◌, ◌≤◌, ◌==◌, Bool, true, false, cond, List, [], length, Some, refl, sym, ap, subst, ◌∙◌, inl, inr, arith}
use Rattle.std.specs.Prelude.{slice_get, slice_index_or, slice_set}
use Rattle.std.proofs.lemmas.Bool.{cases_eq, cases_lt}
use Rattle.std.proofs.lemmas.Bool.Decides.{nat_tests}
use Rattle.std.proofs.lemmas.List.{get_or_past, length-set, get_or-set_same, get_or-set_other}
use Rattle.std.proofs.lemmas.Option.{slice_get_within}
use Rattle.act1_circuit.specs.declared.circuit.Circuit.{Circuit}
use Rattle.act1_circuit.specs.declared.circuit.Output.{Output}
use Rattle.act1_circuit.specs.declared.circuit.Source.{Source}
use Rattle.act1_circuit.specs.declared.circuit.Source.TheVariants.{Zero, One, Clock, Input, Module}
use Rattle.act1_circuit.specs.declared.readers.Readers.{Readers}
use Rattle.act1_circuit.specs.declared.readers.Readers.TheVariants as readers
use Rattle.act1_circuit.specs.PairForm.{pin_of, pins_of}
use Rattle.act1_circuit.specs.PairFormSteps.{AreReaders, AreSeen, AreSeenOut, IsReaders, ReadsOther, Seen, SeenOut, noted, noted_sources, with_reader}
use Rattle.act1_circuit.specs.Range.{InRange}
use Rattle.act1_circuit.proofs.PairDecisions.{more_readers, same_readers}

abbrev at : List Readers → ℕ → Readers
at found m = slice_index_or found m readers.Nobody

same_number : (m n : ℕ) → (m == n) ≡ true → m ≡ n
same_number m n e = grind (arith, nat_tests)

other_number : (m n : ℕ) → (m == n) ≡ false → m ≢ n
other_number m n e f = grind (arith, nat_tests)

one_module : (k m : ℕ) → Module k ≡ Module m → k ≡ m
one_module k m e = cc

-- the reader that one source more adds
abbrev Added : (ℕ → Type 0) → ℕ → ℕ → Source → ℕ → Type 0
Added P row m source r = P r ⊎ ((r ≡ row) × (row ≢ m) × (source ≡ Module m))

none_added : (P : ℕ → Type 0) (row m : ℕ) (source : Source) → (source ≡ Module m → row ≡ m) → (r : ℕ) → Added P row m source r → P r
none_added P row m source none r (inl p) = p
none_added P row m source none r (inr (e, apart, is)) = absurd (apart (none is))

keeps : (P : ℕ → Type 0) (row m : ℕ) (source : Source) (found : Readers) → (source ≡ Module m → row ≡ m) → IsReaders P found → IsReaders (Added P row m source) found
keeps P row m source found none h = same_readers P (Added P row m source) found h (none_added P row m source none) (λ r p. inl p)

noted_step : (P : ℕ → Type 0) (found : List Readers) (row m : ℕ) (source : Source) → m < length found → IsReaders P (at found m) → IsReaders (Added P row m source) (at (noted row source found) m)
noted_step P found row m Zero low h = keeps P row m Zero (at found m) (λ e. cc) h
noted_step P found row m One low h = keeps P row m One (at found m) (λ e. cc) h
noted_step P found row m Clock low h = keeps P row m Clock (at found m) (λ e. cc) h
noted_step P found row m (Input i) low h = keeps P row m (Input i) (at found m) (λ e. cc) h
noted_step P found row m (Module k) low h = by (k == row) refl
  where
    Q : ℕ → Type 0
    Q = Added P row m (Module k)

    set_by : k ≢ row → (m ≡ k) ⊎ (m ≡ k → ⊥) → IsReaders (Added P row m (Module k)) (at (slice_set found k (with_reader row (at found k))) m)
    set_by other (inl same) =
        subst (λ (i : ℕ). IsReaders (Added P row m (Module k)) (at (slice_set found k (with_reader row (at found k))) i)) (sym same)
        (subst (λ (u : Readers). IsReaders (Added P row m (Module k)) u) (sym (get_or-set_same found k (with_reader row (at found k)) readers.Nobody (let l = low in omega arith)))
        (more_readers P (Added P row m (Module k)) row (at found k) (subst (λ (i : ℕ). IsReaders P (at found i)) same h)
        (λ r q. from r q) (λ r p. inl p) (inr (refl, (λ e. other (sym same ∙ sym e)), ap Module (sym same)))))
      where
        from : (r : ℕ) → Added P row m (Module k) r → P r ⊎ (r ≡ row)
        from r (inl p) = inl p
        from r (inr (e, apart, is)) = inr e
    set_by other (inr apart) =
        subst (λ (u : Readers). IsReaders (Added P row m (Module k)) u) (sym (get_or-set_other found k m (with_reader row (at found k)) readers.Nobody apart))
        (keeps P row m (Module k) (at found m) (λ e. absurd (apart (sym (one_module k m e)))) h)

    by : (b : Bool) → (k == row) ≡ b → IsReaders (Added P row m (Module k)) (at (cond b found (slice_set found k (with_reader row (at found k)))) m)
    by true e = keeps P row m (Module k) (at found m) (λ f. sym (same_number k row e) ∙ one_module k m f) h
    by false e = set_by (other_number k row e) (cases_eq m k)

length_noted : (row : ℕ) (source : Source) (found : List Readers) → length (noted row source found) ≡ length found
length_noted row Zero found = refl
length_noted row One found = refl
length_noted row Clock found = refl
length_noted row (Input i) found = refl
length_noted row (Module k) found = by (k == row)
  where
    by : (b : Bool) → length (cond b found (slice_set found k (with_reader row (at found k)))) ≡ length found
    by true = refl
    by false = length-set found k (with_reader row (at found k))

length_sources : (row : ℕ) (sources : List Source) (j : ℕ) (found : List Readers) → length (noted_sources row sources j found) ≡ length found
length_sources row sources zero found = refl
length_sources row sources (suc j) found = length_noted row (slice_index_or sources j Zero) (noted_sources row sources j found) ∙ length_sources row sources j found

-- the reader that the first so many sources of a row add
abbrev AddedBy : (ℕ → Type 0) → ℕ → ℕ → List Source → ℕ → ℕ → Type 0
AddedBy P row m sources j r = P r ⊎ ((r ≡ row) × (row ≢ m) × (pin : ℕ) × (pin < j) × (slice_index_or sources pin Zero ≡ Module m))

noted_all : (P : ℕ → Type 0) (found : List Readers) (row m : ℕ) (sources : List Source) (j : ℕ) → m < length found → IsReaders P (at found m)
    → IsReaders (AddedBy P row m sources j) (at (noted_sources row sources j found) m)
noted_all P found row m sources zero low h = same_readers P (AddedBy P row m sources 0) (at found m) h from (λ r p. inl p)
  where
    from : (r : ℕ) → AddedBy P row m sources 0 r → P r
    from r (inl p) = p
    from r (inr (e, apart, pin, none, is)) = absurd (omega arith)
noted_all P found row m sources (suc j) low h =
    same_readers (Added (AddedBy P row m sources j) row m (slice_index_or sources j Zero)) (AddedBy P row m sources (suc j)) (at (noted_sources row sources (suc j) found) m)
    (noted_step (AddedBy P row m sources j) (noted_sources row sources j found) row m (slice_index_or sources j Zero) (let l = length_sources row sources j found in omega arith) (noted_all P found row m sources j low h))
    from to
  where
    from : (r : ℕ) → AddedBy P row m sources (suc j) r → Added (AddedBy P row m sources j) row m (slice_index_or sources j Zero) r
    from r (inl p) = inl (inl p)
    from r (inr (e, apart, pin, low2, is)) = by (cases_eq pin j)
      where
        by : (pin ≡ j) ⊎ (pin ≡ j → ⊥) → Added (AddedBy P row m sources j) row m (slice_index_or sources j Zero) r
        by (inl same) = inr (e, apart, ap (λ (i : ℕ). slice_index_or sources i Zero) (sym same) ∙ is)
        by (inr other) = inl (inr (e, apart, pin, omega arith, is))

    to : (r : ℕ) → Added (AddedBy P row m sources j) row m (slice_index_or sources j Zero) r → AddedBy P row m sources (suc j) r
    to r (inl (inl p)) = inl p
    to r (inl (inr (e, apart, pin, low2, is))) = inr (e, apart, pin, omega arith, is)
    to r (inr (e, apart, is)) = inr (e, apart, j, omega arith, is)

-- none of no rows reads a module
pub none_seen : (c : Circuit) (found : List Readers) → length found ≡ length c.modules → ((m : ℕ) → at found m ≡ readers.Nobody) → AreSeen c 0 found
none_seen c found all none = record { all = all; each = λ m low. subst (λ (u : Readers). IsReaders (Seen c m 0) u) (sym (none m)) (λ row s. let l = s.1 in absurd (omega arith)) }

-- one module more
pub more_seen : (c : Circuit) → InRange c → (k : ℕ) (old new : List Readers) → k < length c.modules → AreSeen c k old → new ≡ noted_sources k (pins_of c k) 8 old → AreSeen c (k + 1) new
more_seen c range k old new low seen e = record {
  all = ap length e ∙ length_sources k (pins_of c k) 8 old ∙ seen.all;
  each = λ m m_low. subst (λ (found : List Readers). IsReaders (Seen c m (k + 1)) (at found m)) (sym e)
      (same_readers (AddedBy (Seen c m k) k m (pins_of c k) 8) (Seen c m (k + 1)) (at (noted_sources k (pins_of c k) 8 old) m)
      (noted_all (Seen c m k) old k m (pins_of c k) 8 (let l = seen.all in omega arith) (seen.each m m_low)) (from m) (to m));
}
  where
    short : (m pin : ℕ) → pin_of c k pin ≡ Module m → (pin < 8) ⊎ (8 ≤ pin) → pin < 8
    short m pin is (inl h) = h
    short m pin is (inr h) = let long = (range.pins k [] low).0 in let none = get_or_past (pins_of c k) pin Zero (omega arith) in absurd (no (sym none ∙ is))
      where
        no : Zero ≡ Module m → ⊥
        no f = cc

    from : (m r : ℕ) → Seen c m (k + 1) r → AddedBy (Seen c m k) k m (pins_of c k) 8 r
    from m r (apart, below, pin, is) = by (cases_eq r k)
      where
        by : (r ≡ k) ⊎ (r ≡ k → ⊥) → AddedBy (Seen c m k) k m (pins_of c k) 8 r
        by (inl same) = let here : pin_of c k pin ≡ Module m = ap (λ (i : ℕ). pin_of c i pin) (sym same) ∙ is in inr (same, (λ f. apart (same ∙ f)), pin, short m pin here (cases_lt pin 8), here)
        by (inr other) = inl (apart, omega arith, pin, is)

    to : (m r : ℕ) → AddedBy (Seen c m k) k m (pins_of c k) 8 r → Seen c m (k + 1) r
    to m r (inl (apart, below, pin, is)) = (apart, omega arith, pin, is)
    to m r (inr (e, apart, pin, low2, is)) = ((λ f. apart (sym e ∙ f)), omega arith, pin, ap (λ (i : ℕ). pin_of c i pin) e ∙ is)

-- all modules, and no output
pub modules_seen : (c : Circuit) (k : ℕ) (found : List Readers) → k ≡ length c.modules → AreSeen c k found → AreSeenOut c 0 found
modules_seen c k found e seen = record {
  all = seen.all;
  each = λ m low. same_readers (Seen c m k) (SeenOut c m 0) (at found m) (seen.each m low) (from m) (λ r s. inl (s.0, s.2, s.3));
}
  where
    inside : (m r pin : ℕ) → pin_of c r pin ≡ Module m → (r < length c.modules) ⊎ (length c.modules ≤ r) → r < length c.modules
    inside m r pin is (inl h) = h
    inside m r pin is (inr h) = absurd (no (sym (ap (λ (ps : List Source). slice_index_or ps pin Zero) (get_or_past c.modules r [] h)) ∙ is))
      where
        no : Zero ≡ Module m → ⊥
        no f = cc

    from : (m r : ℕ) → SeenOut c m 0 r → Seen c m k r
    from m r (inl (apart, pin, is)) = let low = inside m r pin is (cases_lt r (length c.modules)) in (apart, omega arith, pin, is)
    from m r (inr (apart, j, output, low, row, at_j, is)) = absurd (omega arith)

-- one output more
pub more_outputs : (c : Circuit) (o : ℕ) (output : Output) (old new : List Readers) → slice_get c.outputs o ≡ Some output → AreSeenOut c o old → new ≡ noted (length c.modules + o) output.source old → AreSeenOut c (o + 1) new
more_outputs c o output old new there seen e = record {
  all = ap length e ∙ length_noted (length c.modules + o) output.source old ∙ seen.all;
  each = λ m m_low. subst (λ (found : List Readers). IsReaders (SeenOut c m (o + 1)) (at found m)) (sym e)
      (same_readers (Added (SeenOut c m o) (length c.modules + o) m output.source) (SeenOut c m (o + 1)) (at (noted (length c.modules + o) output.source old) m)
      (noted_step (SeenOut c m o) old (length c.modules + o) m output.source (let l = seen.all in omega arith) (seen.each m m_low)) (from m) (to m));
}
  where
    some : (x y : Output) → Some x ≡ Some y → x ≡ y
    some x y f = cc

    from : (m r : ℕ) → SeenOut c m (o + 1) r → Added (SeenOut c m o) (length c.modules + o) m output.source r
    from m r (inl h) = inl (inl h)
    from m r (inr (apart, j, it, low, row, at_j, is)) = by (cases_eq j o)
      where
        by : (j ≡ o) ⊎ (j ≡ o → ⊥) → Added (SeenOut c m o) (length c.modules + o) m output.source r
        by (inl same) =
            let here : it ≡ output = some it output (sym at_j ∙ ap (slice_get c.outputs) same ∙ there) in
            let place : r ≡ length c.modules + o = row ∙ ap (λ (i : ℕ). length c.modules + i) same in
            inr (place, (λ f. apart (place ∙ f)), ap (λ (u : Output). u.source) (sym here) ∙ is)
        by (inr other) = inl (inr (apart, j, it, omega arith, row, at_j, is))

    to : (m r : ℕ) → Added (SeenOut c m o) (length c.modules + o) m output.source r → SeenOut c m (o + 1) r
    to m r (inl (inl h)) = inl h
    to m r (inl (inr (apart, j, it, low, row, at_j, is))) = inr (apart, j, it, omega arith, row, at_j, is)
    to m r (inr (place, apart, is)) = inr ((λ f. apart (sym place ∙ f)), o, output, omega arith, place, there, is)

-- all rows
pub all_seen : (c : Circuit) (o : ℕ) (found : List Readers) → length c.outputs ≤ o → AreSeenOut c o found → AreReaders c found
all_seen c o found all seen = record {
  all = seen.all;
  each = λ m low. same_readers (SeenOut c m o) (ReadsOther c m) (at found m) (seen.each m low) (from m) (to m);
}
  where
    from : (m r : ℕ) → ReadsOther c m r → SeenOut c m o r
    from m r (apart, inl (pin, is)) = inl (apart, pin, is)
    from m r (apart, inr (j, it, row, at_j, is)) = let low = slice_get_within c.outputs j it at_j in inr (apart, j, it, omega arith, row, at_j, is)

    to : (m r : ℕ) → SeenOut c m o r → ReadsOther c m r
    to m r (inl (apart, pin, is)) = (apart, inl (pin, is))
    to m r (inr (apart, j, it, low, row, at_j, is)) = (apart, inr (j, it, row, at_j, is))

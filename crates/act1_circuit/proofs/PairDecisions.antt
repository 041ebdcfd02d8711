-- Whether two modules are a pair, by their pins and by what reads the master.
use Rattle.std.proofs.Common.{ℕ, ◌≡◌, ◌≢◌, ◌⊎◌, ◌+◌, ◌<◌, ◌==◌, Bool, true, false, cond, Decides, Option, None, List, length, Some, refl, sym, ap, subst, ◌∙◌, inl, inr, arith}
use Rattle.std.specs.Prelude.{if◌then◌else◌, nat_lt, slice_get, slice_index_or}
use Rattle.std.proofs.lemmas.Bool.{cases_eq}
use Rattle.std.proofs.lemmas.Bool.Decides.{nat_tests}
use Rattle.std.proofs.lemmas.Option.{slice_get_within, slice_get-get_or}
use Rattle.act1_circuit.specs.declared.circuit.Circuit.{Circuit}
use Rattle.act1_circuit.specs.declared.circuit.Output.{Output}
use Rattle.act1_circuit.specs.declared.circuit.Source.{Source}
use Rattle.act1_circuit.specs.declared.circuit.Source.TheVariants.{Zero, Module}
use Rattle.act1_circuit.specs.declared.readers.Readers.{Readers}
use Rattle.act1_circuit.specs.declared.readers.Readers.TheVariants as readers
use Rattle.act1_circuit.specs.PairForm.{Edge, rising, pin_of, master_pins, slave_pins, IsPair}
use Rattle.act1_circuit.specs.PairFormSteps.{AreReaders, HasMaster, IsMaster, IsPairMaster, IsReaders, only_reader, ReadsOther, with_reader}
use Rattle.act1_circuit.specs.Range.{InRange}
use Rattle.act1_circuit.proofs.PairFacts.{pins_are, source_within}

-- where exactly one is a reader, that one is found
pub only_found : (P : ℕ → Type 0) (found : Readers) (s : ℕ) → IsReaders P found → P s → ((row : ℕ) → P row → row ≡ s) → found ≡ readers.One s
only_found P readers.Nobody s h is only = absurd (h s is)
only_found P (readers.One other) s h is only = ap readers.One (only other h.0)
only_found P readers.Many s h is only = absurd (h s only)

pub is_only : (P : ℕ → Type 0) (found : Readers) (s : ℕ) → IsReaders P found → found ≡ readers.One s → P s × ((row : ℕ) → P row → row ≡ s)
is_only P found s h e = subst (λ (f : Readers). IsReaders P f) e h

same_number : (m n : ℕ) → (m == n) ≡ true → m ≡ n
same_number m n e = grind (arith, nat_tests)

other_number : (m n : ℕ) → (m == n) ≡ false → m ≢ n
other_number m n e f = grind (arith, nat_tests)

-- one reader more
pub more_readers : (P Q : ℕ → Type 0) (row : ℕ) (found : Readers) → IsReaders P found → ((r : ℕ) → Q r → P r ⊎ (r ≡ row)) → ((r : ℕ) → P r → Q r) → Q row → IsReaders Q (with_reader row found)
more_readers P Q row readers.Nobody h from to is = (is, λ r q. by r (from r q))
  where
    by : (r : ℕ) → P r ⊎ (r ≡ row) → r ≡ row
    by r (inl p) = absurd (h r p)
    by r (inr e) = e
more_readers P Q row (readers.One other) h from to is = by (other == row) refl
  where
    same : other ≡ row → (r : ℕ) → P r ⊎ (r ≡ row) → r ≡ row
    same e r (inl p) = h.1 r p ∙ e
    same e r (inr f) = f

    by : (b : Bool) → (other == row) ≡ b → IsReaders Q (cond b (readers.One row) readers.Many)
    by true e = (is, λ r q. same (same_number other row e) r (from r q))
    by false e = λ only all. other_number other row e (all other (to other h.0) ∙ sym (all row is))
more_readers P Q row readers.Many h from to is = λ only all. h only (λ r p. all r (to r p))

pub same_readers : (P Q : ℕ → Type 0) (found : Readers) → IsReaders P found → ((r : ℕ) → Q r → P r) → ((r : ℕ) → P r → Q r) → IsReaders Q found
same_readers P Q readers.Nobody h from to = λ r q. h r (from r q)
same_readers P Q (readers.One other) h from to = (to other h.0, λ r q. h.1 r (from r q))
same_readers P Q readers.Many h from to = λ only all. h only (λ r p. all r (to r p))

module _ (c : Circuit) (m s : ℕ) where
  -- the slave of a pair is the only other row that reads its master
  pub slave_reads : (edge : Edge) (takes : Source) → IsPair c edge takes m s → ReadsOther c m s
  slave_reads rising takes p = (λ e. p.apart (sym e), inl (3, ap (λ (ps : List Source). slice_index_or ps 3 Zero) (pins_are c s (slave_pins rising m s) p.slave)))

  pub only_slave : (edge : Edge) (takes : Source) → IsPair c edge takes m s → (row : ℕ) → ReadsOther c m row → row ≡ s
  only_slave edge takes p row (apart, inl (pin, e)) = by (p.pins row pin e)
    where
      by : (row ≡ m) ⊎ (row ≡ s) → row ≡ s
      by (inl same) = absurd (apart same)
      by (inr same) = same
  only_slave edge takes p row (apart, inr (j, output, at, there, is)) =
      absurd (p.outputs j output (slice_get_within c.outputs j output there) (ap (λ (o : Output). o.source) (get_read j output there) ∙ is))
    where
      get_read : (j : ℕ) (output : Output) → slice_get c.outputs j ≡ Some output → slice_index_or c.outputs j output ≡ output
      get_read j output there = some (slice_index_or c.outputs j output) output (sym (slice_get-get_or c.outputs j output (slice_get_within c.outputs j output there)) ∙ there)
        where
          some : (x y : Output) → Some x ≡ Some y → x ≡ y
          some x y e = cc

  pub pair_master : (edge : Edge) (takes : Source) → IsPair c edge takes m s → IsMaster c m
  pair_master rising takes p = (takes, p.no_clock, p.no_own, p.master)

  pub pair_slave : (edge : Edge) (takes : Source) → IsPair c edge takes m s → slice_get c.modules s ≡ Some (slave_pins rising m s)
  pair_slave rising takes p = p.slave

  -- and where all that holds they are a pair
  pub is_pair : m < length c.modules → s < length c.modules → IsMaster c m → slice_get c.modules s ≡ Some (slave_pins rising m s) → ReadsOther c m s → ((row : ℕ) → ReadsOther c m row → row ≡ s)
      → (takes : Source) × IsPair c rising takes m s
  is_pair m_low s_low is follows reads only = (
    is.0,
    record {
      apart = λ e. reads.0 (sym e);
      no_clock = is.1;
      no_own = is.2;
      «master» = is.3;
      «slave» = follows;
      pins = λ k pin e. by k pin e (cases_eq k m);
      outputs = λ j d low e. let same = only (length c.modules + j) (past j, inr (j, slice_index_or c.outputs j d, refl, slice_get-get_or c.outputs j d low, e)) in absurd (omega arith);
    },
  )
    where
      by : (k pin : ℕ) → pin_of c k pin ≡ Module m → (k ≡ m) ⊎ (k ≡ m → ⊥) → (k ≡ m) ⊎ (k ≡ s)
      by k pin e (inl same) = inl same
      by k pin e (inr apart) = inr (only k (apart, inl (pin, e)))

      past : (j : ℕ) → length c.modules + j ≢ m
      past j e = omega arith

-- a module with the pins of a slave has its master at B0, which the circuit has
pub followed_within : (c : Circuit) → InRange c → (m s : ℕ) → slice_get c.modules s ≡ Some (slave_pins rising m s) → m < length c.modules
followed_within c range m s follows = source_within c range s 3 m (ap (λ (ps : List Source). slice_index_or ps 3 Zero) (pins_are c s (slave_pins rising m s) follows))

pub same_master : (c : Circuit) (k s : ℕ) → slice_get c.modules s ≡ Some (slave_pins rising k s) → (edge : Edge) (takes : Source) (m : ℕ) → IsPair c edge takes m s → m ≡ k
same_master c k s follows rising takes m p =
    one (ap (λ (ps : List Source). slice_index_or ps 3 Zero) (sym (pins_are c s (slave_pins rising m s) p.slave) ∙ pins_are c s (slave_pins rising k s) follows))
  where
    one : Module m ≡ Module k → m ≡ k
    one e = cc

-- the slave of a pair is found as the only reader of its master
pub reader_found : (c : Circuit) (found : List Readers) → AreReaders c found → (edge : Edge) (takes : Source) (m s : ℕ) → IsPair c edge takes m s → slice_index_or found m readers.Nobody ≡ readers.One s
reader_found c found are edge takes m s p =
    only_found (ReadsOther c m) (slice_index_or found m readers.Nobody) s (are.each m (slice_get_within c.modules m (master_pins edge takes m) p.master)) (slave_reads c m s edge takes p) (only_slave c m s edge takes p)

-- what was found makes them a pair
pub found_pair : (c : Circuit) (found : List Readers) → InRange c → AreReaders c found → (m s : ℕ) → s < length c.modules → IsMaster c m → slice_get c.modules s ≡ Some (slave_pins rising m s)
    → slice_index_or found m readers.Nobody ≡ readers.One s → (takes : Source) × IsPair c rising takes m s
found_pair c found range are m s low is follows e =
    let m_low = followed_within c range m s follows in
    let only = is_only (ReadsOther c m) (slice_index_or found m readers.Nobody) s (are.each m m_low) e in
    is_pair c m s m_low low is follows only.0 only.1

-- what a test of a module's pins tells
pub pins_told : (modules : List (List Source)) (m : ℕ) (own pins : List Source) (r : Bool) → slice_get modules m ≡ Some own → Decides r (own ≡ pins)
    → (r ≡ true → slice_get modules m ≡ Some pins) × (slice_get modules m ≡ Some pins → r ≡ true)
pins_told modules m own pins r there h = (λ t. there ∙ ap (λ (ps : List Source). Some ps) (h.0 t), λ at. h.1 (some own pins (sym there ∙ at)))
  where
    some : (x y : List Source) → Some x ≡ Some y → x ≡ y
    some x y f = cc

below_told : (r n : ℕ) → r < n → nat_lt r n ≡ true
below_told r n low = grind (arith, nat_tests)

told_below : (r n : ℕ) → nat_lt r n ≡ true → r < n
told_below r n e = grind (arith, nat_tests)

-- the slave of a pair is the only reader of its master, and a module
pub only_is : (found : Readers) (n s : ℕ) → s < n → found ≡ readers.One s → only_reader found n ≡ Some s
only_is found n s low e = ap (λ (f : Readers). only_reader f n) e ∙ ap (λ (b : Bool). if b then Some s else None) (below_told s n low)

pub only_low : (found : Readers) (n s : ℕ) → only_reader found n ≡ Some s → s < n
only_low readers.Nobody n s e = cc
only_low (readers.One row) n s e = by (nat_lt row n) refl e
  where
    by : (b : Bool) → nat_lt row n ≡ b → (if b then Some row else None) ≡ Some s → s < n
    by true t f = let low = told_below row n t in let same : row ≡ s = cc in omega arith
    by false t f = cc
only_low readers.Many n s e = cc

-- no only reader, no pair
pub none_only : (c : Circuit) (found : List Readers) → AreReaders c found → (m : ℕ) → only_reader (slice_index_or found m readers.Nobody) (length c.modules) ≡ None → IsPairMaster c m → ⊥
none_only c found are m none (edge, takes, s, p) = by (sym none ∙ only_is (slice_index_or found m readers.Nobody) (length c.modules) s (slice_get_within c.modules s (slave_pins edge m s) p.slave) (reader_found c found are edge takes m s p))
  where
    by : None ≡ Some s → ⊥
    by e = cc

-- the only reader has the master where they are a pair
pub master_told : (c : Circuit) (found : List Readers) → AreReaders c found → (m s : ℕ) (o : Option ℕ) → only_reader (slice_index_or found m readers.Nobody) (length c.modules) ≡ Some s → HasMaster c s o
    → (o ≡ Some m → IsPairMaster c m) × (IsPairMaster c m → o ≡ Some m)
master_told c found are m s o only has = (λ e. to (subst (HasMaster c s) e has), λ h. from h.0 h.1 h.2 h.3)
  where
    to : HasMaster c s (Some m) → IsPairMaster c m
    to h = (rising, h.0, s, h.1)

    from : (edge : Edge) (takes : Source) (r : ℕ) → IsPair c edge takes m r → o ≡ Some m
    from edge takes r p = by (some r s (sym (only_is (slice_index_or found m readers.Nobody) (length c.modules) r (slice_get_within c.modules r (slave_pins edge m r) p.slave) (reader_found c found are edge takes m r p)) ∙ only))
      where
        some : (x y : ℕ) → Some x ≡ Some y → x ≡ y
        some x y e = cc

        each : (u : Option ℕ) → HasMaster c s u → IsPair c edge takes m s → u ≡ Some m
        each None h q = absurd (h edge takes m q)
        each (Some k) h q = ap Some (sym (same_master c k s h.1.slave edge takes m q))

        by : r ≡ s → o ≡ Some m
        by same = each o has (subst (λ (i : ℕ). IsPair c edge takes m i) same p)

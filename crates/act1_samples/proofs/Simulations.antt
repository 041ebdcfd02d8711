-- Worked examples of the texts of a simulation, of the bits with which it begins and of its cycles.
use Rattle.std.proofs.Common.{ℕ, suc, zero, ◌≡◌, ◌<◌, ◌≤◌, ◌==◌, Bool, true, false, List, [], ◌∷◌, ◌++◌, Some, Contains, refl, sym, ap, subst, inl, arith}
use Rattle.std.specs.Prelude.{codes, slice_get}
use Rattle.std.specs.Str.Lines.{lines}
use Rattle.act1_base.proofs.ListGets.{some_is}
use Rattle.act1_circuit.specs.declared.circuit.Start.{Start}
use Rattle.act1_samples.proofs.Circuits.{inverter, ring}
use Rattle.act1_sim.specs.Cycles.{outputs, AreFirstBits, IsFirstUnrest}
use Rattle.act1_sim.specs.Vectors.{AreVectorsOf, IsFirstNoVector, is_vector, output_text}

-- `0`, carriage return, line feed, `1`
two_lines : AreVectorsOf 1 (48 ∷ 13 ∷ 10 ∷ 49 ∷ []) ((false ∷ []) ∷ (true ∷ []) ∷ [])
two_lines = record { each = refl; are = refl }

-- without inputs each line is empty
empty_lines : AreVectorsOf 0 (10 ∷ 13 ∷ 10 ∷ []) ([] ∷ [] ∷ [])
empty_lines = record { each = refl; are = refl }

-- a carriage return that no line feed follows belongs to its line
last_return : IsFirstNoVector 1 (48 ∷ 10 ∷ 49 ∷ 13 ∷ []) 2
last_return = record { place = 1; numbered = refl; line = 49 ∷ 13 ∷ []; there = refl; fails = refl; first = before }
  where
    before : (k : ℕ) (other : List ℕ) → k < 1 → slice_get (lines (48 ∷ 10 ∷ 49 ∷ 13 ∷ [])) k ≡ Some other → is_vector 1 other ≡ true
    before zero other low e = ap (is_vector 1) (sym (some_is (48 ∷ []) other e))
    before (suc k) other low e = absurd (omega arith)

-- a line of outputs has a character each
printed : output_text ((true ∷ false ∷ []) ∷ [] ∷ []) ≡ codes "10" ++ 10 ∷ 10 ∷ []
printed = refl

-- a start of init 1 says its module's bit, one of init 2 doesn't
first_bits : (fill : Bool) → AreFirstBits (record { «module» = 0; init = 1; name = codes "p" } ∷ record { «module» = 1; init = 2; name = codes "q" } ∷ []) 3 fill (true ∷ fill ∷ fill ∷ [])
first_bits fill = record { one_each = refl; declared = declared; filled = filled }
  where
    starts : List Start
    starts = record { «module» = 0; init = 1; name = codes "p" } ∷ record { «module» = 1; init = 2; name = codes "q" } ∷ []

    declared : (s : Start) → Contains starts s → s.init ≤ 1 → slice_get (true ∷ fill ∷ fill ∷ []) s.module ≡ Some (s.init == 1)
    declared s (zero, low, e) says = subst (λ (t : Start). slice_get (true ∷ fill ∷ fill ∷ []) t.module ≡ Some (t.init == 1)) e refl
    declared s (suc zero, low, e) says = let same = ap (λ (t : Start). t.init) e in absurd (omega arith)
    declared s (suc (suc k), low, e) says = absurd (omega arith)

    filled : (m : ℕ) → m < 3 → ((s : Start) → Contains starts s → s.module ≡ m → 1 < s.init) → slice_get (true ∷ fill ∷ fill ∷ []) m ≡ Some fill
    filled zero low none = let over = none (record { «module» = 0; init = 1; name = codes "p" }) (0, omega arith, refl) refl in absurd (omega arith)
    filled (suc zero) low none = refl
    filled (suc (suc zero)) low none = refl
    filled (suc (suc (suc m))) low none = absurd (omega arith)

-- an inverter over `0` and `1`
inverted : (bit : Bool) → outputs inverter (bit ∷ []) ((false ∷ []) ∷ (true ∷ []) ∷ []) ≡ (true ∷ []) ∷ (false ∷ []) ∷ []
inverted bit = refl

-- the first wave leaves a ring unsettled
ring_stops : (bit : Bool) → IsFirstUnrest ring (bit ∷ []) ([] ∷ []) 0 0
ring_stops true = inl (record { within = omega arith; changes = λ e. cc; least = λ k low. absurd (omega arith) })
ring_stops false = inl (record { within = omega arith; changes = λ e. cc; least = λ k low. absurd (omega arith) })

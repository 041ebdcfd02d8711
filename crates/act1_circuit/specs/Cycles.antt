-- What a cycle does in a circuit in pair form, without any wave: what the modules hold before it and after each of its halves.
use Rattle.std.specs.Prelude.{ℕ, ◌≡◌, ◌<◌, Bool, true, false, List, length, slice_index_or}
use Rattle.act1_circuit.specs.declared.circuit.Circuit.{Circuit}
use Rattle.act1_circuit.specs.declared.circuit.Source.{Source}
use Rattle.act1_circuit.specs.Firing.{source_value, fired, IsAtRest}
use Rattle.act1_circuit.specs.PairForm.{Edge, rising, has_clock, start_module, IsPair}

-- a module's bit
abbrev pub bit : List Bool → ℕ → Bool
bit bits m = slice_index_or bits m false

-- each module without the clock on a pin has the bit that it gives
abbrev pub IsSteady : Circuit → List Bool → List Bool → Type 0
IsSteady c x bits = (m : ℕ) → m < length c.modules → has_clock c m ≡ false → fired c false x bits m ≡ bit bits m

-- each slave has the same bit in both
abbrev pub SameSlaves : Circuit → List Bool → List Bool → Type 0
SameSlaves c p q = (edge : Edge) (takes : Source) (m s : ℕ) → IsPair c edge takes m s → bit p s ≡ bit q s

-- each pair takes the same value in both
abbrev pub SameTaken : Circuit → List Bool → List Bool → List Bool → Type 0
SameTaken c x p q = (edge : Edge) (takes : Source) (m s : ℕ) → IsPair c edge takes m s → source_value false x p takes ≡ source_value false x q takes

-- of the bits after each half of a cycle, those from which a latch of the edge takes its input: a rising one takes it when the first half ends
abbrev pub taken_from : Edge → List Bool → List Bool → List Bool
taken_from rising low high = low

-- the bits before a cycle and after each of its halves: it comes to rest in both; after the first half each slave has its latch's bit and all modules outside pairs have settled, and after the second the module with a latch's start has the value that the latch takes
pub record IsCycle (c : Circuit) (x start low high : List Bool) : Type 0 where
  pub one_each : length high ≡ length c.modules
  pub low_rests : IsAtRest c false x low
  pub high_rests : IsAtRest c true x high
  pub steady : IsSteady c x low
  pub held : (edge : Edge) (takes : Source) (m s : ℕ) → IsPair c edge takes m s → bit low s ≡ bit start (start_module edge m s)
  pub taken : (edge : Edge) (takes : Source) (m s : ℕ) → IsPair c edge takes m s → bit high (start_module edge m s) ≡ source_value false x (taken_from edge low high) takes

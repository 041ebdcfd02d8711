-- The laws of circuits in pair form.
use Rattle.std.specs.Prelude.{ℕ, ◌≡◌, ◌<◌, ◌↔◌, Bool, true, false, List, length}
use Rattle.act1_circuit.specs.declared.circuit.Circuit.{Circuit}
use Rattle.act1_circuit.specs.declared.circuit.Source.{Source}
use Rattle.act1_circuit.specs.Cycles.{IsCycle, IsSteady, SameSlaves, SameTaken}
use Rattle.act1_circuit.specs.Firing.{fire_all, site_wave, IsAtRest, IsWave, Waves, low_bits, high_bits, shown}
use Rattle.act1_circuit.specs.PairForm.{Edge, is_clock, has_clock, pin_of, InPair, IsPair, IsPairForm}
use Rattle.act1_circuit.specs.Range.{HasSource, InRange}

-- in a circuit in pair form, at each clock value, with each inputs and from any bits, every wave leaves what the wave in site order leaves, and no firing changes that
abbrev pub AnyOrder : Type 0
AnyOrder = (c : Circuit) → InRange c → IsPairForm c → (clock : Bool) (x bits : List Bool) → length bits ≡ length c.modules → (ms : List ℕ) → IsWave (length c.modules) ms
    → (fire_all c clock x bits ms ≡ fire_all c clock x bits (site_wave (length c.modules))) × IsAtRest c clock x (fire_all c clock x bits ms)

-- the wave in site order is a wave
abbrev pub SiteOrderIsWave : Type 0
SiteOrderIsWave = (n : ℕ) → IsWave n (site_wave n)

-- whatever the waves of a cycle are, the circuit does in it what a latch per pair does
abbrev pub EachCycle : Type 0
EachCycle = (c : Circuit) → InRange c → IsPairForm c → (x start : List Bool) → length start ≡ length c.modules → (w : Waves) → IsWave (length c.modules) w.low → IsWave (length c.modules) w.high
    → IsCycle c x start (low_bits c start x w) (high_bits c start x w)

-- where the modules outside pairs are settled, the slaves and the inputs decide what is shown and what is taken
abbrev pub SlavesDecide : Type 0
SlavesDecide = (c : Circuit) → InRange c → IsPairForm c → (x p q : List Bool) → IsSteady c x p → IsSteady c x q → SameSlaves c p q → (shown c x p ≡ shown c x q) × SameTaken c x p q

-- the clock is on a pin of both modules of a pair
abbrev pub PairsAreClocked : Type 0
PairsAreClocked = (c : Circuit) (edge : Edge) (takes : Source) (m s : ℕ) → IsPair c edge takes m s → (has_clock c m ≡ true) × (has_clock c s ≡ true)

-- a module without the clock on a pin has another source at each
abbrev pub ClockIsUnseen : Type 0
ClockIsUnseen = (c : Circuit) (m pin : ℕ) → has_clock c m ≡ false → is_clock (pin_of c m pin) ≡ false

-- so in pair form the modules outside pairs are those without the clock on a pin
abbrev pub OutsideIsUnclocked : Type 0
OutsideIsUnclocked = (c : Circuit) → IsPairForm c → (m : ℕ) → m < length c.modules → (has_clock c m ≡ false) ↔ (InPair c m → ⊥)

-- the circuit has the source that a pair takes
abbrev pub PairsTakeSources : Type 0
PairsTakeSources = (c : Circuit) → InRange c → (edge : Edge) (takes : Source) (m s : ℕ) → IsPair c edge takes m s → HasSource c takes

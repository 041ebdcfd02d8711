-- The cycles of a simulation, in which modules fire in site order.
use Rattle.std.specs.Prelude.{ℕ, zero, suc, ◌≡◌, ◌⊎◌, ◌≤◌, ◌<◌, ◌==◌, Bool, true, false, List, [], ◌∷◌, length, map, Some, Contains, slice_get}
use Rattle.act1_circuit.specs.declared.circuit.Circuit.{Circuit}
use Rattle.act1_circuit.specs.declared.circuit.Start.{Start}
use Rattle.act1_circuit.specs.Firing.{Waves, site_wave, low_bits, high_bits, run, IsAtRest, IsLeastUnrest, RestsAlong}

-- the two waves of a cycle in which the modules fire in site order
abbrev pub in_site_order : Circuit → Waves
in_site_order c = record { low = site_wave (length c.modules); high = site_wave (length c.modules) }

-- such waves for each vector
abbrev pub site_waves : Circuit → List (List Bool) → List Waves
site_waves c xs = map (λ (x : List Bool). in_site_order c) xs

-- the outputs that are read, cycle by cycle
abbrev pub outputs : Circuit → List Bool → List (List Bool) → List (List Bool)
outputs c bits xs = run c bits xs (site_waves c xs)

-- after each wave no firing changes a bit
abbrev pub Rests : Circuit → List Bool → List (List Bool) → Type 0
Rests c bits xs = RestsAlong c bits xs (site_waves c xs)

-- a bit for each of so many modules: a start of init 0 or 1 says that of its module, and every other module has the fill
pub record AreFirstBits (starts : List Start) (count : ℕ) (fill : Bool) (bits : List Bool) : Type 0 where
  pub one_each : length bits ≡ count
  pub declared : (start : Start) → Contains starts start → start.init ≤ 1 → slice_get bits start.module ≡ Some (start.init == 1)
  pub filled : (m : ℕ) → m < count → ((start : Start) → Contains starts start → start.module ≡ m → 1 < start.init) → slice_get bits m ≡ Some fill

-- the bits with which a simulation of a circuit begins
abbrev pub BeginsWith : Circuit → Bool → List Bool → Type 0
BeginsWith c fill bits = AreFirstBits c.starts (length c.modules) fill bits

-- this is the least module that doesn't rest after the first wave of a cycle, or else after its second
abbrev pub UnrestsIn : Circuit → List Bool → List Bool → ℕ → Type 0
UnrestsIn c bits x m =
    IsLeastUnrest c false x (low_bits c bits x (in_site_order c)) m
    ⊎ (IsAtRest c false x (low_bits c bits x (in_site_order c)) × IsLeastUnrest c true x (high_bits c bits x (in_site_order c)) m)

-- both waves of a cycle leave the circuit at rest
abbrev pub RestsIn : Circuit → List Bool → List Bool → Type 0
RestsIn c bits x = IsAtRest c false x (low_bits c bits x (in_site_order c)) × IsAtRest c true x (high_bits c bits x (in_site_order c))

-- the first wave after which a firing still changes a bit is one of this cycle, and this is the least such module; cycles count from 0
abbrev pub IsFirstUnrest : Circuit → List Bool → List (List Bool) → ℕ → ℕ → Type 0
IsFirstUnrest c bits [] cycle m = ⊥
IsFirstUnrest c bits (x ∷ xs) zero m = UnrestsIn c bits x m
IsFirstUnrest c bits (x ∷ xs) (suc cycle) m = RestsIn c bits x × IsFirstUnrest c (high_bits c bits x (in_site_order c)) xs cycle m

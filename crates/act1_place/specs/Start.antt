-- The seeded start of a placement.
use Rattle.std.specs.Prelude.{ℕ, zero, suc, ◌+◌, ◌%◌, List, length, take, swap}
use Rattle.rand_pcg.specs.Lcg.{Lcg, started, increment_of}
use Rattle.rand_pcg.specs.Pcg.{multiplier_64, pcg32}
use Rattle.act1_device.specs.declared.device.Device.{Device}
use Rattle.act1_circuit.specs.declared.circuit.Circuit.{Circuit}
use Rattle.act1_circuit.specs.declared.circuit.Spot.{Spot}
use Rattle.act1_place.specs.Passes.{sites_of, Leaves}

-- the generator of a seed
abbrev pub generator : ℕ → Lcg
generator seed = started 64 multiplier_64 seed (increment_of 64 0)

-- the entries from the last of so many down to the second: each changes places with the one that a word gives, at it or before it
unfoldable pub shuffled : {A : Type 0} → ℕ → Lcg → List A → List A
shuffled zero g xs = xs
shuffled (suc zero) g xs = xs
shuffled (suc (suc i)) g xs = shuffled (suc i) (pcg32 g).1 (swap xs (i + 1) ((pcg32 g).0 % (i + 2)))

-- module m of so many starts at entry m of the shuffled sites
abbrev pub start_of : ℕ → ℕ → ℕ → ℕ → List Spot
start_of rows columns count seed = take count (shuffled (length (sites_of rows columns)) (generator seed) (sites_of rows columns))

-- the seeded start of a circuit on a device
abbrev pub seeded_start : Device → Circuit → ℕ → List Spot
seeded_start dev c seed = start_of dev.rows dev.columns (length c.modules) seed

-- the placement: what the passes leave from the seeded start
abbrev pub IsPlacement : Device → Circuit → ℕ → List Spot → Type 0
IsPlacement dev c seed spots = Leaves dev c (seeded_start dev c seed) spots

-- The order of spots, which is that of modules in an array.
use Rattle.std.specs.Prelude.{◌≡◌, ◌<◌, ◌⊎◌}
use Rattle.act1_circuit.specs.declared.circuit.Spot.{Spot}

-- by row, and then by column
abbrev pub SpotIsBefore : Spot → Spot → Type 0
SpotIsBefore a b = (a.row < b.row) ⊎ ((a.row ≡ b.row) × (a.column < b.column))

-- Exchanges of the contents of sites, and the passes that make them.
use Rattle.std.specs.Prelude.{ℕ, zero, suc, ◌≡◌, ◌<◌, ◌≤◌, ◌==◌, ◌&&◌, nat_lt, if◌then◌else◌, Bool, List, [], ◌∷◌, ◌++◌, map, flat_map, fold}
use Rattle.act1_device.specs.declared.device.Device.{Device}
use Rattle.act1_circuit.specs.declared.circuit.Circuit.{Circuit}
use Rattle.act1_circuit.specs.declared.circuit.Spot.{Spot}
use Rattle.act1_base.specs.Lists.{numbers}
use Rattle.act1_place.specs.Perimeter.{total}

-- the sites of a row of so many columns
abbrev pub row_of : ℕ → ℕ → List Spot
row_of columns row = map (λ column. let s : Spot = record { row = row; column = column } in s) (numbers 0 columns)

-- the sites of so many rows and columns, by row and then column
abbrev pub sites_of : ℕ → ℕ → List Spot
sites_of rows columns = flat_map (row_of columns) (numbers 0 rows)

-- the sites of a device
abbrev pub sites : Device → List Spot
sites dev = sites_of dev.rows dev.columns

abbrev pub is_same_spot : Spot → Spot → Bool
is_same_spot s t = (s.row == t.row) && (s.column == t.column)

-- what stood at a stands at b, and what stood at b stands at a
abbrev pub moved : Spot → Spot → Spot → Spot
moved a b s = if is_same_spot s a then b else if is_same_spot s b then a else s

abbrev pub exchange : Spot → Spot → List Spot → List Spot
exchange a b spots = map (moved a b) spots

-- no exchange of the contents of two sites, an empty one included, lessens the sum
abbrev pub IsStable : Device → Circuit → List Spot → Type 0
IsStable dev c spots = (a b : Spot) → a.row < dev.rows → a.column < dev.columns → b.row < dev.rows → b.column < dev.columns → total dev c spots ≤ total dev c (exchange a b spots)

-- each element with each later one
abbrev pub pairs : {A : Type 0} → List A → List (A × A)
pairs [] = []
pairs {A} (x ∷ xs) = map {B = A × A} (λ y. (x, y)) xs ++ pairs xs

-- an exchange where it lessens the sum
abbrev pub step_by : (List Spot → ℕ) → List Spot → Spot × Spot → List Spot
step_by sum_of spots pair =
    let other = exchange pair.0 pair.1 spots in
    if nat_lt (sum_of other) (sum_of spots) then other else spots

-- the pairs of these sites one after the other
abbrev pub pass_by : (List Spot → ℕ) → List Spot → List Spot → List Spot
pass_by sum_of all spots = fold (step_by sum_of) spots (pairs all)

abbrev pub step : Device → Circuit → List Spot → Spot × Spot → List Spot
step dev c = step_by (total dev c)

-- a pass: the pairs of the device's sites one after the other, by the sum of the half perimeters
abbrev pub pass : Device → Circuit → List Spot → List Spot
pass dev c spots = pass_by (total dev c) (sites dev) spots

-- so many passes
abbrev pub passes_by : (List Spot → ℕ) → List Spot → ℕ → List Spot → List Spot
passes_by sum_of all zero spots = spots
passes_by sum_of all (suc n) spots = pass_by sum_of all (passes_by sum_of all n spots)

abbrev pub passes : Device → Circuit → ℕ → List Spot → List Spot
passes dev c = passes_by (total dev c) (sites dev)

-- the spots that the passes leave from a start: those after which a pass makes no exchange
pub record Leaves (dev : Device) (c : Circuit) (start spots : List Spot) : Type 0 where
  pub count : ℕ
  pub after : spots ≡ passes dev c count start
  pub last : pass dev c spots ≡ spots

-- What moving one module would change, by columns and by rows.
use Rattle.std.specs.Prelude.{ℕ, Option, Some, None, AllPairs, ◌≡◌, ◌≢◌, ◌+◌, ◌*◌, ◌<◌, ◌==◌, if◌then◌else◌, true, false, List, ◌++◌, length, map, filter, slice_set, sum_by, Contains}
use Rattle.act1_circuit.specs.declared.circuit.Spot.{Spot}
use Rattle.act1_place.specs.declared.net.Place.{Place}
use Rattle.act1_place.specs.declared.net.Joins.{Joins}
use Rattle.act1_place.specs.Kept.{spot_of, kept_total, joins, touches, Occupies}
use Rattle.act1_place.specs.Passes.{exchange}
use Rattle.act1_place.specs.Perimeter.{spread}

-- the columns of a net's places, with one module in this column
abbrev pub columns_with : List Spot → ℕ → ℕ → Joins → List ℕ
columns_with spots m column n = map (λ k. if k == m then column else (spot_of spots k).column) n.modules ++ map (λ (p : Place). p.x) n.pads

-- how high a net's places are, with one module in this row
abbrev pub heights_with : List Spot → ℕ → ℕ → Joins → List ℕ
heights_with spots m row n = map (λ k. if k == m then 2 * row + 1 else 2 * (spot_of spots k).row + 1) n.modules ++ map (λ (p : Place). p.y) n.pads

-- the widths of the nets that join a module, with it in this column
abbrev pub widths_with : List Joins → List Spot → ℕ → ℕ → ℕ
widths_with nets spots m column = sum_by (λ n. spread (columns_with spots m column n)) (filter (joins m) nets)

-- the heights of the nets that join a module, with it in this row
abbrev pub spans_with : List Joins → List Spot → ℕ → ℕ → ℕ
spans_with nets spots m row = sum_by (λ n. spread (heights_with spots m row n)) (filter (joins m) nets)

-- both, with the module at this spot
abbrev pub sums_with : List Joins → List Spot → ℕ → Spot → ℕ
sums_with nets spots m s = widths_with nets spots m s.column + spans_with nets spots m s.row

-- where one module moves, the sum changes by the column and by the row
abbrev pub MoveIsBySums : Type 0
MoveIsBySums = (nets : List Joins) (spots : List Spot) (m : ℕ) (to : Spot) → m < length spots
    → kept_total nets (slice_set spots m to) + sums_with nets spots m (spot_of spots m) ≡ kept_total nets spots + sums_with nets spots m to

-- where two modules that share no net move, the sum changes by what both moves change
abbrev pub MovesAreBySums : Type 0
MovesAreBySums = (nets : List Joins) (spots : List Spot) (m o : ℕ) (b a : Spot) → m < length spots → o < length spots → m ≢ o → ((n : Joins) → Contains nets n → joins o n ≡ true → joins m n ≡ false)
    → kept_total nets (slice_set (slice_set spots m b) o a) + (sums_with nets spots m (spot_of spots m) + sums_with nets spots o (spot_of spots o)) ≡ kept_total nets spots + (sums_with nets spots m b + sums_with nets spots o a)

-- no net joins both modules
abbrev pub ShareNoNet : List Joins → Option ℕ → Option ℕ → Type 0
ShareNoNet nets m o = (n : Joins) → Contains nets n → touches o n ≡ true → touches m n ≡ false

-- the sums of the module, if there is one, with it at this spot
abbrev pub sums_of : List Joins → List Spot → Option ℕ → Spot → ℕ
sums_of nets spots None s = 0
sums_of nets spots (Some m) s = sums_with nets spots m s

-- where what stands at two sites shares no net, their exchange changes the sum by what both moves change
abbrev pub ExchangeIsBySums : Type 0
ExchangeIsBySums = (nets : List Joins) (spots : List Spot) (a b : Spot) (m o : Option ℕ) → AllPairs (λ (s t : Spot). s ≢ t) spots → Occupies spots a m → Occupies spots b o → a ≢ b → ShareNoNet nets m o
    → kept_total nets (exchange a b spots) + (sums_of nets spots m a + sums_of nets spots o b) ≡ kept_total nets spots + (sums_of nets spots m b + sums_of nets spots o a)

-- an exchange keeps the sums of a module that shares no net with those of the two sites
abbrev pub SumsStay : Type 0
SumsStay = (nets : List Joins) (spots : List Spot) (a b : Spot) (m o : Option ℕ) (k : ℕ) (s : Spot) → AllPairs (λ (s t : Spot). s ≢ t) spots → Occupies spots a m → Occupies spots b o → a ≢ b → ShareNoNet nets m (Some k) → ShareNoNet nets o (Some k)
    → sums_with nets (exchange a b spots) k s ≡ sums_with nets spots k s

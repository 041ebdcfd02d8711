-- Nets by the modules and pads that they join, as sums of half perimeters are kept.
use Rattle.std.specs.Prelude.{ℕ, ◌≡◌, ◌≢◌, ◌+◌, ◌==◌, if◌then◌else◌, Bool, false, not, List, [], ◌∷◌, ◌++◌, length, map, filter, slice_get, slice_index_or, slice_set, sum_by, Option, Some, None, AllPairs}
use Rattle.std.specs.List.{list_any}
use Rattle.act1_device.specs.declared.device.Device.{Device}
use Rattle.act1_circuit.specs.declared.circuit.Circuit.{Circuit}
use Rattle.act1_circuit.specs.declared.circuit.Source.{Source}
use Rattle.act1_circuit.specs.declared.circuit.Source.TheVariants.{Input, Module}
use Rattle.act1_circuit.specs.declared.circuit.Spot.{Spot}
use Rattle.act1_plan.specs.Nets.{is_same_source}
use Rattle.act1_place.specs.declared.net.Place.{Place}
use Rattle.act1_place.specs.declared.net.Joins.{Joins}
use Rattle.act1_place.specs.Perimeter.{place_of, pad_place, End, output_ends, nets_of, half_perimeter, total}
use Rattle.act1_place.specs.Passes.{exchange}

abbrev pub spot_of : List Spot → ℕ → Spot
spot_of spots m = slice_index_or spots m (record { row = 0; column = 0 })

-- the places of a net, with the modules at these spots
abbrev pub places : List Spot → Joins → List Place
places spots n = map (λ m. place_of (spot_of spots m)) n.modules ++ n.pads

-- its half perimeter
abbrev pub net_sum : List Spot → Joins → ℕ
net_sum spots n = half_perimeter (places spots n)

abbrev pub kept_total : List Joins → List Spot → ℕ
kept_total nets spots = sum_by (net_sum spots) nets

-- the net joins the module
abbrev pub joins : ℕ → Joins → Bool
joins m n = list_any (λ k. k == m) n.modules

-- the modules with a pin of this source, from this number on
abbrev pub users : Source → ℕ → List (List Source) → List ℕ
users net first [] = []
users net first (sources ∷ modules) = (if list_any (λ source. is_same_source source net) sources then first ∷ [] else []) ++ users net (first + 1) modules

abbrev pub output_places : Device → Circuit → Source → List Place
output_places dev c net = map (λ (e : End). e.place) (filter (λ (e : End). is_same_source e.source net) (output_ends dev (length c.inputs) c.outputs))

-- what each net of a circuit joins
abbrev pub joins_of : Device → Circuit → Source → Joins
joins_of dev c (Input i) = record { modules = users (Input i) 0 c.modules; pads = pad_place dev i ∷ output_places dev c (Input i) }
joins_of dev c (Module m) = record { modules = m ∷ users (Module m) 0 c.modules; pads = output_places dev c (Module m) }
joins_of dev c constant = record { modules = []; pads = [] }

abbrev pub all_joins : Device → Circuit → List Joins
all_joins dev c = map (joins_of dev c) (nets_of c)

-- the sum by what nets join is the sum of the circuit
abbrev pub KeptIsTotal : Type 0
KeptIsTotal = (dev : Device) (c : Circuit) (spots : List Spot) → length spots ≡ length c.modules → kept_total (all_joins dev c) spots ≡ total dev c spots

-- where one module moves, the sum changes by the nets that join it
abbrev pub MoveIsLocal : Type 0
MoveIsLocal = (nets : List Joins) (spots : List Spot) (m : ℕ) (to : Spot)
    → kept_total nets spots + sum_by (net_sum (slice_set spots m to)) (filter (joins m) nets) ≡ kept_total nets (slice_set spots m to) + sum_by (net_sum spots) (filter (joins m) nets)

-- an exchange is one move or two
pub record ExchangeIsMoves (spots : List Spot) (a b : Spot) : Type 0 where
  pub none : ((k : ℕ) (s : Spot) → slice_get spots k ≡ Some s → (s ≢ a) × (s ≢ b)) → exchange a b spots ≡ spots
  pub one : (m : ℕ) → slice_get spots m ≡ Some a → ((k : ℕ) → slice_get spots k ≢ Some b) → exchange a b spots ≡ slice_set spots m b
  pub two : (m o : ℕ) → slice_get spots m ≡ Some a → slice_get spots o ≡ Some b → a ≢ b → exchange a b spots ≡ slice_set (slice_set spots m b) o a

abbrev pub ExchangesAreMoves : Type 0
ExchangesAreMoves = (spots : List Spot) (a b : Spot) → AllPairs (λ (s t : Spot). s ≢ t) spots → ExchangeIsMoves spots a b

-- which module stands at a site, if any
abbrev pub Occupies : List Spot → Spot → Option ℕ → Type 0
Occupies spots s (Some m) = slice_get spots m ≡ Some s
Occupies spots s None = (k : ℕ) → slice_get spots k ≢ Some s

-- the net joins the module, if there is one
abbrev pub touches : Option ℕ → Joins → Bool
touches (Some m) n = joins m n
touches None n = false

-- the sum over the nets that join the one module, and over those that join the other alone
abbrev pub touched_sum : (Joins → ℕ) → Option ℕ → Option ℕ → List Joins → ℕ
touched_sum f m o nets = sum_by f (filter (touches m) nets) + sum_by f (filter (λ n. not (touches m n)) (filter (touches o) nets))

-- an exchange changes the sum by the nets that join a module of the two sites
abbrev pub ExchangeIsLocal : Type 0
ExchangeIsLocal = (nets : List Joins) (spots : List Spot) (a b : Spot) (m o : Option ℕ) → AllPairs (λ (s t : Spot). s ≢ t) spots → Occupies spots a m → Occupies spots b o
    → kept_total nets spots + touched_sum (net_sum (exchange a b spots)) m o nets ≡ kept_total nets (exchange a b spots) + touched_sum (net_sum spots) m o nets

-- the net of a number
abbrev pub net_at : List Joins → ℕ → Joins
net_at nets i = slice_index_or nets i (record { modules = []; pads = [] })

-- the listed nets that don't join the module
abbrev pub others : List Joins → List ℕ → Option ℕ → List Joins
others nets listed m = filter (λ n. not (touches m n)) (map (net_at nets) listed)

-- the listed nets are those that join the module
abbrev pub AreTouched : List Joins → List ℕ → Option ℕ → Type 0
AreTouched nets listed m = map (net_at nets) listed ≡ filter (touches m) nets

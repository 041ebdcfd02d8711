-- Sums of half perimeters that are kept while modules change places.
use Rattle.std.specs.Prelude.{ℕ, Bool, true, false, [], map, fold, ◌≡◌, ◌≢◌, ◌+◌, ◌*◌, ◌<◌, ◌≤◌, ◌^◌, List, length, slice_get, slice_index_or, slice_set, Option, Some, None, All, AllPairs, Contains}
use Rattle.act1_circuit.specs.declared.circuit.Spot.{Spot}
use Rattle.act1_place.specs.declared.net.Joins.{Joins}
use Rattle.act1_place.specs.Kept.{Occupies, AreTouched, kept_total, net_at, touches}
use Rattle.act1_place.specs.Passes.{step_by, pass_by, passes_by}

-- what contracts see: the rows and columns of the device, the nets, and where each module stands
pub record Kept : Type 0 where
  pub rows : ℕ
  pub columns : ℕ
  pub nets : List Joins
  pub spots : List Spot

-- the spot is one of so many rows and columns
abbrev pub IsInside : ℕ → ℕ → Spot → Type 0
IsInside rows columns s = (s.row < rows) × (s.column < columns)

-- each net that joins the module, if there is one, has its number among these
abbrev pub HasAll : List Joins → List ℕ → Option ℕ → Type 0
HasAll nets numbers m = (i : ℕ) → i < length nets → touches m (net_at nets i) ≡ true → Contains numbers i

-- the numbers are those of the nets that join the module
pub record AreNumbers (nets : List Joins) (m : ℕ) (numbers : List ℕ) : Type 0 where
  pub touched : AreTouched nets numbers (Some m)
  pub listed : All (λ i. i < length nets) numbers
  pub short : length numbers ≤ length nets
  pub all : HasAll nets numbers (Some m)

-- the numbers are those of the nets that join the module, if there is one
pub record AreItsNets (nets : List Joins) (numbers : List ℕ) (m : Option ℕ) : Type 0 where
  pub touched : AreTouched nets numbers m
  pub listed : All (λ i. i < length nets) numbers
  pub all : HasAll nets numbers m

-- the list of the module, if there is one
abbrev pub listed_at : List (List ℕ) → Option ℕ → List ℕ
listed_at touching None = []
listed_at touching (Some m) = slice_index_or touching m []

-- the lists name, for each of so many modules, the nets that join it
pub record AreTouching (count : ℕ) (nets : List Joins) (touching : List (List ℕ)) : Type 0 where
  pub each : length touching ≡ count
  pub numbers : (m : ℕ) (numbers : List ℕ) → slice_get touching m ≡ Some numbers → AreNumbers nets m numbers

-- what the nets keep, which no exchange changes
pub record AreNets (count : ℕ) (nets : List Joins) : Type 0 where
  pub modules : All (λ (n : Joins). All (λ m. m < count) n.modules) nets
  pub sizes : All (λ (n : Joins). length n.modules + length n.pads < 2 ^ 32) nets
  pub few : length nets ≤ 131070

-- where modules stand, and what stands at each site
pub record AreAt (rows columns : ℕ) (spots : List Spot) (at : List (Option ℕ)) : Type 0 where
  pub few_rows : rows ≤ 32
  pub few_columns : columns ≤ 64
  pub inside : All (IsInside rows columns) spots
  pub apart : AllPairs (λ (s t : Spot). s ≢ t) spots
  pub count : length at ≡ rows * columns
  pub each : (s : Spot) (found : Option ℕ) → IsInside rows columns s → slice_get at (s.row * columns + s.column) ≡ Some found → Occupies spots s found

-- what is kept
pub record IsKept (rows columns : ℕ) (nets : List Joins) (touching : List (List ℕ)) (spots : List Spot) (at : List (Option ℕ)) : Type 0 where
  pub few : length spots ≤ 65535
  pub nets_are : AreNets (length spots) nets
  pub touched : AreTouching (length spots) nets touching
  pub at_are : AreAt rows columns spots at

-- the spots with the module, if there is one, at another
abbrev pub put : Option ℕ → Spot → List Spot → List Spot
put None to spots = spots
put (Some m) to spots = slice_set spots m to

-- the site with each of the later ones
abbrev pub pairs_with : Spot → List Spot → List (Spot × Spot)
pairs_with a later = map {B = Spot × Spot} (λ b. (a, b)) later

-- the pairs were tried one after the other; where an exchange was made the sum is less, and where none was the spots are as before
pub record Tries (before after : Kept) (changed : Bool) (ps : List (Spot × Spot)) : Type 0 where
  pub is : after ≡ record before { spots = fold (step_by (kept_total before.nets)) before.spots ps }
  pub none : changed ≡ false → after.spots ≡ before.spots
  pub some : changed ≡ true → kept_total before.nets after.spots < kept_total before.nets before.spots

-- passes were made until one leaves the spots as they are
pub record Settles (before after : Kept) (all : List Spot) : Type 0 where
  pub count : ℕ
  pub is : after ≡ record before { spots = passes_by (kept_total before.nets) all count before.spots }
  pub last : pass_by (kept_total before.nets) all after.spots ≡ after.spots

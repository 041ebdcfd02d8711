-- What a netlist shows, cycle by cycle. A netlist means what Berkeley's BLIF says: each node has its cover's value at once, and all latches take their inputs at each edge of the one clock.
use Rattle.std.specs.Prelude.{ℕ, ◌≡◌, Bool, true, false, List, [], ◌∷◌, ◌++◌, length, map, slice_get, slice_index_or, Some}
use Rattle.act1_blif.specs.declared.blif.Blif.{Blif}
use Rattle.act1_blif.specs.declared.blif.Latch.{Latch}
use Rattle.act1_blif.specs.declared.blif.Node.{Node}
use Rattle.act1_logic.specs.Cover.{value_of}

-- the value of a signal; signals are numbered: inputs, latches, nodes
abbrev pub signal : List Bool → ℕ → Bool
signal v s = slice_index_or v s false

-- the values of some signals, by their numbers
abbrev pub signals : List Bool → List ℕ → List Bool
signals v = map (signal v)

-- what a node gives where its inputs have these values
abbrev pub node_value : List Bool → Node → Bool
node_value v node = value_of node.cover (signals v node.inputs)

-- v is the valuation at the latch outputs q and the inputs x: it has these, and at each node the value of its cover at its inputs in v itself
pub record Fits (net : Blif) (q x v : List Bool) : Type 0 where
  pub inputs : length x ≡ length net.inputs
  pub latches : length q ≡ length net.latches
  pub values : v ≡ x ++ q ++ map (node_value v) net.nodes

-- what the latches hold after the cycle: the values at their inputs
abbrev pub next_state : Blif → List Bool → List Bool
next_state net v = map (λ (latch : Latch). signal v latch.input) net.latches

-- how outputs and next states are read from a valuation
pub record Reading : Type 0 where
  pub outputs : List Bool → List Bool
  pub next : List Bool → List Bool

-- as the netlist itself says
abbrev pub own_reading : Blif → Reading
own_reading net = record { outputs = λ v. signals v net.outputs; next = next_state net }

-- from the state q and over the inputs xs the netlist shows these outputs, where outputs and next states are read so
abbrev pub ShowsBy : Blif → Reading → List Bool → List (List Bool) → List (List Bool) → Type 0
ShowsBy net reading q [] [] = Unit {0}
ShowsBy net reading q (x ∷ xs) (shown ∷ rest) = (v : List Bool) × Fits net q x v × (shown ≡ reading.outputs v) × ShowsBy net reading (reading.next v) xs rest
ShowsBy net reading q [] (shown ∷ rest) = ⊥
ShowsBy net reading q (x ∷ xs) [] = ⊥

-- what the netlist itself shows
abbrev pub Shows : Blif → List Bool → List (List Bool) → List (List Bool) → Type 0
Shows net = ShowsBy net (own_reading net)

-- a declared init of 0 or 1 is the latch's value; 2 and 3 leave it free
abbrev pub AgreesWithInit : ℕ → Bool → Type 0
AgreesWithInit init value = (init ≡ 0 → value ≡ false) × (init ≡ 1 → value ≡ true)

-- a state in which the netlist may begin
pub record MayBegin (net : Blif) (q : List Bool) : Type 0 where
  pub one_each : length q ≡ length net.latches
  pub agrees : (k : ℕ) (latch : Latch) → slice_get net.latches k ≡ Some latch → AgreesWithInit latch.init (slice_index_or q k false)

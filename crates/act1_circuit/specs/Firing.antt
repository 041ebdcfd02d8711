-- The values of a circuit, and how its modules fire. One event is one firing: a module's bit becomes what the module gives at that moment. The clock changes for all modules at once, between two waves.
use Rattle.std.specs.Prelude.{ℕ, zero, suc, ◌≡◌, ◌≢◌, ◌<◌, Bool, true, false, List, [], ◌∷◌, ◌++◌, length, map, slice_index_or, slice_set, All, Contains}
use Rattle.act1_circuit.specs.declared.circuit.Circuit.{Circuit}
use Rattle.act1_circuit.specs.declared.circuit.Output.{Output}
use Rattle.act1_circuit.specs.declared.circuit.Source.{Source}
use Rattle.act1_circuit.specs.declared.circuit.Source.TheVariants.{Zero, One, Clock, Input, Module}
use Rattle.act1_logic.specs.Module.{module_of}

-- the value of a source at this clock, with these inputs and these module bits
abbrev pub source_value : Bool → List Bool → List Bool → Source → Bool
source_value clock x bits Zero = false
source_value clock x bits One = true
source_value clock x bits Clock = clock
source_value clock x bits (Input i) = slice_index_or x i false
source_value clock x bits (Module m) = slice_index_or bits m false

-- what the module gives at these values
abbrev pub fired : Circuit → Bool → List Bool → List Bool → ℕ → Bool
fired c clock x bits m = module_of (λ pin. source_value clock x bits (slice_index_or (slice_index_or c.modules m []) pin Zero))

-- one firing: the module's bit becomes what it gives
abbrev pub fire : Circuit → Bool → List Bool → List Bool → ℕ → List Bool
fire c clock x bits m = slice_set bits m (fired c clock x bits m)

-- a list of firings, one after the other
abbrev pub fire_all : Circuit → Bool → List Bool → List Bool → List ℕ → List Bool
fire_all c clock x bits [] = bits
fire_all c clock x bits (m ∷ ms) = fire_all c clock x (fire c clock x bits m) ms

-- each of the n modules has its turn, and perhaps several
pub record IsRound (n : ℕ) (ms : List ℕ) : Type 0 where
  pub modules : All (λ m. m < n) ms
  pub each : (m : ℕ) → m < n → Contains ms m

-- k rounds one after the other
abbrev pub AreRounds : ℕ → ℕ → List ℕ → Type 0
AreRounds n zero ms = ms ≡ []
AreRounds n (suc k) ms = (round : List ℕ) × (rest : List ℕ) × IsRound n round × AreRounds n k rest × (ms ≡ round ++ rest)

-- a wave of a circuit of n modules: n rounds
abbrev pub IsWave : ℕ → List ℕ → Type 0
IsWave n ms = AreRounds n n ms

-- the modules in site order: 0 to n - 1
abbrev pub site_order : ℕ → List ℕ
site_order zero = []
site_order (suc n) = site_order n ++ n ∷ []

-- k rounds in site order
abbrev pub site_rounds : ℕ → ℕ → List ℕ
site_rounds n zero = []
site_rounds n (suc k) = site_rounds n k ++ site_order n

-- the wave in site order: n times the modules 0 to n - 1
abbrev pub site_wave : ℕ → List ℕ
site_wave n = site_rounds n n

-- the list of firings is that wave
abbrev pub IsSiteWave : ℕ → List ℕ → Type 0
IsSiteWave n ms = ms ≡ site_wave n

-- no firing changes a bit
abbrev pub IsAtRest : Circuit → Bool → List Bool → List Bool → Type 0
IsAtRest c clock x bits = (m : ℕ) → m < length c.modules → fire c clock x bits m ≡ bits

-- the two waves of one cycle: while the clock is 0, and while it is 1
pub record Waves : Type 0 where
  pub low : List ℕ
  pub high : List ℕ

-- what the first wave of a cycle leaves
abbrev pub low_bits : Circuit → List Bool → List Bool → Waves → List Bool
low_bits c bits x w = fire_all c false x bits w.low

-- what the second wave of a cycle leaves
abbrev pub high_bits : Circuit → List Bool → List Bool → Waves → List Bool
high_bits c bits x w = fire_all c true x (low_bits c bits x w) w.high

-- the outputs, which are read while the clock is 0
abbrev pub shown : Circuit → List Bool → List Bool → List Bool
shown c x bits = map (λ (o : Output). source_value false x bits o.source) c.outputs

-- the outputs that are read, cycle by cycle: in each, the inputs are set and the clock is 0, a wave, the outputs are read, the clock is 1, a wave
abbrev pub run : Circuit → List Bool → List (List Bool) → List Waves → List (List Bool)
run c bits (x ∷ xs) (w ∷ ws) = shown c x (low_bits c bits x w) ∷ run c (high_bits c bits x w) xs ws
run c bits [] ws = []
run c bits (x ∷ xs) [] = []

-- after each wave of the run no firing changes a bit
abbrev pub RestsAlong : Circuit → List Bool → List (List Bool) → List Waves → Type 0
RestsAlong c bits (x ∷ xs) (w ∷ ws) =
    IsAtRest c false x (low_bits c bits x w) × IsAtRest c true x (high_bits c bits x w) × RestsAlong c (high_bits c bits x w) xs ws
RestsAlong c bits [] ws = Unit {0}
RestsAlong c bits (x ∷ xs) [] = Unit {0}

-- the firing of this module changes a bit, and that of no lesser one
pub record IsLeastUnrest (c : Circuit) (clock : Bool) (x bits : List Bool) (m : ℕ) : Type 0 where
  pub within : m < length c.modules
  pub changes : fire c clock x bits m ≢ bits
  pub least : (k : ℕ) → k < m → fire c clock x bits k ≡ bits

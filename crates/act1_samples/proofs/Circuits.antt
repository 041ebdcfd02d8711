-- Worked examples of circuits and of how their modules fire.
use Rattle.std.proofs.Common.{ℕ, suc, zero, ◌≡◌, ◌<◌, Bool, true, false, List, [], ◌∷◌, ◌++◌, refl, arith, None}
use Rattle.std.specs.Prelude.{codes, not, Contains, All}
use Rattle.std.proofs.lemmas.List.Elements.{All-from_recursion}
use Rattle.act1_circuit.specs.declared.circuit.Circuit.{Circuit}
use Rattle.act1_circuit.specs.declared.circuit.Source.TheVariants.{Zero, One, Clock, Input, Module}
use Rattle.act1_circuit.specs.Firing.{fire, run, Waves, site_wave, IsAtRest, RestsAlong, IsLeastUnrest, IsWave}

-- an inverter: one module that takes A0 = 1 where its select S0 is 0, and B0 = 0 where it is 1
abbrev pub inverter : Circuit
inverter = record {
  clock = None;
  inputs = codes "a" ∷ [];
  modules = (One ∷ Zero ∷ Zero ∷ Zero ∷ Zero ∷ Zero ∷ Input 0 ∷ Zero ∷ []) ∷ [];
  outputs = record { name = codes "y"; source = Module 0 } ∷ [];
  starts = [];
}

abbrev pub once : Waves
once = record { low = site_wave 1; high = site_wave 1 }

inverter_run : (bit : Bool) → run inverter (bit ∷ []) ((false ∷ []) ∷ (true ∷ []) ∷ []) (once ∷ once ∷ []) ≡ (true ∷ []) ∷ (false ∷ []) ∷ []
inverter_run bit = refl

inverter_at_rest : (clock x : Bool) → IsAtRest inverter clock (x ∷ []) (not x ∷ [])
inverter_at_rest clock true zero low = refl
inverter_at_rest clock false zero low = refl
inverter_at_rest clock x (suc m) low = absurd (omega arith)

inverter_rests : (bit : Bool) → RestsAlong inverter (bit ∷ []) ((false ∷ []) ∷ (true ∷ []) ∷ []) (once ∷ once ∷ [])
inverter_rests bit = (inverter_at_rest false false, inverter_at_rest true false, (inverter_at_rest false true, inverter_at_rest true true, tt))

-- the inverter with its own output as its select
abbrev pub ring : Circuit
ring = record {
  clock = None;
  inputs = [];
  modules = (One ∷ Zero ∷ Zero ∷ Zero ∷ Zero ∷ Zero ∷ Module 0 ∷ Zero ∷ []) ∷ [];
  outputs = record { name = codes "y"; source = Module 0 } ∷ [];
  starts = [];
}

ring_turns : (clock bit : Bool) → fire ring clock [] (bit ∷ []) 0 ≡ not bit ∷ []
ring_turns clock true = refl
ring_turns clock false = refl

other_bit : (bit : Bool) → ¬ (not bit ∷ [] ≡ bit ∷ [])
other_bit true h = cc
other_bit false h = cc

ring_never_rests : (clock bit : Bool) → ¬ IsAtRest ring clock [] (bit ∷ [])
ring_never_rests clock bit rest = other_bit bit (rw (ring_turns clock bit) at (rest 0 (omega arith)))

ring_is_unrest : (clock bit : Bool) → IsLeastUnrest ring clock [] (bit ∷ []) 0
ring_is_unrest clock bit = record { within = omega arith; changes = λ e. other_bit bit (rw (ring_turns clock bit) at e); least = λ k low. absurd (omega arith) }

-- a latch made of two modules, master and slave, and an inverter before it
abbrev pub toggle : Circuit
toggle = record {
  clock = None;
  inputs = [];
  modules = (One ∷ Zero ∷ Zero ∷ Zero ∷ Zero ∷ Zero ∷ Module 2 ∷ Zero ∷ [])
      ∷ (Module 0 ∷ Zero ∷ Zero ∷ Module 1 ∷ Zero ∷ Zero ∷ Clock ∷ Zero ∷ [])
      ∷ (Module 2 ∷ Zero ∷ Zero ∷ Module 1 ∷ Zero ∷ Zero ∷ Clock ∷ Zero ∷ []) ∷ [];
  outputs = record { name = codes "q"; source = Module 2 } ∷ [];
  starts = record { «module» = 2; init = 0; name = codes "q" } ∷ [];
}

wave_of_three : site_wave 3 ≡ 0 ∷ 1 ∷ 2 ∷ 0 ∷ 1 ∷ 2 ∷ 0 ∷ 1 ∷ 2 ∷ []
wave_of_three = refl

abbrev pub thrice : Waves
thrice = record { low = site_wave 3; high = site_wave 3 }

abbrev pub backwards : Waves
backwards = record { low = 2 ∷ 1 ∷ 0 ∷ 2 ∷ 1 ∷ 0 ∷ 2 ∷ 1 ∷ 0 ∷ []; high = 2 ∷ 1 ∷ 0 ∷ 2 ∷ 1 ∷ 0 ∷ 1 ∷ 1 ∷ 2 ∷ 0 ∷ [] }

-- whatever the modules without a start hold, it shows 0, 1 and 0
toggle_run : (a b : Bool) → run toggle (a ∷ b ∷ false ∷ []) ([] ∷ [] ∷ [] ∷ []) (thrice ∷ thrice ∷ thrice ∷ []) ≡ (false ∷ []) ∷ (true ∷ []) ∷ (false ∷ []) ∷ []
toggle_run a b = refl

toggle_run_backwards : (a b : Bool) → run toggle (a ∷ b ∷ false ∷ []) ([] ∷ [] ∷ [] ∷ []) (backwards ∷ thrice ∷ backwards ∷ []) ≡ (false ∷ []) ∷ (true ∷ []) ∷ (false ∷ []) ∷ []
toggle_run_backwards true true = refl
toggle_run_backwards true false = refl
toggle_run_backwards false true = refl
toggle_run_backwards false false = refl

-- a wave of no modules is empty, and a wave of one module is any list of its firings that isn't empty
wave_of_none : (ms : List ℕ) → IsWave 0 ms → ms ≡ []
wave_of_none ms w = w

wave_of_none_is : IsWave 0 []
wave_of_none_is = refl

no_empty_wave : ¬ IsWave 1 []
no_empty_wave w = not_empty w.0 w.1 (w.2.each 0 (omega arith)) w.4
  where
    not_empty : (round rest : List ℕ) → Contains round 0 → ¬ ([] ≡ round ++ rest)
    not_empty [] rest h e = absurd (omega (arith, h.1))
    not_empty (m ∷ round) rest h e = cc

wave_of_one : IsWave 1 (0 ∷ 0 ∷ [])
wave_of_one = (0 ∷ 0 ∷ [], [], record { modules = All-from_recursion (λ m. m < 1) (0 ∷ 0 ∷ []) (omega arith, (omega arith, tt)); each = each }, refl, refl)
  where
    each : (m : ℕ) → m < 1 → Contains (0 ∷ 0 ∷ []) m
    each zero low = (0, omega arith, refl)
    each (suc m) low = absurd (omega arith)

-- a wave names no module that isn't there
no_wave : ¬ IsWave 1 (1 ∷ 0 ∷ [])
no_wave w = not_one w.0 w.1 (w.2.each 0 (omega arith)) w.2.modules w.4
  where
    not_one : (round rest : List ℕ) → Contains round 0 → All (λ m. m < 1) round → ¬ (1 ∷ 0 ∷ [] ≡ round ++ rest)
    not_one [] rest h all e = absurd (omega (arith, h.1))
    not_one (m ∷ round) rest h all e = let low : m < 1 = all 0 0 (omega arith) in let one : 1 ≡ m = cc in absurd (omega arith)

rest_of_three : (clock : Bool) (bits : List Bool) → fire toggle clock [] bits 0 ≡ bits → fire toggle clock [] bits 1 ≡ bits → fire toggle clock [] bits 2 ≡ bits → IsAtRest toggle clock [] bits
rest_of_three clock bits e f g zero low = e
rest_of_three clock bits e f g (suc zero) low = f
rest_of_three clock bits e f g (suc (suc zero)) low = g
rest_of_three clock bits e f g (suc (suc (suc m))) low = absurd (omega arith)

toggle_rests : (a b : Bool) → RestsAlong toggle (a ∷ b ∷ false ∷ []) ([] ∷ [] ∷ []) (thrice ∷ thrice ∷ [])
toggle_rests a b = (
  rest_of_three false (true ∷ true ∷ false ∷ []) refl refl refl,
  rest_of_three true (false ∷ true ∷ true ∷ []) refl refl refl,
  (rest_of_three false (false ∷ false ∷ true ∷ []) refl refl refl, rest_of_three true (true ∷ false ∷ false ∷ []) refl refl refl, tt),
)

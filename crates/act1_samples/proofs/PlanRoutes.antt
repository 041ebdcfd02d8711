-- Worked examples of routes, whose lines are written from the rules.
use Rattle.std.proofs.Common.{ℕ, ◌≡◌, Bool, true, false, List, [], ◌∷◌, refl}
use Rattle.std.specs.Prelude.{codes, Ok, Err, None}
use Rattle.act1_device.specs.declared.device.Device.{Device}
use Rattle.act1_device.specs.declared.device.Line.TheVariants as line
use Rattle.act1_device.specs.declared.device.PadPlace.{PadPlace}
use Rattle.act1_device.specs.Rules.{is_device}
use Rattle.act1_circuit.specs.declared.circuit.Output.{Output}
use Rattle.act1_circuit.specs.declared.circuit.Source.{Source}
use Rattle.act1_circuit.specs.declared.circuit.Source.TheVariants.{Zero, One, Input, Module}
use Rattle.act1_circuit.specs.declared.circuit.Spot.{Spot}
use Rattle.act1_plan.specs.declared.plan.Plan.{Plan}
use Rattle.act1_groute.specs.declared.wiring.Wiring.{Wiring}
use Rattle.act1_groute.specs.Routes.{routes}

abbrev four_up : List Bool
four_up = false ∷ false ∷ false ∷ false ∷ true ∷ true ∷ true ∷ true ∷ []

abbrev place : ℕ → ℕ → PadPlace
place h c = record { channel = h; column = c }

abbrev spot : ℕ → ℕ → Spot
spot row column = record { row = row; column = column }

abbrev output : List ℕ → Source → Output
output name source = record { name = name; source = source }

abbrev planned : List ℕ → List (List ℕ) → List (List Source) → List Output → List Spot → Plan
planned device inputs modules outputs spots = record { device = device; k = 3; placed = record { circuit = record { clock = None; inputs = inputs; modules = modules; outputs = outputs; starts = [] }; spots = spots } }

-- two pads in two channels, and no long wire
apart_is_device : is_device (codes "tiny") 1 2 0 0 (([] ∷ []) ∷ []) [] (place 0 0 ∷ place 1 1 ∷ []) ≡ true
unfolding is_device
apart_is_device = refl

abbrev apart : Device
apart = record { name = codes "tiny"; rows = 1; columns = 2; pins = four_up; below = 0; above = 0; tracks = (([] ∷ []) ∷ []); longs = []; pads = place 0 0 ∷ place 1 1 ∷ []; valid = apart_is_device }

-- the rule finds no wire for the input's net in the output's channel
no_wire : routes apart (planned (codes "tiny") (codes "a" ∷ []) [] (output (codes "a") (Input 0) ∷ []) []) ≡ Err (record { net = Input 0; channel = 1 })
no_wire = refl

-- a long wire in each column, which crosses all three channels, and one pad
tied_is_device : is_device (codes "tied") 2 3 0 0 (([] ∷ []) ∷ []) (record { low = 0; high = 2 } ∷ []) (place 0 1 ∷ []) ≡ true
unfolding is_device
tied_is_device = refl

abbrev tied : Device
tied = record { name = codes "tied"; rows = 2; columns = 3; pins = four_up; below = 0; above = 0; tracks = (([] ∷ []) ∷ []); longs = record { low = 0; high = 2 } ∷ []; pads = place 0 1 ∷ []; valid = tied_is_device }

-- the input's net takes the wire of its own column; the module's, from the same column, has two as near, and takes that of the lesser column, which has its home in the highest channel of the module's output
takes_the_lesser : routes tied (planned (codes "tied") (codes "a" ∷ [])
    ((Zero ∷ Zero ∷ Zero ∷ Zero ∷ Zero ∷ Zero ∷ Zero ∷ Zero ∷ []) ∷ (Zero ∷ Zero ∷ Zero ∷ Zero ∷ Zero ∷ Zero ∷ Input 0 ∷ Module 0 ∷ []) ∷ []) [] (spot 0 1 ∷ spot 1 2 ∷ []))
    ≡ Ok (
    ((record { net = Input 0; left = 1; right = 1; lines = line.Pad 0 ∷ line.Long 1 0 ∷ [] }) ∷ [])
    ∷ ((record { net = Module 0; left = 0; right = 1; lines = line.Out 0 1 ∷ line.Long 0 0 ∷ [] }) ∷ [])
    ∷ ((record { net = Input 0; left = 1; right = 2; lines = line.Pin 1 2 6 ∷ line.Long 1 0 ∷ [] })
    ∷ (record { net = Module 0; left = 0; right = 2; lines = line.Pin 1 2 7 ∷ line.Long 0 0 ∷ [] }) ∷ []) ∷ [])
takes_the_lesser = refl

-- the source serves the channel of the pad, which is also the home of the wire that the net takes for channel 1; that wire then serves channel 2
serves_again : routes tied (planned (codes "tied") (codes "a" ∷ [])
    ((Input 0 ∷ Zero ∷ Zero ∷ Zero ∷ Zero ∷ Zero ∷ Input 0 ∷ Zero ∷ []) ∷ (Zero ∷ Zero ∷ Zero ∷ Zero ∷ Zero ∷ Zero ∷ Input 0 ∷ Zero ∷ []) ∷ []) [] (spot 0 0 ∷ spot 1 2 ∷ []))
    ≡ Ok (
    ((record { net = Input 0; left = 0; right = 1; lines = line.Pin 0 0 0 ∷ line.Pad 0 ∷ line.Long 1 0 ∷ [] }) ∷ [])
    ∷ ((record { net = Input 0; left = 0; right = 1; lines = line.Pin 0 0 6 ∷ line.Long 1 0 ∷ [] }) ∷ [])
    ∷ ((record { net = Input 0; left = 1; right = 2; lines = line.Pin 1 2 6 ∷ line.Long 1 0 ∷ [] }) ∷ []) ∷ [])
serves_again = refl

-- in each column a long wire of the channels 0 and 1 and one of 1 and 2; the pad is in channel 1
middle_is_device : is_device (codes "middle") 2 2 0 0 (([] ∷ []) ∷ []) (record { low = 0; high = 1 } ∷ record { low = 1; high = 2 } ∷ []) (place 1 0 ∷ []) ≡ true
unfolding is_device
middle_is_device = refl

abbrev middle : Device
middle = record { name = codes "middle"; rows = 2; columns = 2; pins = four_up; below = 0; above = 0; tracks = (([] ∷ []) ∷ []); longs = record { low = 0; high = 1 } ∷ record { low = 1; high = 2 } ∷ []; pads = place 1 0 ∷ []; valid = middle_is_device }

-- one net takes two long wires, one downwards and one upwards; both have their home in its own channel, which is also needed
takes_two : routes middle (planned (codes "middle") (codes "a" ∷ [])
    ((Input 0 ∷ Zero ∷ Zero ∷ Zero ∷ Input 0 ∷ Zero ∷ Zero ∷ Zero ∷ []) ∷ (Zero ∷ Zero ∷ Zero ∷ Zero ∷ Input 0 ∷ Zero ∷ Zero ∷ Zero ∷ []) ∷ []) [] (spot 0 0 ∷ spot 1 1 ∷ []))
    ≡ Ok (
    ((record { net = Input 0; left = 0; right = 0; lines = line.Pin 0 0 0 ∷ line.Long 0 0 ∷ [] }) ∷ [])
    ∷ ((record { net = Input 0; left = 0; right = 0; lines = line.Pin 0 0 4 ∷ line.Pad 0 ∷ line.Long 0 0 ∷ line.Long 0 1 ∷ [] }) ∷ [])
    ∷ ((record { net = Input 0; left = 0; right = 1; lines = line.Pin 1 1 4 ∷ line.Long 0 1 ∷ [] }) ∷ []) ∷ [])
takes_two = refl

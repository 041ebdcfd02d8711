-- The steps of the search for pins. A set of inputs is a number of 64 bits.
use Rattle.std.specs.Prelude.{ℕ, Bool, true, ◌≡◌, ◌<◌, ◌||◌, List, [], ◌∷◌, Contains, if◌then◌else◌}
use Rattle.act1_match.specs.Choice.{has_bit, value_at}
use Rattle.act1_match.specs.declared.choice.PinChoice.{PinChoice}
use Rattle.act1_match.specs.declared.pins.Multiplexer.{Multiplexer}
use Rattle.act1_match.specs.declared.pins.Pins.{Pins}

-- at each of these inputs the value is the table's
pub record Agrees (table inputs : ℕ) (value : ℕ → Bool) : Type 0 where
  pub same : (i : ℕ) → i < 64 → has_bit inputs i ≡ true → value i ≡ has_bit table i

-- one of the choices, which agrees with the table at these inputs
pub record IsDataPin (table inputs : ℕ) (choices : List PinChoice) (choice : PinChoice) : Type 0 where
  pub listed : Contains choices choice
  pub agrees : Agrees table inputs (λ i. value_at i choice)

-- the three pins of a multiplexer are of these choices
pub record IsOf (choices : List PinChoice) (m : Multiplexer) : Type 0 where
  pub low : Contains choices m.low
  pub high : Contains choices m.high
  pub select : Contains choices m.select

-- what a multiplexer gives at an input
abbrev pub multiplexed : Multiplexer → ℕ → Bool
multiplexed m i = if value_at i m.select then value_at i m.high else value_at i m.low

-- a multiplexer of these choices, which agrees with the table at these inputs
pub record IsMultiplexer (table inputs : ℕ) (choices : List PinChoice) (m : Multiplexer) : Type 0 where
  pub of : IsOf choices m
  pub agrees : Agrees table inputs (multiplexed m)

-- what the module gives at an input
abbrev pub pins_value : Pins → ℕ → Bool
pins_value p i = if value_at i p.s0 || value_at i p.s1 then multiplexed p.b i else multiplexed p.a i

-- the pins in the order A0, A1, SA, B0, B1, SB, S0 and S1
abbrev pub pin_list : Pins → List PinChoice
pin_list p = p.a.low ∷ p.a.high ∷ p.a.select ∷ p.b.low ∷ p.b.high ∷ p.b.select ∷ p.s0 ∷ p.s1 ∷ []

-- eight pins of these choices, by which the module agrees with the table at these inputs
pub record ArePins (table inputs : ℕ) (choices : List PinChoice) (p : Pins) : Type 0 where
  pub a : IsOf choices p.a
  pub b : IsOf choices p.b
  pub s0 : Contains choices p.s0
  pub s1 : Contains choices p.s1
  pub agrees : Agrees table inputs (pins_value p)

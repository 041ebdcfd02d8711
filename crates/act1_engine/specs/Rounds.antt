-- The tables over which rounds are fired.
use Rattle.std.specs.Prelude.{ℕ, ◌*◌, ◌≡◌, ◌<◌, ◌≤◌, Bool, List, length}
use Rattle.act1_engine.specs.declared.wiring.Wiring.{Wiring}
use Rattle.act1_engine.specs.Slots.{entry, IsLinked}

-- the pins of n modules, and a value at each of their slots
pub record IsTable (n : ℕ) (wiring : Wiring) (values : List Bool) : Type 0 where
  pub pins : length wiring.slots.items ≡ 8 * n
  pub linked : IsLinked wiring
  pub count : length wiring.lasts.items ≡ length values
  pub modules : n ≤ length values
  pub within : (pin : ℕ) → pin < length wiring.slots.items → entry wiring.slots.items pin < length values

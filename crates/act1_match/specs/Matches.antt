-- Which pins make a logic module the function of a table.
use Rattle.std.specs.Prelude.{ℕ, ◌≡◌, ◌<◌, ◌^◌, List, length, All, slice_index_or}
use Rattle.act1_logic.specs.Module.{module_of}
use Rattle.act1_logic.specs.declared.table.Table.{Table}
use Rattle.act1_match.specs.Choice.{has_bit, value_at, IsChoice}
use Rattle.act1_match.specs.declared.choice.PinChoice.{PinChoice}
use Rattle.act1_match.specs.declared.choice.PinChoice.TheVariants.{Zero}

-- eight pins, in the order A0, A1, SA, B0, B1, SB, S0 and S1, each a constant or one of the variables, by which the module gives the table's bit i at each input i of the variables
pub record Matches (table : Table) (vars : ℕ) (pins : List PinChoice) : Type 0 where
  pub eight : length pins ≡ 8
  pub choices : All (IsChoice vars) pins
  pub same : (i : ℕ) → i < 2 ^ vars → module_of (λ k. value_at i (slice_index_or pins k Zero)) ≡ has_bit table.0 i

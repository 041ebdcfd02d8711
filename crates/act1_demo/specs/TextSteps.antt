-- What only the steps of writing the counter need.
use Rattle.std.specs.Prelude.{ℕ, List, ◌++◌, codes}
use Rattle.std.specs.Fmt.{decimal}
use Rattle.act1_demo.specs.declared.wire.Wire.{Wire}
use Rattle.act1_demo.specs.declared.wire.Wire.TheVariants.{Enable, State, Data, Carry, Parity, Whole}
use Rattle.act1_demo.specs.Text.{state_name, data_name}

-- the name of a signal
abbrev pub wire_name : Wire → List ℕ
wire_name Enable = codes "en"
wire_name (State bit) = state_name bit
wire_name (Data bit) = data_name bit
wire_name (Carry bit) = codes "c" ++ decimal bit
wire_name (Parity bit) = codes "p" ++ decimal bit
wire_name Whole = codes "par"

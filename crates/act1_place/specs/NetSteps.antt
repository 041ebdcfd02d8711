-- What the steps of finding nets need.
use Rattle.std.specs.Prelude.{ℕ, Bool, List, map, filter}
use Rattle.std.specs.List.{list_any}
use Rattle.act1_device.specs.declared.device.Device.{Device}
use Rattle.act1_circuit.specs.declared.circuit.Output.{Output}
use Rattle.act1_circuit.specs.declared.circuit.Source.{Source}
use Rattle.act1_plan.specs.Nets.{is_same_source}
use Rattle.act1_place.specs.Perimeter.{End, output_ends}
use Rattle.act1_place.specs.declared.net.Place.{Place}

-- the net drives one of the pins
abbrev pub drives : Source → List Source → Bool
drives net pins = list_any (λ pin. is_same_source pin net) pins

-- the pads of the outputs that the net drives, where the first output has this pad
abbrev pub driven_pads : Device → Source → ℕ → List Output → List Place
driven_pads dev net first outputs = map (λ (e : End). e.place) (filter (λ (e : End). is_same_source e.source net) (output_ends dev first outputs))

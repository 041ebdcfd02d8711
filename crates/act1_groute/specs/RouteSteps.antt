-- What only steps of the code need.
use Rattle.std.specs.Prelude.{ℕ, ◌≡◌, ◌==◌, ◌&&◌, ◌||◌, ◌+◌, not, nat_lt, if◌then◌else◌, Bool, List, [], ◌∷◌, ◌++◌, map, filter, find, flat_map, Option, Some, None, option_to_list, Result, Ok, Err}
use Rattle.std.specs.List.{list_any}
use Rattle.act1_device.specs.declared.device.Device.{Device}
use Rattle.act1_device.specs.declared.device.Line.{Line}
use Rattle.act1_circuit.specs.declared.circuit.Source.{Source}
use Rattle.act1_plan.specs.declared.plan.Plan.{Plan}
use Rattle.act1_base.specs.Lists.{numbers}
use Rattle.act1_groute.specs.declared.net.Net.{Net}
use Rattle.act1_groute.specs.declared.stop.RouteStop.{RouteStop}
use Rattle.act1_groute.specs.declared.stop.RouteStop.TheVariants as stop
use Rattle.act1_groute.specs.declared.wiring.Wiring.{Wiring}
use Rattle.act1_groute.specs.Nets.{Sink, is_same_source, sinks, source_line, covers, is_needed, channels}
use Rattle.act1_groute.specs.Routes.{Demand, LongWire, Take, long_line, wire_of, distance, all_longs, is_taken, wiring_of}

-- the sinks of a net
abbrev pub own_sinks : List Sink → Source → List Sink
own_sinks all net = filter (λ (s : Sink). is_same_source s.source net) all

abbrev pub net_with : List Sink → Source → Net
net_with all net = record { source = net; sinks = own_sinks all net }

-- the net has its sinks
abbrev pub IsWith : Device → Plan → Net → Type 0
IsWith dev plan n = n.sinks ≡ own_sinks (sinks dev plan) n.source

abbrev pub is_in : ℕ → Sink → Bool
is_in channel sink = sink.channel == channel

abbrev pub demand : Source → ℕ → Demand
demand net channel = record { net = net; channel = channel }

-- the needed channels of a net, of so many channels from the first on
abbrev pub demands_from : Device → Plan → Source → ℕ → ℕ → List Demand
demands_from dev plan net first count = map (demand net) (filter (is_needed dev plan net) (numbers first count))

abbrev pub demands_of : Device → Plan → Source → List Demand
demands_of dev plan net = demands_from dev plan net 0 (dev.rows + 1)

abbrev pub demands_by : Device → Plan → List Net → List Demand
demands_by dev plan nets = flat_map (λ (n : Net). demands_of dev plan n.source) nets

-- so many long wires of a column
abbrev pub longs_of : ℕ → ℕ → List LongWire
longs_of count column = map (λ index. let w : LongWire = record { column = column; index = index } in w) (numbers 0 count)

-- the long wires that no net has taken
abbrev pub free_longs : Device → List Take → List LongWire
free_longs dev takes = filter (λ w. not (is_taken takes w)) (all_longs dev)

abbrev pub crosses_both : Device → ℕ → ℕ → LongWire → Bool
crosses_both dev home channel w = covers dev (long_line w) home && covers dev (long_line w) channel

abbrev pub column_distance : ℕ → LongWire → ℕ
column_distance column w = distance w.column column

-- the wire where it is nearer to the column than the best so far
abbrev pub nearer : ℕ → Option LongWire → LongWire → Option LongWire
nearer column None w = Some w
nearer column (Some best) w = if nat_lt (column_distance column w) (column_distance column best) then Some w else Some best

abbrev pub better : Device → ℕ → ℕ → ℕ → Option LongWire → LongWire → Option LongWire
better dev column home channel best w = if crosses_both dev home channel w then nearer column best w else best

abbrev pub is_other : LongWire → LongWire → Bool
is_other w other = not ((w.column == other.column) && (w.index == other.index))

-- the long wire is the net's and crosses the channel
abbrev pub serves : Device → Source → ℕ → Take → Bool
serves dev net channel take = is_same_source take.net net && covers dev (wire_of take) channel

-- what is taken is as wanted, or the rule fails where it is wanted to fail; want of memory alone is free
abbrev pub Leads : {A : Type 0} → Result (List Take) Demand → List Take → Result A RouteStop → Type 0
Leads wanted after (Ok done) = wanted ≡ Ok after
Leads wanted after (Err (stop.Vertical net channel)) = wanted ≡ Err (demand net channel)
Leads wanted after (Err stop.Memory) = Unit {0}

-- what is answered is as wanted, or the rule fails where it is wanted to fail; want of memory alone is free
abbrev pub Gives : {A : Type 0} → Result A Demand → Result A RouteStop → Type 0
Gives wanted (Ok x) = wanted ≡ Ok x
Gives wanted (Err (stop.Vertical net channel)) = wanted ≡ Err (demand net channel)
Gives wanted (Err stop.Memory) = Unit {0}

-- the long wire has the channel as home
abbrev pub is_at_home : ℕ → Take → Bool
is_at_home channel take = take.home == channel

abbrev pub source_lines : Device → Plan → Source → List Take → ℕ → List Line
source_lines dev plan net own channel =
    if covers dev (source_line plan net) channel then source_line plan net ∷ map wire_of (filter (is_at_home channel) own)
    else option_to_list (find (λ l. covers dev l channel) (map wire_of own))

-- the lines of a net's connection, by its sinks and by what it has taken
abbrev pub lines_with : Device → Plan → Net → List Take → ℕ → List Line
lines_with dev plan net own channel = map (λ (s : Sink). s.line) (filter (is_in channel) net.sinks) ++ source_lines dev plan net.source own channel

abbrev pub connects : Net → List Take → ℕ → Bool
connects net own channel = list_any (is_in channel) net.sinks || list_any (is_at_home channel) own

abbrev pub wiring_with : Device → Plan → ℕ → Net → List Take → List Wiring
wiring_with dev plan channel net own = if connects net own channel then wiring_of dev net.source (lines_with dev plan net own channel) ∷ [] else []

abbrev pub wirings_with : Device → Plan → ℕ → List Net → List (List Take) → List Wiring
wirings_with dev plan channel [] owns = []
wirings_with dev plan channel (n ∷ nets) [] = []
wirings_with dev plan channel (n ∷ nets) (o ∷ owns) = wiring_with dev plan channel n o ++ wirings_with dev plan channel nets owns

-- the connections of all channels
abbrev pub channels_with : Device → Plan → List Net → List (List Take) → List (List Wiring)
channels_with dev plan nets owns = map (λ h. wirings_with dev plan h nets owns) (channels dev)

-- The routes of a plan: which long wires its nets take, and its connections in each channel.
use Rattle.std.specs.Prelude.{ℕ, ◌≡◌, ◌+◌, ◌-◌, ◌==◌, ◌&&◌, ◌||◌, not, nat_lt, if◌then◌else◌, Bool, List, [], ◌∷◌, ◌++◌, length, map, filter, find, flat_map, Option, Some, None, Result, Ok, Err, option_to_list}
use Rattle.std.specs.List.{list_any}
use Rattle.act1_device.specs.declared.device.Device.{Device}
use Rattle.act1_device.specs.declared.device.Line.{Line}
use Rattle.act1_device.specs.declared.device.Line.TheVariants as line
use Rattle.act1_device.specs.Sites.{column_of, tracks_of}
use Rattle.act1_circuit.specs.declared.circuit.Source.{Source}
use Rattle.act1_channel.specs.declared.problem.Connection.{Connection}
use Rattle.act1_channel.specs.declared.problem.Problem.{Problem}
use Rattle.act1_plan.specs.declared.plan.Plan.{Plan}
use Rattle.act1_groute.specs.declared.wiring.Wiring.{Wiring}
use Rattle.act1_base.specs.Lists.{numbers, least_number, greatest_number}
use Rattle.act1_groute.specs.Lists.{least_by}
pub use Rattle.act1_groute.specs.declared.net.LongWire.{LongWire}
pub use Rattle.act1_groute.specs.declared.net.Take.{Take}
use Rattle.act1_groute.specs.Nets.{is_same_source, nets, source_line, lowest, highest, covers, sink_lines, is_needed, channels}

-- a net needs a channel
pub record Demand : Type 0 where
  pub net : Source
  pub channel : ℕ

abbrev pub long_line : LongWire → Line
long_line w = line.Long w.column w.index

abbrev pub wire_of : Take → Line
wire_of take = long_line take.wire

-- the needed channels of all nets, in the order of nets and rising
abbrev pub demands : Device → Plan → List Demand
demands dev plan = flat_map (λ net. map (λ h. let d : Demand = record { net = net; channel = h } in d) (filter (is_needed dev plan net) (channels dev))) (nets plan)

-- what the net itself has taken
abbrev pub own : Source → List Take → List Take
own net takes = filter (λ (take : Take). is_same_source take.net net) takes

-- the channel, of those that the line covers, that is nearest to this one, which it doesn't cover
abbrev pub nearest : Device → Line → ℕ → ℕ
nearest dev l channel = if nat_lt channel (lowest dev l) then lowest dev l else highest dev l

abbrev pub distance : ℕ → ℕ → ℕ
distance a b = a - b + (b - a)

-- all long wires, by column and index
abbrev pub all_longs : Device → List LongWire
all_longs dev =
    flat_map (λ column. map (λ index. let w : LongWire = record { column = column; index = index } in w) (numbers 0 (length dev.longs))) (numbers 0 dev.columns)

-- the long wire is one of the taken ones
abbrev pub is_taken : List Take → LongWire → Bool
is_taken takes w = list_any (λ (take : Take). (take.wire.column == w.column) && (take.wire.index == w.index)) takes

-- the long wires that no net has taken and that cross both the channel and the home
abbrev pub candidates : Device → List Take → ℕ → ℕ → List LongWire
candidates dev takes home channel = filter (λ w. not (is_taken takes w) && covers dev (long_line w) home && covers dev (long_line w) channel) (all_longs dev)

-- where a long wire that serves the demand is joined to the source
abbrev pub home_of : Device → Plan → Demand → ℕ
home_of dev plan d = nearest dev (source_line plan d.net) d.channel

-- the nearest candidate to the source's column, of these the one of the least column, and of these that of the least index
abbrev pub least_candidate : Device → Plan → List Take → Demand → Option LongWire
least_candidate dev plan takes d =
    least_by (λ (w : LongWire). distance w.column (column_of dev (source_line plan d.net))) (candidates dev takes (home_of dev plan d) d.channel)

-- the source serves the channel, or a long wire that the net has taken does
abbrev pub is_served : Device → Plan → List Take → Demand → Bool
is_served dev plan takes d =
    covers dev (source_line plan d.net) d.channel || list_any (λ (take : Take). covers dev (wire_of take) d.channel) (own d.net takes)

abbrev pub with_candidate : Device → Plan → List Take → Demand → Option LongWire → Result (List Take) Demand
with_candidate dev plan takes d (Some w) = Ok (takes ++ (record { net = d.net; wire = w; home = home_of dev plan d }) ∷ [])
with_candidate dev plan takes d None = Err d

-- what is taken with this demand: nothing more where it is served, else the least candidate; where there is none, the rule fails at this net and channel
abbrev pub take_for : Device → Plan → List Take → Demand → Result (List Take) Demand
take_for dev plan takes d = if is_served dev plan takes d then Ok takes else with_candidate dev plan takes d (least_candidate dev plan takes d)

-- goes on with what is taken, or stays at the demand at which the rule fails
abbrev pub and_on : {A B : Type 0} → Result A Demand → (A → Result B Demand) → Result B Demand
and_on (Ok x) next = next x
and_on (Err d) next = Err d

-- what is taken with these demands, one after the other, or the first at which the rule fails
abbrev pub take_all : Device → Plan → List Take → List Demand → Result (List Take) Demand
take_all dev plan takes [] = Ok takes
take_all dev plan takes (d ∷ ds) = and_on (take_for dev plan takes d) (λ more. take_all dev plan more ds)

-- the lines of a net's connection in a channel: its sinks there; and where the source covers the channel, the source's line and the long wires that have it as home; else the first long wire of the net that serves it
abbrev pub lines_in : Device → Plan → List Take → Source → ℕ → List Line
lines_in dev plan takes net channel =
    sink_lines dev plan net channel
    ++ (if covers dev (source_line plan net) channel
    then source_line plan net ∷ map wire_of (filter (λ (take : Take). take.home == channel) (own net takes))
    else option_to_list (find (λ l. covers dev l channel) (map wire_of (own net takes))))

-- a net has a connection in each channel that it needs and in each home
abbrev pub has_connection : Device → Plan → List Take → Source → ℕ → Bool
has_connection dev plan takes net channel =
    is_needed dev plan net channel || list_any (λ (take : Take). take.home == channel) (own net takes)

-- its interval is the least one that holds the columns of all its lines
abbrev pub wiring_of : Device → Source → List Line → Wiring
wiring_of dev net lines =
    record { net = net; left = least_number (map (column_of dev) lines); right = greatest_number (map (column_of dev) lines); lines = lines }

-- the connections of a channel, in the order of nets
abbrev pub wirings : Device → Plan → List Take → ℕ → List Wiring
wirings dev plan takes channel =
    map (λ net. wiring_of dev net (lines_in dev plan takes net channel)) (filter (λ net. has_connection dev plan takes net channel) (nets plan))

-- the connections of all channels, or the first net and channel for which the rule finds no wire
abbrev pub routes : Device → Plan → Result (List (List Wiring)) Demand
routes dev plan = and_on (take_all dev plan [] (demands dev plan)) (λ takes. Ok (map (wirings dev plan takes) (channels dev)))

-- the interval of a connection
abbrev pub interval : Wiring → Connection
interval w = record { left = w.left; right = w.right }

-- the problem of a channel with these connections
pub record IsProblemOf (dev : Device) (k channel : ℕ) (ws : List Wiring) (p : Problem) : Type 0 where
  pub columns : p.columns ≡ dev.columns
  pub k_is : p.k ≡ k
  pub tracks : p.tracks ≡ tracks_of dev channel
  pub connections : p.connections ≡ map interval ws

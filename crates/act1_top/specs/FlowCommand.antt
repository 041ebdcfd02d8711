-- The command `flow`.
use Rattle.std.specs.Prelude.{ℕ, ◌≡◌, ◌<◌, ◌⊎◌, ◌==◌, if◌then◌else◌, List, [], ◌∷◌, ◌++◌, length, codes, Some, Ok, Err}
use Rattle.std.specs.Fmt.{decimal}
use Rattle.act1_outside.specs.Outside.{Bench, Shelf}
use Rattle.act1_device.specs.declared.device.Device.{Device}
use Rattle.act1_devread.specs.Text.{DeviceText}
use Rattle.act1_blif.specs.declared.blif.Blif.{Blif}
use Rattle.act1_blifread.specs.Text.{BlifText}
use Rattle.act1_channel.specs.declared.problem.Problem.{Problem}
use Rattle.act1_circuit.specs.declared.circuit.Placed.{Placed}
use Rattle.act1_circuit.specs.declared.circuit.Source.{Source}
use Rattle.act1_circuit.specs.SourceWords.{source_word}
use Rattle.act1_meaning.specs.Meaning.{Means}
use Rattle.act1_fuses.specs.declared.fuses.FuseFile.{FuseFile}
use Rattle.act1_fuses.specs.Array.{Sound, IsCircuitOf}
use Rattle.act1_fuses.specs.Rules.{KeepsRules}
use Rattle.act1_fuses.specs.Text.{fuse_text}
use Rattle.act1_plan.specs.declared.plan.Plan.{Plan}
use Rattle.act1_plan.specs.Texts.{plan_text}
use Rattle.act1_report.specs.declared.report.Report.{Report}
use Rattle.act1_report.specs.Texts.{report_text}
use Rattle.act1_farm.specs.declared.outcome.Tally.{Tally}
use Rattle.act1_flow.specs.Flow.{IsHelpedTo, IsRoutedFor, IsStop, IsVertical, WereAskedFor}
use Rattle.act1_flow.specs.Helping.{Helping, helping_of}
use Rattle.act1_flow.specs.Realizes.{IsPlanFor, IsEmission, plan_with}
use Rattle.act1_flow.specs.declared.answer.FlowStop.{FlowStop}
use Rattle.act1_flow.specs.declared.answer.FlowStop.TheVariants as stop
use Rattle.act1_flow.specs.declared.answer.Routed.{Routed}
use Rattle.act1_flow.specs.declared.answer.Settings.{Settings}
use Rattle.act1_frame.specs.declared.ending.Ending.{Ending}
use Rattle.act1_frame.specs.Endings.{refusal, with_text}
use Rattle.act1_frame.specs.Leaving.{NowHolds, PrintsAll}
use Rattle.act1_frame.specs.Reading.{Found, Wanted, Holds}
use Rattle.act1_frame.specs.Stages.{Reads}
use Rattle.act1_frame.specs.World.{World}
use Rattle.act1_words.specs.declared.command.FlowWords.{FlowWords}
use Rattle.act1_top.specs.Files.{file_of, DeviceRefused, NetlistRefused}
use Rattle.act1_top.specs.FlowAnswers.{IsRefutation, IsSpending}

-- the files that it reads and writes, and those that it writes at a status
abbrev pub flow_reads : FlowWords → List Wanted
flow_reads words = file_of words.device ∷ file_of words.blif ∷ []

abbrev pub flow_writes : FlowWords → List (List ℕ)
flow_writes words = words.fuses ∷ words.report ∷ []

abbrev pub flow_writes_at : FlowWords → ℕ → List (List ℕ)
flow_writes_at words status = if status == 0 then words.fuses ∷ [] else if status == 10 then words.report ∷ [] else []

-- what the flow is told by the words
abbrev pub settings_of : FlowWords → Settings
settings_of words = record { k = words.k; budget = words.budget; seed = words.seed; jobs = words.jobs }

-- the helpers that the flow asks: those of the program that the words name
abbrev pub helping_in : FlowWords → Bench → Bench → Helping
helping_in words before after = helping_of words.program before after

-- a number with its name in front, each behind a space
abbrev pub counted : List ℕ → ℕ → List ℕ
counted name count = 32 ∷ name ++ 32 ∷ decimal count

-- for how many channels helpers were asked, for how many a usable answer came, and how many starts and finishes failed
unfoldable pub helpers_line : ℕ → ℕ → ℕ → List ℕ
helpers_line asked taken faults = codes "helpers" ++ counted (codes "asked") asked ++ counted (codes "taken") taken ++ counted (codes "faults") faults ++ 10 ∷ []

abbrev pub helpers_text : Tally → List ℕ
helpers_text tally = helpers_line tally.asked tally.taken tally.faults

-- what is printed of an antifuse file that is done
abbrev pub done_text : ℕ → ℕ → Tally → List ℕ
done_text modules antifuses tally = codes "done" ++ counted (codes "modules") modules ++ counted (codes "fuses") antifuses ++ 10 ∷ [] ++ helpers_text tally

-- .. of pads or sites that are too few
abbrev pub needed_text : List ℕ → ℕ → ℕ → List ℕ
needed_text what needed have = what ++ counted (codes "needed") needed ++ counted (codes "have") have ++ 10 ∷ []

-- .. of a plan that the rule of routes fails for: the first net and channel for which it does, and the plan
abbrev pub vertical_text : Source → ℕ → Plan → List ℕ
vertical_text net channel plan = codes "vertical net " ++ source_word net ++ counted (codes "channel") channel ++ 10 ∷ [] ++ plan_text plan

-- .. of a channel that has no assignment
unfoldable pub unroutable_line : ℕ → ℕ → ℕ → List ℕ
unroutable_line channel connections steps = codes "unroutable" ++ counted (codes "channel") channel ++ counted (codes "connections") connections ++ counted (codes "steps") steps ++ 10 ∷ []

abbrev pub refuted_text : ℕ → ℕ → ℕ → Tally → List ℕ
refuted_text channel connections steps tally = unroutable_line channel connections steps ++ helpers_text tally

-- .. of a channel whose search spent its budget
unfoldable pub spent_line : ℕ → ℕ → ℕ → ℕ → List ℕ
spent_line channel conflicts tracks connections =
    codes "spent" ++ counted (codes "channel") channel ++ counted (codes "conflicts") conflicts ++ counted (codes "tracks") tracks ++ counted (codes "connections") connections ++ 10 ∷ []

abbrev pub spent_text : ℕ → ℕ → ℕ → ℕ → Plan → Tally → List ℕ
spent_text channel conflicts tracks connections plan tally = spent_line channel conflicts tracks connections ++ plan_text plan ++ helpers_text tally

-- a netlist that is on the device: the antifuse file is written, with so many modules
abbrev pub routed_ending : List ℕ → FuseFile → ℕ → Tally → Ending
routed_ending fuses file modules tally = record {
  status = 0;
  text = done_text modules (length file.sites) tally;
  file = Some (record { name = fuses; bytes = fuse_text file });
}

-- a channel that has no assignment: the report is written
abbrev pub refuted_ending : List ℕ → Report → ℕ → Tally → Ending
refuted_ending name report connections tally = record {
  status = 10;
  text = refuted_text report.channel connections (length report.log.steps) tally;
  file = Some (record { name = name; bytes = report_text report });
}

-- a netlist that isn't put on the device
abbrev pub stop_ending : List ℕ → FlowStop → Ending
stop_ending report (stop.Pads needed have) = with_text 8 (needed_text (codes "pads") needed have)
stop_ending report (stop.Full needed have) = with_text 8 (needed_text (codes "sites") needed have)
stop_ending report (stop.Vertical net channel plan) = with_text 9 (vertical_text net channel plan)
stop_ending report (stop.Refuted made connections tally) = refuted_ending report made connections tally
stop_ending report (stop.Spent plan channel conflicts tracks connections tally) = with_text 11 (spent_text channel conflicts tracks connections plan tally)
stop_ending report stop.Memory = refusal 15 (codes "memory" ∷ [])

-- the stop isn't want of memory
abbrev pub IsCause : FlowStop → Type 0
IsCause stop.Memory = ⊥
IsCause why = Unit {0}

-- what the flow of a netlist for a device ends with: a cause that there is no antifuse file, the first in the order pads, sites, long wires, channels rising; or an antifuse file that realizes the netlist
abbrev pub FlowEnds : FlowWords → Helping → Device → Blif → Ending → Type 0
FlowEnds words helping dev net e =
    ((why : FlowStop) × IsStop dev net (settings_of words) helping why × (e ≡ stop_ending words.report why))
    ⊎ ((routed : Routed) × IsRoutedFor dev net (settings_of words) helping routed × (e ≡ routed_ending words.fuses routed.fuses routed.modules routed.tally))

-- its endings, by the stage that they come from
abbrev pub FlowMayEnd : FlowWords → Helping → Shelf → Shelf → Ending → Type 0
FlowMayEnd words helping before after e =
    Reads DeviceText DeviceRefused before after (file_of words.device) (λ dev.
    Reads BlifText NetlistRefused before after (file_of words.blif) (λ net.
    FlowEnds words helping dev net)) e

-- the sites are too few
abbrev pub sites_ending : ℕ → ℕ → Ending
sites_ending needed have = with_text 8 (needed_text (codes "sites") needed have)

-- The endings that follow from the circuit that the netlist is mapped to. That circuit is free but for its meaning and its count of modules; where it stands, its routes and the order of the search are then functions of the device and the words.
abbrev pub FlowIsChosen : Ending → Type 0
FlowIsChosen e = (e.status ≡ 0) ⊎ ((e.status ≡ 9) ⊎ ((e.status ≡ 10) ⊎ ((e.status ≡ 11) ⊎ ((needed : ℕ) × (have : ℕ) × (e ≡ sites_ending needed have)))))

-- what was read: the bytes under DEVICE are this device's text, and those under BLIF this netlist's
pub record FlowReads (words : FlowWords) (before : World) (dev : Device) (net : Blif) : Type 0 where
  pub device_bytes : List ℕ
  pub blif_bytes : List ℕ
  pub device_held : Holds before.shelf words.device device_bytes
  pub device_text : DeviceText device_bytes dev
  pub blif_held : Holds before.shelf words.blif blif_bytes
  pub blif_text : BlifText blif_bytes net

-- The headline. The bytes under DEVICE are a device's text, and those under BLIF a netlist's. FUSES now holds the one text of an antifuse file that keeps the rules for that device. The array is sound: it drives no wire twice and leaves no pin and no output open. The circuit that device and antifuse file alone describe means the netlist: for every list of input vectors, every start state that agrees with the declared latch values and every order in which its modules fire, it shows the netlist's outputs in each clock cycle and comes to rest after each wave. It has at most the least count of modules, which is never more than the netlist needs at most, and what is printed are the numbers of its modules and antifuses. The plan of this circuit with the k of the words is legal and stable, and the antifuses are those of its routes, on tracks that assign the problem of each channel. Each channel is decided by a usable answer of a helper, or where none came by the search, and what is printed of the helpers is what came of them.
pub record FlowIsDone (words : FlowWords) (before after : World) : Type 0 where
  pub dev : Device
  pub net : Blif
  pub file : FuseFile
  pub array : Placed
  pub read : FlowReads words before dev net
  pub written : NowHolds words.fuses (fuse_text file) before.shelf after.shelf
  pub keeps : KeepsRules dev file
  pub sound : Sound dev file
  pub is : IsCircuitOf array dev file
  pub means : Means array.circuit net
  pub plan : IsPlanFor dev net (settings_of words) (plan_with dev (settings_of words) array)
  pub emission : IsEmission dev (plan_with dev (settings_of words) array) file.sites
  pub tally : Tally
  pub helped : IsHelpedTo dev (plan_with dev (settings_of words) array) (settings_of words) (helping_in words before.bench after.bench) tally file.sites
  pub printed : PrintsAll (done_text (length array.circuit.modules) (length file.sites) tally) before.paper after.paper

-- A plan that the rule of routes fails for. What is printed are the net and the channel for which it fails first, and the plan: it is legal and stable, its circuit means the netlist, and it has at most the least count of modules.
pub record FlowIsVertical (words : FlowWords) (before after : World) : Type 0 where
  pub dev : Device
  pub net : Blif
  pub plan : Plan
  pub source : Source
  pub channel : ℕ
  pub read : FlowReads words before dev net
  pub is : IsVertical dev net (settings_of words) plan (record { net = source; channel = channel })
  pub printed : PrintsAll (vertical_text source channel plan) before.paper after.paper

-- A channel without an assignment. REPORT now holds the text of a report: its plan is legal and stable, has the k of the words, means the netlist, has at most the least count of modules, and has routes; each channel before its own is decided by an assignment; its log is accepted for the problem of its channel, which so has no assignment. Each of these comes of a usable answer of a helper, or where none came for the channel, of its search within the budget. The command `check` accepts what is written.
pub record FlowIsRefuted (words : FlowWords) (before after : World) : Type 0 where
  pub dev : Device
  pub net : Blif
  pub report : Report
  pub problem : Problem
  pub read : FlowReads words before dev net
  pub written : NowHolds words.report (report_text report) before.shelf after.shelf
  pub tally : Tally
  pub refuted : IsRefutation dev net (settings_of words) (helping_in words before.bench after.bench) report problem tally
  pub printed : PrintsAll (refuted_text report.channel (length problem.connections) (length report.log.steps) tally) before.paper after.paper

-- A search that is spent. What is printed are the channel, the budget, the numbers of its tracks and connections, and the plan, which is as above. Each channel before it is decided by an assignment; no usable answer of a helper came for this one, and the conflict of the budget's number of its search has choices, and so the budget is below `(1 + T)^n`, T the number of tracks and n that of connections.
pub record FlowIsSpent (words : FlowWords) (before after : World) : Type 0 where
  pub dev : Device
  pub net : Blif
  pub plan : Plan
  pub channel : ℕ
  pub problem : Problem
  pub read : FlowReads words before dev net
  pub tally : Tally
  pub spent : IsSpending dev net (settings_of words) (helping_in words before.bench after.bench) plan channel problem tally
  pub printed : PrintsAll (spent_text channel words.budget (length problem.tracks) (length problem.connections) plan tally) before.paper after.paper

-- helpers were asked, by the front of their story at least, for the channels of a plan of the netlist that was read
pub record WereCalled (words : FlowWords) (shelf : Shelf) (before after : Bench) : Type 0 where
  pub dev : Device
  pub net : Blif
  pub device : Found DeviceText shelf (file_of words.device) dev
  pub netlist : Found BlifText shelf (file_of words.blif) net
  pub asked : WereAskedFor dev net (settings_of words) (helping_in words before after)

-- What is seen of the helpers afterwards, whatever the status: what it was, or they were asked so. Without `--jobs` none is called.
pub record MayCall (words : FlowWords) (shelf : Shelf) (before after : Bench) : Type 0 where
  pub calls : (after ≡ before) ⊎ WereCalled words shelf before after
  pub none : words.jobs ≡ 0 → after ≡ before

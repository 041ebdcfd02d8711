-- The command `demo`.
use Rattle.std.specs.Prelude.{ℕ, ◌≡◌, ◌⊎◌, ◌==◌, if◌then◌else◌, List, [], ◌∷◌, ◌++◌, length, codes, Some, None}
use Rattle.act1_outside.specs.Outside.{Bench, Shelf}
use Rattle.act1_blif.specs.declared.blif.Blif.{Blif}
use Rattle.act1_blifread.specs.Text.{BlifText}
use Rattle.act1_channel.specs.declared.problem.Problem.{Problem}
use Rattle.act1_circuit.specs.declared.circuit.Source.{Source}
use Rattle.act1_demo.specs.Shown.{AreLinesOf}
use Rattle.act1_demo.specs.Text.{demo_text}
use Rattle.act1_device.specs.declared.device.Device.{Device}
use Rattle.act1_devread.specs.Text.{DeviceText}
use Rattle.act1_fuses.specs.declared.fuses.FuseFile.{FuseFile}
use Rattle.act1_fuses.specs.Text.{fuse_text}
use Rattle.act1_plan.specs.declared.plan.Plan.{Plan}
use Rattle.act1_plan.specs.Texts.{plan_text}
use Rattle.act1_report.specs.declared.report.Report.{Report}
use Rattle.act1_report.specs.Texts.{report_text}
use Rattle.act1_farm.specs.declared.outcome.Tally.{Tally}
use Rattle.act1_flow.specs.Flow.{HasPads, IsStop, IsVertical}
use Rattle.act1_flow.specs.Helping.{Helping, helping_of}
use Rattle.act1_flow.specs.Realizes.{Realizes}
use Rattle.act1_flow.specs.declared.answer.FlowStop.{FlowStop}
use Rattle.act1_flow.specs.declared.answer.FlowStop.TheVariants as stop
use Rattle.act1_flow.specs.declared.answer.Settings.{Settings}
use Rattle.act1_frame.specs.declared.ending.Ending.{Ending}
use Rattle.act1_frame.specs.Endings.{refusal, with_text}
use Rattle.act1_frame.specs.Leaving.{NowHolds, PrintsAll}
use Rattle.act1_frame.specs.Reading.{Wanted, Holds}
use Rattle.act1_frame.specs.Stages.{Reads}
use Rattle.act1_frame.specs.World.{World}
use Rattle.act1_words.specs.declared.command.DemoWords.{DemoWords}
use Rattle.act1_top.specs.Files.{file_of, DeviceRefused}
use Rattle.act1_top.specs.FlowAnswers.{IsRefutation, IsSpending}
use Rattle.act1_top.specs.FlowCommand.{counted, needed_text, spent_line, unroutable_line, vertical_text}

-- the files that it reads and writes, and those that it writes at a status
abbrev pub demo_reads : DemoWords → List Wanted
demo_reads words = file_of words.device ∷ []

abbrev pub demo_writes : DemoWords → List (List ℕ)
demo_writes words = words.fuses ∷ []

abbrev pub demo_writes_at : DemoWords → ℕ → List (List ℕ)
demo_writes_at words status = if status == 0 then words.fuses ∷ [] else []

-- what the flow is told: the defaults of `flow`
abbrev pub demo_settings : Settings
demo_settings = record { k = 3; budget = 100000; seed = 0; jobs = 0 }

-- no helpers are there
abbrev pub no_bench : Bench
no_bench = record { open_tickets = []; next = 0; faults = 0; story = None }

abbrev pub no_helping : Helping
no_helping = helping_of [] no_bench no_bench

-- what is printed of an antifuse file that is done: the lines that the netlist shows, and the numbers of bits, modules and antifuses
unfoldable pub demo_line : ℕ → ℕ → ℕ → List ℕ
demo_line bits modules antifuses = codes "demo" ++ counted (codes "bits") bits ++ counted (codes "modules") modules ++ counted (codes "fuses") antifuses ++ 10 ∷ []

abbrev pub demo_done_text : List ℕ → ℕ → ℕ → ℕ → List ℕ
demo_done_text lines bits modules antifuses = lines ++ demo_line bits modules antifuses

-- .. of a channel that has no assignment: its line, and the text of the report
abbrev pub demo_refuted_text : Report → ℕ → List ℕ
demo_refuted_text report connections = unroutable_line report.channel connections (length report.log.steps) ++ report_text report

-- .. of a channel whose search spent its budget: its line, and the plan
abbrev pub demo_spent_text : ℕ → ℕ → ℕ → ℕ → Plan → List ℕ
demo_spent_text channel conflicts tracks connections plan = spent_line channel conflicts tracks connections ++ plan_text plan

-- the antifuse file is written
abbrev pub demo_ending : DemoWords → List ℕ → FuseFile → ℕ → Ending
demo_ending words lines file modules = record {
  status = 0;
  text = demo_done_text lines words.bits modules (length file.sites);
  file = Some (record { name = words.fuses; bytes = fuse_text file });
}

-- a counter that isn't put on the device: no file is written
abbrev pub demo_stop_ending : FlowStop → Ending
demo_stop_ending (stop.Pads needed have) = with_text 8 (needed_text (codes "pads") needed have)
demo_stop_ending (stop.Full needed have) = with_text 8 (needed_text (codes "sites") needed have)
demo_stop_ending (stop.Vertical net channel plan) = with_text 9 (vertical_text net channel plan)
demo_stop_ending (stop.Refuted report connections tally) = with_text 10 (demo_refuted_text report connections)
demo_stop_ending (stop.Spent plan channel conflicts tracks connections tally) = with_text 11 (demo_spent_text channel conflicts tracks connections plan)
demo_stop_ending stop.Memory = refusal 15 (codes "memory" ∷ [])

-- what the flow of the counter for a device ends with
abbrev pub DemoEnds : DemoWords → Device → Blif → Ending → Type 0
DemoEnds words dev net e =
    ((why : FlowStop) × IsStop dev net demo_settings no_helping why × (e ≡ demo_stop_ending why))
    ⊎ (HasPads dev net × (file : FuseFile) × (modules : ℕ) × (lines : List ℕ) × Realizes dev net demo_settings file modules × AreLinesOf net lines × (e ≡ demo_ending words lines file modules))

-- the netlist is that of the demo's text of so many bits
abbrev pub DemoNetEnds : DemoWords → Device → Ending → Type 0
DemoNetEnds words dev e = (net : Blif) × BlifText (demo_text words.bits) net × DemoEnds words dev net e

-- its endings, by the stage that they come from
abbrev pub DemoMayEnd : DemoWords → Shelf → Shelf → Ending → Type 0
DemoMayEnd words before after e = Reads DeviceText DeviceRefused before after (file_of words.device) (DemoNetEnds words) e

-- what was read and made: the bytes under DEVICE are this device's text, and the demo's text of so many bits is that of this netlist
pub record DemoReads (words : DemoWords) (before : World) (dev : Device) (net : Blif) : Type 0 where
  pub device_bytes : List ℕ
  pub device_held : Holds before.shelf words.device device_bytes
  pub device_text : DeviceText device_bytes dev
  pub netlist : BlifText (demo_text words.bits) net

-- A demo that is done. FUSES now holds the one text of an antifuse file that has for the counter all that status 0 of `flow` says, with the defaults (`Realizes`). What is printed are the lines that the counter shows from its zero state over sixteen vectors, and the numbers of its bits, of the array's modules and of the antifuses.
pub record DemoIsDone (words : DemoWords) (before after : World) : Type 0 where
  pub dev : Device
  pub net : Blif
  pub file : FuseFile
  pub modules : ℕ
  pub lines : List ℕ
  pub read : DemoReads words before dev net
  pub written : NowHolds words.fuses (fuse_text file) before.shelf after.shelf
  pub realizes : Realizes dev net demo_settings file modules
  pub shown : AreLinesOf net lines
  pub printed : PrintsAll (demo_done_text lines words.bits modules (length file.sites)) before.paper after.paper

-- A plan that the rule of routes fails for, as status 9 of `flow` says it.
pub record DemoIsVertical (words : DemoWords) (before after : World) : Type 0 where
  pub dev : Device
  pub net : Blif
  pub plan : Plan
  pub source : Source
  pub channel : ℕ
  pub read : DemoReads words before dev net
  pub is : IsVertical dev net demo_settings plan (record { net = source; channel = channel })
  pub printed : PrintsAll (vertical_text source channel plan) before.paper after.paper

-- A channel without an assignment. What is printed is its line and the text of a report that has all that status 10 of `flow` says.
pub record DemoIsRefuted (words : DemoWords) (before after : World) : Type 0 where
  pub dev : Device
  pub net : Blif
  pub report : Report
  pub problem : Problem
  pub read : DemoReads words before dev net
  pub tally : Tally
  pub refuted : IsRefutation dev net demo_settings no_helping report problem tally
  pub printed : PrintsAll (demo_refuted_text report (length problem.connections)) before.paper after.paper

-- A search that is spent, as status 11 of `flow` says it.
pub record DemoIsSpent (words : DemoWords) (before after : World) : Type 0 where
  pub dev : Device
  pub net : Blif
  pub plan : Plan
  pub channel : ℕ
  pub problem : Problem
  pub read : DemoReads words before dev net
  pub tally : Tally
  pub spent : IsSpending dev net demo_settings no_helping plan channel problem tally
  pub printed : PrintsAll (demo_spent_text channel demo_settings.budget (length problem.tracks) (length problem.connections) plan) before.paper after.paper

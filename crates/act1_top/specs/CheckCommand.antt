-- The command `check`.
use Rattle.std.specs.Prelude.{ℕ, ◌≡◌, ◌≢◌, List, [], ◌∷◌, codes, Ok, Err}
use Rattle.std.specs.Fmt.{decimal}
use Rattle.act1_base.specs.Words.{text_line}
use Rattle.act1_outside.specs.Outside.{Shelf}
use Rattle.act1_channel.specs.declared.problem.Problem.{Problem}
use Rattle.act1_channel.specs.Acceptance.{IsAccepted}
use Rattle.act1_refute.specs.Verdict.{HasNoAssignment}
use Rattle.act1_device.specs.declared.device.Device.{Device}
use Rattle.act1_devread.specs.Text.{DeviceText}
use Rattle.act1_report.specs.declared.fault.ReportFault.{ReportFault}
use Rattle.act1_report.specs.declared.fault.ReportFault.TheVariants as fault
use Rattle.act1_report.specs.declared.report.Report.{Report}
use Rattle.act1_report.specs.Texts.{IsTextOf}
use Rattle.act1_report.specs.Checks.{ReportChecks, Sets}
use Rattle.act1_frame.specs.declared.ending.Ending.{Ending}
use Rattle.act1_frame.specs.Endings.{printed}
use Rattle.act1_frame.specs.Leaving.{PrintsAll}
use Rattle.act1_frame.specs.Reading.{Wanted, Holds, wanted_of}
use Rattle.act1_frame.specs.Stages.{Reads, RefusedFor}
use Rattle.act1_frame.specs.World.{World}
use Rattle.act1_words.specs.declared.command.CheckWords.{CheckWords}
use Rattle.act1_top.specs.Files.{file_of, DeviceRefused}

-- the most bytes that are read of a report: 256 MiB
abbrev pub most_report_bytes : ℕ
most_report_bytes = 268435456

abbrev pub report_file : List ℕ → Wanted
report_file name = wanted_of name most_report_bytes

-- the files that it reads; it writes none
abbrev pub check_reads : CheckWords → List Wanted
check_reads words = file_of words.device ∷ report_file words.report ∷ []

-- what is printed of a report that is accepted, and of each fault of one that isn't
abbrev pub accepted_text : List ℕ
accepted_text = text_line (codes "accepted" ∷ [])

abbrev pub report_fault_words : ReportFault → List (List ℕ)
report_fault_words (fault.Line number) = codes "report line" ∷ decimal number ∷ []
report_fault_words fault.Plan = codes "report plan" ∷ []
report_fault_words (fault.Step number) = codes "report step" ∷ decimal number ∷ []
report_fault_words fault.Unfinished = codes "report unfinished" ∷ []
report_fault_words fault.Memory = codes "memory" ∷ []

-- the bytes are the text of a report that is accepted for the device; nothing else is found of it
abbrev pub ReportAccepted : Device → List ℕ → Unit {0} → Type 0
ReportAccepted dev bytes found = ReportChecks dev bytes (Ok found)

-- the bytes are the text of no report that is accepted: their first faulty line; or that the plan isn't legal, has no routes or has no such channel; or the first step that isn't accepted; or that no last empty one stands
abbrev pub ReportRefused : Device → List ℕ → Ending → Type 0
ReportRefused dev bytes = RefusedFor 12 report_fault_words (λ (why : ReportFault). (why ≢ fault.Memory) × ReportChecks dev bytes (Err why))

-- its endings, by the stage that they come from
abbrev pub CheckMayEnd : CheckWords → Shelf → Shelf → Ending → Type 0
CheckMayEnd words before after e =
    Reads DeviceText DeviceRefused before after (file_of words.device) (λ dev.
    Reads (ReportAccepted dev) (ReportRefused dev) before after (report_file words.report) (λ found p. p ≡ printed accepted_text)) e

-- A check that is done. The bytes under DEVICE are a device's text, and those under REPORT the one text of a report: its plan is legal for that device and has routes, its channel is one of them, and its log is accepted for the problem that the plan sets in that channel. So that problem has no assignment: the plan can't be routed.
pub record CheckIsDone (words : CheckWords) (before after : World) : Type 0 where
  pub device_bytes : List ℕ
  pub report_bytes : List ℕ
  pub dev : Device
  pub report : Report
  pub problem : Problem
  pub device_held : Holds before.shelf words.device device_bytes
  pub device_text : DeviceText device_bytes dev
  pub report_held : Holds before.shelf words.report report_bytes
  pub report_text : IsTextOf report_bytes report
  pub sets : Sets dev report problem
  pub accepted : IsAccepted problem report.log.steps
  pub none : HasNoAssignment problem
  pub printed : PrintsAll accepted_text before.paper after.paper

-- What the texts of files owe to the stages that read them.
use Rattle.std.proofs.Common.{ℕ, ◌≢◌, List, sym, ◌∙◌, arith}
use Rattle.act1_outside.specs.Outside.{Shelf}
use Rattle.act1_device.specs.declared.device.Device.{Device}
use Rattle.act1_devread.specs.declared.fault.DeviceFault.{DeviceFault}
use Rattle.act1_devread.specs.FaultWords.{device_fault_words}
use Rattle.act1_devread.specs.Text.{DeviceText, DeviceBad}
use Rattle.act1_bliftext.specs.declared.fault.BlifFault.{BlifFault}
use Rattle.act1_bliftext.specs.declared.fault.BlifKind.TheVariants as blif_kind
use Rattle.act1_bliftext.specs.Printing.{blif_fault_words}
use Rattle.act1_blifread.specs.Text.{BlifText, BlifBad}
use Rattle.act1_fuses.specs.declared.fault.FuseFault.{FuseFault}
use Rattle.act1_fuses.specs.declared.fault.FuseKind.TheVariants as fuse_kind
use Rattle.act1_fuses.specs.FaultWords.{fuse_fault_words}
use Rattle.act1_fuses.specs.Reads.{IsTextOf, IsFirstFault}
use Rattle.act1_base.specs.FirstFault.{IsFirstFaultyLine}
use Rattle.act1_job.specs.Reads.{IsJobText}
use Rattle.act1_frame.specs.declared.ending.Ending.{Ending}
use Rattle.act1_frame.specs.Reading.{Wanted}
use Rattle.act1_frame.proofs.Fine.{IsFine, content, refused_apart, refused_fine}
use Rattle.act1_frame.proofs.One.{IsExact, refused_exact}
use Rattle.act1_top.specs.Files.{DeviceRefused, NetlistRefused, FusesRefused, JobText, JobRefused, job_fault_words}
use Rattle.act1_top.specs.Laws.{TextsAreOne}

abbrev DeviceHas : List ℕ → DeviceFault → Type 0
DeviceHas bytes fault = DeviceBad bytes fault.kind fault.key

abbrev NetlistHas : List ℕ → BlifFault → Type 0
NetlistHas bytes fault = (fault.kind ≢ blif_kind.Memory) × BlifBad bytes fault.line fault.kind

abbrev FusesHave : Device → List ℕ → FuseFault → Type 0
FusesHave dev bytes fault = (fault.kind ≢ fuse_kind.Memory) × IsFirstFault dev bytes fault.line fault.kind

abbrev JobHas : List ℕ → ℕ → Type 0
JobHas bytes line = IsFirstFaultyLine IsJobText bytes line

module _ (laws : TextsAreOne) where
  pub device_exact : IsExact DeviceText DeviceRefused
  device_exact = refused_exact DeviceText 5 device_fault_words DeviceHas (λ bytes dev fault h k. laws.device_never bytes dev fault.kind fault.key h k) (λ bytes d e h k. laws.one_device bytes d e h k)

  pub netlist_exact : IsExact BlifText NetlistRefused
  netlist_exact = refused_exact BlifText 4 blif_fault_words NetlistHas (λ bytes net fault h k. laws.netlist_never bytes net fault.line fault.kind h k.1) (λ bytes n m h k. laws.one_netlist bytes n m h k)

  pub fuses_exact : (dev : Device) → IsExact (IsTextOf dev) (FusesRefused dev)
  fuses_exact dev =
      refused_exact (IsTextOf dev) 6 fuse_fault_words (FusesHave dev) (λ bytes file fault h k. laws.fuses_never dev bytes file fault.line fault.kind h k.1) (λ bytes f g h k. laws.one_file dev f g h.0 k.0 (sym h.1 ∙ k.1))

  pub job_exact : IsExact JobText JobRefused
  job_exact = refused_exact JobText 17 job_fault_words JobHas (λ bytes job line h k. laws.job_never bytes job line h k) (λ bytes j k h g. laws.one_job bytes j k h g)

module _ (Usage : Type 0) (reads : List Wanted) (writes_at : ℕ → List (List ℕ)) (before after : Shelf) where
  pub device_fine : (bytes : List ℕ) (e : Ending) → DeviceRefused bytes e → IsFine Usage reads writes_at before after e
  device_fine bytes e h = refused_fine Usage reads writes_at before after 5 device_fault_words (DeviceHas bytes) e (content 5 (omega arith) (λ n. absurd (omega (arith, n)))) h

  pub netlist_fine : (bytes : List ℕ) (e : Ending) → NetlistRefused bytes e → IsFine Usage reads writes_at before after e
  netlist_fine bytes e h = refused_fine Usage reads writes_at before after 4 blif_fault_words (NetlistHas bytes) e (content 4 (omega arith) (λ n. absurd (omega (arith, n)))) h

  pub fuses_fine : (dev : Device) (bytes : List ℕ) (e : Ending) → FusesRefused dev bytes e → IsFine Usage reads writes_at before after e
  fuses_fine dev bytes e h = refused_fine Usage reads writes_at before after 6 fuse_fault_words (FusesHave dev bytes) e (content 6 (omega arith) (λ n. absurd (omega (arith, n)))) h

  pub job_fine : (bytes : List ℕ) (e : Ending) → JobRefused bytes e → IsFine Usage reads writes_at before after e
  job_fine bytes e h = refused_fine Usage reads writes_at before after 17 job_fault_words (JobHas bytes) e (content 17 (omega arith) (λ n. absurd (omega (arith, n)))) h

-- what is refused has the status of its refusal
pub device_apart : (status : ℕ) → status ≢ 5 → (bytes : List ℕ) (e : Ending) → DeviceRefused bytes e → e.status ≢ status
device_apart status other bytes e h = refused_apart 5 status device_fault_words (DeviceHas bytes) e (λ n. other (sym n)) h

pub netlist_apart : (status : ℕ) → status ≢ 4 → (bytes : List ℕ) (e : Ending) → NetlistRefused bytes e → e.status ≢ status
netlist_apart status other bytes e h = refused_apart 4 status blif_fault_words (NetlistHas bytes) e (λ n. other (sym n)) h

pub fuses_apart : (status : ℕ) → status ≢ 6 → (dev : Device) (bytes : List ℕ) (e : Ending) → FusesRefused dev bytes e → e.status ≢ status
fuses_apart status other dev bytes e h = refused_apart 6 status fuse_fault_words (FusesHave dev bytes) e (λ n. other (sym n)) h

pub job_apart : (status : ℕ) → status ≢ 17 → (bytes : List ℕ) (e : Ending) → JobRefused bytes e → e.status ≢ status
job_apart status other bytes e h = refused_apart 17 status job_fault_words (JobHas bytes) e (λ n. other (sym n)) h

-- The laws of what commands read and find.
use Rattle.act1_devread.specs.Laws as device
use Rattle.act1_blifread.specs.Laws as netlist
use Rattle.act1_fuses.specs.Laws as fuses
use Rattle.act1_sim.specs.Laws as sim
use Rattle.act1_job.specs.Laws as job
use Rattle.act1_channel.specs.Laws as channel
use Rattle.act1_search.specs.Exact as search
use Rattle.act1_report.specs.Laws as report
use Rattle.act1_extract.specs.Laws as extract
use Rattle.act1_flow.specs.Sure as flow

-- no text is both accepted and refused, and each is of one device, netlist, antifuse file or job; an array has one answer to a text of vectors, the search for a job one end, and the check of a report one answer, and no array is both extracted and refused; on an ample device the flow succeeds, and it isn't spent where the budget is enough
pub record TextsAreOne : Type 0 where
  pub device_never : device.NeverBoth
  pub one_device : device.OneDevice
  pub netlist_never : netlist.TextNetlistWithoutFault
  pub one_netlist : netlist.TextNetlistIsOne
  pub fuses_never : fuses.NeverBoth
  pub one_file : fuses.OneFile
  pub sim_never : sim.NeverBoth
  pub one_refusal : sim.OneRefusal
  pub job_never : job.NeverBoth
  pub one_job : job.OneJob
  pub logs_refute : channel.AcceptedLogsRefute
  pub spent : search.SpendingIsExact
  pub fit : search.AssignmentsFit
  pub one_report_answer : report.OneAnswer
  pub ample : flow.FlowSucceeds
  pub unspent : flow.FlowIsNotSpent
  pub extract_never : extract.NeverBoth

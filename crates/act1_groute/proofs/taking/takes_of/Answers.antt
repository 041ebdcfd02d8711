use Rattle.std.proofs.Common.{◌∙◌, sym, ap}
use Rattle.act1_groute.specs.RouteSteps.{free_longs}
use Rattle.act1_groute.proofs.TakeSteps.{free_first}
use Rattle.act1_groute.proofs.taking.takes_of.Goals as goal

pub take_nets-requires-clause-free : goal.take_nets-requires-clause-free
take_nets-requires-clause-free c = c.in_ok-free.ensures ∙ sym (free_first c.args.device.now) ∙ sym (ap (free_longs c.args.device.now) c.new-takes.ensures.items)

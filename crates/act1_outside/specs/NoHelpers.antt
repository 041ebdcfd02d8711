-- What is seen where there are no helpers.
use Rattle.std.specs.Prelude.{[], None}
use Rattle.act1_outside.specs.Outside.{Bench}
use Rattle.act1_outside.specs.declared.no_helpers.NoHelpers.{NoHelpers}

-- no ticket is open, none was given, and no story is told
abbrev pub bench_of : NoHelpers → Bench
bench_of helpers = record { open_tickets = []; next = 0; faults = helpers.faults; story = None }

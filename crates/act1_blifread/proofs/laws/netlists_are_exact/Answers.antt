use Rattle.act1_blifread.proofs.ExactNetlists.{never_both, one_at_least, one_fault, one_netlist}
use Rattle.act1_blifread.proofs.laws.netlists_are_exact.Goals as goal

pub returns : goal.returns
returns c = record { one_at_least = one_at_least c.rings_and_levels.ensures.decided c.rings_and_levels.ensures.levels; never_both = never_both; one_netlist = one_netlist; one_fault = one_fault }

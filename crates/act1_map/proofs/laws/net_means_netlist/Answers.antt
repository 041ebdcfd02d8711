use Rattle.act1_map.proofs.NetMeaning.{net_has_terms, net_means_netlist as it_means}
use Rattle.act1_map.proofs.laws.net_means_netlist.Goals as goal

pub returns : goal.returns
returns c = record { means = it_means; terms = net_has_terms }

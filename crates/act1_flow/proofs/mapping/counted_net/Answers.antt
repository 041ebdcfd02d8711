use Rattle.act1_flow.proofs.Counts.{whole_counted}
use Rattle.act1_flow.proofs.mapping.counted_net.Goals as goal

pub returns : goal.returns
returns c =
    let b = c.args.blif.now in
    let whole = c.in_ok-whole.whole in
    whole_counted b c.in_ok-net.net whole c.in_ok-net.ensures c.in_ok-whole.ensures (c.least_counts.ensures.need b whole c.in_ok-whole.ensures)

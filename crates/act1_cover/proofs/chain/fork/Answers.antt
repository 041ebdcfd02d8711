use Rattle.std.proofs.Common.{◌≡◌, ◌≢◌, rules}
use Rattle.act1_cover.proofs.StoreGrows.{draws_fork, draws_part}
use Rattle.act1_cover.proofs.chain.fork.Goals as goal

pub returns-then-eq : goal.returns-then-eq
returns-then-eq c =
    let same : c.args.low ≡ c.args.high = search rules in draws_part c.args.store.now.keys c.args.var c.args.low c.args.high same c.requires.store c.requires.low

pub returns : goal.returns
returns c =
    let differ : c.args.low ≢ c.args.high = search rules in
    draws_fork c.args.store.now.keys c.number_of.new.store.keys c.args.var c.args.low c.args.high c.in_ok-number.number c.requires.store c.requires.low c.requires.high differ c.in_ok-number.ensures

use Rattle.act1_cover.proofs.Numbered.{is_numbered}
use Rattle.act1_cover.proofs.numbering.forest_in.Goals as goal

pub returns : goal.returns
returns c =
    is_numbered c.args.store.now c.requires.store c.args.root c.in_ok-found.found.keys c.in_ok-found.ensures c.in_ok-forks.forks c.in_ok-forks.ensures c.in_ok-root.root c.requires.root c.in_ok-root.ensures

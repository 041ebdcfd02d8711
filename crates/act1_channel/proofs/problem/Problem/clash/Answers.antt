use Rattle.act1_channel.proofs.Breaks.{clash_is}
use Rattle.act1_channel.proofs.problem.Problem.clash.Goals as goal

pub returns : goal.returns
returns c =
    let is = clash_is c.args.self.now c.from.result c.from-2.result c.from-3.result in
    rw (← c.from.ensures, ← c.from-2.ensures, ← c.from-3.ensures) (λ yes. is.1 (c.do_clash.ensures.0 yes), λ h. c.do_clash.ensures.1 (is.0 h))

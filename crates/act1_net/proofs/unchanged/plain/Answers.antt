use Rattle.std.proofs.Common.{List, ap, map, ◌∙◌}
use Rattle.act1_blif.specs.declared.blif.Latch.{Latch}
use Rattle.act1_net.specs.declared.net.NetTerm.TheVariants as term
use Rattle.act1_net.proofs.SameNets.{plain_of}
use Rattle.act1_net.proofs.unchanged.plain.Goals as goal

pub returns : goal.returns
returns c =
    plain_of c.args.blif.now (c.netlists_are_whole.ensures c.args.blif.now) _ c.in_ok-blif.ensures c.in_ok-names.ensures
    (c.in_ok-outputs.ensures ∙ ap (map term.Signal) c.as_slice.ensures)
    (c.in_ok-next.ensures ∙ ap (map (λ (latch : Latch). term.Signal latch.input)) c.as_slice-2.ensures)

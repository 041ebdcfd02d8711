use Rattle.act1_base.proofs.FirstFaults.{read_as}
use Rattle.act1_base.proofs.texts.read_text.Goals as goal

pub returns-clause-texts : goal.returns-clause-texts
returns-clause-texts g c =
    λ format. read_as (g.F.Format.rules c.args.format.now) (g.F.Format.is_text c.args.format.now) format.reads format.completes c.args.bytes.now c.read_pieces.result c.read_pieces.ensures

use Rattle.act1_base.proofs.FirstPlaces.{first_is}
use Rattle.act1_base.proofs.place.first_place.Goals as goal

pub returns : goal.returns
returns c = first_is c.args.byte c.args.bytes.now c.memchr.result c.memchr.ensures

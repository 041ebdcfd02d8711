use Rattle.std.proofs.Common.{arith}
use Rattle.act1_base.proofs.ListGets.{get_read}
use Rattle.act1_array.proofs.OwnerLemmas.{gives_owner, gives_none}
use Rattle.act1_array.proofs.owners.Owners.source_of.Goals as goal

pub returns-in-Some : goal.returns-in-Some
returns-in-Some c = λ f spots h.
    gives_owner f spots c.args.classes.now c.requires.whole c.args.self.now h c.args.wire c.in-Some.class c.in-Some.ensures.class c.index.result.now (get_read c.args.self.now.owners.items c.in-Some.class c.index.result.now (let low = c.in-Some.ensures.low in let all = c.requires.all in omega arith) c.index.ensures)

pub returns-in-None : goal.returns-in-None
returns-in-None c = λ f spots h. gives_none f spots c.args.classes.now c.requires.whole c.args.wire c.in-None.ensures.class

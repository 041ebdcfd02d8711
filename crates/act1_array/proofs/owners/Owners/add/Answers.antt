use Rattle.std.proofs.Common.{arith}
use Rattle.act1_array.proofs.OwnerLemmas.{owners_step, owners_skip, no_class}
use Rattle.act1_array.proofs.owners.Owners.add.Goals as goal

pub returns-in-Some-clause-owners : goal.returns-in-Some-clause-owners
returns-in-Some-clause-owners c = λ f spots is h.
    owners_step f spots c.args.classes.now c.requires.whole c.args.source c.args.wire is c.args.self.now h c.in-Some.class c.in-Some.ensures.class (let low = c.in-Some.ensures.low in let all = c.requires.all in omega arith) c.own.new.self c.own.ensures.owners c.own.ensures.pair

pub returns-in_default-clause-owners : goal.returns-in_default-clause-owners
returns-in_default-clause-owners c = λ f spots is h.
    owners_skip f spots c.args.classes.now c.requires.whole c.args.source c.args.wire is c.args.self.now h (no_class f spots c.args.classes.now c.requires.whole c.args.source c.args.wire is c.in_default.ensures.class)

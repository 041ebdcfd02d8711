use Rattle.act1_base.proofs.LinkAdded.{with_link}
use Rattle.act1_array.specs.ClassSteps.{AreClasses, IsMerged}
use Rattle.act1_base.proofs.ListGets.{on_ok}
use Rattle.act1_array.proofs.ClassLemmas.{linked_in}
use Rattle.act1_array.proofs.classes.Classes.link.Goals as goal

pub returns-clause-classes : goal.returns-clause-classes
returns-clause-classes c = λ links h.
    let first = c.in_ok-first.ensures.classes links h in
    let second = c.in_ok-second.ensures.classes links first in
    on_ok (IsMerged c.in_ok-first.first c.in_ok-second.second c.number-2.new.self.classes.items c.join.new.self.classes.items) (AreClasses (with_link links c.args.a c.args.b) c.join.new.self.wires.keys c.join.new.self.classes.items) c.join.result
    (λ merged. linked_in links c.args.a c.args.b c.number-2.new.self.wires.keys c.join.new.self.wires.keys c.number-2.new.self.classes.items c.join.new.self.classes.items c.in_ok-first.first c.in_ok-second.second
    c.join.ensures.wires second (c.in_ok-second.ensures.others c.in_ok-first.first c.args.a c.in_ok-first.ensures.number) c.in_ok-second.ensures.number merged)
    c.join.ensures.classes

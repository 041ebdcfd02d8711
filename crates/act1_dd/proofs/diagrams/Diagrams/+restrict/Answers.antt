use Rattle.std.proofs.Common.{arith}
use Rattle.act1_dd.proofs.Growing.{keeps_all}
use Rattle.act1_dd.proofs.Restrictions.{constant_alone, later_alone, high_alone, low_alone, low_later, high_later}
use Rattle.act1_dd.proofs.diagrams.Diagrams.+restrict.Goals as goal

pub returns-in_default : goal.returns-in_default
returns-in_default t c = record { keeps = keeps_all c.args.self.now; is_ref = c.requires; value = constant_alone c.args.self.now c.args.f c.args.var c.args.value c.in_default.not-Node }

pub returns-then-branch-var-clause-value : goal.returns-then-branch-var-clause-value
returns-then-branch-var-clause-value t c = later_alone c.args.self.now c.are_reduced.ensures c.args.f c.in-Node.node c.in-Node.is c.branch-branch.result c.branch-branch.ensures.place c.args.var c.args.value c.if-branch-var.true

pub returns-then-value-clause-value : goal.returns-then-value-clause-value
returns-then-value-clause-value t c =
    high_alone c.args.self.now c.are_reduced.ensures c.args.f c.in-Node.node c.in-Node.is c.branch-branch.result c.branch-branch.ensures.place c.args.var c.args.value c.if-branch-var-2.true c.if-value.true

pub returns-else-value-clause-value : goal.returns-else-value-clause-value
returns-else-value-clause-value t c =
    low_alone c.args.self.now c.are_reduced.ensures c.args.f c.in-Node.node c.in-Node.is c.branch-branch.result c.branch-branch.ensures.place c.args.var c.args.value c.if-branch-var-2.true c.if-value.false

pub fork-requires-clause-low_later : goal.fork-requires-clause-low_later
fork-requires-clause-low_later t c =
    low_later c.args.self.now c.restrict.new.self c.restrict-2.new.self c.are_reduced.ensures c.are_reduced-2.ensures c.in_ok-zero.ensures.keeps c.in_ok-one.ensures.keeps c.in-Node.node c.branch-branch.result c.branch-branch.ensures.place
    c.args.var c.args.value (omega arith) c.in_ok-zero.zero c.in_ok-one.one c.in_ok-zero.ensures.is_ref c.in_ok-zero.ensures.value c.in_ok-one.ensures.is_ref c.in_ok-one.ensures.value

pub fork-requires-clause-high_later : goal.fork-requires-clause-high_later
fork-requires-clause-high_later t c =
    high_later c.args.self.now c.restrict.new.self c.restrict-2.new.self c.are_reduced.ensures c.are_reduced-2.ensures c.in_ok-zero.ensures.keeps c.in_ok-one.ensures.keeps c.in-Node.node c.branch-branch.result c.branch-branch.ensures.place
    c.args.var c.args.value (omega arith) c.in_ok-zero.zero c.in_ok-one.one c.in_ok-zero.ensures.is_ref c.in_ok-zero.ensures.value c.in_ok-one.ensures.is_ref c.in_ok-one.ensures.value

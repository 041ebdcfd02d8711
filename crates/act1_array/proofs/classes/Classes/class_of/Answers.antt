use Rattle.std.proofs.Common.{◌≡◌, Some, arith}
use Rattle.std.specs.Prelude.{slice_get}
use Rattle.act1_base.proofs.ListGets.{get_within, get_read}
use Rattle.act1_array.proofs.ClassLemmas.{found_wire, class_low}
use Rattle.act1_array.proofs.classes.Classes.class_of.Goals as goal

pub returns-in-Some-clause-class : goal.returns-in-Some-clause-class
returns-in-Some-clause-class c =
    let at = found_wire c.args.wire c.args.self.now.wires.keys c.in-Some.number c.in-Some.ensures.index in
    let low = get_within c.args.self.now.wires.keys c.in-Some.number c.args.wire at in
    let e = c.requires.one_each in
    (c.in-Some.number, at, get_read c.args.self.now.classes.items c.in-Some.number c.index.result.now (omega arith) c.index.ensures)

pub returns-in-Some-clause-low : goal.returns-in-Some-clause-low
returns-in-Some-clause-low c =
    let at = found_wire c.args.wire c.args.self.now.wires.keys c.in-Some.number c.in-Some.ensures.index in
    let low = get_within c.args.self.now.wires.keys c.in-Some.number c.args.wire at in
    let e = c.requires.one_each in
    let at_class : slice_get c.args.self.now.classes.items c.in-Some.number ≡ Some c.index.result.now = get_read c.args.self.now.classes.items c.in-Some.number c.index.result.now (omega arith) c.index.ensures in
    class_low c.args.self.now.wires.keys c.args.self.now.classes.items c.args.self.now.members.items c.requires.one_each c.requires.members c.args.wire c.index.result.now (c.in-Some.number, at, at_class)

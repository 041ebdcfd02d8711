use Rattle.std.proofs.Common.{◌<◌, ◌+◌, ◌-◌, List, length, get_or, sym, ap, ◌∙◌, arith}
use Rattle.act1_fuses.specs.declared.fuses.Port.{Port}
use Rattle.act1_fuses.specs.Array.{pad_wire}
use Rattle.act1_base.proofs.ListGets.{get_read}
use Rattle.act1_array.proofs.OwnerLemmas.{owners_from}
use Rattle.act1_array.proofs.owners.Owners.add_inputs.Goals as goal

pub loop-number-preserved : goal.loop-number-preserved
loop-number-preserved c =
    let i = c.loop-number.number - 1 in
    let port = c.index-ins-number.result in
    let ins = c.args.file.now.ins in
    let some = c.loop-number-test.true in
    let low = c.loop-number.invariant.low in
    let within : i < length ins = omega arith in
    record {
      low = omega arith;
      all = c.add.ensures.all ∙ sym c.requires.all;
      owners = λ spots h.
          c.add.ensures.owners c.args.file.now spots (port, get_read ins i port within (c.index-ins-number.is ∙ ap (λ (ps : List Port). get_or ps i port) c.as_slice-ins.ensures), ap (λ (p : Port). pad_wire p.pad) (sym c.index-ins-number.is))
          (owners_from c.args.file.now spots c.args.classes.now c.loop-number.self (3 + c.loop-number.number) (3 + i + 1) (omega arith) (c.loop-number.invariant.owners spots h));
    }

pub returns-clause-owners : goal.returns-clause-owners
returns-clause-owners c = λ spots h.
    let none = c.loop-number-test.false in
    owners_from c.args.file.now spots c.args.classes.now c.loop-number.self (3 + c.loop-number.number) 3 (omega arith) (c.loop-number.invariant.owners spots h)

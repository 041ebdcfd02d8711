use Rattle.std.proofs.Common.{◌<◌, ◌+◌, ◌-◌, length, get_or, refl, sym, ◌∙◌, arith}
use Rattle.std.proofs.lemmas.Option.{slice_get-get_or}
use Rattle.act1_circuit.specs.declared.circuit.Spot.{Spot}
use Rattle.act1_array.proofs.OwnerLemmas.{owners_from}
use Rattle.act1_array.proofs.owners.Owners.add_modules.Goals as goal

pub loop-number-preserved : goal.loop-number-preserved
loop-number-preserved c =
    let m = c.loop-number.number - 1 in
    let spots = c.args.spots.now in
    let corner : Spot = record { row = 0; column = 0 } in
    let some = c.loop-number-test.true in
    let low = c.loop-number.invariant.low in
    let within : m < length spots = omega arith in
    record {
      low = omega arith;
      all = c.add.ensures.all ∙ sym c.requires.all;
      owners = λ f h.
          c.add.ensures.owners f spots (get_or spots m corner, slice_get-get_or spots m corner within, refl)
          (owners_from f spots c.args.classes.now c.loop-number.self (3 + length f.ins + c.loop-number.number) (3 + length f.ins + m + 1) (omega arith) (c.loop-number.invariant.owners f h));
    }

pub returns-clause-owners : goal.returns-clause-owners
returns-clause-owners c = λ f h.
    let none = c.loop-number-test.false in
    owners_from f c.args.spots.now c.args.classes.now c.loop-number.self (3 + length f.ins + c.loop-number.number) (3 + length f.ins) (omega arith) (c.loop-number.invariant.owners f h)

use Rattle.std.proofs.Common.{refl}
use Rattle.act1_array.proofs.OwnerLemmas.{owners_start}
use Rattle.act1_array.proofs.owners.Owners.of_sources.Goals as goal

pub returns-clause-owners : goal.returns-clause-owners
returns-clause-owners c =
    let file = c.args.file.now in
    let spots = c.args.spots.now in
    let classes = c.args.classes.now in
    let start = owners_start file spots classes c.requires.whole c.in_ok-owners.owners c.in_ok-owners.ensures.1 c.in_ok-owners.ensures.2 in
    let modules = c.add_modules.ensures.owners file start in
    let inputs = c.add_inputs.ensures.owners spots modules in
    let clock = c.add.ensures.owners file spots refl inputs in
    let one = c.add-2.ensures.owners file spots refl clock in
    c.add-3.ensures.owners file spots refl one

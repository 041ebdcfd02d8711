use Rattle.act1_channel.proofs.Tables.{new_table}
use Rattle.act1_channel.proofs.trail.Trail.new.Goals as goal

pub invariant_of-result : goal.invariant_of-result
invariant_of-result c =
    let are = c.in_ok-vec.ensures.items_if_clones_equal (λ y e. e) in
    let table = c.in_ok-no_facts.ensures in
    new_table _ c.args.tracks _ c.in_ok-vec.field-0.items c.in_ok-no_facts.field-0.items c.requires.tracks are table.0 table.1

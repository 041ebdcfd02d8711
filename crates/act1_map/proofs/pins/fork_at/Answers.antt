use Rattle.std.proofs.Common.{List, slice_index_or, sym, subst}
use Rattle.act1_cover.specs.declared.forest.Fork.{Fork}
use Rattle.act1_cover.specs.Tilings.{no_fork}
use Rattle.act1_map.specs.CoverSteps.{IsForkWithin}
use Rattle.act1_map.proofs.CoverNodes.{low_within, high_within}
use Rattle.act1_map.proofs.pins.fork_at.Goals as goal

pub returns-clause-low : goal.returns-clause-low
returns-clause-low c =
    let forest = c.args.forest.now in
    subst (λ (forks : List Fork). IsForkWithin forest (slice_index_or forks c.args.fork no_fork).low) (sym c.as_slice.ensures) (low_within forest c.requires.forest c.args.fork c.requires.there)

pub returns-clause-high : goal.returns-clause-high
returns-clause-high c =
    let forest = c.args.forest.now in
    subst (λ (forks : List Fork). IsForkWithin forest (slice_index_or forks c.args.fork no_fork).high) (sym c.as_slice.ensures) (high_within forest c.requires.forest c.args.fork c.requires.there)

use Rattle.act1_search.proofs.explain.forget.Goals as goal

pub place-requires : goal.place-requires
place-requires c =
    let own = c.args.problem.now in
    let fits = c.requires.inside c.loop-number.number c.entry.result c.entry.ensures.entry in
    (fits.0, fits.1)

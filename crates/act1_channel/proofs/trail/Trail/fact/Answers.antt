use Rattle.std.proofs.Common.{◌≡◌, Option, None, Bool, take, subst, sym, ◌∙◌}
use Rattle.std.proofs.lemmas.List.{get_or_read}
use Rattle.act1_channel.specs.Found.{facts_of, truth_in, Tell}
use Rattle.act1_channel.proofs.Truths.{told}
use Rattle.act1_channel.proofs.trail.Trail.fact.Goals as goal

pub returns-clause-told : goal.returns-clause-told
returns-clause-told c =
    let entries = take c.self.inside.used c.self.inside.entries.items in
    let fits = rw (← c.self.view_is) at c.requires in
    let at : c.index.result.now ≡ truth_in entries c.args.choice =
    (rw (← c.from.ensures, ← c.from-2.ensures) (get_or_read c.self.inside.table.items _ _ (rw (c.from.ensures, c.from-2.ensures) fits.1) c.index.ensures None) ∙ c.self.invariant.agrees c.args.choice fits.0) in
    rw (← c.self.view_is) (subst (λ (o : Option Bool). Tell (facts_of entries) c.args.choice o) (sym at) (told entries c.args.choice c.self.invariant.distinct))

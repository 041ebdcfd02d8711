use Rattle.std.proofs.Common.{ℕ, ap, ◌∙◌}
use Rattle.std.specs.Prelude.{slice_set}
use Rattle.act1_place.proofs.GainFacts.{its_nets, found_there, low_row, all_exchanged}
use Rattle.act1_place.proofs.SiteFacts.{kept_exchanged}
use Rattle.act1_place.proofs.gains.Gains.exchange.Goals as goal

pub renew-requires-clause-listed : goal.renew-requires-clause-listed
renew-requires-clause-listed c =
    let g = c.self.inside in
    let kept = c.self.invariant.0 in
    let at_a = rw (← c.self.view_is) at c.module_at-first.ensures.occupies in
    let m = c.module_at-first.result in
    rw (c.listed_at.ensures, c.as_slice.ensures, c.as_slice-nets.ensures) (its_nets g.rows g.columns g.nets g.touching g.spots g.at kept m (found_there g.rows g.columns g.nets g.touching g.spots g.at kept c.args.a m at_a)).0.listed

pub renew-requires-2-clause-rows : goal.renew-requires-2-clause-rows
renew-requires-2-clause-rows c =
    let g = c.self.inside in
    let in_a = rw (← c.self.view_is) at c.requires.first in
    let in_b = rw (← c.self.view_is) at c.requires.second in
    let at_a = rw (← c.self.view_is) at c.module_at-first.ensures.occupies in
    let at_b = rw (← c.self.view_is) at c.module_at-second.ensures.occupies in
    let m = c.module_at-first.result in
    let o = c.module_at-second.result in
    let one = c.set.ensures ∙ ap (λ (n : ℕ). slice_set g.at n o) c.site_number.ensures in
    let two = c.set-2.ensures ∙ ap (λ (n : ℕ). slice_set c.set.new.self n m) c.site_number-2.ensures in
    let kept = kept_exchanged g.rows g.columns g.nets g.touching g.spots g.at c.self.invariant.0 c.args.a c.args.b in_a in_b m o at_a at_b c.put.new.spots c.put-2.new.spots c.set.new.self c.set-2.new.self c.put.ensures c.put-2.ensures one two in
    rw c.as_slice-spots.ensures (low_row g.rows g.columns g.nets g.touching c.put-2.new.spots c.set-2.new.self kept.0)

pub renew-requires-2-clause-listed : goal.renew-requires-2-clause-listed
renew-requires-2-clause-listed c =
    let g = c.self.inside in
    let kept = c.self.invariant.0 in
    let at_b = rw (← c.self.view_is) at c.module_at-second.ensures.occupies in
    let o = c.module_at-second.result in
    rw (c.listed_at-2.ensures, c.as_slice-2.ensures, c.as_slice-nets.ensures) (its_nets g.rows g.columns g.nets g.touching g.spots g.at kept o (found_there g.rows g.columns g.nets g.touching g.spots g.at kept c.args.b o at_b)).0.listed

pub invariant_of-self : goal.invariant_of-self
invariant_of-self c =
    let g = c.self.inside in
    let in_a = rw (← c.self.view_is) at c.requires.first in
    let in_b = rw (← c.self.view_is) at c.requires.second in
    let at_a = rw (← c.self.view_is) at c.module_at-first.ensures.occupies in
    let at_b = rw (← c.self.view_is) at c.module_at-second.ensures.occupies in
    let m = c.module_at-first.result in
    let o = c.module_at-second.result in
    let one = c.set.ensures ∙ ap (λ (n : ℕ). slice_set g.at n o) c.site_number.ensures in
    let two = c.set-2.ensures ∙ ap (λ (n : ℕ). slice_set c.set.new.self n m) c.site_number-2.ensures in
    let kept = kept_exchanged g.rows g.columns g.nets g.touching g.spots g.at c.self.invariant.0 c.args.a c.args.b in_a in_b m o at_a at_b c.put.new.spots c.put-2.new.spots c.set.new.self c.set-2.new.self c.put.ensures c.put-2.ensures one two in
    let first = rw (c.as_slice-nets.ensures, c.as_slice-spots.ensures, c.listed_at.ensures, c.as_slice.ensures) at c.renew.ensures in
    let second = rw (c.as_slice-nets.ensures, c.as_slice-spots.ensures, c.listed_at-2.ensures, c.as_slice-2.ensures) at c.renew-2.ensures in
    (kept.0, all_exchanged g.rows g.columns g.nets g.touching g.spots g.at g.ends c.self.invariant.0 c.self.invariant.1 c.args.a c.args.b m o at_a at_b c.put-2.new.spots kept.1 c.renew.new.ends c.renew-2.new.ends first second)

pub returns : goal.returns
returns c =
    let g = c.self.inside in
    let in_a = rw (← c.self.view_is) at c.requires.first in
    let in_b = rw (← c.self.view_is) at c.requires.second in
    let at_a = rw (← c.self.view_is) at c.module_at-first.ensures.occupies in
    let at_b = rw (← c.self.view_is) at c.module_at-second.ensures.occupies in
    let m = c.module_at-first.result in
    let o = c.module_at-second.result in
    let one = c.set.ensures ∙ ap (λ (n : ℕ). slice_set g.at n o) c.site_number.ensures in
    let two = c.set-2.ensures ∙ ap (λ (n : ℕ). slice_set c.set.new.self n m) c.site_number-2.ensures in
    let kept = kept_exchanged g.rows g.columns g.nets g.touching g.spots g.at c.self.invariant.0 c.args.a c.args.b in_a in_b m o at_a at_b c.put.new.spots c.put-2.new.spots c.set.new.self c.set-2.new.self c.put.ensures c.put-2.ensures one two in
    let spots = kept.1 in
    rw (← c.self.view_is) (λ i. record { rows = g.rows; columns = g.columns; nets = g.nets; spots = spots i })

use Rattle.std.proofs.Common.{ℕ, ◌≡◌, Bool, List, length, sym, ap, subst, ◌∙◌}
use Rattle.std.specs.Prelude.{IfOk}
use Rattle.act1_order.specs.Order.{IsOrder}
use Rattle.act1_order.specs.Reach.{AreReachedFrom}
use Rattle.act1_blif.specs.Graph.{reads_of, signal_count}
use Rattle.act1_net.specs.declared.net.Net.{Net}
use Rattle.act1_net.specs.declared.net.NetTerm.{NetTerm}
use Rattle.act1_net.specs.Net.{IsCleanOf}
use Rattle.act1_net.specs.BuildSteps.{IsKeptNet, latch_marks}
use Rattle.act1_net.specs.KeptSteps.{IsFit}
use Rattle.act1_net.specs.MarkSteps.{AreTermsWithin, reads_left, roots_of}
use Rattle.act1_net.specs.PassSteps.{ArePassed}
use Rattle.act1_net.proofs.CleanNets.{clean_of, if_ok}
use Rattle.act1_net.proofs.MarkFacts.{fit_of, terms_within}
use Rattle.act1_net.proofs.cleanup.clean.Goals as goal

pub marks_of-requires-clause-within : goal.marks_of-requires-clause-within
marks_of-requires-clause-within c =
    let b = c.args.blif.now in
    subst (λ (terms : List NetTerm). AreTermsWithin (signal_count b) terms) (sym c.deref.ensures.value)
    (terms_within b (c.netlists_are_whole.ensures b) c.as_slice.result.now (subst (λ (order : List ℕ). IsOrder (reads_of b) order) (sym c.as_slice.ensures) c.in_ok-order.ensures) c.in_ok-terms.terms.items c.in_ok-terms.ensures)

pub kept_net-requires : goal.kept_net-requires
kept_net-requires c =
    let b = c.args.blif.now in
    subst (λ (marks : List Bool). IsFit b c.deref-2.result.now marks) (sym c.in_ok-places.ensures)
    (subst (λ (terms : List NetTerm). IsFit b terms c.in_ok-marks.marks.items) (sym c.deref-2.ensures.value)
    (fit_of b (c.netlists_are_whole.ensures b) c.as_slice.result.now (subst (λ (order : List ℕ). IsOrder (reads_of b) order) (sym c.as_slice.ensures) c.in_ok-order.ensures) c.in_ok-terms.terms.items c.in_ok-terms.ensures
    c.in_ok-marks.marks.items (subst (λ (terms : List NetTerm). AreReachedFrom (reads_left b terms) (roots_of b terms) c.in_ok-marks.marks.items) c.deref.ensures.value c.in_ok-marks.ensures)))

pub returns : goal.returns
returns c =
    let b = c.args.blif.now in
    let fit =
    subst (λ (marks : List Bool). IsFit b c.deref-2.result.now marks) (sym c.in_ok-places.ensures)
    (subst (λ (terms : List NetTerm). IsFit b terms c.in_ok-marks.marks.items) (sym c.deref-2.ensures.value)
    (fit_of b (c.netlists_are_whole.ensures b) c.as_slice.result.now (subst (λ (order : List ℕ). IsOrder (reads_of b) order) (sym c.as_slice.ensures) c.in_ok-order.ensures) c.in_ok-terms.terms.items c.in_ok-terms.ensures
    c.in_ok-marks.marks.items (subst (λ (terms : List NetTerm). AreReachedFrom (reads_left b terms) (roots_of b terms) c.in_ok-marks.marks.items) c.deref.ensures.value c.in_ok-marks.ensures))) in
    if_ok (IsKeptNet b c.deref-2.result.now c.in_ok-places.places) (λ (net : Net). (kept : List Bool) × IsCleanOf b kept net) c.kept_net.result
    (λ net built. (latch_marks b c.in_ok-places.places, clean_of b (c.netlists_are_whole.ensures b) c.deref-2.result.now c.in_ok-places.places fit net built c.one_valuation.ensures))
    c.kept_net.ensures

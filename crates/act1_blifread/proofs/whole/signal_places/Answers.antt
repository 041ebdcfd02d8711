use Rattle.std.proofs.Common.{ℕ, ◌≡◌, ◌≤◌, List, length, true, sym, ap, subst, ◌∙◌}
use Rattle.act1_bliftext.specs.Rules.{are_below}
use Rattle.act1_blifread.specs.Parts.{signals_of}
use Rattle.act1_blifread.proofs.SignalLists.{signals_below, signals_few}
use Rattle.act1_blifread.proofs.StatementRules.{kept}
use Rattle.act1_blifread.proofs.whole.signal_places.Goals as goal

pub places_of-requires-clause-within : goal.places_of-requires-clause-within
places_of-requires-clause-within c =
    let s = c.args.statements.now in
    let e : c.as_slice-2.result.now ≡ signals_of s.statements = c.as_slice-2.ensures.value ∙ c.in_ok-signals.ensures ∙ ap signals_of c.as_slice.ensures in
    subst (λ (n : ℕ). are_below n c.as_slice-2.result.now ≡ true) (sym c.len.ensures)
    (subst (λ (names : List ℕ). are_below (length s.names) names ≡ true) (sym e) (signals_below (length s.names) s.statements (kept s).within))

pub places_of-requires-clause-few : goal.places_of-requires-clause-few
places_of-requires-clause-few c =
    let s = c.args.statements.now in
    let e : c.as_slice-2.result.now ≡ signals_of s.statements = c.as_slice-2.ensures.value ∙ c.in_ok-signals.ensures ∙ ap signals_of c.as_slice.ensures in
    subst (λ (names : List ℕ). length names ≤ 65535) (sym e) (signals_few (length s.names) s.statements (kept s).few (kept s).within c.requires.once)

use Rattle.std.proofs.Common.{ℕ, ◌≡◌, ◌<◌, List, length, Some, refl, sym, ap, subst, ◌∙◌, arith}
use Rattle.std.proofs.lemmas.Option.{slice_get-get_or, get_or_from_slice_get}
use Rattle.act1_net.specs.declared.net.NetTerm.{NetTerm}
use Rattle.act1_net.specs.declared.net.NetTerm.TheVariants as term
use Rattle.act1_net.specs.PassSteps.{ArePassing}
use Rattle.act1_net.proofs.Passing.{all_passed, low_at, none_passed, signal_passed}
use Rattle.act1_net.proofs.pass.terms_of_signals.Goals as goal

pub loop-signal-init : goal.loop-signal-init
loop-signal-init c =
    let order = c.args.order.now in
    let whole = c.netlists_are_whole.ensures c.args.blif.now in
    let a = c.requires.all in
    let b = whole.all in
    let all = c.in_ok-terms.ensures.all in
    subst (λ (entries : List (List ℕ × ℕ)). ArePassing c.args.blif.now order 0 c.in_ok-terms.terms.items entries) (sym c.new-table.ensures)
    (none_passed c.args.blif.now whole order c.requires c.in_ok-terms.terms.items (omega arith)
    (λ s low. get_or_from_slice_get c.in_ok-terms.terms.items s (term.Signal s) term.Zero (c.in_ok-terms.ensures.own s (omega arith))))

pub pass_signal-requires-clause-low : goal.pass_signal-requires-clause-low
pass_signal-requires-clause-low c =
    let i = c.loop-signal.signal-index in
    low_at c.args.blif.now (c.netlists_are_whole.ensures c.args.blif.now) c.args.order.now c.requires i _ (slice_get-get_or c.args.order.now i 0 c.loop-signal-test.true)

pub loop-signal-preserved : goal.loop-signal-preserved
loop-signal-preserved c =
    let i = c.loop-signal.signal-index in
    signal_passed c.args.blif.now (c.netlists_are_whole.ensures c.args.blif.now) c.args.order.now c.requires i _ c.loop-signal.terms.items c.loop-signal.table c.pass_signal.new.terms.items c.pass_signal.new.table
    (slice_get-get_or c.args.order.now i 0 c.loop-signal-test.true) c.loop-signal.invariant c.in_ok-pass_signal.ensures.given c.in_ok-pass_signal.ensures.node

pub returns : goal.returns
returns c =
    let past = c.loop-signal-test.false in
    let end = c.loop-signal.auto.signal-index-end in
    let whole : c.loop-signal.signal-index ≡ length c.args.order.now = omega arith in
    all_passed c.args.blif.now (c.netlists_are_whole.ensures c.args.blif.now) c.args.order.now c.requires c.loop-signal.terms.items c.loop-signal.table
    (subst (λ (k : ℕ). ArePassing c.args.blif.now c.args.order.now k c.loop-signal.terms.items c.loop-signal.table) whole c.loop-signal.invariant)

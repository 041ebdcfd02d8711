use Rattle.std.proofs.Common.{ℕ, List, ◌++◌, get_or, sym, ap, ◌∙◌}
use Rattle.std.specs.Option.{option_to_list}
use Rattle.act1_net.specs.declared.net.NetTerm.TheVariants as term
use Rattle.act1_net.specs.Gates.{signal_of}
use Rattle.act1_net.proofs.ListSteps.{filter_map_at}
use Rattle.act1_net.proofs.left.signals_in.Goals as goal

pub loop-term-preserved : goal.loop-term-preserved
loop-term-preserved c =
    let terms = c.args.terms.now in
    let i = c.loop-term.term-index in
    c.in_ok-add_signal.ensures ∙ ap (λ (signals : List ℕ). signals ++ option_to_list (signal_of (get_or terms i term.Zero))) c.loop-term.invariant
    ∙ sym (filter_map_at signal_of terms i term.Zero c.loop-term-test.true)

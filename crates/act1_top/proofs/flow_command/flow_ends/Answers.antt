use Rattle.std.proofs.Common.{List, ℕ, inl, subst}
use Rattle.act1_flow.specs.Flow.{IsStop}
use Rattle.act1_flow.specs.Helping.{helping_of}
use Rattle.act1_flow.specs.declared.answer.Settings.{Settings}
use Rattle.act1_top.proofs.FlowAnswers.{cause_is}
use Rattle.act1_top.proofs.flow_command.flow_ends.Goals as goal

pub returns-in_ok-stopped_ending-in-Err-clause-ok : goal.returns-in_ok-stopped_ending-in-Err-clause-ok
returns-in_ok-stopped_ending-in-Err-clause-ok g c =
    let dev = c.args.device.now in
    let net = c.args.net.now in
    let why = c.in-Err.stop in
    let before = g.H.Helpers.seen c.args.helpers.now in
    let after = g.H.Helpers.seen c.flow.new.helpers in
    let cause = cause_is dev net c.settings_of-settings.result (helping_of c.as_str.result.now before after) why c.in_ok-stopped_ending-in-Err.ensures.cause c.in-Err.ensures.gives in
    let named = subst (λ (program : List ℕ). IsStop dev net c.settings_of-settings.result (helping_of program before after) why) c.as_str.ensures cause in
    inl (why, subst (λ (s : Settings). IsStop dev net s (helping_of c.args.words.now.program before after) why) c.settings_of-settings.ensures named, c.in_ok-stopped_ending-in-Err.ensures.is)

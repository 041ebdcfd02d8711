use Rattle.std.proofs.Common.{ℕ, List, sym, subst, ◌∙◌}
use Rattle.std.specs.Prelude.{MatchOption, Option}
use Rattle.act1_net.specs.TableSteps.{Has, HasNone}
use Rattle.act1_net.proofs.Tables.{looked_up}
use Rattle.act1_net.proofs.table.Table.find.Goals as goal

pub returns : goal.returns
returns c =
    let found = looked_up c.args.key.now c.self.inside.signals.entries in
    let is = c.copied.ensures ∙ c.get.ensures.value in
    subst (λ (entries : List (List ℕ × ℕ)). MatchOption c.copied.result (HasNone entries c.args.key.now) (Has entries c.args.key.now)) c.self.view_is
    (subst (λ (o : Option ℕ). MatchOption o (HasNone c.self.inside.signals.entries c.args.key.now) (Has c.self.inside.signals.entries c.args.key.now)) (sym is) found)

use Rattle.std.proofs.Common.{ℕ, List, ◌++◌, ◌∷◌, [], sym, ap, subst, ◌∙◌}
use Rattle.act1_net.specs.TableSteps.{HasNone}
use Rattle.act1_net.proofs.Tables.{entry_added}
use Rattle.act1_net.proofs.table.Table.add.Goals as goal

pub returns : goal.returns
returns c =
    c.in_ok-insert.ensures.entries
    ∙ entry_added c.args.key c.args.signal c.self.inside.signals.entries (subst (λ (entries : List (List ℕ × ℕ)). HasNone entries c.args.key) (sym c.self.view_is) c.requires)
    ∙ ap (λ (entries : List (List ℕ × ℕ)). entries ++ (c.args.key, c.args.signal) ∷ []) c.self.view_is

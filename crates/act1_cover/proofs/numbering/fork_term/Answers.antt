use Rattle.std.proofs.Common.{ap, sym, ◌∙◌}
use Rattle.act1_cover.specs.Stores.{is_input}
use Rattle.act1_cover.proofs.Numbered.{numbered_term, position_at}
use Rattle.act1_cover.proofs.numbering.fork_term.Goals as goal

pub returns : goal.returns
returns c =
    let found = c.args.found.now.keys in
    let plain = ap is_input (sym c.branch_at-branch.ensures) ∙ sym c.if-is_input.ensures in
    numbered_term c.args.store.now found c.args.node c.in-Some.number plain (position_at found c.args.node c.in-Some.number (sym c.in-Some.ensures.index)) c.numbered.result c.numbered.ensures

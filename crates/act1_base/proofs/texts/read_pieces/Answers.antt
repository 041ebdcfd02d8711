use Rattle.std.proofs.Common.{◌+◌, sym, ◌∙◌, arith}
use Rattle.std.proofs.lemmas.List.{take_rest}
use Rattle.std.proofs.lemmas.Result.{err_from_is_err_and}
use Rattle.act1_base.proofs.TextReads.{read_more, read_stops, read_ends, behind_feed}
use Rattle.act1_base.proofs.texts.read_pieces.Goals as goal

pub returns : goal.returns
returns g c =
    read_ends (g.F.Format.rules c.args.format.now) c.loop-end.rest.now c.loop-end.number c.loop-end.state c.at_end.result _
    (sym c.in_default.is ∙ c.line_feed.ensures) c.at_end.ensures c.loop-end.invariant.rest

pub returns-in_err-state-2 : goal.returns-in_err-state-2
returns-in_err-state-2 g c =
    let p = err_from_is_err_and c.from_residual-in_err-state-2.result c.from_residual-in_err-state-2.ensures.1 in
    rw (p.1, p.2)
    (read_stops (g.F.Format.rules c.args.format.now) c.loop-end.rest.now c.in-Some.end c.loop-end.number c.loop-end.state c.in_err-state-2.field-0.0 _
    (sym c.in-Some.is ∙ c.line_feed.ensures) c.in_err-state-2.ensures c.loop-end.invariant.rest)

pub loop-end-preserved : goal.loop-end-preserved
loop-end-preserved g c =
    let bytes = c.loop-end.rest.now in
    let at = sym c.in-Some.is ∙ c.line_feed.ensures in
    let less = behind_feed c.in-Some.end bytes at in
    rw (take_rest bytes (c.in-Some.end + 1))
    (record {
      few = omega arith;
      rest = sym (read_more (g.F.Format.rules c.args.format.now) bytes c.in-Some.end c.loop-end.number _ _ at c.in_ok-state-2.ensures) ∙ c.loop-end.invariant.rest;
    })

use Rattle.std.proofs.Common.{sym, ◌∙◌}
use Rattle.act1_bliftext.specs.Faults.{is_long}
use Rattle.act1_bliftext.proofs.WordLists.{any_found, any_next, any_none}
use Rattle.act1_bliftext.proofs.forms.has_long.Goals as goal

pub returns-then-is_long : goal.returns-then-is_long
returns-then-is_long c = any_found is_long c.args.names.now c.loop-name.name-index _ _ c.loop-name-test.true (sym c.is_long.ensures ∙ c.if-is_long.true) c.loop-name.invariant

pub loop-name-preserved : goal.loop-name-preserved
loop-name-preserved c = any_next is_long c.args.names.now c.loop-name.name-index _ _ c.loop-name-test.true (sym c.is_long.ensures ∙ c.if-is_long.false) c.loop-name.invariant

pub returns : goal.returns
returns c = any_none is_long c.args.names.now c.loop-name.name-index _ c.loop-name-test.false c.loop-name.invariant

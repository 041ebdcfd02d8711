use Rattle.std.proofs.Common.{ℕ, ◌/◌, ◌%◌, ap, ◌∙◌, arith, w64}
use Rattle.std.specs.Int.{bit_at}
use Rattle.std.proofs.lemmas.List.{get_or_default}
use Rattle.std.proofs.lemmas.Nat.Bits.{bit_at_clear_same, bit_at_clear_other}
use Rattle.act1_engine.proofs.MarkSteps.{mark_same, mark_other}
use Rattle.act1_engine.proofs.marks.clear_mark.Goals as goal

pub returns-clause-here : goal.returns-clause-here
returns-clause-here c = mark_same c.args.words.now.items c.args.module _ 0 c.requires (bit_at_clear_same w64 c.index_mut.result.now (c.args.module % 64) (omega arith))

pub returns-clause-others : goal.returns-clause-others
returns-clause-others c =
    mark_other c.args.words.now.items c.args.module _ c.requires
    (λ i low apart. bit_at_clear_other w64 c.index_mut.result.now (c.args.module % 64) (omega arith) i low apart ∙ ap (λ (w : ℕ). bit_at w i) (c.index_mut.ensures.value ∙ get_or_default c.args.words.now.items (c.args.module / 64) c.index_mut.result.now 0 c.requires))

use Rattle.std.proofs.Common.{◌≡◌, ◌<◌, ◌+◌, ℕ, List, ◌++◌, ◌∷◌, [], not, true, false, length, get_or, take, drop, set, sym, ap, subst, ◌∙◌, append_assoc, arith}
use Rattle.std.proofs.lemmas.List.{length-set, take_more}
use Rattle.act1_base.specs.Names.{are_different_numbers}
use Rattle.act1_blifread.specs.NetlistSteps.{AreMarks}
use Rattle.act1_blifread.proofs.NumberLists.{marked_again, marked_more, split_at, below_at}
use Rattle.act1_blifread.proofs.StatementLists.{read_or}
use Rattle.act1_blifread.proofs.marks.is_marked_again.Goals as goal

pub returns-then-index-clause-again : goal.returns-then-index-clause-again
returns-then-index-clause-again c =
    let names = c.args.names.now in
    let i = c.loop-name.name-index in
    let n : ℕ = get_or names i 0 in
    let marks = c.loop-name.marks.items in
    let low : n < length c.args.marks.now.items = below_at (length c.args.marks.now.items) names i c.loop-name-test.true c.requires in
    let at : c.from-at.result < length marks = omega (arith, c.loop-name.invariant.0, c.from-at.ensures) in
    let marked : get_or marks n false ≡ true = ap (λ (k : ℕ). get_or marks k false) (sym c.from-at.ensures) ∙ read_or marks c.from-at.result c.index.result.now false at c.index.ensures ∙ c.if-index.true in
    λ before known. ap not (sym (
    ap are_different_numbers (sym (ap (λ (ys : List ℕ). before ++ ys) (split_at names i 0 c.loop-name-test.true)) ∙ sym (append_assoc before (take i names) (n ∷ drop (i + 1) names)))
    ∙ marked_again (length c.args.marks.now.items) (before ++ take i names) marks n (drop (i + 1) names) (c.loop-name.invariant.1 before known) low marked
    ))

pub loop-name-preserved : goal.loop-name-preserved
loop-name-preserved c =
    let names = c.args.names.now in
    let i = c.loop-name.name-index in
    let n : ℕ = get_or names i 0 in
    let marks = c.loop-name.marks.items in
    let count = length c.args.marks.now.items in
    let low : n < length c.args.marks.now.items = below_at count names i c.loop-name-test.true c.requires in
    let at : c.from-at.result < length marks = omega (arith, c.loop-name.invariant.0, c.from-at.ensures) in
    let free : get_or marks n false ≡ false = ap (λ (k : ℕ). get_or marks k false) (sym c.from-at.ensures) ∙ read_or marks c.from-at.result c.index.result.now false at c.index.ensures ∙ c.if-index.false in (
      length-set marks c.from-at.result true ∙ c.loop-name.invariant.0,
      λ before known.
          subst (λ (k : ℕ). AreMarks count (before ++ take (i + 1) names) (set marks k true)) (sym c.from-at.ensures)
          (subst (λ (ys : List ℕ). AreMarks count ys (set marks n true)) (append_assoc before (take i names) (n ∷ []) ∙ ap (λ (ys : List ℕ). before ++ ys) (sym (take_more names i 0 c.loop-name-test.true)))
          (marked_more count (before ++ take i names) marks n (c.loop-name.invariant.1 before known) low free)),
    )

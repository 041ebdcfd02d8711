use Rattle.std.proofs.Common.{ℕ, ◌+◌, List, Bool, true, get_or, arith, refl, sym, subst, ◌∙◌}
use Rattle.std.specs.Prelude.{Contains, slice_set}
use Rattle.std.proofs.lemmas.Bool.{true≢false}
use Rattle.std.proofs.lemmas.Option.{slice_get-get_or}
use Rattle.act1_order.specs.ReachSteps.{IsMarked}
use Rattle.act1_order.proofs.SortedLemmas.{IsSortedTo, sorted_more, sorted_all, reads_marked}
use Rattle.act1_order.proofs.sorted.is_sorted.Goals as goal

pub returns-then-not-are_marked : goal.returns-then-not-are_marked
returns-then-not-are_marked c =
    let n = c.loop-vertex.vertex-index in
    let v = get_or c.args.order.now n 0 in
    let is = slice_get-get_or c.args.order.now n 0 c.loop-vertex-test.true in (
      λ f. absurd (true≢false (sym f)),
      λ o. absurd (true≢false (sym (c.are_marked.ensures.1 (λ w r.
          subst (λ (ms : List Bool). IsMarked ms w) (sym c.deref.ensures.value)
          (reads_marked c.args.reads.now c.args.order.now n v is c.loop-vertex.placed.items c.loop-vertex.invariant o w (subst (λ (ws : List ℕ). Contains ws w) c.reads_of.ensures.own r)))) ∙ c.if-not-are_marked.true)),
    )

pub index_mut-requires : goal.index_mut-requires
index_mut-requires c =
    let n = c.loop-vertex.vertex-index in
    let low = c.requires.order.inside n (get_or c.args.order.now n 0) (slice_get-get_or c.args.order.now n 0 c.loop-vertex-test.true) in
    let all = c.loop-vertex.invariant.all in
    omega arith

pub loop-vertex-preserved : goal.loop-vertex-preserved
loop-vertex-preserved c =
    let n = c.loop-vertex.vertex-index in
    let v = get_or c.args.order.now n 0 in
    let is = slice_get-get_or c.args.order.now n 0 c.loop-vertex-test.true in
    subst (λ (i : ℕ). IsSortedTo c.args.reads.now c.args.order.now (n + 1) (slice_set c.loop-vertex.placed.items i true)) (sym c.from.ensures)
    (sorted_more c.args.reads.now c.args.order.now n v is c.loop-vertex.placed.items c.loop-vertex.invariant (c.requires.order.inside n v is)
    (λ w r. subst (λ (ms : List Bool). IsMarked ms w) c.deref.ensures.value (c.are_marked.ensures.0 c.if-not-are_marked.false w (subst (λ (ws : List ℕ). Contains ws w) (sym c.reads_of.ensures.own) r))))

pub returns : goal.returns
returns c = (
  λ e. sorted_all c.args.reads.now c.args.order.now c.requires.order c.loop-vertex.vertex-index c.loop-vertex.placed.items c.loop-vertex-test.false c.loop-vertex.invariant,
  λ o. refl,
)

use Rattle.std.proofs.Common.{ℕ, ◌≡◌, ◌⊎◌, List, Bool, Option, Some, get_or, take, refl, sym, ap, subst, ◌∙◌, inl, inr}
use Rattle.std.specs.Prelude.{Contains}
use Rattle.std.proofs.lemmas.List.{take_all, take_more}
use Rattle.act1_order.specs.ReachSteps.{IsMarked}
use Rattle.act1_order.proofs.ReachLemmas.{contains_cases}
use Rattle.act1_order.proofs.sorted.are_marked.Goals as goal

one_more : (marks : List Bool) (ws : List ℕ) (x : ℕ) → ((w : ℕ) → Contains ws w → IsMarked marks w) → IsMarked marks x → (w : ℕ) → Contains ws w ⊎ (w ≡ x) → IsMarked marks w
one_more marks ws x h m w (inl c) = h w c
one_more marks ws x h m w (inr e) = subst (λ (u : ℕ). IsMarked marks u) (sym e) m

pub loop-vertex-preserved : goal.loop-vertex-preserved
loop-vertex-preserved c = λ w in_more.
    let x = get_or c.args.vertices.now c.loop-vertex.vertex-index 0 in
    let first = take c.loop-vertex.vertex-index c.args.vertices.now in
    one_more c.args.marks.now first x c.loop-vertex.invariant (c.is_marked.ensures ∙ ap (λ (b : Bool). let r : Option Bool = Some b in r) c.if-not-is_marked.false) w
    (contains_cases first w x (subst (λ (ws : List ℕ). Contains ws w) (take_more c.args.vertices.now c.loop-vertex.vertex-index 0 c.loop-vertex-test.true) in_more))

pub returns : goal.returns
returns c = (
  λ e. λ w there. c.loop-vertex.invariant w (subst (λ (ws : List ℕ). Contains ws w) (sym (take_all c.loop-vertex.vertex-index c.args.vertices.now c.loop-vertex-test.false)) there),
  λ all. refl,
)

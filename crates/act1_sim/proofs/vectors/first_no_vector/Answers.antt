use Rattle.std.proofs.Common.{ℕ, List, ◌≡◌, ◌∷◌, length, sym, ap, subst, ◌∙◌, arith}
use Rattle.std.specs.Str.Lines.{lines}
use Rattle.act1_sim.proofs.LineTexts.{AreBefore, few_lines, none_before, before_more, refused_here}
use Rattle.act1_sim.proofs.vectors.first_no_vector.Goals as goal

pub loop-line-init : goal.loop-line-init
loop-line-init c =
    let all : c.into_iter-line-iterator.result ≡ lines c.args.bytes.now = c.into_iter-line-iterator.ensures.into_iter_gives ∙ c.new-line-items.ensures in
    let few = few_lines c.args.bytes.now in
    record {
      can = tt;
      finite = tt;
      few = omega (arith, few, ap length all);
      before = subst (λ (ls : List (List ℕ)). AreBefore c.args.width (lines c.args.bytes.now) 1 ls) (sym all) (none_before c.args.width (lines c.args.bytes.now));
    }

pub returns-then-not-is_vector : goal.returns-then-not-is_vector
returns-then-not-is_vector c =
    refused_here c.args.width c.args.bytes.now c.loop-line.number c.in-Some.line.now c.next.new.self c.loop-line.line-iterator c.in-Some.ensures.steps c.loop-line.invariant.before
    (sym c.is_vector.ensures ∙ c.if-not-is_vector.true)

pub loop-line-preserved : goal.loop-line-preserved
loop-line-preserved c =
    let cut : c.loop-line.line-iterator ≡ c.in-Some.line.now ∷ c.next.new.self = c.in-Some.ensures.steps in
    record {
      can = tt;
      finite = tt;
      few = omega (arith, ap length cut, c.loop-line.invariant.few);
      before = before_more c.args.width (lines c.args.bytes.now) c.loop-line.number c.in-Some.line.now c.next.new.self c.loop-line.line-iterator cut c.loop-line.invariant.before
          (sym c.is_vector.ensures ∙ c.if-not-is_vector.false);
    }

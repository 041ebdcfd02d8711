use Rattle.std.proofs.Common.{ℕ, List, ◌≡◌, ◌∷◌, sym, ap, subst, ◌∙◌, arith}
use Rattle.std.proofs.lemmas.Result.{err_from_is_err_and}
use Rattle.act1_base.specs.Lines.{lines_of}
use Rattle.act1_bliftext.specs.Lines.{text_lines}
use Rattle.act1_bliftext.specs.PlaceSteps.{IsPlace}
use Rattle.act1_bliftext.proofs.Bounds.{weight, lines_weight, add_weight}
use Rattle.act1_bliftext.proofs.PlaceLemmas.{at_start}
use Rattle.act1_bliftext.proofs.read.read_lines.Goals as goal

pub loop-line-init : goal.loop-line-init
loop-line-init c =
    let lines : c.into_iter-line-iterator.result ≡ lines_of c.args.bytes.now = c.into_iter-line-iterator.ensures.into_iter_gives ∙ c.new-line-items.ensures in
    let few = lines_weight c.args.bytes.now in
    record {
      can = tt;
      finite = tt;
      place = subst (λ (raws : List (List ℕ)). IsPlace (text_lines c.args.bytes.now) raws c.start-place.result) (sym lines)
          (at_start c.args.bytes.now c.start-place.result c.start-place.ensures.first c.start-place.ensures.number c.start-place.ensures.words c.start-place.ensures.read);
      kept = omega (arith, few, ap weight lines, c.start-place.ensures.kept);
      number = omega (arith, few, ap weight lines, c.start-place.ensures.number);
    }

pub loop-line-preserved : goal.loop-line-preserved
loop-line-preserved c =
    let lines : c.loop-line.line-iterator ≡ c.in-Some.line.now ∷ c.next.new.self = c.in-Some.ensures.steps in
    let less = ap weight lines ∙ add_weight c.in-Some.line.now c.next.new.self in
    record {
      can = tt;
      finite = tt;
      place = c.in_ok-next_line.ensures.goes (text_lines c.args.bytes.now) c.next.new.self
          (subst (λ (raws : List (List ℕ)). IsPlace (text_lines c.args.bytes.now) raws c.loop-line.place) lines c.loop-line.invariant.place);
      kept = omega (arith, less, c.in_ok-next_line.ensures.kept, c.loop-line.invariant.kept);
      number = omega (arith, less, c.in_ok-next_line.ensures.number, c.loop-line.invariant.number);
    }

pub returns-in_err-next_line : goal.returns-in_err-next_line
returns-in_err-next_line c =
    let lines : c.loop-line.line-iterator ≡ c.in-Some.line.now ∷ c.next.new.self = c.in-Some.ensures.steps in
    let p = err_from_is_err_and c.from_residual.result c.from_residual.ensures.1 in
    rw (p.1, p.2) (c.in_err-next_line.ensures.goes (text_lines c.args.bytes.now) c.next.new.self
    (subst (λ (raws : List (List ℕ)). IsPlace (text_lines c.args.bytes.now) raws c.loop-line.place) lines c.loop-line.invariant.place))

use Rattle.std.proofs.Common.{◌+◌, ◌<◌, length, take, drop, List, [], ℕ, sym, ◌∙◌, arith, rules}
use Rattle.std.specs.Str.Lines.{strip_carriage_return}
use Rattle.std.proofs.lemmas.Bool.Decides.{nat_tests}
use Rattle.std.proofs.lemmas.List.{take_rest}
use Rattle.act1_sim.proofs.LineTexts.{at_feed, no_feed, fewer}
use Rattle.act1_sim.proofs.vectors.VectorLinesIterator.next.Goals as goal

pub returns-in-Some-clause-steps : goal.returns-in-Some-clause-steps
returns-in-Some-clause-steps c =
    let bytes = c.self.inside.rest.now in
    sym c.self.view_is ∙ rw (take_rest bytes (c.in-Some.end + 1), c.without_return-line.ensures) (at_feed c.in-Some.end bytes (sym c.in-Some.is ∙ c.line_feed.ensures))

pub returns-in-Some-clause-goes : goal.returns-in-Some-clause-goes
returns-in-Some-clause-goes c =
    let bytes = c.self.inside.rest.now in
    let rest : List ℕ = drop (c.in-Some.end + 1) bytes in
    let less = fewer bytes (strip_carriage_return (take c.in-Some.end bytes)) rest (at_feed c.in-Some.end bytes (sym c.in-Some.is ∙ c.line_feed.ensures)) in
    record {
      on = λ _. (search rules, search rules, rw (take_rest bytes (c.in-Some.end + 1), ← c.self.view_is) less);
      keeps = search rules;
      rests = search rules;
    }

pub returns-in-None-clause-steps : goal.returns-in-None-clause-steps
returns-in-None-clause-steps c =
    let some : 0 < length c.self.inside.rest.now = grind (arith, nat_tests) in
    sym c.self.view_is ∙ no_feed c.self.inside.rest.now some (sym c.in-None.is ∙ c.line_feed.ensures)

pub returns-in-None-clause-goes : goal.returns-in-None-clause-goes
returns-in-None-clause-goes c =
    let bytes = c.self.inside.rest.now in
    let some : 0 < length bytes = grind (arith, nat_tests) in
    let less = fewer bytes bytes [] (no_feed bytes some (sym c.in-None.is ∙ c.line_feed.ensures)) in
    record {
      on = λ _. (search rules, search rules, rw (← c.self.view_is) less);
      keeps = search rules;
      rests = search rules;
    }

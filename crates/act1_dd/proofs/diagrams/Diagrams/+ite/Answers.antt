use Rattle.std.proofs.Common.{List, subst, sym}
use Rattle.act1_dd.specs.declared.refs.Branch.{Branch}
use Rattle.act1_dd.specs.Diagram.{IsChoice}
use Rattle.act1_dd.proofs.Growing.{keeps_then}
use Rattle.act1_dd.specs.declared.refs.Choice.{Choice}
use Rattle.act1_dd.proofs.Choices.{low_later, high_later, made}
use Rattle.act1_dd.proofs.diagrams.Diagrams.+ite.Goals as goal

pub returns-in-Some-clause-is_ref : goal.returns-in-Some-clause-is_ref
returns-in-Some-clause-is_ref t c = (c.in-Some.ensures c.args.self.now (c.requires.f, c.requires.g, c.requires.h)).0

pub returns-in-Some-clause-value : goal.returns-in-Some-clause-value
returns-in-Some-clause-value t c = (c.in-Some.ensures c.args.self.now (c.requires.f, c.requires.g, c.requires.h)).1

pub fork-requires-clause-low_later : goal.fork-requires-clause-low_later
fork-requires-clause-low_later t c =
    let whole : Choice = record { test = c.args.f; yes = c.args.g; no = c.args.h } in
    low_later c.args.self.now c.ite.new.self c.ite-2.new.self c.are_reduced.ensures c.are_reduced-2.ensures c.in_ok-zero.ensures.keeps c.in_ok-one.ensures.keeps whole (c.requires.f, c.requires.g, c.requires.h)
    c.split-var.result c.split-var.ensures c.in_ok-zero.zero c.in_ok-one.one c.in_ok-zero.ensures.is_ref c.in_ok-zero.ensures.value c.in_ok-one.ensures.is_ref c.in_ok-one.ensures.value

pub fork-requires-clause-high_later : goal.fork-requires-clause-high_later
fork-requires-clause-high_later t c =
    let whole : Choice = record { test = c.args.f; yes = c.args.g; no = c.args.h } in
    high_later c.args.self.now c.ite.new.self c.ite-2.new.self c.are_reduced.ensures c.are_reduced-2.ensures c.in_ok-zero.ensures.keeps c.in_ok-one.ensures.keeps whole (c.requires.f, c.requires.g, c.requires.h)
    c.split-var.result c.split-var.ensures c.in_ok-zero.zero c.in_ok-one.one c.in_ok-zero.ensures.is_ref c.in_ok-zero.ensures.value c.in_ok-one.ensures.is_ref c.in_ok-one.ensures.value

pub note-requires : goal.note-requires
note-requires t c =
    let whole : Choice = record { test = c.args.f; yes = c.args.g; no = c.args.h } in
    let all = keeps_then c.args.self.now c.ite.new.self c.fork.new.self c.in_ok-zero.ensures.keeps (keeps_then c.ite.new.self c.ite-2.new.self c.fork.new.self c.in_ok-one.ensures.keeps c.in_ok-r.ensures.keeps) in
    record {
      asked = (all.refs c.args.f c.requires.f, all.refs c.args.g c.requires.g, all.refs c.args.h c.requires.h);
      ref = c.in_ok-r.ensures.is_ref;
      value = made c.args.self.now c.ite.new.self c.ite-2.new.self c.are_reduced.ensures c.are_reduced-2.ensures c.in_ok-zero.ensures.keeps c.in_ok-one.ensures.keeps whole (c.requires.f, c.requires.g, c.requires.h)
          c.split-var.result c.split-var.ensures c.in_ok-zero.zero c.in_ok-one.one c.in_ok-zero.ensures.is_ref c.in_ok-zero.ensures.value c.in_ok-one.ensures.is_ref c.in_ok-one.ensures.value
          c.fork.new.self c.in_ok-r.ensures.keeps c.in_ok-r.r c.in_ok-r.ensures.value;
    }

pub returns-clause-value : goal.returns-clause-value
returns-clause-value t c =
    let whole : Choice = record { test = c.args.f; yes = c.args.g; no = c.args.h } in
    subst (λ (forks : List Branch). IsChoice forks c.args.f c.args.g c.args.h c.in_ok-r.r) (sym c.note.ensures)
    (made c.args.self.now c.ite.new.self c.ite-2.new.self c.are_reduced.ensures c.are_reduced-2.ensures c.in_ok-zero.ensures.keeps c.in_ok-one.ensures.keeps whole (c.requires.f, c.requires.g, c.requires.h)
    c.split-var.result c.split-var.ensures c.in_ok-zero.zero c.in_ok-one.one c.in_ok-zero.ensures.is_ref c.in_ok-zero.ensures.value c.in_ok-one.ensures.is_ref c.in_ok-one.ensures.value
    c.fork.new.self c.in_ok-r.ensures.keeps c.in_ok-r.r c.in_ok-r.ensures.value)

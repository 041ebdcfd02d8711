use Rattle.std.proofs.Common.{◌+◌, List, take, All, refl, sym, subst, ◌∙◌}
use Rattle.std.proofs.lemmas.List.Elements.{All-more}
use Rattle.act1_circuit.specs.declared.circuit.Start.{Start}
use Rattle.act1_fuses.specs.declared.fuses.StartAt.{StartAt}
use Rattle.act1_fuses.specs.Array.{IsUsed}
use Rattle.act1_array.specs.PartSteps.{AreStarts}
use Rattle.act1_base.proofs.ListGets.{get_read, contains_at}
use Rattle.act1_array.proofs.CircuitLemmas.{starts_more, first_unused, item_at, taken_all}
use Rattle.act1_array.proofs.starts.starts_of.Goals as goal

pub returns-in-None : goal.returns-in-None
returns-in-None c =
    let starts = c.args.file.now.starts in
    let start = c.start-item.result in
    let i = c.loop-start.start-index in
    let at = item_at c.as_slice-start-items.result.now starts i start c.as_slice-start-items.ensures c.loop-start-test.true c.start-item.is in
    first_unused c.args.file.now c.args.spots.now c.requires.used i start (get_read starts i start at.0 at.1) c.loop-start.invariant.1 c.in-None.ensures.none

pub loop-start-preserved : goal.loop-start-preserved
loop-start-preserved c =
    let spots = c.args.spots.now in
    let ats = c.args.file.now.starts in
    let start = c.start-item.result in
    let i = c.loop-start.start-index in
    let at = item_at c.as_slice-start-items.result.now ats i start c.as_slice-start-items.ensures c.loop-start-test.true c.start-item.is in
    let made : Start = record { «module» = c.in-Some.number; init = start.init; name = c.in_ok-name-in-Some.name } in
    let more = starts_more spots ats i start start c.loop-start.starts made at.0 at.1 (c.in_ok-name-in-Some.ensures ∙ c.as_bytes.ensures.value) refl c.in-Some.ensures.some c.loop-start.invariant.0 in
    let used = (c.requires.used.used start.spot).1 (contains_at spots c.in-Some.number start.spot c.in-Some.ensures.some) in (
      subst (λ (starts : List Start). AreStarts spots (take (i + 1) ats) starts) (sym c.in_ok-push-in-Some.ensures.ok) more,
      All-more (λ (x : StartAt). IsUsed c.args.file.now.sites x.spot) ats i start at.0 c.loop-start.invariant.1 (subst (λ (x : StartAt). IsUsed c.args.file.now.sites x.spot) at.1 used),
    )

pub returns : goal.returns
returns c =
    let ats = c.args.file.now.starts in
    let whole = taken_all c.as_slice-start-items.result.now ats c.loop-start.start-index c.as_slice-start-items.ensures c.loop-start-test.false in (
      subst (λ (xs : List StartAt). AreStarts c.args.spots.now xs c.loop-start.starts) whole c.loop-start.invariant.0,
      subst (λ (xs : List StartAt). All (λ (x : StartAt). IsUsed c.args.file.now.sites x.spot) xs) whole c.loop-start.invariant.1,
    )

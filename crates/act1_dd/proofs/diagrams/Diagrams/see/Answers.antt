use Rattle.std.proofs.Common.{ℕ, ◌≡◌, ◌≤◌, ◌+◌, List, length, sym, subst, ap, ◌∙◌, arith}
use Rattle.act1_dd.specs.Steps.{with_found}
use Rattle.act1_dd.proofs.Seen.{AreWithin, all_seen, seeing_begins, seen_is_few, within_more, within_seen}
use Rattle.act1_dd.proofs.Walks.{IsShown, past, shown_goes_on}
use Rattle.act1_dd.proofs.diagrams.Diagrams.see.Goals as goal

pub loop-node-init : goal.loop-node-init
loop-node-init c =
    let forks = c.args.self.now in
    let f = c.args.f in
    let old = c.args.seen.now.keys in
    let is = c.in_ok-find.ensures in
    let as_long = c.len-next.ensures.len in
    let long : length old ≡ c.len-next.result = omega arith in
    record {
      shows = subst (λ (found : List ℕ). IsShown forks f found c.len-next.result) (sym is) (subst (λ (n : ℕ). IsShown forks f (with_found old f) n) long (seeing_begins forks f old c.requires.seen));
      within = subst (λ (found : List ℕ). AreWithin forks found) (sym is) (within_more forks old f c.requires.is_ref (within_seen forks old c.requires.seen));
    }

pub loop-node-preserved : goal.loop-node-preserved
loop-node-preserved c =
    let forks = c.args.self.now in
    let f = c.args.f in
    let b = c.branch-branch.result in
    let old = c.loop-node.seen.keys in
    let at = sym c.in-Some.ensures.key in
    let is = c.in_ok-find-3.ensures ∙ ap (λ (found : List ℕ). with_found found b.high) c.in_ok-find-2.ensures in
    record {
      shows = subst (λ (found : List ℕ). IsShown forks f found (c.loop-node.next + 1)) (sym is) (shown_goes_on forks f old c.loop-node.next c.in-Some.node.now b c.loop-node.invariant.shows at c.branch-branch.ensures.place);
      within = subst (λ (found : List ℕ). AreWithin forks found) (sym is) (within_more forks (with_found old b.low) b.high c.branch-branch.ensures.high (within_more forks old b.low c.branch-branch.ensures.low c.loop-node.invariant.within));
    }

pub returns : goal.returns
returns c =
    let forks = c.args.self.now in
    let f = c.args.f in
    let old = c.loop-node.seen.keys in
    let shows = c.loop-node.invariant.shows in
    let ended : length old ≤ c.loop-node.next = past old c.loop-node.next c.in_default.ensures.key in
    let as_long = c.len-2.ensures.len in
    let within = c.if-len-limit-2.false in
    let few : length old ≤ c.args.limit = omega arith in
    let seen = all_seen forks f old c.loop-node.next shows c.loop-node.invariant.within ended in
    (seen, seen_is_few forks c.are_reduced.ensures f old c.requires.is_ref seen shows.begun c.args.limit few)

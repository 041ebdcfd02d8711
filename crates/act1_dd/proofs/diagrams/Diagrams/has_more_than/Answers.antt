use Rattle.std.proofs.Common.{ℕ, ◌≡◌, ◌<◌, ◌≤◌, ◌⊎◌, ◌+◌, List, length, inl, inr, sym, subst, ap, ◌∙◌, arith}
use Rattle.std.specs.Prelude.{slice_get, Some, None}
use Rattle.std.proofs.lemmas.Bool.{cases_lt}
use Rattle.act1_dd.specs.Steps.{with_found}
use Rattle.act1_base.proofs.ListGets.{get_in, get_within}
use Rattle.act1_dd.proofs.ForkCounts.{walk_is_more, walk_is_all}
use Rattle.act1_dd.proofs.Walks.{IsWalk, past, walk_begins, walk_goes_on}
use Rattle.act1_dd.proofs.diagrams.Diagrams.has_more_than.Goals as goal

pub loop-node-init : goal.loop-node-init
loop-node-init c =
    let forks = c.args.self.now in
    let f = c.args.f in
    let is = c.in_ok-find.ensures ∙ ap (λ (found : List ℕ). with_found found f) c.new-found.ensures.empty in
    record { walk = subst (λ (found : List ℕ). IsWalk forks f found 0) (sym is) (walk_begins forks c.are_reduced.ensures f c.requires); few = omega arith }

pub returns-then-len-limit : goal.returns-then-len-limit
returns-then-len-limit c =
    let as_long = c.len.ensures.len in
    let more = c.if-len-limit.true in
    walk_is_more c.args.self.now c.are_reduced.ensures c.args.f c.loop-node.found.keys c.loop-node.next c.args.limit c.loop-node.invariant.walk (omega arith)

pub branch-branch-requires : goal.branch-branch-requires
branch-branch-requires c =
    let r = c.loop-node.invariant.walk.reached c.loop-node.next c.in-Some.node.now (sym c.in-Some.ensures.key) in get_within c.args.self.now c.in-Some.node.now r.branch r.place

pub loop-node-preserved : goal.loop-node-preserved
loop-node-preserved c =
    let forks = c.args.self.now in
    let f = c.args.f in
    let b = c.branch-branch.result in
    let old = c.loop-node.found.keys in
    let at = sym c.in-Some.ensures.key in
    let low = get_within old c.loop-node.next c.in-Some.node.now at in
    let as_long = c.len.ensures.len in
    let few = c.if-len-limit.false in
    let is = c.in_ok-find-3.ensures ∙ ap (λ (found : List ℕ). with_found found b.high) c.in_ok-find-2.ensures in
    record {
      walk = subst (λ (found : List ℕ). IsWalk forks f found (c.loop-node.next + 1)) (sym is)
          (walk_goes_on forks c.are_reduced.ensures f old c.loop-node.next c.in-Some.node.now b c.loop-node.invariant.walk at c.branch-branch.ensures.place);
      few = omega arith;
    }

pub returns : goal.returns
returns c =
    let ended : length c.loop-node.found.keys ≤ c.loop-node.next = past c.loop-node.found.keys c.loop-node.next c.in_default.ensures.key in
    let few = c.loop-node.invariant.few in
    walk_is_all c.args.self.now c.are_reduced.ensures c.args.f c.loop-node.found.keys c.loop-node.next c.args.limit c.loop-node.invariant.walk c.requires ended (omega arith)

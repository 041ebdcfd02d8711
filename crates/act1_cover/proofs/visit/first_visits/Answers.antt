use Rattle.std.proofs.Common.{ℕ, ◌≡◌, ◌<◌, ◌+◌, ◌-◌, ◌*◌, List, [], ◌∷◌, ◌++◌, length, take, append-nil, ap, sym, subst, ◌∙◌}
use Rattle.act1_dd.specs.declared.refs.Ref.{Ref}
use Rattle.act1_cover.specs.Visiting.{found_after, stack_after}
use Rattle.act1_cover.proofs.RefVisits.{IsWalk, refs_pop, walk_begins, walk_goes_on, walk_is_smaller, walk_ends}
use Rattle.act1_cover.proofs.visit.first_visits.Goals as goal

pub loop-r-init : goal.loop-r-init
loop-r-init c =
    let store = c.args.store.now in
    let root = c.args.root in
    let items = c.in_ok-push.ensures.items ∙ ap (λ (rs : List Ref). rs ++ root ∷ []) c.new-stack.ensures.items in
    subst (λ (keys : List ℕ). IsWalk store root keys c.push.new.self.items) (sym c.new-found.ensures.empty)
    (subst (λ (rs : List Ref). IsWalk store root [] rs) (sym items) (walk_begins store root c.requires.root))

pub visit-requires : goal.visit-requires
visit-requires c =
    let store = c.args.store.now in
    let walk = subst (λ (rs : List Ref). IsWalk store c.args.root c.loop-r.found.keys rs) c.in-Some.ensures.items c.loop-r.invariant in
    (refs_pop store c.pop.new.self.items c.in-Some.r walk.refs).1

pub loop-r-smaller : goal.loop-r-smaller
loop-r-smaller c =
    let store = c.args.store.now in
    let found = c.loop-r.found.keys in
    let rest = c.pop.new.self.items in
    let r = c.in-Some.r in
    let n = length store in
    let walk = subst (λ (rs : List Ref). IsWalk store c.args.root found rs) c.in-Some.ensures.items c.loop-r.invariant in
    let less = walk_is_smaller store c.requires.store c.args.root found rest r walk in
    subst (λ (rs : List Ref). 2 * (n - length c.visit.new.found.keys) + length c.visit.new.stack.items < 2 * (n - length found) + length rs) (sym c.in-Some.ensures.items)
    (subst (λ (rs : List Ref). 2 * (n - length c.visit.new.found.keys) + length rs < 2 * (n - length found) + length (rest ++ r ∷ [])) (sym c.in_ok-visit.ensures.stack)
    (subst (λ (keys : List ℕ). 2 * (n - length keys) + length (stack_after store r found rest) < 2 * (n - length found) + length (rest ++ r ∷ [])) (sym c.in_ok-visit.ensures.found) less))

pub loop-r-preserved : goal.loop-r-preserved
loop-r-preserved c =
    let store = c.args.store.now in
    let root = c.args.root in
    let found = c.loop-r.found.keys in
    let rest = c.pop.new.self.items in
    let r = c.in-Some.r in
    let walk = subst (λ (rs : List Ref). IsWalk store root found rs) c.in-Some.ensures.items c.loop-r.invariant in
    subst (λ (keys : List ℕ). IsWalk store root keys c.visit.new.stack.items) (sym c.in_ok-visit.ensures.found)
    (subst (λ (rs : List Ref). IsWalk store root (found_after store r found) rs) (sym c.in_ok-visit.ensures.stack) (walk_goes_on store c.requires.store root found rest r walk))

pub returns : goal.returns
returns c =
    let store = c.args.store.now in
    let items = c.loop-r.stack.items in
    let none : items ≡ [] = c.in_default.ensures.items ∙ append-nil c.pop.new.self.items ∙ c.in_default.ensures.rest ∙ ap (λ (n : ℕ). take (n - 1) items) c.in_default.ensures.cases.0 in
    walk_ends store c.requires.store c.args.root c.loop-r.found.keys c.requires.root (subst (λ (rs : List Ref). IsWalk store c.args.root c.loop-r.found.keys rs) none c.loop-r.invariant)

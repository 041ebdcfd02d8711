use Rattle.std.proofs.Common.{ℕ, ◌≡◌, ◌<◌, List, length, Some, ap, sym, subst, ◌∙◌, arith}
use Rattle.std.specs.Prelude.{slice_get, All}
use Rattle.act1_order.specs.SearchSteps.{HasState}
use Rattle.act1_order.specs.declared.search.State.{State}
use Rattle.act1_order.specs.declared.search.State.TheVariants as state
use Rattle.act1_order.proofs.SearchLemmas.{passed_read, next_is}
use Rattle.act1_order.proofs.search.Search.next_read.Goals as goal

pub first_new-at-requires-clause-inside : goal.first_new-at-requires-clause-inside
first_new-at-requires-clause-inside c =
    let all = c.requires.search.all in
    let same = ap (λ (ss : List State). length ss) c.deref.ensures.value in
    let n : length c.args.reads.now ≡ length c.deref.result.now = omega arith in
    subst (λ (n : ℕ). All (λ w. w < n) c.reads_of-own.result.now) n c.reads_of-own.ensures.inside

pub first_new-at-requires-clause-met : goal.first_new-at-requires-clause-met
first_new-at-requires-clause-met c = λ k w under is st.
    let own = c.reads_of-own.ensures.own in
    let passed = passed_read c.args.self.now.passed.items c.args.vertex c.from.result c.index.result.now k c.from.ensures (let all = c.requires.search.passed_all in let low = c.requires.low in omega arith) c.index.ensures under in
    c.requires.search.passed_met c.args.vertex k w passed (subst (λ (xs : List ℕ). slice_get xs k ≡ Some w) own is) (subst (λ (states : List State). HasState states w state.New) c.deref.ensures.value st)

pub returns-clause-next : goal.returns-clause-next
returns-clause-next c =
    let own = c.reads_of-own.ensures.own in
    let states = c.deref.ensures.value in
    next_is c.args.reads.now c.args.self.now.states.items c.args.vertex c.first_new-at.result
    (λ k w under is st. c.first_new-at.ensures.met k w under (subst (λ (xs : List ℕ). slice_get xs k ≡ Some w) (sym own) is) (subst (λ (ss : List State). HasState ss w state.New) (sym states) st))
    (λ w is. subst (λ (ss : List State). HasState ss w state.New) states (c.first_new-at.ensures.next w (subst (λ (xs : List ℕ). slice_get xs c.first_new-at.result ≡ Some w) (sym own) is)))
    c.read_at.result
    (c.read_at.ensures ∙ ap (λ (xs : List ℕ). slice_get xs c.first_new-at.result) own)

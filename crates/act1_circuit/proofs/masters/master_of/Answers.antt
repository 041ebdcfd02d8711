use Rattle.std.proofs.Common.{ℕ, get_or, sym, ap, subst, ◌∙◌, arith}
use Rattle.std.proofs.lemmas.Bool.{false≢true}
use Rattle.act1_circuit.specs.declared.readers.Readers.TheVariants as readers
use Rattle.act1_circuit.specs.PairForm.{IsPair}
use Rattle.act1_circuit.proofs.PairDecisions.{followed_within, found_pair, pair_master, reader_found, same_master}
use Rattle.act1_circuit.proofs.masters.master_of.Goals as goal

pub returns-then-not-is_master : goal.returns-then-not-is_master
returns-then-not-is_master c = λ edge takes m p.
    let circuit = c.args.circuit.now in
    let same = same_master circuit c.in_ok-master.master c.args.module c.in_ok-master.ensures edge takes m p in
    let own = subst (λ (k : ℕ). IsPair circuit edge takes k c.args.module) same p in
    false≢true (sym c.if-not-is_master.true ∙ c.is_master.ensures.1 (pair_master circuit c.in_ok-master.master c.args.module edge takes own))

pub bounds-readers-from : goal.bounds-readers-from
bounds-readers-from c =
    let low = followed_within c.args.circuit.now c.requires.range c.in_ok-master.master c.args.module c.in_ok-master.ensures in
    let all = c.requires.readers.all in
    let e = c.from.ensures in
    omega arith

pub returns-then-not-is_only : goal.returns-then-not-is_only
returns-then-not-is_only c = λ edge takes m p.
    let circuit = c.args.circuit.now in
    let found = c.args.readers.now in
    let same = same_master circuit c.in_ok-master.master c.args.module c.in_ok-master.ensures edge takes m p in
    let own = subst (λ (k : ℕ). IsPair circuit edge takes k c.args.module) same p in
    let one = reader_found circuit found c.requires.readers edge takes c.in_ok-master.master c.args.module own in
    false≢true (sym c.if-not-is_only.true ∙ c.is_only.ensures.1 (ap (λ (i : ℕ). get_or found i readers.Nobody) c.from.ensures ∙ one ∙ ap readers.One (sym c.from-2.ensures)))

pub returns : goal.returns
returns c =
    let circuit = c.args.circuit.now in
    let found = c.args.readers.now in
    let one = sym (ap (λ (i : ℕ). get_or found i readers.Nobody) c.from.ensures) ∙ c.is_only.ensures.0 c.if-not-is_only.false ∙ ap readers.One c.from-2.ensures in
    found_pair circuit found c.requires.range c.requires.readers c.in_ok-master.master c.args.module c.requires.low (c.is_master.ensures.0 c.if-not-is_master.false) c.in_ok-master.ensures one

-- Statements have one netlist or one fault of the whole.
use Rattle.std.proofs.Common.{ℕ, suc, zero, ◌≡◌, ◌<◌, ◌≤◌, ◌⊎◌, ◌+◌, Bool, true, false, List, [], ◌∷◌, length, map, take, Some, codes, refl, sym, ap, subst, ◌∙◌, inl, inr, arith}
use Rattle.std.specs.Prelude.{All, option_map, slice_get, unwrap_or, IsTrue}
use Rattle.std.proofs.lemmas.Bool.{cases_eq, false≢true}
use Rattle.std.proofs.lemmas.List.Elements.{All-get_or}
use Rattle.std.proofs.lemmas.Option.{get_or_from_slice_get, slice_get_within}
use mathlib.Core.HLevel.{is_prop→PathP}
use mathlib.Core.Bool.{Bool-set}
use Rattle.act1_blif.specs.declared.blif.Blif.{Blif}
use Rattle.act1_blif.specs.Rules.{HasLevels, is_blif}
use Rattle.act1_bliftext.specs.declared.fault.BlifKind.{BlifKind}
use Rattle.act1_bliftext.specs.declared.fault.BlifKind.TheVariants.{Twice, Clocks, Undriven, ClockUsed, Loop}
use Rattle.act1_bliftext.specs.declared.statement.NumberedStatement.{NumberedStatement}
use Rattle.act1_bliftext.specs.declared.statement.Statement.{Statement}
use Rattle.act1_bliftext.specs.declared.statements.Statements.{Statements}
use Rattle.act1_order.specs.Laws.{LevelsWithoutRing, RingOrNone}
use Rattle.act1_order.specs.Order.{OnRing}
use Rattle.act1_blifread.specs.Parts.{all_of, clock_of, data_inputs, node_names, output_names, signals_of}
use Rattle.act1_blifread.specs.Faults.{HasFault, IsFirstAt, IsFree, IsWhole, Passes, WholeBad, is_clock_used, is_node, is_second_clock, is_twice, is_undriven, node_graph, whole_kinds}
use Rattle.act1_blifread.specs.Netlist.{latches_of, name_at, nodes_of, signal_at}
use Rattle.act1_blifread.specs.Laws.{HasNetlist, HasWholeFault, NetlistIsOne, NetlistOrFault, NetlistWithoutFault, WholeFaultIsOne}
use Rattle.act1_blifread.proofs.BuiltNetlists.{built_valid}
use Rattle.act1_blifread.proofs.FirstLines.{twice_is_bad, clocks_are_bad, undriven_is_bad, clock_used_is_bad, loop_is_bad, is_whole}
use Rattle.act1_blifread.proofs.NodeGraphs.{graph_inside, place_within}
use Rattle.act1_blifread.proofs.NodeLevels.{built_levels}

all_at : {X : Type 0} (P : X → Type 0) (xs : List X) (k : ℕ) (x : X) → All P xs → slice_get xs k ≡ Some x → P x
all_at P xs k x all e = subst P (get_or_from_slice_get xs k x x e) (All-get_or P xs k x (slice_get_within xs k x e) all)

taken : {X : Type 0} (xs : List X) (n k : ℕ) (x : X) → k < n → slice_get xs k ≡ Some x → slice_get (take n xs) k ≡ Some x
taken [] n k x less e = cc
taken (y ∷ xs) zero k x less e = absurd (omega arith)
taken (y ∷ xs) (suc n) zero x less e = e
taken (y ∷ xs) (suc n) (suc k) x less e = taken xs n k x (omega arith) e

-- a fault of a kind isn't free of it
not_free : (ss : List NumberedStatement) (kind : BlifKind) (line : ℕ) → IsFree ss kind → IsFirstAt ss kind line → ⊥
not_free ss kind line none at = none at.place (place_within ss at.place line at.there) at.has

pub never_both : NetlistWithoutFault
never_both s net line kind is bad = not_free s.statements kind line (all_at (IsFree s.statements) whole_kinds bad.rank kind is.whole bad.kind_is) bad.at

-- of two numbers one is less, or they are the same
order : (m n : ℕ) → (m < n) ⊎ (n < m) ⊎ (m ≡ n)
order zero zero = inr (inr refl)
order zero (suc n) = inl (omega arith)
order (suc m) zero = inr (inl (omega arith))
order (suc m) (suc n) = by (order m n)
  where
    by : (m < n) ⊎ (n < m) ⊎ (m ≡ n) → (suc m < suc n) ⊎ (suc n < suc m) ⊎ (suc m ≡ suc n)
    by (inl h) = inl (omega arith)
    by (inr (inl h)) = inr (inl (omega arith))
    by (inr (inr h)) = inr (inr (ap (λ (k : ℕ). suc k) h))

-- a fault of a kind comes before those of later kinds
sooner : (s : Statements) (line other_line : ℕ) (kind other_kind : BlifKind) (bad : WholeBad s line kind) (other : WholeBad s other_line other_kind) → bad.rank < other.rank → ⊥
sooner s line other_line kind other_kind bad other less =
    not_free s.statements kind line (all_at (IsFree s.statements) (take other.rank whole_kinds) bad.rank kind other.sooner (taken whole_kinds other.rank bad.rank kind less bad.kind_is)) bad.at

same_line : (ss : List NumberedStatement) (kind : BlifKind) (line other : ℕ) → IsFirstAt ss kind line → IsFirstAt ss kind other → line ≡ other
same_line ss kind line other at also = by (order at.place also.place)
  where
    by : (at.place < also.place) ⊎ (also.place < at.place) ⊎ (at.place ≡ also.place) → line ≡ other
    by (inl less) = absurd (also.first at.place less at.has)
    by (inr (inl less)) = absurd (at.first also.place less also.has)
    by (inr (inr same)) =
        let both : Some line ≡ Some other = sym at.there ∙ ap (λ (k : ℕ). option_map (λ (numbered : NumberedStatement). numbered.line) (slice_get ss k)) same ∙ also.there in
        cc

pub one_fault : WholeFaultIsOne
one_fault s line other_line kind other_kind bad other = by (order bad.rank other.rank)
  where
    kinds : bad.rank ≡ other.rank → kind ≡ other_kind
    kinds same = some (sym bad.kind_is ∙ ap (slice_get whole_kinds) same ∙ other.kind_is)
      where
        some : Some kind ≡ Some other_kind → kind ≡ other_kind
        some e = cc

    by : (bad.rank < other.rank) ⊎ (other.rank < bad.rank) ⊎ (bad.rank ≡ other.rank) → (line ≡ other_line) × (kind ≡ other_kind)
    by (inl less) = absurd (sooner s line other_line kind other_kind bad other less)
    by (inr (inl less)) = absurd (sooner s other_line line other_kind kind other bad less)
    by (inr (inr same)) = (same_line s.statements kind line other_line bad.at (subst (λ (k : BlifKind). IsFirstAt s.statements k other_line) (sym (kinds same)) other.at), kinds same)

-- netlists with equal parts are equal: what else they keep is a fact
pub same_netlist : (net other : Blif) → net.model ≡ other.model → net.clock ≡ other.clock → net.inputs ≡ other.inputs → net.latches ≡ other.latches → net.nodes ≡ other.nodes → net.outputs ≡ other.outputs → net ≡ other
same_netlist net other m c i l n o = λ j. record {
  model = m j;
  clock = c j;
  inputs = i j;
  latches = l j;
  nodes = n j;
  outputs = o j;
  valid = is_prop→PathP (λ k. IsTrue (is_blif (m k) (c k) (i k) (l k) (n k) (o k))) (λ k. Bool-set (is_blif (m k) (c k) (i k) (l k) (n k) (o k)) true) net.valid other.valid j;
  acyclic = is_prop→PathP (λ k. ∥ HasLevels (i k) (l k) (n k) ∥₁) (λ k. squash₁) net.acyclic other.acyclic j;
}

pub one_netlist : NetlistIsOne
one_netlist s net other is also =
    same_netlist net other (is.model ∙ sym also.model) (is.clock ∙ sym also.clock) (is.inputs ∙ sym also.inputs) (is.latches ∙ sym also.latches) (is.nodes ∙ sym also.nodes) (is.outputs ∙ sym also.outputs)

-- a fact is decided
abbrev Decided : Type 0 → Type 0
Decided P = P ⊎ (P → ⊥)

true_decided : (b : Bool) → Decided (b ≡ true)
true_decided true = inl refl
true_decided false = inr (λ e. false≢true e)

passes_decided : (test : Statement → Bool) (ss : List NumberedStatement) (k : ℕ) → Decided (Passes test ss k)
passes_decided test [] k = inr (λ h. h)
passes_decided test (s ∷ ss) zero = true_decided (test s.statement)
passes_decided test (s ∷ ss) (suc k) = passes_decided test ss k

loop_decided : RingOrNone → (ss : List NumberedStatement) (k : ℕ) → Decided (HasFault ss Loop k)
loop_decided ring_or_none ss k = by (passes_decided is_node ss k) (ring_or_none (node_graph ss) (graph_inside ss) (length (all_of node_names (take k ss))))
  where
    by : Decided (Passes is_node ss k) → Decided (OnRing (node_graph ss) (length (all_of node_names (take k ss)))) → Decided (HasFault ss Loop k)
    by (inl a) (inl b) = inl (a, b)
    by (inl a) (inr b) = inr (λ h. b h.1)
    by (inr a) d = inr (λ h. a h.0)

-- there is a first statement with a fault of a kind, or none
abbrev Found : List NumberedStatement → BlifKind → Type 0
Found ss kind = ((line : ℕ) × IsFirstAt ss kind line) ⊎ IsFree ss kind

read_line : (ss : List NumberedStatement) (k : ℕ) → k < length ss → (line : ℕ) × (option_map (λ (numbered : NumberedStatement). numbered.line) (slice_get ss k) ≡ Some line)
read_line [] k low = absurd (omega arith)
read_line (s ∷ ss) zero low = (s.line, refl)
read_line (s ∷ ss) (suc k) low = read_line ss k (omega arith)

-- the same of the first n statements
abbrev FoundBelow : List NumberedStatement → BlifKind → ℕ → Type 0
FoundBelow ss kind n = ((line : ℕ) × IsFirstAt ss kind line) ⊎ ((k : ℕ) → k < n → ¬ HasFault ss kind k)

found_below : (ss : List NumberedStatement) (kind : BlifKind) → ((k : ℕ) → Decided (HasFault ss kind k)) → (n : ℕ) → n ≤ length ss → FoundBelow ss kind n
found_below ss kind decided zero low = inr (λ k less has. absurd (omega arith))
found_below ss kind decided (suc n) low = by (found_below ss kind decided n (omega arith)) (decided n)
  where
    by : FoundBelow ss kind n → Decided (HasFault ss kind n) → FoundBelow ss kind (suc n)
    by (inl h) d = inl h
    by (inr none) (inl has) = let line = read_line ss n (omega arith) in inl (line.0, record { place = n; there = line.1; has = has; first = none })
    by (inr none) (inr not) = inr (λ k less has. here k less has (cases_eq k n))
      where
        here : (k : ℕ) → k < suc n → HasFault ss kind k → (k ≡ n) ⊎ (k ≡ n → ⊥) → ⊥
        here k less has (inl e) = not (subst (λ (j : ℕ). HasFault ss kind j) e has)
        here k less has (inr apart) = none k (omega arith) has

found : (ss : List NumberedStatement) (kind : BlifKind) → ((k : ℕ) → Decided (HasFault ss kind k)) → Found ss kind
found ss kind decided = by (found_below ss kind decided (length ss) (omega arith))
  where
    by : FoundBelow ss kind (length ss) → Found ss kind
    by (inl h) = inl h
    by (inr h) = inr h

-- the netlist of whole statements
netlist : LevelsWithoutRing → (s : Statements) → IsWhole s.statements → Blif
netlist leveled s whole = record {
  model = unwrap_or s.model (codes "top");
  clock = option_map (name_at s.names) (clock_of s.statements);
  inputs = map (name_at s.names) (data_inputs s.statements);
  latches = latches_of s.names (signals_of s.statements) s.statements;
  nodes = nodes_of s.names (signals_of s.statements) s.statements;
  outputs = map (signal_at (signals_of s.statements)) (all_of output_names s.statements);
  valid = built_valid s whole;
  acyclic = ∣ built_levels leveled s whole ∣₁;
}

has_netlist : LevelsWithoutRing → (s : Statements) → IsWhole s.statements → HasNetlist s
unfolding netlist
has_netlist leveled s whole = record { net = netlist leveled s whole; is = record { whole = whole; model = refl; clock = refl; inputs = refl; latches = refl; nodes = refl; outputs = refl } }

pub one_at_least : RingOrNone → LevelsWithoutRing → NetlistOrFault
one_at_least ring_or_none leveled s =
    twice (found s.statements Twice (λ k. true_decided (is_twice (take (k + 1) s.statements))))
    (found s.statements Clocks (passes_decided (is_second_clock (clock_of s.statements)) s.statements))
    (found s.statements Undriven (passes_decided (is_undriven s.statements) s.statements))
    (found s.statements ClockUsed (passes_decided (is_clock_used (clock_of s.statements)) s.statements))
    (found s.statements Loop (loop_decided ring_or_none s.statements))
  where
    twice : Found s.statements Twice → Found s.statements Clocks → Found s.statements Undriven → Found s.statements ClockUsed → Found s.statements Loop → HasNetlist s ⊎ HasWholeFault s
    twice (inl h) b c d e = inr (record { line = h.0; kind = Twice; is = twice_is_bad s h.0 h.1 })
    twice (inr a) (inl h) c d e = inr (record { line = h.0; kind = Clocks; is = clocks_are_bad s h.0 a h.1 })
    twice (inr a) (inr b) (inl h) d e = inr (record { line = h.0; kind = Undriven; is = undriven_is_bad s h.0 a b h.1 })
    twice (inr a) (inr b) (inr c) (inl h) e = inr (record { line = h.0; kind = ClockUsed; is = clock_used_is_bad s h.0 a b c h.1 })
    twice (inr a) (inr b) (inr c) (inr d) (inl h) = inr (record { line = h.0; kind = Loop; is = loop_is_bad s h.0 a b c d h.1 })
    twice (inr a) (inr b) (inr c) (inr d) (inr e) = inl (has_netlist leveled s (is_whole s.statements a b c d e))

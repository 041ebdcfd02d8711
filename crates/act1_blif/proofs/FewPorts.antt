-- A netlist has at most 65,535 inputs, and as many outputs, which are different signals.
use Rattle.std.proofs.Common.{ℕ, ◌≡◌, ◌≤◌, ◌<◌, ◌||◌, ◌==◌, Bool, true, false, not, eqb, nat_lt, List, [], ◌∷◌, length, arith}
use Rattle.std.specs.List.{list_all, list_any, AllByRecursion, IsDistinct}
use Rattle.std.proofs.lemmas.Bool.{and_parts, or_parts, not-true, ltb-true, eqb-true, false≢true}
use Rattle.std.proofs.lemmas.Map.Steps.{length-le_from_distinct_below}
use Rattle.act1_base.specs.Names.{are_different_numbers}
use Rattle.act1_blif.specs.Laws.{PortsAreFew}
use Rattle.act1_blif.specs.Graph.{signal_count}
use Rattle.act1_blif.proofs.NetFacts.{few_signals, outputs_are}

-- the number is none of these
other_numbers : (n : ℕ) (ns : List ℕ) → list_any (λ m. n == m) ns ≡ false → AllByRecursion (λ (m : ℕ). eqb n m ≡ false) ns
other_numbers n [] h = tt
other_numbers n (m ∷ ns) h = let parts = or_parts (n == m) (list_any (λ m. n == m) ns) h in (parts.0, other_numbers n ns parts.1)

are_distinct : (ns : List ℕ) → are_different_numbers ns ≡ true → IsDistinct eqb ns
unfolding IsDistinct
are_distinct [] h = tt
are_distinct (n ∷ ns) h =
    let parts = and_parts (not (list_any (λ m. n == m) ns)) (are_different_numbers ns) h in
    (other_numbers n ns (not-true _ parts.0), are_distinct ns parts.1)

either : (a b : Bool) {R : Type 0} → (a || b) ≡ true → (a ≡ true → R) → (b ≡ true → R) → R
either true b e f g = f e
either false b e f g = g e

-- a number that is among numbers below n is below n
found_below : (n q : ℕ) (ns : List ℕ) → list_all (λ s. nat_lt s n) ns ≡ true → list_any (eqb q) ns ≡ true → q < n
found_below n q [] h found = absurd (false≢true found)
found_below n q (s ∷ ns) h found =
    let parts = and_parts (nat_lt s n) (list_all (λ s. nat_lt s n) ns) h in
    let low : s < n = ltb-true s n parts.0 in
    either (eqb q s) (list_any (eqb q) ns) found (λ e. let same : q ≡ s = eqb-true q s e in omega arith) (found_below n q ns parts.1)

pub ports_are_few : PortsAreFew
ports_are_few net =
    let few = few_signals net in
    let count = signal_count net in
    let low = (outputs_are net).0 in
    let fit : length net.outputs ≤ count = length-le_from_distinct_below net.outputs count (are_distinct net.outputs (outputs_are net).1) (λ q found. found_below count q net.outputs low found) in
    (omega arith, omega arith)

-- Worked examples of statements: their netlists, and their faults of the whole.
use Rattle.std.proofs.Common.{ℕ, suc, zero, ◌≡◌, ◌<◌, ◌+◌, ◌&&◌, not, Bool, true, false, List, [], ◌∷◌, map, take, Some, None, codes, refl, sym, ap, subst, ◌∙◌, arith}
use Rattle.std.specs.Prelude.{Contains}
use Rattle.std.proofs.lemmas.Bool.{and_parts, false≢true, true≢false}
use Rattle.act1_base.specs.Names.{are_different_numbers}
use Rattle.act1_logic.specs.declared.cover.Cover.{Cover}
use Rattle.act1_logic.specs.declared.cover.Mark.TheVariants.{One}
use Rattle.act1_bliftext.specs.declared.fault.BlifKind.TheVariants.{Twice, Clocks, Undriven, ClockUsed, Loop}
use Rattle.act1_bliftext.specs.declared.statement.NumberedStatement.{NumberedStatement}
use Rattle.act1_bliftext.specs.declared.statement.Statement.{Statement}
use Rattle.act1_bliftext.specs.declared.statement.Statement.TheVariants.{Inputs, Outputs, Clock, Names, Latch}
use Rattle.act1_bliftext.specs.declared.statements.Statements.{Statements}
use Rattle.act1_order.specs.Order.{LeadsTo, OnRing, Reads}
use Rattle.act1_blifread.specs.Parts.{all_of, given_names, output_names, signals_of}
use Rattle.act1_blifread.specs.Faults.{HasFault, IsFirstAt, IsFree, IsWhole, WholeBad, is_twice, node_graph}
use Rattle.act1_blifread.specs.Netlist.{latches_of, nodes_of, signal_at}
use Rattle.act1_blifread.proofs.FirstLines.{clocks_line, undriven_lines, clock_used_lines, twice_is_bad, clocks_are_bad, undriven_is_bad, clock_used_is_bad, loop_is_bad, is_whole}
use Rattle.act1_blifread.proofs.NodeGraphs.{no_loop}
use Rattle.act1_blifread.proofs.CanonicalWhole.{different_first}

-- names that differ in the whole differ up to each statement
not_twice : (ss : List NumberedStatement) → is_twice ss ≡ false → IsFree ss Twice
not_twice ss whole k low has = true≢false (sym has ∙ both (fails (are_different_numbers (all_of given_names ss) && are_different_numbers (all_of output_names ss)) whole))
  where
    fails : (b : Bool) → not b ≡ false → b ≡ true
    fails true e = refl
    fails false e = absurd (true≢false e)

    both : (are_different_numbers (all_of given_names ss) && are_different_numbers (all_of output_names ss)) ≡ true → is_twice (take (k + 1) ss) ≡ false
    both e =
        let parts = and_parts (are_different_numbers (all_of given_names ss)) (are_different_numbers (all_of output_names ss)) e in
        let a = different_first given_names ss (k + 1) parts.0 in
        let b = different_first output_names ss (k + 1) parts.1 in
        ap (λ (c : Bool). not (c && are_different_numbers (all_of output_names (take (k + 1) ss)))) a ∙ ap not b

abbrev pub at : ℕ → Statement → NumberedStatement
at line statement = record { line = line; statement = statement }

abbrev pub and_cover : Cover
and_cover = record { width = 2; output = true; rows = record { marks = One ∷ One ∷ [] } ∷ []; valid = refl }

abbrev pub copy_cover : Cover
copy_cover = record { width = 1; output = true; rows = record { marks = One ∷ [] } ∷ []; valid = refl }

-- `.inputs clk a / .outputs y / .names clk a y / 11 1 / .latch y q re clk 0 / .end`
abbrev clock_as_data : Statements
clock_as_data = record {
  model = None;
  names = codes "clk" ∷ codes "a" ∷ codes "y" ∷ codes "q" ∷ [];
  statements = at 1 (Inputs (0 ∷ 1 ∷ [])) ∷ at 2 (Outputs (2 ∷ [])) ∷ at 3 (Names (0 ∷ 1 ∷ []) 2 and_cover) ∷ at 5 (Latch 2 3 (Some 0) 0) ∷ [];
  valid = refl;
}

clock_as_data_bad : WholeBad clock_as_data 3 ClockUsed
clock_as_data_bad =
    let ss = clock_as_data.statements in
    clock_used_is_bad clock_as_data 3 (not_twice ss refl) (clocks_line ss None refl) (undriven_lines ss None refl) (clock_used_lines ss (Some 3) refl)

-- `.inputs clk a / .outputs clk / .latch a q re clk 0 / .end`
abbrev clock_shown : Statements
clock_shown = record {
  model = None;
  names = codes "clk" ∷ codes "a" ∷ codes "q" ∷ [];
  statements = at 1 (Inputs (0 ∷ 1 ∷ [])) ∷ at 2 (Outputs (0 ∷ [])) ∷ at 3 (Latch 1 2 (Some 0) 0) ∷ [];
  valid = refl;
}

clock_shown_bad : WholeBad clock_shown 2 ClockUsed
clock_shown_bad =
    let ss = clock_shown.statements in
    clock_used_is_bad clock_shown 2 (not_twice ss refl) (clocks_line ss None refl) (undriven_lines ss None refl) (clock_used_lines ss (Some 2) refl)

-- `.outputs a b / .names b a / 1 1 / .names a b / 1 1 / .names u c / 1 1 / .end`
abbrev undriven_first : Statements
undriven_first = record {
  model = None;
  names = codes "a" ∷ codes "b" ∷ codes "u" ∷ codes "c" ∷ [];
  statements = at 1 (Outputs (0 ∷ 1 ∷ [])) ∷ at 2 (Names (1 ∷ []) 0 copy_cover) ∷ at 4 (Names (0 ∷ []) 1 copy_cover) ∷ at 6 (Names (2 ∷ []) 3 copy_cover) ∷ [];
  valid = refl;
}

undriven_first_bad : WholeBad undriven_first 6 Undriven
undriven_first_bad =
    let ss = undriven_first.statements in
    undriven_is_bad undriven_first 6 (not_twice ss refl) (clocks_line ss None refl) (undriven_lines ss (Some 6) refl)

-- the same without its last `.names`
abbrev two_ring : Statements
two_ring = record {
  model = None;
  names = codes "a" ∷ codes "b" ∷ [];
  statements = at 1 (Outputs (0 ∷ 1 ∷ [])) ∷ at 2 (Names (1 ∷ []) 0 copy_cover) ∷ at 4 (Names (0 ∷ []) 1 copy_cover) ∷ [];
  valid = refl;
}

two_ring_graph : node_graph two_ring.statements ≡ (1 ∷ []) ∷ (0 ∷ []) ∷ []
two_ring_graph = refl

two_ring_first : IsFirstAt two_ring.statements Loop 2
two_ring_first = record { place = 1; there = refl; has = (refl, record { path = 1 ∷ []; leads = ((0, omega arith, refl), (0, omega arith, refl)) }); first = first }
  where
    first : (j : ℕ) → j < 1 → ¬ HasFault two_ring.statements Loop j
    first zero less h = false≢true h.0
    first (suc j) less h = absurd (omega arith)

two_ring_bad : WholeBad two_ring 2 Loop
two_ring_bad =
    let ss = two_ring.statements in
    loop_is_bad two_ring 2 (not_twice ss refl) (clocks_line ss None refl) (undriven_lines ss None refl) (clock_used_lines ss None refl) two_ring_first

-- `.names b a / .names b b`: the first reads the ring and isn't on it
abbrev own_ring : Statements
own_ring = record { model = None; names = codes "b" ∷ codes "a" ∷ []; statements = at 1 (Names (0 ∷ []) 1 copy_cover) ∷ at 2 (Names (0 ∷ []) 0 copy_cover) ∷ []; valid = refl }

own_ring_graph : node_graph own_ring.statements ≡ (1 ∷ []) ∷ (1 ∷ []) ∷ []
own_ring_graph = refl

only_one : (w : ℕ) → Contains (1 ∷ []) w → w ≡ 1
only_one w (zero, low, e) = sym e
only_one w (suc k, low, e) = absurd (omega arith)

-- from the second vertex on, only the second is reached
stays : (path : List ℕ) (w : ℕ) → LeadsTo ((1 ∷ []) ∷ (1 ∷ []) ∷ []) 1 path w → w ≡ 1
stays [] w h = only_one w h
stays (u ∷ path) w h = stays path w (subst (λ (v : ℕ). LeadsTo ((1 ∷ []) ∷ (1 ∷ []) ∷ []) v path w) (only_one u h.0) h.1)

first_is_off : OnRing ((1 ∷ []) ∷ (1 ∷ []) ∷ []) 0 → ⊥
first_is_off ring = by ring.path ring.leads
  where
    by : (path : List ℕ) → LeadsTo ((1 ∷ []) ∷ (1 ∷ []) ∷ []) 0 path 0 → ⊥
    by [] h = let e = only_one 0 h in absurd (omega arith)
    by (u ∷ path) h = let e = stays path 0 (subst (λ (v : ℕ). LeadsTo ((1 ∷ []) ∷ (1 ∷ []) ∷ []) v path 0) (only_one u h.0) h.1) in absurd (omega arith)

own_ring_first : IsFirstAt own_ring.statements Loop 2
own_ring_first = record { place = 1; there = refl; has = (refl, record { path = []; leads = (0, omega arith, refl) }); first = first }
  where
    first : (j : ℕ) → j < 1 → ¬ HasFault own_ring.statements Loop j
    first zero less h = first_is_off h.1
    first (suc j) less h = absurd (omega arith)

own_ring_bad : WholeBad own_ring 2 Loop
own_ring_bad =
    let ss = own_ring.statements in
    loop_is_bad own_ring 2 (not_twice ss refl) (clocks_line ss None refl) (undriven_lines ss None refl) (clock_used_lines ss None refl) own_ring_first

-- `.inputs c c / .clock c`
abbrev clock_input_twice : Statements
clock_input_twice = record { model = None; names = codes "c" ∷ []; statements = at 1 (Inputs (0 ∷ 0 ∷ [])) ∷ at 2 (Clock (0 ∷ [])) ∷ []; valid = refl }

clock_input_twice_bad : WholeBad clock_input_twice 1 Twice
clock_input_twice_bad = twice_is_bad clock_input_twice 1 (record { place = 0; there = refl; has = refl; first = λ j less has. absurd (omega arith) })

-- `.inputs c a / .latch a c re c`: Twice comes before ClockUsed
abbrev clock_driven : Statements
clock_driven = record { model = None; names = codes "c" ∷ codes "a" ∷ []; statements = at 1 (Inputs (0 ∷ 1 ∷ [])) ∷ at 2 (Latch 1 0 (Some 0) 3) ∷ []; valid = refl }

clock_driven_bad : WholeBad clock_driven 2 Twice
clock_driven_bad = twice_is_bad clock_driven 2 (record { place = 1; there = refl; has = refl; first = first })
  where
    first : (j : ℕ) → j < 1 → ¬ HasFault clock_driven.statements Twice j
    first zero less h = false≢true h
    first (suc j) less h = absurd (omega arith)

-- `.clock c / .inputs a / .latch a q re d`: the second clock name, though d is driven by nothing
abbrev two_clocks : Statements
two_clocks = record { model = None; names = codes "c" ∷ codes "a" ∷ codes "q" ∷ codes "d" ∷ []; statements = at 1 (Clock (0 ∷ [])) ∷ at 2 (Inputs (1 ∷ [])) ∷ at 3 (Latch 1 2 (Some 3) 3) ∷ []; valid = refl }

two_clocks_bad : WholeBad two_clocks 3 Clocks
two_clocks_bad = let ss = two_clocks.statements in clocks_are_bad two_clocks 3 (not_twice ss refl) (clocks_line ss (Some 3) refl)

-- `.model m / .inputs clk a / .outputs q d / .names q a d / 11 1 / .latch d q re clk 0 / .end`: a ring through a latch is no fault, and the clock is no input
abbrev through_latch : Statements
through_latch = record {
  model = Some (codes "m");
  names = codes "clk" ∷ codes "a" ∷ codes "q" ∷ codes "d" ∷ [];
  statements = at 2 (Inputs (0 ∷ 1 ∷ [])) ∷ at 3 (Outputs (2 ∷ 3 ∷ [])) ∷ at 4 (Names (2 ∷ 1 ∷ []) 3 and_cover) ∷ at 6 (Latch 3 2 (Some 0) 0) ∷ [];
  valid = refl;
}

none_read : (v w : ℕ) → Reads ([] ∷ []) v w → ⊥
none_read zero w (k, low, e) = absurd (omega arith)
none_read (suc v) w (k, low, e) = absurd (omega arith)

no_ring_there : (v : ℕ) → ¬ OnRing ([] ∷ []) v
no_ring_there v ring = by ring.path ring.leads
  where
    by : (path : List ℕ) → LeadsTo ([] ∷ []) v path v → ⊥
    by [] h = none_read v v h
    by (u ∷ path) h = none_read v u h.0

through_latch_whole : IsWhole through_latch.statements
through_latch_whole =
    let ss = through_latch.statements in
    is_whole ss (not_twice ss refl) (clocks_line ss None refl) (undriven_lines ss None refl) (clock_used_lines ss None refl) (no_loop ss no_ring_there)

-- input a is signal 0, latch q is 1, node d is 2
through_latch_signals : signals_of through_latch.statements ≡ 1 ∷ 2 ∷ 3 ∷ []
through_latch_signals = refl

through_latch_latches : latches_of through_latch.names (signals_of through_latch.statements) through_latch.statements ≡ record { name = codes "q"; input = 2; init = 0 } ∷ []
through_latch_latches = refl

through_latch_nodes : nodes_of through_latch.names (signals_of through_latch.statements) through_latch.statements ≡ record { name = codes "d"; inputs = 1 ∷ 0 ∷ []; cover = and_cover } ∷ []
through_latch_nodes = refl

through_latch_outputs : map (signal_at (signals_of through_latch.statements)) (all_of output_names through_latch.statements) ≡ 1 ∷ 2 ∷ []
through_latch_outputs = refl

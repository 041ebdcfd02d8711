-- The first statement that passes a test, and the first fault of the whole.
use Rattle.std.proofs.Common.{ℕ, suc, zero, ◌≡◌, ◌<◌, ◌&&◌, not, Bool, true, false, cond, List, [], ◌∷◌, length, Option, Some, None, refl, sym, ap, subst, ◌∙◌, arith}
use Rattle.std.specs.Prelude.{slice_get, option_map, find, Result, Ok, Err, IfErr, OnOk, ⊤}
use Rattle.std.specs.List.{list_all, AllByRecursion}
use Rattle.std.proofs.lemmas.Bool.{false≢true}
use Rattle.std.proofs.lemmas.List.Elements.{All-from_recursion}
use Rattle.act1_base.specs.declared.texts.Stop.{Stop}
use Rattle.act1_base.specs.declared.texts.Stop.TheVariants as stop
use Rattle.act1_bliftext.specs.declared.fault.BlifFault.{BlifFault}
use Rattle.act1_bliftext.specs.declared.fault.BlifKind.{BlifKind}
use Rattle.act1_bliftext.specs.declared.fault.BlifKind.TheVariants.{Twice, Clocks, Undriven, ClockUsed, Loop}
use Rattle.act1_bliftext.specs.declared.statement.NumberedStatement.{NumberedStatement}
use Rattle.act1_bliftext.specs.declared.statement.Statement.{Statement}
use Rattle.act1_bliftext.specs.declared.statements.Statements.{Statements}
use Rattle.act1_blifread.specs.Parts.{clock_of}
use Rattle.act1_blifread.specs.Faults.{IsFirstAt, IsFree, IsWhole, Passes, WholeBad, is_second_clock, is_undriven, is_clock_used, whole_kinds}
use Rattle.act1_blifread.specs.NetlistSteps.{IsFirstLine, Refuses, StopsAt, first_line}

abbrev line_at : List NumberedStatement → ℕ → Option ℕ
line_at ss k = option_map (λ (numbered : NumberedStatement). numbered.line) (slice_get ss k)

-- the first statement that passes
abbrev FirstPass : (Statement → Bool) → List NumberedStatement → ℕ → Type 0
FirstPass test ss line = (place : ℕ) × (line_at ss place ≡ Some line) × Passes test ss place × ((j : ℕ) → j < place → ¬ Passes test ss j)

first_pass : (test : Statement → Bool) (ss : List NumberedStatement) (line : ℕ) → first_line test ss ≡ Some line → FirstPass test ss line
first_pass test [] line e = cc
first_pass test (s ∷ ss) line e = by (test s.statement) refl (first_pass test ss line) e
  where
    by : (b : Bool) → test s.statement ≡ b → (first_line test ss ≡ Some line → FirstPass test ss line)
        → option_map (λ (numbered : NumberedStatement). numbered.line) (cond b (Some s) (find (λ (numbered : NumberedStatement). test numbered.statement) ss)) ≡ Some line → FirstPass test (s ∷ ss) line
    by true is h e = (0, e, is, λ j less. absurd (omega arith))
    by false is h e = let r = h e in (suc r.0, r.1, r.2, first r.0 r.3)
      where
        first : (p : ℕ) → ((j : ℕ) → j < p → ¬ Passes test ss j) → (j : ℕ) → j < suc p → ¬ Passes test (s ∷ ss) j
        first p f zero less has = false≢true (sym is ∙ has)
        first p f (suc j) less has = f j (omega arith) has

no_pass : (test : Statement → Bool) (ss : List NumberedStatement) → first_line test ss ≡ None → (k : ℕ) → k < length ss → ¬ Passes test ss k
no_pass test [] e k low has = absurd (omega arith)
no_pass test (s ∷ ss) e k low has = by (test s.statement) refl (no_pass test ss) e k low has
  where
    by : (b : Bool) → test s.statement ≡ b → (first_line test ss ≡ None → (k : ℕ) → k < length ss → ¬ Passes test ss k)
        → option_map (λ (numbered : NumberedStatement). numbered.line) (cond b (Some s) (find (λ (numbered : NumberedStatement). test numbered.statement) ss)) ≡ None
        → (k : ℕ) → k < length (s ∷ ss) → ¬ Passes test (s ∷ ss) k
    by true is h e k low has = cc
    by false is h e zero low has = false≢true (sym is ∙ has)
    by false is h e (suc k) low has = h e k (omega arith) has

-- where no statement passes, each fails
pub none_passes : (test : Statement → Bool) (ss : List NumberedStatement) → ((k : ℕ) → k < length ss → ¬ Passes test ss k) → list_all (λ (numbered : NumberedStatement). not (test numbered.statement)) ss ≡ true
none_passes test [] h = refl
none_passes test (s ∷ ss) h = both (not (test s.statement)) (list_all (λ (numbered : NumberedStatement). not (test numbered.statement)) ss) (fails (test s.statement) refl) (none_passes test ss (λ k low. h (suc k) (omega arith)))
  where
    fails : (b : Bool) → test s.statement ≡ b → not b ≡ true
    fails true is = absurd (h 0 (omega arith) is)
    fails false is = refl

    both : (a b : Bool) → a ≡ true → b ≡ true → (a && b) ≡ true
    both a b e f = cc

-- the first line of each kind that is a test
pub clocks_line : (ss : List NumberedStatement) (line : Option ℕ) → line ≡ first_line (is_second_clock (clock_of ss)) ss → IsFirstLine ss Clocks line
clocks_line ss None e = no_pass (is_second_clock (clock_of ss)) ss (sym e)
clocks_line ss (Some line) e = let r = first_pass (is_second_clock (clock_of ss)) ss line (sym e) in record { place = r.0; there = r.1; has = r.2; first = r.3 }

pub undriven_lines : (ss : List NumberedStatement) (line : Option ℕ) → line ≡ first_line (is_undriven ss) ss → IsFirstLine ss Undriven line
undriven_lines ss None e = no_pass (is_undriven ss) ss (sym e)
undriven_lines ss (Some line) e = let r = first_pass (is_undriven ss) ss line (sym e) in record { place = r.0; there = r.1; has = r.2; first = r.3 }

pub clock_used_lines : (ss : List NumberedStatement) (line : Option ℕ) → line ≡ first_line (is_clock_used (clock_of ss)) ss → IsFirstLine ss ClockUsed line
clock_used_lines ss None e = no_pass (is_clock_used (clock_of ss)) ss (sym e)
clock_used_lines ss (Some line) e = let r = first_pass (is_clock_used (clock_of ss)) ss line (sym e) in record { place = r.0; there = r.1; has = r.2; first = r.3 }

-- what a first line says, at the line that there is or isn't
pub line_found : (ss : List NumberedStatement) (kind other : BlifKind) (found : Option ℕ) (line : ℕ) → IsFirstLine ss kind found → found ≡ Some line → other ≡ kind → IsFirstAt ss other line
line_found ss kind other None line first e same = cc
line_found ss kind other (Some l) line first e same =
    let is : l ≡ line = cc in
    subst (λ (k : BlifKind). IsFirstAt ss k line) (sym same) (subst (λ (n : ℕ). IsFirstAt ss kind n) is first)

pub line_missing : (ss : List NumberedStatement) (kind : BlifKind) (found : Option ℕ) → IsFirstLine ss kind found → found ≡ None → IsFree ss kind
line_missing ss kind None first e = first
line_missing ss kind (Some l) first e = cc

-- the tests of two statements that agree on all of some statements have the same first line
pub first_line_same : (test other : Statement → Bool) (ss : List NumberedStatement) → AllByRecursion (λ (numbered : NumberedStatement). test numbered.statement ≡ other numbered.statement) ss → first_line test ss ≡ first_line other ss
first_line_same test other [] h = refl
first_line_same test other (s ∷ ss) h =
    ap (λ (b : Bool). option_map (λ (numbered : NumberedStatement). numbered.line) (cond b (Some s) (find (λ (numbered : NumberedStatement). test numbered.statement) ss))) h.0
    ∙ by (other s.statement) (first_line_same test other ss h.1)
  where
    by : (b : Bool) → first_line test ss ≡ first_line other ss
        → option_map (λ (numbered : NumberedStatement). numbered.line) (cond b (Some s) (find (λ (numbered : NumberedStatement). test numbered.statement) ss))
        ≡ option_map (λ (numbered : NumberedStatement). numbered.line) (cond b (Some s) (find (λ (numbered : NumberedStatement). other numbered.statement) ss))
    by true e = refl
    by false e = e

module _ (s : Statements) where
  -- the fault of each kind, where there is none of those before it
  pub twice_is_bad : (line : ℕ) → IsFirstAt s.statements Twice line → WholeBad s line Twice
  twice_is_bad line at = record { rank = 0; kind_is = refl; sooner = All-from_recursion (IsFree s.statements) [] tt; at = at }

  pub clocks_are_bad : (line : ℕ) → IsFree s.statements Twice → IsFirstAt s.statements Clocks line → WholeBad s line Clocks
  clocks_are_bad line a at = record { rank = 1; kind_is = refl; sooner = All-from_recursion (IsFree s.statements) (Twice ∷ []) (a, tt); at = at }

  pub undriven_is_bad : (line : ℕ) → IsFree s.statements Twice → IsFree s.statements Clocks → IsFirstAt s.statements Undriven line → WholeBad s line Undriven
  undriven_is_bad line a b at = record { rank = 2; kind_is = refl; sooner = All-from_recursion (IsFree s.statements) (Twice ∷ Clocks ∷ []) (a, (b, tt)); at = at }

  pub clock_used_is_bad : (line : ℕ) → IsFree s.statements Twice → IsFree s.statements Clocks → IsFree s.statements Undriven → IsFirstAt s.statements ClockUsed line → WholeBad s line ClockUsed
  clock_used_is_bad line a b c at = record { rank = 3; kind_is = refl; sooner = All-from_recursion (IsFree s.statements) (Twice ∷ Clocks ∷ Undriven ∷ []) (a, (b, (c, tt))); at = at }

  pub loop_is_bad : (line : ℕ) → IsFree s.statements Twice → IsFree s.statements Clocks → IsFree s.statements Undriven → IsFree s.statements ClockUsed → IsFirstAt s.statements Loop line → WholeBad s line Loop
  loop_is_bad line a b c d at = record { rank = 4; kind_is = refl; sooner = All-from_recursion (IsFree s.statements) (Twice ∷ Clocks ∷ Undriven ∷ ClockUsed ∷ []) (a, (b, (c, (d, tt)))); at = at }

pub is_whole : (ss : List NumberedStatement) → IsFree ss Twice → IsFree ss Clocks → IsFree ss Undriven → IsFree ss ClockUsed → IsFree ss Loop → IsWhole ss
is_whole ss a b c d e = All-from_recursion (IsFree ss) whole_kinds (a, (b, (c, (d, (e, tt)))))

-- a refusal at the first line of a kind stops at that fault, and without one no statement has it
pub refused : (s : Statements) (kind : BlifKind) (found : Option ℕ) (result : Result ⊤ (Stop BlifFault)) → IsFirstLine s.statements kind found → Refuses found kind result → ((line : ℕ) → IsFirstAt s.statements kind line → WholeBad s line kind) → IfErr result (StopsAt s)
refused s kind found (Ok u) first r bad = tt
refused s kind found (Err (stop.Fault fault)) first r bad =
    subst (λ (k : BlifKind). WholeBad s fault.line k) (sym r.1) (bad fault.line (line_found s.statements kind kind found fault.line first r.0 refl))
refused s kind found (Err stop.Memory) first r bad = absurd r

pub not_refused : (s : Statements) (kind : BlifKind) (found : Option ℕ) (result : Result ⊤ (Stop BlifFault)) → IsFirstLine s.statements kind found → Refuses found kind result → OnOk result (IsFree s.statements kind)
not_refused s kind found (Ok u) first r = line_missing s.statements kind found first r
not_refused s kind found (Err e) first r = tt
